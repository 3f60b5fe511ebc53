use Rattle.std.proofs.Common.{ap, None}
use Rattle.mqtt5_codec.specs.declared.packet.Packet.TheVariants as packets
use Rattle.broker_core.proofs.Sendings.{written_is_sent}
use Rattle.broker_core.proofs.client.Client.subscribe.Goals as goal

pub returns-clause-ok : goal.returns-clause-ok
returns-clause-ok c =
    let acked = ap (λ rs. packets.SubAck (record { pkid = c.args.subscribe.now.pkid; return_codes = rs; properties = None })) c.in_ok-reasons.ensures in
    rw (← c.self.view_is) (written_is_sent _ _ _ _ _ _ _ _ c.in_ok-write.ensures c.in_ok-keep.ensures.ok acked)
