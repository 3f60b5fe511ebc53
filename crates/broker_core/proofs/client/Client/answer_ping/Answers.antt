use Rattle.std.proofs.Common.{refl}
use Rattle.mqtt5_codec.specs.declared.packet.Packet.TheVariants as packets
use Rattle.broker_core.proofs.Sendings.{written_is_sent}
use Rattle.broker_core.proofs.client.Client.answer_ping.Goals as goal

pub returns-clause-ok : goal.returns-clause-ok
returns-clause-ok c = rw (← c.self.view_is) (written_is_sent _ _ _ (packets.PingResp (record {})) _ _ _ _ c.in_ok-write.ensures refl refl)
