use Rattle.std.proofs.Common.{Some}
use Rattle.std.proofs.lemmas.Result.{err_from_is_err_and}
use Rattle.mqtt5_broker.proofs.Taking.{one_more, no_more, at_fault}
use Rattle.mqtt5_broker.proofs.broker.Broker.take_frames.Goals as goal

pub returns-in_err-packet-clause-fault : goal.returns-in_err-packet-clause-fault
returns-in_err-packet-clause-fault c =
    let p = err_from_is_err_and c.from_residual.result c.from_residual.ensures.1 in
    rw (p.1, p.2) (at_fault (Some c.args.longest) (c.front_laws.ensures.found (Some c.args.longest)) (c.front_laws.ensures.stays (Some c.args.longest)) c.frame_laws.ensures c.args.connection c.args.self.now c.args.stream.now.items c.loop-packet.stream.items c.decode.new.stream.items c.loop-packet.self c.loop-packet.invariant _ c.in_err-packet.ensures.decodes)

pub loop-packet-preserved : goal.loop-packet-preserved
loop-packet-preserved c =
    one_more (Some c.args.longest) (c.front_laws.ensures.found (Some c.args.longest)) (c.front_laws.ensures.stays (Some c.args.longest)) c.frame_laws.ensures c.args.connection c.args.self.now c.args.stream.now.items c.loop-packet.stream.items c.decode.new.stream.items c.loop-packet.self c.loop-packet.invariant c.in-Some.packet c.take.new.self (rw c.in-Some.is at c.in_ok-packet.ensures.decodes) c.in-Ok.ensures.ok

pub returns-clause-more : goal.returns-clause-more
returns-clause-more c =
    no_more (Some c.args.longest) (c.front_laws.ensures.found (Some c.args.longest)) (c.front_laws.ensures.stays (Some c.args.longest)) c.frame_laws.ensures c.args.connection c.args.self.now c.args.stream.now.items c.loop-packet.stream.items c.decode.new.stream.items c.loop-packet.self c.loop-packet.invariant (rw c.in_default.is at c.in_ok-packet.ensures.decodes)
