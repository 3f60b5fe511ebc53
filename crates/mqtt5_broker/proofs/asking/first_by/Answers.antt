use Rattle.std.proofs.Common.{Some, ◌∙◌}
use Rattle.std.proofs.lemmas.Result.{err_from_is_err_and}
use Rattle.mqtt5_broker.proofs.Asked.{by_packet, by_fault}
use Rattle.mqtt5_broker.proofs.asking.first_by.Goals as goal

pub returns-in_err-packet-clause-fault : goal.returns-in_err-packet-clause-fault
returns-in_err-packet-clause-fault c =
    let p = err_from_is_err_and c.from_residual-in_err-packet.result c.from_residual-in_err-packet.ensures.1 in
    rw (p.1, p.2) (by_fault (Some c.args.longest) (c.front_laws.ensures.stays (Some c.args.longest)) c.frame_laws.ensures c.args.held.now.items c.in_ok-stream.stream.items c.decode.new.stream.items (c.in_ok-stream.ensures ∙ c.as_slice.ensures) _ c.in_err-packet.ensures.decodes)

pub returns-in-Some-clause-ok : goal.returns-in-Some-clause-ok
returns-in-Some-clause-ok c =
    c.sent_by.ensures ∙ by_packet (Some c.args.longest) (c.front_laws.ensures.stays (Some c.args.longest)) c.frame_laws.ensures c.args.held.now.items c.in_ok-stream.stream.items c.decode.new.stream.items (c.in_ok-stream.ensures ∙ c.as_slice.ensures) c.in-Some.packet (rw c.in-Some.is at c.in_ok-packet.ensures.decodes)
