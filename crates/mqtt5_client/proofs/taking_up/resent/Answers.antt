use Rattle.std.proofs.Common.{◌≡◌, [], sym, ◌∙◌}
use Rattle.std.proofs.lemmas.List.{nil_from_length}
use Rattle.mqtt5_client.specs.Resending.{all_fitting}
use Rattle.mqtt5_client.proofs.TakingUp.{sends_on, gives_on, not_framed}
use Rattle.mqtt5_client.proofs.taking_up.resent.Goals as goal

pub loop-request-preserved : goal.loop-request-preserved
loop-request-preserved c =
    let here = rw c.in-Some.ensures.steps.0 at c.loop-request.invariant in
    record {
      sends = sends_on c.args.codec.now c.in-Some.request c.next.new.self.rest.items c.args.at c.loop-request.state c.send_one.new.state c.loop-request.fault c.send_one.new.fault c.loop-request.frames.items c.send_one.new.frames.items
          (all_fitting c.args.codec.now c.args.requests.items c.args.state.now c.args.at) c.in_ok-send_one.ensures.sent here.sends;
      gives = gives_on c.args.codec.now c.in-Some.request c.next.new.self.rest.items _ _ _ c.in_ok-send_one.ensures.given here.gives;
    }

pub returns-in-Some-fault-clause-err : goal.returns-in-Some-fault-clause-err
returns-in-Some-fault-clause-err c =
    let none : c.loop-request.request-iterator.rest.items ≡ [] = nil_from_length c.loop-request.request-iterator.rest.items (sym c.loop-request.request-iterator.rest.ok.0 ∙ c.in-None.ensures.steps.0) in
    not_framed c.args.codec.now c.args.requests.items c.args.state.now c.loop-request.state c.args.at c.loop-request.frames.items c.in-Some-fault.fault (rw (none, c.in-Some-fault.is) at c.loop-request.invariant.sends)
