use Rattle.std.proofs.Common.{drop}
use Rattle.mqtt5_pipe.proofs.Joined.{limited}
use Rattle.mqtt5_pipe.proofs.pipe.run_to_end.Goals as goal

pub returns-clause-carried : goal.returns-clause-carried
returns-clause-carried g c =
    let (came, sent, consumed, appended, left) = c.turns_to_end-ended.ensures.carried in
    (came, sent, consumed, appended, rw c.take_limit.ensures (limited c.turns_to_end-ended.result c.args.client.now c.turns_to_end-ended.new.client (drop c.len-told.result c.turns_to_end-ended.new.client.state.events) _ sent left))
