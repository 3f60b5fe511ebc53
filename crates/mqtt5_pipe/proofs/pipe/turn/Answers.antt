use Rattle.std.proofs.Common.{drop}
use Rattle.mqtt5_pipe.proofs.Joined.{limited}
use Rattle.mqtt5_pipe.proofs.pipe.turn.Goals as goal

pub returns-clause-carried : goal.returns-clause-carried
returns-clause-carried g c =
    let (came, sent, consumed, appended, left, count) = c.turn_once-turned.ensures.carried in
    (came, sent, consumed, appended, rw c.take_limit.ensures (limited c.turn_once-turned.result c.args.client.now c.turn_once-turned.new.client (drop c.len-told.result c.turn_once-turned.new.client.state.events) _ sent left), count)
