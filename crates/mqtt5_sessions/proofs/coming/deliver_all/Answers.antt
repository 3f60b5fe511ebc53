use Rattle.std.proofs.Common.{rules}
use Rattle.mqtt5_sessions.proofs.Delivered.{delivers_next}
use Rattle.mqtt5_sessions.proofs.coming.deliver_all.Goals as goal

pub returns-in_err-publish-clause-followed : goal.returns-in_err-publish-clause-followed
returns-in_err-publish-clause-followed c = c.loop-alloc.invariant.followed

pub returns-in_err-deliver-clause-followed : goal.returns-in_err-deliver-clause-followed
returns-in_err-deliver-clause-followed c = λ x followed. c.deliver.ensures.followed x (c.loop-alloc.invariant.followed x followed)

pub returns-clause-followed : goal.returns-clause-followed
returns-clause-followed c = c.loop-alloc.invariant.followed

pub loop-alloc-preserved : goal.loop-alloc-preserved
loop-alloc-preserved c = record {
  same = search (rules, delivers_next);
  followed = λ x followed. c.deliver.ensures.followed x (c.loop-alloc.invariant.followed x followed);
}
