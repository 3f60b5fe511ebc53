use Rattle.std.proofs.Common.{◌≡◌, ◌++◌, drop}
use Rattle.mqtt5_world.specs.Twins.{all_said, after_calls, replies_of}
use Rattle.mqtt5_world.proofs.twins.run_all.Given as goal

abbrev pub invariant-loop-call : goal.invariant-loop-call
invariant-loop-call l = record {
  ok : all_said l.replies.items ++ replies_of (drop l.call-index l.calls) l.state ≡ all_said l.initial.replies.items ++ replies_of l.calls l.initial.state;
  state : after_calls (drop l.call-index l.calls) l.state ≡ after_calls l.calls l.initial.state;
}
