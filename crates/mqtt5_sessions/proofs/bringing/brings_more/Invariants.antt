use Rattle.std.proofs.Common.{◌≡◌, nat_lt, drop}
use Rattle.mqtt5_sessions.specs.Bringing.{brought}
use Rattle.mqtt5_sessions.proofs.bringing.brings_more.Given as goal

abbrev pub invariant-loop-k : goal.invariant-loop-k
invariant-loop-k l = nat_lt l.left (brought l.retained l.subscriptions (drop l.k l.filters)) ≡ nat_lt l.most (brought l.retained l.subscriptions l.filters)
