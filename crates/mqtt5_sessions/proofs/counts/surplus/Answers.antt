use Rattle.std.proofs.Common.{drop, sym, arith}
use Rattle.mqtt5_sessions.proofs.Shedding.{none_over}
use Rattle.mqtt5_sessions.proofs.counts.surplus.Goals as goal

pub returns-else-is_over : goal.returns-else-is_over
returns-else-is_over c =
    let none = none_over c.args.any c.args.most c.args.bytes (drop c.loop-count.count c.args.publishes.now.items) (sym c.if-is_over.ensures) in
    omega (arith, none, c.loop-count.invariant.2)
