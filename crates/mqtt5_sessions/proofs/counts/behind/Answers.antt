use Rattle.std.proofs.Common.{◌≡◌, ◌<◌, drop, get_or, ap, ◌∙◌, arith}
use Rattle.mqtt5_sessions.specs.Counts.{size_of, sizes_after}
use Rattle.mqtt5_sessions.proofs.Shedding.{behind_part}
use Rattle.mqtt5_sessions.proofs.counts.behind.Goals as goal

pub overflow_sub-result : goal.overflow_sub-result
overflow_sub-result c =
    let all : sizes_after 0 (drop c.args.at c.args.publishes.now.items) < 18446744073709551615 = omega (arith, c.ranges.sum.fits, c.requires.sum, c.if-sum-eq18446744073709551615.false) in
    let part = behind_part c.args.publishes.now.items c.args.at c.index.result.now c.requires.here all in
    let size : c.size.result ≡ size_of (get_or c.args.publishes.now.items c.args.at c.index.result.now) = c.size.ensures ∙ ap size_of c.index.ensures in
    omega (arith, part, size, c.requires.sum)

pub returns : goal.returns
returns c =
    let all : sizes_after 0 (drop c.args.at c.args.publishes.now.items) < 18446744073709551615 = omega (arith, c.ranges.sum.fits, c.requires.sum, c.if-sum-eq18446744073709551615.false) in
    let part = behind_part c.args.publishes.now.items c.args.at c.index.result.now c.requires.here all in
    let size : c.size.result ≡ size_of (get_or c.args.publishes.now.items c.args.at c.index.result.now) = c.size.ensures ∙ ap size_of c.index.ensures in
    omega (arith, part, size, c.requires.sum)
