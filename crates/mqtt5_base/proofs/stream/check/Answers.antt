use Rattle.std.proofs.Common.{◌≡◌}
use Rattle.mqtt5_base.proofs.FrontLemmas.{header_checks}
use Rattle.mqtt5_base.proofs.stream.check.Goals.{in-Some+else-n-max, in_default}
use Rattle.mqtt5_base.proofs.stream.check.Goals as goal

pub returns-else-rest-count : goal.returns-else-rest-count
returns-else-rest-count c =
    header_checks
    c.args.max_packet_size
    c.args.stream.now
    c.new.result
    c.in_ok-count-in-len1-up.count
    c.in_ok-count-in-len1-up.n
    c.in-len1-up.len_at_least
    c.new.ensures.first
    c.new.ensures.header
    c.new.ensures.remaining
    c.in_ok-count-in-len1-up.ensures.value
    c.if-rest-count.false
    (elim c.match-max_packet_size.branch [
      | in-Some+else-n-max w ↦ λ max is. let same : w.in-Some.max ≡ max = cc (w.in-Some.is) in rw (← same) w.if-n-max.false
      | in_default w ↦ λ max is. absurd (w.in_default.not-Some max is)
    ])
