use Rattle.std.proofs.Common.{◌≡◌, Bool, MatchResult, ap, subst, ◌∙◌, drop, arith}
use Rattle.std.proofs.lemmas.List.{take_rest}
use Rattle.mqtt5_base.specs.Topics.{levels, are_valid}
use Rattle.mqtt5_base.specs.Walk.{valid_behind}
use Rattle.mqtt5_base.proofs.ValidWalk.{by_plain}
use Rattle.mqtt5_base.proofs.mqttbytes.next_level.Goals as goal

pub returns-in_default-clause-value : goal.returns-in_default-clause-value
returns-in_default-clause-value c =
    let f = c.args.filter.now in
    subst (λ (valid : Bool). MatchResult c.behind_plain.result (λ left. are_valid (levels left.now) ≡ valid) (λ v. v ≡ valid))
    (ap valid_behind (take_rest f c.plain_len.result) ∙ ap (λ n. valid_behind (drop n f)) c.plain_len.ensures.value ∙ by_plain f (λ one is. grind arith) (λ one is. grind arith) (λ more is slash. grind arith))
    c.behind_plain.ensures.value
