use Rattle.std.proofs.Common.{◌≡◌, ℕ, Bool, List, Bor, MatchResult, Result, inl, inr, sym, ap, subst, ◌∙◌, drop}
use Rattle.std.proofs.lemmas.List.{take_rest}
use Rattle.mqtt5_base.specs.Topics.{levels, match_levels}
use Rattle.mqtt5_base.specs.Walk.{match_behind}
use Rattle.mqtt5_base.proofs.Walk.{by_hash, by_plus, by_literal}
use Rattle.mqtt5_base.proofs.mqttbytes.next_levels.Goals.{else-begins_with_level-2-via-then-begins_with_level-2+else-not-begins_with_level, else-begins_with_level-2-via-else-begins_with_level-2}
use Rattle.mqtt5_base.proofs.mqttbytes.next_levels.Goals as goal

-- what the rest says is said of the whole
told : (r : Result (Bor (List ℕ) × Bor (List ℕ)) Bool) (a b : Bool) → a ≡ b
    → MatchResult r (λ left. match_levels (levels left.0.now) (levels left.1.now) ≡ a) (λ matches. matches ≡ a)
    → MatchResult r (λ left. match_levels (levels left.0.now) (levels left.1.now) ≡ b) (λ matches. matches ≡ b)
told r a b e = subst (λ (x : Bool). MatchResult r (λ left. match_levels (levels left.0.now) (levels left.1.now) ≡ x) (λ matches. matches ≡ x)) e

pub returns-then-begins_with_level-clause-value : goal.returns-then-begins_with_level-clause-value
returns-then-begins_with_level-clause-value c = by_hash c.args.topic.now c.args.filter.now (sym c.if-begins_with_level.ensures)

pub returns-then-not-begins_with_level-clause-value : goal.returns-then-not-begins_with_level-clause-value
returns-then-not-begins_with_level-clause-value c =
    told _ _ _
    ((λ i. match_behind (take_rest c.args.topic.now c.level_len.result i) (take_rest c.args.filter.now 1 i))
    ∙ ap (λ n. match_behind (drop n c.args.topic.now) (drop 1 c.args.filter.now)) c.level_len.ensures.value
    ∙ by_plus c.args.topic.now c.args.filter.now (sym c.if-begins_with_level.ensures) (sym c.if-begins_with_level-2.ensures) (sym c.if-not-begins_with_level.ensures))
    c.left_behind.ensures.value

pub returns-clause-value : goal.returns-clause-value
returns-clause-value c =
    let t = c.args.topic.now in
    let f = c.args.filter.now in
    told _ _ _
    ((λ i. match_behind (take_rest t c.common_len-len.result i) (take_rest f c.common_len-len.result i))
    ∙ ap (λ n. match_behind (drop n t) (drop n f)) c.common_len-len.ensures.value
    ∙ by_literal t f (sym c.if-begins_with_level.ensures)
    (elim c.else-begins_with_level-2.branch [
      | else-begins_with_level-2-via-then-begins_with_level-2+else-not-begins_with_level w ↦ inr (sym w.if-not-begins_with_level.ensures)
      | else-begins_with_level-2-via-else-begins_with_level-2 w ↦ inl (sym w.if-begins_with_level-2.ensures)
    ]))
    c.left_behind-2.ensures.value
