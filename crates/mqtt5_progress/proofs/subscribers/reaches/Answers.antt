use Rattle.std.proofs.Common.{◌≡◌, ℕ, ◌&&◌, Bool, true, false, List, sym, ap, ◌∙◌, subst}
use Rattle.std.specs.List.{list_any}
use Rattle.std.specs.Str.{IsUtf8, is_utf8}
use Rattle.std.proofs.lemmas.Bool.{false_from_ne_true}
use Rattle.std.proofs.lemmas.Str.{is_utf8-from_IsUtf8, IsUtf8-from_is_utf8}
use Rattle.mqtt5_base.specs.Texts.{Utf8}
use Rattle.mqtt5_base.specs.Topics.{topic_matches}
use Rattle.mqtt5_progress.proofs.subscribers.reaches.Goals as goal

module _ (filters : List Utf8) (topic : List ℕ) where
  abbrev some : List ℕ → Bool
  some t = list_any (λ f. topic_matches t f.bytes) filters

  of_text : (t : List ℕ) (r : Bool) → t ≡ topic → IsUtf8 topic → r ≡ some t → r ≡ (is_utf8 topic && some topic)
  of_text t r e text h = h ∙ ap some e ∙ ap (λ b. b && some topic) (sym (is_utf8-from_IsUtf8 topic text))

  of_none : (IsUtf8 topic → ⊥) → false ≡ (is_utf8 topic && some topic)
  of_none none = ap (λ b. b && some topic) (sym (false_from_ne_true (is_utf8 topic) (λ t. none (IsUtf8-from_is_utf8 topic t))))

pub returns-in-Ok : goal.returns-in-Ok
returns-in-Ok c =
    let e = c.as_slice.ensures in
    of_text c.args.filters.now c.args.publish.now.topic c.in-Ok.topic.now c.any_matches.result (c.in-Ok.ensures.cases.0 ∙ e) (subst IsUtf8 e c.in-Ok.ensures.cases.1) c.any_matches.ensures

pub returns-in-Err : goal.returns-in-Err
returns-in-Err c = of_none c.args.filters.now c.args.publish.now.topic (λ text. c.in-Err.ensures.cases.0 (subst IsUtf8 (sym c.as_slice.ensures) text))
