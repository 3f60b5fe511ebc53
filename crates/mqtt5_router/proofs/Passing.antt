-- What is granted for a topic, subscription by subscription, and for a publish to it.
use Rattle.std.proofs.Common.{◌≡◌, ℕ, suc, ◌+◌, ◌<◌, ◌≤◌, ◌&&◌, cond, Bool, true, false, not, List, [], ◌∷◌, length, drop, Some, None, refl, sym, ap, ◌∙◌, add-one, slice_index_or}
use Rattle.std.specs.Prelude.{◌||◌}
use Rattle.std.proofs.Math.Seq.{drop-cons}
use Rattle.std.proofs.lemmas.List.{drop_all}
use Rattle.std.specs.Str.{is_utf8}
use Rattle.mqtt5_base.specs.Topics.{topic_matches}
use Rattle.mqtt5_publish.specs.declared.publish.Publish.{Publish}
use Rattle.mqtt5_network.specs.Forwarded.{greater}
use Rattle.mqtt5_network.specs.declared.subscription.Subscription.{Subscription}
use Rattle.mqtt5_network.specs.Subscriptions.{has_turn, pattern_of, holds_for, granted_for}
use Rattle.mqtt5_router.specs.Topics.{holds_to, granted_to}

pub granted_none : (own : Bool) (ss : List Subscription) (n : ℕ) (t : List ℕ) → length ss ≤ n → granted_to own (drop n ss) t ≡ granted_to own [] t
granted_none own ss n t past = ap (λ ss. granted_to own ss t) (drop_all n ss past)

pub granted_more : (own : Bool) (ss : List Subscription) (n m : ℕ) (s : Subscription) (t : List ℕ) → m ≡ n + 1 → n < length ss → s ≡ slice_index_or ss n s
    → granted_to own (drop n ss) t ≡ cond (holds_to own s t) (Some (greater s.granted (granted_to own (drop m ss) t))) (granted_to own (drop m ss) t)
granted_more own ss n m s t next below is =
    ap (λ ss. granted_to own ss t) (drop-cons ss n s below ∙ ap (λ x. x ∷ drop (suc n) ss) (sym is) ∙ ap (λ k. s ∷ drop k ss) (sym (next ∙ add-one n)))

-- ---- of a publish

pub holds_text : (own : Bool) (s : Subscription) (p : Publish) → is_utf8 p.topic ≡ true → holds_for own s p ≡ holds_to own s p.topic
holds_text own s p text =
    ap (λ b. has_turn s.share && (not (own && s.no_local) && (b && (topic_matches p.topic (pattern_of s).bytes || false)))) text
    ∙ ap (λ b. has_turn s.share && (not (own && s.no_local) && b)) (same (topic_matches p.topic (pattern_of s).bytes))
  where
    same : (b : Bool) → (b || false) ≡ b
    same true = refl
    same false = refl

-- whose topic is text
pub granted_text : (own : Bool) (ss : List Subscription) (p : Publish) → is_utf8 p.topic ≡ true → granted_for own ss p ≡ granted_to own ss p.topic
granted_text own [] p text = refl
granted_text own (s ∷ ss) p text =
    ap (λ b. cond b (Some (greater s.granted (granted_for own ss p))) (granted_for own ss p)) (holds_text own s p text)
    ∙ ap (λ o. cond (holds_to own s p.topic) (Some (greater s.granted o)) o) (granted_text own ss p text)

pub holds_never : (own : Bool) (s : Subscription) (p : Publish) → is_utf8 p.topic ≡ false → holds_for own s p ≡ false
holds_never own s p none = ap (λ b. has_turn s.share && (not (own && s.no_local) && (b && (topic_matches p.topic (pattern_of s).bytes || false)))) none ∙ never (has_turn s.share) (not (own && s.no_local))
  where
    never : (a b : Bool) → (a && (b && false)) ≡ false
    never true true = refl
    never true false = refl
    never false b = refl

-- and whose topic isn't
pub granted_never : (own : Bool) (ss : List Subscription) (p : Publish) → is_utf8 p.topic ≡ false → granted_for own ss p ≡ None
granted_never own [] p none = refl
granted_never own (s ∷ ss) p none =
    ap (λ b. cond b (Some (greater s.granted (granted_for own ss p))) (granted_for own ss p)) (holds_never own s p none)
    ∙ granted_never own ss p none
