-- The copies of one more retained message.
use Rattle.std.proofs.Common.{◌≡◌, ℕ, ◌+◌, ◌<◌, List, [], ◌∷◌, ◌++◌, take, drop, length, Option, Some, None, refl, sym, ap, ◌∙◌, append_assoc, slice_index_or}
use Rattle.std.specs.List.{filter_map}
use Rattle.std.specs.Option.{option_to_list}
use Rattle.std.proofs.lemmas.List.{take_more}
use Rattle.std.proofs.lemmas.List.Elements.{filter_map-append}
use Rattle.mqtt5_publish.specs.declared.publish.Publish.{Publish}
use Rattle.mqtt5_subscribe.specs.declared.filter.Filter.{Filter}
use Rattle.mqtt5_network.specs.declared.subscription.Subscription.{Subscription}
use Rattle.mqtt5_network.specs.Retained.{copy_for, copies_all}

-- of one alone
one_more : (f : Publish → Option Publish) (x : Publish) → filter_map f (x ∷ []) ≡ option_to_list (f x)
one_more f x = by (f x)
  where
    by : (o : Option Publish) → filter_map (λ (y : Publish). o) (x ∷ []) ≡ option_to_list o
    by None = refl
    by (Some p) = refl

-- what a function finds in one publish more
pub found_next : (f : Publish → Option Publish) (ps : List Publish) (i : ℕ) (x : Publish) → i < length ps → x ≡ slice_index_or ps i x
    → filter_map f (take (i + 1) ps) ≡ filter_map f (take i ps) ++ option_to_list (f x)
found_next f ps i x below is =
    ap (filter_map f) (take_more ps i x below)
    ∙ filter_map-append f (take i ps) (slice_index_or ps i x ∷ [])
    ∙ ap (λ y. filter_map f (take i ps) ++ filter_map f (y ∷ [])) (sym is)
    ∙ ap (λ qs. filter_map f (take i ps) ++ qs) (one_more f x)

-- behind what there is
pub copies_next : (s : Subscription) (all : List Publish) (ps : List Publish) (i : ℕ) (x : Publish) → i < length ps → x ≡ slice_index_or ps i x
    → (all ++ filter_map (copy_for s) (take i ps)) ++ option_to_list (copy_for s x) ≡ all ++ filter_map (copy_for s) (take (i + 1) ps)
copies_next s all ps i x below is =
    append_assoc all (filter_map (copy_for s) (take i ps)) (option_to_list (copy_for s x))
    ∙ ap (λ qs. all ++ qs) (sym (found_next (copy_for s) ps i x below is))

-- how far the copies for filters are made: those that there are, and those of the rest, are all
abbrev pub Copied : List Publish → Option ℕ → List Filter → ℕ → List Subscription → List Publish → List Subscription → Type 0
Copied kept k fs n before all now = all ++ copies_all kept k (drop n fs) now ≡ copies_all kept k fs before
