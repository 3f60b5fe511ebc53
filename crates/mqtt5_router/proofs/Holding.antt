-- The identifiers of the subscriptions that hold for a publish, one after another, and whether each of these keeps its retain.
use Rattle.std.proofs.Common.{◌≡◌, ℕ, ◌+◌, ◌<◌, ◌&&◌, cond, Bool, true, false, not, List, [], ◌∷◌, ◌++◌, length, take, Option, Some, None, refl, sym, ap, ◌∙◌, slice_index_or}
use Rattle.std.specs.Prelude.{◌||◌, filter}
use Rattle.std.specs.List.{filter_map, list_all}
use Rattle.std.specs.Option.{option_to_list}
use Rattle.std.proofs.lemmas.List.{take_more}
use Rattle.std.proofs.lemmas.List.Elements.{filter-append, filter_map-append}
use Rattle.mqtt5_publish.specs.declared.publish.Publish.{Publish}
use Rattle.mqtt5_network.specs.declared.subscription.Subscription.{Subscription}
use Rattle.mqtt5_network.specs.Subscriptions.{holds_for, holding, identifiers_of, keep_retain}
use Rattle.mqtt5_router.specs.Topics.{identifier_for, keeps_retain}

-- of one alone
one_more : (own : Bool) (p : Publish) (s : Subscription) → identifiers_of (holding own (s ∷ []) p) ≡ identifier_for own p s
one_more own p s = by (holds_for own s p)
  where
    some : (o : Option ℕ) → filter_map (λ (x : Subscription). o) (s ∷ []) ≡ option_to_list o
    some None = refl
    some (Some n) = refl

    by : (b : Bool) → identifiers_of (cond b (s ∷ []) []) ≡ cond b (option_to_list s.identifier) []
    by true = some s.identifier
    by false = refl

-- of one more
pub identifiers_next : (own : Bool) (p : Publish) (ss : List Subscription) (i : ℕ) (s : Subscription) → i < length ss → s ≡ slice_index_or ss i s
    → identifiers_of (holding own (take i ss) p) ++ identifier_for own p s ≡ identifiers_of (holding own (take (i + 1) ss) p)
identifiers_next own p ss i s below is =
    ap (λ ns. identifiers_of (holding own (take i ss) p) ++ ns) (sym (one_more own p s))
    ∙ sym (filter_map-append (λ (x : Subscription). x.identifier) (holding own (take i ss) p) (holding own (s ∷ []) p))
    ∙ ap identifiers_of (sym (filter-append (λ x. holds_for own x p) (take i ss) (s ∷ [])))
    ∙ ap (λ x. identifiers_of (holding own (take i ss ++ x ∷ []) p)) is
    ∙ ap (λ xs. identifiers_of (holding own xs p)) (sym (take_more ss i s below))

-- whether each does
pub kept_all : (own : Bool) (ss : List Subscription) (p : Publish) → list_all (keeps_retain own p) ss ≡ keep_retain (holding own ss p)
kept_all own [] p = refl
kept_all own (s ∷ ss) p = by (holds_for own s p) (kept_all own ss p)
  where
    each : List Subscription → Bool
    each xs = list_all (keeps_retain own p) xs

    none : (k : Bool) → (k || false) ≡ k
    none true = refl
    none false = refl

    all : (k : Bool) → (k || true) ≡ true
    all true = refl
    all false = refl

    by : (b : Bool) → each ss ≡ keep_retain (holding own ss p) → ((s.retain_as_published || not b) && each ss) ≡ keep_retain (cond b (s ∷ holding own ss p) (holding own ss p))
    by true rest = λ n. none s.retain_as_published n && rest n
    by false rest = ap (λ k. k && each ss) (all s.retain_as_published) ∙ rest
