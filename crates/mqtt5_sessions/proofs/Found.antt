-- What is forwarded of a publish to the clients that are found by its topic is what is forwarded of it to all.
use Rattle.std.proofs.Common.{◌≡◌, ℕ, zero, suc, ◌+◌, ◌<◌, ◌≤◌, ◌==◌, cond, Bool, true, false, ◌&&◌, ◌||◌, List, [], ◌∷◌, ◌++◌, length, Option, Some, None, refl, sym, ap, subst, ◌∙◌, arith, slice_index_or}
use Rattle.std.specs.Prelude.{not, option_map, ⊤, nat_lt}
use Rattle.std.specs.Option.{option_to_list}
use Rattle.std.specs.Ordering.{nat_cmp, is_eq}
use Rattle.std.specs.declared.cmp.Ordering.TheVariants.{Less, Equal, Greater}
use Rattle.std.specs.List.{list_any, AllByRecursion}
use Rattle.std.specs.List.Sorted.{IsStrictlySortedBy}
use Rattle.std.specs.BTreeSet.{BTreeSet}
use Rattle.std.specs.BTreeMap.{is_at}
use Rattle.std.specs.Str.{is_utf8}
use Rattle.std.proofs.lemmas.Bool.{eqb-true, eqb-false, eq-eqb, ltb-true}
use Rattle.std.proofs.lemmas.Map.Keys.{sorted_head, sorted_tail}
use Rattle.mqtt5_base.specs.Grammar.{is_among}
use Rattle.mqtt5_base.specs.Topics.{topic_matches}
use Rattle.mqtt5_publish.specs.declared.publish.Publish.{Publish}
use Rattle.mqtt5_topic_index.specs.declared.index.TopicIndex.{TopicIndex}
use Rattle.mqtt5_topic_index.specs.Index.{Stands, Finds}
use Rattle.mqtt5_topic_index.proofs.Ranges.{equal_is}
use Rattle.mqtt5_network.specs.Forwarded.{greater}
use Rattle.mqtt5_network.specs.declared.subscription.Subscription.{Subscription}
use Rattle.mqtt5_network.specs.Subscriptions.{has_turn, pattern_of, holds_for, granted_for, holding, forwarded_under, forwarded_to}
use Rattle.mqtt5_sessions.specs.declared.coming.Coming.{Coming}
use Rattle.mqtt5_sessions.specs.Sessions.{ClientState, new_state}
use Rattle.mqtt5_sessions.specs.Coming.{coming_to, coming_from, coming_of, forwarded_at, coming_among}
use Rattle.mqtt5_sessions.specs.Indexed.{mark_in, marks_in, IsIndexed}
use Rattle.mqtt5_sessions.proofs.Delivered.{at_new}
use Rattle.mqtt5_sessions.proofs.Indexed.{or_left, or_right}

-- ---- what isn't found gets nothing

among_keys : (k : ℕ) (ks : List ℕ) → list_any (is_at (nat_cmp k)) ks ≡ true → is_among ks k ≡ true
among_keys k [] h = h
among_keys k (q ∷ qs) h = by (is_eq (nat_cmp k q)) refl h (among_keys k qs)
  where
    by : (b : Bool) → is_eq (nat_cmp k q) ≡ b → (b || list_any (is_at (nat_cmp k)) qs) ≡ true → (list_any (is_at (nat_cmp k)) qs ≡ true → is_among qs k ≡ true) → (k == q || is_among qs k) ≡ true
    by true is h on = or_left (k == q) (is_among qs k) (eq-eqb k q (equal_is k q is))
    by false is h on = or_right (k == q) (is_among qs k) (on h)

-- a subscription that holds for a publish has a filter that its topic matches
holds_matches : (own : Bool) (s : Subscription) (p : Publish) → holds_for own s p ≡ true → topic_matches p.topic (pattern_of s).bytes ≡ true
holds_matches own s p h = by (has_turn s.share) (not (own && s.no_local)) (is_utf8 p.topic) (topic_matches p.topic (pattern_of s).bytes) h
  where
    by : (a b c d : Bool) → (a && (b && (c && (d || false)))) ≡ true → d ≡ true
    by true true true true h = refl
    by true true true false h = h
    by true true false d h = absurd cc
    by true false c d h = absurd cc
    by false b c d h = absurd cc

module _ (x : TopicIndex) (found : BTreeSet ℕ) (p : Publish) (finds : Finds x p.topic found) (k : ℕ) (absent : is_among found.keys k ≡ false) (own : Bool) where
  granted_none : (ss : List Subscription) → ((m : ℕ) → is_among (marks_in ss) m ≡ true → Stands x m k) → granted_for own ss p ≡ None
  granted_none [] stands = refl
  granted_none (s ∷ ss) stands = by (holds_for own s p) refl (granted_none ss (λ m h. stands m (or_right (m == mark_in s) (is_among (marks_in ss) m) h)))
    where
      by : (b : Bool) → holds_for own s p ≡ b → granted_for own ss p ≡ None → cond b (Some (greater s.granted (granted_for own ss p))) (granted_for own ss p) ≡ None
      by false is none = none
      by true is none =
          let stood = stands (mark_in s) (or_left (mark_in s == mark_in s) (is_among (marks_in ss) (mark_in s)) (eq-eqb (mark_in s) (mark_in s) refl)) in
          let there = among_keys k found.keys (finds (pattern_of s).bytes k (holds_matches own s p is) stood) in
          let no : false ≡ true = sym absent ∙ there in
          absurd cc

  forwarded_none : (ss : List Subscription) → ((m : ℕ) → is_among (marks_in ss) m ≡ true → Stands x m k) → forwarded_to own ss p ≡ None
  forwarded_none ss stands = ap (option_map (λ q. forwarded_under (holding own ss p) q p)) (granted_none ss stands)

-- ---- some in order, and all

-- of some numbers
abbrev some_of : (ℕ → Option Publish) → List ℕ → List Coming
some_of f [] = []
some_of f (k ∷ ks) = coming_to k (option_to_list (f k)) ++ some_of f ks

-- of so many from one on
abbrev all_of : (ℕ → Option Publish) → ℕ → ℕ → List Coming
all_of f j zero = []
all_of f j (suc n) = coming_to j (option_to_list (f j)) ++ all_of f (suc j) n

-- numbers that rise, from one on
abbrev Rises : ℕ → List ℕ → Type 0
Rises j [] = ⊤
Rises j (k ∷ ks) = (j ≤ k) × Rises (suc k) ks

less_is : (a b : ℕ) → nat_cmp a b ≡ Less → a < b
less_is a b h = by (nat_lt a b) (a == b) refl h
  where
    by : (l e : Bool) → nat_lt a b ≡ l → cond l Less (cond e Equal Greater) ≡ Less → a < b
    by true e is h = ltb-true a b is
    by false true is h = absurd cc
    by false false is h = absurd cc

sorted_rises : (j : ℕ) (ks : List ℕ) → IsStrictlySortedBy nat_cmp ks → AllByRecursion (λ k. j ≤ k) ks → Rises j ks
sorted_rises j [] sorted above = tt
sorted_rises j (k ∷ ks) sorted above = (above.0, sorted_rises (suc k) ks (sorted_tail nat_cmp k ks sorted) (by ks (sorted_head nat_cmp k ks sorted)))
  where
    by : (ks : List ℕ) → AllByRecursion (λ y. nat_cmp k y ≡ Less) ks → AllByRecursion (λ y. suc k ≤ y) ks
    by [] all = tt
    by (y ∷ ys) all = (let less = less_is k y all.0 in omega (arith, less), by ys all.1)

all_zero : (ks : List ℕ) → AllByRecursion (λ k. 0 ≤ k) ks
all_zero [] = tt
all_zero (k ∷ ks) = (omega arith, all_zero ks)

-- one below isn't among them
never_below : (j k : ℕ) (ks : List ℕ) → Rises j ks → k < j → is_among ks k ≡ false
never_below j k [] rises below = refl
never_below j k (q ∷ qs) rises below = by (k == q) refl (never_below (suc q) k qs rises.1 (omega (arith, rises.0, below)))
  where
    by : (b : Bool) → (k == q) ≡ b → is_among qs k ≡ false → (b || is_among qs k) ≡ false
    by true is none = absurd (omega (arith, rises.0, below, eqb-true k q is))
    by false is none = none

module _ (f : ℕ → Option Publish) where
  none_of : (j : ℕ) (ks : List ℕ) → Rises j ks → ((k : ℕ) → j ≤ k → f k ≡ None) → some_of f ks ≡ []
  none_of j [] rises none = refl
  none_of j (k ∷ ks) rises none =
      ap (λ o. coming_to k (option_to_list o) ++ some_of f ks) (none k rises.0)
      ∙ none_of (suc k) ks rises.1 (λ q over. none q (omega (arith, over, rises.0)))

  some_is_all : (n j : ℕ) (ks : List ℕ) → Rises j ks → ((k : ℕ) → j ≤ k → is_among ks k ≡ false → f k ≡ None) → ((k : ℕ) → j + n ≤ k → f k ≡ None)
      → some_of f ks ≡ all_of f j n
  some_is_all zero j ks rises none past = none_of j ks rises (λ k over. past k (omega (arith, over)))
  some_is_all (suc n) j [] rises none past =
      some_is_all n (suc j) [] tt (λ k over absent. none k (omega (arith, over)) absent) (λ k over. past k (omega (arith, over)))
      ∙ ap (λ o. coming_to j (option_to_list o) ++ all_of f (suc j) n) (sym (none j (omega arith) refl))
  some_is_all (suc n) j (k ∷ ks) rises none past = by (k == j) refl (λ qs rises none. some_is_all n (suc j) qs rises none (λ q over. past q (omega (arith, over))))
    where
      by : (b : Bool) → (k == j) ≡ b
          → ((qs : List ℕ) → Rises (suc j) qs → ((q : ℕ) → suc j ≤ q → is_among qs q ≡ false → f q ≡ None) → some_of f qs ≡ all_of f (suc j) n)
          → coming_to k (option_to_list (f k)) ++ some_of f ks ≡ coming_to j (option_to_list (f j)) ++ all_of f (suc j) n
      by true is on =
          let same : k ≡ j = eqb-true k j is in
          ap (λ q. coming_to q (option_to_list (f q)) ++ some_of f ks) same
          ∙ ap (λ es. coming_to j (option_to_list (f j)) ++ es)
          (on ks (subst (λ q. Rises (suc q) ks) same rises.1) (λ q over absent. none q (omega (arith, over)) (other q over absent)))
        where
          other : (q : ℕ) → suc j ≤ q → is_among ks q ≡ false → (q == k || is_among ks q) ≡ false
          other q over absent = by_test (q == k) refl
            where
              by_test : (t : Bool) → (q == k) ≡ t → (t || is_among ks q) ≡ false
              by_test true at = absurd (omega (arith, over, eqb-true q k at, eqb-true k j is))
              by_test false at = absent
      by false is on =
          let over : suc j ≤ k = omega (arith, rises.0, eqb-false k j is) in
          on (k ∷ ks) (over, rises.1) (λ q past absent. none q (omega (arith, past)) absent)
          ∙ ap (λ o. coming_to j (option_to_list o) ++ all_of f (suc j) n) (sym (none j (omega arith) (never_below (suc j) j (k ∷ ks) (over, rises.1) (omega arith))))

-- ---- clients

among_is : (i : ℕ) (p : Publish) (cs : List ClientState) (ks : List ℕ) → coming_among i p cs ks ≡ some_of (forwarded_at i p cs) ks
among_is i p cs [] = refl
among_is i p cs (k ∷ ks) = ap (λ es. coming_to k (option_to_list (forwarded_at i p cs k)) ++ es) (among_is i p cs ks)

from_is : (f : ℕ → Option Publish) (own : ℕ → Bool) (p : Publish) (j : ℕ) (cs : List ClientState)
    → ((k n : ℕ) → k ≡ j + n → n < length cs → f k ≡ forwarded_to (own k) (slice_index_or cs n (new_state 0)).kept.subscriptions p)
    → all_of f j (length cs) ≡ coming_from j own p cs
from_is f own p j [] is = refl
from_is f own p j (c ∷ cs) is =
    ap (λ o. coming_to j (option_to_list o) ++ all_of f (suc j) (length cs)) (is j 0 (omega arith) (omega arith))
    ∙ ap (λ es. coming_to j (option_to_list (forwarded_to (own j) c.kept.subscriptions p)) ++ es)
    (from_is f own p (suc j) cs (λ k n at below. is k (suc n) (omega (arith, at)) (omega (arith, below))))

past_new : (k : ℕ) (cs : List ClientState) → length cs ≤ k → slice_index_or cs k (new_state 0) ≡ new_state 0
past_new k [] past = refl
past_new zero (c ∷ cs) past = absurd (omega (arith, past))
past_new (suc k) (c ∷ cs) past = past_new k cs (omega (arith, past))

pub all_found : (x : TopicIndex) (found : BTreeSet ℕ) (i : ℕ) (p : Publish) (cs : List ClientState) → IsStrictlySortedBy nat_cmp found.keys → Finds x p.topic found → IsIndexed x cs
    → coming_among i p cs found.keys ≡ coming_of i p cs
all_found x found i p cs sorted finds indexed =
    among_is i p cs found.keys
    ∙ some_is_all (forwarded_at i p cs) (length cs) 0 found.keys (sorted_rises 0 found.keys sorted (all_zero found.keys))
    (λ k over absent. forwarded_none x found p finds k absent (k == i) (slice_index_or cs k (new_state 0)).kept.subscriptions (indexed k))
    (λ k past. ap (λ (c : ClientState). forwarded_to (k == i) c.kept.subscriptions p) (past_new k cs (omega (arith, past))))
    ∙ from_is (forwarded_at i p cs) (λ k. k == i) p 0 cs (λ k n at below. ap (λ m. forwarded_to (k == i) (slice_index_or cs m (new_state 0)).kept.subscriptions p) (omega (arith, at)))

-- to one that is asked
pub forwarded_past : (i : ℕ) (p : Publish) (cs : List ClientState) (k : ℕ) → length cs ≤ k → forwarded_at i p cs k ≡ None
forwarded_past i p cs k past = ap (λ (c : ClientState). forwarded_to (k == i) c.kept.subscriptions p) (past_new k cs past)

pub forwarded_there : (i : ℕ) (p : Publish) (cs : List ClientState) (k : ℕ) (c : ClientState) (o : Option Publish) → k < length cs → c ≡ slice_index_or cs k c → o ≡ forwarded_to (k == i) c.kept.subscriptions p → o ≡ forwarded_at i p cs k
forwarded_there i p cs k c o below is made = made ∙ ap (λ (c : ClientState). forwarded_to (k == i) c.kept.subscriptions p) (at_new k cs c below is)
