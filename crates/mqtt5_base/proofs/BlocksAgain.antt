-- A property block that is written is read again, as its tidy set.
use Rattle.std.proofs.Common.{◌≡◌, ℕ, zero, suc, ◌+◌, ◌%◌, ◌/◌, ◌<◌, ◌≤◌, Bool, true, false, ◌&&◌, ◌||◌, not, cond, eqb, ltb, List, [], ◌∷◌, ◌++◌, length, take, drop, Option, Some, None, option_map, Result, Ok, Err, refl, sym, ap, ◌∙◌, append_assoc, arith, length-append}
use Rattle.std.proofs.lemmas.Bool.{le-ltb, eqb-true, ltb-true, false≢true}
use Rattle.std.proofs.lemmas.List.{nil_from_length}
use Rattle.mqtt5_base.specs.declared.error.Error.{Error}
use Rattle.mqtt5_base.specs.declared.error.Error.TheVariants.{BoundaryCrossed}
use Rattle.mqtt5_base.specs.VarInt.{var_int, var_int_in}
use Rattle.mqtt5_base.specs.Grammar.{Kind, Atom, Entry, Found, allows, kinds, entry_of}
use Rattle.mqtt5_base.specs.Reading.{◌>>=◌, none_of, atom_of_kind, property_at, items_within, block_at}
use Rattle.mqtt5_base.specs.Layout.{atom_bytes, tagged, tagged_by, items_bytes, block_bytes, atom_fits, all_fit, all_fit_by, items_fit, block_fits}
use Rattle.mqtt5_base.specs.Tidy.{no_items, tidy}
use Rattle.mqtt5_base.specs.Sets.{AtomsAre, AtomsAreBy, Adds, IsSetOf, IsBlockOf, apart}
use Rattle.mqtt5_base.proofs.KindLaws.{cut_at}
use Rattle.mqtt5_base.proofs.BlockLaws.{some_bytes}
use Rattle.mqtt5_base.proofs.KindsAgain.{both_hold, atom_again, var_int_again}
use Rattle.mqtt5_base.proofs.ItemsAgain.{is_allowed, AreAgain, tagged_again}

-- ---- a whole table

-- values of an identifier's kind are read again
are_again : (id : ℕ) (k : Kind) (here : List Atom) → entry_of kinds id ≡ Some k → AtomsAre k here → all_fit k here ≡ true → AreAgain id k here
unfolding property_at
are_again id k [] known are fit = tt
are_again id k (a ∷ here) known are fit =
    let f = both_hold (atom_fits k a) (all_fit k here) fit in
    (record { again = λ rest. ap (λ (o : Option Kind). atom_of_kind o id (atom_bytes k a ++ rest)) known ∙ atom_again k a rest are.0 f.0 }, are_again id k here known are.1 f.1)

-- the values of an entry are read again
entry_again : (here : List Atom) (n : ℕ) (t u : List Entry) (e : Entry) (kind : Option Kind) (f g : Found) (rest : List ℕ) → entry_of kinds e.id ≡ kind → length t ≡ length f → allows t e.id ≡ false → allows u e.id ≡ false → Adds e.many [] here → AtomsAreBy kind here → all_fit_by kind here ≡ true
    → length (tagged_by e.id kind here ++ rest) ≤ n
    → (m : ℕ) × (length rest ≤ m) × (items_within n (t ++ e ∷ u) (f ++ [] ∷ g) (tagged_by e.id kind here ++ rest) ≡ items_within m (t ++ e ∷ u) (f ++ here ∷ g) rest)
entry_again here n t u e None f g rest known l absent once adds are fit le = absurd are
entry_again here n t u e (Some k) f g rest known l absent once adds are fit le = tagged_again here n t u e k f g [] rest l absent once (are_again e.id k here known are fit) adds le

-- two tests that both hold
both_true : (a b : Bool) → (a && b) ≡ true → (a ≡ true) × (b ≡ true)
both_true true b e = (refl, e)
both_true false b e = absurd cc

-- a test whose denial holds doesn't
is_not : (b : Bool) → not b ≡ true → b ≡ false
is_not true e = absurd cc
is_not false e = refl

-- an identifier that is allowed is so with more entries
allowed_more : (t u : List Entry) (id : ℕ) → allows t id ≡ true → allows (t ++ u) id ≡ true
allowed_more [] u id h = absurd cc
allowed_more (e ∷ t) u id h = by_test (eqb id e.id) h (allowed_more t u id)
  where
    by_test : (b : Bool) → (b || allows t id) ≡ true → (allows t id ≡ true → allows (t ++ u) id ≡ true) → (b || allows (t ++ u) id) ≡ true
    by_test true h more = refl
    by_test false h more = more h

-- an identifier that was seen isn't one that wasn't
unlike : (seen : List Entry) (id another : ℕ) → allows seen id ≡ true → allows seen another ≡ false → eqb id another ≡ false
unlike seen id another there absent = by_test (eqb id another) refl
  where
    by_test : (b : Bool) → eqb id another ≡ b → b ≡ false
    by_test true e = absurd (false≢true (sym absent ∙ ap (allows seen) (sym (eqb-true id another e)) ∙ there))
    by_test false e = refl

-- an identifier that was seen doesn't stand after
not_after : (seen u : List Entry) (id : ℕ) → apart seen u ≡ true → allows seen id ≡ true → allows u id ≡ false
not_after seen [] id once there = refl
not_after seen (e ∷ u) id once there =
    let o = both_true (not (allows seen e.id)) (apart (seen ++ e ∷ []) u) once in
    rw (unlike seen id e.id there (is_not (allows seen e.id) o.0)) (not_after (seen ++ e ∷ []) u id o.1 (allowed_more seen (e ∷ []) id there))

-- a set that was found
abbrev done : Found → Result Found Error
done found = Ok found

-- The items of a table are read again, behind those of the entries before.
table_again : (u : List Entry) (n : ℕ) (t : List Entry) (f g : Found) → length t ≡ length f → apart t u ≡ true → IsSetOf u g → items_fit u g ≡ true → length (items_bytes u g) ≤ n → items_within n (t ++ u) (f ++ none_of u) (items_bytes u g) ≡ done (f ++ g)
unfolding items_within
table_again [] zero t f [] l once set fit le = refl
table_again [] (suc n) t f [] l once set fit le = refl
table_again [] n t f (here ∷ g) l once set fit le = absurd set
table_again (e ∷ u) n t f [] l once set fit le = absurd set
table_again (e ∷ u) n t f (here ∷ g) l once set fit le =
    let kind = entry_of kinds e.id in
    let rest = items_bytes u g in
    let o = both_true (not (allows t e.id)) (apart (t ++ e ∷ []) u) once in
    let h = both_hold (all_fit_by kind here) (items_fit u g) fit in
    let one = entry_again here n t u e kind f (none_of u) rest refl l (is_not (allows t e.id) o.0) (not_after (t ++ e ∷ []) u e.id o.1 (is_allowed t [] e)) set.0.adds set.0.are h.0 le in
    let longer : length (t ++ e ∷ []) ≡ length (f ++ here ∷ []) = omega (arith, length-append t (e ∷ []), length-append f (here ∷ []), l) in
    let next = table_again u one.0 (t ++ e ∷ []) (f ++ here ∷ []) g longer o.1 set.1 h.1 one.1 in
    one.2 ∙ ap (λ (x : List Entry). items_within one.0 x (f ++ here ∷ none_of u) rest) (sym (append_assoc t (e ∷ []) u))
    ∙ ap (λ (x : Found). items_within one.0 ((t ++ e ∷ []) ++ u) x rest) (sym (append_assoc f (here ∷ []) (none_of u)))
    ∙ next ∙ ap done (append_assoc f (here ∷ []) g)

-- no values have no bytes
nothing_tagged : (id : ℕ) (kind : Option Kind) → tagged_by id kind [] ≡ []
nothing_tagged id None = refl
nothing_tagged id (Some k) = refl

-- a set has no bytes just where it has no property
empty_items : (table : List Entry) (g : Found) → IsSetOf table g → eqb (length (items_bytes table g)) 0 ≡ no_items g
empty_items [] [] set = refl
empty_items [] (here ∷ g) set = absurd set
empty_items (e ∷ es) [] set = absurd set
empty_items (e ∷ es) ([] ∷ g) set = ap (λ (b : List ℕ). eqb (length (b ++ items_bytes es g)) 0) (nothing_tagged e.id (entry_of kinds e.id)) ∙ empty_items es g set.1
empty_items (e ∷ es) ((a ∷ here) ∷ g) set = some (entry_of kinds e.id) set.0.are
  where
    some : (kind : Option Kind) → AtomsAreBy kind (a ∷ here) → eqb (length (tagged_by e.id kind (a ∷ here) ++ items_bytes es g)) 0 ≡ false
    some None are = absurd are
    some (Some k) are = some_bytes e.id ((atom_bytes k a ++ tagged e.id k here) ++ items_bytes es g)

-- ---- a block

-- bytes of a number and others are one at least
some_of : (b : Bool) (x y : ℕ) (ys items : List ℕ) → 0 < length (cond b (x ∷ []) (y ∷ ys) ++ items)
some_of true x y ys items = omega arith
some_of false x y ys items = omega arith

-- a block has a byte
pub some_block : (table : List Entry) (p : Option Found) → 0 < length (block_bytes table p)
unfolding var_int
some_block table None = omega arith
some_block table (Some g) = let n = length (items_bytes table g) in some_of (ltb n 128) n (n % 128 + 128) (var_int_in 2 (n / 128)) (items_bytes table g)

-- a set without properties is read as none
abbrev pub tidy_found : Option Found → Option Found
tidy_found None = None
tidy_found (Some g) = cond (no_items g) None (Some g)

-- a set that may be absent, and the bytes after it
abbrev read_as : Option Found → List ℕ → Result (Option Found × List ℕ) Error
read_as p rest = Ok (p, rest)

-- A block over a table whose identifiers stand once is read again.
pub block_again : (table : List Entry) (p : Option Found) (rest : List ℕ) → apart [] table ≡ true → IsBlockOf table p → block_fits table p ≡ true → block_at table (block_bytes table p ++ rest) ≡ read_as (tidy_found p) rest
unfolding block_at var_int
block_again table None rest once set fit = rw (var_int_again 0 rest (omega arith)) refl
block_again table (Some g) rest once set fit =
    let f = both_hold (items_fit table g) (ltb (length (items_bytes table g)) 268435456) fit in
    let items = items_bytes table g in
    let regrouped : (var_int (length items) ++ items) ++ rest ≡ var_int (length items) ++ (items ++ rest) = append_assoc (var_int (length items)) items rest in
    ap (block_at table) regrouped ∙ rw (var_int_again (length items) (items ++ rest) (ltb-true _ _ f.1)) (by_test (no_items g) items refl (empty_items table g set) f.0)
  where
    by_test : (b : Bool) (items : List ℕ) → items_bytes table g ≡ items → eqb (length items) 0 ≡ b → items_fit table g ≡ true
        → cond (eqb (length items) 0) (read_as None (items ++ rest)) (cond (ltb (length (items ++ rest)) (length items)) (Err (BoundaryCrossed (length items))) (items_within (length items) table (none_of table) (take (length items) (items ++ rest)) >>= λ found. read_as (Some found) (drop (length items) (items ++ rest)))) ≡ read_as (cond b None (Some g)) rest
    by_test true items is e fit = rw e (ap (λ (b : List ℕ). read_as None (b ++ rest)) (nil_from_length items (eqb-true _ _ e)))
    by_test false items is e fit =
        let cut = cut_at items rest (length items) refl in
        let long : ltb (length (items ++ rest)) (length items) ≡ false = le-ltb _ _ (omega (arith, length-append items rest)) in
        let again : items_within (length items) table (none_of table) items ≡ Ok g = rw (← is) (table_again table (length (items_bytes table g)) [] [] g refl once set fit (omega arith)) in
        rw (e, long, cut.0, cut.1, again) refl

-- ---- tidy sets

-- a tidy set's values
pub tidy_values : {P : Type 0} (found : P → Found) (o : Option P) → tidy_found (option_map found o) ≡ option_map found (tidy found o)
tidy_values found None = refl
tidy_values {P} found (Some p) = by_test (no_items (found p))
  where
    by_test : (b : Bool) → cond b None (Some (found p)) ≡ option_map found (cond b None (Some p))
    by_test true = refl
    by_test false = refl

-- tidy twice is tidy
pub tidy_twice : {P : Type 0} (found : P → Found) (o : Option P) → tidy found (tidy found o) ≡ tidy found o
tidy_twice found None = refl
tidy_twice {P} found (Some p) = by_test (no_items (found p)) refl
  where
    by_test : (b : Bool) → no_items (found p) ≡ b → tidy found (cond b None (Some p)) ≡ cond b None (Some p)
    by_test true e = refl
    by_test false e = rw e refl
