-- The values of a row's fields come back from the fields of a packet that keep them.
use Rattle.std.specs.Prelude.{◌||◌}
use Rattle.std.proofs.Common.{◌≡◌, ℕ, Bool, true, false, eqb, List, [], ◌∷◌, Option, None, refl}
use Rattle.std.proofs.lemmas.Bool.{eqb-true}
use Rattle.mqtt5_base.specs.declared.error.Error.{Error}
use Rattle.mqtt5_base.specs.Grammar.{Kind, bytes, Atom, content, Entry, Found, Test, passes, is_among, Value, plain, properties, one, checked, block, remainder}
use Rattle.mqtt5_base.specs.Fields.{Takes, IsField, TakesField}
use Rattle.mqtt5_base.specs.Views.{qos_number}
use Rattle.mqtt5_base.specs.FromValues.{qos_of}
use Rattle.mqtt5_base.proofs.SetShapes.{kept_by, kind_again, IsBack, block_back}

-- a value of that kind, which comes back
abbrev pub IsOne : Kind → Value → Type 0
IsOne k v = (a : Atom) × (v ≡ plain a) × (kept_by k a ≡ a)

-- the same, which passes the test
abbrev pub IsTested : Kind → Test → Value → Type 0
IsTested k t v = (a : Atom) × (v ≡ plain a) × (kept_by k a ≡ a) × (passes t a ≡ true)

-- a block whose set comes back
abbrev pub IsSetBack : List Entry → Value → Type 0
IsSetBack table v = (p : Option Found) × (v ≡ properties p) × IsBack table p

-- A field of one value gives such a value.
pub one_back : (k : Kind) (body : List ℕ) (v : Value) (after : List ℕ) → Takes (λ front. IsField (one k) front v after) body after → IsOne k v
one_back k body v after h = let f = h.2 in (f.0, f.2, kind_again k h.0 f.0 f.1)

-- A field that is judged gives a value that passes.
pub checked_back : (k : Kind) (t : Test) (w : ℕ → Error) (body : List ℕ) (v : Value) (after : List ℕ) → Takes (λ front. IsField (checked k t w) front v after) body after → IsTested k t v
checked_back k t w body v after h = let f = h.2 in (f.0, f.3, kind_again k h.0 f.0 f.1, f.2)

-- A field of all bytes that are left gives binary data.
pub remainder_back : (body : List ℕ) (v : Value) (after : List ℕ) → Takes (λ front. IsField remainder front v after) body after → IsOne bytes v
remainder_back body v after h = let f = h.2 in (content h.0, f.0, refl)

-- A block gives a set that comes back.
pub properties_back : (table : List Entry) (body : List ℕ) (v : Value) (after : List ℕ) → Takes (λ front. IsField (block table) front v after) body after → IsSetBack table v
properties_back table body v after h = let f = h.2 in (f.0, f.2, block_back table h.0 f.0 f.1)

-- ---- the same where the field may be left out

-- one value, or the one that stands for it
pub maybe_one : (b : Bool) (k : Kind) (d : Atom) (body : List ℕ) (v : Value) (after : List ℕ) → kept_by k d ≡ d → TakesField b (one k) (plain d) body v after → IsOne k v
maybe_one true k d body v after e h = one_back k body v after h
maybe_one false k d body v after e h = (d, h.0, e)

-- a value that is judged, or the one that stands for it
pub maybe_checked : (b : Bool) (k : Kind) (t : Test) (w : ℕ → Error) (d : Atom) (body : List ℕ) (v : Value) (after : List ℕ) → kept_by k d ≡ d → TakesField b (checked k t w) (plain d) body v after → IsOne k v
maybe_checked true k t w d body v after e h = let c = checked_back k t w body v after h in (c.0, c.1, c.2)
maybe_checked false k t w d body v after e h = (d, h.0, e)

-- a block, or none
pub maybe_properties : (b : Bool) (table : List Entry) (body : List ℕ) (v : Value) (after : List ℕ) → TakesField b (block table) (properties None) body v after → IsSetBack table v
maybe_properties true table body v after h = properties_back table body v after h
maybe_properties false table body v after h = (None, h.0, tt)

-- ---- tests

-- each of these numbers has the property
abbrev pub Each : (ℕ → Type 0) → List ℕ → Type 0
Each P [] = Unit {0}
Each P (n ∷ ns) = P n × Each P ns

-- A number among those that each have a property has it.
pub among_each : (P : ℕ → Type 0) (ns : List ℕ) → Each P ns → (n : ℕ) → is_among ns n ≡ true → P n
among_each P [] all n h = absurd cc
among_each P (m ∷ ns) all n h = by_test (eqb n m) refl (among_each P ns all.1 n) h
  where
    by_test : (b : Bool) → eqb n m ≡ b → (is_among ns n ≡ true → P n) → (b || is_among ns n) ≡ true → P n
    by_test true e others k = rw (eqb-true n m e) all.0
    by_test false e others k = others k

-- A number that is a QoS comes back.
pub qos_again : (n : ℕ) → is_among (0 ∷ 1 ∷ 2 ∷ []) n ≡ true → qos_number (qos_of n) ≡ n
qos_again n h = among_each (λ m. qos_number (qos_of m) ≡ m) (0 ∷ 1 ∷ 2 ∷ []) (refl, (refl, (refl, tt))) n h
