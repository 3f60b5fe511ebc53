-- This file serves the logic alone: the derived `==` of an enum finds equal values alone where that
-- of each variant's fields does. The derive goes by the variants in their order, so n variants ask
-- for n facts, and not for one of each pair.
use Rattle.std.specs.Prelude.{◌≡◌, Bool, true, false, ◌&&◌, List, [], ◌∷◌, ⊤}
use Rattle.std.specs.Bool.{Decides}
use Rattle.std.specs.Cmp.{IsEquivalence}
use Rattle.std.proofs.Common.{ap, refl, subst, sym}
use mathlib.Core.Bool.{true≢false}
use mathlib.Core.Logic.{inl, inr}
use denote.Struct.Field.{Field}
use denote.Enum.Declared.{Record, Choice, values_one}
use denote.Enum.Compared.{Each, by}
use Rattle.mqtt5_base.specs.Sound.{Sound, both}

-- of each variant, its test of two values' fields
abbrev pub Sounds : (Fss : List (List Field)) → Each Bool Fss → Type 0
Sounds [] es = ⊤
Sounds (Fs ∷ Fss) es = Sound es.0 × Sounds Fss es.1

choices_sound : (Fss : List (List Field)) (es : Each Bool Fss) → Sounds Fss es → (c d : Choice Fss)
    → by false false Fss es c d ≡ true → c ≡ d
choices_sound [] es all c d h = absurd c
choices_sound (Fs ∷ Fss) es all (inl x) (inl y) h = ap inl (all.0 x y h)
choices_sound (Fs ∷ Fss) es all (inl x) (inr y) h = absurd (true≢false (sym h))
choices_sound (Fs ∷ Fss) es all (inr x) (inl y) h = absurd (true≢false (sym h))
choices_sound (Fs ∷ Fss) es all (inr x) (inr y) h = ap inr (choices_sound Fss es.1 all.1 x y h)

pub enum_sound : (N : Record) (es : Each Bool N.parts) → Sounds N.parts es
    → Sound (λ (x y : N.D). by false false N.parts es (N.as_values x) (N.as_values y))
enum_sound N es all x y h =
    values_one N x y (choices_sound N.parts es all (N.as_values x) (N.as_values y) h)

-- of a variant with no field, with one and with two
pub no_field : Sound (λ (x y : ⊤). true)
no_field x y h = refl

pub one_field : {A : Type 0} {E : A → A → Bool} → Sound E → Sound (λ (x y : A × ⊤). E x.0 y.0)
one_field e x y h = λ i. (e x.0 y.0 h i, tt)

pub two_fields : {A B : Type 0} {E : A → A → Bool} {F : B → B → Bool} → Sound E → Sound F
    → Sound (λ (x y : A × (B × ⊤)). E x.0 y.0 && F x.1.0 y.1.0)
two_fields e f x y h = let p = both (e x.0 y.0) (f x.1.0 y.1.0) h in λ i. (p.0 i, (p.1 i, tt))

-- such a test that is an equivalence decides equality
pub decided : {A : Type 0} {E : A → A → Bool} → Sound E → IsEquivalence E → (x y : A)
    → Decides (E x y) (x ≡ y)
decided {E} sound law x y = (sound x y, λ e. subst (λ z. E x z ≡ true) e (law.refl x))
