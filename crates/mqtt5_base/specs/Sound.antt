-- This file serves the logic alone: values that a derived test finds equal are equal.
use Rattle.std.specs.Prelude.{◌≡◌, ◌+◌, ◌<◌, ◌^◌, ℕ, Bool, true, false, ◌&&◌, List, [], ◌∷◌, Option}
use Rattle.std.specs.Prelude.{Some, None, nat_eq}
use Rattle.std.specs.Option.{option_eq}
use Rattle.std.specs.Cmp.Lexicographic.{pointwise}
use Rattle.std.proofs.Common.{rules, ap, refl}
use Rattle.std.proofs.lemmas.Bool.{eqb-true}
use Rattle.std.proofs.Math.Bridge.{le_prop}
use mathlib.Core.Bool.{beq}
use mathlib.Core.HLevel.{is_prop→PathP}
use Rattle.mqtt5_base.specs.Codes.{same_text}
use Rattle.mqtt5_base.specs.Texts.{Utf8}
use Rattle.mqtt5_base.specs.contracts.ack_properties.AckPropertiesPartialEq.TheImpl as ack_properties
use Rattle.mqtt5_base.specs.contracts.header.FixedHeaderPartialEq.TheImpl as header
use Rattle.mqtt5_base.specs.contracts.quality.QoSPartialEq.TheImpl as qos

-- a test that holds of equal values alone
abbrev pub Sound : {A : Type 0} → (A → A → Bool) → Type 0
Sound {A} E = (x y : A) → E x y ≡ true → x ≡ y

-- two facts of two tests
pub both : {a b : Bool} {P Q : Type 0} → (a ≡ true → P) → (b ≡ true → Q) → (a && b) ≡ true → P × Q
both {a = true} f g h = (f refl, g h)
both {a = false} f g h = absurd cc

pub bool_sound : (x y : Bool) → beq x y ≡ true → x ≡ y
bool_sound = search rules

pub number_sound : Sound nat_eq
number_sound = eqb-true

pub option_sound : {A : Type 0} {E : A → A → Bool} → ((x y : A) → E x y ≡ true → x ≡ y)
    → (x y : Option A) → option_eq E x y ≡ true → x ≡ y
option_sound e None None h = search rules
option_sound e None (Some y) h = search rules
option_sound e (Some x) None h = search rules
option_sound e (Some x) (Some y) h = ap (λ z. Some z) (e x y h)

pub list_sound : {A : Type 0} {E : A → A → Bool} → ((x y : A) → E x y ≡ true → x ≡ y)
    → (xs ys : List A) → pointwise E xs ys ≡ true → xs ≡ ys
list_sound e [] [] h = search rules
list_sound e [] (y ∷ ys) h = search rules
list_sound e (x ∷ xs) [] h = search rules
list_sound e (x ∷ xs) (y ∷ ys) h = search (rules, e, list_sound e xs ys)

pub bytes_sound : (xs ys : List ℕ) → pointwise nat_eq xs ys ≡ true → xs ≡ ys
bytes_sound = list_sound number_sound

pub text_sound : (t u : Utf8) → pointwise nat_eq t.bytes u.bytes ≡ true → t ≡ u
text_sound t u h = same_text t u (bytes_sound t.bytes u.bytes h)

pub pair_sound : {A B : Type 0} {E : A → A → Bool} {F : B → B → Bool}
    → ((x y : A) → E x y ≡ true → x ≡ y) → ((x y : B) → F x y ≡ true → x ≡ y) → (x y : A × B)
    → (E x.0 y.0 && F x.1 y.1) ≡ true → x ≡ y
pair_sound e f x y h = let p = both (e x.0 y.0) (f x.1 y.1) h in λ i. (p.0 i, p.1 i)

pub qos_sound : Sound qos.eq-value.it
qos_sound = search rules

-- of headers, whose lengths are bounded
pub header_sound : Sound header.eq-value.it
header_sound x y h =
    let e =
    both (number_sound x.byte1 y.byte1)
    (both (number_sound x.fixed_header_len y.fixed_header_len)
    (number_sound x.remaining_len y.remaining_len))
    h in
    λ i.
    record {
      byte1 = e.0 i;
      fixed_header_len = e.1.0 i;
      remaining_len = e.1.1 i;
      bounded =
          is_prop→PathP (λ j. e.1.0 j + e.1.1 j < 2 ^ 64) (λ j. le_prop) x.bounded y.bounded i;
    }

pub ack_properties_sound : Sound ack_properties.eq-value.it
ack_properties_sound x y h =
    let e =
    both (option_sound text_sound x.reason_string y.reason_string)
    (list_sound (pair_sound text_sound text_sound) x.user_properties y.user_properties) h in
    λ i. record { reason_string = e.0 i; user_properties = e.1 i }
