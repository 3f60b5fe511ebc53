-- Fields of packets are what is made again of their values, and numbers of them are small.
use Rattle.std.proofs.Common.{◌≡◌, ℕ, ◌≤◌, Bool, true, false, eqb, List, [], ◌∷◌, Option, Some, None, option_map, refl, ap, arith}
use Rattle.mqtt5_base.specs.declared.quality.QoS.{QoS}
use Rattle.mqtt5_base.specs.declared.quality.QoS.TheVariants.{AtMostOnce, AtLeastOnce, ExactlyOnce}
use Rattle.mqtt5_base.specs.Codes.{text_back}
use Rattle.mqtt5_base.specs.Texts.{Utf8}
use Rattle.mqtt5_base.specs.Grammar.{Found}
use Rattle.mqtt5_base.specs.Views.{qos_number, bit, numbers, contents, texts, pairs, identifiers}
use Rattle.mqtt5_base.specs.FromValues.{qos_of, one_number, one_content, one_text, all_pairs, all_numbers}

-- a QoS is that of its number
pub qos_back : (q : QoS) → qos_of (qos_number q) ≡ q
qos_back AtMostOnce = refl
qos_back AtLeastOnce = refl
qos_back ExactlyOnce = refl

-- a bit is 1 just where it is set
pub bit_back : (b : Bool) → eqb (bit b) 1 ≡ b
bit_back true = refl
bit_back false = refl

-- a bit is 1 at most
pub bit_small : (b : Bool) → bit b ≤ 1
bit_small true = omega arith
bit_small false = omega arith

-- a QoS is 2 at most
pub qos_small : (q : QoS) → qos_number q ≤ 2
qos_small AtMostOnce = omega arith
qos_small AtLeastOnce = omega arith
qos_small ExactlyOnce = omega arith

-- a number, or none, is that of its values
pub numbers_back : (o : Option ℕ) → one_number (numbers o) ≡ o
numbers_back None = refl
numbers_back (Some n) = refl

-- bytes, or none, are those of their values
pub contents_back : (o : Option (List ℕ)) → one_content (contents o) ≡ o
contents_back None = refl
contents_back (Some c) = refl

-- a text, or none, is that of its values
pub texts_back : (o : Option Utf8) → one_text (texts o) ≡ o
texts_back None = refl
texts_back (Some t) = ap (λ u. Some u) (text_back t)

-- pairs of texts are those of their values
pub pairs_back : (ps : List (Utf8 × Utf8)) → all_pairs (pairs ps) ≡ ps
pairs_back [] = refl
pairs_back (p ∷ ps) = λ i. (text_back p.0 i, text_back p.1 i) ∷ pairs_back ps i

-- numbers are those of their values
pub identifiers_back : (ns : List ℕ) → all_numbers (identifiers ns) ≡ ns
identifiers_back [] = refl
identifiers_back (n ∷ ns) = ap (λ (r : List ℕ). n ∷ r) (identifiers_back ns)

-- a set that may be absent is made again of its values where each set is
pub set_back : {P : Type 0} (found : P → Found) (set : Found → P) → ((p : P) → set (found p) ≡ p) → (o : Option P) → option_map set (option_map found o) ≡ o
set_back found set back None = refl
set_back found set back (Some p) = ap (λ q. Some q) (back p)
