-- Fields of packets as the grammar's values (MQTT 5.0 sections 1.5, 2.2.2 and 4.3).
use Rattle.std.specs.Prelude.{ℕ, Bool, true, false, List, [], ◌∷◌, Option, Some, None, map}
use Rattle.mqtt5_base.specs.declared.quality.QoS.{QoS}
use Rattle.mqtt5_base.specs.declared.quality.QoS.TheVariants.{AtMostOnce, AtLeastOnce, ExactlyOnce}
use Rattle.mqtt5_base.specs.Texts.{Utf8}
use Rattle.mqtt5_base.specs.Grammar.{Atom, number, content, couple}

-- a QoS as its number (4.3)
abbrev pub qos_number : QoS → ℕ
qos_number AtMostOnce = 0
qos_number AtLeastOnce = 1
qos_number ExactlyOnce = 2

-- a flag as its bit
abbrev pub bit : Bool → ℕ
bit true = 1
bit false = 0

-- the value of an option, or none
abbrev pub atoms_of : {A : Type 0} → (A → Atom) → Option A → List Atom
atoms_of f None = []
atoms_of f (Some x) = f x ∷ []

-- a text as its bytes (1.5.4)
abbrev pub text_atom : Utf8 → Atom
text_atom t = content t.bytes

-- two texts as their bytes (1.5.7)
abbrev pub pair_atom : Utf8 × Utf8 → Atom
pair_atom p = couple p.0.bytes p.1.bytes

-- values of a set's fields (2.2.2): a number that may be absent
abbrev pub numbers : Option ℕ → List Atom
numbers o = atoms_of number o

-- binary data that may be absent
abbrev pub contents : Option (List ℕ) → List Atom
contents o = atoms_of content o

-- a text that may be absent
abbrev pub texts : Option Utf8 → List Atom
texts o = atoms_of text_atom o

-- user properties
abbrev pub pairs : List (Utf8 × Utf8) → List Atom
pairs ps = map pair_atom ps

-- subscription identifiers
abbrev pub identifiers : List ℕ → List Atom
identifiers ns = map number ns
