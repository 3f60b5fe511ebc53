-- This file serves the logic alone: fields of packets from the grammar's values (MQTT 5.0 sections
-- 1.5, 2.2.2 and 4.3).
use Rattle.std.specs.Prelude.{ℕ, zero, suc, List, [], ◌∷◌, Option, Some, None, map, ◌==◌}
use Rattle.std.specs.Prelude.{if◌then◌else◌}
use Rattle.mqtt5_base.specs.declared.ack_properties.AckProperties.{AckProperties}
use Rattle.mqtt5_base.specs.declared.quality.QoS.{QoS}
use Rattle.mqtt5_base.specs.declared.quality.QoS.TheVariants.{AtMostOnce, AtLeastOnce, ExactlyOnce}
use Rattle.mqtt5_base.specs.Texts.{Utf8, text_of}
use Rattle.mqtt5_base.specs.Grammar.{Atom, number, content, couple, number_of, content_of, Found}
use Rattle.mqtt5_base.specs.Grammar.{Value, plain, properties, atom_in}

-- the QoS of a number; 0 of one that is none (4.3)
abbrev pub qos_of : ℕ → QoS
qos_of n = if n == 1 then AtLeastOnce else (if n == 2 then ExactlyOnce else AtMostOnce)

-- a number that may be absent
abbrev pub one_number : List Atom → Option ℕ
one_number [] = None
one_number (a ∷ here) = Some (number_of a)

-- binary data that may be absent
abbrev pub one_content : List Atom → Option (List ℕ)
one_content [] = None
one_content (a ∷ here) = Some (content_of a)

-- a text that may be absent
abbrev pub one_text : List Atom → Option Utf8
one_text [] = None
one_text (a ∷ here) = Some (text_of (content_of a))

-- two texts; of another value two empty ones
abbrev pub pair_of : Atom → Utf8 × Utf8
pair_of (number n) = (text_of [], text_of [])
pair_of (content c) = (text_of [], text_of [])
pair_of (couple a b) = (text_of a, text_of b)

-- user properties
abbrev pub all_pairs : List Atom → List (Utf8 × Utf8)
all_pairs here = map pair_of here

-- subscription identifiers
abbrev pub all_numbers : List Atom → List ℕ
all_numbers here = map number_of here

-- the values of a set's property, by its place in the table (2.2.2)
abbrev pub here_in : Found → ℕ → List Atom
here_in [] k = []
here_in (here ∷ found) zero = here
here_in (here ∷ found) (suc k) = here_in found k

-- the values of a packet, by their place in the row (3): bytes
abbrev pub content_in : List Value → ℕ → List ℕ
content_in vs k = content_of (atom_in vs k)

-- a property set that may be absent
abbrev pub found_in : List Value → ℕ → Option Found
found_in [] k = None
found_in (plain a ∷ vs) zero = None
found_in (properties p ∷ vs) zero = p
found_in (v ∷ vs) (suc k) = found_in vs k

-- the properties of an ack from their values
abbrev pub ack_set : Found → AckProperties
ack_set f = record {
  reason_string = one_text (here_in f 0);
  user_properties = all_pairs (here_in f 1);
}
