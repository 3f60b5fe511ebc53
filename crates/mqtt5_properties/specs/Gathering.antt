-- The property set of a packet that properties give, added one after the other (MQTT 5.0 section
-- 2.2.2).
use Rattle.std.specs.Prelude.{◌≡◌, ℕ, true, is_some, option_map, List, [], ◌∷◌, length, Option}
use Rattle.std.specs.Prelude.{Some, None, Result, Ok, Err, if◌then◌else◌, ◌==◌}
use Rattle.std.specs.Option.{option_and_then}
use Rattle.mqtt5_base.specs.declared.property.Property.{Property}
use Rattle.mqtt5_base.specs.Grammar.{Entry, Found, allows}
use Rattle.mqtt5_base.specs.Items.{item_of}
use Rattle.mqtt5_base.specs.Reading.{none_of, with_item}
use Rattle.mqtt5_properties.specs.declared.refusal.Refusal.{Refusal}
use Rattle.mqtt5_properties.specs.Refusals.{Refuses}

-- a set with a property more, in place of one that may stand once; none where the packet can't have
-- it
abbrev pub with_property : List Entry → Property → Found → Option Found
with_property table p found =
    if allows table (item_of p).0 then Some (with_item table (item_of p).0 (item_of p).1 found)
    else None

-- with each of them, in their order
abbrev pub with_all : List Entry → List Property → Found → Option Found
with_all table [] found = Some found
with_all table (p ∷ ps) found =
    option_and_then (λ f. with_all table ps f) (with_property table p found)

-- the set of these alone
abbrev pub gathered : List Entry → List Property → Option Found
gathered table ps = with_all table ps (none_of table)

-- the same, where of no properties the set is absent
abbrev pub set_of : List Entry → List Property → Option Found
set_of table ps = if length ps == 0 then None else gathered table ps

-- a packet may have each of these, and its set, seen by found, is the one that they give
abbrev pub IsSet : {P : Type 0} → (P → Found) → List Entry → List Property → Option P → Type 0
IsSet found table ps set =
    (is_some (gathered table ps) ≡ true) × (option_map found set ≡ set_of table ps)

-- the set is this one; or memory is refused, or there is no such set
abbrev pub Adds : Option Found → Result (Unit {0}) Refusal → Found → Type 0
Adds wanted (Ok done) new = wanted ≡ Some new
Adds wanted (Err e) new = Refuses (wanted ≡ None) e
