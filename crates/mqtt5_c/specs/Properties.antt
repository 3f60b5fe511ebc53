-- The list of properties that the next packet takes (MQTT 5.0 section 2.2.2).
use Rattle.std.specs.Prelude.{◌≡◌, ◌⊎◌, ℕ, List, [], ◌∷◌, ◌++◌, Option, Some, None}
use Rattle.mqtt5_base.specs.declared.property.Property.{Property}
use Rattle.mqtt5_base.specs.Grammar.{number, content, couple}
use Rattle.mqtt5_base.specs.Items.{item_of}
use Rattle.mqtt5_holder.specs.declared.holder.Holder.{Holder}
use Rattle.mqtt5_c.specs.Asked.{IsDeclined}
use Rattle.mqtt5_c.specs.Numbers.{no_client, out_of_memory}

-- the list of a handle's client; without a client none
abbrev pub properties_in : Option Holder → List Property
properties_in None = []
properties_in (Some h) = h.properties

-- the same client with an empty list
abbrev pub emptied : Option Holder → Option Holder
emptied None = None
emptied (Some h) = Some (record h { properties = [] })

-- a property with this identifier and this number, these bytes, or this name and value (2.2.2.2)
abbrev pub HasNumber : ℕ → ℕ → Property → Type 0
HasNumber id n p = item_of p ≡ (id, number n)

abbrev pub HasContent : ℕ → List ℕ → Property → Type 0
HasContent id bytes p = item_of p ≡ (id, content bytes)

abbrev pub HasPair : List ℕ → List ℕ → Property → Type 0
HasPair name value p = item_of p ≡ (38, couple name value)

-- without a client nothing is added, and the answer is 200; else it is at the end of the list, or
-- memory is refused, and all is as before
abbrev pub AddedOne : Property → Option Holder → ℕ → Option Holder → Type 0
AddedOne p None code after = (code ≡ no_client) × (after ≡ None)
AddedOne p (Some old) code after =
    ((code ≡ 0) × (after ≡ Some (record old { properties = old.properties ++ p ∷ [] })))
    ⊎ ((code ≡ out_of_memory) × (after ≡ Some old))

-- A call is declined, and the handle is as before; or such a property is added.
pub data Added (Bad : Type 0) (Is : Property → Type 0) (before : Option Holder) (code : ℕ)
    (after : Option Holder) : Type 0 where
  Declined : IsDeclined Bad code → after ≡ before → Added Bad Is before code after
  Put : (p : Property) → Is p → AddedOne p before code after → Added Bad Is before code after
