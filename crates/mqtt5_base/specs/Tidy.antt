-- A property set that is read again after it was written: one without properties is absent (MQTT
-- 5.0 section 2.2.2.1).
use Rattle.std.specs.Prelude.{Bool, true, false, [], ◌∷◌, Option, Some, None, if◌then◌else◌}
use Rattle.mqtt5_base.specs.Grammar.{Found}

-- whether a set has no property
abbrev pub no_items : Found → Bool
no_items [] = true
no_items ([] ∷ found) = no_items found
no_items ((a ∷ here) ∷ found) = false

-- a set as it is read again
abbrev pub tidy : {P : Type 0} → (P → Found) → Option P → Option P
tidy found None = None
tidy found (Some p) = if no_items (found p) then None else Some p
