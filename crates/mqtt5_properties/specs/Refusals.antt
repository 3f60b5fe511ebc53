-- Why there is no such property, or no such set.
use Rattle.std.specs.Prelude.{⊤}
use Rattle.mqtt5_properties.specs.declared.refusal.Refusal.{Refusal}
use Rattle.mqtt5_properties.specs.declared.refusal.Refusal.TheVariants.{NotTaken, OutOfMemory}

-- It isn't taken, and that for this reason; or memory was refused.
abbrev pub Refuses : Type 0 → Refusal → Type 0
Refuses Reason NotTaken = Reason
Refuses Reason OutOfMemory = ⊤
