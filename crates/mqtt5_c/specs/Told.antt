-- What a call answers that asks for one thing of the oldest event, which stays.
use Rattle.std.specs.Prelude.{◌≡◌, ℕ, Bool, true, false, ◌&&◌, nat_le, List, [], ◌∷◌, length}
use Rattle.std.specs.Prelude.{Option, None, Some, slice_get}
use Rattle.mqtt5_base.specs.Texts.{Utf8}
use Rattle.mqtt5_inflight.specs.declared.event.Event.{Event}
use Rattle.mqtt5_events.specs.Properties as properties
use Rattle.mqtt5_events.specs.Reasons as reasons
use Rattle.mqtt5_c.specs.Events.{over}
use Rattle.mqtt5_c.specs.Numbers.{small_buffer, absent}

-- what the oldest event has of this, where there is one
abbrev pub in_first : {A : Type 0} → (Event → Option A) → List Event → Option A
in_first f [] = None
in_first f (e ∷ es) = f e

-- a property that is a number, a text or binary data (MQTT 5.0 section 2.2.2.2)
abbrev pub number_of : List Event → ℕ → Option ℕ
number_of es id = in_first (λ e. properties.number_in e id) es

abbrev pub content_of : List Event → ℕ → Option (List ℕ)
content_of es id = in_first (λ e. properties.content_in e id) es

-- a user property, and a subscription identifier, at a place
abbrev pub pair_of : List Event → ℕ → Option (Utf8 × Utf8)
pair_of es index = in_first (λ e. slice_get (properties.pairs_in e) index) es

abbrev pub subscription_of : List Event → ℕ → Option ℕ
subscription_of es index = in_first (λ e. slice_get (properties.subscriptions_in e) index) es

-- a reason code at a place (2.4)
abbrev pub reason_of : List Event → ℕ → Option ℕ
reason_of es index = in_first (λ e. reasons.reason_in e index) es

-- it is told, and the answer is 0; or it isn't there, and nothing is told
abbrev pub Tells : {A : Type 0} → Option A → A → ℕ → A → Type 0
Tells (Some x) old code new = (code ≡ 0) × (new ≡ x)
Tells None old code new = (code ≡ absent) × (new ≡ old)

-- with room bytes are copied over the beginning of a buffer; without it the buffer is as before
abbrev pub Copies : Bool → List ℕ → List ℕ → ℕ → List ℕ → Type 0
Copies true bytes old code new = (code ≡ 0) × (new ≡ over bytes old)
Copies false bytes old code new = (code ≡ small_buffer) × (new ≡ old)

-- they are copied, and it is told how many they are; or they aren't there, and nothing is told
abbrev pub TellsBytes : Option (List ℕ) → List ℕ → ℕ → ℕ → List ℕ → ℕ → Type 0
TellsBytes (Some bytes) old count code new told =
    (told ≡ length bytes) × Copies (nat_le (length bytes) (length old)) bytes old code new
TellsBytes None old count code new told = (code ≡ absent) × (new ≡ old) × (told ≡ count)

-- two buffers
abbrev pub Both : Type 0
Both = List ℕ × List ℕ

-- whether both have room
abbrev pub fit_both : Utf8 × Utf8 → Both → Bool
fit_both p buffers =
    nat_le (length p.0.bytes) (length buffers.0) && nat_le (length p.1.bytes) (length buffers.1)

-- the same of a name and a value, of which both are copied or none
abbrev pub CopiesBoth : Bool → Utf8 × Utf8 → Both → ℕ → Both → Type 0
CopiesBoth true p old code new =
    (code ≡ 0) × (new.0 ≡ over p.0.bytes old.0) × (new.1 ≡ over p.1.bytes old.1)
CopiesBoth false p old code new = (code ≡ small_buffer) × (new ≡ old)

abbrev pub TellsPair : Option (Utf8 × Utf8) → Both → ℕ × ℕ → ℕ → Both → ℕ × ℕ → Type 0
TellsPair (Some p) old counts code new told =
    (told.0 ≡ length p.0.bytes) × (told.1 ≡ length p.1.bytes)
    × CopiesBoth (fit_both p old) p old code new
TellsPair None old counts code new told = (code ≡ absent) × (new ≡ old) × (told ≡ counts)
