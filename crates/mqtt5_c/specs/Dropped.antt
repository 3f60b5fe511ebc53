-- What a call answers that asks for the oldest of the requests that were let go.
use Rattle.std.specs.Prelude.{◌≡◌, ℕ, Bool, true, false, List, [], drop, length, Option, IsSome}
use Rattle.std.specs.Prelude.{IfSome, slice_get}
use Rattle.std.specs.Option.{option_map_or, option_and_then}
use Rattle.mqtt5_base.specs.Texts.{Utf8}
use Rattle.mqtt5_inflight.specs.declared.event.Request.{Request}
use Rattle.mqtt5_inflight.specs.declared.event.Request.TheVariants as requests
use Rattle.mqtt5_events.specs.Properties as properties
use Rattle.mqtt5_holder.specs.declared.holder.Holder.{Holder}
use Rattle.mqtt5_c.specs.declared.event.EventInfo.{EventInfo}
use Rattle.mqtt5_c.specs.Events.{nothing_told, came, publish_told, both_fit}
use Rattle.mqtt5_c.specs.Numbers.{small_buffer}

-- a Publish (MQTT 5.0 section 3.3), or the release of a packet identifier (3.6); nothing else is
-- ever let go
abbrev pub request_told : Request → EventInfo
request_told (requests.Publish p) = record (publish_told p) { kind = 4 }
request_told (requests.PubRel r) = record (came 6 r.pkid 0) { kind = 4 }
request_told request = record nothing_told { kind = 4 }

-- the topic and the payload of a Publish; of another request nothing
abbrev pub topic_asked : Request → List ℕ
topic_asked (requests.Publish p) = p.topic
topic_asked request = []

abbrev pub payload_asked : Request → List ℕ
payload_asked (requests.Publish p) = p.payload
payload_asked request = []

-- the same of the oldest one, or of none
abbrev pub dropped_told : List Request → EventInfo
dropped_told rs = option_map_or request_told (slice_get rs 0) nothing_told

abbrev pub dropped_topic : List Request → List ℕ
dropped_topic rs = option_map_or topic_asked (slice_get rs 0) []

abbrev pub dropped_payload : List Request → List ℕ
dropped_payload rs = option_map_or payload_asked (slice_get rs 0) []

-- whether its topic and payload fit into these buffers
abbrev pub fits : List Request → List ℕ → List ℕ → Bool
fits rs topic payload =
    both_fit (dropped_topic rs) (dropped_payload rs) (length topic) (length payload)

-- with room the oldest one is taken out; without it the list is as before
abbrev pub TakesOne : Bool → List Request → ℕ → List Request → Type 0
TakesOne true old code new = (code ≡ 0) × (new ≡ drop 1 old)
TakesOne false old code new = (code ≡ small_buffer) × (new ≡ old)

-- the same in a holder, of which the rest is as before
abbrev pub TakesOneIn : Bool → Holder → ℕ → Option Holder → Type 0
TakesOneIn room old code after =
    IsSome after
    × IfSome after
    (λ new. (new ≡ record old { dropped = new.dropped })
    × TakesOne room old.dropped code new.dropped)

-- a property of the oldest one (2.2.2.2), which stays: a number, a text or binary data
abbrev pub number_dropped : List Request → ℕ → Option ℕ
number_dropped rs id = option_and_then (λ r. properties.number_asked r id) (slice_get rs 0)

abbrev pub content_dropped : List Request → ℕ → Option (List ℕ)
content_dropped rs id = option_and_then (λ r. properties.content_asked r id) (slice_get rs 0)

-- a user property at a place
abbrev pub pair_dropped : List Request → ℕ → Option (Utf8 × Utf8)
pair_dropped rs index =
    option_and_then (λ r. slice_get (properties.pairs_asked r) index) (slice_get rs 0)
