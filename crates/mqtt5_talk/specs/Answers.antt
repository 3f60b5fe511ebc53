-- What the broker's answers say, and what the user answers.
use Rattle.std.specs.Prelude.{◌≡◌, ℕ, ◌+◌, Bool, true, false, List, [], ◌∷◌, ◌++◌, Option, Some, None, Result}
use Rattle.std.specs.Prelude.{IfOk, All, ⊤}
use Rattle.mqtt5_base.specs.Views.{bit}
use Rattle.mqtt5_base.specs.declared.ack_properties.AckProperties.{AckProperties}
use Rattle.mqtt5_base.specs.declared.quality.QoS.{QoS}
use Rattle.mqtt5_base.specs.declared.quality.QoS.TheVariants as quality
use Rattle.mqtt5_publish.specs.declared.publish.Publish.{Publish}
use Rattle.mqtt5_publish.specs.declared.puback.PubAckReason.{PubAckReason}
use Rattle.mqtt5_publish.specs.declared.puback.PubAckReason.TheVariants as reasons
use Rattle.mqtt5_control.specs.declared.connack.ConnAck.{ConnAck}
use Rattle.mqtt5_codec.specs.declared.packet.Packet.TheVariants as packets
use Rattle.mqtt5_inflight.specs.declared.event.Event.{Event}
use Rattle.mqtt5_inflight.specs.declared.event.Event.TheVariants as events
use Rattle.mqtt5_inflight.specs.declared.event.Request.TheVariants as requests
use Rattle.mqtt5_inflight.specs.declared.event.Request.{Request}
use Rattle.mqtt5_subscribe.specs.declared.suback.SubscribeReasonCode.{SubscribeReasonCode}
use Rattle.mqtt5_subscribe.specs.declared.suback.SubscribeReasonCode.TheVariants as subscribes
use Rattle.mqtt5_subscribe.specs.declared.unsuback.UnsubAckReason.{UnsubAckReason}
use Rattle.mqtt5_subscribe.specs.declared.unsuback.UnsubAckReason.TheVariants as ends
use Rattle.mqtt5_client.specs.declared.client.Client.{Client}
use Rattle.mqtt5_talk.specs.declared.error.TalkError.{TalkError}
use Rattle.mqtt5_talk.specs.declared.error.TalkError.TheVariants.{NotPublished}
use Rattle.mqtt5_talk.specs.declared.reason.ReasonText.{ReasonText}
use Rattle.mqtt5_talk.specs.TalkErrors.{unasked}
use Rattle.mqtt5_talk.specs.Conversation.{Saying, Asks, SendsOnly}

-- the first event is a ConnAck (MQTT 5.0 section 3.2)
abbrev pub IsAnswered : List Event → Type 0
IsAnswered told =
    (ack : ConnAck) × (rest : List Event) × (told ≡ events.Incoming (packets.ConnAck ack) ∷ rest)

-- the answer to a message by its QoS: none, a PubAck or a PubRec, with Success (4.3)
abbrev pub ack_under : QoS → ℕ → List Saying
ack_under quality.AtMostOnce id = []
ack_under quality.AtLeastOnce id =
    Asks (requests.PubAck (record { pkid = id; reason = reasons.Success; properties = None })) ∷ []
ack_under quality.ExactlyOnce id =
    Asks (requests.PubRec (record { pkid = id; reason = reasons.Success; properties = None })) ∷ []

abbrev pub ack_of : Publish → List Saying
ack_of p = ack_under p.qos p.pkid

-- the answers to messages, in order
abbrev pub acks_of : List Publish → List Saying
acks_of [] = []
acks_of (p ∷ ps) = ack_of p ++ acks_of ps

-- a screen that was given these messages, in order, and showed so many of them
abbrev pub ShowsAll : {S : Type 0} → (S → Publish → Bool → S → Type 0) → S → List Publish → ℕ → S
    → Type 0
ShowsAll shows s [] count t = (t ≡ s) × (count ≡ 0)
ShowsAll {S} shows s (p ∷ ps) count t =
    (is_shown : Bool) × (next : S) × (rest : ℕ) × shows s p is_shown next
    × ShowsAll shows next ps rest t × (count ≡ bit is_shown + rest)

-- a screen that was given these messages, in order, and maybe more after them
abbrev pub Showed : {S : Type 0} → (S → Publish → Bool → S → Type 0) → S → List Publish → Type 0
Showed {S} shows s ps = (count : ℕ) × (t : S) × ShowsAll shows s ps count t

-- A screen was given messages, in order, and nothing is said but their acks; after Ok those are all
-- that it was given, and it showed so many as is said of their number and of the answer.
abbrev pub Acknowledges : {S : Type 0} → (S → Publish → Bool → S → Type 0) → (ℕ → ℕ → Type 0)
    → Result ℕ TalkError → (held written : Option (List ℕ)) → (p q : Client) → (s t : S) → Type 0
Acknowledges shows AreSoMany result held written p q s t =
    (ps : List Publish) × SendsOnly held written p (acks_of ps) q × Showed shows s ps
    × IfOk result (λ n. (count : ℕ) × ShowsAll shows s ps count t × AreSoMany count n)

-- the reason string of an ack, where it has one (3.4.2.2.2, 3.5.2.2.2)
abbrev pub ack_text : Option AckProperties → ReasonText
ack_text None = record { text = None }
ack_text (Some set) = record { text = set.reason_string }

-- why the message of an id is refused, if it is (3.4.2.1, 3.5.2.1)
abbrev pub refusal_by : ℕ → PubAckReason → Option AckProperties → Option TalkError
refusal_by id reasons.Success properties = None
refusal_by id reasons.NoMatchingSubscribers properties = None
refusal_by id reason properties = Some (NotPublished id reason (ack_text properties))

-- the same of what happened, and that an Auth isn't awaited (4.12)
abbrev pub refusal_in : Event → Option TalkError
refusal_in (events.Incoming (packets.PubAck ack)) = refusal_by ack.pkid ack.reason ack.properties
refusal_in (events.Incoming (packets.PubRec ack)) = refusal_by ack.pkid ack.reason ack.properties
refusal_in (events.Incoming (packets.Auth auth)) = Some unasked
refusal_in event = None

-- a filter has its subscription (3.9.3)
abbrev pub IsSuccess : SubscribeReasonCode → Type 0
IsSuccess (subscribes.Success qos) = ⊤
IsSuccess code = ⊥

-- a filter has no subscription any more (3.11.3)
abbrev pub IsEnded : UnsubAckReason → Type 0
IsEnded ends.Success = ⊤
IsEnded ends.NoSubscriptionExisted = ⊤
IsEnded reason = ⊥

-- whether an event is a SubAck or an UnsubAck (3.9, 3.11)
abbrev pub is_answer : Event → Bool
is_answer (events.Incoming (packets.SubAck ack)) = true
is_answer (events.Incoming (packets.UnsubAck ack)) = true
is_answer event = false

-- an event refuses no filter, where it is a SubAck or an UnsubAck, and it is no Auth, for which
-- nobody asked (4.12)
abbrev pub IsGranted : Event → Type 0
IsGranted (events.Incoming (packets.SubAck ack)) = All IsSuccess ack.return_codes
IsGranted (events.Incoming (packets.UnsubAck ack)) = All IsEnded ack.reasons
IsGranted (events.Incoming (packets.Auth auth)) = ⊥
IsGranted event = ⊤

-- one request, or none
abbrev pub asked_by : Option Request → List Saying
asked_by None = []
asked_by (Some request) = Asks request ∷ []
