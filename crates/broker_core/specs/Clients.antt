-- Clients of a broker of QoS 0, and its answers to their packets (MQTT 5.0 sections 3.1 to 3.14).
use Rattle.std.specs.Prelude.{◌≡◌, ℕ, ◌==◌, nat_lt, nat_eq, Bool, true, false, not, ◌&&◌, List, []}
use Rattle.std.specs.Prelude.{◌∷◌, ◌++◌, length, map, filter, Option, Some, None, is_none, Result}
use Rattle.std.specs.Prelude.{Ok, Err, slice_index_or, slice_set, if◌then◌else◌}
use Rattle.std.specs.List.{list_any}
use Rattle.std.specs.Str.{is_utf8}
use Rattle.std.specs.Cmp.Lexicographic.{pointwise}
use Rattle.mqtt5_base.specs.declared.error.Error.{Error}
use Rattle.mqtt5_base.specs.declared.quality.QoS.{QoS}
use Rattle.mqtt5_base.specs.declared.quality.QoS.TheVariants.{AtMostOnce, AtLeastOnce, ExactlyOnce}
use Rattle.mqtt5_base.specs.Texts.{Utf8}
use Rattle.mqtt5_base.specs.Topics.{topic_matches, is_valid_filter, is_valid_topic}
use Rattle.mqtt5_publish.specs.declared.publish.Publish.{Publish}
use Rattle.mqtt5_publish.specs.declared.publish.PublishProperties.{PublishProperties}
use Rattle.mqtt5_subscribe.specs.declared.filter.Filter.{Filter}
use Rattle.mqtt5_subscribe.specs.declared.suback.SubscribeReasonCode.{SubscribeReasonCode}
use Rattle.mqtt5_subscribe.specs.declared.suback.SubscribeReasonCode.TheVariants as reason_codes
use Rattle.mqtt5_subscribe.specs.declared.subscribe.Subscribe.{Subscribe}
use Rattle.mqtt5_subscribe.specs.declared.unsuback.UnsubAckReason.{UnsubAckReason}
use Rattle.mqtt5_subscribe.specs.declared.unsuback.UnsubAckReason.TheVariants as unsuback_reasons
use Rattle.mqtt5_subscribe.specs.declared.unsubscribe.Unsubscribe.{Unsubscribe}
use Rattle.mqtt5_control.specs.declared.connack.ConnectReturnCode.TheVariants as return_codes
use Rattle.mqtt5_control.specs.declared.connack.ConnAckProperties.{ConnAckProperties}
use Rattle.mqtt5_control.specs.ConnAcks.{no_connack_properties}
use Rattle.mqtt5_codec.specs.declared.packet.Packet.{Packet}
use Rattle.mqtt5_codec.specs.declared.packet.Packet.TheVariants as packets
use Rattle.mqtt5_codec.specs.Packets.{packet_writing, IsFrameOf}
use Rattle.mqtt5_codec.specs.Codecs.{TakesFrame}
use Rattle.broker_core.specs.declared.error.BrokerError.{BrokerError}
use Rattle.broker_core.specs.declared.error.BrokerError.TheVariants as errors

-- whether it is connected, its topic filters, and the bytes that are to go to it
pub record Client : Type 0 where
  pub is_connected : Bool
  pub filters : List Utf8
  pub output : List ℕ

-- a client that has sent nothing
abbrev pub fresh : Client
fresh = record { is_connected = false; filters = []; output = [] }

-- ---- frames

-- bytes that can be written, or none
abbrev pub bytes_or_none : Result (List ℕ) Error → List ℕ
bytes_or_none (Ok bytes) = bytes
bytes_or_none (Err e) = []

-- a packet's frame (2.1)
unfoldable pub frame : Packet → List ℕ
frame p = bytes_or_none (packet_writing p)

-- a packet goes to a client
abbrev pub sent : Packet → Client → Client
sent p c = record c { output = c.output ++ frame p }

-- ---- answers

-- what a ConnAck offers: no session, retained message or publish above QoS 0, and no identifier of
-- a subscription or shared subscription (3.2.2.3)
abbrev pub offers : ConnAckProperties
offers = record no_connack_properties {
  session_expiry_interval = Some 0;
  max_qos = Some 0;
  retain_available = Some 0;
  subscription_identifiers_available = Some 0;
  shared_subscription_available = Some 0;
}

-- the answer to a Connect (3.2)
abbrev pub connack : Packet
connack =
    packets.ConnAck
    (record { session_present = false; code = return_codes.Success; properties = Some offers })

-- the filters that are kept: valid ones without no local (3.8.3)
abbrev pub is_kept : Filter → Bool
is_kept f = is_valid_filter f.path.bytes && not f.nolocal

-- what becomes of a filter (3.9.3)
abbrev pub reason_of : Filter → SubscribeReasonCode
reason_of f =
    if is_kept f then reason_codes.Success AtMostOnce
    else if f.nolocal then reason_codes.ImplementationSpecific
    else reason_codes.TopicFilterInvalid

-- the answer to a Subscribe, with a reason for each filter (3.9)
abbrev pub suback : Subscribe → Packet
suback s =
    packets.SubAck
    (record { pkid = s.pkid; return_codes = map reason_of s.filters; properties = None })

-- the filters of a Subscribe that are kept
abbrev pub kept_filters : List Filter → List Utf8
kept_filters fs = map (λ f. f.path) (filter is_kept fs)

-- whether two filters are the same text (3.10.4)
abbrev pub is_same : Utf8 → Utf8 → Bool
is_same f g = pointwise nat_eq g.bytes f.bytes

-- filters without one, and whether it was among them (3.11.3)
abbrev pub without : Utf8 → List Utf8 → List Utf8
without f fs = filter (λ g. not (is_same f g)) fs

abbrev pub had : Utf8 → List Utf8 → UnsubAckReason
had f fs =
    if list_any (is_same f) fs then unsuback_reasons.Success
    else unsuback_reasons.NoSubscriptionExisted

-- filters without some, one after the other, and what became of each (3.10.4)
abbrev pub without_all : List Utf8 → List Utf8 → List Utf8
without_all [] fs = fs
without_all (g ∷ gs) fs = without_all gs (without g fs)

abbrev pub had_all : List Utf8 → List Utf8 → List UnsubAckReason
had_all [] fs = []
had_all (g ∷ gs) fs = had g fs ∷ had_all gs (without g fs)

-- the answer to an Unsubscribe, with a reason for each filter (3.11)
abbrev pub unsuback : Unsubscribe → List Utf8 → Packet
unsuback u fs =
    packets.UnsubAck (record { pkid = u.pkid; reasons = had_all u.filters fs; properties = None })

-- a client that has ended: a publish reaches it no longer (3.14.4)
abbrev pub ended : Client → Client
ended c = record c { is_connected = false; filters = [] }

-- a client after its own packet, which isn't a publish
abbrev pub answered : Packet → Client → Client
answered (packets.Connect p will login) c = sent connack (record c { is_connected = true })
answered (packets.Subscribe s) c =
    sent (suback s) (record c { filters = c.filters ++ kept_filters s.filters })
answered (packets.Unsubscribe u) c =
    sent (unsuback u c.filters) (record c { filters = without_all u.filters c.filters })
answered (packets.PingReq p) c = sent (packets.PingResp (record {})) c
answered (packets.Disconnect p) c = ended c
answered other c = c

-- ---- refusals

-- no QoS above 0, no dup, no retained message, topic alias or subscription identifier
abbrev pub is_at_most_once : QoS → Bool
is_at_most_once AtMostOnce = true
is_at_most_once AtLeastOnce = false
is_at_most_once ExactlyOnce = false

abbrev pub are_offered : Option PublishProperties → Bool
are_offered None = true
are_offered (Some ps) = is_none ps.topic_alias && length ps.subscription_identifiers == 0

abbrev pub is_offered : Publish → Bool
is_offered p = is_at_most_once p.qos && not p.dup && not p.retain && are_offered p.properties

-- a topic is text (3.3.2.1) of a byte at least (4.7.3) and without a wildcard (4.7.1)
abbrev pub is_topic_text : List ℕ → Bool
is_topic_text t = not (length t == 0) && is_valid_topic t

abbrev pub is_topic : List ℕ → Bool
is_topic t = is_utf8 t && is_topic_text t

-- why a publish is refused
abbrev pub publish_refusal : Publish → Option BrokerError
publish_refusal p =
    if not (is_offered p) then Some errors.NotOffered else if is_topic p.topic then None
    else Some errors.InvalidTopic

-- why a packet that isn't a publish is refused from a client that is connected
abbrev pub connected_refusal : Packet → Option BrokerError
connected_refusal (packets.Connect p will login) = Some errors.ConnectedTwice
connected_refusal (packets.Subscribe p) = None
connected_refusal (packets.Unsubscribe p) = None
connected_refusal (packets.PingReq p) = None
connected_refusal (packets.Disconnect p) = None
connected_refusal other = Some errors.UnexpectedPacket

-- and from one that isn't: only a Connect is taken (3.1.0)
abbrev pub first_refusal : Packet → Option BrokerError
first_refusal (packets.Connect p will login) = None
first_refusal other = Some errors.NotConnected

-- from a client
abbrev pub answer_refusal : Packet → Client → Option BrokerError
answer_refusal p c = if c.is_connected then connected_refusal p else first_refusal p

-- why any packet of a client is refused
abbrev pub refusal : Packet → Client → Option BrokerError
refusal (packets.Publish p) c =
    if c.is_connected then publish_refusal p else Some errors.NotConnected
refusal p c = answer_refusal p c

-- a fault of reading or writing
abbrev pub IsFault : BrokerError → Type 0
IsFault (errors.Codec e) = Unit {0}
IsFault other = ⊥

-- ---- routing

-- a topic matches one of a client's filters (4.7)
abbrev pub is_reached : List ℕ → Client → Bool
is_reached topic c = list_any (λ f. topic_matches topic f.bytes) c.filters

-- a packet goes once to a client that a topic reaches, and to no other (3.3.4)
abbrev pub passed : List ℕ → Packet → Client → Client
passed topic p c = if is_reached topic c then sent p c else c

-- the client of a number
abbrev pub client_of : ℕ → List Client → Client
client_of id cs = slice_index_or cs id fresh

-- the clients, of which that of a number was changed
abbrev pub with_client : ℕ → (Client → Client) → List Client → List Client
with_client id change cs = slice_set cs id (change (client_of id cs))

-- the clients after a packet of one of them
abbrev pub served : ℕ → Packet → List Client → List Client
served id (packets.Publish p) cs = map (passed p.topic (packets.Publish p)) cs
served id p cs = with_client id (answered p) cs

-- why a packet of one of them is refused
abbrev pub refusal_of : ℕ → Packet → List Client → Option BrokerError
refusal_of id p cs =
    if nat_lt id (length cs) then refusal p (client_of id cs) else Some (errors.UnknownClient id)

-- ---- streams

-- packets are taken from the front of a stream, one after the other, and this is left (2.1)
abbrev pub AreTaken : Option ℕ → List Packet → List ℕ → List ℕ → Type 0
AreTaken limit [] old new = new ≡ old
AreTaken limit (p ∷ ps) old new =
    (between : List ℕ) × TakesFrame (λ frame. IsFrameOf frame p) limit old between
    × AreTaken limit ps between new

-- packets of a client are served, one after the other, and none is refused
abbrev pub AreServed : ℕ → List Packet → List Client → List Client → Type 0
AreServed id [] old new = new ≡ old
AreServed id (p ∷ ps) old new = (refusal_of id p old ≡ None) × AreServed id ps (served id p old) new
