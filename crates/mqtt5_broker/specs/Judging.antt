-- Which packets a broker refuses, and why (MQTT 5.0 sections 3.1.4, 3.14.2.1 and 4.13).
use Rattle.std.specs.Prelude.{ℕ, ◌+◌, ◌==◌, Bool, true, false, not, ◌||◌, ◌&&◌, List, length, take}
use Rattle.std.specs.Prelude.{drop, Option, Some, None, is_some, if◌then◌else◌, nat_eq, nat_lt}
use Rattle.std.specs.Prelude.{codes}
use Rattle.std.specs.List.{list_any, starts_with}
use Rattle.std.specs.Str.{is_utf8}
use Rattle.mqtt5_base.specs.Topics.{is_valid_filter, is_valid_topic}
use Rattle.mqtt5_publish.specs.declared.publish.Publish.{Publish}
use Rattle.mqtt5_publish.specs.declared.publish.PublishProperties.{PublishProperties}
use Rattle.mqtt5_subscribe.specs.declared.filter.Filter.{Filter}
use Rattle.mqtt5_subscribe.specs.declared.subscribe.Subscribe.{Subscribe}
use Rattle.mqtt5_subscribe.specs.declared.subscribe.SubscribeProperties.{SubscribeProperties}
use Rattle.mqtt5_network.specs.Asking.{slash_in}
use Rattle.mqtt5_connect.specs.declared.connect.Connect.{Connect}
use Rattle.mqtt5_connect.specs.declared.connect.ConnectProperties.{ConnectProperties}
use Rattle.mqtt5_connect.specs.declared.will.LastWill.{LastWill}
use Rattle.mqtt5_control.specs.declared.connack.ConnectReturnCode.{ConnectReturnCode}
use Rattle.mqtt5_control.specs.declared.connack.ConnectReturnCode.TheVariants as return_codes
use Rattle.mqtt5_control.specs.declared.disconnect.DisconnectProperties.{DisconnectProperties}
use Rattle.mqtt5_control.specs.declared.disconnect.DisconnectReasonCode.{DisconnectReasonCode}
use Rattle.mqtt5_control.specs.declared.disconnect.DisconnectReasonCode.TheVariants as reasons
use Rattle.mqtt5_codec.specs.declared.packet.Packet.{Packet}
use Rattle.mqtt5_codec.specs.declared.packet.Packet.TheVariants as packets

-- ---- publishes

-- text of a byte at least (4.7.3), without a wildcard (4.7.1)
abbrev pub is_topic_text : List ℕ → Bool
is_topic_text t = not (length t == 0) && is_valid_topic t

-- a topic (3.3.2.1)
abbrev pub is_topic : List ℕ → Bool
is_topic t = is_utf8 t && is_topic_text t

-- its properties: no topic alias that the broker doesn't take (3.3.2.3.4), and no subscription
-- identifier, which no client sends (3.3.4)
abbrev pub properties_fault : Option PublishProperties → Option DisconnectReasonCode
properties_fault None = None
properties_fault (Some set) =
    if is_some set.topic_alias then Some reasons.TopicAliasInvalid
    else if length set.subscription_identifiers == 0 then None else Some reasons.ProtocolError

-- the one, if there is one, and otherwise the other
abbrev pub first_of : Option DisconnectReasonCode → Option DisconnectReasonCode
    → Option DisconnectReasonCode
first_of (Some reason) other = Some reason
first_of None other = other

-- one of no byte is a protocol error: with it comes an alias that isn't known, or none (3.3.2.1,
-- 3.3.2.3.4)
abbrev pub topic_fault : List ℕ → Option DisconnectReasonCode
topic_fault t =
    if length t == 0 then Some reasons.ProtocolError
    else if is_topic t then None else Some reasons.TopicNameInvalid

abbrev pub publish_fault : Publish → Option DisconnectReasonCode
publish_fault p = first_of (properties_fault p.properties) (topic_fault p.topic)

-- ---- subscriptions

-- whether a number that may be left out is 0
abbrev pub is_zero : Option ℕ → Bool
is_zero None = false
is_zero (Some n) = n == 0

-- that of a shared subscription (4.8.2)
abbrev pub is_shared : Filter → Bool
is_shared f = starts_with nat_eq f.path.bytes (codes "$share/")

-- a share name has a byte at least, and no wildcard (4.8.2)
abbrev pub is_wildcard : ℕ → Bool
is_wildcard b = b == 35 || b == 43

abbrev pub is_share_name : List ℕ → Bool
is_share_name name = not (length name == 0) && not (list_any is_wildcard name)

-- so many bytes are one, and others stand behind the slash
abbrev pub is_share_at : Option ℕ → List ℕ → Bool
is_share_at None bytes = false
is_share_at (Some n) bytes = nat_lt (n + 1) (length bytes) && is_share_name (take n bytes)

abbrev pub is_share : List ℕ → Bool
is_share bytes = is_share_at (slash_in bytes) bytes

-- no filter (4.7, 4.8.2)
abbrev pub is_malformed : Filter → Bool
is_malformed f =
    not (is_valid_filter f.path.bytes) || (is_shared f && not (is_share (drop 7 f.path.bytes)))

-- a shared subscription with No Local (3.8.3.1)
abbrev pub is_local_share : Filter → Bool
is_local_share f = f.nolocal && is_shared f

-- a subscription identifier is 1 at least (3.8.2.1.2)
abbrev pub identifier_fault : Option SubscribeProperties → Option DisconnectReasonCode
identifier_fault None = None
identifier_fault (Some set) = if is_zero set.id then Some reasons.ProtocolError else None

abbrev pub filters_fault : List Filter → Option DisconnectReasonCode
filters_fault fs =
    if list_any is_malformed fs then Some reasons.TopicFilterInvalid
    else if list_any is_local_share fs then Some reasons.ProtocolError else None

abbrev pub subscribe_fault : Subscribe → Option DisconnectReasonCode
subscribe_fault s = first_of (identifier_fault s.properties) (filters_fault s.filters)

-- ---- any packet of a client that is connected (3.1.0, 4.12, 4.13.1)

abbrev pub packet_fault : Packet → Option DisconnectReasonCode
packet_fault (packets.Publish p) = publish_fault p
packet_fault (packets.Subscribe s) = subscribe_fault s
packet_fault (packets.Unsubscribe u) = None
packet_fault (packets.PubAck a) = None
packet_fault (packets.PubRec a) = None
packet_fault (packets.PubRel a) = None
packet_fault (packets.PubComp a) = None
packet_fault (packets.PingReq r) = None
packet_fault (packets.Disconnect d) = None
packet_fault other = Some reasons.ProtocolError

-- a number that is 0 where it is left out
abbrev pub is_zero_or_none : Option ℕ → Bool
is_zero_or_none None = true
is_zero_or_none (Some n) = n == 0

-- after how many seconds the session is to end now, if a Disconnect says that (3.14.2.2.2)
abbrev pub new_expiry : Option DisconnectProperties → Option ℕ
new_expiry None = None
new_expiry (Some set) = set.session_expiry_interval

-- a session that ends with its connection can't stay by it
abbrev pub expiry_fault : Bool → Option ℕ → Option DisconnectReasonCode
expiry_fault stays expiry =
    if stays || is_zero_or_none expiry then None else Some reasons.ProtocolError

abbrev pub goodbye_fault : Bool → Packet → Option DisconnectReasonCode
goodbye_fault stays (packets.Disconnect d) = expiry_fault stays (new_expiry d.properties)
goodbye_fault stays other = None

-- any packet of a client whose session stays when its connection ends, or doesn't
abbrev pub client_fault : Bool → Packet → Option DisconnectReasonCode
client_fault stays x = first_of (packet_fault x) (goodbye_fault stays x)

-- ---- a Connect (3.1.2.11.3, 3.1.2.11.4, 3.1.3.1, 4.12)

-- too short for the answer to a Connect, which has up to ten bytes, and up to 38 with a name that is
-- given
abbrev pub is_short : ℕ → Option ℕ → Bool
is_short least None = false
is_short least (Some n) = nat_lt n least

abbrev pub settings_fault : ℕ → Option ConnectProperties → Option ConnectReturnCode
settings_fault least None = None
settings_fault least (Some set) =
    if is_zero set.receive_maximum || is_zero set.max_packet_size
    then Some return_codes.ProtocolError
    else if is_short least set.max_packet_size then Some return_codes.PacketTooLarge
    else if is_some set.authentication_method then Some return_codes.BadAuthenticationMethod
    else None

-- a will's topic is one (3.1.3.3)
abbrev pub will_fault : Option LastWill → Option ConnectReturnCode
will_fault None = None
will_fault (Some w) = if is_topic w.topic then None else Some return_codes.TopicNameInvalid

-- the one, if there is one, and otherwise the other
abbrev pub first_code : Option ConnectReturnCode → Option ConnectReturnCode
    → Option ConnectReturnCode
first_code (Some code) other = Some code
first_code None other = other

-- the length that the answer needs
abbrev pub answer_length : Connect → ℕ
answer_length k = if length k.client_id.bytes == 0 then 44 else 16

abbrev pub connect_fault : Connect → Option LastWill → Option ConnectReturnCode
connect_fault k will =
    first_code (will_fault will) (settings_fault (answer_length k) k.properties)
