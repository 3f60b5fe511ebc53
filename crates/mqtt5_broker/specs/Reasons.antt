-- What a client is told in words of why it is refused (MQTT 5.0 sections 3.2.2.3.9 and 3.14.2.2.3).
use Rattle.std.specs.Prelude.{ℕ, Bool, false, List, Option, Some, None, if◌then◌else◌, nat_lt, codes}
use Rattle.mqtt5_base.specs.Texts.{text_of}
use Rattle.mqtt5_control.specs.ConnAcks.{no_connack_properties}
use Rattle.mqtt5_control.specs.Disconnects.{no_disconnect_properties}
use Rattle.mqtt5_control.specs.declared.connack.ConnectReturnCode.{ConnectReturnCode}
use Rattle.mqtt5_control.specs.declared.connack.ConnectReturnCode.TheVariants as return_codes
use Rattle.mqtt5_control.specs.declared.disconnect.DisconnectReasonCode.{DisconnectReasonCode}
use Rattle.mqtt5_control.specs.declared.disconnect.DisconnectReasonCode.TheVariants as reasons
use Rattle.mqtt5_codec.specs.Packets.{packet_len}
use Rattle.mqtt5_codec.specs.declared.packet.Packet.{Packet}
use Rattle.mqtt5_codec.specs.declared.packet.Packet.TheVariants as packets

-- whether a packet is longer than a client takes (3.1.2.11.4)
abbrev pub is_too_long : Option ℕ → Packet → Bool
is_too_long None p = false
is_too_long (Some max) p = nat_lt max (packet_len p)

-- the one that says why, unless it is, and then the other
abbrev pub fitting : Option ℕ → Packet → Packet → Packet
fitting longest explained bare = if is_too_long longest explained then bare else explained

-- ---- the end of a connection

-- why it ends
abbrev pub why : DisconnectReasonCode → List ℕ
why reasons.MalformedPacket = codes "bytes that are no packet"
why reasons.ProtocolError = codes "a packet that may not come now, or that says what it may not"
why reasons.ServerShuttingDown = codes "the server ends"
why reasons.KeepAliveTimeout = codes "nothing came for one and a half times the keep alive"
why reasons.SessionTakenOver = codes "another connection has this client identifier now"
why reasons.TopicFilterInvalid = codes "a topic filter that is none"
why reasons.TopicNameInvalid = codes "a topic name that is none"
why reasons.TopicAliasInvalid = codes "a topic alias of 0, or over the topic alias maximum"
why reasons.PacketTooLarge = codes "a packet over the maximum packet size"
why reasons.QuotaExceeded = codes "more than the server keeps"
why other = codes "the server ends this connection"

-- a Disconnect (3.14)
abbrev pub disconnect : DisconnectReasonCode → Packet
disconnect reason = packets.Disconnect (record { reason_code = reason; properties = None })

-- one that says why (3.14.2.2.3)
abbrev pub explained_disconnect : DisconnectReasonCode → Packet
explained_disconnect reason =
    packets.Disconnect
    (record {
      reason_code = reason;
      properties =
          Some (record no_disconnect_properties { reason_string = Some (text_of (why reason)) });
    })

-- what a client is told that takes packets of this length at most
abbrev pub farewell : Option ℕ → DisconnectReasonCode → Packet
farewell longest reason = fitting longest (explained_disconnect reason) (disconnect reason)

-- ---- a Connect that is refused

-- why it is
abbrev pub why_refused : ConnectReturnCode → List ℕ
why_refused return_codes.ProtocolError =
    codes "a receive maximum or a maximum packet size of 0"
why_refused return_codes.ClientIdentifierNotValid =
    codes "this client identifier has a session of another user"
why_refused return_codes.NotAuthorized = codes "the topic of the will isn't allowed"
why_refused return_codes.ServerBusy = codes "the next client identifier is in use"
why_refused return_codes.BadAuthenticationMethod = codes "there is no extended authentication"
why_refused return_codes.TopicNameInvalid = codes "the topic of the will is none"
why_refused return_codes.PacketTooLarge =
    codes "the maximum packet size is shorter than the answer"
why_refused return_codes.QuotaExceeded = codes "the server has as many clients as it keeps"
why_refused other = codes "the server doesn't take this client"

-- the answer to it (3.2.2.2)
abbrev pub refusal : ConnectReturnCode → Packet
refusal code =
    packets.ConnAck (record { session_present = false; code = code; properties = None })

-- one that says why (3.2.2.3.9)
abbrev pub explained_refusal : ConnectReturnCode → Packet
explained_refusal code =
    packets.ConnAck
    (record {
      session_present = false;
      code = code;
      properties =
          Some (record no_connack_properties { reason_string = Some (text_of (why_refused code)) });
    })

-- what a client is told that takes packets of this length at most
abbrev pub rejection : Option ℕ → ConnectReturnCode → Packet
rejection longest code = fitting longest (explained_refusal code) (refusal code)
