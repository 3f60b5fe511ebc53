-- What a broker makes of a Subscribe and of an Unsubscribe, and which packets are of which kind
-- (MQTT 5.0 sections 3.8 to 3.11).
use Rattle.std.specs.Prelude.{ℕ, Bool, true, false, not, ◌&&◌, List, [], ◌∷◌, map, filter}
use Rattle.std.specs.Prelude.{◌+◌, ◌==◌, nat_eq, drop, Option, Some, None, codes}
use Rattle.std.specs.Prelude.{if◌then◌else◌}
use Rattle.std.specs.List.{list_any, position, starts_with}
use Rattle.mqtt5_base.specs.Texts.{Utf8, text_of}
use Rattle.mqtt5_subscribe.specs.declared.filter.Filter.{Filter}
use Rattle.mqtt5_subscribe.specs.declared.subscribe.SubscribeProperties.{SubscribeProperties}
use Rattle.mqtt5_subscribe.specs.declared.suback.SubscribeReasonCode.{SubscribeReasonCode}
use Rattle.mqtt5_subscribe.specs.declared.suback.SubscribeReasonCode.TheVariants as codes
use Rattle.mqtt5_subscribe.specs.declared.unsuback.UnsubAckReason.{UnsubAckReason}
use Rattle.mqtt5_subscribe.specs.declared.unsuback.UnsubAckReason.TheVariants as reasons
use Rattle.mqtt5_codec.specs.declared.packet.Packet.{Packet}
use Rattle.mqtt5_codec.specs.declared.packet.Packet.TheVariants as packets
use Rattle.mqtt5_network.specs.Connection.{is_sending}
use Rattle.mqtt5_network.specs.declared.subscription.Share.{Share}
use Rattle.mqtt5_network.specs.declared.subscription.Subscription.{Subscription}
use Rattle.mqtt5_network.specs.Subscriptions.{is_of, subscribed, unsubscribed}

-- ---- a Subscribe and an Unsubscribe

-- the identifier that a Subscribe says for its subscriptions, if it says one (3.8.2.1.2)
abbrev pub identifier_of : Option SubscribeProperties → Option ℕ
identifier_of None = None
identifier_of (Some set) = set.id

-- where the first slash stands
abbrev pub slash_in : List ℕ → Option ℕ
slash_in bytes = position (λ b. b == 47) bytes

-- what stands behind `$share/`, a share name and a slash, if a filter begins so (4.8.2)
abbrev pub behind : Option ℕ → List ℕ → Option (List ℕ)
behind None rest = None
behind (Some n) rest = Some (drop (n + 1) rest)

abbrev pub behind_name : List ℕ → Option (List ℕ)
behind_name rest = behind (slash_in rest) rest

abbrev pub shared_filter : List ℕ → Option (List ℕ)
shared_filter bytes =
    if starts_with nat_eq bytes (codes "$share/") then behind_name (drop 7 bytes) else None

-- the client's part in a shared subscription, of which it isn't its turn yet
abbrev pub share_in : Option (List ℕ) → Option Share
share_in None = None
share_in (Some bytes) = Some (record { topic_filter = text_of bytes; turn = false })

abbrev pub share_of : Utf8 → Option Share
share_of topic_filter = share_in (shared_filter topic_filter.bytes)

-- a filter as the subscription that is made of it: what is asked for is granted (3.8.3.1)
abbrev pub subscription_of : Option ℕ → Filter → Subscription
subscription_of identifier f = record {
  topic_filter = f.path;
  granted = f.qos;
  no_local = f.nolocal;
  retain_as_published = f.preserve_retain;
  identifier = identifier;
  share = share_of f.path;
}

-- so each of them, in order (3.8.4)
abbrev pub subscribed_all : Option ℕ → List Filter → List Subscription → List Subscription
subscribed_all identifier [] ss = ss
subscribed_all identifier (f ∷ fs) ss =
    subscribed_all identifier fs (subscribed (subscription_of identifier f) ss)

-- the code of a filter: the QoS that is granted (3.9.3)
abbrev pub code_of : Filter → SubscribeReasonCode
code_of f = codes.Success f.qos

-- those of these filters are taken out, in order (3.10.4)
abbrev pub unsubscribed_all : List Utf8 → List Subscription → List Subscription
unsubscribed_all [] ss = ss
unsubscribed_all (f ∷ fs) ss = unsubscribed_all fs (unsubscribed f ss)

-- whether there was one to take out (3.11.3)
abbrev pub reason_of : Utf8 → List Subscription → UnsubAckReason
reason_of f ss =
    if list_any (is_of f) ss then reasons.Success else reasons.NoSubscriptionExisted

-- of each, in order (3.11.3)
abbrev pub reasons_of : List Utf8 → List Subscription → List UnsubAckReason
reasons_of [] ss = []
reasons_of (f ∷ fs) ss = reason_of f ss ∷ reasons_of fs (unsubscribed f ss)

-- the subscriptions after a packet of the client (3.8.4, 3.10.4)
abbrev pub subscriptions_after : List Subscription → Packet → List Subscription
subscriptions_after ss (packets.Subscribe p) =
    subscribed_all (identifier_of p.properties) p.filters ss
subscriptions_after ss (packets.Unsubscribe p) = unsubscribed_all p.filters ss
subscriptions_after ss other = ss

-- and the answer to it (3.9, 3.11)
abbrev pub answer_of : List Subscription → Packet → Option Packet
answer_of ss (packets.Subscribe p) = Some (packets.SubAck (record {
  pkid = p.pkid;
  return_codes = map code_of p.filters;
  properties = None;
}))
answer_of ss (packets.Unsubscribe p) = Some (packets.UnsubAck (record {
  pkid = p.pkid;
  reasons = reasons_of p.filters ss;
  properties = None;
}))
answer_of ss other = None

-- ---- kinds

-- whether a packet is the ack of a publish or of a release (4.3)
abbrev pub is_ack : Packet → Bool
is_ack (packets.PubAck p) = true
is_ack (packets.PubRec p) = true
is_ack (packets.PubComp p) = true
is_ack other = false

-- of the packets of a way, the acks
abbrev pub acks : List Packet → List Packet
acks way = filter is_ack way

-- and those that are neither acks nor sent by a sender: of what a client and its broker send, they
-- are about subscriptions
abbrev pub others : List Packet → List Packet
others way = filter (λ x. not (is_sending x) && not (is_ack x)) way
