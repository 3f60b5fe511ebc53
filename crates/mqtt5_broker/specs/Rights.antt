-- What the users of a broker may publish and subscribe to, which are topics within the topic filters
-- that each has, and what is answered to more than that (MQTT 5.0 sections 3.4.2.1, 3.5.2.1, 3.9.3,
-- 4.7, 4.8.2 and 5.4.2).
use Rattle.std.specs.Prelude.{ℕ, Bool, true, ◌&&◌, List, [], ◌∷◌, ◌++◌, map, filter, Option, Some, None}
use Rattle.std.specs.Prelude.{slice_index_or, slice_set, if◌then◌else◌}
use Rattle.std.specs.List.{list_all, list_any}
use Rattle.std.specs.Str.{is_utf8}
use Rattle.mqtt5_base.specs.Texts.{Utf8, text_of}
use Rattle.mqtt5_base.specs.Topics.{topic_matches}
use Rattle.mqtt5_base.specs.declared.quality.QoS.{QoS}
use Rattle.mqtt5_base.specs.declared.quality.QoS.TheVariants as qualities
use Rattle.mqtt5_publish.specs.declared.puback.PubAckReason.TheVariants as ack_reasons
use Rattle.mqtt5_subscribe.specs.declared.filter.Filter.{Filter}
use Rattle.mqtt5_subscribe.specs.declared.subscribe.Subscribe.{Subscribe}
use Rattle.mqtt5_subscribe.specs.declared.suback.SubscribeReasonCode.{SubscribeReasonCode}
use Rattle.mqtt5_subscribe.specs.declared.suback.SubscribeReasonCode.TheVariants as codes
use Rattle.mqtt5_connect.specs.declared.will.LastWill.{LastWill}
use Rattle.mqtt5_control.specs.declared.connack.ConnectReturnCode.{ConnectReturnCode}
use Rattle.mqtt5_control.specs.declared.connack.ConnectReturnCode.TheVariants as return_codes
use Rattle.mqtt5_codec.specs.declared.packet.Packet.{Packet}
use Rattle.mqtt5_codec.specs.declared.packet.Packet.TheVariants as packets
use Rattle.mqtt5_network.specs.Subscriptions.{pattern_in}
use Rattle.mqtt5_network.specs.Asking.{share_of, code_of}

-- of a user: the filters within which it publishes, and those within which it subscribes
pub record Rights : Type 0 where
  pub publishes : List Utf8
  pub subscribes : List Utf8

-- nothing
abbrev pub no_rights : Rights
no_rights = record { publishes = []; subscribes = [] }

-- with one filter more
abbrev pub publishing : List ℕ → Rights → Rights
publishing f r = record r { publishes = r.publishes ++ text_of f ∷ [] }

abbrev pub subscribing : List ℕ → Rights → Rights
subscribing f r = record r { subscribes = r.subscribes ++ text_of f ∷ [] }

-- those of a user; a number that no user has may do nothing
abbrev pub rights_at : ℕ → List Rights → Rights
rights_at u rs = slice_index_or rs u no_rights

-- they change
abbrev pub with_rights : ℕ → (Rights → Rights) → List Rights → List Rights
with_rights u f rs = slice_set rs u (f (rights_at u rs))

-- ---- what a user may do

-- whether a topic matches one of these filters, or a topic filter lies within one: then each topic
-- that it matches, the other matches too (4.7)
abbrev pub is_within : List ℕ → List Utf8 → Bool
is_within t fs = list_any (λ f. topic_matches t f.bytes) fs

-- who connects as no user may publish and subscribe to everything
abbrev pub may_publish : Option ℕ → List Rights → List ℕ → Bool
may_publish None rs t = true
may_publish (Some u) rs t = is_utf8 t && is_within t (rights_at u rs).publishes

-- of a shared subscription by the filter behind the share name (4.8.2)
abbrev pub asked_pattern : Filter → Utf8
asked_pattern f = pattern_in (share_of f.path) f.path

abbrev pub may_subscribe : Option ℕ → List Rights → Filter → Bool
may_subscribe None rs f = true
may_subscribe (Some u) rs f = is_within (asked_pattern f).bytes (rights_at u rs).subscribes

-- whether it may do all that a packet asks for
abbrev pub may_do : Option ℕ → List Rights → Packet → Bool
may_do user rs (packets.Publish p) = may_publish user rs p.topic
may_do user rs (packets.Subscribe s) = list_all (may_subscribe user rs) s.filters
may_do user rs other = true

-- ---- what is answered

-- to a publish that it may not publish; of QoS 0 nothing
abbrev pub denial : QoS → ℕ → Option Packet
denial qualities.AtMostOnce id = None
denial qualities.AtLeastOnce id = Some (packets.PubAck (record {
  pkid = id;
  reason = ack_reasons.NotAuthorized;
  properties = None;
}))
denial qualities.ExactlyOnce id = Some (packets.PubRec (record {
  pkid = id;
  reason = ack_reasons.NotAuthorized;
  properties = None;
}))

-- to each filter of a Subscribe
abbrev pub code_for : Option ℕ → List Rights → Filter → SubscribeReasonCode
code_for user rs f = if may_subscribe user rs f then code_of f else codes.NotAuthorized

abbrev pub suback_for : Option ℕ → List Rights → Subscribe → Packet
suback_for user rs s = packets.SubAck (record {
  pkid = s.pkid;
  return_codes = map (code_for user rs) s.filters;
  properties = None;
})

-- and the Subscribe without those to which it may not subscribe
abbrev pub part_of : Option ℕ → List Rights → Subscribe → Subscribe
part_of user rs s = record s { filters = filter (may_subscribe user rs) s.filters }

-- to a Connect with a will that it may not publish
abbrev pub will_denial : Option ℕ → List Rights → Option LastWill → Option ConnectReturnCode
will_denial user rs None = None
will_denial user rs (Some w) =
    if may_publish user rs w.topic then None else Some return_codes.NotAuthorized
