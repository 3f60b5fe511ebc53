-- The requests of C's arguments, and what a call leaves that makes one.
use Rattle.std.specs.Prelude.{◌≡◌, ◌<◌, ◌⊎◌, ℕ, ◌==◌, Bool, true, false, ◌&&◌, List, [], ◌∷◌}
use Rattle.std.specs.Prelude.{length, Option, None, is_none}
use Rattle.mqtt5_base.specs.Texts.{Utf8}
use Rattle.mqtt5_base.specs.Views.{qos_number}
use Rattle.mqtt5_base.specs.declared.quality.QoS.{QoS}
use Rattle.mqtt5_publish.specs.declared.puback.PubAckReason.TheVariants as puback_reasons
use Rattle.mqtt5_subscribe.specs.declared.filter.Filter.{Filter}
use Rattle.mqtt5_subscribe.specs.declared.filter.RetainForwardRule.TheVariants as rules
use Rattle.mqtt5_base.specs.declared.property.Property.{Property}
use Rattle.mqtt5_base.specs.Grammar.{Entry}
use Rattle.mqtt5_publish.specs.declared.publish.Publish.{Publish}
use Rattle.mqtt5_publish.specs.declared.publish.PublishProperties.{PublishProperties}
use Rattle.mqtt5_publish.specs.Publishes.{publish_found}
use Rattle.mqtt5_publish.specs.Rows.{publish_table}
use Rattle.mqtt5_subscribe.specs.declared.subscribe.Subscribe.{Subscribe}
use Rattle.mqtt5_subscribe.specs.declared.subscribe.SubscribeProperties.{SubscribeProperties}
use Rattle.mqtt5_subscribe.specs.Subscribes.{subscribe_found}
use Rattle.mqtt5_subscribe.specs.declared.unsubscribe.Unsubscribe.{Unsubscribe}
use Rattle.mqtt5_subscribe.specs.declared.unsubscribe.UnsubscribeProperties.{UnsubscribeProperties}
use Rattle.mqtt5_subscribe.specs.Unsubscribes.{unsubscribe_found}
use Rattle.mqtt5_subscribe.specs.Rows.{subscribe_table, unsubscribe_table}
use Rattle.mqtt5_properties.specs.Gathering.{gathered, IsSet}
use Rattle.mqtt5_inflight.specs.Aliases.{alias_in}
use Rattle.mqtt5_inflight.specs.declared.event.Request.{Request}
use Rattle.mqtt5_inflight.specs.declared.event.Request.TheVariants as requests
use Rattle.mqtt5_holder.specs.declared.holder.Holder.{Holder}
use Rattle.mqtt5_c.specs.Topics.{IsTopicName, IsTopicFilter}
use Rattle.mqtt5_c.specs.Calls.{Called, Asks}
use Rattle.mqtt5_c.specs.Numbers.{bad_argument, out_of_memory}

-- a topic that no publish has (MQTT 5.0 section 4.7), or a QoS above 2 (3.3.1.2)
abbrev pub IsBadTopic : List ℕ → ℕ → Type 0
IsBadTopic topic quality = ¬ (IsTopicName topic) ⊎ (2 < quality)

-- whether a topic is empty, and no topic alias of these properties stands for it (3.3.2.1,
-- 3.3.2.3.4)
abbrev pub lacks_topic : List ℕ → Option PublishProperties → Bool
lacks_topic topic set = is_none (alias_in set) && (length topic == 0)

-- the same of the set that these properties give
abbrev pub LacksTopic : List ℕ → List Property → Type 0
LacksTopic topic properties =
    (set : Option PublishProperties) × IsSet publish_found publish_table properties set
    × (lacks_topic topic set ≡ true)

-- what is no topic filter (4.7), or a QoS above 2 (3.8.3.1)
abbrev pub IsBadFilter : List ℕ → ℕ → Type 0
IsBadFilter filter quality = ¬ (IsTopicFilter filter) ⊎ (2 < quality)

-- a Publish of this topic, payload, QoS and retain, without properties, whose packet identifier the
-- session gives (3.3)
abbrev pub IsPlainPublish : List ℕ → List ℕ → ℕ → Bool → Publish → Type 0
IsPlainPublish topic payload quality retain p =
    (q : QoS) × (qos_number q ≡ quality)
    × (p
    ≡ record {
      dup = false;
      qos = q;
      retain = retain;
      topic = topic;
      pkid = 0;
      payload = payload;
      properties = None;
    })

-- the same with these properties (3.3.2.3)
abbrev pub IsPublish : List ℕ → List ℕ → ℕ → Bool → List Property → Request → Type 0
IsPublish topic payload quality retain properties request =
    IsTopicName topic × (p : Publish) × (set : Option PublishProperties)
    × IsPlainPublish topic payload quality retain p
    × IsSet publish_found publish_table properties set × (lacks_topic topic set ≡ false)
    × (request ≡ requests.Publish (record p { properties = set }))

-- a topic filter whose options but the QoS are 0 (3.8.3.1)
abbrev pub plain_filter : Utf8 → QoS → Filter
plain_filter path q = record {
  path = path;
  qos = q;
  nolocal = false;
  preserve_retain = false;
  retain_forward_rule = rules.OnEverySubscribe;
}

-- a Subscribe to this filter alone, with this QoS (3.8)
abbrev pub IsPlainSubscribe : List ℕ → ℕ → Subscribe → Type 0
IsPlainSubscribe filter quality s =
    (q : QoS) × (path : Utf8) × (qos_number q ≡ quality) × (path.bytes ≡ filter)
    × (s ≡ record { pkid = 0; filters = plain_filter path q ∷ []; properties = None })

-- the same with these properties (3.8.2.1)
abbrev pub IsSubscribe : List ℕ → ℕ → List Property → Request → Type 0
IsSubscribe filter quality properties request =
    IsTopicFilter filter × (s : Subscribe) × (set : Option SubscribeProperties)
    × IsPlainSubscribe filter quality s
    × IsSet subscribe_found subscribe_table properties set
    × (request ≡ requests.Subscribe (record s { properties = set }))

-- an Unsubscribe of this filter alone (3.10)
abbrev pub IsPlainUnsubscribe : List ℕ → Unsubscribe → Type 0
IsPlainUnsubscribe filter u =
    (path : Utf8) × (path.bytes ≡ filter)
    × (u ≡ record { pkid = 0; filters = path ∷ []; properties = None })

-- the same with these properties (3.10.2.1)
abbrev pub IsUnsubscribe : List ℕ → List Property → Request → Type 0
IsUnsubscribe filter properties request =
    IsTopicFilter filter × (u : Unsubscribe) × (set : Option UnsubscribeProperties)
    × IsPlainUnsubscribe filter u
    × IsSet unsubscribe_found unsubscribe_table properties set
    × (request ≡ requests.Unsubscribe (record u { properties = set }))

-- a PubAck of success (3.4)
abbrev pub puback_of : ℕ → Request
puback_of pkid =
    requests.PubAck (record { pkid = pkid; reason = puback_reasons.Success; properties = None })

-- a PubRec of success (3.5)
abbrev pub pubrec_of : ℕ → Request
pubrec_of pkid =
    requests.PubRec (record { pkid = pkid; reason = puback_reasons.Success; properties = None })

-- the number of a call whose arguments are bad, or to whose request memory is refused
abbrev pub IsDeclined : Type 0 → ℕ → Type 0
IsDeclined Bad code = (Bad × (code ≡ bad_argument)) ⊎ (code ≡ out_of_memory)

-- properties of which a packet can't have one (2.2.2.2)
abbrev pub CantHave : List Entry → List Property → Type 0
CantHave table properties = gathered table properties ≡ None

-- A call is declined, and the handle is as before; or the client is asked for such a request.
pub data Asked (Bad : Type 0) (Is : Request → Type 0) (at : ℕ) (before : Option Holder) (code : ℕ)
    (after : Option Holder) : Type 0 where
  Declined : IsDeclined Bad code → after ≡ before → Asked Bad Is at before code after
  Put : (request : Request) → Is request → Called (Asks request at) before code after
      → Asked Bad Is at before code after
