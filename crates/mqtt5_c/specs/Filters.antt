-- The list of filters of a Subscribe (MQTT 5.0 section 3.8.3).
use Rattle.std.specs.Prelude.{◌≡◌, ◌⊎◌, ℕ, Bool, List, [], ◌∷◌, ◌++◌, Option, Some, None}
use Rattle.mqtt5_base.specs.Views.{qos_number}
use Rattle.mqtt5_base.specs.declared.property.Property.{Property}
use Rattle.mqtt5_subscribe.specs.declared.filter.Filter.{Filter}
use Rattle.mqtt5_subscribe.specs.declared.subscribe.SubscribeProperties.{SubscribeProperties}
use Rattle.mqtt5_subscribe.specs.Subscribes.{rule_number, subscribe_found}
use Rattle.mqtt5_subscribe.specs.Rows.{subscribe_table}
use Rattle.mqtt5_inflight.specs.declared.event.Request.{Request}
use Rattle.mqtt5_inflight.specs.declared.event.Request.TheVariants as requests
use Rattle.mqtt5_holder.specs.declared.holder.Holder.{Holder}
use Rattle.mqtt5_properties.specs.Gathering.{IsSet}
use Rattle.mqtt5_c.specs.Asked.{IsDeclined}
use Rattle.mqtt5_c.specs.Topics.{IsTopicFilter}
use Rattle.mqtt5_c.specs.Numbers.{no_client, out_of_memory}

-- the list of a handle's client; without a client none
abbrev pub filters_in : Option Holder → List Filter
filters_in None = []
filters_in (Some h) = h.filters

-- the same client with an empty list
abbrev pub cleared : Option Holder → Option Holder
cleared None = None
cleared (Some h) = Some (record h { filters = [] })

-- a topic filter with these options (3.8.3.1)
abbrev pub IsFilter : List ℕ → ℕ → Bool → Bool → ℕ → Filter → Type 0
IsFilter path quality no_local retain_as_published handling f =
    IsTopicFilter path × (f.path.bytes ≡ path) × (qos_number f.qos ≡ quality)
    × (f.nolocal ≡ no_local) × (f.preserve_retain ≡ retain_as_published)
    × (rule_number f.retain_forward_rule ≡ handling)

-- a Subscribe to these filters, with these properties (3.8)
abbrev pub IsSubscribeTo : List Filter → List Property → Request → Type 0
IsSubscribeTo filters properties request =
    (set : Option SubscribeProperties) × IsSet subscribe_found subscribe_table properties set
    × (request ≡ requests.Subscribe (record { pkid = 0; filters = filters; properties = set }))

-- without a client nothing is added, and the answer is 200; else it is at the end of the list, or
-- memory is refused, and all is as before
abbrev pub AddedFilter : Filter → Option Holder → ℕ → Option Holder → Type 0
AddedFilter f None code after = (code ≡ no_client) × (after ≡ None)
AddedFilter f (Some old) code after =
    ((code ≡ 0) × (after ≡ Some (record old { filters = old.filters ++ f ∷ [] })))
    ⊎ ((code ≡ out_of_memory) × (after ≡ Some old))

-- A call is declined, and the handle is as before; or such a filter is added.
pub data FilterAdded (Bad : Type 0) (Is : Filter → Type 0) (before : Option Holder) (code : ℕ)
    (after : Option Holder) : Type 0 where
  Declined : IsDeclined Bad code → after ≡ before → FilterAdded Bad Is before code after
  Put : (f : Filter) → Is f → AddedFilter f before code after → FilterAdded Bad Is before code after
