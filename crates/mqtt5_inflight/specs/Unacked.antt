-- What awaits an ack and is sent again when a kept session is taken up (MQTT 5.0 section 4.4).
use Rattle.std.specs.Prelude.{ℕ, zero, suc, true, List, [], ◌∷◌, ◌++◌, Option, Some, None, map}
use Rattle.std.specs.Option.{option_to_list}
use Rattle.std.specs.FinMap.{get, entries, from_entries}
use Rattle.mqtt5_publish.specs.declared.publish.Publish.{Publish}
use Rattle.mqtt5_publish.specs.declared.pubrel.PubRelReason.TheVariants as pubrel_reasons
use Rattle.mqtt5_inflight.specs.declared.slot.Slot.{Slot}
use Rattle.mqtt5_inflight.specs.declared.slot.Slot.TheVariants.{Sent, Released}
use Rattle.mqtt5_inflight.specs.declared.event.Request.{Request}
use Rattle.mqtt5_inflight.specs.declared.event.Request.TheVariants as requests
use Rattle.mqtt5_inflight.specs.InUse.{InUse}
use Rattle.mqtt5_inflight.specs.Aliases.{alias_of, alias_over}

-- what the ids from 1 to n give, by rising id
abbrev pub by_id : {A : Type 0} → (ℕ → Option Slot → List A) → ℕ → InUse → List A
by_id f zero in_use = []
by_id f (suc n) in_use = by_id f n in_use ++ f (suc n) (get in_use (suc n))

-- a publish that is sent again says so (3.3.1.1)
abbrev pub again : Publish → Publish
again p = record p { dup = true }

-- a publish that awaits its ack is sent again (4.4)
abbrev pub publish_again : ℕ → Option Slot → List Request
publish_again id (Some (Sent p)) = requests.Publish (again p) ∷ []
publish_again id slot = []

-- so is the release of an id (4.4)
abbrev pub release_again : ℕ → Option Slot → List Request
release_again id (Some Released) =
    requests.PubRel (record { pkid = id; reason = pubrel_reasons.Success; properties = None }) ∷ []
release_again id slot = []

-- what is to be sent again: the publishes, then the releases, each by rising id (4.4)
abbrev pub requests_of : ℕ → InUse → List Request
requests_of limit in_use = by_id publish_again limit in_use ++ by_id release_again limit in_use

-- the topic alias of a publish that awaits its ack, where it is above a maximum (3.3.2.3.4)
abbrev pub alias_again : ℕ → ℕ → Option Slot → List ℕ
alias_again max id (Some (Sent p)) = option_to_list (alias_over max (alias_of p))
alias_again max id slot = []

-- what is known of an id once it is sent again: the publish has dup (3.3.1.1)
abbrev pub slot_again : Slot → Slot
slot_again (Sent p) = Sent (again p)
slot_again Released = Released

-- the ids in use once all are sent again
unfoldable pub in_use_again : InUse → InUse
in_use_again in_use = from_entries (map (λ e. (e.0, slot_again e.1)) (entries in_use))
