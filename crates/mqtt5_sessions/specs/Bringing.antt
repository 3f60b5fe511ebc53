-- How many copies of retained messages a Subscribe may bring, which a broker bounds (MQTT 5.0 sections
-- 3.3.1.3 and 3.8.3.1).
use Rattle.std.specs.Prelude.{ℕ, ◌+◌, ◌-◌, nat_lt, Bool, ◌&&◌, List, [], ◌∷◌, length, is_none}
use Rattle.std.specs.Prelude.{slice_index_or, if◌then◌else◌}
use Rattle.mqtt5_publish.specs.declared.publish.Publish.{Publish}
use Rattle.mqtt5_subscribe.specs.declared.filter.Filter.{Filter}
use Rattle.mqtt5_progress.specs.Subscribers.{received}
use Rattle.mqtt5_network.specs.declared.subscription.Subscription.{Subscription}
use Rattle.mqtt5_network.specs.Asking.{share_of}
use Rattle.mqtt5_network.specs.Retained.{gets_copies}
use Rattle.mqtt5_router.specs.Kept.{Kept}
use Rattle.mqtt5_sessions.specs.Sessions.{Sessions, new_state}

-- of these messages a filter brings those that it matches, where its Retain Handling says so, and it
-- isn't that of a shared subscription
abbrev pub brought_by : List Publish → List Subscription → Filter → ℕ
brought_by kept ss f =
    if is_none (share_of f.path) && gets_copies f.retain_forward_rule f.path ss
    then length (received (f.path ∷ []) kept) else 0

-- filters bring as many at most: of two that are the same the second may bring none
abbrev pub brought : List Publish → List Subscription → List Filter → ℕ
brought kept ss [] = 0
brought kept ss (f ∷ fs) = brought_by kept ss f + brought kept ss fs

-- whether that is more than there is room for in a queue, in which so many may be
abbrev pub overfills_of : ℕ → List Filter → List Publish → Kept → Bool
overfills_of most fs kept k = nat_lt (most - length k.queue) (brought kept k.subscriptions fs)

-- of the client of a number
abbrev pub overfills : ℕ → ℕ → List Filter → Sessions → Bool
overfills most i fs s =
    overfills_of most fs s.retained (slice_index_or s.clients i (new_state 0)).kept
