-- What holds of a broker, where memory isn't refused: of a client that connected as a user each subscription lies within
-- what that user may subscribe to (MQTT 5.0 section 5.4.2).
use Rattle.std.specs.Prelude.{◌≡◌, ℕ, zero, suc, true, List, [], ◌∷◌, length, Some, None}
use Rattle.std.specs.List.{All}
use Rattle.mqtt5_base.specs.Texts.{Utf8}
use Rattle.mqtt5_network.specs.declared.subscription.Subscription.{Subscription}
use Rattle.mqtt5_network.specs.Subscriptions.{pattern_of}
use Rattle.mqtt5_sessions.specs.Sessions.{Sessions, ClientState}
use Rattle.mqtt5_broker.specs.Rights.{rights_at, is_within}
use Rattle.mqtt5_broker.specs.Broker.{Broker, member_at, owner_at}

-- the subscriptions of a client, by its number
abbrev pub subscriptions_in : ℕ → List ClientState → List Subscription
subscriptions_in i [] = []
subscriptions_in zero (c ∷ cs) = c.kept.subscriptions
subscriptions_in (suc i) (c ∷ cs) = subscriptions_in i cs

abbrev pub subscriptions_at : ℕ → Sessions → List Subscription
subscriptions_at i s = subscriptions_in i s.clients

-- the filter of each lies within one of these
abbrev pub AreWithin : List Utf8 → List Subscription → Type 0
AreWithin fs ss = All (λ (s : Subscription). is_within (pattern_of s).bytes fs ≡ true) ss

-- as many clients are kept as have numbers; a number that nobody has, has no subscriptions; and each of
-- a client that connected as a user lies within what that user may subscribe to
pub record IsWithin (b : Broker) : Type 0 where
  pub numbers : length b.sessions.clients ≡ length b.members
  pub none : (i : ℕ) → member_at i b.members ≡ None → subscriptions_at i b.sessions ≡ []
  pub within : (i u : ℕ) → owner_at i b.members ≡ Some u
      → AreWithin (rights_at u b.rights).subscribes (subscriptions_at i b.sessions)
