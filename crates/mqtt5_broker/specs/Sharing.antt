-- What holds of a broker, where memory isn't refused: of those who have a shared subscription one has its
-- turn (MQTT 5.0 section 4.8.2).
use Rattle.std.specs.Prelude.{◌≡◌, ℕ, Bool, true, false, ◌&&◌, List, [], ◌∷◌, Option, Some, None, is_some}
use Rattle.std.specs.Prelude.{⊤, if◌then◌else◌}
use Rattle.std.specs.List.{All, list_any}
use Rattle.mqtt5_base.specs.Texts.{Utf8}
use Rattle.mqtt5_network.specs.declared.subscription.Share.{Share}
use Rattle.mqtt5_network.specs.declared.subscription.Subscription.{Subscription}
use Rattle.mqtt5_network.specs.Subscriptions.{is_of}
use Rattle.mqtt5_network.specs.Asking.{share_of}
use Rattle.mqtt5_broker.specs.Groups.{Group, is_group, has_member}
use Rattle.mqtt5_broker.specs.Broker.{Broker}
use Rattle.mqtt5_broker.specs.Within.{subscriptions_at}

-- whether a subscription is shared and has its turn
abbrev pub turn_in : Option Share → Bool
turn_in None = false
turn_in (Some h) = h.turn

-- the first of these clients, if there is one
abbrev pub first_in : List ℕ → Option ℕ
first_in [] = None
first_in (i ∷ ms) = Some i

-- and of the group of a filter
abbrev pub first_of : Utf8 → List Group → Option ℕ
first_of f [] = None
first_of f (g ∷ gs) = if is_group f g then first_in g.members else first_of f gs

-- no two groups are of one filter
abbrev pub AreDistinct : List Group → Type 0
AreDistinct [] = ⊤
AreDistinct (g ∷ gs) = (list_any (is_group g.topic_filter) gs ≡ false) × AreDistinct gs

-- of these subscriptions of a client none of a filter has its turn, unless the client is this one
abbrev pub MayTurn : Utf8 → Option ℕ → ℕ → List Subscription → Type 0
MayTurn f first i ss =
    All (λ (s : Subscription). is_of f s ≡ true → turn_in s.share ≡ true → first ≡ Some i) ss

-- whether one of these is of a filter, and its share is so
abbrev pub any_share : (Option Share → Bool) → Utf8 → List Subscription → Bool
any_share q f ss = list_any (λ (s : Subscription). is_of f s && q s.share) ss

-- whether one is the shared one of a filter, and whether it has its turn
abbrev pub shares : Utf8 → List Subscription → Bool
shares f ss = any_share is_some f ss

abbrev pub has_turn_of : Utf8 → List Subscription → Bool
has_turn_of f ss = any_share turn_in f ss

-- whether a client takes part in the group of a filter
abbrev pub takes_part : Utf8 → ℕ → List Group → Bool
takes_part f i gs = list_any (λ (g : Group). is_group f g && has_member i g.members) gs

-- who takes part in a shared subscription is who has it; its turn has the first of the group, and
-- nobody else; and its filter is one of that form
pub record IsShared (b : Broker) : Type 0 where
  pub distinct : AreDistinct b.groups
  pub turns : (f : Utf8) (i : ℕ)
      → MayTurn f (first_of f b.groups) i (subscriptions_at i b.sessions)
  pub parts : (f : Utf8) (i : ℕ)
      → takes_part f i b.groups ≡ shares f (subscriptions_at i b.sessions)
  pub first : (f : Utf8) (i : ℕ) → first_of f b.groups ≡ Some i
      → has_turn_of f (subscriptions_at i b.sessions) ≡ true
  pub named : (f : Utf8) (i : ℕ) → is_some (share_of f) ≡ false
      → shares f (subscriptions_at i b.sessions) ≡ false
