-- What a client's subscriptions grant to a class of publishes, while a network runs (MQTT 5.0
-- sections 3.3.4 and 3.8.4).
use Rattle.std.specs.Prelude.{◌≡◌, ℕ, Bool, true, false, List, [], ◌∷◌, slice_get, None}
use Rattle.std.specs.Prelude.{Some, IfSome, All, ⊤}
use Rattle.mqtt5_base.specs.declared.quality.QoS.TheVariants.{ExactlyOnce}
use Rattle.mqtt5_publish.specs.declared.publish.Publish.{Publish}
use Rattle.mqtt5_progress.specs.Subscribers.{hits}
use Rattle.mqtt5_network.specs.Forwarded.{forwarded, identified, passes}
use Rattle.mqtt5_network.specs.declared.subscription.Subscription.{Subscription}
use Rattle.mqtt5_network.specs.declared.event.ClientEvent.{ClientEvent}
use Rattle.mqtt5_network.specs.declared.event.ClientEvent.TheVariants as events
use Rattle.mqtt5_network.specs.declared.event.NetworkEvent.{NetworkEvent}
use Rattle.mqtt5_network.specs.Subscriptions.{has_turn, pattern_of, granted_for, forwarded_to}
use Rattle.mqtt5_network.specs.Asking.{others}
use Rattle.mqtt5_network.specs.Client.{Client}
use Rattle.mqtt5_network.specs.Place.{Place}
use Rattle.mqtt5_network.specs.Network.{Network, Profile, start_network, happens_in, run_network}

-- ---- what is granted

-- whether a publish is of a class, where it is forwarded at its own QoS: a class is of publishes as
-- they are shown (3.8.4)
abbrev pub published : (Publish → Bool) → Publish → Bool
published test p = test (forwarded ExactlyOnce p)

-- each publish of a class, the client's own ones or the others', is forwarded to it as one of the
-- class (3.3.4, 3.8.4)
abbrev pub GrantsFor : Bool → (Publish → Bool) → Client → Type 0
GrantsFor own test c =
    (p : Publish) → published test p ≡ true
    → passes test (forwarded_to own c.subscriptions p) ≡ true

-- for none of these it is granted any
abbrev pub GrantsNoneFor : Bool → (Publish → Bool) → Client → Type 0
GrantsNoneFor own test c =
    (p : Publish) → published test p ≡ true → granted_for own c.subscriptions p ≡ None

-- so it is for its own and the others'
abbrev pub Grants : (Publish → Bool) → Client → Type 0
Grants test c = (own : Bool) → GrantsFor own test c

abbrev pub GrantsNone : (Publish → Bool) → Client → Type 0
GrantsNone test c = (own : Bool) → GrantsNoneFor own test c

-- it is granted so for the others' alone, as where it asked for No Local (3.8.3.1)
abbrev pub GrantsOthers : (Publish → Bool) → Client → Type 0
GrantsOthers test c = GrantsFor false test c × GrantsNoneFor true test c

-- the same publishes, its own and the others', are forwarded to it as ones of a class, at whatever
-- QoS is granted (3.3.4)
abbrev pub Reaches : (Publish → Bool) → (Publish → Bool) → Client → Type 0
Reaches test kind c =
    (own : Bool) (p : Publish) → passes test (forwarded_to own c.subscriptions p) ≡ kind p

-- whether a publish is forwarded under some subscriptions as one that passes a test
abbrev pub reaching : List Subscription → (Publish → Bool) → Publish → Bool
reaching ss test p = passes test (forwarded_to false ss p)

-- a subscription that grants QoS 2 for each publish of a class, also for the client's own, and
-- without their retain; a shared one while it is the client's turn (3.8.3.1, 4.7, 4.8.2)
pub record Covers (test : Publish → Bool) (s : Subscription) : Type 0 where
  pub granted : s.granted ≡ ExactlyOnce
  pub local : s.no_local ≡ false
  pub retain : s.retain_as_published ≡ false
  pub turn : has_turn s.share ≡ true
  pub matches : (p : Publish) → published test p ≡ true → hits (pattern_of s ∷ []) p ≡ true

-- ---- new messages, and copies of retained ones

-- a class of new messages alone: these are forwarded without retain, but where the client asks for
-- Retain As Published (3.3.1.3, 3.8.3.1); whatever the subscription identifiers (3.3.2.3.8)
pub record IsNew (test : Publish → Bool) : Type 0 where
  pub retain : (p : Publish) → test p ≡ true → p.retain ≡ false
  pub blind : (p : Publish) (ns : List ℕ) → test (identified ns p) ≡ test p

-- one of copies alone: these have it
abbrev pub IsCopy : (Publish → Bool) → Type 0
IsCopy test = (p : Publish) → test p ≡ true → p.retain ≡ true

-- subscriptions of which none asks for Retain As Published: then none but copies have it
abbrev pub NoneKeepRetain : List Subscription → Type 0
NoneKeepRetain ss = All (λ (s : Subscription). s.retain_as_published ≡ false) ss

-- ---- while a network runs

-- it is said of the client at a place, if there is one
abbrev pub AtPlace : ℕ → (Client → Type 0) → Network → Type 0
AtPlace i P n = IfSome (slice_get n.places i) (λ p. P p.client)

-- it is said of a network before these events, between any two of them, and after them
abbrev pub Throughout : List NetworkEvent → (Network → Type 0) → Network → Type 0
Throughout [] P n = P n
Throughout (e ∷ es) P n = P n × Throughout es P (happens_in n e)

-- an event in which a client's session goes on (4.1)
abbrev pub GoesOn : ClientEvent → Type 0
GoesOn events.Ends = ⊥
GoesOn event = ⊤

-- events in which that of the client at a place does
abbrev pub Lives : ℕ → List NetworkEvent → Type 0
Lives i [] = ⊤
Lives i (e ∷ es) = (i ≡ e.client → GoesOn e.what) × Lives i es

-- an event in which it does, the client asks neither for subscriptions nor for some to be taken out,
-- and it is neither given a turn nor loses one
abbrev pub KeepsSubscriptions : ClientEvent → Type 0
KeepsSubscriptions (events.Subscribe p) = ⊥
KeepsSubscriptions (events.Unsubscribe p) = ⊥
KeepsSubscriptions (events.Turn f turn) = ⊥
KeepsSubscriptions events.Ends = ⊥
KeepsSubscriptions event = ⊤

-- so these events of the client at a place
abbrev pub Unchanged : ℕ → List NetworkEvent → Type 0
Unchanged i [] = ⊤
Unchanged i (e ∷ es) = (i ≡ e.client → KeepsSubscriptions e.what) × Unchanged i es

-- no request of a client about its subscriptions is on its way to the broker
abbrev pub IsHeard : Client → Type 0
IsHeard c = others c.up ≡ []

-- a client of a network that is reached, which keeps the subscriptions that it began with, none of
-- them with No Local
pub record KeepsFirst (n : Network) (i : ℕ) (p : Place) : Type 0 where
  pub profiles : List Profile
  pub events : List NetworkEvent
  pub reached : n ≡ run_network events (start_network profiles)
  pub unchanged : Unchanged i events
  pub is_at : slice_get n.places i ≡ Some p
  pub local : All (λ (s : Subscription). s.no_local ≡ false) p.client.subscriptions
