-- This file serves the logic alone: publishes on their way into the queues of clients.
use Rattle.std.specs.Prelude.{ℕ, suc, ◌==◌, Bool, true, false, List, [], ◌∷◌, ◌++◌, map, Option, Some, None, slice_index_or}
use Rattle.std.specs.Option.{option_to_list}
use Rattle.mqtt5_publish.specs.declared.publish.Publish.{Publish}
use Rattle.mqtt5_codec.specs.declared.packet.Packet.{Packet}
use Rattle.mqtt5_codec.specs.declared.packet.Packet.TheVariants as packets
use Rattle.mqtt5_network.specs.Subscriptions.{forwarded_to}
use Rattle.mqtt5_network.specs.Retained.{copies_for}
use Rattle.mqtt5_sessions.specs.declared.coming.Coming.{Coming}
use Rattle.mqtt5_sessions.specs.Sessions.{ClientState, new_state, gets, with_client, of_client}

-- the clients, once these publishes are in their queues
abbrev pub delivered : List Coming → List ClientState → List ClientState
delivered [] cs = cs
delivered (e ∷ es) cs = delivered es (with_client e.client (gets (e.publish ∷ [])) cs)

-- publishes for one client
abbrev pub coming_to : ℕ → List Publish → List Coming
coming_to i ps = map (λ (p : Publish). record { client = i; publish = p }) ps

-- what is forwarded of a publish to clients, counted from a number, `own` where it is the client's
abbrev pub coming_from : ℕ → (ℕ → Bool) → Publish → List ClientState → List Coming
coming_from k own p [] = []
coming_from k own p (c ∷ cs) =
    coming_to k (option_to_list (forwarded_to (own k) c.kept.subscriptions p))
    ++ coming_from (suc k) own p cs

-- of one of the client at a place, to the one of a number: nothing, if that isn't there
abbrev pub forwarded_at : ℕ → Publish → List ClientState → ℕ → Option Publish
forwarded_at i p cs k =
    forwarded_to (k == i) (slice_index_or cs k (new_state 0)).kept.subscriptions p

-- to those of some numbers, in order
abbrev pub coming_among : ℕ → Publish → List ClientState → List ℕ → List Coming
coming_among i p cs [] = []
coming_among i p cs (k ∷ ks) =
    coming_to k (option_to_list (forwarded_at i p cs k)) ++ coming_among i p cs ks

-- of a publish of the client at a place
abbrev pub coming_of : ℕ → Publish → List ClientState → List Coming
coming_of i p cs = coming_from 0 (λ k. k == i) p cs

-- of its will, if it has one, in case that is published
abbrev pub coming_of_will : ℕ → List ClientState → List Publish → List Coming
coming_of_will i cs [] = []
coming_of_will i cs (p ∷ ps) = coming_of i p cs

-- whether a packet is a publish
abbrev pub is_publish : Packet → Bool
is_publish (packets.Publish p) = true
is_publish other = false

-- of a packet of it: a publish, in case that it is handed on, or the copies for a Subscribe
abbrev pub coming_for : ℕ → List Publish → List ClientState → Packet → List Coming
coming_for i kept cs (packets.Publish p) = coming_of i p cs
coming_for i kept cs x =
    coming_to i (of_client i (λ (c : ClientState). copies_for kept c.kept.subscriptions x) cs)

-- those that come, if something is handed on
abbrev pub chosen : List Coming → Option Publish → List Coming
chosen es None = []
chosen es (Some p) = es
