-- What happens to a client of a network is what happens to one of which no more is known than what is kept for it.
use Rattle.std.proofs.Common.{◌≡◌, cond, true, false, List, [], ◌∷◌, ◌++◌, Option, Result, Ok, Err, refl, sym, ap, append-nil}
use Rattle.std.specs.Prelude.{Bool}
use Rattle.std.specs.FinSet as set
use Rattle.std.specs.Option.{option_to_list}
use Rattle.mqtt5_base.specs.declared.quality.QoS.{QoS}
use Rattle.mqtt5_base.specs.declared.quality.QoS.TheVariants.{AtMostOnce, AtLeastOnce, ExactlyOnce}
use Rattle.mqtt5_publish.specs.declared.publish.Publish.{Publish}
use Rattle.mqtt5_codec.specs.declared.packet.Packet.{Packet}
use Rattle.mqtt5_codec.specs.declared.packet.Packet.TheVariants as packets
use Rattle.mqtt5_inflight.specs.declared.event.Request.TheVariants as requests
use Rattle.mqtt5_inflight.specs.declared.error.StateError.{StateError}
use Rattle.mqtt5_session.specs.Session.{Session}
use Rattle.mqtt5_session.specs.Requests.{on_request}
use Rattle.mqtt5_world.specs.Broker.{Broker, serve, serve_publish}
use Rattle.mqtt5_network.specs.Connection.{is_sending}
use Rattle.mqtt5_network.specs.Asking.{is_ack}
use Rattle.mqtt5_network.specs.Client.{Client, comes_to, taken_for, passes_on}
use Rattle.mqtt5_router.specs.Kept.{kept_of, alone, after_packet, after_pass}

-- ---- the receiver

-- one that has handed nothing on yet
abbrev bare : Broker → Broker
bare b = record { ids = b.ids; handed = [] }

publish_ids : (q : QoS) (b : Broker) (p : Publish) → (serve_publish q b p).1.ids ≡ (serve_publish q (bare b) p).1.ids
publish_ids AtMostOnce b p = refl
publish_ids AtLeastOnce b p = refl
publish_ids ExactlyOnce b p = refl

serve_ids : (b : Broker) (x : Packet) → (serve b x).1.ids ≡ (serve (bare b) x).1.ids
serve_ids b (packets.Publish p) = publish_ids p.qos b p
serve_ids b (packets.PubRel p) = refl
serve_ids b other = refl

publish_reply : (q : QoS) (b : Broker) (p : Publish) → (serve_publish q b p).0 ≡ (serve_publish q (bare b) p).0
publish_reply AtMostOnce b p = refl
publish_reply AtLeastOnce b p = refl
publish_reply ExactlyOnce b p = refl

serve_reply : (b : Broker) (x : Packet) → (serve b x).0 ≡ (serve (bare b) x).0
serve_reply b (packets.Publish p) = publish_reply p.qos b p
serve_reply b (packets.PubRel p) = refl
serve_reply b other = refl

publish_handed : (q : QoS) (b : Broker) (p : Publish) → (serve_publish q b p).1.handed ≡ b.handed ++ (serve_publish q (bare b) p).1.handed
publish_handed AtMostOnce b p = refl
publish_handed AtLeastOnce b p = refl
publish_handed ExactlyOnce b p = by (set.contains b.ids p.pkid)
  where
    by : (had : Bool) → cond had b.handed (b.handed ++ p ∷ []) ≡ b.handed ++ cond had [] (p ∷ [])
    by true = sym (append-nil b.handed)
    by false = refl

serve_handed : (b : Broker) (x : Packet) → (serve b x).1.handed ≡ b.handed ++ (serve (bare b) x).1.handed
serve_handed b (packets.Publish p) = publish_handed p.qos b p
serve_handed b (packets.PubRel p) = sym (append-nil b.handed)
serve_handed b other = sym (append-nil b.handed)

-- ---- a packet

comes_kept : (sending ack : Bool) (c : Client) (x : Packet) → kept_of (comes_to sending ack c x) ≡ kept_of (comes_to sending ack (alone (kept_of c)) x)
comes_kept true ack c x = λ j. record { ids = serve_ids c.receiver x j; sender = c.sender; subscriptions = c.subscriptions; queue = c.queue }
comes_kept false true c x = refl
comes_kept false false c x = refl

comes_down : (sending ack : Bool) (c : Client) (x : Packet) → (comes_to sending ack c x).down ≡ c.down ++ (comes_to sending ack (alone (kept_of c)) x).down
comes_down true ack c x = ap (λ r. c.down ++ option_to_list r) (serve_reply c.receiver x)
comes_down false true c x = refl
comes_down false false c x = refl

comes_handed : (sending ack : Bool) (c : Client) (x : Packet) → (comes_to sending ack c x).receiver.handed ≡ c.receiver.handed ++ (comes_to sending ack (alone (kept_of c)) x).receiver.handed
comes_handed true ack c x = serve_handed c.receiver x
comes_handed false true c x = sym (append-nil c.receiver.handed)
comes_handed false false c x = sym (append-nil c.receiver.handed)

pub packet_kept : (c : Client) (x : Packet) → kept_of (comes_to (is_sending x) (is_ack x) c x) ≡ kept_of (after_packet (kept_of c) x)
packet_kept c x = comes_kept (is_sending x) (is_ack x) c x

pub packet_reply : (c : Client) (x : Packet) → (comes_to (is_sending x) (is_ack x) c x).down ≡ c.down ++ (after_packet (kept_of c) x).down
packet_reply c x = comes_down (is_sending x) (is_ack x) c x

pub packet_handed : (c : Client) (x : Packet) → (comes_to (is_sending x) (is_ack x) c x).receiver.handed ≡ c.receiver.handed ++ (after_packet (kept_of c) x).receiver.handed
packet_handed c x = comes_handed (is_sending x) (is_ack x) c x

-- ---- the first of the queue

module _ (c : Client) where
  taken_kept : (p : Publish) (rest : List Publish) (r : Result (Option Packet) StateError) (s : Session) → kept_of (taken_for c p rest r s) ≡ kept_of (taken_for (alone (kept_of c)) p rest r s)
  taken_kept p rest (Ok reply) s = refl
  taken_kept p rest (Err e) s = refl

  taken_down : (p : Publish) (rest : List Publish) (r : Result (Option Packet) StateError) (s : Session) → (taken_for c p rest r s).down ≡ c.down ++ (taken_for (alone (kept_of c)) p rest r s).down
  taken_down p rest (Ok reply) s = refl
  taken_down p rest (Err e) s = sym (append-nil c.down)

  taken_taken : (p : Publish) (rest : List Publish) (r : Result (Option Packet) StateError) (s : Session) → (taken_for c p rest r s).taken ≡ c.taken ++ (taken_for (alone (kept_of c)) p rest r s).taken
  taken_taken p rest (Ok reply) s = refl
  taken_taken p rest (Err e) s = sym (append-nil c.taken)

  first_kept : (ps : List Publish) → kept_of (passes_on c ps) ≡ kept_of (passes_on (alone (kept_of c)) ps)
  first_kept [] = refl
  first_kept (p ∷ rest) = taken_kept p rest (on_request c.sender (requests.Publish p) 0).0 (on_request c.sender (requests.Publish p) 0).1

  first_down : (ps : List Publish) → (passes_on c ps).down ≡ c.down ++ (passes_on (alone (kept_of c)) ps).down
  first_down [] = sym (append-nil c.down)
  first_down (p ∷ rest) = taken_down p rest (on_request c.sender (requests.Publish p) 0).0 (on_request c.sender (requests.Publish p) 0).1

  first_taken : (ps : List Publish) → (passes_on c ps).taken ≡ c.taken ++ (passes_on (alone (kept_of c)) ps).taken
  first_taken [] = sym (append-nil c.taken)
  first_taken (p ∷ rest) = taken_taken p rest (on_request c.sender (requests.Publish p) 0).0 (on_request c.sender (requests.Publish p) 0).1

  pub pass_kept : kept_of (passes_on c c.queue) ≡ kept_of (after_pass (kept_of c))
  pass_kept = first_kept c.queue

  pub pass_sent : (passes_on c c.queue).down ≡ c.down ++ (after_pass (kept_of c)).down
  pass_sent = first_down c.queue

  pub pass_taken : (passes_on c c.queue).taken ≡ c.taken ++ (after_pass (kept_of c)).taken
  pass_taken = first_taken c.queue
