-- What is kept for a client after a packet, and after one of its queue is passed.
use Rattle.std.proofs.Common.{◌≡◌, ℕ, ◌+◌, ◌<◌, ◌==◌, true, false, List, [], ◌∷◌, ◌++◌, take, drop, length, Option, Result, Ok, Err, refl, sym, ap, ◌∙◌, slice_index_or}
use Rattle.std.specs.Prelude.{Bool, is_ok}
use Rattle.std.specs.List.{filter_map}
use Rattle.std.specs.Option.{option_to_list}
use Rattle.std.proofs.lemmas.Bool.{eqb-true}
use Rattle.std.proofs.lemmas.List.{nil_from_length}
use Rattle.mqtt5_publish.specs.declared.publish.Publish.{Publish}
use Rattle.mqtt5_codec.specs.declared.packet.Packet.{Packet}
use Rattle.mqtt5_codec.specs.declared.packet.Packet.TheVariants as packets
use Rattle.mqtt5_inflight.specs.declared.event.Request.TheVariants as requests
use Rattle.mqtt5_inflight.specs.declared.error.StateError.{StateError}
use Rattle.mqtt5_session.specs.Session.{Session, Answer}
use Rattle.mqtt5_session.specs.Requests.{on_request}
use Rattle.mqtt5_network.specs.Connection.{is_sending, reply_in}
use Rattle.mqtt5_network.specs.declared.subscription.Subscription.{Subscription}
use Rattle.mqtt5_network.specs.Subscriptions.{forwarded_to}
use Rattle.mqtt5_network.specs.Asking.{is_ack}
use Rattle.mqtt5_network.specs.Client.{Client, comes_to, taken_for, passes_on}
use Rattle.mqtt5_router.specs.Kept.{Kept, kept_of, alone, after_packet, after_pass}
use Rattle.mqtt5_router.proofs.Copying.{found_next}
use Rattle.mqtt5_router.proofs.Refused.{IsKept, refused_kept}

-- ---- a packet

ack_sends : (x : Packet) → is_ack x ≡ true → is_sending x ≡ false
ack_sends (packets.PubAck p) h = refl
ack_sends (packets.PubRec p) h = refl
ack_sends (packets.PubComp p) h = refl
ack_sends other h = absurd cc

pub ack_arrives : (k : Kept) (x : Packet) → is_ack x ≡ true → after_packet k x ≡ comes_to false true (alone k) x
ack_arrives k x h = ap (λ b. comes_to (is_sending x) b (alone k) x) h ∙ ap (λ b. comes_to b true (alone k) x) (ack_sends x h)

pub other_arrives : (k : Kept) (x : Packet) → is_ack x ≡ false → after_packet k x ≡ comes_to (is_sending x) false (alone k) x
other_arrives k x h = ap (λ b. comes_to (is_sending x) b (alone k) x) h

-- ---- the queue

pub forwarded_next : (own : Bool) (ss : List Subscription) (ps : List Publish) (i : ℕ) (x : Publish) → i < length ps → x ≡ slice_index_or ps i x
    → filter_map (forwarded_to own ss) (take (i + 1) ps) ≡ filter_map (forwarded_to own ss) (take i ps) ++ option_to_list (forwarded_to own ss x)
forwarded_next own ss = found_next (forwarded_to own ss)

-- ---- the first of it

is_empty : (ps : List Publish) → (length ps == 0) ≡ true → ps ≡ []
is_empty ps h = nil_from_length ps (eqb-true (length ps) 0 h)

pub none_passes : (k : Kept) → (length k.queue == 0) ≡ true → k ≡ kept_of (after_pass k)
none_passes k h = sym (ap (λ ps. kept_of (passes_on (alone k) ps)) (is_empty k.queue h))

pub none_is_sent : (k : Kept) → (length k.queue == 0) ≡ true → [] ≡ (after_pass k).down
none_is_sent k h = sym (ap (λ ps. (passes_on (alone k) ps).down) (is_empty k.queue h))

pub none_is_taken : (k : Kept) → (length k.queue == 0) ≡ true → [] ≡ (after_pass k).taken
none_is_taken k h = sym (ap (λ ps. (passes_on (alone k) ps).taken) (is_empty k.queue h))

module _ (k : Kept) (p : Publish) where
  abbrev asked : Answer
  asked = on_request k.sender (requests.Publish p) 0

  abbrev taken_on : Client
  taken_on = taken_for (alone k) p (drop 1 k.queue) asked.0 asked.1

  first_of : (length k.queue == 0) ≡ false → p ≡ slice_index_or k.queue 0 p → after_pass k ≡ taken_on
  first_of h is = by k.queue refl
    where
      by : (ps : List Publish) → k.queue ≡ ps → after_pass k ≡ taken_on
      by [] e = absurd (let z : (length k.queue == 0) ≡ true = ap (λ (ps : List Publish). length ps == 0) e in let f = sym h ∙ z in cc)
      by (q ∷ ps) e =
          let same : p ≡ q = is ∙ ap (λ ps. slice_index_or ps 0 p) e in
          ap (passes_on (alone k)) (e ∙ ap (λ x. x ∷ ps) (sym same))
          ∙ ap (λ qs. taken_for (alone k) p (drop 1 qs) asked.0 asked.1) (sym e)

  taken_true : (r : Result (Option Packet) StateError) (s : Session) → is_ok r ≡ true → kept_of (taken_for (alone k) p (drop 1 k.queue) r s) ≡ record k { sender = s; queue = drop 1 k.queue }
  taken_true (Ok reply) s h = refl
  taken_true (Err e) s h = absurd cc

  taken_false : (r : Result (Option Packet) StateError) (s : Session) → IsKept k.sender (r, s) → is_ok r ≡ false → kept_of (taken_for (alone k) p (drop 1 k.queue) r s) ≡ record k { sender = s }
  taken_false (Ok reply) s same h = absurd cc
  taken_false (Err e) s same h = λ j. record k { sender = sym (same e refl) j }

  taken_down : (r : Result (Option Packet) StateError) (s : Session) → (taken_for (alone k) p (drop 1 k.queue) r s).down ≡ reply_in r
  taken_down (Ok reply) s = refl
  taken_down (Err e) s = refl

  taken_one : (r : Result (Option Packet) StateError) (s : Session) → is_ok r ≡ true → (taken_for (alone k) p (drop 1 k.queue) r s).taken ≡ p ∷ []
  taken_one (Ok reply) s h = refl
  taken_one (Err e) s h = absurd cc

  taken_none : (r : Result (Option Packet) StateError) (s : Session) → is_ok r ≡ false → (taken_for (alone k) p (drop 1 k.queue) r s).taken ≡ []
  taken_none (Ok reply) s h = absurd cc
  taken_none (Err e) s h = refl

  module _ (some : (length k.queue == 0) ≡ false) (is : p ≡ slice_index_or k.queue 0 p) where
    pub first_passes : is_ok (on_request k.sender (requests.Publish p) 0).0 ≡ true
        → kept_of (after_pass k) ≡ record k { sender = (on_request k.sender (requests.Publish p) 0).1; queue = drop 1 k.queue }
    first_passes h = ap kept_of (first_of some is) ∙ taken_true asked.0 asked.1 h

    pub first_stays : is_ok (on_request k.sender (requests.Publish p) 0).0 ≡ false
        → kept_of (after_pass k) ≡ record k { sender = (on_request k.sender (requests.Publish p) 0).1 }
    first_stays h = ap kept_of (first_of some is) ∙ taken_false asked.0 asked.1 (refused_kept k.sender p) h

    pub first_is_sent : (after_pass k).down ≡ reply_in (on_request k.sender (requests.Publish p) 0).0
    first_is_sent = ap (λ (c : Client). c.down) (first_of some is) ∙ taken_down asked.0 asked.1

    pub first_is_taken : is_ok (on_request k.sender (requests.Publish p) 0).0 ≡ true → (after_pass k).taken ≡ p ∷ []
    first_is_taken h = ap (λ (c : Client). c.taken) (first_of some is) ∙ taken_one asked.0 asked.1 h

    pub none_is_taken_on : is_ok (on_request k.sender (requests.Publish p) 0).0 ≡ false → (after_pass k).taken ≡ []
    none_is_taken_on h = ap (λ (c : Client). c.taken) (first_of some is) ∙ taken_none asked.0 asked.1 h
