-- The part of a session that sends depends on itself alone, and a call of it keeps the part that receives.
use Rattle.std.proofs.Common.{◌≡◌, ℕ, ◌+◌, ◌<◌, ◌≤◌, arith, nat_le, Err, Bool, true, false, cond, List, [], ◌∷◌, ◌++◌, Option, Some, None, Ok, refl, sym, ap, ◌∙◌, append-nil, ◌==◌, length, ne_eqb}
use Rattle.std.specs.Prelude.{sum_by}
use Rattle.std.specs.List.{filter_map}
use Rattle.std.proofs.lemmas.Bool.{leb-false}
use Rattle.std.specs.FinMap as map
use Rattle.std.specs.FinSet as set
use Rattle.std.proofs.lemmas.List.Elements.{filter_map-append}
use Rattle.mqtt5_base.specs.declared.quality.QoS.{QoS}
use Rattle.mqtt5_base.specs.declared.quality.QoS.TheVariants.{AtMostOnce, AtLeastOnce, ExactlyOnce}
use Rattle.mqtt5_publish.specs.declared.publish.Publish.{Publish}
use Rattle.mqtt5_publish.specs.declared.puback.PubAckReason.TheVariants.{Success}
use Rattle.mqtt5_codec.specs.declared.packet.Packet.{Packet}
use Rattle.mqtt5_codec.specs.declared.packet.Packet.TheVariants as packets
use Rattle.mqtt5_inflight.specs.declared.slot.Slot.{Slot}
use Rattle.mqtt5_inflight.specs.declared.slot.Slot.TheVariants.{Sent, Released}
use Rattle.mqtt5_inflight.specs.declared.event.Event.{Event}
use Rattle.mqtt5_inflight.specs.declared.event.Event.TheVariants as events
use Rattle.mqtt5_inflight.specs.declared.event.Request.TheVariants as requests
use Rattle.mqtt5_inflight.specs.declared.event.Outgoing.TheVariants as outgoing
use Rattle.mqtt5_inflight.specs.declared.error.StateError.{StateError}
use Rattle.mqtt5_inflight.specs.declared.error.StateError.TheVariants as errors
use Rattle.mqtt5_subscribe.specs.declared.subscribe.Subscribe.{Subscribe}
use Rattle.mqtt5_subscribe.specs.declared.unsubscribe.Unsubscribe.{Unsubscribe}
use Rattle.mqtt5_subscribe.specs.declared.suback.SubAck.{SubAck}
use Rattle.mqtt5_subscribe.specs.declared.unsuback.UnsubAck.{UnsubAck}
use Rattle.mqtt5_session.specs.Session.{Core, Session, Answer}
use Rattle.mqtt5_session.specs.Requests.{on_request, unless, over_maximum, Verdict, Refuse, Wait, Store, verdict_of, out_acked, out_publish, id_for, next_id, last_given, last_after, with_event_at, gives_id}
use Rattle.mqtt5_session.specs.Packets.{on_packet, answer_to, with_incoming, freed_for, on_puback, on_pubrec, on_pubcomp, puback_of, pubrec_of, pubcomp_of}
use Rattle.mqtt5_session.specs.Again.{event_for}
use Rattle.mqtt5_world.specs.World.{taken_back}
use Rattle.mqtt5_progress.specs.Packets.{IsAck, OfPublish, OfFirst, OfRelease, numbered}
use Rattle.mqtt5_progress.proofs.Closed.{again_of}
use Rattle.mqtt5_network.specs.Receiver.{publish_in, shown, as_receiver}
use Rattle.mqtt5_progress.specs.Progress.{work_of, work_up, work_waiting}
use Rattle.mqtt5_network.specs.Connection.{reply_in, connected}

-- ---- the two parts

-- what sends: the ids in use, but for the last id that was given, which requests for subscriptions move too
abbrev pub part : Session → Session
part s = record {
  core = record s.core { last = 0; aliases = map.empty; manual_acks = false; incoming = set.empty };
  awaits_ping = false;
  collision_pings = 0;
  events = [];
  last_incoming = 0;
  last_outgoing = 0;
}

-- what receives is the same, and whether the session sends its acks itself
pub record Kept (s t : Session) : Type 0 where
  pub seen : as_receiver t ≡ as_receiver s
  pub own : t.core.manual_acks ≡ s.core.manual_acks

pub show_one : (es : List Event) (p : Publish) → filter_map publish_in (es ++ events.Incoming (packets.Publish p) ∷ []) ≡ filter_map publish_in es ++ p ∷ []
show_one es p = filter_map-append publish_in es (events.Incoming (packets.Publish p) ∷ [])

pub show_none : (es : List Event) (x : Event) → publish_in x ≡ None → filter_map publish_in (es ++ x ∷ []) ≡ filter_map publish_in es
show_none es x e = filter_map-append publish_in es (x ∷ []) ∙ ap (λ o. filter_map publish_in es ++ filter_map (λ (y : Event). o) (x ∷ [])) e ∙ append-nil _

-- so it is where an event is told that isn't a publish
told_kept : (s t : Session) (x : Event) → publish_in x ≡ None → t.events ≡ s.events ++ x ∷ [] → t.core.incoming ≡ s.core.incoming → t.core.manual_acks ≡ s.core.manual_acks → Kept s t
told_kept s t x none e ids own =
    record { seen = λ n. record { ids = ids n; handed = (ap (filter_map publish_in) e ∙ show_none s.events x none) n }; own = own }

-- ---- calls of what sends

-- what is sent, and what waits then, is four more at most
abbrev pub Costs : Session → Answer → Type 0
Costs s a = sum_by work_up (reply_in a.0) + work_waiting a.1.core.waiting ≤ work_waiting s.core.waiting + 4

-- the last id that was given is within the limit
pub record InRange (c : Core) : Type 0 where
  pub last : c.last < c.limit
  pub current : c.current ≤ c.limit

-- an answer of a session beside the one of its sending part
pub record Apart (s : Session) (a b : Answer) : Type 0 where
  pub reply : a.0 ≡ b.0
  pub after : part a.1 ≡ part b.1
  pub kept : Kept s a.1
  pub cost : Costs s a
  pub range : InRange s.core → InRange a.1.core

refused : (s : Session) (e : StateError) → Apart s (Err e, s) (Err e, part s)
refused s e = record { reply = refl; after = refl; kept = record { seen = refl; own = refl }; cost = omega arith; range = λ i. i }

either : (c : Bool) (s : Session) (x y z w : Answer) → Apart s x z → Apart s y w → Apart s (cond c x y) (cond c z w)
either true s x y z w h k = h
either false s x y z w h k = k

four : (q : QoS) → work_of q ≤ 4
four AtMostOnce = omega arith
four AtLeastOnce = omega arith
four ExactlyOnce = omega arith

next_range : (c : Core) → InRange c → last_given c < c.limit
next_range c i = by (nat_le c.current (next_id c)) refl
  where
    by : (b : Bool) → nat_le c.current (next_id c) ≡ b → cond b 0 (next_id c) < c.limit
    by true e = let l = i.last in omega (arith, l)
    by false e = let n = leb-false c.current (next_id c) e in let m = i.current in omega (arith, n, m)

last_range : (c : Core) (id : ℕ) → InRange c → last_after c id < c.limit
last_range c id i = by (id == 0)
  where
    by : (b : Bool) → cond b (last_given c) c.last < c.limit
    by true = next_range c i
    by false = i.last

-- a publish is asked for
acked_apart : (v : Verdict) (s : Session) (p : Publish) (last : ℕ) → (InRange s.core → last < s.core.limit) → Apart s (out_acked v s p last 0) (out_acked v (part s) p 0 0)
acked_apart (Refuse e) s p last l = refused s e
acked_apart Wait s p last l =
    record {
      reply = refl;
      after = refl;
      kept = told_kept s _ (events.Outgoing (outgoing.AwaitAck p.pkid)) refl refl refl refl;
      cost = let f = four p.qos in omega (arith, f);
      range = λ i. record { last = l i; current = i.current };
    }
acked_apart Store s p last l =
    record {
      reply = refl;
      after = refl;
      kept = told_kept s _ (events.Outgoing (outgoing.Publish p.pkid)) refl refl refl refl;
      cost = let f = four p.qos in omega (arith, f);
      range = λ i. record { last = l i; current = i.current };
    }

once_apart : (o : Option StateError) (s : Session) (p : Publish) → Apart s (unless o s (Ok (Some (packets.Publish p)), with_event_at s (outgoing.Publish p.pkid) 0)) (unless o (part s) (Ok (Some (packets.Publish p)), with_event_at (part s) (outgoing.Publish p.pkid) 0))
once_apart None s p =
    record {
      reply = refl;
      after = refl;
      kept = told_kept s _ (events.Outgoing (outgoing.Publish p.pkid)) refl refl refl refl;
      cost = let f = four p.qos in omega (arith, f);
      range = λ i. record { last = i.last; current = i.current };
    }
once_apart (Some e) s p = refused s e

-- a publish with its id, of a sending part
abbrev with_id : QoS → Session → Publish → Answer
with_id AtMostOnce r p = unless (over_maximum r.core p) r (Ok (Some (packets.Publish p)), with_event_at r (outgoing.Publish p.pkid) 0)
with_id AtLeastOnce r p = out_acked (verdict_of r.core p) r p 0 0
with_id ExactlyOnce r p = out_acked (verdict_of r.core p) r p 0 0

publish_apart : (q : QoS) (s : Session) (p : Publish) → Apart s (out_publish q s p 0) (with_id q (part s) (numbered q s.core p))
publish_apart AtMostOnce s p = once_apart (over_maximum s.core p) s p
publish_apart AtLeastOnce s p = acked_apart (verdict_of s.core (record p { pkid = id_for s.core p.pkid })) s (record p { pkid = id_for s.core p.pkid }) (last_after s.core p.pkid) (last_range s.core p.pkid)
publish_apart ExactlyOnce s p = acked_apart (verdict_of s.core (record p { pkid = id_for s.core p.pkid })) s (record p { pkid = id_for s.core p.pkid }) (last_after s.core p.pkid) (last_range s.core p.pkid)

pub out_apart : (s : Session) (p : Publish) → Apart s (on_request s (requests.Publish p) 0) (with_id p.qos (part s) (numbered p.qos s.core p))
unfolding on_request
out_apart s p = publish_apart p.qos s p

-- an id that was given is kept
given_id : (c d : Core) (id : ℕ) → id_for d (id_for c id) ≡ id_for c id
given_id c d id = by (id == 0) refl
  where
    by : (b : Bool) → (id == 0) ≡ b → id_for d (cond b (next_id c) id) ≡ cond b (next_id c) id
    by true e = ap (λ b. cond b (next_id d) (next_id c)) (ne_eqb (next_id c) 0 (λ h. absurd (omega (arith, h))))
    by false e = ap (λ b. cond b (next_id d) id) e

numbered_qos : (q : QoS) (c : Core) (p : Publish) → (numbered q c p).qos ≡ p.qos
numbered_qos AtMostOnce c p = refl
numbered_qos AtLeastOnce c p = refl
numbered_qos ExactlyOnce c p = refl

numbered_twice : (q : QoS) (c d : Core) (p : Publish) → numbered q d (numbered q c p) ≡ numbered q c p
numbered_twice AtMostOnce c d p = refl
numbered_twice AtLeastOnce c d p = ap (λ i. record p { pkid = i }) (given_id c d p.pkid)
numbered_twice ExactlyOnce c d p = ap (λ i. record p { pkid = i }) (given_id c d p.pkid)

pub numbered_again : (c d : Core) (p : Publish) → numbered (numbered p.qos c p).qos d (numbered p.qos c p) ≡ numbered p.qos c p
numbered_again c d p = ap (λ q. numbered q d (numbered p.qos c p)) (numbered_qos p.qos c p) ∙ numbered_twice p.qos c d p

-- an ack comes
alone_apart : (s : Session) (id : ℕ) → Apart s (freed_for None s id 0) (freed_for None (part s) id 0)
alone_apart s id = record { reply = refl; after = refl; kept = record { seen = refl; own = refl }; cost = omega arith; range = λ i. record { last = i.last; current = i.current } }

freed_apart : (o : Option Publish) (s : Session) (id : ℕ) → Apart s (freed_for o s id 0) (freed_for o (part s) id 0)
freed_apart None s id = alone_apart s id
freed_apart (Some p) s id =
    either (p.pkid == id) s _ _ _ _
    (record {
      reply = refl;
      after = refl;
      kept = told_kept s _ (events.Outgoing (outgoing.Publish id)) refl refl refl refl;
      cost = let f = four p.qos in omega (arith, f);
      range = λ i. record { last = i.last; current = i.current };
    })
    (alone_apart s id)

puback_apart : (x : Option Slot) (s : Session) (id : ℕ) → Apart s (on_puback x s id 0) (on_puback x (part s) id 0)
puback_apart None s id = refused s _
puback_apart (Some Released) s id = refused s _
puback_apart (Some (Sent p)) s id = freed_apart s.core.waiting s id

pubrec_apart : (x : Option Slot) (s : Session) (id : ℕ) → Apart s (on_pubrec x s Success id 0) (on_pubrec x (part s) Success id 0)
pubrec_apart None s id = refused s _
pubrec_apart (Some Released) s id = refused s _
pubrec_apart (Some (Sent p)) s id =
    record {
      reply = refl;
      after = refl;
      kept = told_kept s _ (events.Outgoing (outgoing.PubRel id)) refl refl refl refl;
      cost = omega arith;
      range = λ i. record { last = i.last; current = i.current };
    }

pubcomp_apart : (x : Option Slot) (s : Session) (id : ℕ) → Apart s (on_pubcomp x s id 0) (on_pubcomp x (part s) id 0)
pubcomp_apart None s id = refused s _
pubcomp_apart (Some (Sent p)) s id = refused s _
pubcomp_apart (Some Released) s id = freed_apart s.core.waiting s id

-- the ack was told before
pub ack_apart : (s : Session) (x : Packet) → IsAck x → Apart (with_incoming s x) (on_packet s x 0) (answer_to (part s) x 0)
unfolding on_packet
ack_apart s _ (OfPublish id) = puback_apart (map.get s.core.in_use id) (with_incoming s (puback_of id)) id
ack_apart s _ (OfFirst id) = pubrec_apart (map.get s.core.in_use id) (with_incoming s (pubrec_of id)) id
ack_apart s _ (OfRelease id reason) = pubcomp_apart (map.get s.core.in_use id) (with_incoming s (pubcomp_of id reason)) id

ack_event : (x : Packet) → IsAck x → publish_in (events.Incoming x) ≡ None
ack_event _ (OfPublish id) = refl
ack_event _ (OfFirst id) = refl
ack_event _ (OfRelease id reason) = refl

pub ack_kept : (s : Session) (x : Packet) → IsAck x → Kept s (on_packet s x 0).1
ack_kept s x i =
    let a = told_kept s (with_incoming s x) (events.Incoming x) (ack_event x i) refl refl refl in
    let b = (ack_apart s x i).kept in
    record { seen = b.seen ∙ a.seen; own = b.own ∙ a.own }

-- ---- sessions with one sending part

-- the same reply, and the same sending part after it
pub record Alike (a b : Answer) : Type 0 where
  pub reply : a.0 ≡ b.0
  pub after : part a.1 ≡ part b.1

alike_by : (f : Session → Answer) {u v : Session} (s t : Session) (a b : Answer) → Apart u a (f (part s)) → Apart v b (f (part t)) → part s ≡ part t → Alike a b
alike_by f s t a b h k e = record { reply = h.reply ∙ ap (λ r. (f r).0) e ∙ sym k.reply; after = h.after ∙ ap (λ r. part (f r).1) e ∙ sym k.after }

-- one that asks with the id that the other gives
pub out_alike : (w s : Session) (p : Publish) → part w ≡ part s → Alike (on_request w (requests.Publish (numbered p.qos s.core p)) 0) (on_request s (requests.Publish p) 0)
out_alike w s p e =
    let h = out_apart w (numbered p.qos s.core p) in
    let k = out_apart s p in
    let m : with_id (numbered p.qos s.core p).qos (part w) (numbered (numbered p.qos s.core p).qos w.core (numbered p.qos s.core p)) ≡ with_id p.qos (part s) (numbered p.qos s.core p) =
    λ n. with_id (numbered_qos p.qos s.core p n) (e n) (numbered_again s.core w.core p n) in
    record { reply = h.reply ∙ ap (λ (a : Answer). a.0) m ∙ sym k.reply; after = h.after ∙ ap (λ (a : Answer). part a.1) m ∙ sym k.after }

pub ack_alike : (s t : Session) (x : Packet) → IsAck x → part s ≡ part t → Alike (on_packet s x 0) (on_packet t x 0)
ack_alike s t x i e = alike_by (λ r. answer_to r x 0) s t _ _ (ack_apart s x i) (ack_apart t x i) e

-- ---- what is about subscriptions

-- it changes neither part, and sends what is neither an ack nor sent by a sender
pub record Aside (s : Session) (a : Answer) : Type 0 where
  pub kept : Kept s a.1
  pub same : part a.1 ≡ part s

aside : (s : Session) (e : StateError) → Aside s (Err e, s)
aside s e = record { kept = record { seen = refl; own = refl }; same = refl }

pub subscribe_aside : (s : Session) (p : Subscribe) → Aside s (on_request s (requests.Subscribe p) 0)
unfolding on_request
subscribe_aside s p = by (length p.filters == 0)
  where
    by : (b : Bool) → Aside s (cond b (Err errors.EmptySubscription, s) (Ok (Some (packets.Subscribe (record p { pkid = next_id s.core }))), with_event_at (gives_id s) (outgoing.Subscribe (next_id s.core)) 0))
    by true = aside s errors.EmptySubscription
    by false = record { kept = told_kept s _ (events.Outgoing (outgoing.Subscribe (next_id s.core))) refl refl refl refl; same = refl }

pub unsubscribe_aside : (s : Session) (p : Unsubscribe) → Aside s (on_request s (requests.Unsubscribe p) 0)
unfolding on_request
unsubscribe_aside s p = record { kept = told_kept s _ (events.Outgoing (outgoing.Unsubscribe (next_id s.core))) refl refl refl refl; same = refl }

-- what the broker answers to them
pub data IsAnswer : Packet → Type 0 where
  ToSubscribe : (p : SubAck) → IsAnswer (packets.SubAck p)
  ToUnsubscribe : (p : UnsubAck) → IsAnswer (packets.UnsubAck p)

pub answer_aside : (s : Session) (x : Packet) → IsAnswer x → ((on_packet s x 0).0 ≡ Ok None) × Aside s (on_packet s x 0)
unfolding on_packet
answer_aside s _ (ToSubscribe p) = (refl, record { kept = told_kept s _ (events.Incoming (packets.SubAck p)) refl refl refl refl; same = refl })
answer_aside s _ (ToUnsubscribe p) = (refl, record { kept = told_kept s _ (events.Incoming (packets.UnsubAck p)) refl refl refl refl; same = refl })

-- ---- a new connection

connected_part : (m : Option ℕ) (s : Session) → part (connected m s) ≡ part (connected m (part s))
unfolding on_packet
connected_part m s = refl

pub connected_alike : (m : Option ℕ) (s t : Session) → part s ≡ part t → part (connected m s) ≡ part (connected m t)
connected_alike m s t e = connected_part m s ∙ ap (λ r. part (connected m r)) e ∙ sym (connected_part m t)

pub connected_kept : (m : Option ℕ) (s : Session) → Kept s (connected m s)
unfolding on_packet
connected_kept m s = told_kept s _ (events.Incoming (taken_back m)) refl refl refl refl

pub again_alike : (s t : Session) → part s ≡ part t → ((again_of s).0 ≡ (again_of t).0) × (part (again_of s).1 ≡ part (again_of t).1)
again_alike s t e = (ap (λ r. (again_of r).0) e, ap (λ r. part (again_of r).1) e)

none_shown : (ps : List Packet) → filter_map publish_in (filter_map event_for ps) ≡ []
none_shown [] = refl
none_shown (packets.Publish p ∷ ps) = none_shown ps
none_shown (packets.PubRel a ∷ ps) = none_shown ps
none_shown (x ∷ ps) = none_shown ps

again_kept : (s : Session) → Kept s (again_of s).1
again_kept s =
    record {
      seen = λ n. record {
        ids = s.core.incoming;
        handed = (filter_map-append publish_in s.events (filter_map event_for (again_of s).0) ∙ ap (λ ps. shown s ++ ps) (none_shown (again_of s).0) ∙ append-nil (shown s)) n;
      };
      own = refl;
    }

pub back_kept : (m : Option ℕ) (s : Session) → Kept s (again_of (connected m s)).1
back_kept m s =
    let a = connected_kept m s in
    let b = again_kept (connected m s) in
    record { seen = b.seen ∙ a.seen; own = b.own ∙ a.own }
