-- What is said of the publishes that are accepted, with their ids, is said of every packet of a run.
use Rattle.std.proofs.Common.{◌≡◌, ◌≢◌, ℕ, zero, suc, ◌≤◌, Bool, true, false, cond, nat_lt, ◌==◌, List, [], ◌∷◌, ◌++◌, Option, Some, None, Result, Ok, Err, refl, sym, ap, subst, ⊎_elim}
use Rattle.std.specs.List.{filter_map}
use Rattle.std.specs.Option.{option_to_list}
use Rattle.std.specs.Prelude.{option_map}
use Rattle.std.proofs.lemmas.Bool.{cases_eq, ltb-false}
use Rattle.std.proofs.lemmas.List.Elements.{filter_map-append}
use Rattle.std.specs.Ordering.{nat_cmp, eq_by_cmp}
use Rattle.std.specs.Cmp.{nat_cmp_total}
use Rattle.std.specs.FinMap.{get, insert, remove, get-remove, get-empty}
use Rattle.std.specs.FinSet as set
use Rattle.mqtt5_base.specs.declared.quality.QoS.{QoS}
use Rattle.mqtt5_base.specs.declared.quality.QoS.TheVariants.{AtMostOnce, AtLeastOnce, ExactlyOnce}
use Rattle.mqtt5_publish.specs.declared.publish.Publish.{Publish}
use Rattle.mqtt5_publish.specs.declared.puback.PubAckReason.TheVariants.{Success}
use Rattle.mqtt5_publish.specs.declared.pubrel.PubRelReason.{PubRelReason}
use Rattle.mqtt5_codec.specs.declared.packet.Packet.{Packet}
use Rattle.mqtt5_codec.specs.declared.packet.Packet.TheVariants as packets
use Rattle.mqtt5_inflight.specs.declared.slot.Slot.{Slot}
use Rattle.mqtt5_inflight.specs.declared.slot.Slot.TheVariants.{Sent, Released}
use Rattle.mqtt5_inflight.specs.declared.event.Request.{Request}
use Rattle.mqtt5_inflight.specs.declared.event.Request.TheVariants as requests
use Rattle.mqtt5_inflight.specs.declared.event.Outgoing.TheVariants as outgoing
use Rattle.mqtt5_inflight.specs.declared.error.StateError.{StateError}
use Rattle.mqtt5_inflight.specs.declared.error.StateError.TheVariants as errors
use Rattle.mqtt5_inflight.specs.InUse.{InUse}
use Rattle.mqtt5_inflight.specs.Unacked.{again, slot_again, in_use_again, by_id, publish_again, release_again}
use Rattle.mqtt5_inflight.specs.Resent.{packet_for, packets_of}
use Rattle.mqtt5_inflight.proofs.Exports.{get_again, no_ids, get_insert_same, get_insert_other}
use Rattle.mqtt5_session.specs.Session.{Core, Session, Answer}
use Rattle.mqtt5_session.specs.Requests.{on_request, unless, over_maximum, Verdict, Refuse, Wait, Store, by_alias, by_use, verdict_of, out_acked, out_publish, id_for, last_after, release_of, with_event_at}
use Rattle.mqtt5_session.specs.Packets.{puback_of, pubrec_of, pubcomp_of, on_packet, with_incoming, freed_for, on_puback, on_pubrec, on_pubcomp}
use Rattle.mqtt5_session.specs.Packets as session
use Rattle.mqtt5_session.specs.Resuming.{on_clean, resume_of}
use Rattle.mqtt5_session.specs.Again.{after_sent}
use Rattle.mqtt5_session.proofs.Exports.{choose, Sound}
use Rattle.mqtt5_world.specs.declared.event.WorldEvent.{WorldEvent}
use Rattle.mqtt5_world.specs.declared.event.WorldEvent.TheVariants as events
use Rattle.mqtt5_world.specs.Broker.{Broker, serve, serve_publish, reason_for}
use Rattle.mqtt5_world.specs.World.{World, start, after_request, arrives, after_reply, takes_packet, returns, taken_back, after_resume, resumes, happens}
use Rattle.mqtt5_world.proofs.Step.{Inv, SlotAllowed}
use Rattle.mqtt5_world.proofs.Losses.{sends_again}
use Rattle.mqtt5_progress.specs.Packets.{IsAck, OfPublish, OfFirst, OfRelease, Every, numbered}

pub every_append : {A : Type 0} (P : A → Type 0) (xs ys : List A) → Every P xs → Every P ys → Every P (xs ++ ys)
every_append P [] ys a b = b
every_append P (x ∷ xs) ys a b = (a.0, every_append P xs ys a.1 b)

-- closed under what broker and session answer, and under being sent again
pub record Closed (Q : Packet → Type 0) : Type 0 where
  pub ack : (p : Publish) → Q (packets.Publish p) → Q (puback_of p.pkid)
  pub first : (p : Publish) → Q (packets.Publish p) → Q (pubrec_of p.pkid)
  pub release : (id : ℕ) → Q (pubrec_of id) → Q (release_of id)
  pub complete : (id : ℕ) (reason : PubRelReason) → Q (release_of id) → Q (pubcomp_of id reason)
  pub again : (p : Publish) → Q (packets.Publish p) → Q (packets.Publish (again p))

-- what a client sends
pub data IsSent : Packet → Type 0 where
  APublish : (p : Publish) → IsSent (packets.Publish p)
  ARelease : (id : ℕ) → IsSent (release_of id)

abbrev pub HoldsSlot : (Packet → Type 0) → ℕ → Option Slot → Type 0
HoldsSlot Q id None = Unit {0}
HoldsSlot Q id (Some Released) = Q (release_of id)
HoldsSlot Q id (Some (Sent p)) = Q (packets.Publish p)

abbrev pub HoldsWaiting : (Packet → Type 0) → Option Publish → Type 0
HoldsWaiting Q None = Unit {0}
HoldsWaiting Q (Some p) = Q (packets.Publish p)

pub record HoldsCore (Q : Packet → Type 0) (limit : ℕ) (c : Core) : Type 0 where
  pub limited : c.limit ≡ limit
  pub in_use : (id : ℕ) → HoldsSlot Q id (get c.in_use id)
  pub waits : HoldsWaiting Q c.waiting

abbrev pub GoesUp : (Packet → Type 0) → Packet → Type 0
GoesUp Q x = Q x × IsSent x

abbrev pub ComesDown : (Packet → Type 0) → Packet → Type 0
ComesDown Q x = Q x × IsAck x

pub record Holds (Q : Packet → Type 0) (limit : ℕ) (w : World) : Type 0 where
  pub core : HoldsCore Q limit w.session.core
  pub up : Every (GoesUp Q) w.up
  pub down : Every (ComesDown Q) w.down

abbrev pub HoldsReply : (Packet → Type 0) → Result (Option Packet) StateError → Type 0
HoldsReply Q (Err e) = Unit {0}
HoldsReply Q (Ok o) = Every (GoesUp Q) (option_to_list o)

pub record Keeps (Q : Packet → Type 0) (limit : ℕ) (a : Answer) : Type 0 where
  pub after : HoldsCore Q limit a.1.core
  pub reply : HoldsReply Q a.0

abbrev pub IfAccepted : Result (Option Packet) StateError → Type 0 → Type 0
IfAccepted (Ok reply) P = P
IfAccepted (Err e) P = Unit {0}

-- what an event owes
abbrev pub Owes : (Packet → Type 0) → World → WorldEvent → Type 0
Owes Q w (events.Publish p) = IfAccepted (on_request w.session (requests.Publish p) 0).0 (Q (packets.Publish (numbered p.qos w.session.core p)))
Owes Q w e = Unit {0}

-- ---- the session that was taken back

pub taken_core : (s : Session) (m : Option ℕ) → (n : ℕ) × ((on_packet s (taken_back m) 0).1.core ≡ record s.core { current = n })
unfolding on_packet
taken_core s None = (s.core.current, refl)
taken_core s (Some m) = (_, refl)

pub taken_reply : (s : Session) (m : Option ℕ) → (on_packet s (taken_back m) 0).0 ≡ Ok None
unfolding on_packet
taken_reply s m = refl

abbrev pub again_of : Session → List Packet × Session
again_of s = (packets_of s.core.limit s.core.in_use, after_sent (packets_of s.core.limit s.core.in_use) (in_use_again s.core.in_use) (on_clean s) 0)

pub resumes_taken : (w : World) (m : Option ℕ) → Inv w → resume_of (on_packet w.session (taken_back m) 0).1 0 ≡ Ok (again_of (on_packet w.session (taken_back m) 0).1)
resumes_taken w m i =
    let e = (taken_core w.session m).1 in
    sends_again (on_packet w.session (taken_back m) 0).1 (subst Sound (sym e) i.sound) (subst (λ (c : Core). (id : ℕ) → SlotAllowed c.alias_max (get c.in_use id)) (sym e) i.allowed)

module _ (Q : Packet → Type 0) (limit : ℕ) where
  -- ---- ids in use

  holds_insert : (h : InUse) (k : ℕ) (x : Slot) → HoldsSlot Q k (Some x) → ((id : ℕ) → HoldsSlot Q id (get h id)) → (id : ℕ) → HoldsSlot Q id (get (insert h k x) id)
  holds_insert h k x q all id = ⊎_elim
      (λ (e : id ≡ k). subst (λ j. HoldsSlot Q j (get (insert h k x) j)) (sym e) (subst (HoldsSlot Q k) (sym (get_insert_same h k x)) q))
      (λ (ne : id ≢ k). subst (HoldsSlot Q id) (sym (get_insert_other h k x id ne)) (all id))
      (cases_eq id k)

  holds_remove : (h : InUse) (k : ℕ) → ((id : ℕ) → HoldsSlot Q id (get h id)) → (id : ℕ) → HoldsSlot Q id (get (remove h k) id)
  holds_remove h k all id = subst (HoldsSlot Q id) (sym (get-remove nat_cmp_total h k id)) (by (eq_by_cmp nat_cmp id k))
    where
      by : (b : Bool) → HoldsSlot Q id (cond b None (get h id))
      by true = tt {0}
      by false = all id

  -- ---- requests

  keeps_acked : (v : Verdict) (s : Session) (p : Publish) (last : ℕ) → HoldsCore Q limit s.core → IfAccepted (out_acked v s p last 0).0 (Q (packets.Publish p)) → Keeps Q limit (out_acked v s p last 0)
  keeps_acked (Refuse e) s p last h q = record { after = h; reply = tt {0} }
  keeps_acked Wait s p last h q = record { after = record { limited = h.limited; in_use = h.in_use; waits = q }; reply = tt {0} }
  keeps_acked Store s p last h q = record { after = record { limited = h.limited; in_use = holds_insert s.core.in_use p.pkid (Sent p) q h.in_use; waits = h.waits }; reply = ((q, APublish p), tt {0}) }

  abbrev sent_once : Session → Publish → Answer
  sent_once s p = (Ok (Some (packets.Publish p)), with_event_at s (outgoing.Publish p.pkid) 0)

  keeps_once : (o : Option StateError) (s : Session) (p : Publish) → HoldsCore Q limit s.core → IfAccepted (unless o s (sent_once s p)).0 (Q (packets.Publish p)) → Keeps Q limit (unless o s (sent_once s p))
  keeps_once (Some e) s p h q = record { after = h; reply = tt {0} }
  keeps_once None s p h q = record { after = h; reply = ((q, APublish p), tt {0}) }

  keeps_publish : (q : QoS) (s : Session) (p : Publish) → HoldsCore Q limit s.core → IfAccepted (out_publish q s p 0).0 (Q (packets.Publish (numbered q s.core p))) → Keeps Q limit (out_publish q s p 0)
  keeps_publish AtMostOnce s p h q = keeps_once (over_maximum s.core p) s p h q
  keeps_publish AtLeastOnce s p h q = keeps_acked _ s (record p { pkid = id_for s.core p.pkid }) (last_after s.core p.pkid) h q
  keeps_publish ExactlyOnce s p h q = keeps_acked _ s (record p { pkid = id_for s.core p.pkid }) (last_after s.core p.pkid) h q

  pub keeps_out : (s : Session) (p : Publish) → HoldsCore Q limit s.core → IfAccepted (on_request s (requests.Publish p) 0).0 (Q (packets.Publish (numbered p.qos s.core p))) → Keeps Q limit (on_request s (requests.Publish p) 0)
  unfolding on_request
  keeps_out s p h q = keeps_publish p.qos s p h q

  -- ---- acks

  keeps_alone : (s : Session) (id : ℕ) → HoldsCore Q limit s.core → Keeps Q limit (session.takes (record s { core = record s.core { in_use = remove s.core.in_use id } }) 0)
  keeps_alone s id h = record { after = record { limited = h.limited; in_use = holds_remove s.core.in_use id h.in_use; waits = h.waits }; reply = tt {0} }

  keeps_freed : (o : Option Publish) (s : Session) (id : ℕ) → HoldsWaiting Q o → HoldsCore Q limit s.core → Keeps Q limit (freed_for o s id 0)
  keeps_freed None s id q h = keeps_alone s id h
  keeps_freed (Some p) s id q h =
      choose (Keeps Q limit) (p.pkid == id) _ (session.takes (record s { core = record s.core { in_use = remove s.core.in_use id } }) 0)
      (λ same. record { after = record { limited = h.limited; in_use = holds_insert s.core.in_use id (Sent p) q h.in_use; waits = tt {0} }; reply = ((q, APublish p), tt {0}) })
      (λ other. keeps_alone s id h)

  keeps_puback : (x : Option Slot) (s : Session) (id : ℕ) → HoldsCore Q limit s.core → Keeps Q limit (on_puback x s id 0)
  keeps_puback None s id h = record { after = h; reply = tt {0} }
  keeps_puback (Some Released) s id h = record { after = h; reply = tt {0} }
  keeps_puback (Some (Sent p)) s id h = keeps_freed s.core.waiting s id h.waits h

  keeps_pubrec : (x : Option Slot) (s : Session) (id : ℕ) → Q (release_of id) → HoldsCore Q limit s.core → Keeps Q limit (on_pubrec x s Success id 0)
  keeps_pubrec None s id q h = record { after = h; reply = tt {0} }
  keeps_pubrec (Some Released) s id q h = record { after = h; reply = tt {0} }
  keeps_pubrec (Some (Sent p)) s id q h =
      record { after = record { limited = h.limited; in_use = holds_insert s.core.in_use id Released q h.in_use; waits = h.waits }; reply = ((q, ARelease id), tt {0}) }

  keeps_pubcomp : (x : Option Slot) (s : Session) (id : ℕ) → HoldsCore Q limit s.core → Keeps Q limit (on_pubcomp x s id 0)
  keeps_pubcomp None s id h = record { after = h; reply = tt {0} }
  keeps_pubcomp (Some Released) s id h = keeps_freed s.core.waiting s id h.waits h
  keeps_pubcomp (Some (Sent p)) s id h = record { after = h; reply = tt {0} }

  keeps_ack : Closed Q → (s : Session) (x : Packet) → IsAck x → HoldsCore Q limit s.core → Q x → Keeps Q limit (on_packet s x 0)
  unfolding on_packet
  keeps_ack c s _ (OfPublish id) h q = keeps_puback (get s.core.in_use id) (with_incoming s (puback_of id)) id h
  keeps_ack c s _ (OfFirst id) h q = keeps_pubrec (get s.core.in_use id) (with_incoming s (pubrec_of id)) id (c.release id q) h
  keeps_ack c s _ (OfRelease id reason) h q = keeps_pubcomp (get s.core.in_use id) (with_incoming s (pubcomp_of id reason)) id h

  pub keeps_inc : Closed Q → (s : Session) (x : Packet) → HoldsCore Q limit s.core → ComesDown Q x → Keeps Q limit (on_packet s x 0)
  keeps_inc c s x h q = keeps_ack c s x q.1 h q.0

  -- ---- the broker

  answers_publish : Closed Q → (q : QoS) (b : Broker) (p : Publish) → Q (packets.Publish p) → Every (ComesDown Q) (option_to_list (serve_publish q b p).0)
  answers_publish c AtMostOnce b p h = tt {0}
  answers_publish c AtLeastOnce b p h = ((c.ack p h, OfPublish p.pkid), tt {0})
  answers_publish c ExactlyOnce b p h = ((c.first p h, OfFirst p.pkid), tt {0})

  answers_sent : Closed Q → (b : Broker) (x : Packet) → IsSent x → Q x → Every (ComesDown Q) (option_to_list (serve b x).0)
  answers_sent c b _ (APublish p) q = answers_publish c p.qos b p q
  answers_sent c b _ (ARelease id) q = ((c.complete id (reason_for (set.contains b.ids id)) q, OfRelease id (reason_for (set.contains b.ids id))), tt {0})

  -- ---- what is sent again

  every_part : (f : ℕ → Option Slot → List Request) (h : InUse) → ((id : ℕ) → Every (GoesUp Q) (filter_map packet_for (f id (get h id)))) → (n : ℕ) → Every (GoesUp Q) (filter_map packet_for (by_id f n h))
  every_part f h each zero = tt {0}
  every_part f h each (suc n) =
      subst (Every (GoesUp Q)) (sym (filter_map-append packet_for (by_id f n h) (f (suc n) (get h (suc n)))))
      (every_append (GoesUp Q) (filter_map packet_for (by_id f n h)) (filter_map packet_for (f (suc n) (get h (suc n)))) (every_part f h each n) (each (suc n)))

  publish_part : Closed Q → (id : ℕ) (x : Option Slot) → HoldsSlot Q id x → Every (GoesUp Q) (filter_map packet_for (publish_again id x))
  publish_part c id None h = tt {0}
  publish_part c id (Some Released) h = tt {0}
  publish_part c id (Some (Sent p)) h = ((c.again p h, APublish (again p)), tt {0})

  release_part : (id : ℕ) (x : Option Slot) → HoldsSlot Q id x → Every (GoesUp Q) (filter_map packet_for (release_again id x))
  release_part id None h = tt {0}
  release_part id (Some Released) h = ((h, ARelease id), tt {0})
  release_part id (Some (Sent p)) h = tt {0}

  every_again : Closed Q → (c : Core) → HoldsCore Q limit c → Every (GoesUp Q) (packets_of c.limit c.in_use)
  every_again closed c h =
      subst (Every (GoesUp Q)) (sym (filter_map-append packet_for (by_id publish_again c.limit c.in_use) (by_id release_again c.limit c.in_use)))
      (every_append (GoesUp Q) (filter_map packet_for (by_id publish_again c.limit c.in_use)) (filter_map packet_for (by_id release_again c.limit c.in_use))
      (every_part publish_again c.in_use (λ id. publish_part closed id (get c.in_use id) (h.in_use id)) c.limit)
      (every_part release_again c.in_use (λ id. release_part id (get c.in_use id) (h.in_use id)) c.limit))

  slot_part : Closed Q → (id : ℕ) (x : Option Slot) → HoldsSlot Q id x → HoldsSlot Q id (option_map slot_again x)
  slot_part c id None h = h
  slot_part c id (Some Released) h = h
  slot_part c id (Some (Sent p)) h = c.again p h

  -- what a resume sends, and the session after it
  pub keeps_again : Closed Q → (s : Session) → HoldsCore Q limit s.core → Every (GoesUp Q) (again_of s).0 × HoldsCore Q limit (again_of s).1.core
  keeps_again c s h = (
    every_again c s.core h,
    record { limited = h.limited; in_use = λ id. subst (HoldsSlot Q id) (sym (get_again s.core.in_use id)) (slot_part c id (get s.core.in_use id) (h.in_use id)); waits = h.waits },
  )

  pub taken_holds : (s : Session) (m : Option ℕ) → HoldsCore Q limit s.core → HoldsCore Q limit (on_packet s (taken_back m) 0).1.core
  taken_holds s m h = subst (HoldsCore Q limit) (sym (taken_core s m).1) (record { limited = h.limited; in_use = h.in_use; waits = h.waits })

  -- ---- events

  holds_asked : (w : World) (p : Publish) (a : Answer) → Holds Q limit w → Keeps Q limit a → Holds Q limit (after_request w p a.0 a.1)
  holds_asked w p a h k = by a.0 k.reply
    where
      by : (r : Result (Option Packet) StateError) → HoldsReply Q r → Holds Q limit (after_request w p r a.1)
      by (Ok o) q = record { core = k.after; up = every_append (GoesUp Q) w.up (option_to_list o) h.up q; down = h.down }
      by (Err e) q = record { core = k.after; up = h.up; down = h.down }

  holds_heard : (w : World) (a : Answer) → Holds Q limit w → Keeps Q limit a → Holds Q limit (after_reply w a.0 a.1)
  holds_heard w a h k = by a.0 k.reply
    where
      by : (r : Result (Option Packet) StateError) → HoldsReply Q r → Holds Q limit (after_reply w r a.1)
      by (Ok o) q = record { core = k.after; up = every_append (GoesUp Q) w.up (option_to_list o) h.up q; down = h.down }
      by (Err e) q = record { core = k.after; up = h.up; down = h.down }

  holds_arrives : Closed Q → (w : World) (us : List Packet) → w.up ≡ us → Holds Q limit w → Holds Q limit (arrives w us)
  holds_arrives c w [] e h = h
  holds_arrives c w (x ∷ rest) e h =
      let q = subst (Every (GoesUp Q)) e h.up in
      record { core = h.core; up = q.1; down = every_append (ComesDown Q) w.down (option_to_list (serve w.broker x).0) h.down (answers_sent c w.broker x q.0.1 q.0.0) }

  holds_returns : Closed Q → (w : World) (ds : List Packet) → w.down ≡ ds → Holds Q limit w → Holds Q limit (returns w ds)
  holds_returns c w [] e h = h
  holds_returns c w (x ∷ rest) e h =
      let q = subst (Every (ComesDown Q)) e h.down in
      holds_heard (record w { down = rest }) (on_packet w.session x 0) (record { core = h.core; up = h.up; down = q.1 }) (keeps_inc c w.session x h.core q.0)

  holds_lost : Closed Q → (w : World) (m : Option ℕ) → Inv w → Holds Q limit w → Holds Q limit (happens w (events.Loss m))
  holds_lost c w m i h =
      let s = (on_packet w.session (taken_back m) 0).1 in
      let lost : World = record w { up = []; down = [] } in
      let k = keeps_again c s (taken_holds w.session m h.core) in
      let after : Holds Q limit (after_resume (after_reply lost (Ok None) s) (Ok (again_of s))) = record { core = k.1; up = k.0; down = tt {0} } in
      let same : takes_packet lost (taken_back m) ≡ after_reply lost (Ok None) s = ap (λ r. after_reply lost r s) (taken_reply w.session m) in
      subst (λ v. Holds Q limit (resumes v)) (sym same) (subst (λ r. Holds Q limit (after_resume (after_reply lost (Ok None) s) r)) (sym (resumes_taken w m i)) after)

  pub holds_next : Closed Q → (w : World) (e : WorldEvent) → Inv w → Holds Q limit w → Owes Q w e → Holds Q limit (happens w e)
  holds_next c w (events.Publish p) i h q = holds_asked w p (on_request w.session (requests.Publish p) 0) h (keeps_out w.session p h.core q)
  holds_next c w events.Up i h q = holds_arrives c w w.up refl h
  holds_next c w events.Down i h q = holds_returns c w w.down refl h
  holds_next c w (events.Loss m) i h q = holds_lost c w m i h

  none_in_use : (id : ℕ) → get no_ids id ≡ None
  none_in_use id = get-empty nat_cmp id

  pub holds_start : Holds Q limit (start limit)
  holds_start = record { core = record { limited = refl; in_use = λ id. subst (HoldsSlot Q id) (sym (none_in_use id)) (tt {0}); waits = tt {0} }; up = tt {0}; down = tt {0} }

-- ---- an accepted publish has an id within the limit

if_so : (a : Result (Option Packet) StateError) (P : Type 0) → P → IfAccepted a P
if_so (Ok o) P h = h
if_so (Err e) P h = tt {0}

abbrev pub HasId : QoS → Core → Publish → Type 0
HasId AtMostOnce c p = Unit {0}
HasId qos c p = id_for c p.pkid ≤ c.limit

judged_within : (s : Session) (p : Publish) (last : ℕ) → IfAccepted (out_acked (verdict_of s.core p) s p last 0).0 (p.pkid ≤ s.core.limit)
judged_within s p last = by (nat_lt s.core.limit p.pkid) refl
  where
    verdict : Verdict
    verdict = by_alias (over_maximum s.core p) (by_use (get s.core.in_use p.pkid) s.core.waiting)

    by : (b : Bool) → nat_lt s.core.limit p.pkid ≡ b → IfAccepted (out_acked (cond b (Refuse (errors.Unsolicited p.pkid)) verdict) s p last 0).0 (p.pkid ≤ s.core.limit)
    by true e = tt {0}
    by false e = if_so (out_acked verdict s p last 0).0 (p.pkid ≤ s.core.limit) (ltb-false s.core.limit p.pkid e)

publish_within : (q : QoS) (s : Session) (p : Publish) → IfAccepted (out_publish q s p 0).0 (HasId q s.core p)
publish_within AtMostOnce s p = if_so (out_publish AtMostOnce s p 0).0 (Unit {0}) (tt {0})
publish_within AtLeastOnce s p = judged_within s (record p { pkid = id_for s.core p.pkid }) (last_after s.core p.pkid)
publish_within ExactlyOnce s p = judged_within s (record p { pkid = id_for s.core p.pkid }) (last_after s.core p.pkid)

pub within : (s : Session) (p : Publish) → IfAccepted (on_request s (requests.Publish p) 0).0 (HasId p.qos s.core p)
unfolding on_request
within s p = publish_within p.qos s p
