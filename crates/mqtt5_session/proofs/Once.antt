-- What each call does to the ids of the broker, and what it hands on.
use Rattle.std.proofs.Common.{◌≡◌, ℕ, ◌+◌, ◌≤◌, Bool, true, false, cond, ◌&&◌, ◌==◌, List, [], ◌∷◌, ◌++◌, length, Option, Some, None, Result, Ok, Err, refl, sym, ap, ◌∙◌, subst, arith, rules, nat_lt, inl, inr, eq-eqb, ne_eqb}
use Rattle.std.proofs.lemmas.Bool.{cases_eq}
use Rattle.std.proofs.lemmas.List.Sums.{sum_by-append}
use Rattle.std.specs.Prelude.{is_some, ◌||◌, not, unwrap_or}
use Rattle.std.specs.Cmp.{nat_cmp_total, unsigned_tied}
use Rattle.std.specs.Ordering.{nat_cmp, eq_by_cmp}
use Rattle.std.specs.FinMap.{get}
use Rattle.std.specs.FinSet as set
use Rattle.std.specs.FinSet.{contains-insert, contains-remove}
use Rattle.mqtt5_base.specs.declared.quality.QoS.{QoS}
use Rattle.mqtt5_base.specs.declared.quality.QoS.TheVariants.{AtMostOnce, AtLeastOnce, ExactlyOnce}
use Rattle.mqtt5_publish.specs.declared.publish.Publish.{Publish}
use Rattle.mqtt5_publish.specs.declared.puback.PubAckReason.{PubAckReason}
use Rattle.mqtt5_publish.specs.declared.pubrel.PubRel.{PubRel}
use Rattle.mqtt5_publish.specs.declared.pubrel.PubRelReason.{PubRelReason}
use Rattle.mqtt5_publish.specs.declared.pubrel.PubRelReason.TheVariants as pubrel_reasons
use Rattle.mqtt5_control.specs.declared.connack.ConnectReturnCode.{ConnectReturnCode}
use Rattle.mqtt5_control.specs.declared.connack.ConnectReturnCode.TheVariants as return_codes
use Rattle.mqtt5_control.specs.declared.connack.ConnAckProperties.{ConnAckProperties}
use Rattle.mqtt5_control.specs.declared.disconnect.DisconnectReasonCode.TheVariants.{ProtocolError}
use Rattle.mqtt5_codec.specs.declared.packet.Packet.{Packet}
use Rattle.mqtt5_codec.specs.declared.packet.Packet.TheVariants as packets
use Rattle.mqtt5_inflight.specs.declared.slot.Slot.{Slot}
use Rattle.mqtt5_inflight.specs.declared.slot.Slot.TheVariants.{Sent, Released}
use Rattle.mqtt5_inflight.specs.declared.event.Request.{Request}
use Rattle.mqtt5_inflight.specs.declared.event.Request.TheVariants as requests
use Rattle.mqtt5_inflight.specs.declared.event.Event.{Event}
use Rattle.mqtt5_inflight.specs.declared.event.Event.TheVariants as events
use Rattle.mqtt5_inflight.specs.declared.event.Outgoing.{Outgoing}
use Rattle.mqtt5_inflight.specs.declared.event.Outgoing.TheVariants as outgoing
use Rattle.mqtt5_inflight.specs.declared.error.StateError.{StateError}
use Rattle.mqtt5_inflight.specs.declared.error.StateError.TheVariants as errors
use Rattle.mqtt5_inflight.specs.Aliases.{alias_of}
use Rattle.mqtt5_session.specs.Session.{Session, Answer, Receives, Sends, with_event}
use Rattle.mqtt5_session.specs.Requests.{on_request, unless, over_maximum, Verdict, Refuse, Wait, Store, out_acked, out_publish, out_known, id_for, last_after, counts_ping, ping_fault, disconnect_of}
use Rattle.mqtt5_session.specs.Packets.{on_packet, answer_to, with_incoming, with_notice, event_of, is_exactly_once, pubrec_of, pubcomp_of, topics_with, freed_for, on_puback, on_received, on_pubrec, on_pubcomp, on_pubrel, on_released, on_publish, on_qos, answers, on_connack, is_taken, topic_of, ids_with}
use Rattle.mqtt5_session.specs.Resuming.{on_clean, Sendings, with_reply, send_all, resume_of}
use Rattle.mqtt5_session.specs.Ledger.{Call, Ask, Hear, Error, Leave, Authenticate, Clean, Resume, Pop, SetAcks, kept_by, unless_refused, after, after_all}
use Rattle.mqtt5_session.specs.Once.{one_if, kept_id, is_notice, notices, new_notices, releases, notified_in, released_in, notified_by, released_by}
use Rattle.mqtt5_session.proofs.Owed.{choose, leave_core, auth_core}
use Rattle.mqtt5_session.proofs.Sets.{insert-again}

-- ---- requests

-- an answer keeps the ids of the broker
abbrev Keeps : Session → Answer → Type 0
Keeps s a = a.1.core.incoming ≡ s.core.incoming

unless_keeps : (s : Session) (e : Option StateError) (a : Answer) → Keeps s a → Keeps s (unless e s a)
unless_keeps s None a h = h
unless_keeps s (Some e) a h = refl

acked_keeps : (v : Verdict) (s : Session) (p : Publish) (last at : ℕ) → Keeps s (out_acked v s p last at)
acked_keeps (Refuse e) s p last at = refl
acked_keeps Wait s p last at = refl
acked_keeps Store s p last at = refl

publish_keeps : (q : QoS) (s : Session) (p : Publish) (at : ℕ) → Keeps s (out_publish q s p at)
publish_keeps AtMostOnce s p at = unless_keeps s (over_maximum s.core p) _ refl
publish_keeps AtLeastOnce s p at = acked_keeps _ s (record p { pkid = id_for s.core p.pkid }) (last_after s.core p.pkid) at
publish_keeps ExactlyOnce s p at = acked_keeps _ s (record p { pkid = id_for s.core p.pkid }) (last_after s.core p.pkid) at

known_keeps : (x : Option Slot) (s : Session) (id last at : ℕ) → Keeps s (out_known x s id last at)
known_keeps None s id last at = refl
known_keeps (Some Released) s id last at = refl
known_keeps (Some (Sent p)) s id last at = refl

pub out_keeps : (s : Session) (r : Request) (at : ℕ) → Keeps s (on_request s r at)
unfolding on_request
out_keeps s (requests.Publish p) at = publish_keeps p.qos s p at
out_keeps s (requests.PubRel p) at = choose (Keeps s) (nat_lt s.core.limit (id_for s.core p.pkid)) _ _ (λ _. refl) (λ _. known_keeps (get s.core.in_use (id_for s.core p.pkid)) s (id_for s.core p.pkid) (last_after s.core p.pkid) at)
out_keeps s (requests.Subscribe p) at = choose (Keeps s) (length p.filters == 0) _ _ (λ _. refl) (λ _. refl)
out_keeps s (requests.Unsubscribe p) at = refl
out_keeps s requests.PingReq at = unless_keeps (counts_ping s) (ping_fault s.core.waiting (counts_ping s).collision_pings s.awaits_ping) _ refl
out_keeps s requests.Disconnect at = refl
out_keeps s (requests.PubAck p) at = refl
out_keeps s (requests.PubRec p) at = refl
out_keeps s (requests.PubComp p) at = refl
out_keeps s requests.PingResp at = refl
out_keeps s (requests.SubAck p) at = refl
out_keeps s (requests.UnsubAck p) at = refl

-- ---- resuming

abbrev KeepsIds : set.FinSet nat_cmp → Sendings → Type 0
KeepsIds ids (Err e) = Unit {0}
KeepsIds ids (Ok r) = r.1.core.incoming ≡ ids

reply_keeps : (ids : set.FinSet nat_cmp) (a : Result (Option Packet) StateError) (x : Sendings) → KeepsIds ids x → KeepsIds ids (with_reply a x)
reply_keeps ids (Err e) x h = tt {0}
reply_keeps ids (Ok reply) (Err e) h = tt {0}
reply_keeps ids (Ok reply) (Ok r) h = h

all_keep : (rs : List Request) (s : Session) (at : ℕ) → KeepsIds s.core.incoming (send_all rs s at)
all_keep [] s at = refl
all_keep (r ∷ rest) s at = reply_keeps s.core.incoming (on_request s r at).0 _ (subst (λ ids. KeepsIds ids (send_all rest (on_request s r at).1 at)) (out_keeps s r at) (all_keep rest (on_request s r at).1 at))

pub resume_keeps : (s : Session) (at : ℕ) → (kept_by s (resume_of s at)).core.incoming ≡ s.core.incoming
unfolding resume_of
resume_keeps s at = by (resume_of s at) (all_keep _ (on_clean s) at)
  where
    by : (x : Sendings) → KeepsIds s.core.incoming x → (kept_by s x).core.incoming ≡ s.core.incoming
    by (Err e) h = refl
    by (Ok r) h = h

-- ---- events

module _ (id : ℕ) where
  more : (es : List Event) (e : Event) → notices id (es ++ e ∷ []) ≡ notices id es + one_if (is_notice id e)
  more es e = let n = sum_by-append (λ x. cond (is_notice id x) 1 0) es (e ∷ []) in omega (arith, n)

  quiet : (es : List Event) (e : Event) → is_notice id e ≡ false → notices id (es ++ e ∷ []) ≡ notices id es
  quiet es e h = let n = more es e in let z = ap one_if h in omega (arith, n, z)

  -- an answer keeps the ids of the broker, and adds no notice
  record Quiet (s : Session) (a : Answer) : Type 0 where
    ids : a.1.core.incoming ≡ s.core.incoming
    count : notices id a.1.events ≡ notices id s.events

  still : (s : Session) (a : Answer) → a.1.core.incoming ≡ s.core.incoming → a.1.events ≡ s.events → Quiet s a
  still s a h e = record { ids = h; count = ap (notices id) e }

  tell : (s : Session) (a : Answer) (o : Outgoing) → a.1.core.incoming ≡ s.core.incoming → a.1.events ≡ s.events ++ events.Outgoing o ∷ [] → Quiet s a
  tell s a o h e = record { ids = h; count = ap (notices id) e ∙ quiet s.events (events.Outgoing o) refl }

  freed_quiet : (w : Option Publish) (s : Session) (k at : ℕ) → Quiet s (freed_for w s k at)
  freed_quiet None s k at = still s _ refl refl
  freed_quiet (Some p) s k at = choose (Quiet s) (p.pkid == k) _ _ (λ _. tell s _ (outgoing.Publish k) refl refl) (λ _. still s _ refl refl)

  puback_quiet : (x : Option Slot) (s : Session) (k at : ℕ) → Quiet s (on_puback x s k at)
  puback_quiet None s k at = still s _ refl refl
  puback_quiet (Some Released) s k at = still s _ refl refl
  puback_quiet (Some (Sent p)) s k at = freed_quiet s.core.waiting s k at

  pubcomp_quiet : (x : Option Slot) (s : Session) (k at : ℕ) → Quiet s (on_pubcomp x s k at)
  pubcomp_quiet None s k at = still s _ refl refl
  pubcomp_quiet (Some (Sent p)) s k at = still s _ refl refl
  pubcomp_quiet (Some Released) s k at = freed_quiet s.core.waiting s k at

  received_quiet : (b : Bool) (s : Session) (k at : ℕ) → Quiet s (on_received b s k at)
  received_quiet true s k at = tell s _ (outgoing.PubRel k) refl refl
  received_quiet false s k at = freed_quiet s.core.waiting s k at

  pubrec_quiet : (x : Option Slot) (s : Session) (reason : PubAckReason) (k at : ℕ) → Quiet s (on_pubrec x s reason k at)
  pubrec_quiet None s reason k at = still s _ refl refl
  pubrec_quiet (Some Released) s reason k at = still s _ refl refl
  pubrec_quiet (Some (Sent p)) s reason k at = received_quiet (is_taken reason) s k at

  connack_quiet : (code : ConnectReturnCode) (properties : Option ConnAckProperties) (s : Session) (at : ℕ) → Quiet s (on_connack code properties s at)
  connack_quiet return_codes.Success properties s at = still s _ refl refl
  connack_quiet code properties s at = still s _ refl refl

  answers_quiet : (b : Bool) (ack : Packet) (o : Outgoing) (s : Session) (at : ℕ) → Quiet s (answers b ack o s at)
  answers_quiet true ack o s at = still s _ refl refl
  answers_quiet false ack o s at = tell s _ o refl refl

  qos_quiet : (q : QoS) (s : Session) (k at : ℕ) → Quiet s (on_qos q s k at)
  qos_quiet AtMostOnce s k at = still s _ refl refl
  qos_quiet AtLeastOnce s k at = answers_quiet s.core.manual_acks _ _ s at
  qos_quiet ExactlyOnce s k at = answers_quiet s.core.manual_acks _ _ s at

  released_quiet : (reason : PubRelReason) (s : Session) (k at : ℕ) → Quiet s (on_released reason s k at)
  released_quiet pubrel_reasons.Success s k at = tell s _ (outgoing.PubComp k) refl refl
  released_quiet reason s k at = still s _ refl refl

  -- ---- what is handed on

  -- a packet counts
  abbrev Counts : Packet → Session → Answer → Type 0
  Counts packet s a = kept_id id a.1.core + unless_refused a.0 (releases id s.core packet) ≡ kept_id id s.core + new_notices id s a.0 a.1

  none_notified : (r : Result (Option Packet) StateError) (s t : Session) → notices id t.events ≡ notices id s.events → new_notices id s r t ≡ 0
  none_notified (Ok (Some (packets.Disconnect p))) s t e = refl
  none_notified r s t e = omega (arith, e)

  none_accepted : (r : Result (Option Packet) StateError) → unless_refused r 0 ≡ 0
  none_accepted (Ok reply) = refl
  none_accepted (Err e) = refl

  -- a packet that releases nothing, and whose event is no notice
  other_counts : (packet : Packet) (s t : Session) (a : Answer) → releases id s.core packet ≡ 0 → t.core.incoming ≡ s.core.incoming → notices id t.events ≡ notices id s.events → Quiet t a → Counts packet s a
  other_counts packet s t a none ids same q =
      let k : kept_id id a.1.core ≡ kept_id id s.core = ap (λ x. one_if (set.contains x id)) (q.ids ∙ ids) in
      let n = none_notified a.0 s a.1 (q.count ∙ same) in
      let z : unless_refused a.0 (releases id s.core packet) ≡ 0 = ap (unless_refused a.0) none ∙ none_accepted a.0 in
      omega (arith, k, n, z)

  -- ---- releases

  taken_out : (ids : set.FinSet nat_cmp) (k : ℕ) → one_if (set.contains (set.remove ids k) id) + one_if ((k == id) && set.contains ids id) ≡ one_if (set.contains ids id)
  taken_out ids k = elim (cases_eq id k) [
    | inl e ↦
        let tied : eq_by_cmp nat_cmp id k ≡ true = unsigned_tied id k ∙ grind (arith, rules) in
        let a : one_if (set.contains (set.remove ids k) id) ≡ 0 = ap one_if (contains-remove nat_cmp_total ids k id ∙ ap (λ b. not b && set.contains ids id) tied) in
        let b : one_if ((k == id) && set.contains ids id) ≡ one_if (set.contains ids id) = ap (λ b. one_if (b && set.contains ids id)) (eq-eqb k id (sym e)) in
        omega (arith, a, b)
    | inr n ↦
        let apart : eq_by_cmp nat_cmp id k ≡ false = unsigned_tied id k ∙ grind (arith, rules) in
        let a : one_if (set.contains (set.remove ids k) id) ≡ one_if (set.contains ids id) = ap one_if (contains-remove nat_cmp_total ids k id ∙ ap (λ b. not b && set.contains ids id) apart) in
        let b : one_if ((k == id) && set.contains ids id) ≡ 0 = ap (λ b. one_if (b && set.contains ids id)) (ne_eqb k id (λ e. n (sym e))) in
        omega (arith, a, b)
  ]

  not_there : (ids : set.FinSet nat_cmp) (k : ℕ) → set.contains ids k ≡ false → one_if ((k == id) && set.contains ids id) ≡ 0
  not_there ids k h = elim (cases_eq id k) [
    | inl e ↦ ap (λ b. one_if (b && set.contains ids id)) (eq-eqb k id (sym e)) ∙ ap (λ j. one_if (set.contains ids j)) e ∙ ap one_if h
    | inr n ↦ ap (λ b. one_if (b && set.contains ids id)) (ne_eqb k id (λ e. n (sym e)))
  ]

  pubrel_counts : (b : Bool) (s : Session) (p : PubRel) (at : ℕ) → set.contains s.core.incoming p.pkid ≡ b → Counts (packets.PubRel p) s (on_pubrel b (with_incoming s (packets.PubRel p)) p.reason p.pkid at)
  pubrel_counts false s p at h =
      let n = none_notified (Ok (Some (pubcomp_of p.pkid pubrel_reasons.PacketIdentifierNotFound))) s (with_event (with_incoming s (packets.PubRel p)) (outgoing.PubComp p.pkid)) (quiet (s.events ++ events.Incoming (packets.PubRel p) ∷ []) (events.Outgoing (outgoing.PubComp p.pkid)) refl ∙ quiet s.events (events.Incoming (packets.PubRel p)) refl) in
      let z = not_there s.core.incoming p.pkid h in
      omega (arith, n, z)
  pubrel_counts true s p at h = by p.reason
    where
      t : Session
      t = record (with_incoming s (packets.PubRel p)) { core = record s.core { incoming = set.remove s.core.incoming p.pkid } }

      heard_of : notices id t.events ≡ notices id s.events
      heard_of = quiet s.events (events.Incoming (packets.PubRel p)) refl

      by : (reason : PubRelReason) → Counts (packets.PubRel p) s (on_released reason t p.pkid at)
      by pubrel_reasons.Success =
          let q = released_quiet pubrel_reasons.Success t p.pkid at in
          let n = none_notified (Ok (Some (pubcomp_of p.pkid pubrel_reasons.Success))) s (on_released pubrel_reasons.Success t p.pkid at).1 (q.count ∙ heard_of) in
          let o = taken_out s.core.incoming p.pkid in
          omega (arith, n, o)
      by reason =
          let n = none_notified (Ok None) s t heard_of in
          let o = taken_out s.core.incoming p.pkid in
          omega (arith, n, o)

  -- ---- publishes

  module _ (s : Session) (p : Publish) (at : ℕ) where
    abbrev x : Packet
    x = packets.Publish (record p { topic = unwrap_or (topic_of s p) p.topic })

    -- what is told of it
    abbrev noted : QoS → Bool → Session
    noted q has = with_notice s (cond (is_exactly_once q && has) None (Some x))

    noted_core : (q : QoS) (has : Bool) → (noted q has).core ≡ s.core
    noted_core q has = by (is_exactly_once q && has)
      where
        by : (b : Bool) → (with_notice s (cond b None (Some x))).core ≡ s.core
        by true = refl
        by false = refl

    abbrev kept_in : QoS → Session → Session
    kept_in q t = record t { core = record t.core { aliases = topics_with (alias_of p) p.topic t.core.aliases; incoming = ids_with q t.core.incoming p.pkid } }

    -- the answer by its QoS, by whether it is a duplicate, and by whether its topic is known
    abbrev answer : QoS → Session → Bool → Answer
    answer q t true = on_qos q (kept_in q t) p.pkid at
    answer q t false = (Ok (Some (disconnect_of ProtocolError)), record (with_event t outgoing.Disconnect) { last_incoming = at })

    refused_counts : (q : QoS) (has : Bool) → Counts (packets.Publish p) s (answer q (noted q has) false)
    refused_counts q has = let k = ap (λ c. kept_id id c) (noted_core q has) in omega (arith, k)

    first_counts : (b : Bool) → p.qos ≡ ExactlyOnce → set.contains s.core.incoming p.pkid ≡ false → Counts (packets.Publish p) s (answers b (pubrec_of p.pkid) (outgoing.PubRec p.pkid) (kept_in ExactlyOnce (with_incoming s x)) at)
    first_counts b e lacks = by b
      where
        told_of : notices id (s.events ++ events.Incoming x ∷ []) ≡ notices id s.events + one_if (p.pkid == id)
        told_of = let n = more s.events (events.Incoming x) in let i = ap (λ q. one_if (is_exactly_once q && (p.pkid == id))) e in omega (arith, n, i)

        kept : one_if (set.contains (set.insert s.core.incoming p.pkid) id) ≡ one_if (set.contains s.core.incoming id) + one_if (p.pkid == id)
        kept = elim (cases_eq id p.pkid) [
          | inl same ↦
              let tied : eq_by_cmp nat_cmp id p.pkid ≡ true = unsigned_tied id p.pkid ∙ grind (arith, rules) in
              let a : one_if (set.contains (set.insert s.core.incoming p.pkid) id) ≡ 1 = ap one_if (contains-insert nat_cmp_total s.core.incoming p.pkid id ∙ ap (λ b. b || set.contains s.core.incoming id) tied) in
              let o : one_if (set.contains s.core.incoming id) ≡ 0 = ap (λ j. one_if (set.contains s.core.incoming j)) same ∙ ap one_if lacks in
              let c : one_if (p.pkid == id) ≡ 1 = ap one_if (eq-eqb p.pkid id (sym same)) in
              omega (arith, a, o, c)
          | inr n ↦
              let apart : eq_by_cmp nat_cmp id p.pkid ≡ false = unsigned_tied id p.pkid ∙ grind (arith, rules) in
              let a : one_if (set.contains (set.insert s.core.incoming p.pkid) id) ≡ one_if (set.contains s.core.incoming id) = ap one_if (contains-insert nat_cmp_total s.core.incoming p.pkid id ∙ ap (λ b. b || set.contains s.core.incoming id) apart) in
              let c : one_if (p.pkid == id) ≡ 0 = ap one_if (ne_eqb p.pkid id (λ e. n (sym e))) in
              omega (arith, a, c)
        ]

        by : (b : Bool) → Counts (packets.Publish p) s (answers b (pubrec_of p.pkid) (outgoing.PubRec p.pkid) (kept_in ExactlyOnce (with_incoming s x)) at)
        by true = omega (arith, told_of, kept)
        by false = let z = quiet (s.events ++ events.Incoming x ∷ []) (events.Outgoing (outgoing.PubRec p.pkid)) refl in omega (arith, told_of, kept, z)

    known_counts : (q : QoS) (has : Bool) → p.qos ≡ q → set.contains s.core.incoming p.pkid ≡ has → Counts (packets.Publish p) s (answer q (noted q has) true)
    known_counts AtMostOnce has e h = other_counts (packets.Publish p) s (kept_in AtMostOnce (with_incoming s x)) _ refl refl (quiet s.events (events.Incoming x) (ap (λ q. is_exactly_once q && (p.pkid == id)) e)) (qos_quiet AtMostOnce (kept_in AtMostOnce (with_incoming s x)) p.pkid at)
    known_counts AtLeastOnce has e h = other_counts (packets.Publish p) s (kept_in AtLeastOnce (with_incoming s x)) _ refl refl (quiet s.events (events.Incoming x) (ap (λ q. is_exactly_once q && (p.pkid == id)) e)) (qos_quiet AtLeastOnce (kept_in AtLeastOnce (with_incoming s x)) p.pkid at)
    known_counts ExactlyOnce true e h = other_counts (packets.Publish p) s (kept_in ExactlyOnce s) _ refl (insert-again s.core.incoming p.pkid h) refl (qos_quiet ExactlyOnce (kept_in ExactlyOnce s) p.pkid at)
    known_counts ExactlyOnce false e h = first_counts s.core.manual_acks e h

    any_counts : (known : Bool) → Counts (packets.Publish p) s (answer p.qos (noted p.qos (set.contains s.core.incoming p.pkid)) known)
    any_counts true = known_counts p.qos (set.contains s.core.incoming p.pkid) refl refl
    any_counts false = refused_counts p.qos (set.contains s.core.incoming p.pkid)

    same_answer : (known : Bool) (t : Session) → on_publish known t p at ≡ answer p.qos t known
    same_answer true t = refl
    same_answer false t = refl

    heard_is : (o : Option Packet) → answer_to (with_notice s o) (packets.Publish p) at ≡ answer p.qos (with_notice s o) (is_some (topic_of s p))
    heard_is None = same_answer (is_some (topic_of s p)) s
    heard_is (Some y) = same_answer (is_some (topic_of s p)) (with_incoming s y)

    publish_counts : Counts (packets.Publish p) s (answer_to (with_notice s (event_of s (packets.Publish p))) (packets.Publish p) at)
    publish_counts = subst (Counts (packets.Publish p) s) (sym (heard_is (event_of s (packets.Publish p)))) (any_counts (is_some (topic_of s p)))

    notes_core : (o : Option Packet) → (with_notice s o).core ≡ s.core
    notes_core None = refl
    notes_core (Some y) = refl

    -- where its topic is known, its id is kept then
    pub kept_after : p.qos ≡ ExactlyOnce → is_some (topic_of s p) ≡ true → kept_id p.pkid (on_packet s (packets.Publish p) at).1.core ≡ 1
    unfolding on_packet
    kept_after e known =
        let t : Session = with_notice s (event_of s (packets.Publish p)) in
        let tied : eq_by_cmp nat_cmp p.pkid p.pkid ≡ true = unsigned_tied p.pkid p.pkid ∙ grind (arith, rules) in
        ap (λ a. kept_id p.pkid a.1.core) (heard_is (event_of s (packets.Publish p)) ∙ (λ i. answer (e i) t (known i)))
        ∙ ap (λ ids. one_if (set.contains ids p.pkid)) ((qos_quiet ExactlyOnce (kept_in ExactlyOnce t) p.pkid at).ids ∙ ap (λ c. set.insert c.incoming p.pkid) (notes_core (event_of s (packets.Publish p))))
        ∙ ap one_if (contains-insert nat_cmp_total s.core.incoming p.pkid p.pkid ∙ ap (λ b. b || set.contains s.core.incoming p.pkid) tied)

  -- ---- any packet

  told_quiet : (packet : Packet) (s : Session) → is_notice id (events.Incoming packet) ≡ false → notices id (with_incoming s packet).events ≡ notices id s.events
  told_quiet packet s none = quiet s.events (events.Incoming packet) none

  pub inc_counts : (s : Session) (packet : Packet) (at : ℕ) → Counts packet s (on_packet s packet at)
  unfolding on_packet
  inc_counts s (packets.PubAck p) at = other_counts (packets.PubAck p) s (with_incoming s (packets.PubAck p)) _ refl refl (told_quiet (packets.PubAck p) s refl) (puback_quiet (get s.core.in_use p.pkid) (with_incoming s (packets.PubAck p)) p.pkid at)
  inc_counts s (packets.PubRec p) at = other_counts (packets.PubRec p) s (with_incoming s (packets.PubRec p)) _ refl refl (told_quiet (packets.PubRec p) s refl) (pubrec_quiet (get s.core.in_use p.pkid) (with_incoming s (packets.PubRec p)) p.reason p.pkid at)
  inc_counts s (packets.PubComp p) at = other_counts (packets.PubComp p) s (with_incoming s (packets.PubComp p)) _ refl refl (told_quiet (packets.PubComp p) s refl) (pubcomp_quiet (get s.core.in_use p.pkid) (with_incoming s (packets.PubComp p)) p.pkid at)
  inc_counts s (packets.PubRel p) at = pubrel_counts (set.contains s.core.incoming p.pkid) s p at refl
  inc_counts s (packets.Publish p) at = publish_counts s p at
  inc_counts s (packets.ConnAck p) at = other_counts (packets.ConnAck p) s (with_incoming s (packets.ConnAck p)) _ refl refl (told_quiet (packets.ConnAck p) s refl) (connack_quiet p.code p.properties (with_incoming s (packets.ConnAck p)) at)
  inc_counts s packet at = other_counts packet s (with_incoming s packet) (answer_to (with_incoming s packet) packet at) refl refl (told_quiet packet s refl) (still (with_incoming s packet) (answer_to (with_incoming s packet) packet at) refl refl)

  -- ---- the clauses of calls, and any calls

  pub once_of : (result : Result (Option Packet) StateError) (old new : Session) (packet : Packet) (a : Answer) → Counts packet old a → Receives result old new a → kept_id id new.core + unless_refused result (releases id old.core packet) ≡ kept_id id old.core + new_notices id old result new
  once_of (Err errors.OutOfMemory) old new packet a law h = let k = ap (λ s. kept_id id s.core) h in let n = none_notified (Err errors.OutOfMemory) old new (ap (λ s. notices id s.events) h) in omega (arith, k, n)
  once_of result old new packet a law h = ap (λ s. kept_id id s.core + unless_refused result (releases id old.core packet)) h.1 ∙ ap (λ r. kept_id id a.1.core + unless_refused r (releases id old.core packet)) h.0 ∙ law ∙ (λ i. kept_id id old.core + new_notices id old (sym h.0 i) (sym h.1 i))

  pub sends_keeps : (result : Result (Option Packet) StateError) (old new : Session) (a : Answer) → Keeps old a → Sends result old new a → kept_id id new.core ≡ kept_id id old.core
  sends_keeps (Err errors.OutOfMemory) old new a law h = ap (λ s. kept_id id s.core) h.0
  sends_keeps result old new a law h = ap (λ s. kept_id id s.core) h.1 ∙ ap (λ ids. one_if (set.contains ids id)) law

  one_call : (s : Session) (call : Call) → kept_id id (after s call).core + released_in id s call ≡ kept_id id s.core + notified_in id s call
  one_call s (Ask request at) = let e = ap (λ ids. one_if (set.contains ids id)) (out_keeps s request at) in omega (arith, e)
  one_call s (Hear packet at) = inc_counts s packet at
  one_call s Error = omega arith
  one_call s (Leave p at) = let e = ap (kept_id id) (leave_core s p at) in omega (arith, e)
  one_call s (Authenticate p at) = let e = ap (kept_id id) (auth_core s p at) in omega (arith, e)
  one_call s Clean = omega arith
  one_call s (Resume at) = let e = ap (λ ids. one_if (set.contains ids id)) (resume_keeps s at) in omega (arith, e)
  one_call s Pop = omega arith
  one_call s (SetAcks manual) = omega arith

  pub adds_up : (s : Session) (calls : List Call) → kept_id id (after_all s calls).core + released_by id s calls ≡ kept_id id s.core + notified_by id s calls
  adds_up s [] = omega arith
  adds_up s (call ∷ calls) = let one = one_call s call in let rest = adds_up (after s call) calls in omega (arith, one, rest)

at_most_one : (b : Bool) → one_if b ≤ 1
at_most_one true = omega arith
at_most_one false = omega arith

pub handed_on_once : (s : Session) (p : Publish) (at : ℕ) (calls : List Call) → p.qos ≡ ExactlyOnce → is_some (topic_of s p) ≡ true → released_by p.pkid (after s (Hear (packets.Publish p) at)) calls ≡ 0 → kept_id p.pkid s.core + notified_by p.pkid s (Hear (packets.Publish p) at ∷ calls) ≡ 1
handed_on_once s p at calls e known none =
    let t : Session = after s (Hear (packets.Publish p) at) in
    let kept = kept_after p.pkid s p at e known in
    let all = adds_up p.pkid s (Hear (packets.Publish p) at ∷ calls) in
    let rest = adds_up p.pkid t calls in
    let z = none_accepted p.pkid (on_packet s (packets.Publish p) at).0 in
    let most = at_most_one (set.contains (after_all t calls).core.incoming p.pkid) in
    omega (arith, kept, all, rest, z, most, none)
