-- What a broker answers doesn't depend on the events at its senders; and what it keeps then is the same but for these.
use Rattle.std.proofs.Common.{◌≡◌, ℕ, ◌==◌, cond, Bool, true, false, List, [], ◌∷◌, length, Option, Some, None, Result, Ok, Err, refl, sym, ap, ◌∙◌}
use Rattle.std.specs.Prelude.{is_some, nat_lt}
use Rattle.std.specs.FinMap.{get}
use Rattle.std.specs.FinSet as set
use Rattle.mqtt5_base.specs.declared.quality.QoS.{QoS}
use Rattle.mqtt5_base.specs.declared.quality.QoS.TheVariants.{AtMostOnce, AtLeastOnce, ExactlyOnce}
use Rattle.mqtt5_publish.specs.declared.publish.Publish.{Publish}
use Rattle.mqtt5_publish.specs.declared.puback.PubAckReason.{PubAckReason}
use Rattle.mqtt5_publish.specs.declared.pubrel.PubRelReason.{PubRelReason}
use Rattle.mqtt5_publish.specs.declared.pubrel.PubRelReason.TheVariants as pubrel_reasons
use Rattle.mqtt5_control.specs.declared.connack.ConnectReturnCode.{ConnectReturnCode}
use Rattle.mqtt5_control.specs.declared.connack.ConnectReturnCode.TheVariants as return_codes
use Rattle.mqtt5_control.specs.declared.connack.ConnAckProperties.{ConnAckProperties}
use Rattle.mqtt5_codec.specs.declared.packet.Packet.{Packet}
use Rattle.mqtt5_codec.specs.declared.packet.Packet.TheVariants as packets
use Rattle.mqtt5_inflight.specs.declared.slot.Slot.{Slot}
use Rattle.mqtt5_inflight.specs.declared.slot.Slot.TheVariants.{Sent, Released}
use Rattle.mqtt5_inflight.specs.declared.event.Request.{Request}
use Rattle.mqtt5_inflight.specs.declared.event.Request.TheVariants as requests
use Rattle.mqtt5_inflight.specs.declared.event.Outgoing.{Outgoing}
use Rattle.mqtt5_inflight.specs.declared.event.Outgoing.TheVariants as outgoing
use Rattle.mqtt5_inflight.specs.declared.error.StateError.{StateError}
use Rattle.mqtt5_inflight.specs.Unacked.{requests_of}
use Rattle.mqtt5_session.specs.Session.{Session, Answer}
use Rattle.mqtt5_session.specs.Requests.{on_request, unless, over_maximum, Verdict, Refuse, Wait, Store, verdict_of, out_acked, out_publish, out_release, out_known, id_for, last_after, ping_fault, counts_ping}
use Rattle.mqtt5_session.specs.Packets.{on_packet, answer_to, with_notice, event_of, freed_for, on_puback, is_taken, on_received, on_pubrec, on_pubcomp, on_released, on_pubrel, topic_of, answers, puback_of, pubrec_of, on_qos, on_publish, on_connack}
use Rattle.mqtt5_session.specs.Resuming.{on_clean, Sendings, with_reply, send_all, resume_of}
use Rattle.mqtt5_session.specs.Ledger.{kept_by}
use Rattle.mqtt5_world.specs.World.{taken_back}
use Rattle.mqtt5_network.specs.Connection.{reply_in, is_sending, connected, sent_in}
use Rattle.mqtt5_network.specs.Asking.{is_ack}
use Rattle.mqtt5_network.specs.Client.{comes_to, taken_for, passes_on}
use Rattle.mqtt5_router.specs.Kept.{Kept, without_events, kept_of, alone, after_packet, after_pass}
use Rattle.mqtt5_sessions.specs.Sessions.{taken_up}

-- ---- a session

abbrev quiet : Session → Session
quiet s = record s { events = [] }

-- an answer, with the session after it
abbrev quiet_answer : Answer → Answer
quiet_answer a = (a.0, quiet a.1)

either : (b : Bool) (x y u v : Answer) → quiet_answer x ≡ quiet_answer u → quiet_answer y ≡ quiet_answer v → quiet_answer (cond b x y) ≡ quiet_answer (cond b u v)
either true x y u v first second = first
either false x y u v first second = second

-- ---- requests

unless_quiet : (o : Option StateError) (s : Session) (a b : Answer) → quiet_answer a ≡ quiet_answer b → quiet_answer (unless o (quiet s) a) ≡ quiet_answer (unless o s b)
unless_quiet None s a b same = same
unless_quiet (Some e) s a b same = refl

acked_quiet : (v : Verdict) (s : Session) (p : Publish) (last at : ℕ) → quiet_answer (out_acked v (quiet s) p last at) ≡ quiet_answer (out_acked v s p last at)
acked_quiet (Refuse e) s p last at = refl
acked_quiet Wait s p last at = refl
acked_quiet Store s p last at = refl

publish_quiet : (q : QoS) (s : Session) (p : Publish) (at : ℕ) → quiet_answer (out_publish q (quiet s) p at) ≡ quiet_answer (out_publish q s p at)
publish_quiet AtMostOnce s p at = unless_quiet (over_maximum s.core p) s _ _ refl
publish_quiet AtLeastOnce s p at = let q : Publish = record p { pkid = id_for s.core p.pkid } in acked_quiet (verdict_of s.core q) s q (last_after s.core p.pkid) at
publish_quiet ExactlyOnce s p at = let q : Publish = record p { pkid = id_for s.core p.pkid } in acked_quiet (verdict_of s.core q) s q (last_after s.core p.pkid) at

known_quiet : (x : Option Slot) (s : Session) (id last at : ℕ) → quiet_answer (out_known x (quiet s) id last at) ≡ quiet_answer (out_known x s id last at)
known_quiet None s id last at = refl
known_quiet (Some Released) s id last at = refl
known_quiet (Some (Sent p)) s id last at = refl

release_quiet : (s : Session) (id last at : ℕ) → quiet_answer (out_release (quiet s) id last at) ≡ quiet_answer (out_release s id last at)
release_quiet s id last at = either (nat_lt s.core.limit id) _ _ _ _ refl (known_quiet (get s.core.in_use id) s id last at)

request_quiet : (s : Session) (r : Request) (at : ℕ) → quiet_answer (on_request (quiet s) r at) ≡ quiet_answer (on_request s r at)
unfolding on_request
request_quiet s (requests.Publish p) at = publish_quiet p.qos s p at
request_quiet s (requests.PubRel p) at = release_quiet s (id_for s.core p.pkid) (last_after s.core p.pkid) at
request_quiet s (requests.Subscribe p) at = either (length p.filters == 0) _ _ _ _ refl refl
request_quiet s (requests.Unsubscribe p) at = refl
request_quiet s requests.PingReq at = unless_quiet (ping_fault s.core.waiting (counts_ping s).collision_pings s.awaits_ping) (counts_ping s) _ _ refl
request_quiet s requests.Disconnect at = refl
request_quiet s (requests.PubAck p) at = refl
request_quiet s (requests.PubRec p) at = refl
request_quiet s (requests.PubComp p) at = refl
request_quiet s requests.PingResp at = refl
request_quiet s (requests.SubAck p) at = refl
request_quiet s (requests.UnsubAck p) at = refl

-- ---- packets

freed_quiet : (w : Option Publish) (s : Session) (id at : ℕ) → quiet_answer (freed_for w (quiet s) id at) ≡ quiet_answer (freed_for w s id at)
freed_quiet None s id at = refl
freed_quiet (Some p) s id at = either (p.pkid == id) _ _ _ _ refl refl

puback_quiet : (x : Option Slot) (s : Session) (id at : ℕ) → quiet_answer (on_puback x (quiet s) id at) ≡ quiet_answer (on_puback x s id at)
puback_quiet None s id at = refl
puback_quiet (Some Released) s id at = refl
puback_quiet (Some (Sent p)) s id at = freed_quiet s.core.waiting s id at

received_quiet : (b : Bool) (s : Session) (id at : ℕ) → quiet_answer (on_received b (quiet s) id at) ≡ quiet_answer (on_received b s id at)
received_quiet true s id at = refl
received_quiet false s id at = freed_quiet s.core.waiting s id at

pubrec_quiet : (x : Option Slot) (s : Session) (reason : PubAckReason) (id at : ℕ) → quiet_answer (on_pubrec x (quiet s) reason id at) ≡ quiet_answer (on_pubrec x s reason id at)
pubrec_quiet None s reason id at = refl
pubrec_quiet (Some Released) s reason id at = refl
pubrec_quiet (Some (Sent p)) s reason id at = received_quiet (is_taken reason) s id at

pubcomp_quiet : (x : Option Slot) (s : Session) (id at : ℕ) → quiet_answer (on_pubcomp x (quiet s) id at) ≡ quiet_answer (on_pubcomp x s id at)
pubcomp_quiet None s id at = refl
pubcomp_quiet (Some (Sent p)) s id at = refl
pubcomp_quiet (Some Released) s id at = freed_quiet s.core.waiting s id at

released_quiet : (reason : PubRelReason) (s : Session) (id at : ℕ) → quiet_answer (on_released reason (quiet s) id at) ≡ quiet_answer (on_released reason s id at)
released_quiet pubrel_reasons.Success s id at = refl
released_quiet other s id at = refl

pubrel_quiet : (b : Bool) (s : Session) (reason : PubRelReason) (id at : ℕ) → quiet_answer (on_pubrel b (quiet s) reason id at) ≡ quiet_answer (on_pubrel b s reason id at)
pubrel_quiet true s reason id at = released_quiet reason (record s { core = record s.core { incoming = set.remove s.core.incoming id } }) id at
pubrel_quiet false s reason id at = refl

answers_quiet : (b : Bool) (ack : Packet) (event : Outgoing) (s : Session) (at : ℕ) → quiet_answer (answers b ack event (quiet s) at) ≡ quiet_answer (answers b ack event s at)
answers_quiet true ack event s at = refl
answers_quiet false ack event s at = refl

qos_quiet : (q : QoS) (s : Session) (id at : ℕ) → quiet_answer (on_qos q (quiet s) id at) ≡ quiet_answer (on_qos q s id at)
qos_quiet AtMostOnce s id at = refl
qos_quiet AtLeastOnce s id at = answers_quiet s.core.manual_acks (puback_of id) (outgoing.PubAck id) s at
qos_quiet ExactlyOnce s id at = answers_quiet s.core.manual_acks (pubrec_of id) (outgoing.PubRec id) s at

told_quiet : (b : Bool) (s : Session) (p : Publish) (at : ℕ) → quiet_answer (on_publish b (quiet s) p at) ≡ quiet_answer (on_publish b s p at)
told_quiet true s p at = qos_quiet p.qos _ p.pkid at
told_quiet false s p at = refl

connack_quiet : (code : ConnectReturnCode) (properties : Option ConnAckProperties) (s : Session) (at : ℕ) → quiet_answer (on_connack code properties (quiet s) at) ≡ quiet_answer (on_connack code properties s at)
connack_quiet return_codes.Success properties s at = refl
connack_quiet other properties s at = refl

answer_quiet : (s : Session) (x : Packet) (at : ℕ) → quiet_answer (answer_to (quiet s) x at) ≡ quiet_answer (answer_to s x at)
answer_quiet s (packets.PubAck p) at = puback_quiet (get s.core.in_use p.pkid) s p.pkid at
answer_quiet s (packets.PubRec p) at = pubrec_quiet (get s.core.in_use p.pkid) s p.reason p.pkid at
answer_quiet s (packets.PubComp p) at = pubcomp_quiet (get s.core.in_use p.pkid) s p.pkid at
answer_quiet s (packets.PubRel p) at = pubrel_quiet (set.contains s.core.incoming p.pkid) s p.reason p.pkid at
answer_quiet s (packets.Publish p) at = told_quiet (is_some (topic_of s p)) s p at
answer_quiet s (packets.ConnAck p) at = connack_quiet p.code p.properties s at
answer_quiet s other at = refl

event_quiet : (s : Session) (x : Packet) → event_of (quiet s) x ≡ event_of s x
event_quiet s (packets.Publish p) = refl
event_quiet s other = refl

notice_quiet : (s : Session) (n : Option Packet) (x : Packet) (at : ℕ) → quiet_answer (answer_to (with_notice (quiet s) n) x at) ≡ quiet_answer (answer_to (with_notice s n) x at)
notice_quiet s None x at = answer_quiet s x at
notice_quiet s (Some y) x at = sym (answer_quiet (with_notice (quiet s) (Some y)) x at) ∙ answer_quiet (with_notice s (Some y)) x at

packet_quiet : (s : Session) (x : Packet) (at : ℕ) → quiet_answer (on_packet (quiet s) x at) ≡ quiet_answer (on_packet s x at)
unfolding on_packet
packet_quiet s x at =
    ap (λ n. quiet_answer (answer_to (with_notice (quiet s) n) x at)) (event_quiet s x)
    ∙ notice_quiet s (event_of s x) x at

-- ---- a new connection

abbrev quiet_sendings : Sendings → Sendings
quiet_sendings (Ok r) = Ok (r.0, quiet r.1)
quiet_sendings (Err e) = Err e

reply_quiet : (o : Result (Option Packet) StateError) (x : Sendings) → quiet_sendings (with_reply o x) ≡ with_reply o (quiet_sendings x)
reply_quiet (Err e) x = refl
reply_quiet (Ok reply) (Err e) = refl
reply_quiet (Ok reply) (Ok r) = refl

all_quiet : (rs : List Request) (s t : Session) (at : ℕ) → quiet s ≡ quiet t → quiet_sendings (send_all rs s at) ≡ quiet_sendings (send_all rs t at)
all_quiet [] s t at same = λ j. Ok ([], same j)
all_quiet (r ∷ rs) s t at same =
    let one : quiet_answer (on_request s r at) ≡ quiet_answer (on_request t r at) =
    sym (request_quiet s r at) ∙ ap (λ u. quiet_answer (on_request u r at)) same ∙ request_quiet t r at in
    let x : Sendings = send_all rs (on_request s r at).1 at in
    let y : Sendings = send_all rs (on_request t r at).1 at in
    reply_quiet (on_request s r at).0 x
    ∙ ap (with_reply (on_request s r at).0) (all_quiet rs (on_request s r at).1 (on_request t r at).1 at (ap (λ (a : Answer). a.1) one))
    ∙ ap (λ (a : Answer). with_reply a.0 (quiet_sendings y)) one
    ∙ sym (reply_quiet (on_request t r at).0 y)

resume_quiet : (s t : Session) (at : ℕ) → quiet s ≡ quiet t → quiet_sendings (resume_of s at) ≡ quiet_sendings (resume_of t at)
unfolding resume_of
resume_quiet s t at same =
    all_quiet (requests_of s.core.limit s.core.in_use) (on_clean s) (on_clean t) at (ap on_clean same)
    ∙ ap (λ (u : Session). quiet_sendings (send_all (requests_of u.core.limit u.core.in_use) (on_clean t) at)) same

kept_quiet : (s : Session) (x : Sendings) → quiet (kept_by s x) ≡ kept_by (quiet s) (quiet_sendings x)
kept_quiet s (Ok r) = refl
kept_quiet s (Err e) = refl

sent_quiet : (x : Sendings) → sent_in x ≡ sent_in (quiet_sendings x)
sent_quiet (Ok r) = refl
sent_quiet (Err e) = refl

module _ (m : Option ℕ) (k : Kept) where
  abbrev loud : Session
  loud = connected m k.sender

  abbrev still : Session
  still = connected m (quiet k.sender)

  connected_quiet : quiet still ≡ quiet loud
  connected_quiet = ap (λ (a : Answer). a.1) (packet_quiet k.sender (taken_back m) 0)

  pub taken_kept : taken_up m (without_events k) ≡ taken_up m k
  taken_kept =
      ap (λ s. record k { sender = s })
      (kept_quiet still (resume_of still 0)
      ∙ (λ j. kept_by (connected_quiet j) (resume_quiet still loud 0 connected_quiet j))
      ∙ sym (kept_quiet loud (resume_of loud 0)))

  pub sent_same : sent_in (resume_of (connected m (without_events k).sender) 0) ≡ sent_in (resume_of (connected m k.sender) 0)
  sent_same =
      sent_quiet (resume_of still 0) ∙ ap sent_in (resume_quiet still loud 0 connected_quiet) ∙ sym (sent_quiet (resume_of loud 0))

-- ---- a packet of a client

module _ (k : Kept) (x : Packet) where
  comes_kept : (sending ack : Bool) → without_events (kept_of (comes_to sending ack (alone (without_events k)) x)) ≡ without_events (kept_of (comes_to sending ack (alone k) x))
  comes_kept true ack = refl
  comes_kept false true = ap (λ (a : Answer). record k { sender = a.1 }) (packet_quiet k.sender x 0)
  comes_kept false false = refl

  comes_down : (sending ack : Bool) → (comes_to sending ack (alone (without_events k)) x).down ≡ (comes_to sending ack (alone k) x).down
  comes_down true ack = refl
  comes_down false true = ap (λ (a : Answer). reply_in a.0) (packet_quiet k.sender x 0)
  comes_down false false = refl

  comes_handed : (sending ack : Bool) → (comes_to sending ack (alone (without_events k)) x).receiver.handed ≡ (comes_to sending ack (alone k) x).receiver.handed
  comes_handed true ack = refl
  comes_handed false true = refl
  comes_handed false false = refl

  pub heard_kept : without_events (kept_of (after_packet (without_events k) x)) ≡ without_events (kept_of (after_packet k x))
  heard_kept = comes_kept (is_sending x) (is_ack x)

  pub heard_reply : (after_packet (without_events k) x).down ≡ (after_packet k x).down
  heard_reply = comes_down (is_sending x) (is_ack x)

  pub heard_handed : (after_packet (without_events k) x).receiver.handed ≡ (after_packet k x).receiver.handed
  heard_handed = comes_handed (is_sending x) (is_ack x)

-- ---- the first of the queue

-- the sender's answer for it
abbrev asked : Session → Publish → Answer
asked s p = on_request s (requests.Publish p) 0

-- and what is kept then
abbrev left : Kept → Publish → List Publish → Answer → Kept
left k p rest a = without_events (kept_of (taken_for (alone k) p rest a.0 a.1))

module _ (k : Kept) where
  left_quiet : (p : Publish) (rest : List Publish) (r : Result (Option Packet) StateError) (s : Session) → left (without_events k) p rest (r, s) ≡ left k p rest (r, quiet s)
  left_quiet p rest (Ok reply) s = refl
  left_quiet p rest (Err e) s = refl

  left_loud : (p : Publish) (rest : List Publish) (r : Result (Option Packet) StateError) (s : Session) → left k p rest (r, s) ≡ left k p rest (r, quiet s)
  left_loud p rest (Ok reply) s = refl
  left_loud p rest (Err e) s = refl

  first_kept : (ps : List Publish) → without_events (kept_of (passes_on (alone (without_events k)) ps)) ≡ without_events (kept_of (passes_on (alone k) ps))
  first_kept [] = refl
  first_kept (p ∷ rest) =
      left_quiet p rest (asked (quiet k.sender) p).0 (asked (quiet k.sender) p).1
      ∙ ap (left k p rest) (request_quiet k.sender (requests.Publish p) 0)
      ∙ sym (left_loud p rest (asked k.sender p).0 (asked k.sender p).1)

  down_quiet : (p : Publish) (rest : List Publish) (r : Result (Option Packet) StateError) (s t : Session) → (taken_for (alone (without_events k)) p rest r s).down ≡ (taken_for (alone k) p rest r t).down
  down_quiet p rest (Ok reply) s t = refl
  down_quiet p rest (Err e) s t = refl

  first_sent : (ps : List Publish) → (passes_on (alone (without_events k)) ps).down ≡ (passes_on (alone k) ps).down
  first_sent [] = refl
  first_sent (p ∷ rest) =
      down_quiet p rest (asked (quiet k.sender) p).0 (asked (quiet k.sender) p).1 (asked k.sender p).1
      ∙ ap (λ (a : Answer). (taken_for (alone k) p rest a.0 (asked k.sender p).1).down) (request_quiet k.sender (requests.Publish p) 0)

  pub passed_kept : without_events (kept_of (after_pass (without_events k))) ≡ without_events (kept_of (after_pass k))
  passed_kept = first_kept k.queue

  pub passed_sent : (after_pass (without_events k)).down ≡ (after_pass k).down
  passed_sent = first_sent k.queue
