-- What a packet from the broker makes the client send, and that what waits goes on waiting for an id in use.
use Rattle.std.proofs.Common.{◌≡◌, ◌≢◌, ℕ, suc, ◌+◌, ◌≤◌, Bool, true, false, cond, ◌==◌, List, [], ◌∷◌, ◌++◌, Option, Some, None, Result, Ok, Err, refl, sym, ap, ◌∙◌, subst, ⊎_elim, arith}
use Rattle.std.proofs.lemmas.Bool.{cases_eq, eqb-false}
use Rattle.std.specs.Prelude.{is_some}
use Rattle.std.specs.Option.{option_to_list}
use Rattle.std.specs.FinMap.{get, insert, remove}
use Rattle.std.specs.FinSet as set
use Rattle.mqtt5_base.specs.declared.quality.QoS.{QoS}
use Rattle.mqtt5_base.specs.declared.quality.QoS.TheVariants.{AtMostOnce, AtLeastOnce, ExactlyOnce}
use Rattle.mqtt5_publish.specs.declared.publish.Publish.{Publish}
use Rattle.mqtt5_publish.specs.declared.puback.PubAckReason.{PubAckReason}
use Rattle.mqtt5_publish.specs.declared.pubrel.PubRelReason.{PubRelReason}
use Rattle.mqtt5_publish.specs.declared.pubrel.PubRelReason.TheVariants as pubrel_reasons
use Rattle.mqtt5_control.specs.declared.connack.ConnectReturnCode.{ConnectReturnCode}
use Rattle.mqtt5_control.specs.declared.connack.ConnectReturnCode.TheVariants as return_codes
use Rattle.mqtt5_control.specs.declared.connack.ConnAckProperties.{ConnAckProperties}
use Rattle.mqtt5_control.specs.declared.disconnect.DisconnectReasonCode.TheVariants.{ProtocolError}
use Rattle.mqtt5_codec.specs.declared.packet.Packet.{Packet}
use Rattle.mqtt5_codec.specs.declared.packet.Packet.TheVariants as packets
use Rattle.mqtt5_inflight.specs.declared.slot.Slot.{Slot}
use Rattle.mqtt5_inflight.specs.declared.slot.Slot.TheVariants.{Sent, Released}
use Rattle.mqtt5_inflight.specs.declared.event.Outgoing.TheVariants as outgoing
use Rattle.mqtt5_inflight.specs.declared.error.StateError.{StateError}
use Rattle.mqtt5_inflight.specs.InUse.{InUse}
use Rattle.mqtt5_inflight.proofs.Exports.{get_insert_same, get_insert_other}
use Rattle.mqtt5_session.specs.Session.{Core, Session, Answer}
use Rattle.mqtt5_session.specs.Requests.{release_of, disconnect_of}
use Rattle.mqtt5_session.specs.Packets.{on_packet, answer_to, with_notice, event_of, takes, freed_for, on_puback, on_received, on_pubrec, on_pubcomp, on_released, on_pubrel, on_qos, answers, on_publish, on_connack, is_taken, topic_of, puback_of, pubrec_of, pubcomp_of}
use Rattle.mqtt5_session.proofs.Exports.{choose}
use Rattle.mqtt5_world.proofs.Places.{get_remove_other}
use Rattle.mqtt5_progress.specs.Progress.{work_of, work_up, work_down}

-- ---- rounds

-- in how many rounds a packet and what it makes are done, by its way
abbrev pub rounds_of : QoS → ℕ
rounds_of AtMostOnce = 1
rounds_of AtLeastOnce = 1
rounds_of ExactlyOnce = 2

abbrev pub rounds_up : Packet → ℕ
rounds_up (packets.Publish p) = rounds_of p.qos
rounds_up other = 1

abbrev pub rounds_down : Packet → ℕ
rounds_down (packets.Publish p) = 2
rounds_down (packets.PubRec p) = 2
rounds_down (packets.PubRel p) = 2
rounds_down other = 1

-- ---- what waits

-- what waits waits for an id in use
abbrev pub WaitsFor : InUse → Option Publish → Type 0
WaitsFor h None = Unit {0}
WaitsFor h (Some p) = get h p.pkid ≢ None

abbrev pub Waits : Core → Type 0
Waits c = WaitsFor c.in_use c.waiting

pub not_free : (x : Option Slot) (y : Slot) → x ≡ Some y → x ≢ None
not_free x y e f = absurd cc

pub waits_insert : (h : InUse) (o : Option Publish) (k : ℕ) (x : Slot) → WaitsFor h o → WaitsFor (insert h k x) o
waits_insert h None k x w = tt {0}
waits_insert h (Some p) k x w = ⊎_elim
    (λ (e : p.pkid ≡ k). not_free _ x (ap (get (insert h k x)) e ∙ get_insert_same h k x))
    (λ (ne : p.pkid ≢ k). λ e. w (sym (get_insert_other h k x p.pkid ne) ∙ e))
    (cases_eq p.pkid k)

-- ---- what a packet makes

-- what a reply sends
abbrev pub sent : Result (Option Packet) StateError → List Packet
sent (Ok reply) = option_to_list reply
sent (Err e) = []

-- what a packet makes of a core: nothing is sent; or an ack lets the publish that waits go; or something smaller is answered
pub data Move (c : Core) (x : Packet) : Answer → Type 0 where
  Still : (r : Result (Option Packet) StateError) (t : Session) → sent r ≡ [] → t.core.waiting ≡ c.waiting → (Waits c → Waits t.core) → Move c x (r, t)
  LetsGo : (p : Publish) (r : Result (Option Packet) StateError) (t : Session) → sent r ≡ packets.Publish p ∷ [] → c.waiting ≡ Some p → t.core.waiting ≡ None → Move c x (r, t)
  Answers : (y : Packet) (r : Result (Option Packet) StateError) (t : Session) → sent r ≡ y ∷ [] → rounds_up y ≡ 1 → rounds_down x ≡ 2 → suc (work_up y) ≤ work_down x → t.core.waiting ≡ c.waiting → (Waits c → Waits t.core) → Move c x (r, t)

refused : (s : Session) (x : Packet) (e : StateError) → Move s.core x (Err e, s)
refused s x e = Still (Err e) s refl refl (λ w. w)

-- an id is made free
module _ (s : Session) (k : ℕ) (x : Packet) where
  abbrev removed : Session
  removed = record s { core = record s.core { in_use = remove s.core.in_use k } }

  pub freed_moves : (o : Option Publish) → s.core.waiting ≡ o → Move s.core x (freed_for o s k 0)
  freed_moves None e = Still _ _ refl refl (λ _. subst (WaitsFor (remove s.core.in_use k)) (sym e) (tt {0}))
  freed_moves (Some p) e =
      choose (Move s.core x) (p.pkid == k) _ (takes removed 0)
      (λ same. LetsGo p _ _ refl e refl)
      (λ other. Still _ _ refl refl (λ w.
      let v : WaitsFor s.core.in_use (Some p) = subst (WaitsFor s.core.in_use) e w in
      let still : WaitsFor (remove s.core.in_use k) (Some p) = λ g. v (sym (get_remove_other s.core.in_use k p.pkid (eqb-false p.pkid k other)) ∙ g) in
      subst (WaitsFor (remove s.core.in_use k)) (sym e) still))

puback_moves : (s : Session) (k : ℕ) (x : Packet) (slot : Option Slot) → Move s.core x (on_puback slot s k 0)
puback_moves s k x (Some (Sent p)) = freed_moves s k x s.core.waiting refl
puback_moves s k x (Some Released) = refused s x _
puback_moves s k x None = refused s x _

received_moves : (s : Session) (k : ℕ) (x : Packet) (taken : Bool) → rounds_down x ≡ 2 → 3 ≤ work_down x → Move s.core x (on_received taken s k 0)
received_moves s k x true e le = Answers (release_of k) _ _ refl refl e le refl (waits_insert s.core.in_use s.core.waiting k Released)
received_moves s k x false e le = freed_moves s k x s.core.waiting refl

pubrec_moves : (s : Session) (k : ℕ) (x : Packet) (slot : Option Slot) (reason : PubAckReason) → rounds_down x ≡ 2 → 3 ≤ work_down x → Move s.core x (on_pubrec slot s reason k 0)
pubrec_moves s k x (Some (Sent p)) reason e le = received_moves s k x (is_taken reason) e le
pubrec_moves s k x (Some Released) reason e le = refused s x _
pubrec_moves s k x None reason e le = refused s x _

pubcomp_moves : (s : Session) (k : ℕ) (x : Packet) (slot : Option Slot) → Move s.core x (on_pubcomp slot s k 0)
pubcomp_moves s k x (Some Released) = freed_moves s k x s.core.waiting refl
pubcomp_moves s k x (Some (Sent p)) = refused s x _
pubcomp_moves s k x None = refused s x _

-- what the broker releases or publishes
pubrel_moves : (s : Session) (k : ℕ) (x : Packet) (has : Bool) (reason : PubRelReason) → rounds_down x ≡ 2 → 2 ≤ work_down x → Move s.core x (on_pubrel has s reason k 0)
pubrel_moves s k x true pubrel_reasons.Success e le = Answers (pubcomp_of k pubrel_reasons.Success) _ _ refl refl e le refl (λ w. w)
pubrel_moves s k x true other e le = Still _ _ refl refl (λ w. w)
pubrel_moves s k x false reason e le = Answers (pubcomp_of k pubrel_reasons.PacketIdentifierNotFound) _ _ refl refl e le refl (λ w. w)

qos_moves : (s t : Session) (k : ℕ) (x : Packet) (q : QoS) (manual : Bool) → t.core.manual_acks ≡ manual → t.core.waiting ≡ s.core.waiting → (Waits s.core → Waits t.core) → rounds_down x ≡ 2 → 2 ≤ work_down x → Move s.core x (on_qos q t k 0)
qos_moves s t k x AtMostOnce manual m same w e le = Still _ _ refl same w
qos_moves s t k x AtLeastOnce true m same w e le = subst (λ b. Move s.core x (answers b (puback_of k) (outgoing.PubAck k) t 0)) (sym m) (Still _ _ refl same w)
qos_moves s t k x AtLeastOnce false m same w e le = subst (λ b. Move s.core x (answers b (puback_of k) (outgoing.PubAck k) t 0)) (sym m) (Answers (puback_of k) _ _ refl refl e le same w)
qos_moves s t k x ExactlyOnce true m same w e le = subst (λ b. Move s.core x (answers b (pubrec_of k) (outgoing.PubRec k) t 0)) (sym m) (Still _ _ refl same w)
qos_moves s t k x ExactlyOnce false m same w e le = subst (λ b. Move s.core x (answers b (pubrec_of k) (outgoing.PubRec k) t 0)) (sym m) (Answers (pubrec_of k) _ _ refl refl e le same w)

publish_moves : (s : Session) (p : Publish) (x : Packet) (known : Bool) → rounds_down x ≡ 2 → 2 ≤ work_down x → Move s.core x (on_publish known s p 0)
publish_moves s p x true e le = qos_moves s _ p.pkid x p.qos s.core.manual_acks refl refl (λ w. w) e le
publish_moves s p x false e le = Answers (disconnect_of ProtocolError) _ _ refl refl e le refl (λ w. w)

connack_moves : (s : Session) (x : Packet) (code : ConnectReturnCode) (o : Option ConnAckProperties) → Move s.core x (on_connack code o s 0)
connack_moves s x return_codes.Success o = Still _ _ refl refl (λ w. w)
connack_moves s x other o = refused s x _

heard_moves : (s : Session) (x : Packet) → Move s.core x (answer_to s x 0)
heard_moves s (packets.PubAck a) = puback_moves s a.pkid _ (get s.core.in_use a.pkid)
heard_moves s (packets.PubRec a) = pubrec_moves s a.pkid (packets.PubRec a) (get s.core.in_use a.pkid) a.reason refl (omega arith)
heard_moves s (packets.PubComp a) = pubcomp_moves s a.pkid _ (get s.core.in_use a.pkid)
heard_moves s (packets.PubRel a) = pubrel_moves s a.pkid (packets.PubRel a) (set.contains s.core.incoming a.pkid) a.reason refl (omega arith)
heard_moves s (packets.Publish p) = publish_moves s p (packets.Publish p) (is_some (topic_of s p)) refl (omega arith)
heard_moves s (packets.ConnAck a) = connack_moves s _ a.code a.properties
heard_moves s (packets.PingResp p) = Still _ _ refl refl (λ w. w)
heard_moves s (packets.SubAck p) = Still _ _ refl refl (λ w. w)
heard_moves s (packets.UnsubAck p) = Still _ _ refl refl (λ w. w)
heard_moves s (packets.Auth p) = Still _ _ refl refl (λ w. w)
heard_moves s (packets.Disconnect p) = refused s _ _
heard_moves s other = refused s _ _

-- what is told of a packet changes no core
notes_core : (s : Session) (o : Option Packet) → (with_notice s o).core ≡ s.core
notes_core s None = refl
notes_core s (Some x) = refl

pub moves : (s : Session) (x : Packet) → Move s.core x (on_packet s x 0)
unfolding on_packet
moves s x = subst (λ c. Move c x (answer_to (with_notice s (event_of s x)) x 0)) (notes_core s (event_of s x)) (heard_moves (with_notice s (event_of s x)) x)
