-- The client of a world knows no topic of an alias, and where no publish that is asked for has an empty property set, none of
-- the session has one: so its core is stored whole.
use Rattle.std.proofs.Common.{◌≡◌, ◌≢◌, ℕ, List, [], ◌∷◌, Option, Some, None, Result, Ok, Err, refl, sym, ap, ◌∙◌, subst}
use Rattle.std.specs.Prelude.{option_map}
use Rattle.std.specs.Cmp.{nat_cmp_total}
use Rattle.std.specs.FinMap.{get, empty, same_map, nat_cmp-IsAntisymmetric}
use Rattle.mqtt5_base.specs.declared.quality.QoS.{QoS}
use Rattle.mqtt5_base.specs.declared.quality.QoS.TheVariants.{AtMostOnce, AtLeastOnce, ExactlyOnce}
use Rattle.mqtt5_publish.specs.declared.publish.Publish.{Publish}
use Rattle.mqtt5_publish.specs.Norms.{publish_norm}
use Rattle.mqtt5_codec.specs.declared.packet.Packet.{Packet}
use Rattle.mqtt5_codec.specs.declared.packet.Packet.TheVariants as packets
use Rattle.mqtt5_inflight.specs.declared.slot.Slot.{Slot}
use Rattle.mqtt5_inflight.specs.declared.slot.Slot.TheVariants.{Sent, Released}
use Rattle.mqtt5_inflight.specs.declared.event.Request.TheVariants as requests
use Rattle.mqtt5_inflight.specs.declared.error.StateError.{StateError}
use Rattle.mqtt5_inflight.specs.Unacked.{slot_again}
use Rattle.mqtt5_inflight.proofs.Exports.{Fits, get_again}
use Rattle.mqtt5_session.specs.Session.{Topics, Core, Session}
use Rattle.mqtt5_session.specs.Freeing.{IsCounted}
use Rattle.mqtt5_session.specs.Requests.{on_request}
use Rattle.mqtt5_session.specs.Packets.{on_packet}
use Rattle.mqtt5_session.specs.Resuming.{with_dup, resume_of}
use Rattle.mqtt5_session.specs.Parts.{core_norm, in_use_norm, slot_norm}
use Rattle.mqtt5_session.proofs.Exports.{Sound}
use Rattle.mqtt5_session.proofs.Norms.{own_id, get_norm}
use Rattle.mqtt5_world.specs.declared.calls.Call.TheVariants as calls
use Rattle.mqtt5_world.specs.declared.event.WorldEvent.{WorldEvent}
use Rattle.mqtt5_world.specs.declared.event.WorldEvent.TheVariants as events
use Rattle.mqtt5_world.specs.World.{World, takes_packet, returns, taken_back, resumes, happens}
use Rattle.mqtt5_world.proofs.Alike.{core_kept}
use Rattle.mqtt5_progress.specs.Packets.{IsAck, OfPublish, OfFirst, OfRelease, Every, numbered}
use Rattle.mqtt5_progress.proofs.Closed.{Closed, HoldsSlot, HoldsWaiting, HoldsCore, Holds, ComesDown, IfAccepted, Owes}
use Rattle.mqtt5_crash.specs.Crashes.{IsTidy, AsksTidy}
use Rattle.mqtt5_crash.proofs.Topics.{IsPublish}
use Rattle.mqtt5_crash.proofs.Near.{topics_stay, request_blind, packet_blind}
use Rattle.mqtt5_crash.proofs.Loading.{IsWhole}
use Rattle.mqtt5_crash.proofs.Sessions.{asked_session, reply_session, arrives_session, resumed_session, takes_sound}

-- ---- no publish has an empty property set

abbrev pub Tidy : Packet → Type 0
Tidy (packets.Publish p) = IsTidy p
Tidy packet = Unit {0}

pub tidy_closed : Closed Tidy
tidy_closed = record {
  ack = λ p h. tt {0};
  first = λ p h. tt {0};
  release = λ id h. tt {0};
  complete = λ id reason h. tt {0};
  again = λ p h. h;
}

numbered_tidy : (q : QoS) (c : Core) (p : Publish) → IsTidy p → IsTidy (numbered q c p)
numbered_tidy AtMostOnce c p h = h
numbered_tidy AtLeastOnce c p h = h
numbered_tidy ExactlyOnce c p h = h

if_so : (a : Result (Option Packet) StateError) (P : Type 0) → P → IfAccepted a P
if_so (Ok o) P h = h
if_so (Err e) P h = tt {0}

pub owes_tidy : (w : World) (e : WorldEvent) → AsksTidy e → Owes Tidy w e
owes_tidy w (events.Publish p) h = if_so (on_request w.session (requests.Publish p) 0).0 (IsTidy (numbered p.qos w.session.core p)) (numbered_tidy p.qos w.session.core p h)
owes_tidy w events.Up h = tt {0}
owes_tidy w events.Down h = tt {0}
owes_tidy w (events.Loss m) h = tt {0}

norm_same : (p : Publish) → p.qos ≢ AtMostOnce → IsTidy p → publish_norm p ≡ p
norm_same p ne t = let own : (publish_norm p).pkid ≡ p.pkid = own_id p.qos p refl ne in λ i. record p { pkid = own i; properties = t i }

again_tidy : (k : ℕ) (x : Option Slot) → HoldsSlot Tidy k x → HoldsSlot Tidy k (option_map slot_again x)
again_tidy k None h = h
again_tidy k (Some Released) h = h
again_tidy k (Some (Sent p)) h = h

slot_same : (limit k : ℕ) (x : Option Slot) → Fits limit k x → HoldsSlot Tidy k (option_map slot_again x) → option_map slot_norm x ≡ x
slot_same limit k None f h = refl
slot_same limit k (Some Released) f h = refl
slot_same limit k (Some (Sent p)) f h = ap (λ q. Some (Sent q)) (norm_same p f.own.1 h)

waiting_same : (w : Option Publish) → IsCounted w → HoldsWaiting Tidy w → option_map publish_norm w ≡ w
waiting_same None is h = refl
waiting_same (Some p) is h = ap (λ q. Some q) (norm_same p is h)

core_same : (limit : ℕ) (c d : Core) → Sound c → with_dup c ≡ with_dup d → HoldsCore Tidy limit d → core_norm c ≡ c
core_same limit c d i e h =
    let slots : in_use_norm c.in_use ≡ c.in_use = same_map nat_cmp_total nat_cmp-IsAntisymmetric (in_use_norm c.in_use) c.in_use (λ k. get_norm c.in_use k ∙ slot_same c.limit k (get c.in_use k) (i.0 k) (tidy_at k)) in
    let waits : option_map publish_norm c.waiting ≡ c.waiting = waiting_same c.waiting i.1 (subst (HoldsWaiting Tidy) (sym (ap (λ x. x.waiting) e)) h.waits) in
    λ n. record c { in_use = slots n; waiting = waits n }
  where
    tidy_at : (k : ℕ) → HoldsSlot Tidy k (option_map slot_again (get c.in_use k))
    tidy_at k = subst (HoldsSlot Tidy k) (sym (get_again d.in_use k) ∙ sym (ap (λ x. get x.in_use k) e) ∙ get_again c.in_use k) (again_tidy k (get d.in_use k) (h.in_use k))

-- ---- no topic of an alias is known

abbrev topics : Session → Topics
topics s = s.core.aliases

is_no_publish : (x : Packet) → IsAck x → IsPublish x → ⊥
is_no_publish _ (OfPublish id) is = is
is_no_publish _ (OfFirst id) is = is
is_no_publish _ (OfRelease id reason) is = is

takes_topics : (w : World) (x : Packet) → (IsPublish x → ⊥) → topics (takes_packet w x).session ≡ topics w.session
takes_topics w x other = ap topics (reply_session w (on_packet w.session x 0).0 (on_packet w.session x 0).1) ∙ topics_stay (calls.Incoming x 0) (packet_blind x 0 other) w.session

returns_topics : (w : World) (l : List Packet) → Every (ComesDown Tidy) l → topics (returns w l).session ≡ topics w.session
returns_topics w [] h = refl
returns_topics w (x ∷ rest) h = takes_topics (record w { down = rest }) x (is_no_publish x h.0.1)

resumes_topics : (w : World) → Sound w.session.core → topics (resumes w).session ≡ topics w.session
resumes_topics w i = ap topics (resumed_session w (resume_of w.session 0)) ∙ ap (λ c. c.aliases) (core_kept w.session 0 i)

pub event_topics : (limit : ℕ) (w : World) (e : WorldEvent) → Sound w.session.core → Holds Tidy limit w → topics (happens w e).session ≡ topics w.session
event_topics limit w (events.Publish p) i h = ap topics (asked_session w p (on_request w.session (requests.Publish p) 0).0 (on_request w.session (requests.Publish p) 0).1) ∙ topics_stay (calls.Outgoing (requests.Publish p) 0) (request_blind (requests.Publish p) 0) w.session
event_topics limit w events.Up i h = ap topics (arrives_session w w.up)
event_topics limit w events.Down i h = returns_topics w w.down h.down
event_topics limit w (events.Loss m) i h =
    let x = record w { up = []; down = [] } in
    resumes_topics (takes_packet x (taken_back m)) (takes_sound x (taken_back m) i) ∙ takes_topics x (taken_back m) (λ is. is)

-- ---- so the core is stored whole

pub is_whole : (limit : ℕ) (c d : Core) → Sound c → with_dup c ≡ with_dup d → HoldsCore Tidy limit d → d.aliases ≡ empty → IsWhole c
is_whole limit c d i e h none = record { aliases = ap (λ x. x.aliases) e ∙ none; tidy = core_same limit c d i e h }
