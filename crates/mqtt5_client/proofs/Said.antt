-- What the session answers to a packet that is said by a call of its own.
use Rattle.std.proofs.Common.{◌≡◌, ℕ, Bool, true, false, cond, Option, Some, Result, Ok, Err, refl, sym, ap, ◌∙◌}
use Rattle.std.specs.Prelude.{◌&&◌}
use Rattle.mqtt5_codec.specs.declared.packet.Packet.{Packet}
use Rattle.mqtt5_codec.specs.declared.packet.Packet.TheVariants as packets
use Rattle.mqtt5_inflight.specs.declared.event.Outgoing.TheVariants as outgoing
use Rattle.mqtt5_inflight.specs.declared.error.StateError.{StateError}
use Rattle.mqtt5_inflight.specs.declared.error.StateError.TheVariants as faults
use Rattle.mqtt5_session.specs.Session.{Session, Answer, Sends}
use Rattle.mqtt5_session.specs.Requests.{with_event_at, may_leave_for, may_answer_with, names_method}
use Rattle.mqtt5_client.specs.Said.{on_said}

-- this packet and the session after it, or a refusal that leaves the session as it was
abbrev either : Bool → Packet → Session → Session → Answer
either may packet after before = cond may (Ok (Some packet), after) (Err faults.InvalidState, before)

either_said : (may : Bool) (packet : Packet) (after s t : Session) (sent : Option Packet) → Sends (Ok sent) s t (either may packet after s) → either may packet after s ≡ (Ok (Some packet), t)
either_said true packet after s t sent h = ap (λ (u : Session). (Ok (Some packet), u)) (sym h.1)
either_said false packet after s t sent h = let no : ◌≡◌ {A = Result (Option Packet) StateError} (Ok sent) (Err faults.InvalidState) = h.0 in absurd cc

pub answer_said : (s t : Session) (packet : Packet) (at : ℕ) (sent : Option Packet) → Sends (Ok sent) s t (on_said s packet at) → on_said s packet at ≡ (Ok (Some packet), t)
answer_said s t (packets.Disconnect p) at sent h = either_said (may_leave_for p.reason_code) (packets.Disconnect p) (with_event_at s outgoing.Disconnect at) s t sent h
answer_said s t (packets.Auth p) at sent h = either_said (may_answer_with p.code && names_method p.properties) (packets.Auth p) (with_event_at s outgoing.Auth at) s t sent h
answer_said s t other at sent h = let no : ◌≡◌ {A = Result (Option Packet) StateError} (Ok sent) (Err faults.InvalidState) = h.0 in absurd cc

either_still : (may : Bool) (packet : Packet) (after s : Session) (e : StateError) → (either may packet after s).0 ≡ Err e → (either may packet after s).1 ≡ s
either_still true packet after s e h = let no : ◌≡◌ {A = Result (Option Packet) StateError} (Ok (Some packet)) (Err e) = h in absurd cc
either_still false packet after s e h = refl

refused_still : (s : Session) (packet : Packet) (at : ℕ) (e : StateError) → (on_said s packet at).0 ≡ Err e → (on_said s packet at).1 ≡ s
refused_still s (packets.Disconnect p) at e h = either_still (may_leave_for p.reason_code) (packets.Disconnect p) (with_event_at s outgoing.Disconnect at) s e h
refused_still s (packets.Auth p) at e h = either_still (may_answer_with p.code && names_method p.properties) (packets.Auth p) (with_event_at s outgoing.Auth at) s e h
refused_still s other at e h = refl

-- a refusal leaves the session as it was
pub unsaid_still : (e : StateError) (s t : Session) (packet : Packet) (at : ℕ) → Sends (Err e) s t (on_said s packet at) → t ≡ s
unsaid_still faults.OutOfMemory s t packet at h = h.0
unsaid_still e s t packet at h = h.1 ∙ refused_still s packet at e (sym h.0)
