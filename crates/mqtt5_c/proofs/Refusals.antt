-- This file serves the logic alone: no refusal has the number 0.
use Rattle.std.proofs.Common.{◌≡◌, ◌≢◌, ℕ, Bool, true, false, cond, ◌==◌, List, [], ◌∷◌, length, Option, Some, None, Result, Ok, Err, sym, subst, inl, inr, nat_lt, arith}
use Rattle.std.specs.Prelude.{nat_le}
use Rattle.std.specs.FinMap.{get}
use Rattle.mqtt5_base.specs.declared.error.Error.{Error}
use Rattle.mqtt5_base.specs.declared.error.Error.TheVariants as errors
use Rattle.mqtt5_base.specs.declared.quality.QoS.{QoS}
use Rattle.mqtt5_base.specs.declared.quality.QoS.TheVariants.{AtMostOnce, AtLeastOnce, ExactlyOnce}
use Rattle.mqtt5_publish.specs.declared.publish.Publish.{Publish}
use Rattle.mqtt5_codec.specs.declared.packet.Packet.{Packet}
use Rattle.mqtt5_inflight.specs.declared.slot.Slot.{Slot}
use Rattle.mqtt5_inflight.specs.declared.slot.Slot.TheVariants.{Sent, Released}
use Rattle.mqtt5_inflight.specs.Aliases.{alias_of, alias_over}
use Rattle.mqtt5_inflight.specs.Errors.{state_error}
use Rattle.mqtt5_inflight.specs.declared.event.Request.{Request}
use Rattle.mqtt5_inflight.specs.declared.event.Request.TheVariants as requests
use Rattle.mqtt5_inflight.specs.declared.error.StateError.{StateError}
use Rattle.mqtt5_inflight.specs.declared.error.StateError.TheVariants as faults
use Rattle.mqtt5_session.specs.Session.{Session, Answer}
use Rattle.mqtt5_session.specs.Requests.{on_request, unless, alias_fault, over_maximum, verdict_of, by_alias, by_use, Verdict, Refuse, Wait, Store, out_acked, out_publish, out_known, id_for, last_after, counts_ping, ping_fault, pending_fault}
use Rattle.mqtt5_session.specs.Resuming.{with_reply, send_all, Sendings}
use Rattle.mqtt5_session.proofs.Exports.{choose}
use Rattle.mqtt5_client.specs.declared.client.Client.{Client}
use Rattle.mqtt5_client.specs.TakingUp.{NotTakenUp}
use Rattle.mqtt5_c.specs.Numbers.{fault_code}

abbrev IsTold : StateError → Type 0
IsTold e = fault_code e ≢ 0

-- of an answer
abbrev Told : Result (Option Packet) StateError → Type 0
Told (Ok reply) = Unit {0}
Told (Err e) = IsTold e

abbrev Tells : Answer → Type 0
Tells a = Told a.0

-- of a fault that may be
abbrev May : Option StateError → Type 0
May None = Unit {0}
May (Some e) = IsTold e

abbrev Judged : Verdict → Type 0
Judged (Refuse e) = IsTold e
Judged v = Unit {0}

unless_tells : (e : Option StateError) (s : Session) (a : Answer) → May e → Tells a → Tells (unless e s a)
unless_tells None s a m h = h
unless_tells (Some e) s a m h = m

alias_told : (max : ℕ) (o : Option ℕ) → May (alias_fault max o)
alias_told max None = tt {0}
alias_told max (Some alias) = λ e. absurd (omega (arith, e))

use_judged : (x : Option Slot) (w : Option Publish) → Judged (by_use x w)
use_judged None w = tt {0}
use_judged (Some slot) None = tt {0}
use_judged (Some slot) (Some p) = λ e. absurd (omega (arith, e))

alias_judged : (e : Option StateError) (v : Verdict) → May e → Judged v → Judged (by_alias e v)
alias_judged None v m h = h
alias_judged (Some e) v m h = m

pick : (b : Bool) (v w : Verdict) → Judged v → Judged w → Judged (cond b v w)
pick true v w h k = h
pick false v w h k = k

acked_tells : (v : Verdict) (s : Session) (p : Publish) (last at : ℕ) → Judged v → Tells (out_acked v s p last at)
acked_tells (Refuse e) s p last at h = h
acked_tells Wait s p last at h = tt {0}
acked_tells Store s p last at h = tt {0}

identified_tells : (s : Session) (p : Publish) (last at : ℕ) → Tells (out_acked (verdict_of s.core p) s p last at)
identified_tells s p last at =
    acked_tells (verdict_of s.core p) s p last at
    (pick (nat_lt s.core.limit p.pkid) _ _ (λ e. absurd (omega (arith, e)))
    (alias_judged (over_maximum s.core p) _ (alias_told s.core.alias_max (alias_over s.core.alias_max (alias_of p))) (use_judged (get s.core.in_use p.pkid) s.core.waiting)))

publish_tells : (q : QoS) (s : Session) (p : Publish) (at : ℕ) → Tells (out_publish q s p at)
publish_tells AtMostOnce s p at = unless_tells (over_maximum s.core p) s _ (alias_told s.core.alias_max (alias_over s.core.alias_max (alias_of p))) (tt {0})
publish_tells AtLeastOnce s p at = identified_tells s (record p { pkid = id_for s.core p.pkid }) (last_after s.core p.pkid) at
publish_tells ExactlyOnce s p at = identified_tells s (record p { pkid = id_for s.core p.pkid }) (last_after s.core p.pkid) at

known_tells : (x : Option Slot) (s : Session) (id last at : ℕ) → Tells (out_known x s id last at)
known_tells (Some (Sent p)) s id last at = λ e. absurd (omega (arith, e))
known_tells (Some Released) s id last at = tt {0}
known_tells None s id last at = tt {0}

unanswered_may : (b : Bool) → May (pending_fault b)
unanswered_may true = λ e. absurd (omega (arith, e))
unanswered_may false = tt {0}

second_may : (b : Bool) (o : Option StateError) → May o → May (cond b (Some faults.CollisionTimeout) o)
second_may true o h = λ e. absurd (omega (arith, e))
second_may false o h = h

ping_may : (w : Option Publish) (count : ℕ) (awaits : Bool) → May (ping_fault w count awaits)
ping_may None count awaits = unanswered_may awaits
ping_may (Some p) count awaits = second_may (nat_le 2 count) (pending_fault awaits) (unanswered_may awaits)

out_tells : (s : Session) (request : Request) (at : ℕ) → Tells (on_request s request at)
unfolding on_request
out_tells s (requests.Publish p) at = publish_tells p.qos s p at
out_tells s (requests.Subscribe p) at = choose Tells (length p.filters == 0) _ _ (λ _ e. absurd (omega (arith, e))) (λ _. tt {0})
out_tells s (requests.Unsubscribe p) at = tt {0}
out_tells s (requests.PubRel p) at =
    choose Tells (nat_lt s.core.limit (id_for s.core p.pkid)) _ _ (λ _ e. absurd (omega (arith, e)))
    (λ _. known_tells (get s.core.in_use (id_for s.core p.pkid)) s (id_for s.core p.pkid) (last_after s.core p.pkid) at)
out_tells s (requests.PubAck p) at = tt {0}
out_tells s (requests.PubRec p) at = tt {0}
out_tells s requests.PingReq at = unless_tells (ping_fault s.core.waiting (counts_ping s).collision_pings s.awaits_ping) (counts_ping s) _ (ping_may s.core.waiting (counts_ping s).collision_pings s.awaits_ping) (tt {0})
out_tells s requests.Disconnect at = tt {0}
out_tells s other at = λ e. absurd (omega (arith, e))

-- of requests, one after the other
abbrev Sends : Sendings → Type 0
Sends (Ok sent) = Unit {0}
Sends (Err e) = IsTold e

reply_sends : (a : Result (Option Packet) StateError) (r : Sendings) → Told a → Sends r → Sends (with_reply a r)
reply_sends (Err e) r h k = h
reply_sends (Ok reply) (Err e) h k = k
reply_sends (Ok reply) (Ok sent) h k = tt {0}

all_sends : (rs : List Request) (s : Session) (at : ℕ) → Sends (send_all rs s at)
all_sends [] s at = tt {0}
all_sends (r ∷ rs) s at = reply_sends (on_request s r at).0 (send_all rs (on_request s r at).1 at) (out_tells s r at) (all_sends rs (on_request s r at).1 at)

-- of an error of writing
error_told : (f : Error) → IsTold (state_error f)
error_told (errors.OutgoingPacketTooLarge size max) = λ e. absurd (omega (arith, e))
error_told errors.OutOfMemory = λ e. absurd (omega (arith, e))
error_told f = λ e. absurd (omega (arith, e))

memory_told : (e : StateError) → e ≡ faults.OutOfMemory → IsTold e
memory_told e is = subst IsTold (sym is) (λ z. absurd (omega (arith, z)))

pub not_taken_up : (present : Bool) (e : StateError) (c : Client) (at : ℕ) → NotTakenUp present e c at → fault_code e ≢ 0
not_taken_up true e c at (inl memory) = memory_told e memory
not_taken_up true e c at (inr (inl refused)) = subst Sends refused (all_sends _ _ at)
not_taken_up true e c at (inr (inr h)) = subst IsTold (sym h.3.2) (error_told h.3.0)
not_taken_up false e c at (inl memory) = memory_told e memory
not_taken_up false e c at (inr events) = subst IsTold (sym events) (λ z. absurd (omega (arith, z)))
