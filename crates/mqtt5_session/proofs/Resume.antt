-- To resume sends the packets of what is held, in one piece, and keeps what is held, with dup.
use Rattle.std.proofs.Common.{◌≡◌, ◌≢◌, ℕ, zero, suc, ◌<◌, ◌≤◌, Bool, false, cond, List, [], ◌∷◌, ◌++◌, ◌==◌, Option, Some, None, Result, Ok, Err, refl, sym, ap, ◌∙◌, subst, arith, le-ltb, ne_eqb, append_assoc, append-nil}
use Rattle.std.specs.List.{filter_map}
use Rattle.std.specs.Option.{option_to_list}
use Rattle.std.proofs.lemmas.List.Elements.{filter_map-append}
use Rattle.std.specs.FinMap.{get, insert, empty}
use Rattle.mqtt5_base.specs.declared.quality.QoS.{QoS}
use Rattle.mqtt5_base.specs.declared.quality.QoS.TheVariants.{AtMostOnce, AtLeastOnce, ExactlyOnce}
use Rattle.mqtt5_publish.specs.declared.publish.Publish.{Publish}
use Rattle.mqtt5_codec.specs.declared.packet.Packet.{Packet}
use Rattle.mqtt5_codec.specs.declared.packet.Packet.TheVariants as packets
use Rattle.mqtt5_inflight.specs.declared.slot.Slot.{Slot}
use Rattle.mqtt5_inflight.specs.declared.slot.Slot.TheVariants.{Sent, Released}
use Rattle.mqtt5_inflight.specs.declared.event.Request.{Request}
use Rattle.mqtt5_inflight.specs.declared.event.Request.TheVariants as requests
use Rattle.mqtt5_inflight.specs.declared.error.StateError.{StateError}
use Rattle.mqtt5_inflight.specs.declared.error.StateError.TheVariants as errors
use Rattle.mqtt5_inflight.specs.InUse.{InUse, IsWithin}
use Rattle.mqtt5_inflight.specs.Aliases.{alias_of, alias_over}
use Rattle.mqtt5_inflight.specs.Unacked.{again, alias_again, by_id, publish_again, release_again}
use Rattle.mqtt5_inflight.specs.Resent.{packet_for, packets_of}
use Rattle.mqtt5_inflight.proofs.Exports.{Fits, fits, is_sent, is_kept, with_slot, map_to, above, FreeFor, free_first, free_then, whole_map}
use Rattle.mqtt5_session.specs.Session.{Session, Answer}
use Rattle.mqtt5_session.specs.Requests.{on_request, alias_fault, id_for, last_after, by_alias, by_use, over_maximum, Refuse, Store, out_acked, out_identified, out_publish, out_release, out_known, with_stored}
use Rattle.mqtt5_session.specs.Resuming.{on_clean, Sendings, with_reply, send_all, resume_of}
use Rattle.mqtt5_session.specs.Again.{event_for, moment_after, after_sent, sent_unless, resumed}

-- ---- one list of requests after another

abbrev pub sent_before : List Packet → Sendings → Sendings
sent_before ps (Err e) = Err e
sent_before ps (Ok r) = Ok (ps ++ r.0, r.1)

abbrev pub and_then : Sendings → (Session → Sendings) → Sendings
and_then (Err e) f = Err e
and_then (Ok r) f = sent_before r.0 (f r.1)

none_before : (r : Sendings) → r ≡ sent_before [] r
none_before (Err e) = refl
none_before (Ok r) = refl

reply_before : (reply : Option Packet) (ps : List Packet) (r : Sendings) → with_reply (Ok reply) (sent_before ps r) ≡ sent_before (option_to_list reply ++ ps) r
reply_before reply ps (Err e) = refl
reply_before reply ps (Ok r) = ap (λ l. Ok (l, r.1)) (sym (append_assoc (option_to_list reply) ps r.0))

reply_and_then : (a : Result (Option Packet) StateError) (r : Sendings) (f : Session → Sendings) → with_reply a (and_then r f) ≡ and_then (with_reply a r) f
reply_and_then (Err e) r f = refl
reply_and_then (Ok reply) (Err e) f = refl
reply_and_then (Ok reply) (Ok r) f = reply_before reply r.0 (f r.1)

send_append : (xs ys : List Request) (s : Session) (at : ℕ) → send_all (xs ++ ys) s at ≡ and_then (send_all xs s at) (λ t. send_all ys t at)
send_append [] ys s at = none_before (send_all ys s at)
send_append (x ∷ xs) ys s at =
    ap (with_reply (on_request s x at).0) (send_append xs ys (on_request s x at).1 at)
    ∙ reply_and_then (on_request s x at).0 (send_all xs (on_request s x at).1 at) (λ t. send_all ys t at)

-- ---- one sending after another

moment_twice : (ps qs : List Packet) (last at : ℕ) → moment_after qs (moment_after ps last at) at ≡ moment_after (ps ++ qs) last at
moment_twice [] qs last at = refl
moment_twice (p ∷ ps) [] last at = refl
moment_twice (p ∷ ps) (q ∷ qs) last at = refl

after_twice : (ps qs : List Packet) (m k : InUse) (s : Session) (at : ℕ) → after_sent qs k (after_sent ps m s at) at ≡ after_sent (ps ++ qs) k s at
after_twice ps qs m k s at i = record s {
  core = record s.core { in_use = k };
  events = (append_assoc s.events (filter_map event_for ps) (filter_map event_for qs) ∙ ap (λ l. s.events ++ l) (sym (filter_map-append event_for ps qs))) i;
  last_outgoing = moment_twice ps qs s.last_outgoing at i;
}

none_after : (s : Session) (at : ℕ) → after_sent [] s.core.in_use s at ≡ s
none_after s at i = record s { events = append-nil s.events i }

both_sent : (xs ys : List ℕ) (ps qs : List Packet) (m k : InUse) (s : Session) (at : ℕ) → and_then (sent_unless xs ps m s at) (λ t. sent_unless ys qs k t at) ≡ sent_unless (xs ++ ys) (ps ++ qs) k s at
both_sent (x ∷ xs) ys ps qs m k s at = refl
both_sent [] (y ∷ ys) ps qs m k s at = refl
both_sent [] [] ps qs m k s at = ap (λ t. Ok (ps ++ qs, t)) (after_twice ps qs m k s at)

sent_then : (xs ys : List ℕ) (ps qs : List Packet) (m k : InUse) (s : Session) (f : Session → Sendings) (at : ℕ) → f (after_sent ps m s at) ≡ sent_unless ys qs k (after_sent ps m s at) at → and_then (sent_unless xs ps m s at) f ≡ sent_unless (xs ++ ys) (ps ++ qs) k s at
sent_then (x ∷ xs) ys ps qs m k s f at e = refl
sent_then [] ys ps qs m k s f at e = ap (sent_before ps) e ∙ both_sent [] ys ps qs m k s at

-- ---- the requests, id by id

-- what is chosen of an id is sent, and put into the map
abbrev Steps : (Slot → Bool) → (ℕ → Option Slot → List Request) → (ℕ → Option Slot → List ℕ) → Session → ℕ → Type 0
Steps ok f g s at = (ps : List Packet) (m : InUse) (id : ℕ) (x : Option Slot) → Fits s.core.limit id x → FreeFor ok x (get m id) → send_all (f id x) (after_sent ps m s at) at ≡ sent_unless (g id x) (filter_map packet_for (f id x)) (with_slot ok id x m) (after_sent ps m s at) at

all_sent : (ok : Slot → Bool) (f : ℕ → Option Slot → List Request) (g : ℕ → Option Slot → List ℕ) (s : Session) (at : ℕ) → Steps ok f g s at → (h : InUse) → ((k : ℕ) → Fits s.core.limit k (get h k)) → ((k : ℕ) → FreeFor ok (get h k) (get s.core.in_use k)) → (n : ℕ) → send_all (by_id f n h) s at ≡ sent_unless (by_id g n h) (filter_map packet_for (by_id f n h)) (map_to ok n h s.core.in_use) s at
all_sent ok f g s at step h fit free zero = ap (λ t. Ok ([], t)) (sym (none_after s at))
all_sent ok f g s at step h fit free (suc n) =
    send_append (by_id f n h) (f (suc n) (get h (suc n))) s at
    ∙ ap (λ r. and_then r (λ t. send_all (f (suc n) (get h (suc n))) t at)) (all_sent ok f g s at step h fit free n)
    ∙ sent_then (by_id g n h) (g (suc n) (get h (suc n))) (filter_map packet_for (by_id f n h)) (filter_map packet_for (f (suc n) (get h (suc n)))) (map_to ok n h s.core.in_use) (map_to ok (suc n) h s.core.in_use) s (λ t. send_all (f (suc n) (get h (suc n))) t at) at
    (step (filter_map packet_for (by_id f n h)) (map_to ok n h s.core.in_use) (suc n) (get h (suc n)) (fit (suc n)) (subst (FreeFor ok (get h (suc n))) (sym (above ok h s.core.in_use n (suc n) (omega arith))) (free (suc n))))
    ∙ ap (λ ps. sent_unless (by_id g (suc n) h) ps (map_to ok (suc n) h s.core.in_use) s at) (sym (filter_map-append packet_for (by_id f n h) (f (suc n) (get h (suc n)))))

-- ---- one request

same_id : (s : Session) (id : ℕ) → 0 < id → id_for s.core id ≡ id
same_id s id pos = let e : (id == 0) ≡ false = ne_eqb id 0 (λ x. absurd (omega arith)) in rw e

same_last : (s : Session) (id : ℕ) → 0 < id → last_after s.core id ≡ s.core.last
same_last s id pos = let e : (id == 0) ≡ false = ne_eqb id 0 (λ x. absurd (omega arith)) in rw e

-- a publish that is sent again
abbrev sent_by : Option ℕ → Session → Publish → ℕ → Answer
sent_by (Some alias) s p at = (Err (errors.InvalidAlias alias s.core.alias_max), s)
sent_by None s p at = (Ok (Some (packets.Publish p)), with_stored s p s.core.last at)

by_over : (o : Option ℕ) (s : Session) (p : Publish) (at : ℕ) → out_acked (by_alias (alias_fault s.core.alias_max o) Store) s p s.core.last at ≡ sent_by o s p at
by_over None s p at = refl
by_over (Some alias) s p at = refl

identified : (s : Session) (p : Publish) (at : ℕ) → p.pkid ≤ s.core.limit → get s.core.in_use p.pkid ≡ None → out_identified s p s.core.last at ≡ sent_by (alias_over s.core.alias_max (alias_of p)) s p at
identified s p at within free =
    ap (λ b. out_acked (cond b (Refuse (errors.Unsolicited p.pkid)) (by_alias (over_maximum s.core p) (by_use (get s.core.in_use p.pkid) s.core.waiting))) s p s.core.last at) (le-ltb s.core.limit p.pkid within)
    ∙ ap (λ x. out_acked (by_alias (over_maximum s.core p) (by_use x s.core.waiting)) s p s.core.last at) free
    ∙ by_over (alias_over s.core.alias_max (alias_of p)) s p at

resent_as : (s : Session) (p : Publish) (at : ℕ) → 0 < p.pkid → p.pkid ≤ s.core.limit → get s.core.in_use p.pkid ≡ None → out_identified s (record p { pkid = id_for s.core p.pkid }) (last_after s.core p.pkid) at ≡ sent_by (alias_over s.core.alias_max (alias_of p)) s p at
resent_as s p at pos within free =
    ap (λ i. out_identified s (record p { pkid = i }) (last_after s.core p.pkid) at) (same_id s p.pkid pos)
    ∙ ap (λ l. out_identified s p l at) (same_last s p.pkid pos)
    ∙ identified s p at within free

resent_by : (q : QoS) (s : Session) (p : Publish) (at : ℕ) → q ≢ AtMostOnce → 0 < p.pkid → p.pkid ≤ s.core.limit → get s.core.in_use p.pkid ≡ None → out_publish q s p at ≡ sent_by (alias_over s.core.alias_max (alias_of p)) s p at
resent_by AtMostOnce s p at counted pos within free = absurd (counted refl)
resent_by AtLeastOnce s p at counted pos within free = resent_as s p at pos within free
resent_by ExactlyOnce s p at counted pos within free = resent_as s p at pos within free

-- nothing is sent of an id that has nothing to send
nothing : (ps : List Packet) (m : InUse) (s : Session) (at : ℕ) → ◌≡◌ {A = Sendings} (Ok ([], after_sent ps m s at)) (Ok ([], after_sent [] m (after_sent ps m s at) at))
nothing ps m s at = ap (λ t. Ok ([], t)) (sym (none_after (after_sent ps m s at) at))

resent : (s : Session) (p : Publish) (id at : ℕ) → Fits s.core.limit id (Some (Sent p)) → get s.core.in_use id ≡ None → on_request s (requests.Publish (again p)) at ≡ sent_by (alias_over s.core.alias_max (alias_of p)) s (again p) at
unfolding on_request
resent s p id at f free =
    resent_by p.qos s (again p) at f.own.1 (subst (λ i. 0 < i) (sym f.own.0) f.low) (subst (λ i. i ≤ s.core.limit) (sym f.own.0) f.high) (ap (get s.core.in_use) f.own.0 ∙ free)

sent_step : (s : Session) (at : ℕ) → Steps is_sent publish_again (alias_again s.core.alias_max) s at
sent_step s at ps m id None f free = nothing ps m s at
sent_step s at ps m id (Some Released) f free = nothing ps m s at
sent_step s at ps m id (Some (Sent p)) f free =
    ap (λ a. with_reply a.0 (Ok ([], a.1))) (resent (after_sent ps m s at) p id at f (free refl)) ∙ by (alias_over s.core.alias_max (alias_of p))
  where
    by : (o : Option ℕ) → with_reply (sent_by o (after_sent ps m s at) (again p) at).0 (Ok ([], (sent_by o (after_sent ps m s at) (again p) at).1)) ≡ sent_unless (option_to_list o) (packets.Publish (again p) ∷ []) (insert m id (Sent (again p))) (after_sent ps m s at) at
    by (Some alias) = refl
    by None = ap (λ i. Ok (packets.Publish (again p) ∷ [], after_sent (packets.Publish (again p) ∷ []) (insert m i (Sent (again p))) (after_sent ps m s at) at)) f.own.0

-- an id that is released again
rereleased : (s : Session) (id at : ℕ) → 0 < id → id ≤ s.core.limit → get s.core.in_use id ≡ None → out_release s (id_for s.core id) (last_after s.core id) at ≡ out_known None s id s.core.last at
rereleased s id at pos within free =
    ap (λ i. out_release s i (last_after s.core id) at) (same_id s id pos)
    ∙ ap (λ l. out_release s id l at) (same_last s id pos)
    ∙ ap (λ b. cond b (Err (errors.Unsolicited id), s) (out_known (get s.core.in_use id) s id s.core.last at)) (le-ltb s.core.limit id within)
    ∙ ap (λ x. out_known x s id s.core.last at) free

abbrev no_alias : ℕ → Option Slot → List ℕ
no_alias id x = []

kept_step : (s : Session) (at : ℕ) → Steps is_kept release_again no_alias s at
unfolding on_request
kept_step s at ps m id None f free = nothing ps m s at
kept_step s at ps m id (Some (Sent p)) f free = nothing ps m s at
kept_step s at ps m id (Some Released) f free = ap (λ a. with_reply a.0 (Ok ([], a.1))) (rereleased (after_sent ps m s at) id at f.low f.high (free refl))

no_aliases : (n : ℕ) (h : InUse) → by_id no_alias n h ≡ []
no_aliases zero h = refl
no_aliases (suc n) h = append-nil (by_id no_alias n h) ∙ no_aliases n h

-- to resume sends all in one piece, and keeps the ids in use, with dup of their publishes
pub resumes : (s : Session) (at : ℕ) → IsWithin s.core.limit s.core.in_use → resume_of s at ≡ resumed s at
unfolding resume_of
resumes s at is =
    send_append (by_id publish_again n h) (by_id release_again n h) (on_clean s) at
    ∙ ap (λ r. and_then r (λ t. send_all (by_id release_again n h) t at)) (all_sent is_sent publish_again (alias_again s.core.alias_max) (on_clean s) at (sent_step (on_clean s) at) h fit (free_first h) n)
    ∙ sent_then (by_id (alias_again s.core.alias_max) n h) (by_id no_alias n h) ps qs m (map_to is_kept n h m) (on_clean s) (λ t. send_all (by_id release_again n h) t at) at (all_sent is_kept release_again no_alias (after_sent ps m (on_clean s) at) at (kept_step (after_sent ps m (on_clean s) at) at) h fit (λ k. free_then n h k (fit k)) n)
    ∙ ap (λ xs. sent_unless xs (ps ++ qs) (map_to is_kept n h m) (on_clean s) at) (ap (λ l. by_id (alias_again s.core.alias_max) n h ++ l) (no_aliases n h) ∙ append-nil (by_id (alias_again s.core.alias_max) n h))
    ∙ ap (λ ps. sent_unless (by_id (alias_again s.core.alias_max) n h) ps (map_to is_kept n h m) (on_clean s) at) (sym (filter_map-append packet_for (by_id publish_again n h) (by_id release_again n h)))
    ∙ ap (λ k. sent_unless (by_id (alias_again s.core.alias_max) n h) (packets_of n h) k (on_clean s) at) (whole_map n h fit)
  where
    n : ℕ
    n = s.core.limit

    h : InUse
    h = s.core.in_use

    fit : (k : ℕ) → Fits n k (get h k)
    fit = fits n h is

    m : InUse
    m = map_to is_sent n h empty

    ps : List Packet
    ps = filter_map packet_for (by_id publish_again n h)

    qs : List Packet
    qs = filter_map packet_for (by_id release_again n h)
