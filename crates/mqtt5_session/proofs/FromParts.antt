-- A session that is made of the parts of another has its core, but for aliases and dup of what awaits an ack.
use Rattle.std.proofs.Common.{◌≡◌, ◌≢◌, ℕ, zero, suc, ◌<◌, ◌≤◌, Bool, true, cond, List, [], ◌∷◌, ◌++◌, Option, Some, None, Result, Ok, Err, refl, sym, ap, ◌∙◌, subst, arith, le-ltb, le-leb, lt-ltb, ne_eqb, append_assoc, append-nil, map, nat_lt, nat_le}
use Rattle.std.specs.Prelude.{◌&&◌, is_some}
use Rattle.std.specs.List.{filter_map}
use Rattle.std.proofs.lemmas.List.Elements.{filter_map-append}
use Rattle.std.specs.FinMap.{get, insert, empty, nat_cmp-IsAntisymmetric}
use Rattle.std.specs.Cmp.{nat_cmp_total}
use Rattle.std.specs.FinSet as set
use Rattle.std.specs.FinSet.{from_list, from_list_push}
use Rattle.mqtt5_base.specs.declared.quality.QoS.{QoS}
use Rattle.mqtt5_base.specs.declared.quality.QoS.TheVariants.{AtMostOnce, AtLeastOnce, ExactlyOnce}
use Rattle.mqtt5_publish.specs.declared.publish.Publish.{Publish}
use Rattle.mqtt5_codec.specs.declared.packet.Packet.{Packet}
use Rattle.mqtt5_inflight.specs.declared.slot.Slot.{Slot}
use Rattle.mqtt5_inflight.specs.declared.slot.Slot.TheVariants.{Sent, Released}
use Rattle.mqtt5_inflight.specs.declared.event.Request.{Request}
use Rattle.mqtt5_inflight.specs.InUse.{InUse}
use Rattle.mqtt5_inflight.specs.Unacked.{again, by_id, publish_again, release_again, in_use_again}
use Rattle.mqtt5_inflight.specs.Resent.{packet_for, packets_of}
use Rattle.mqtt5_inflight.proofs.Exports.{Fits, fits}
use Rattle.mqtt5_inflight.proofs.Exports.{is_sent, is_kept, with_slot, map_to, above, FreeFor, free_first, free_then, whole_map}
use Rattle.mqtt5_session.specs.Session.{Core}
use Rattle.mqtt5_session.specs.Freeing.{IsCounted}
use Rattle.mqtt5_session.specs.Packets.{pubrec_of}
use Rattle.mqtt5_session.specs.Resuming.{with_dup}
use Rattle.mqtt5_session.specs.declared.parts.PartsError.{PartsError}
use Rattle.mqtt5_session.specs.declared.parts.PartsError.TheVariants as faults
use Rattle.mqtt5_session.specs.Parts.{numbers_of, stored_packets, without_aliases, blank_core, add_slot, add_publish, add_packet, core_then, add_packets, may_wait, core_of_parts, IsCore}

-- ---- one list of packets after another

add_append : (c : Core) (xs ys : List Packet) → add_packets c (xs ++ ys) ≡ core_then (add_packets c xs) (λ d. add_packets d ys)
add_append c [] ys = refl
add_append c (x ∷ xs) ys = by (add_packet c x) (λ d. add_append d xs ys)
  where
    by : (r : Result Core PartsError) → ((d : Core) → add_packets d (xs ++ ys) ≡ core_then (add_packets d xs) (λ e. add_packets e ys)) → core_then r (λ d. add_packets d (xs ++ ys)) ≡ core_then (core_then r (λ d. add_packets d xs)) (λ d. add_packets d ys)
    by (Ok d) h = h d
    by (Err e) h = refl

-- ---- ids in use

abbrev with : Core → InUse → Core
with c m = record c { in_use = m }

slot_put : (c : Core) (id : ℕ) (x : Slot) → 0 < id → id ≤ c.limit → get c.in_use id ≡ None → add_slot c id x ≡ Ok (record c { in_use = insert c.in_use id x })
slot_put c id x low high free =
    ap (λ b. cond b (Err (faults.OutOfRange id)) (cond (nat_lt c.limit id) (Err (faults.OutOfRange id)) (cond (is_some (get c.in_use id)) (Err (faults.Twice id)) (Ok (record c { in_use = insert c.in_use id x }))))) (ne_eqb id 0 (λ e. absurd (omega arith)))
    ∙ ap (λ b. cond b (Err (faults.OutOfRange id)) (cond (is_some (get c.in_use id)) (Err (faults.Twice id)) (Ok (record c { in_use = insert c.in_use id x })))) (le-ltb c.limit id high)
    ∙ ap (λ o. cond (is_some o) (Err (faults.Twice id)) (Ok (record c { in_use = insert c.in_use id x }))) free

publish_put : (q : QoS) (c : Core) (p : Publish) → q ≢ AtMostOnce → 0 < p.pkid → p.pkid ≤ c.limit → get c.in_use p.pkid ≡ None → add_publish q c p ≡ Ok (record c { in_use = insert c.in_use p.pkid (Sent p) })
publish_put AtMostOnce c p counted low high free = absurd (counted refl)
publish_put AtLeastOnce c p counted low high free = slot_put c p.pkid (Sent p) low high free
publish_put ExactlyOnce c p counted low high free = slot_put c p.pkid (Sent p) low high free

-- what is chosen of an id is add_packet in
abbrev Steps : (Slot → Bool) → (ℕ → Option Slot → List Request) → Core → Type 0
Steps ok f c = (m : InUse) (id : ℕ) (x : Option Slot) → Fits c.limit id x → FreeFor ok x (get m id) → add_packets (with c m) (filter_map packet_for (f id x)) ≡ Ok (with c (with_slot ok id x m))

sent_step : (c : Core) → Steps is_sent publish_again c
sent_step c m id None f free = refl
sent_step c m id (Some Released) f free = refl
sent_step c m id (Some (Sent p)) f free =
    ap (λ r. core_then r (λ d. Ok d))
    (publish_put p.qos (with c m) (again p) f.own.1 (subst (λ i. 0 < i) (sym f.own.0) f.low) (subst (λ i. i ≤ c.limit) (sym f.own.0) f.high) (ap (get m) f.own.0 ∙ free refl))
    ∙ ap (λ i. Ok (with c (insert m i (Sent (again p))))) f.own.0

kept_step : (c : Core) → Steps is_kept release_again c
kept_step c m id None f free = refl
kept_step c m id (Some (Sent p)) f free = refl
kept_step c m id (Some Released) f free = ap (λ r. core_then r (λ d. Ok d)) (slot_put (with c m) id Released f.low f.high (free refl))

all_put : (ok : Slot → Bool) (f : ℕ → Option Slot → List Request) (c : Core) → Steps ok f c → (h : InUse) → ((k : ℕ) → Fits c.limit k (get h k)) → ((k : ℕ) → FreeFor ok (get h k) (get c.in_use k)) → (n : ℕ) → add_packets c (filter_map packet_for (by_id f n h)) ≡ Ok (with c (map_to ok n h c.in_use))
all_put ok f c step h fit free zero = refl
all_put ok f c step h fit free (suc n) =
    ap (add_packets c) (filter_map-append packet_for (by_id f n h) (f (suc n) (get h (suc n))))
    ∙ add_append c (filter_map packet_for (by_id f n h)) (filter_map packet_for (f (suc n) (get h (suc n))))
    ∙ ap (λ r. core_then r (λ d. add_packets d (filter_map packet_for (f (suc n) (get h (suc n)))))) (all_put ok f c step h fit free n)
    ∙ step (map_to ok n h c.in_use) (suc n) (get h (suc n)) (fit (suc n)) (subst (FreeFor ok (get h (suc n))) (sym (above ok h c.in_use n (suc n) (omega arith))) (free (suc n)))

-- all that is sent again makes the ids in use, with dup of their publishes
in_use_put : (c : Core) (h : InUse) → c.in_use ≡ empty → ((k : ℕ) → Fits c.limit k (get h k)) → add_packets c (packets_of c.limit h) ≡ Ok (with c (in_use_again h))
in_use_put c h none fit =
    ap (λ m. add_packets (with c m) (packets_of c.limit h)) none
    ∙ ap (add_packets d) (filter_map-append packet_for (by_id publish_again n h) (by_id release_again n h))
    ∙ add_append d (filter_map packet_for (by_id publish_again n h)) (filter_map packet_for (by_id release_again n h))
    ∙ ap (λ r. core_then r (λ e. add_packets e (filter_map packet_for (by_id release_again n h)))) (all_put is_sent publish_again d (sent_step d) h fit (free_first h) n)
    ∙ all_put is_kept release_again (with d (map_to is_sent n h empty)) (kept_step (with d (map_to is_sent n h empty))) h fit (λ k. free_then n h k (fit k)) n
    ∙ ap (λ m. Ok (with c m)) (whole_map n h fit)
  where
    n : ℕ
    n = c.limit

    d : Core
    d = with c empty

-- ---- ids of the broker's publishes

abbrev having : Core → List ℕ → Core
having c ids = record c { incoming = from_list ids }

ids_put : (c : Core) (before ids : List ℕ) → add_packets (having c before) (map pubrec_of ids) ≡ Ok (having c (before ++ ids))
ids_put c before [] = ap (λ l. Ok (having c l)) (sym (append-nil before))
ids_put c before (id ∷ ids) =
    ap (λ s. add_packets (record c { incoming = s }) (map pubrec_of ids)) (sym (from_list_push nat_cmp_total nat_cmp-IsAntisymmetric before id))
    ∙ ids_put c (before ++ id ∷ []) ids
    ∙ ap (λ l. Ok (having c l)) (append_assoc before (id ∷ []) ids)

-- ---- the whole

parts_put : (c : Core) (h : InUse) (ids : List ℕ) → c.in_use ≡ empty → c.incoming ≡ set.empty → ((k : ℕ) → Fits c.limit k (get h k)) → add_packets c (packets_of c.limit h ++ map pubrec_of ids) ≡ Ok (record c { in_use = in_use_again h; incoming = from_list ids })
parts_put c h ids none nobody fit =
    add_append c (packets_of c.limit h) (map pubrec_of ids)
    ∙ ap (λ r. core_then r (λ d. add_packets d (map pubrec_of ids))) (in_use_put c h none fit)
    ∙ ap (λ s. add_packets (record c { in_use = in_use_again h; incoming = s }) (map pubrec_of ids)) nobody
    ∙ ids_put (with c (in_use_again h)) [] ids

waits : (w : Option Publish) → IsCounted w → may_wait w ≡ true
waits None is = refl
waits (Some p) is = by p.qos is
  where
    by : (q : QoS) → q ≢ AtMostOnce → may_wait (Some (record p { qos = q })) ≡ true
    by AtMostOnce ne = absurd (ne refl)
    by AtLeastOnce ne = refl
    by ExactlyOnce ne = refl

pub made_again : (c : Core) (ids : List ℕ) → IsCore c → from_list ids ≡ c.incoming → core_of_parts (numbers_of c) c.waiting (stored_packets c ids) ≡ Ok (without_aliases (with_dup c))
made_again c ids is same =
    ap (λ b. cond (b && nat_le c.current c.limit) (cond (may_wait c.waiting) made (Err faults.NotStored)) (Err faults.BadNumbers)) (lt-ltb c.last c.limit is.last)
    ∙ ap (λ b. cond b (cond (may_wait c.waiting) made (Err faults.NotStored)) (Err faults.BadNumbers)) (le-leb c.current c.limit is.current)
    ∙ ap (λ b. cond b made (Err faults.NotStored)) (waits c.waiting is.counted)
    ∙ parts_put (blank_core (numbers_of c) c.waiting) c.in_use ids refl refl (fits c.limit c.in_use is.within)
    ∙ ap (λ s. Ok (record (without_aliases (with_dup c)) { incoming = s })) same
  where
    made : Result Core PartsError
    made = add_packets (blank_core (numbers_of c) c.waiting) (stored_packets c ids)
