-- A core with its publishes as they are once they were written and read again.
use Rattle.std.proofs.Common.{◌≡◌, ◌≢◌, ℕ, zero, suc, List, [], ◌∷◌, ◌++◌, Option, Some, None, refl, sym, ap, ap₂, ◌∙◌, subst, map}
use Rattle.std.specs.Prelude.{option_map}
use Rattle.std.specs.List.{filter_map}
use Rattle.std.specs.FinMap.{get}
use Rattle.std.proofs.lemmas.List.{map-append}
use Rattle.mqtt5_base.specs.declared.quality.QoS.{QoS}
use Rattle.mqtt5_base.specs.declared.quality.QoS.TheVariants.{AtMostOnce, AtLeastOnce, ExactlyOnce}
use Rattle.mqtt5_publish.specs.declared.publish.Publish.{Publish}
use Rattle.mqtt5_publish.specs.Norms.{publish_norm, pubrel_norm}
use Rattle.mqtt5_codec.specs.declared.packet.Packet.TheVariants as packets
use Rattle.mqtt5_codec.specs.Norms.{norm}
use Rattle.mqtt5_inflight.specs.declared.slot.Slot.{Slot}
use Rattle.mqtt5_inflight.specs.declared.slot.Slot.TheVariants.{Sent, Released}
use Rattle.mqtt5_inflight.specs.declared.event.Request.{Request}
use Rattle.mqtt5_inflight.specs.declared.event.Request.TheVariants as requests
use Rattle.mqtt5_inflight.specs.InUse.{InUse}
use Rattle.mqtt5_inflight.specs.Placed.{map_values}
use Rattle.mqtt5_inflight.specs.Unacked.{by_id, publish_again, release_again, requests_of}
use Rattle.mqtt5_inflight.specs.Resent.{packet_for, packets_of}
use Rattle.mqtt5_inflight.proofs.Exports.{Fits, fits, within_fits}
use Rattle.mqtt5_inflight.proofs.Exports.{get-map_values}
use Rattle.mqtt5_session.specs.Session.{Core}
use Rattle.mqtt5_session.specs.Freeing.{IsCounted}
use Rattle.mqtt5_session.specs.Packets.{pubrec_of}
use Rattle.mqtt5_session.specs.Parts.{slot_norm, in_use_norm, core_norm, stored_packets, IsCore}

norm_values : (h : InUse) → in_use_norm h ≡ map_values slot_norm h
unfolding in_use_norm map_values
norm_values h = refl

pub get_norm : (h : InUse) (k : ℕ) → get (in_use_norm h) k ≡ option_map slot_norm (get h k)
get_norm h k = ap (λ m. get m k) (norm_values h) ∙ get-map_values slot_norm h k

-- ---- the packets

abbrev as_read : Request → Request
as_read (requests.Publish p) = requests.Publish (publish_norm p)
as_read (requests.PubRel p) = requests.PubRel (pubrel_norm p)
as_read r = r

published : (id : ℕ) (x : Option Slot) → publish_again id (option_map slot_norm x) ≡ map as_read (publish_again id x)
published id None = refl
published id (Some Released) = refl
published id (Some (Sent p)) = refl

released : (id : ℕ) (x : Option Slot) → release_again id (option_map slot_norm x) ≡ map as_read (release_again id x)
released id None = refl
released id (Some Released) = refl
released id (Some (Sent p)) = refl

by_id_norm : (f : ℕ → Option Slot → List Request) → ((id : ℕ) (x : Option Slot) → f id (option_map slot_norm x) ≡ map as_read (f id x)) → (n : ℕ) (h : InUse) → by_id f n (in_use_norm h) ≡ map as_read (by_id f n h)
by_id_norm f is zero h = refl
by_id_norm f is (suc n) h =
    ap₂ (λ xs ys. xs ++ ys) (by_id_norm f is n h) (ap (f (suc n)) (get_norm h (suc n)) ∙ is (suc n) (get h (suc n)))
    ∙ sym (map-append as_read (by_id f n h) (f (suc n) (get h (suc n))))

one_read : (r : Request) → packet_for (as_read r) ≡ option_map norm (packet_for r)
one_read (requests.Publish p) = refl
one_read (requests.PubRel p) = refl
one_read r = refl

all_read : (rs : List Request) → filter_map packet_for (map as_read rs) ≡ map norm (filter_map packet_for rs)
all_read [] = refl
all_read (r ∷ rs) = by r (all_read rs)
  where
    by : (r : Request) → filter_map packet_for (map as_read rs) ≡ map norm (filter_map packet_for rs) → filter_map packet_for (map as_read (r ∷ rs)) ≡ map norm (filter_map packet_for (r ∷ rs))
    by (requests.Publish p) h = ap (λ ps. packets.Publish (publish_norm p) ∷ ps) h
    by (requests.PubRel p) h = ap (λ ps. packets.PubRel (pubrel_norm p) ∷ ps) h
    by r h = h

packets_norm : (n : ℕ) (h : InUse) → packets_of n (in_use_norm h) ≡ map norm (packets_of n h)
packets_norm n h =
    ap (filter_map packet_for) (ap₂ (λ xs ys. xs ++ ys) (by_id_norm publish_again published n h) (by_id_norm release_again released n h) ∙ sym (map-append as_read (by_id publish_again n h) (by_id release_again n h)))
    ∙ all_read (requests_of n h)

recs_read : (ids : List ℕ) → map norm (map pubrec_of ids) ≡ map pubrec_of ids
recs_read [] = refl
recs_read (id ∷ ids) = ap (λ ps. pubrec_of id ∷ ps) (recs_read ids)

-- what is written of a core is read as that of the core_norm one
pub stored_read : (c : Core) (ids : List ℕ) → map norm (stored_packets c ids) ≡ stored_packets (core_norm c) ids
stored_read c ids =
    map-append norm (packets_of c.limit c.in_use) (map pubrec_of ids)
    ∙ ap₂ (λ xs ys. xs ++ ys) (sym (packets_norm c.limit c.in_use)) (recs_read ids)

-- ---- a core of a session

pub own_id : (q : QoS) (p : Publish) → p.qos ≡ q → q ≢ AtMostOnce → (publish_norm p).pkid ≡ p.pkid
own_id q p e ne = ap (λ r. (publish_norm (record p { qos = r })).pkid) e ∙ by q ne
  where
    by : (r : QoS) → r ≢ AtMostOnce → (publish_norm (record p { qos = r })).pkid ≡ p.pkid
    by AtMostOnce ne = absurd (ne refl)
    by AtLeastOnce ne = refl
    by ExactlyOnce ne = refl

fits_norm : (limit : ℕ) (h : InUse) → ((k : ℕ) → Fits limit k (get h k)) → (k : ℕ) → Fits limit k (get (in_use_norm h) k)
fits_norm limit h fit k = subst (Fits limit k) (sym (get_norm h k)) (by (get h k) (fit k))
  where
    by : (x : Option Slot) → Fits limit k x → Fits limit k (option_map slot_norm x)
    by None f = f
    by (Some Released) f = f
    by (Some (Sent p)) f = record { low = f.low; high = f.high; own = (own_id p.qos p refl f.own.1 ∙ f.own.0, f.own.1) }

waits_norm : (w : Option Publish) → IsCounted w → IsCounted (option_map publish_norm w)
waits_norm None is = is
waits_norm (Some p) is = is

pub norm_is_core : (c : Core) → IsCore c → IsCore (core_norm c)
norm_is_core c is = record {
  last = is.last;
  current = is.current;
  within = within_fits c.limit (in_use_norm c.in_use) (fits_norm c.limit c.in_use (fits c.limit c.in_use is.within));
  counted = waits_norm c.waiting is.counted;
}
