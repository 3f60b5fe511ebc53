-- How often the broker handed the publishes of a class on, by how often they were given to it by all sessions.
use Rattle.std.proofs.Common.{◌≡◌, ◌≢◌, ℕ, ◌+◌, ◌*◌, ◌≤◌, Bool, List, [], ◌∷◌, count_by, refl, ap, arith}
use Rattle.std.specs.Prelude.{sum_by}
use Rattle.std.specs.List.{AllByRecursion, Contains}
use Rattle.std.proofs.lemmas.List.Elements.{recursion_from_All}
use Rattle.std.proofs.lemmas.List.Sums.{sum_by-cons}
use Rattle.mqtt5_base.specs.declared.quality.QoS.{QoS}
use Rattle.mqtt5_base.specs.declared.quality.QoS.TheVariants.{AtLeastOnce, ExactlyOnce}
use Rattle.mqtt5_publish.specs.declared.publish.Publish.{Publish}
use Rattle.mqtt5_world.specs.Delivery.{IsClass, stored_in, waiting_in}
use Rattle.mqtt5_network.specs.Receiver.{shown}
use Rattle.mqtt5_network.specs.Connection.{kept_at}
use Rattle.mqtt5_network.specs.Place.{Place, AtRest}
use Rattle.mqtt5_network.specs.Network.{Network, IsReached, AllAtRest, given_by, given_in, most_by, most_in, kept_by, lost_in, unacked_by, unacked_in}
use Rattle.mqtt5_network.specs.Granted.{published, IsNew}
use Rattle.mqtt5_network.proofs.Forwarding.{published_class}
use Rattle.mqtt5_network.proofs.Counted.{Rests, shown_most, own_most, own_losses, own_left, own_ledger, own_least, own_exactly}
use Rattle.mqtt5_network.proofs.Places.{IsPlace, hidden_of, here_of}
use Rattle.mqtt5_network.proofs.Joined.{by_place, handed_of, IsOld, IsJoined, joined, place_of}

-- ---- sums over clients

sums_less : (P : Place → Type 0) (f g : Place → ℕ) → ((p : Place) → P p → f p ≤ g p) → (ps : List Place) → AllByRecursion P ps → sum_by f ps ≤ sum_by g ps
sums_less P f g each [] all = omega arith
sums_less P f g each (p ∷ ps) all =
    let a = sum_by-cons f p ps in
    let b = sum_by-cons g p ps in
    let h = each p all.0 in
    let r = sums_less P f g each ps all.1 in
    omega (arith, a, b, h, r)

both : (P R : Place → Type 0) (ps : List Place) → AllByRecursion P ps → AllByRecursion R ps → AllByRecursion (λ p. P p × R p) ps
both P R [] all more = all
both P R (p ∷ ps) all more = ((all.0, more.0), both P R ps all.1 more.1)

sums_added : (f g : Place → ℕ) (ps : List Place) → sum_by (λ p. f p + g p) ps ≡ sum_by f ps + sum_by g ps
sums_added f g [] = omega arith
sums_added f g (p ∷ ps) =
    let a = sum_by-cons f p ps in
    let b = sum_by-cons g p ps in
    let d = sum_by-cons (λ p. f p + g p) p ps in
    let r = sums_added f g ps in
    omega (arith, a, b, d, r)

-- at rest, as a client
pub rest_of : (p : Place) → AtRest p → Rests p.client
rest_of p r = record { up = r.up; down = r.down; queue = r.queue }

-- ---- what was handed on

module _ (n : Network) (j : IsJoined n) (test : Publish → Bool) where
  abbrev given : Place → ℕ
  given p = count_by test p.client.accepted + count_by test p.willed

  abbrev kept : Place → ℕ
  kept p = kept_at p.client.receiver.ids p.client.session.core test

  abbrev unacked : Place → ℕ
  unacked p = count_by test (stored_in p.client.session.core) + count_by test (waiting_in p.client.session.core)

  -- of the sessions that ended, in the end
  old_ledger : IsClass ExactlyOnce test → handed_of test n.ended + kept_by n.ended test ≡ given_by n.ended test
  old_ledger k =
      let s = sums_less IsOld (λ p. by_place test p + kept p) given (λ p i. let h = own_ledger i.handed _ i.hidden.client test k in omega (arith, h)) n.ended j.ended in
      let t = sums_less IsOld given (λ p. by_place test p + kept p) (λ p i. let h = own_ledger i.handed _ i.hidden.client test k in omega (arith, h)) n.ended j.ended in
      let v = sums_added (by_place test) kept n.ended in
      omega (arith, s, t, v)

  -- at QoS 1 they handed on what awaits no ack
  old_left : IsClass AtLeastOnce test → given_by n.ended test ≤ handed_of test n.ended + unacked_by n.ended test
  old_left k =
      let s = sums_less IsOld given (λ p. by_place test p + unacked p) (λ p i. let h = own_left i.handed _ i.hidden.client test k in omega (arith, h)) n.ended j.ended in
      let v = sums_added (by_place test) unacked n.ended in
      omega (arith, s, v)

  pub handed_most : (q : QoS) → q ≢ AtLeastOnce → IsClass q test → count_by test n.handed ≤ given_in n test
  handed_most q ne k =
      let l = j.counts test in
      let s = sums_less (IsPlace n.handed) (by_place test) given (λ p i. let h = own_most n.handed _ (hidden_of n.handed p i).client test q ne k in omega (arith, h)) n.places j.places in
      let o = sums_less IsOld (by_place test) given (λ p i. let h = own_most i.handed _ i.hidden.client test q ne k in omega (arith, h)) n.ended j.ended in
      omega (arith, l, s, o)

  abbrev times : Place → ℕ
  times p = (p.client.lost + 1) * count_by test p.client.accepted + count_by test p.willed

  pub handed_losses : (q : QoS) → IsClass q test → count_by test n.handed ≤ most_in n test
  handed_losses q k =
      let l = j.counts test in
      let s = sums_less (IsPlace n.handed) (by_place test) times (λ p i. let h = own_losses n.handed _ (hidden_of n.handed p i).client test q k in omega (arith, h)) n.places j.places in
      let o = sums_less IsOld (by_place test) times (λ p i. let h = own_losses i.handed _ i.hidden.client test q k in omega (arith, h)) n.ended j.ended in
      omega (arith, l, s, o)

  -- where none was given, none was handed on
  none_more : (ps : List Place) → given_by ps test ≡ 0 → most_by ps test ≡ 0
  none_more [] z = refl
  none_more (p ∷ ps) z =
      let a = sum_by-cons given p ps in
      let b = sum_by-cons times p ps in
      let x : count_by test p.client.accepted ≡ 0 = omega (arith, a, z) in
      let m = ap (λ m. (p.client.lost + 1) * m) x in
      let r = none_more ps (omega (arith, a, z)) in
      omega (arith, a, b, z, m, r)

  pub none_handed : (q : QoS) → IsClass q test → given_in n test ≡ 0 → count_by test n.handed ≡ 0
  none_handed q k z =
      let l = handed_losses q k in
      let e = none_more n.places (omega (arith, z)) in
      let f = none_more n.ended (omega (arith, z)) in
      omega (arith, l, e, f)

  pub handed_ledger : IsClass ExactlyOnce test → count_by test n.handed + kept_by n.places test + lost_in n test ≡ given_in n test
  handed_ledger k =
      let l = j.counts test in
      let s = sums_less (IsPlace n.handed) (λ p. by_place test p + kept p) given (λ p i. let h = own_ledger n.handed _ (hidden_of n.handed p i).client test k in omega (arith, h)) n.places j.places in
      let t = sums_less (IsPlace n.handed) given (λ p. by_place test p + kept p) (λ p i. let h = own_ledger n.handed _ (hidden_of n.handed p i).client test k in omega (arith, h)) n.places j.places in
      let v = sums_added (by_place test) kept n.places in
      let o = old_ledger k in
      omega (arith, l, s, t, v, o)

  module _ (r : AllAtRest n) where
    abbrev Resting : Place → Type 0
    Resting p = IsPlace n.handed p × AtRest p

    resting : AllByRecursion Resting n.places
    resting = both (IsPlace n.handed) AtRest n.places j.places (recursion_from_All AtRest n.places r)

    -- once all are at rest, but for what ended sessions took along
    pub handed_exactly : IsClass ExactlyOnce test → count_by test n.handed + lost_in n test ≡ given_in n test
    handed_exactly k =
        let l = j.counts test in
        let s = sums_less Resting given (by_place test) (λ p i. let h = own_exactly n.handed p.client (here_of n.handed p i.0 i.1.here) test (rest_of p i.1) k in omega (arith, h)) n.places resting in
        let t = sums_less Resting (by_place test) given (λ p i. let h = own_exactly n.handed p.client (here_of n.handed p i.0 i.1.here) test (rest_of p i.1) k in omega (arith, h)) n.places resting in
        let o = old_ledger k in
        omega (arith, l, s, t, o)

    pub handed_least : IsClass AtLeastOnce test → given_in n test ≤ count_by test n.handed + unacked_in n test
    handed_least k =
        let l = j.counts test in
        let s = sums_less Resting given (by_place test) (λ p i. let h = own_least n.handed p.client (here_of n.handed p i.0 i.1.here) test (rest_of p i.1) k in omega (arith, h)) n.places resting in
        let o = old_left k in
        omega (arith, l, s, o)

-- ---- both together

-- whatever the subscriptions
pub never_twice : (n : Network) → IsReached n → (p : Place) → Contains n.places p → (test : Publish → Bool) → IsClass ExactlyOnce test → IsNew test → count_by test (shown p.client.session) ≤ given_in n (published test)
never_twice n reached p has test k new =
    let j = joined n reached in
    let h = hidden_of n.handed p (place_of n p j has) in
    let a = shown_most n.handed _ h.client test ExactlyOnce (λ e. absurd cc) k in
    let b = h.client.few test k new in
    let d = handed_most n j (published test) ExactlyOnce (λ e. absurd cc) (published_class ExactlyOnce test k) in
    omega (arith, a, b, d)
