-- A publish reaches a subscriber by its content alone.
use Rattle.std.proofs.Common.{◌≡◌, ℕ, ◌+◌, ◌≤◌, Bool, true, false, cond, List, [], ◌∷◌, filter, count_by, refl, sym, ap, ◌∙◌, subst, arith}
use Rattle.std.proofs.lemmas.Bool.{false_from_ne_true}
use Rattle.std.proofs.lemmas.List.Sums.{sum_by-cons}
use Rattle.mqtt5_base.specs.declared.quality.QoS.{QoS}
use Rattle.mqtt5_base.specs.declared.quality.QoS.TheVariants.{AtLeastOnce, ExactlyOnce}
use Rattle.mqtt5_base.specs.Texts.{Utf8}
use Rattle.mqtt5_publish.specs.declared.publish.Publish.{Publish}
use Rattle.mqtt5_world.specs.declared.event.WorldEvent.{WorldEvent}
use Rattle.mqtt5_world.specs.World.{start, run_world}
use Rattle.mqtt5_world.specs.Delivery.{IsClass, has_content, times}
use Rattle.mqtt5_world.proofs.Step.{one}
use Rattle.mqtt5_world.proofs.Contents.{content_class, content_decides}
use Rattle.mqtt5_progress.specs.Progress.{settle}
use Rattle.mqtt5_progress.specs.Late.{run_late, settle_late, start_late}
use Rattle.mqtt5_progress.specs.Subscribers.{hits, received}
use Rattle.mqtt5_progress.proofs.Counted as counted
use Rattle.mqtt5_progress.proofs.Later as later

-- a filter that treats all that pass a test alike takes all of them or none
module _ (test chosen : Publish → Bool) where
  count_here : (p : Publish) (ps : List Publish) → count_by test (p ∷ ps) ≡ one (test p) + count_by test ps
  count_here p ps = sum_by-cons (λ x. cond (test x) 1 0) p ps

  all_by : (p : Publish) (ps : List Publish) → (test p ≡ true → chosen p ≡ true) → count_by test (filter chosen ps) ≡ count_by test ps → (b : Bool) → chosen p ≡ b → count_by test (cond b (p ∷ filter chosen ps) (filter chosen ps)) ≡ count_by test (p ∷ ps)
  all_by p ps same rest true e =
      let x = count_here p (filter chosen ps) in
      let y = count_here p ps in
      omega (arith, rest, x, y)
  all_by p ps same rest false e =
      let y = count_here p ps in
      let z = ap one (false_from_ne_true (test p) (λ t. let s = same t in absurd cc)) in
      omega (arith, rest, y, z)

  all_chosen : ((p : Publish) → test p ≡ true → chosen p ≡ true) → (ps : List Publish) → count_by test (filter chosen ps) ≡ count_by test ps
  all_chosen same [] = refl
  all_chosen same (p ∷ ps) = all_by p ps (same p) (all_chosen same ps) (chosen p) refl

  none_by : (p : Publish) (ps : List Publish) → (test p ≡ true → chosen p ≡ false) → count_by test (filter chosen ps) ≡ 0 → (b : Bool) → chosen p ≡ b → count_by test (cond b (p ∷ filter chosen ps) (filter chosen ps)) ≡ 0
  none_by p ps same rest true e =
      let x = count_here p (filter chosen ps) in
      let z = ap one (false_from_ne_true (test p) (λ t. let s = same t in absurd cc)) in
      omega (arith, rest, x, z)
  none_by p ps same rest false e = rest

  none_chosen : ((p : Publish) → test p ≡ true → chosen p ≡ false) → (ps : List Publish) → count_by test (filter chosen ps) ≡ 0
  none_chosen same [] = refl
  none_chosen same (p ∷ ps) = none_by p ps (same p) (none_chosen same ps) (chosen p) refl

  chosen_alike : (b : Bool) → ((p : Publish) → test p ≡ true → chosen p ≡ b) → (ps : List Publish) → count_by test (filter chosen ps) ≡ cond b (count_by test ps) 0
  chosen_alike true same ps = all_chosen same ps
  chosen_alike false same ps = none_chosen same ps

-- the topic is the content's
module _ (filters : List Utf8) (c : Publish) where
  pub reach : (handed : List Publish) → times c (received filters handed) ≡ cond (hits filters c) (times c handed) 0
  reach handed = chosen_alike (has_content c) (hits filters) (hits filters c) (λ p t. ap (hits filters) ((content_decides c p).0 t)) handed

  pub no_other : (handed : List Publish) → hits filters c ≡ false → times c (received filters handed) ≡ 0
  no_other handed e = reach handed ∙ ap (λ b. cond b (times c handed) 0) e

  all_reach : (handed : List Publish) → hits filters c ≡ true → times c (received filters handed) ≡ times c handed
  all_reach handed e = reach handed ∙ ap (λ b. cond b (times c handed) 0) e

-- ---- after four rounds

class_of : (c : Publish) (q : QoS) → c.qos ≡ q → IsClass q (has_content c)
class_of c q e = subst (λ q. IsClass q (has_content c)) e (content_class c)

module _ (filters : List Utf8) (limit : ℕ) (es : List WorldEvent) (c : Publish) (hit : hits filters c ≡ true) where
  pub exactly : c.qos ≡ ExactlyOnce → times c (received filters (settle 4 (run_world es (start limit))).broker.handed) ≡ times c (run_world es (start limit)).accepted
  exactly q = all_reach filters c (settle 4 (run_world es (start limit))).broker.handed hit ∙ counted.exactly (has_content c) limit es (class_of c ExactlyOnce q)

  pub least : c.qos ≡ AtLeastOnce → times c (run_world es (start limit)).accepted ≤ times c (received filters (settle 4 (run_world es (start limit))).broker.handed)
  least q =
      let r = all_reach filters c (settle 4 (run_world es (start limit))).broker.handed hit in
      let l = counted.least (has_content c) limit es (class_of c AtLeastOnce q) in
      omega (arith, r, l)

  pub late_exactly : c.qos ≡ ExactlyOnce → times c (received filters (settle_late 4 (run_late es (start_late limit))).broker.handed) ≡ times c (run_late es (start_late limit)).around.accepted
  late_exactly q = all_reach filters c (settle_late 4 (run_late es (start_late limit))).broker.handed hit ∙ later.exactly limit es (has_content c) (class_of c ExactlyOnce q)

  pub late_least : c.qos ≡ AtLeastOnce → times c (run_late es (start_late limit)).around.accepted ≤ times c (received filters (settle_late 4 (run_late es (start_late limit))).broker.handed)
  late_least q =
      let r = all_reach filters c (settle_late 4 (run_late es (start_late limit))).broker.handed hit in
      let l = later.least limit es (has_content c) (class_of c AtLeastOnce q) in
      omega (arith, r, l)
