-- How often a class is among what is forwarded of publishes that are handed on.
use Rattle.std.proofs.Common.{◌≡◌, ℕ, ◌+◌, ◌≤◌, Bool, true, false, cond, ◌&&◌, List, [], ◌∷◌, ◌++◌, count_by, Option, Some, None, refl, sym, ap, ◌∙◌, arith}
use Rattle.std.specs.Prelude.{option_map}
use Rattle.std.specs.List.{filter_map, cons_option}
use Rattle.std.proofs.lemmas.List.Sums.{sum_by-cons, sum_by-append}
use Rattle.mqtt5_base.specs.declared.quality.QoS.{QoS}
use Rattle.mqtt5_base.specs.declared.quality.QoS.TheVariants.{AtMostOnce, AtLeastOnce, ExactlyOnce}
use Rattle.mqtt5_publish.specs.declared.publish.Publish.{Publish}
use Rattle.mqtt5_world.specs.Delivery.{IsClass}
use Rattle.mqtt5_world.proofs.Step.{one}
use Rattle.mqtt5_network.specs.Forwarded.{lesser, forwarded, passes}
use Rattle.mqtt5_network.specs.declared.subscription.Subscription.{Subscription}
use Rattle.mqtt5_network.specs.Subscriptions.{granted_for, holding, identifiers_of, keep_retain, forwarded_under, forwarded_to}
use Rattle.mqtt5_network.specs.Granted.{published, IsNew}

-- ---- counts

pub count_here : (test : Publish → Bool) (p : Publish) (ps : List Publish) → count_by test (p ∷ ps) ≡ one (test p) + count_by test ps
count_here test p ps = sum_by-cons (λ x. cond (test x) 1 0) p ps

pub count_both : (test : Publish → Bool) (xs ys : List Publish) → count_by test (xs ++ ys) ≡ count_by test xs + count_by test ys
count_both test xs ys = sum_by-append (λ x. cond (test x) 1 0) xs ys

-- of what is forwarded at QoS 2, QoS 2 was granted
pub two_granted : (q g : QoS) → lesser q g ≡ ExactlyOnce → g ≡ ExactlyOnce
two_granted AtMostOnce g e = absurd cc
two_granted AtLeastOnce AtMostOnce e = absurd cc
two_granted AtLeastOnce AtLeastOnce e = absurd cc
two_granted AtLeastOnce ExactlyOnce e = refl
two_granted ExactlyOnce g e = e

-- QoS 2 lowers none
pub lesser_two : (q : QoS) → lesser q ExactlyOnce ≡ q
lesser_two AtMostOnce = refl
lesser_two AtLeastOnce = refl
lesser_two ExactlyOnce = refl

-- a class of one QoS is one of that QoS as it is published
pub published_class : (q : QoS) (test : Publish → Bool) → IsClass q test → IsClass q (published test)
published_class q test k = record { of_qos = λ p h. sym (lesser_two p.qos) ∙ k.of_qos (forwarded ExactlyOnce p) h; blind = λ p id. refl; blind_again = λ p. refl }

-- of a class of new messages it is forwarded so without its retain and without identifiers
pub under_plain : (test : Publish → Bool) → IsNew test → (ss : List Subscription) (q : QoS) (p : Publish) → test (forwarded_under ss q p) ≡ true → test (forwarded q p) ≡ true
under_plain test new ss q p e =
    let b : Bool = p.retain && keep_retain ss in
    let x : Publish = record (forwarded q p) { retain = b } in
    let h : test x ≡ true = sym (new.blind x (identifiers_of ss)) ∙ e in
    ap (λ r. test (record (forwarded q p) { retain = r })) (sym (new.retain x h)) ∙ h

module _ (test : Publish → Bool) (own : Bool) (ss : List Subscription) where
  -- a publish as it is forwarded
  abbrev under : Publish → QoS → Publish
  under p q = forwarded_under (holding own ss p) q p

  -- whether one is forwarded as one of the class
  abbrev fits : Publish → Option QoS → ℕ
  fits p o = count_by test (cons_option (option_map (under p) o) [])

  fits_more : (p : Publish) (o : Option QoS) (ps : List Publish) → count_by test (cons_option (option_map (under p) o) ps) ≡ fits p o + count_by test ps
  fits_more p None ps = omega arith
  fits_more p (Some q) ps = let a = count_here test (under p q) ps in let b = count_here test (under p q) [] in omega (arith, a, b)

  -- how many are, by those that are handed on
  fits_one : (p : Publish) (o : Option QoS) → fits p o ≡ one (passes test (option_map (under p) o))
  fits_one p None = refl
  fits_one p (Some q) = let a = count_here test (under p q) [] in omega (arith, a)

  pub forwarded_kind : (kind : Publish → Bool) → ((p : Publish) → passes test (forwarded_to own ss p) ≡ kind p) → (ps : List Publish) → count_by test (filter_map (forwarded_to own ss) ps) ≡ count_by kind ps
  forwarded_kind kind reaches [] = refl
  forwarded_kind kind reaches (p ∷ ps) =
      let a = count_here kind p ps in
      let b = fits_more p (granted_for own ss p) (filter_map (forwarded_to own ss) ps) in
      let c = fits_one p (granted_for own ss p) ∙ ap one (reaches p) in
      let r = forwarded_kind kind reaches ps in
      omega (arith, a, b, c, r)

  -- where each of the class is forwarded as one of it, it is each of them at least
  pub forwarded_least : ((p : Publish) → published test p ≡ true → passes test (forwarded_to own ss p) ≡ true) → (ps : List Publish) → count_by (published test) ps ≤ count_by test (filter_map (forwarded_to own ss) ps)
  forwarded_least grants [] = omega arith
  forwarded_least grants (p ∷ ps) =
      let a = count_here (published test) p ps in
      let b = fits_more p (granted_for own ss p) (filter_map (forwarded_to own ss) ps) in
      let c = by (published test p) refl in
      let r = forwarded_least grants ps in
      omega (arith, a, b, c, r)
    where
      by : (b : Bool) → published test p ≡ b → one (published test p) ≤ fits p (granted_for own ss p)
      by false e = let z = ap one e in omega (arith, z)
      by true e =
          let z = ap one e in
          let y = fits_one p (granted_for own ss p) ∙ ap one (grants p e) in
          omega (arith, z, y)

  module _ (k : IsClass ExactlyOnce test) (new : IsNew test) where
    -- of a class of new messages of QoS 2 it is at most each of them
    fits_few : (p : Publish) (o : Option QoS) → fits p o ≤ one (published test p)
    fits_few p None = omega arith
    fits_few p (Some q) = by (test (under p q)) refl
      where
        by : (b : Bool) → test (under p q) ≡ b → fits p (Some q) ≤ one (published test p)
        by false e = let a = count_here test (under p q) [] in let b = ap one e in omega (arith, a, b)
        by true e =
            let a = count_here test (under p q) [] in
            let b = ap one e in
            let h = under_plain test new (holding own ss p) q p e in
            let c = ap one (ap (λ g. test (forwarded g p)) (sym (two_granted p.qos q (k.of_qos (forwarded q p) h))) ∙ h) in
            omega (arith, a, b, c)

    pub forwarded_few : (ps : List Publish) → count_by test (filter_map (forwarded_to own ss) ps) ≤ count_by (published test) ps
    forwarded_few [] = omega arith
    forwarded_few (p ∷ ps) =
        let a = count_here (published test) p ps in
        let b = fits_more p (granted_for own ss p) (filter_map (forwarded_to own ss) ps) in
        let c = fits_few p (granted_for own ss p) in
        let r = forwarded_few ps in
        omega (arith, a, b, c, r)

    -- where none is granted, none of them
    pub forwarded_none : ((p : Publish) → published test p ≡ true → granted_for own ss p ≡ None) → (ps : List Publish) → count_by test (filter_map (forwarded_to own ss) ps) ≡ 0
    forwarded_none grants [] = refl
    forwarded_none grants (p ∷ ps) =
        let b = fits_more p (granted_for own ss p) (filter_map (forwarded_to own ss) ps) in
        let c = by (published test p) refl in
        let r = forwarded_none grants ps in
        omega (arith, b, c, r)
      where
        by : (b : Bool) → published test p ≡ b → fits p (granted_for own ss p) ≡ 0
        by false e = let l = fits_few p (granted_for own ss p) in let z = ap one e in omega (arith, l, z)
        by true e = ap (fits p) (grants p e)
