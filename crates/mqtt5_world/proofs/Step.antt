-- What each event keeps, and what it adds to the counts.
use Rattle.std.proofs.Common.{◌≡◌, ◌≢◌, ℕ, zero, suc, ◌+◌, ◌<◌, ◌≤◌, Bool, true, false, cond, ◌&&◌, List, [], ◌∷◌, ◌++◌, count_by, Option, Some, None, refl, sym, ap, ◌∙◌, subst, ⊎_elim, arith}
use Rattle.std.specs.Prelude.{not}
use Rattle.std.specs.FinMap.{get}
use Rattle.std.proofs.lemmas.Bool.{cases_eq, false_from_ne_true}
use Rattle.std.proofs.lemmas.List.Sums.{sum_by-append}
use Rattle.mqtt5_base.specs.declared.quality.QoS.{QoS}
use Rattle.mqtt5_base.specs.declared.quality.QoS.TheVariants.{AtMostOnce, AtLeastOnce, ExactlyOnce}
use Rattle.mqtt5_publish.specs.declared.publish.Publish.{Publish}
use Rattle.mqtt5_codec.specs.declared.packet.Packet.{Packet}
use Rattle.mqtt5_codec.specs.declared.packet.Packet.TheVariants as packets
use Rattle.mqtt5_inflight.specs.declared.slot.Slot.{Slot}
use Rattle.mqtt5_inflight.specs.declared.slot.Slot.TheVariants.{Sent}
use Rattle.mqtt5_inflight.specs.Aliases.{alias_of, alias_over}
use Rattle.mqtt5_session.proofs.Exports.{Sound}
use Rattle.mqtt5_world.specs.World.{World}
use Rattle.mqtt5_world.specs.Delivery.{is_acked, IsClass}
use Rattle.mqtt5_world.proofs.Places.{view_of, Place, place, TokenAt, Turn, turned}

-- ---- sums over ids

abbrev pub sum_to : ℕ → (ℕ → ℕ) → ℕ
sum_to zero f = 0
sum_to (suc n) f = sum_to n f + f (suc n)

pub sum_same : (n : ℕ) (f g : ℕ → ℕ) → ((j : ℕ) → 0 < j → j ≤ n → f j ≡ g j) → sum_to n f ≡ sum_to n g
sum_same zero f g same = refl
sum_same (suc n) f g same =
    let rest = sum_same n f g (λ j a b. same j a (omega arith)) in
    let here = same (suc n) (omega arith) (omega arith) in
    omega (arith, rest, here)

pub sum_turn : (n k : ℕ) (f g : ℕ → ℕ) → 0 < k → k ≤ n → ((j : ℕ) → j ≢ k → f j ≡ g j) → sum_to n f + g k ≡ sum_to n g + f k
sum_turn zero k f g a b same = absurd (omega arith)
sum_turn (suc n) k f g a b same = ⊎_elim
    (λ (e : k ≡ suc n).
    let rest = sum_same n f g (λ j p q. same j (λ x. absurd (omega arith))) in
    let fk = ap f e in
    let gk = ap g e in
    omega (arith, rest, fk, gk))
    (λ (ne : k ≢ suc n).
    let rest = sum_turn n k f g a (omega arith) same in
    let here = same (suc n) (λ x. ne (sym x)) in
    omega (arith, rest, here))
    (cases_eq k (suc n))

pub sum_less : (n : ℕ) (f g : ℕ → ℕ) → ((j : ℕ) → f j ≤ g j) → sum_to n f ≤ sum_to n g
sum_less zero f g le = omega arith
sum_less (suc n) f g le =
    let rest = sum_less n f g le in
    let here = le (suc n) in
    omega (arith, rest, here)

pub sum_none : (n : ℕ) (f : ℕ → ℕ) → ((j : ℕ) → f j ≡ 0) → sum_to n f ≡ 0
sum_none zero f h = refl
sum_none (suc n) f h =
    let a = sum_none n f h in
    let b = h (suc n) in
    omega (arith, a, b)

-- ---- what is counted

abbrev pub one : Bool → ℕ
one b = cond b 1 0

abbrev pub is_sent : (Publish → Bool) → Option Slot → Bool
is_sent test (Some (Sent p)) = test p
is_sent test slot = false

abbrev pub passes : (Publish → Bool) → Option Publish → Bool
passes test None = false
passes test (Some p) = test p

-- whether a publish that awaits its ack is still to be handed on, or (QoS 1) may be once more
abbrev pub is_due : QoS → Bool → List Packet → Bool
is_due AtMostOnce has up = false
is_due AtLeastOnce has [] = false
is_due AtLeastOnce has (x ∷ xs) = true
is_due ExactlyOnce has up = not has

abbrev pub stored_of : (Publish → Bool) → Place → ℕ
stored_of test a = one (is_sent test a.slot)

abbrev pub due_of : QoS → (Publish → Bool) → Place → ℕ
due_of q test a = one (is_sent test a.slot && is_due q a.has a.up)

abbrev pub handed : (Publish → Bool) → World → ℕ
handed test w = count_by test w.broker.handed

abbrev pub accepted : (Publish → Bool) → World → ℕ
accepted test w = count_by test w.accepted

abbrev pub waiting : (Publish → Bool) → World → ℕ
waiting test w = one (passes test w.session.core.waiting)

abbrev pub stored : (Publish → Bool) → World → ℕ
stored test w = sum_to w.session.core.limit (λ id. stored_of test (place (view_of w) id))

abbrev pub due : QoS → (Publish → Bool) → World → ℕ
due q test w = sum_to w.session.core.limit (λ id. due_of q test (place (view_of w) id))

-- ---- publishes on their way up

abbrev pub is_publish : (Publish → Bool) → Packet → Bool
is_publish test (packets.Publish p) = test p
is_publish test other = false

abbrev pub on_way : (Publish → Bool) → List Packet → ℕ
on_way test up = count_by (is_publish test) up

pub way_append : (test : Publish → Bool) (xs ys : List Packet) → on_way test (xs ++ ys) ≡ on_way test xs + on_way test ys
way_append test xs ys = sum_by-append (λ x. cond (is_publish test x) 1 0) xs ys

pub way_push : (test : Publish → Bool) (xs : List Packet) (x : Packet) → on_way test (xs ++ x ∷ []) ≡ on_way test xs + one (is_publish test x)
way_push test xs x = let e = way_append test xs (x ∷ []) in omega (arith, e)

pub way_front : (test : Publish → Bool) (us : List Packet) (x : Packet) (rest : List Packet) → us ≡ x ∷ rest → on_way test us ≡ one (is_publish test x) + on_way test rest
way_front test us x rest e = let a = way_append test (x ∷ []) rest in ap (on_way test) e ∙ omega (arith, a)

pub count_push : (test : Publish → Bool) (ps : List Publish) (p : Publish) → count_by test (ps ++ p ∷ []) ≡ count_by test ps + one (test p)
count_push test ps p = let e = sum_by-append (λ x. cond (test x) 1 0) ps (p ∷ []) in omega (arith, e)

-- ---- what is kept

-- the alias of a publish is within the maximum
abbrev pub Allowed : ℕ → Publish → Type 0
Allowed max p = alias_over max (alias_of p) ≡ None

abbrev pub SlotAllowed : ℕ → Option Slot → Type 0
SlotAllowed max (Some (Sent p)) = Allowed max p
SlotAllowed max slot = Unit {0}

abbrev pub WaitsAllowed : ℕ → Option Publish → Type 0
WaitsAllowed max None = Unit {0}
WaitsAllowed max (Some p) = Allowed max p

-- of every world that is reached
pub record Inv (w : World) : Type 0 where
  pub sound : Sound w.session.core
  pub allowed : (id : ℕ) → SlotAllowed w.session.core.alias_max (get w.session.core.in_use id)
  pub waits : WaitsAllowed w.session.core.alias_max w.session.core.waiting
  pub tokens : (id : ℕ) → TokenAt id (place (view_of w) id)
  pub none : w.faults ≡ []

-- a class of publishes that are acked
pub record AckedClass (q : QoS) (test : Publish → Bool) : Type 0 where
  pub class : IsClass q test
  pub acked : is_acked q ≡ true

-- the counts after a step: what was handed on, is due and waits grows as what was accepted does
pub record Balance (q : QoS) (test : Publish → Bool) (w w' : World) : Type 0 where
  pub kept : handed test w' + due q test w' + waiting test w' + accepted test w ≡ handed test w + due q test w + waiting test w + accepted test w'
  pub spent : waiting test w' + accepted test w ≤ waiting test w + accepted test w'
  pub bounded : stored test w' + waiting test w' + accepted test w ≤ stored test w + waiting test w + accepted test w'

-- of QoS 0: what was handed on and is on its way up grows as what was accepted does
abbrev pub Even : (Publish → Bool) → World → World → Type 0
Even test w w' = handed test w' + on_way test w'.up + accepted test w ≡ handed test w + on_way test w.up + accepted test w'

pub record Step (w w' : World) : Type 0 where
  pub inv : Inv w'
  pub balance : (q : QoS) (test : Publish → Bool) → AckedClass q test → Balance q test w w'
  pub even : (test : Publish → Bool) → IsClass AtMostOnce test → Even test w w'

-- the same where one id alone changes, from a to b
pub record Ledger (q : QoS) (test : Publish → Bool) (w w' : World) (a b : Place) : Type 0 where
  pub kept : handed test w' + due_of q test b + waiting test w' + accepted test w ≡ handed test w + due_of q test a + waiting test w + accepted test w'
  pub spent : waiting test w' + accepted test w ≤ waiting test w + accepted test w'
  pub bounded : stored_of test b + waiting test w' + accepted test w ≤ stored_of test a + waiting test w + accepted test w'

-- what is the same after any event but a loss
pub record Stays (w w' : World) : Type 0 where
  pub sound : Sound w'.session.core
  pub limit : w'.session.core.limit ≡ w.session.core.limit
  pub max : w'.session.core.alias_max ≡ w.session.core.alias_max
  pub none : w'.faults ≡ []
  pub waits : WaitsAllowed w'.session.core.alias_max w'.session.core.waiting

pub record Change (w w' : World) (k : ℕ) (a b : Place) : Type 0 where
  pub stays : Stays w w'
  pub turn : Turn (view_of w) (view_of w') k a b
  pub low : 0 < k
  pub high : k ≤ w.session.core.limit
  pub token : TokenAt k b
  pub allowed : SlotAllowed w'.session.core.alias_max b.slot
  pub ledger : (q : QoS) (test : Publish → Bool) → AckedClass q test → Ledger q test w w' a b
  pub even : (test : Publish → Bool) → IsClass AtMostOnce test → Even test w w'

still_allowed : (w w' : World) → Stays w w' → Inv w → (id : ℕ) → SlotAllowed w'.session.core.alias_max (get w.session.core.in_use id)
still_allowed w w' s i id = subst (λ max. SlotAllowed max (get w.session.core.in_use id)) (sym s.max) (i.allowed id)

-- a sum over ids when one of them changes
sum_changes : (f : Place → ℕ) (w w' : World) {k : ℕ} {a b : Place} → Turn (view_of w) (view_of w') k a b → 0 < k → k ≤ w.session.core.limit → w'.session.core.limit ≡ w.session.core.limit → sum_to w'.session.core.limit (λ id. f (place (view_of w') id)) + f a ≡ sum_to w.session.core.limit (λ id. f (place (view_of w) id)) + f b
sum_changes f w w' {k = k} {a = a} {b = b} t low high same =
    let n = ap (λ n. sum_to n (λ id. f (place (view_of w') id))) same in
    let s = sum_turn w.session.core.limit k (λ id. f (place (view_of w) id)) (λ id. f (place (view_of w') id)) low high (λ j ne. ap f (sym (t.elsewhere j ne))) in
    let x = ap f t.before in
    let y = ap f t.after in
    omega (arith, n, s, x, y)

pub change_step : (w w' : World) (k : ℕ) (a b : Place) → Inv w → Change w w' k a b → Step w w'
change_step w w' k a b i c =
    record {
      inv = record {
        sound = c.stays.sound;
        allowed = turned (λ id (p : Place). SlotAllowed w'.session.core.alias_max p.slot) c.turn c.allowed (still_allowed w w' c.stays i);
        waits = c.stays.waits;
        tokens = turned TokenAt c.turn c.token i.tokens;
        none = c.stays.none;
      };
      balance = λ q test class.
          let l = c.ledger q test class in
          let d = sum_changes (due_of q test) w w' c.turn c.low c.high c.stays.limit in
          let s = sum_changes (stored_of test) w w' c.turn c.low c.high c.stays.limit in
          record { kept = omega (arith, l.kept, d); spent = l.spent; bounded = omega (arith, l.bounded, s) };
      even = c.even;
    }

-- an event that changes no id
pub record Quiet (w w' : World) : Type 0 where
  pub stays : Stays w w'
  pub same : (j : ℕ) → place (view_of w') j ≡ place (view_of w) j
  pub kept : (q : QoS) (test : Publish → Bool) → AckedClass q test → handed test w' + waiting test w' + accepted test w ≡ handed test w + waiting test w + accepted test w'
  pub spent : (q : QoS) (test : Publish → Bool) → AckedClass q test → waiting test w' + accepted test w ≤ waiting test w + accepted test w'
  pub even : (test : Publish → Bool) → IsClass AtMostOnce test → Even test w w'

pub quiet_step : (w w' : World) → Inv w → Quiet w w' → Step w w'
quiet_step w w' i c =
    record {
      inv = record {
        sound = c.stays.sound;
        allowed = λ id. subst (λ (p : Place). SlotAllowed w'.session.core.alias_max p.slot) (sym (c.same id)) (still_allowed w w' c.stays i id);
        waits = c.stays.waits;
        tokens = λ id. subst (TokenAt id) (sym (c.same id)) (i.tokens id);
        none = c.stays.none;
      };
      balance = λ q test class.
          let d = all (due_of q test) in
          let t = all (stored_of test) in
          let k = c.kept q test class in
          let p = c.spent q test class in
          record { kept = omega (arith, k, d); spent = p; bounded = omega (arith, p, t) };
      even = c.even;
    }
  where
    all : (f : Place → ℕ) → sum_to w'.session.core.limit (λ id. f (place (view_of w') id)) ≡ sum_to w.session.core.limit (λ id. f (place (view_of w) id))
    all f = ap (λ n. sum_to n (λ id. f (place (view_of w') id))) c.stays.limit ∙ sum_same w.session.core.limit (λ id. f (place (view_of w') id)) (λ id. f (place (view_of w) id)) (λ j _ _. ap f (c.same j))

-- ---- classes

pub of_other : {q : QoS} {test : Publish → Bool} (r : QoS) → AckedClass q test → (p : Publish) → p.qos ≡ r → (q ≡ r → ⊥) → test p ≡ false
of_other {test = test} r c p e ne = false_from_ne_true (test p) (λ h. ne (sym (c.class.of_qos p h) ∙ e))

-- a publish that is acked isn't of QoS 0
pub of_acked : {test : Publish → Bool} → IsClass AtMostOnce test → (p : Publish) → is_acked p.qos ≡ true → test p ≡ false
of_acked {test = test} c p acked = false_from_ne_true (test p) (λ h. let e : is_acked p.qos ≡ false = ap is_acked (c.of_qos p h) in absurd cc)

pub and_no : (b : Bool) → (b && false) ≡ false
and_no true = refl
and_no false = refl

pub and_yes : (b : Bool) → (b && true) ≡ b
and_yes true = refl
and_yes false = refl
