-- What reading by parts answers, from what each part does.
use Rattle.std.proofs.Common.{◌≡◌, ℕ, ◌<◌, ◌≤◌, Bool, true, false, cond, ltb, List, Result, Ok, Err, ◌⊎◌, inl, inr, refl, sym, ap}
use Rattle.std.proofs.lemmas.Bool.{ltb-true, ltb-false, lt-ltb, le-ltb}
use Rattle.std.proofs.Math.Logic.{◌↔◌}
use Rattle.mqtt5_base.specs.declared.error.Error.{Error}
use Rattle.mqtt5_base.specs.Reading.{◌>>=◌}
use Rattle.mqtt5_base.specs.Fields.{Takes}
use Rattle.mqtt5_base.specs.Laws.{Reads, ExactlyOne}

-- the value of an answer, or another
ok_or : {Y : Type 0} → Y → Result Y Error → Y
ok_or d (Ok x) = x
ok_or d (Err e) = d

-- the fault of an answer, or another
error_or : {Y : Type 0} → Error → Result Y Error → Error
error_or d (Ok x) = d
error_or d (Err e) = e

-- an answer that is a value
abbrev gives : {Y : Type 0} → Y → Result Y Error
gives x = Ok x

-- an answer that is a fault
abbrev fails : {Y : Type 0} → Error → Result Y Error
fails e = Err e

-- a value that is answered is one
pub same_ok : {Y : Type 0} (x y : Y) → gives x ≡ gives y → x ≡ y
unfolding ok_or
same_ok x y e = ap (ok_or x) e

-- a fault that is answered is one
pub same_error : {Y : Type 0} (e d : Error) → fails {Y = Y} e ≡ fails d → e ≡ d
unfolding error_or
same_error e d h = ap (error_or e) h

-- no answer is both
pub not_both : {Y : Type 0} (x : Y) (e : Error) → gives x ≡ fails e → ⊥
not_both x e h = absurd cc

-- ---- answers

-- a value alone
pub reads_ok : {Y : Type 0} (x : Y) → Reads (Ok x) (λ y. y ≡ x) (λ e. ⊥)
reads_ok x = record {
  value = λ y. (λ e. sym (same_ok x y e), λ e. ap gives (sym e));
  fault = λ e. (λ h. not_both x e h, λ h. absurd h);
}

-- a fault alone
pub reads_err : {Y : Type 0} (e : Error) → Reads {X = Y} (Err e) (λ y. ⊥) (λ d. d ≡ e)
reads_err {Y} e = record {
  value = λ y. (λ h. not_both y e (sym h), λ h. absurd h);
  fault = λ d. (λ h. sym (same_error {Y = Y} e d h), λ h. ap fails (sym h));
}

-- the same said otherwise
pub reads_like : {Y : Type 0} {r : Result Y Error} {P Q : Y → Type 0} {F G : Error → Type 0} → Reads r P F → ((y : Y) → P y ↔ Q y) → ((e : Error) → F e ↔ G e) → Reads r Q G
reads_like h v f = record {
  value = λ y. (λ e. (v y).0 ((h.value y).0 e), λ q. (h.value y).1 ((v y).1 q));
  fault = λ d. (λ e. (f d).0 ((h.fault d).0 e), λ g. (h.fault d).1 ((f d).1 g));
}

-- its values said otherwise
pub reads_values : {Y : Type 0} {r : Result Y Error} {P Q : Y → Type 0} {F : Error → Type 0} → Reads r P F → ((y : Y) → P y ↔ Q y) → Reads r Q F
reads_values h v = reads_like h v (λ e. (λ f. f, λ f. f))

-- exactly one of the value and the fault
pub reads_one : {Y : Type 0} (r : Result Y Error) {P : Y → Type 0} {F : Error → Type 0} → Reads r P F → ExactlyOne P F
reads_one (Ok x) h = inl (x, (h.value x).0 refl, (λ y p. sym (same_ok x y ((h.value y).1 p))), λ e f. not_both x e ((h.fault e).1 f))
reads_one {Y} (Err d) h = inr (d, (h.fault d).0 refl, (λ e f. sym (same_error {Y = Y} d e ((h.fault e).1 f))), λ x p. not_both x d (sym ((h.value x).1 p)))

-- ---- one after the other

-- a value of both is one of the first and then of the second
bind_found : {X Y : Type 0} (r : Result X Error) (f : X → Result Y Error) (y : Y) → (r >>= f) ≡ Ok y → (x : X) × (r ≡ Ok x) × (f x ≡ Ok y)
bind_found (Ok x) f y e = (x, refl, e)
bind_found (Err w) f y e = absurd cc

-- a fault of both is one of the first, or of the second after a value
bind_wrong : {X Y : Type 0} (r : Result X Error) (f : X → Result Y Error) (e : Error) → (r >>= f) ≡ Err e → (r ≡ Err e) ⊎ ((x : X) × (r ≡ Ok x) × (f x ≡ Err e))
bind_wrong (Ok x) f e h = inr (x, refl, h)
bind_wrong {X} {Y} (Err d) f e h = inl (ap (λ z. fails z) (same_error {Y = Y} d e h))

-- a value, and what is read under it
pub reads_bind : {X Y : Type 0} {r : Result X Error} {P : X → Type 0} {F : Error → Type 0} (f : X → Result Y Error) (Q : X → Y → Type 0) (G : X → Error → Type 0) → Reads r P F → ((x : X) → P x → Reads (f x) (Q x) (G x))
    → Reads (r >>= f) (λ y. (x : X) × P x × Q x y) (λ e. F e ⊎ ((x : X) × P x × G x e))
reads_bind {X} {Y} {r} {P} {F} f Q G h k = record { value = λ y. (found y, holds y); fault = λ e. (λ z. wrong e (bind_wrong r f e z), first e) }
  where
    found : (y : Y) → (r >>= f) ≡ Ok y → (x : X) × P x × Q x y
    found y e = let b = bind_found r f y e in let p = (h.value b.0).0 b.1 in (b.0, p, ((k b.0 p).value y).0 b.2)

    holds : (y : Y) → (x : X) × P x × Q x y → (r >>= f) ≡ Ok y
    holds y p = rw ((h.value p.0).1 p.1) (((k p.0 p.1).value y).1 p.2)

    wrong : (e : Error) → (r ≡ Err e) ⊎ ((x : X) × (r ≡ Ok x) × (f x ≡ Err e)) → F e ⊎ ((x : X) × P x × G x e)
    wrong e (inl z) = inl ((h.fault e).0 z)
    wrong e (inr z) = let p = (h.value z.0).0 z.1 in inr (z.0, p, ((k z.0 p).fault e).0 z.2)

    first : (e : Error) → F e ⊎ ((x : X) × P x × G x e) → (r >>= f) ≡ Err e
    first e (inl z) = rw ((h.fault e).1 z) refl
    first e (inr z) = rw ((h.value z.0).1 z.1) (((k z.0 z.1).fault e).1 z.2)

-- a value and the bytes after it, and what is read there
pub reads_then : {X Y : Type 0} {r : Result (X × List ℕ) Error} {F : Error → Type 0} (f : X × List ℕ → Result Y Error) (P : X → List ℕ → Type 0) (Q : X → List ℕ → Y → Type 0) (G : X → List ℕ → Error → Type 0) → Reads r (λ x. P x.0 x.1) F → ((x : X) (bs : List ℕ) → P x bs → Reads (f (x, bs)) (Q x bs) (G x bs))
    → Reads (r >>= f) (λ y. (x : X) × (bs : List ℕ) × P x bs × Q x bs y) (λ e. F e ⊎ ((x : X) × (bs : List ℕ) × P x bs × G x bs e))
reads_then {X} {Y} {r} {F} f P Q G h k = reads_like (reads_bind f (λ x. Q x.0 x.1) (λ x. G x.0 x.1) h (λ x p. k x.0 x.1 p))
    (λ y. (λ p. (p.0.0, p.0.1, p.1, p.2), λ p. ((p.0, p.1), p.2, p.3)))
    (λ e. (to e, from e))
  where
    to : (e : Error) → F e ⊎ ((x : X × List ℕ) × P x.0 x.1 × G x.0 x.1 e) → F e ⊎ ((x : X) × (bs : List ℕ) × P x bs × G x bs e)
    to e (inl z) = inl z
    to e (inr z) = inr (z.0.0, z.0.1, z.1, z.2)

    from : (e : Error) → F e ⊎ ((x : X) × (bs : List ℕ) × P x bs × G x bs e) → F e ⊎ ((x : X × List ℕ) × P x.0 x.1 × G x.0 x.1 e)
    from e (inl z) = inl z
    from e (inr z) = inr ((z.0, z.1), z.2, z.3)

-- a judgement of what is known, and what is read under it
pub reads_after : {X Y : Type 0} {r : Result X Error} {C : Type 0} {F : Error → Type 0} (a : X) (s : Result Y Error) (Q : Y → Type 0) (G : Error → Type 0) → Reads r (λ x. C × (x ≡ a)) F → Reads s Q G
    → Reads (r >>= λ x. s) (λ y. C × Q y) (λ e. F e ⊎ (C × G e))
reads_after {X} {Y} {r} {C} {F} a s Q G h k = reads_like (reads_bind (λ x. s) (λ x. Q) (λ x. G) h (λ x _. k))
    (λ y. (λ p. (p.1.0, p.2), λ p. (a, (p.0, refl), p.1)))
    (λ e. (to e, from e))
  where
    to : (e : Error) → F e ⊎ ((x : X) × (C × (x ≡ a)) × G e) → F e ⊎ (C × G e)
    to e (inl z) = inl z
    to e (inr z) = inr (z.1.0, z.2)

    from : (e : Error) → F e ⊎ (C × G e) → F e ⊎ ((x : X) × (C × (x ≡ a)) × G e)
    from e (inl z) = inl z
    from e (inr z) = inr (a, (z.0, refl), z.1)

-- what is made of a value
pub reads_map : {X Y : Type 0} {r : Result X Error} {P : X → Type 0} {F : Error → Type 0} (g : X → Y) → Reads r P F → Reads (r >>= λ x. Ok (g x)) (λ y. (x : X) × P x × (y ≡ g x)) F
reads_map {X} {Y} {r} {P} {F} g h = reads_like (reads_bind (λ x. Ok (g x)) (λ x y. y ≡ g x) (λ x e. ⊥) h (λ x _. reads_ok (g x))) (λ y. (λ p. p, λ p. p)) (λ e. (to e, λ z. inl z))
  where
    to : (e : Error) → F e ⊎ ((x : X) × P x × ⊥) → F e
    to e (inl z) = z
    to e (inr z) = absurd z.2

-- a value before bytes, seen otherwise
abbrev pub seen : {X Y : Type 0} → (X → Y) → Result (X × List ℕ) Error → Result (Y × List ℕ) Error
seen g r = r >>= λ x. Ok (g x.0, x.1)

-- what is made of a value before bytes
pub reads_seen : {X Y : Type 0} {r : Result (X × List ℕ) Error} {F : Error → Type 0} (g : X → Y) (P : X → List ℕ → Type 0) → Reads r (λ x. P x.0 x.1) F → Reads (seen g r) (λ y. (x : X) × P x y.1 × (y.0 ≡ g x)) F
reads_seen g P h = reads_values (reads_map (λ x. (g x.0, x.1)) h)
    (λ y. (λ p. (p.0.0, rw (ap (λ z. z.1) p.2) p.1, ap (λ z. z.0) p.2), λ p. ((p.0, y.1), p.1, λ i. (p.2 i, y.1))))

-- bytes that are seen as a value
pub reads_as : {X Y : Type 0} {r : Result (X × List ℕ) Error} {F : Error → Type 0} (g : X → Y) (Q : List ℕ → X → Type 0) (bs : List ℕ) → Reads r (λ x. Takes (λ front. Q front x.0) bs x.1) F
    → Reads (seen g r) (λ y. Takes (λ front. (x : X) × Q front x × (y.0 ≡ g x)) bs y.1) F
reads_as g Q bs h = reads_values (reads_seen g (λ x after. Takes (λ front. Q front x) bs after) h)
    (λ y. (λ p. (p.1.0, p.1.1, (p.0, p.1.2, p.2)), λ q. (q.2.0, (q.0, q.1, q.2.1), q.2.2)))

-- ---- tests

-- a value, where a test holds
pub reads_if : {Y : Type 0} (b : Bool) (x : Y) (e : Error) → Reads (cond b (Ok x) (Err e)) (λ y. (b ≡ true) × (y ≡ x)) (λ d. (b ≡ false) × (d ≡ e))
reads_if {Y} true x e = reads_like (reads_ok x) (λ y. (λ p. (refl, p), λ p. p.1)) (λ d. (λ f. absurd f, λ p. absurd cc))
reads_if {Y} false x e = reads_like (reads_err e) (λ y. (λ f. absurd f, λ p. absurd cc)) (λ d. (λ p. (refl, p), λ p. p.1))

-- more, where a test holds
pub reads_guard : {Y : Type 0} (b : Bool) {r : Result Y Error} {P : Y → Type 0} {F : Error → Type 0} (e : Error) → Reads r P F → Reads (cond b r (Err e)) (λ y. (b ≡ true) × P y) (λ d. ((b ≡ false) × (d ≡ e)) ⊎ ((b ≡ true) × F d))
reads_guard {Y} true {r} {P} {F} e h = reads_like h (λ y. (λ p. (refl, p), λ p. p.1)) (λ d. ((λ f. inr (refl, f)), from d))
  where
    from : (d : Error) → ((true ≡ false) × (d ≡ e)) ⊎ ((true ≡ true) × F d) → F d
    from d (inl z) = absurd cc
    from d (inr z) = z.1
reads_guard {Y} false {r} {P} {F} e h = reads_like (reads_err e) (λ y. (λ f. absurd f, λ p. absurd cc)) (λ d. ((λ p. inl (refl, p)), from d))
  where
    from : (d : Error) → ((false ≡ false) × (d ≡ e)) ⊎ ((false ≡ true) × F d) → d ≡ e
    from d (inl z) = z.1
    from d (inr z) = absurd cc

-- more, unless a test holds
pub reads_unless : {Y : Type 0} (b : Bool) {r : Result Y Error} {P : Y → Type 0} {F : Error → Type 0} (e : Error) → Reads r P F → Reads (cond b (Err e) r) (λ y. (b ≡ false) × P y) (λ d. ((b ≡ true) × (d ≡ e)) ⊎ ((b ≡ false) × F d))
reads_unless {Y} false {r} {P} {F} e h = reads_like h (λ y. (λ p. (refl, p), λ p. p.1)) (λ d. ((λ f. inr (refl, f)), from d))
  where
    from : (d : Error) → ((false ≡ true) × (d ≡ e)) ⊎ ((false ≡ false) × F d) → F d
    from d (inl z) = absurd cc
    from d (inr z) = z.1
reads_unless {Y} true {r} {P} {F} e h = reads_like (reads_err e) (λ y. (λ f. absurd f, λ p. absurd cc)) (λ d. ((λ p. inl (refl, p)), from d))
  where
    from : (d : Error) → ((true ≡ true) × (d ≡ e)) ⊎ ((true ≡ false) × F d) → d ≡ e
    from d (inl z) = z.1
    from d (inr z) = absurd cc

-- more, where that much is there
pub reads_long : {Y : Type 0} (a b : ℕ) {r : Result Y Error} {P : Y → Type 0} {F : Error → Type 0} (e : Error) → Reads r P F → Reads (cond (ltb a b) (Err e) r) (λ y. (b ≤ a) × P y) (λ d. ((a < b) × (d ≡ e)) ⊎ ((b ≤ a) × F d))
reads_long {Y} a b {r} {P} {F} e h = reads_like (reads_unless (ltb a b) e h) (λ y. (λ p. (ltb-false a b p.0, p.1), λ p. (le-ltb a b p.0, p.1))) (λ d. (to d, from d))
  where
    to : (d : Error) → ((ltb a b ≡ true) × (d ≡ e)) ⊎ ((ltb a b ≡ false) × F d) → ((a < b) × (d ≡ e)) ⊎ ((b ≤ a) × F d)
    to d (inl z) = inl (ltb-true a b z.0, z.1)
    to d (inr z) = inr (ltb-false a b z.0, z.1)

    from : (d : Error) → ((a < b) × (d ≡ e)) ⊎ ((b ≤ a) × F d) → ((ltb a b ≡ true) × (d ≡ e)) ⊎ ((ltb a b ≡ false) × F d)
    from d (inl z) = inl (lt-ltb a b z.0, z.1)
    from d (inr z) = inr (le-ltb a b z.0, z.1)

-- a value, where that much is there
pub reads_enough : {Y : Type 0} (a b : ℕ) (x : Y) (e : Error) → Reads (cond (ltb a b) (Err e) (Ok x)) (λ y. (b ≤ a) × (y ≡ x)) (λ d. (a < b) × (d ≡ e))
reads_enough {Y} a b x e = reads_like (reads_long a b e (reads_ok x)) (λ y. (λ p. p, λ p. p)) (λ d. (to d, λ z. inl z))
  where
    to : (d : Error) → ((a < b) × (d ≡ e)) ⊎ ((b ≤ a) × ⊥) → (a < b) × (d ≡ e)
    to d (inl z) = z
    to d (inr z) = absurd z.1
