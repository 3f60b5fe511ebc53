-- What the ids give by rising id, where those in use are walked one after another.
use Rattle.std.proofs.Common.{◌≡◌, ℕ, zero, suc, ◌<◌, ◌≤◌, List, [], ◌∷◌, ◌++◌, Option, Some, None, sym, ap, ◌∙◌, inl, inr, arith, append_assoc, append-nil}
use Rattle.std.proofs.Math.Nat.{eq-or-lt_of_le}
use Rattle.std.specs.Prelude.{slice_get}
use Rattle.std.specs.FinMap.{get}
use Rattle.mqtt5_inflight.specs.declared.slot.Slot.{Slot}
use Rattle.mqtt5_inflight.specs.InUse.{InUse}
use Rattle.mqtt5_inflight.specs.Unacked.{by_id}

module _ {A : Type 0} (f : ℕ → Option Slot → List A) (none : (k : ℕ) → f k None ≡ []) (h : InUse) where
  -- ids that are free give nothing
  pub by_id_free : (n m : ℕ) → m ≤ n → ((q : ℕ) → m < q → q ≤ n → get h q ≡ None) → by_id f n h ≡ by_id f m h
  by_id_free zero m low free = let e : 0 ≡ m = omega arith in ap (λ k. by_id f k h) e
  by_id_free (suc n) m low free = elim (eq-or-lt_of_le low) [
    | inl e ↦ ap (λ k. by_id f k h) (sym e)
    | inr lt ↦
        ap (λ l. by_id f n h ++ l) (ap (f (suc n)) (free (suc n) (omega arith) (omega arith)) ∙ none (suc n))
        ∙ append-nil (by_id f n h)
        ∙ by_id_free n m (omega arith) (λ q a b. free q a (omega arith))
  ]

  -- the next id in use
  pub by_id_next : (id m : ℕ) → m < id → ((q : ℕ) → m < q → q < id → get h q ≡ None) → by_id f id h ≡ by_id f m h ++ f id (get h id)
  by_id_next zero m low free = absurd (omega arith)
  by_id_next (suc n) m low free = ap (λ l. l ++ f (suc n) (get h (suc n))) (by_id_free n m (omega arith) (λ q a b. free q a (omega arith)))

  grows : (n m : ℕ) → m ≤ n → (rest : List A) × (by_id f n h ≡ by_id f m h ++ rest)
  grows zero m low = let e : 0 ≡ m = omega arith in ([], ap (λ k. by_id f k h) e ∙ sym (append-nil (by_id f m h)))
  grows (suc n) m low = elim (eq-or-lt_of_le low) [
    | inl e ↦ ([], ap (λ k. by_id f k h) (sym e) ∙ sym (append-nil (by_id f m h)))
    | inr lt ↦
        let r = grows n m (omega arith) in
        (r.0 ++ f (suc n) (get h (suc n)), ap (λ l. l ++ f (suc n) (get h (suc n))) r.1 ∙ append_assoc (by_id f m h) r.0 _)
  ]

  -- the first that an id gives
  pub by_id_first : (n m id : ℕ) (x : A) → by_id f m h ≡ [] → m < id → id ≤ n → ((q : ℕ) → m < q → q < id → get h q ≡ None) → f id (get h id) ≡ x ∷ [] → slice_get (by_id f n h) 0 ≡ Some x
  by_id_first n m id x before low high free gives =
      let r = grows n id high in
      ap (λ l. slice_get l 0) (r.1 ∙ ap (λ l. l ++ r.0) (by_id_next id m low free ∙ (λ i. before i ++ gives i)))
