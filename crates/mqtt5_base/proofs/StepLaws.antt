-- Steps are read exactly where their fields stand and their judgements hold, and a fault where that is the first.
use Rattle.std.proofs.Common.{◌≡◌, ℕ, ◌<◌, Bool, true, false, eqb, List, [], ◌∷◌, ◌++◌, length, Ok, refl, sym, ap, ◌∙◌, arith}
use Rattle.std.proofs.lemmas.List.{append-nil}
use Rattle.mqtt5_base.specs.declared.error.Error.{Error}
use Rattle.mqtt5_base.specs.Grammar.{Atom, content, number_of, Value, plain, properties, Test, passes, Field, one, checked, block, remainder, Step, field, raw, note, judge, more, Known, cut_in, holds, with_value, with_raw}
use Rattle.mqtt5_base.specs.Fields.{IsKind, Takes, IsBlock, IsField, TakesField, Fields}
use Rattle.mqtt5_base.specs.Faults.{FieldFault, FaultIf, Faulty}
use Rattle.mqtt5_base.specs.Reading.{◌>>=◌, judged, field_at, optional_at, optional_judged, some_left, read_steps}
use Rattle.mqtt5_base.specs.Laws.{Reads}
use Rattle.mqtt5_base.proofs.ReadsLemmas.{reads_ok, reads_err, reads_like, reads_values, reads_then, reads_after, reads_map, reads_as, reads_if}
use Rattle.mqtt5_base.proofs.KindLaws.{kind_reads}
use Rattle.mqtt5_base.proofs.BlockLaws.{block_reads}

-- A judgement of a value.
pub judged_reads : (t : Test) (w : ℕ → Error) (a : Atom) → Reads (judged t w a) (λ b. (passes t a ≡ true) × (b ≡ a)) (λ e. (passes t a ≡ false) × (e ≡ w (number_of a)))
judged_reads t w a = reads_if (passes t a) a (w (number_of a))

-- A field.
pub field_reads : (f : Field) (bs : List ℕ) → Reads (field_at f bs) (λ x. Takes (λ front. IsField f front x.0 x.1) bs x.1) (FieldFault f bs)
field_reads (one k) bs = reads_as (λ a. plain a) (IsKind k) bs (kind_reads k bs)
field_reads (checked k t w) bs = reads_values (reads_then (λ a. judged t w a.0 >>= λ b. Ok (plain b, a.1)) (λ a mid. Takes (λ front. IsKind k front a) bs mid) (λ a mid y. (b : Atom) × ((passes t a ≡ true) × (b ≡ a)) × (y ≡ (plain b, mid)))
    (λ a mid e. (passes t a ≡ false) × (e ≡ w (number_of a))) (kind_reads k bs) (λ a mid _. reads_map (λ b. (plain b, mid)) (judged_reads t w a)))
    (λ y. (λ p. rw (p.3.2, p.3.1.1) (p.2.0, p.2.1, (p.0, p.2.2, p.3.1.0, refl)), λ q. let h = q.2 in (h.0, y.1, (q.0, q.1, h.1), (h.0, (h.2, refl), λ i. (h.3 i, y.1)))))
field_reads (block table) bs = reads_as (λ p. properties p) (IsBlock table) bs (block_reads table bs)
field_reads remainder bs = reads_values (reads_ok (plain (content bs), []))
    (λ y. (
      λ e. rw e (bs, sym (append-nil bs), (refl, refl)),
      λ q. let all : bs ≡ q.0 = q.1 ∙ ap (λ r. q.0 ++ r) q.2.1 ∙ append-nil q.0 in λ i. ((q.2.0 ∙ ap (λ c. plain (content c)) (sym all)) i, q.2.1 i),
    ))

-- a value and the bytes after it are those
pub known_reads : {X : Type 0} (x : X) (bs : List ℕ) → Reads {X = X × List ℕ} (Ok (x, bs)) (λ y. (y.0 ≡ x) × (y.1 ≡ bs)) (λ e. ⊥)
known_reads x bs = reads_values (reads_ok (x, bs)) (λ y. (λ e. (ap (λ z. z.0) e, ap (λ z. z.1) e), λ p. λ i. (p.0 i, p.1 i)))

-- a field that may be absent
optional_reads : (b : Bool) (f : Field) (d : Value) (bs : List ℕ) → Reads (optional_at b f d bs) (λ x. TakesField b f d bs x.0 x.1) (FaultIf b f bs)
optional_reads true f d bs = field_reads f bs
optional_reads false f d bs = known_reads d bs

-- a judgement where a condition holds
judging_reads : (b : Bool) (t : Test) (w : ℕ → Error) (a : Atom) → Reads (optional_judged b t w a) (λ x. (b ≡ true → passes t a ≡ true) × (x ≡ a)) (λ e. (b ≡ true) × (passes t a ≡ false) × (e ≡ w (number_of a)))
judging_reads true t w a = reads_like (judged_reads t w a) (λ y. (λ p. ((λ h. p.0), p.1), λ p. (p.0 refl, p.1))) (λ e. (λ f. (refl, f.0, f.1), λ f. (f.1, f.2)))
judging_reads false t w a = reads_like (reads_ok a) (λ y. (λ e. ((λ h. absurd cc), e), λ p. p.1)) (λ e. (λ f. absurd f, λ f. absurd cc))

-- bytes that are left
left_reads : (w : Error) (bs : List ℕ) → Reads (some_left w bs) (λ x. (0 < length bs) × (x ≡ bs)) (λ e. (length bs ≡ 0) × (e ≡ w))
left_reads w [] = reads_like (reads_err w) (λ y. (λ f. absurd f, λ p. absurd (omega (arith, p.0)))) (λ e. (λ f. (refl, f), λ f. f.1))
left_reads w (b ∷ bs) = rw some (reads_like (reads_ok (b ∷ bs)) (λ y. (λ e. (omega arith, e), λ p. p.1)) (λ e. (λ f. absurd f, λ f. absurd (omega (arith, f.0)))))
  where
    some : eqb (length (b ∷ bs)) 0 ≡ false
    some = grind arith

-- Steps are read.
pub steps_read : (steps : List Step) (known : Known) (bs : List ℕ) → Reads (read_steps steps known bs) (λ x. Fields steps known bs x.0 x.1) (Faulty steps known bs)
steps_read [] known bs = known_reads known bs
steps_read (field c f d ∷ steps) known bs = reads_then (λ v. read_steps steps (with_value known v.0) v.1) (λ v after. TakesField (holds known c) f d bs v after) (λ v after y. Fields steps (with_value known v) after y.0 y.1) (λ v after. Faulty steps (with_value known v) after)
    (optional_reads (holds known c) f d bs) (λ v after _. steps_read steps (with_value known v) after)
steps_read (raw k ∷ steps) known bs = reads_then (λ a. read_steps steps (with_raw known (plain a.0)) a.1) (λ a after. Takes (λ front. IsKind k front a) bs after) (λ a after y. Fields steps (with_raw known (plain a)) after y.0 y.1) (λ a after. Faulty steps (with_raw known (plain a)) after)
    (kind_reads k bs) (λ a after _. steps_read steps (with_raw known (plain a)) after)
steps_read (note c ∷ steps) known bs = steps_read steps (with_value known (plain (cut_in known c))) bs
steps_read (judge c s t w ∷ steps) known bs = reads_after (cut_in known s) (read_steps steps known bs) (λ y. Fields steps known bs y.0 y.1) (Faulty steps known bs) (judging_reads (holds known c) t w (cut_in known s)) (steps_read steps known bs)
steps_read (more w ∷ steps) known bs = reads_after bs (read_steps steps known bs) (λ y. Fields steps known bs y.0 y.1) (Faulty steps known bs) (left_reads w bs) (steps_read steps known bs)
