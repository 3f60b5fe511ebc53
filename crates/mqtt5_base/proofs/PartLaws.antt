-- Parts and rows are read exactly where their steps stand, and a fault where that is the first.
use Rattle.std.proofs.Common.{◌≡◌, ℕ, zero, suc, ◌<◌, ◌≤◌, Bool, true, false, List, [], ◌∷◌, ◌++◌, length, Some, None, Ok, ◌⊎◌, inl, inr, refl, sym, ap, ◌∙◌, append_assoc, arith, length-append}
use Rattle.std.proofs.lemmas.List.{append-nil}
use Rattle.mqtt5_base.specs.declared.error.Error.{Error}
use Rattle.mqtt5_base.specs.Grammar.{Kind, u8, u16, u32, varint, bytes, text, pair, Atom, Value, plain, Field, one, checked, block, remainder, Step, field, raw, note, judge, more, Part, choice, filled, each, Row, Group, optional, several, Content, Known, under, with_value, with_raw, cut_in, holds, unless_empty, number_in}
use Rattle.mqtt5_base.specs.Fields.{IsKind, Takes, IsField, TakesField, Fields, Kept, Repeats, Choice, repeated, IsPart, AreParts, IsRow}
use Rattle.mqtt5_base.specs.Faults.{Faulty, RepeatFault, ChoiceFault, PartFault, PartsFault, RowFault}
use Rattle.mqtt5_base.specs.Reading.{kept_at, repeated_within, choice_at, part_at, parts_at, read_row}
use Rattle.mqtt5_base.specs.Laws.{Reads}
use Rattle.mqtt5_base.proofs.VarIntLemmas.{ended_long}
use Rattle.mqtt5_base.proofs.ReadsLemmas.{reads_ok, reads_like, reads_values, reads_then, reads_map, reads_seen, seen}
use Rattle.mqtt5_base.proofs.BlockLaws.{some_bytes}
use Rattle.mqtt5_base.proofs.StepLaws.{known_reads, steps_read}

-- ---- each round takes a byte at least

-- a value has a byte at least
kind_long : (k : Kind) (front : List ℕ) (a : Atom) → IsKind k front a → 0 < length front
kind_long u8 front a h = omega (arith, h.1.0)
kind_long u16 front a h = omega (arith, h.1.0)
kind_long u32 front a h = omega (arith, h.1.0)
kind_long varint front a h = ended_long front h.1.1
kind_long bytes front a h = omega (arith, ap length h.1.2, length-append h.1.0 h.0, h.1.1.0)
kind_long text front a h = omega (arith, ap length h.1.0.2, length-append h.1.0.0 h.0, h.1.0.1.0)
kind_long pair front a h = omega (arith, ap length h.4, length-append h.0 h.1, ap length h.5.0.2, length-append h.5.0.0 h.2, h.5.0.1.0)

-- a field takes a byte at least, where one is left
field_takes : (f : Field) (bs : List ℕ) (v : Value) (after : List ℕ) → 0 < length bs → Takes (λ front. IsField f front v after) bs after → length after < length bs
field_takes (one k) bs v after lt h = omega (arith, ap length h.1, length-append h.0 after, kind_long k h.0 h.2.0 h.2.1)
field_takes (checked k t w) bs v after lt h = omega (arith, ap length h.1, length-append h.0 after, kind_long k h.0 h.2.0 h.2.1)
field_takes (block table) bs v after lt h = let b = h.2.1 in omega (arith, ap length h.1, length-append h.0 after, ap length b.2, length-append b.0 b.1, ended_long b.0 b.3.1)
field_takes remainder bs v after lt h = rw h.2.1 lt

-- a field that may be absent leaves no more bytes
takes_less : (b : Bool) (f : Field) (d : Value) (bs : List ℕ) (v : Value) (after : List ℕ) → TakesField b f d bs v after → length after ≤ length bs
takes_less true f d bs v after h = omega (arith, ap length h.1, length-append h.0 after)
takes_less false f d bs v after h = omega (arith, ap length h.1)

-- Steps leave no more bytes than there were.
pub steps_less : (steps : List Step) (known : Known) (bs : List ℕ) (out : Known) (rest : List ℕ) → Fields steps known bs out rest → length rest ≤ length bs
steps_less [] known bs out rest h = omega (arith, ap length h.1)
steps_less (field c f d ∷ steps) known bs out rest h = omega (arith, takes_less (holds known c) f d bs h.0 h.1 h.2, steps_less steps (with_value known h.0) h.1 out rest h.3)
steps_less (raw k ∷ steps) known bs out rest h = omega (arith, ap length h.2.1, length-append h.2.0 h.1, steps_less steps (with_raw known (plain h.0)) h.1 out rest h.3)
steps_less (note c ∷ steps) known bs out rest h = steps_less steps (with_value known (plain (cut_in known c))) bs out rest h
steps_less (judge c s t w ∷ steps) known bs out rest h = steps_less steps known bs out rest h.1
steps_less (more w ∷ steps) known bs out rest h = steps_less steps known bs out rest h.1

-- Each round of a repeat leaves fewer bytes.
pub kept_takes : (f : Field) (steps : List Step) (bs : List ℕ) (vs : List Value) (after : List ℕ) → 0 < length bs → Kept (repeated f steps) 0 bs vs after → length after < length bs
kept_takes f steps bs vs after lt h = let s = h.1 in omega (arith, field_takes f bs s.0 s.1 lt s.2, steps_less steps (with_value (under 0 0) s.0) s.1 h.0 after s.3)

-- ---- parts

-- what steps of their own keep
kept_reads : (steps : List Step) (n : ℕ) (bs : List ℕ) → Reads (kept_at steps n bs) (λ x. Kept steps n bs x.0 x.1) (Faulty steps (under n 0) bs)
kept_reads steps n bs = reads_seen (λ k. k.kept) (λ k after. Fields steps (under n 0) bs k after) (steps_read steps (under n 0) bs)

-- rounds behind those before
abbrev IsAll : List Step → List (List Value) → List ℕ → List (List Value) → Type 0
IsAll steps front bs y = (all : List (List Value)) × Repeats steps bs all × (y ≡ front ++ all)

-- the first round that can't be read
abbrev NoRound : List Step → List ℕ → Error → Type 0
NoRound steps bs e = (all : List (List Value)) × RepeatFault steps bs all e

-- no bytes are no round, and no fault
no_rounds : (steps : List Step) (front : List (List Value)) → Reads (Ok front) (IsAll steps front []) (NoRound steps [])
no_rounds steps front = reads_like (reads_ok front) (λ y. (λ e. ([], refl, e ∙ sym (append-nil front)), λ p. nothing y p.0 p.1 p.2)) (λ e. (λ f. absurd f, λ f. none e f.0 f.1))
  where
    nothing : (y all : List (List Value)) → Repeats steps [] all → y ≡ front ++ all → y ≡ front
    nothing y [] h e = e ∙ append-nil front
    nothing y (vs ∷ all) h e = absurd (omega (arith, h.1))

    none : (e : Error) (all : List (List Value)) → RepeatFault steps [] all e → ⊥
    none e [] f = absurd (omega (arith, f.0))
    none e (vs ∷ all) f = absurd (omega (arith, f.1))

-- Rounds are read to the end.
repeats_read : (n : ℕ) (f : Field) (steps : List Step) (front : List (List Value)) (bs : List ℕ) → length bs ≤ n → Reads (repeated_within n (repeated f steps) front bs) (IsAll (repeated f steps) front bs) (NoRound (repeated f steps) bs)
unfolding repeated_within
repeats_read zero f steps front [] le = no_rounds (repeated f steps) front
repeats_read zero f steps front (b ∷ bs) le = absurd (omega arith)
repeats_read (suc n) f steps front [] le = no_rounds (repeated f steps) front
repeats_read (suc n) f steps front (b ∷ bs) le =
    rw (some_bytes b bs) (reads_like (reads_then (λ r. repeated_within n (repeated f steps) (front ++ r.0 ∷ []) r.1) (λ vs after. Kept (repeated f steps) 0 (b ∷ bs) vs after) (λ vs after y. IsAll (repeated f steps) (front ++ vs ∷ []) after y) (λ vs after. NoRound (repeated f steps) after)
    (kept_reads (repeated f steps) 0 (b ∷ bs)) (λ vs after h. let shorter : length after ≤ n = omega (arith, kept_takes f steps (b ∷ bs) vs after some h, le) in repeats_read n f steps (front ++ vs ∷ []) after shorter))
    (λ y. (to y, λ q. from y q.0 q.1 q.2)) (λ e. (wrong e, λ z. first e z.0 z.1)))
  where
    some : 0 < length (b ∷ bs)
    some = omega arith

    to : (y : List (List Value)) → (vs : List Value) × (after : List ℕ) × Kept (repeated f steps) 0 (b ∷ bs) vs after × IsAll (repeated f steps) (front ++ vs ∷ []) after y → IsAll (repeated f steps) front (b ∷ bs) y
    to y p = (p.0 ∷ p.3.0, (p.1, some, p.2, p.3.1), p.3.2 ∙ append_assoc front (p.0 ∷ []) p.3.0)

    from : (y all : List (List Value)) → Repeats (repeated f steps) (b ∷ bs) all → y ≡ front ++ all → (vs : List Value) × (after : List ℕ) × Kept (repeated f steps) 0 (b ∷ bs) vs after × IsAll (repeated f steps) (front ++ vs ∷ []) after y
    from y [] h e = absurd (omega (arith, h))
    from y (vs ∷ all) h e = (vs, h.0, h.2, (all, h.3, e ∙ sym (append_assoc front (vs ∷ []) all)))

    wrong : (e : Error) → Faulty (repeated f steps) (under 0 0) (b ∷ bs) e ⊎ ((vs : List Value) × (after : List ℕ) × Kept (repeated f steps) 0 (b ∷ bs) vs after × NoRound (repeated f steps) after e) → NoRound (repeated f steps) (b ∷ bs) e
    wrong e (inl z) = ([], (some, z))
    wrong e (inr z) = (z.0 ∷ z.3.0, (z.1, some, z.2, z.3.1))

    first : (e : Error) (all : List (List Value)) → RepeatFault (repeated f steps) (b ∷ bs) all e → Faulty (repeated f steps) (under 0 0) (b ∷ bs) e ⊎ ((vs : List Value) × (after : List ℕ) × Kept (repeated f steps) 0 (b ∷ bs) vs after × NoRound (repeated f steps) after e)
    first e [] z = inl z.1
    first e (vs ∷ all) z = inr (vs, z.0, z.2, (all, z.3))

-- Either of two lists of steps is read.
choice_reads : (b : Bool) (off on : List Step) (n : ℕ) (bs : List ℕ) → Reads (choice_at b off on n bs) (λ x. Choice b off on n bs x.0 x.1) (ChoiceFault b off on n bs)
choice_reads true off on n bs = reads_seen (λ vs. Some vs) (λ vs after. Kept on n bs vs after) (kept_reads on n bs)
choice_reads false off on n bs = reads_seen (λ vs. None) (λ vs after. Kept off n bs vs after) (kept_reads off n bs)

-- A part is read.
pub part_reads : (p : Part) (values : List Value) (bs : List ℕ) → Reads (part_at p values bs) (λ x. IsPart p values bs x.0 x.1) (PartFault p values bs)
part_reads (choice k c off on) values bs = let n = number_in values k in let b = holds (under n 0) c in reads_seen (λ o. optional o) (λ o after. Choice b off on n bs o after) (choice_reads b off on n bs)
part_reads (filled k steps) values bs = let n = number_in values k in
    reads_values (reads_seen (λ o. optional o) (λ o after. (vs : List Value) × Kept steps n bs vs after × (o ≡ unless_empty vs)) (reads_seen (λ vs. unless_empty vs) (λ vs after. Kept steps n bs vs after) (kept_reads steps n bs)))
    (λ y. (λ p. (p.1.0, p.1.1, p.2 ∙ ap (λ o. optional o) p.1.2), λ q. (unless_empty q.0, (q.0, q.1, refl), q.2)))
part_reads (each f steps) values bs = reads_values (reads_map (λ g. (several g, [])) (repeats_read (length bs) f steps [] bs (omega arith)))
    (λ y. (λ p. (p.1.0, p.1.1, ap (λ z. z.0) p.2 ∙ ap (λ g. several g) p.1.2, ap (λ z. z.1) p.2), λ q. (q.0, (q.0, q.1, refl), λ i. (q.2 i, q.3 i))))

-- Parts are read.
pub parts_read : (ps : List Part) (values : List Value) (bs : List ℕ) → Reads (parts_at ps values bs) (λ x. AreParts ps values bs x.0 x.1) (PartsFault ps values bs)
parts_read [] values bs = known_reads [] bs
parts_read (p ∷ ps) values bs = reads_values (reads_then (λ g. seen (λ gs. g.0 ∷ gs) (parts_at ps values g.1)) (λ g after. IsPart p values bs g after) (λ g after y. (gs : List Group) × AreParts ps values after gs y.1 × (y.0 ≡ g ∷ gs)) (λ g after. PartsFault ps values after)
    (part_reads p values bs) (λ g after _. reads_seen (λ gs. g ∷ gs) (λ gs rest. AreParts ps values after gs rest) (parts_read ps values after)))
    (λ y. (λ p. (p.0, p.1, p.2, p.3.0, p.3.1, p.3.2), λ p. (p.0, p.1, p.2, (p.3, p.4, p.5))))

-- ---- rows

-- what a row keeps, and its parts
abbrev kept_with : Known → List Group → Content
kept_with k gs = (k.kept, gs)

-- A row is read.
pub row_reads : (row : Row) (first len : ℕ) (body : List ℕ) → Reads (read_row row first len body) (λ x. IsRow row first len body x.0 x.1) (RowFault row first len body)
row_reads row first len body = reads_values (reads_then (λ k. seen (kept_with k.0) (parts_at row.parts k.0.values k.1)) (λ k after. Fields row.steps (under first len) body k after) (λ k after y. (gs : List Group) × AreParts row.parts k.values after gs y.1 × (y.0 ≡ kept_with k gs)) (λ k after. PartsFault row.parts k.values after)
    (steps_read row.steps (under first len) body) (λ k after _. reads_seen (kept_with k) (λ gs rest. AreParts row.parts k.values after gs rest) (parts_read row.parts k.values after)))
    (λ y. (λ p. (p.0, p.1, p.2, p.3.0, p.3.1, p.3.2), λ p. (p.0, p.1, p.2, (p.3, p.4, p.5))))
