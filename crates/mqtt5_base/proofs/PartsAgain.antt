-- Parts, which are steps of their own or lists to the end, are read again.
use Rattle.std.proofs.Common.{◌≡◌, ℕ, zero, suc, ◌<◌, ◌≤◌, Bool, true, false, eqb, List, [], ◌∷◌, ◌++◌, length, Some, None, Result, Ok, refl, sym, ap, ◌∙◌, append_assoc, arith, length-append}
use Rattle.std.proofs.lemmas.List.{append-nil}
use Rattle.mqtt5_base.specs.declared.error.Error.{Error}
use Rattle.mqtt5_base.specs.Grammar.{Value, Step, Part, choice, filled, each, Group, optional, several, Known, under, holds, unless_empty, number_in}
use Rattle.mqtt5_base.specs.Fields.{repeated}
use Rattle.mqtt5_base.specs.Reading.{◌>>=◌, kept_at, repeated_within, choice_at, part_at, parts_at}
use Rattle.mqtt5_base.specs.Layout.{Written, WrittenGroup, one_or_none, listed, written_bytes, listed_bytes, part_bytes, parts_bytes, written_fits, listed_fit, part_fits, parts_fit, unless_wrong}
use Rattle.mqtt5_base.proofs.BlockLaws.{some_bytes}
use Rattle.mqtt5_base.proofs.KindsAgain.{both_hold}
use Rattle.mqtt5_base.proofs.StepsAgain.{Suits, known_again, steps_again}

-- no bytes
abbrev nothing : Result (List ℕ) Error
nothing = Ok []

-- the values pass the judgements of steps under a number, and suit them before those bytes
pub record IsOwn (steps : List Step) (n : ℕ) (w : Written) (rest : List ℕ) : Type 0 where
  pub passes : unless_wrong steps (under n 0) w.raws w.kept [] nothing ≡ nothing
  pub suits : Suits false [] steps (under n 0) (under n 0) w.raws w.kept rest

-- as what the values are read again
abbrev pub kept_again : List Step → ℕ → Written → List Value
kept_again steps n w = (known_again false steps (under n 0) (under n 0) w.raws w.kept).kept

-- values and the bytes after them
abbrev pub read_values : List Value → List ℕ → Result (List Value × List ℕ) Error
read_values vs rest = Ok (vs, rest)

-- Steps of their own are read again.
pub own_again : (steps : List Step) (n : ℕ) (w : Written) (rest : List ℕ) → written_fits steps w ≡ true → IsOwn steps n w rest → kept_at steps n (written_bytes steps n w ++ rest) ≡ read_values (kept_again steps n w) rest
own_again steps n w rest fit own =
    ap (λ (y : Result (Known × List ℕ) Error). y >>= λ k. Ok (k.0.kept, k.1)) (steps_again false [] steps (under n 0) (under n 0) w.raws w.kept rest nothing [] fit own.passes own.suits)

-- the same of each item of a list, which has a byte at least
abbrev pub AreOwn : List Step → List Written → Type 0
AreOwn steps [] = Unit {0}
AreOwn steps (w ∷ ws) = (0 < length (written_bytes steps 0 w)) × IsOwn steps 0 w (listed_bytes steps ws) × AreOwn steps ws

-- as what the items are read again
abbrev pub all_again : List Step → List Written → List (List Value)
all_again steps [] = []
all_again steps (w ∷ ws) = kept_again steps 0 w ∷ all_again steps ws

-- a list that was read
abbrev done : List (List Value) → Result (List (List Value)) Error
done vss = Ok vss

-- bytes that begin with some aren't none
not_none : (bs rest : List ℕ) → 0 < length bs → eqb (length (bs ++ rest)) 0 ≡ false
not_none [] rest lt = absurd (omega arith)
not_none (b ∷ bs) rest lt = some_bytes b (bs ++ rest)

-- A list to the end is read again, behind the items before.
pub list_again : (steps : List Step) (ws : List Written) (n : ℕ) (before : List (List Value)) → listed_fit steps ws ≡ true → AreOwn steps ws → length (listed_bytes steps ws) ≤ n → repeated_within n steps before (listed_bytes steps ws) ≡ done (before ++ all_again steps ws)
unfolding repeated_within
list_again steps [] zero before fit own le = ap done (sym (append-nil before))
list_again steps [] (suc n) before fit own le = ap done (sym (append-nil before))
list_again steps (w ∷ ws) zero before fit own le = absurd (omega (arith, own.0, le, length-append (written_bytes steps 0 w) (listed_bytes steps ws)))
list_again steps (w ∷ ws) (suc n) before fit own le =
    let rest = listed_bytes steps ws in
    let fits = both_hold (written_fits steps w) (listed_fit steps ws) fit in
    let x = kept_again steps 0 w in
    let shorter : length rest ≤ n = omega (arith, own.0, le, length-append (written_bytes steps 0 w) rest) in
    rw (not_none (written_bytes steps 0 w) rest own.0, own_again steps 0 w rest fits.0 own.1) (list_again steps ws n (before ++ x ∷ []) fits.1 own.2 shorter ∙ ap done (append_assoc before (x ∷ []) (all_again steps ws)))

-- ---- parts

-- a group that was read, and the bytes after it
abbrev read_group : Group → List ℕ → Result (Group × List ℕ) Error
read_group g rest = Ok (g, rest)

-- groups that were read, and the bytes after them
abbrev pub read_groups : List Group → List ℕ → Result (List Group × List ℕ) Error
read_groups gs rest = Ok (gs, rest)

-- steps read these values from no bytes of their own
abbrev pub IsAbsent : List Step → ℕ → List Value → List ℕ → Type 0
IsAbsent steps n vs rest = kept_at steps n rest ≡ read_values vs rest

-- What is written for a part, before those bytes, is that group, for one who knows these values in writing and those in
-- reading.
abbrev pub PartIs : Part → List Value → List Value → WrittenGroup → Group → List ℕ → Type 0
PartIs (choice k c off on) w r (one_or_none (Some x)) g rest =
    let n = number_in w k in (number_in r k ≡ n) × (holds (under n 0) c ≡ true) × IsOwn on n x rest × (g ≡ optional (Some (kept_again on n x)))
PartIs (choice k c off on) w r (one_or_none None) g rest =
    let n = number_in r k in (holds (under n 0) c ≡ false) × (vs : List Value) × IsAbsent off n vs rest × (g ≡ optional None)
PartIs (filled k steps) w r (one_or_none (Some x)) g rest =
    let n = number_in w k in (number_in r k ≡ n) × IsOwn steps n x rest × (g ≡ optional (unless_empty (kept_again steps n x)))
PartIs (filled k steps) w r (one_or_none None) g rest =
    (vs : List Value) × IsAbsent steps (number_in r k) vs rest × (g ≡ optional (unless_empty vs))
PartIs (each f steps) w r (listed ws) g rest = (rest ≡ []) × AreOwn (repeated f steps) ws × (g ≡ several (all_again (repeated f steps) ws))
PartIs p w r x g rest = ⊥

-- the same of each part
abbrev pub PartsAre : List Part → List Value → List Value → List WrittenGroup → List Group → Type 0
PartsAre [] w r [] [] = Unit {0}
PartsAre (p ∷ ps) w r (x ∷ xs) (g ∷ gs) = PartIs p w r x g (parts_bytes ps w xs) × PartsAre ps w r xs gs
PartsAre ps w r xs gs = ⊥

-- the steps of a choice that is made
choice_again : (b : Bool) (off on : List Step) (n : ℕ) (w : Written) (rest : List ℕ) → b ≡ true → written_fits on w ≡ true → IsOwn on n w rest
    → (choice_at b off on n (written_bytes on n w ++ rest) >>= λ g. read_group (optional g.0) g.1) ≡ read_group (optional (Some (kept_again on n w))) rest
choice_again b off on n w rest made fit own = rw (made, own_again on n w rest fit own) refl

-- the steps of a choice that isn't made
absent_again : (b : Bool) (off on : List Step) (n : ℕ) (vs : List Value) (rest : List ℕ) → b ≡ false → IsAbsent off n vs rest
    → (choice_at b off on n rest >>= λ g. read_group (optional g.0) g.1) ≡ read_group (optional None) rest
absent_again b off on n vs rest made absent = rw (made, absent) refl

-- A part is read again.
part_again : (p : Part) (w r : List Value) (x : WrittenGroup) (g : Group) (rest : List ℕ) → part_fits p x ≡ true → PartIs p w r x g rest → part_at p r (part_bytes p w x ++ rest) ≡ read_group g rest
part_again (choice k c off on) w r (one_or_none (Some x)) g rest fit is =
    let n = number_in w k in
    rw (is.0, is.3) (choice_again (holds (under n 0) c) off on n x rest is.1 fit is.2)
part_again (choice k c off on) w r (one_or_none None) g rest fit is =
    let n = number_in r k in
    rw is.3 (absent_again (holds (under n 0) c) off on n is.1 rest is.0 is.2)
part_again (filled k steps) w r (one_or_none (Some x)) g rest fit is =
    let n = number_in w k in
    rw (is.0, is.2, own_again steps n x rest fit is.1) refl
part_again (filled k steps) w r (one_or_none None) g rest fit is = rw (is.1, is.2) refl
part_again (each f steps) w r (listed ws) g rest fit is =
    let bytes = listed_bytes (repeated f steps) ws in
    rw (is.0, append-nil bytes, is.2, list_again (repeated f steps) ws (length bytes) [] fit is.1 (omega arith)) refl
part_again p w r x g rest fit is = absurd is

-- Parts are read again to the end.
pub parts_again : (ps : List Part) (w r : List Value) (xs : List WrittenGroup) (gs : List Group) → parts_fit ps xs ≡ true → PartsAre ps w r xs gs → parts_at ps r (parts_bytes ps w xs) ≡ read_groups gs []
parts_again [] w r [] [] fit are = refl
parts_again (p ∷ ps) w r (x ∷ xs) (g ∷ gs) fit are =
    let fits = both_hold (part_fits p x) (parts_fit ps xs) fit in
    rw (part_again p w r x g (parts_bytes ps w xs) fits.0 are.0, parts_again ps w r xs gs fits.1 are.1) refl
parts_again ps w r xs gs fit are = absurd are
