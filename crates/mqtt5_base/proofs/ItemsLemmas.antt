-- Reading items one after the other, as a loop does.
use Rattle.std.proofs.Common.{◌≡◌, ℕ, zero, suc, ◌<◌, ◌≤◌, true, false, eqb, List, length, Result, Ok, Err, refl, sym, ◌∙◌, arith, rules}
use Rattle.mqtt5_base.specs.declared.error.Error.{Error}
use Rattle.mqtt5_base.specs.Grammar.{Entry, Found}
use Rattle.mqtt5_base.specs.Reading.{item_at, items_within}
use Rattle.mqtt5_base.proofs.Shorter.{item_shorter}

positive : (bs : List ℕ) → eqb (length bs) 0 ≡ false → 0 < length bs
positive bs some = search (some, rules, arith)

-- after an item the items that are left decide
pub goes_on : (n : ℕ) (table : List Entry) (found next : Found) (bs after : List ℕ) (total : Result Found Error) → length bs ≤ n → eqb (length bs) 0 ≡ false → item_at table found bs ≡ Ok (next, after)
    → items_within n table found bs ≡ total → (m : ℕ) × (length after ≤ m) × (items_within m table next after ≡ total)
unfolding items_within
goes_on zero table found next bs after total le some h so_far = absurd (omega (arith, positive bs some))
goes_on (suc n) table found next bs after total le some h so_far =
    let one : items_within (suc n) table found bs ≡ items_within n table next after = rw (some, h) refl in
    let less = item_shorter table found next bs after (positive bs some) h in
    (n, omega (arith, less), sym one ∙ so_far)

-- and the measure falls
pub falls : (table : List Entry) (found next : Found) (bs after : List ℕ) → eqb (length bs) 0 ≡ false → item_at table found bs ≡ Ok (next, after) → length after < length bs
falls table found next bs after some h = item_shorter table found next bs after (positive bs some) h

-- the fault of an item is that of all
pub fails : (n : ℕ) (table : List Entry) (found : Found) (bs : List ℕ) (total : Result Found Error) (e : Error) → length bs ≤ n → eqb (length bs) 0 ≡ false → item_at table found bs ≡ Err e
    → items_within n table found bs ≡ total → total ≡ Err e
unfolding items_within
fails zero table found bs total e le some h so_far = absurd (omega (arith, positive bs some))
fails (suc n) table found bs total e le some h so_far =
    let one : items_within (suc n) table found bs ≡ Err e = rw (some, h) refl in
    sym so_far ∙ one

-- at the end the set is what was found
pub is_done : (n : ℕ) (table : List Entry) (found : Found) (bs : List ℕ) (total : Result Found Error) → eqb (length bs) 0 ≡ true → items_within n table found bs ≡ total → total ≡ Ok found
unfolding items_within
is_done zero table found bs total none so_far = sym so_far
is_done (suc n) table found bs total none so_far =
    let one : items_within (suc n) table found bs ≡ Ok found = rw none refl in
    sym so_far ∙ one
