-- The ids in use stay within the limit, and publishes under their own ids.
use Rattle.std.proofs.Common.{◌≡◌, ◌≢◌, ℕ, ◌<◌, ◌≤◌, Bool, true, false, cond, Option, Some, None, refl, sym, ap, ◌∙◌, subst, ⊎_elim, arith, rules, ne_eqb}
use Rattle.std.proofs.lemmas.Bool.{cases_eq}
use Rattle.std.specs.Prelude.{is_some}
use Rattle.std.specs.Cmp.{nat_cmp_total, unsigned_tied}
use Rattle.std.specs.Ordering.{nat_cmp, eq_by_cmp}
use Rattle.std.specs.FinMap.{get, insert, remove, empty, get-empty, get-insert, get-remove}
use Rattle.mqtt5_inflight.specs.declared.slot.Slot.{Slot}
use Rattle.mqtt5_inflight.specs.declared.slot.Slot.TheVariants.{Released}
use Rattle.mqtt5_inflight.specs.InUse.{InUse, HasId, OwnId, IsWithin}

tied_same : (k : ℕ) → eq_by_cmp nat_cmp k k ≡ true
tied_same k = unsigned_tied k k ∙ grind (arith, rules)

pub get_insert_same : (m : InUse) (k : ℕ) (x : Slot) → get (insert m k x) k ≡ Some x
get_insert_same m k x = get-insert nat_cmp_total m k x k ∙ ap (λ b. cond b (Some x) (get m k)) (tied_same k)

pub get_insert_other : (m : InUse) (k : ℕ) (x : Slot) (j : ℕ) → j ≢ k → get (insert m k x) j ≡ get m j
get_insert_other m k x j ne = get-insert nat_cmp_total m k x j ∙ ap (λ b. cond b (Some x) (get m j)) (unsigned_tied j k ∙ ne_eqb j k ne)

abbrev pub no_ids : InUse
no_ids = empty

-- an id in use lies in 1..=limit, and a publish has it as its own
pub record IsUsed (limit id : ℕ) (x : Slot) : Type 0 where
  pub low : 0 < id
  pub high : id ≤ limit
  pub own : HasId id x

abbrev pub Fits : ℕ → ℕ → Option Slot → Type 0
Fits limit id None = Unit {0}
Fits limit id (Some x) = IsUsed limit id x

pub fits : (limit : ℕ) (h : InUse) → IsWithin limit h → (k : ℕ) → Fits limit k (get h k)
fits limit h is k = by (get h k) refl
  where
    by : (x : Option Slot) → get h k ≡ x → Fits limit k x
    by None e = tt {0}
    by (Some x) e = record { low = is.low k (ap is_some e); high = is.high k (ap is_some e); own = subst (OwnId k) e (is.own k) }

pub with_used : (limit id : ℕ) (h : InUse) (x : Slot) → ((k : ℕ) → Fits limit k (get h k)) → IsUsed limit id x → (k : ℕ) → Fits limit k (get (insert h id x) k)
with_used limit id h x fit new k = ⊎_elim
    (λ (e : k ≡ id). subst (λ j. Fits limit j (get (insert h id x) j)) (sym e) (subst (Fits limit id) (sym (get_insert_same h id x)) new))
    (λ (ne : k ≢ id). subst (Fits limit k) (sym (get_insert_other h id x k ne)) (fit k))
    (cases_eq k id)

pub without : (limit id : ℕ) (h : InUse) → ((k : ℕ) → Fits limit k (get h k)) → (k : ℕ) → Fits limit k (get (remove h id) k)
without limit id h fit k = subst (Fits limit k) (sym (get-remove nat_cmp_total h id k)) (by (eq_by_cmp nat_cmp k id))
  where
    by : (b : Bool) → Fits limit k (cond b None (get h k))
    by true = tt {0}
    by false = fit k

pub none_used : (limit k : ℕ) → Fits limit k (get no_ids k)
none_used limit k = subst (Fits limit k) (sym (get-empty nat_cmp k)) (tt {0})

pub within_fits : (limit : ℕ) (h : InUse) → ((k : ℕ) → Fits limit k (get h k)) → IsWithin limit h
within_fits limit h fit = record {
  low = λ k t. (by k (get h k) t (fit k)).low;
  high = λ k t. (by k (get h k) t (fit k)).high;
  own = λ k. own k (get h k) (fit k);
}
  where
    some : Option Slot → Slot
    some None = Released
    some (Some x) = x

    by : (k : ℕ) (x : Option Slot) → is_some x ≡ true → Fits limit k x → IsUsed limit k (some x)
    by k None t f = absurd cc
    by k (Some x) t f = f

    own : (k : ℕ) (x : Option Slot) → Fits limit k x → OwnId k x
    own k None f = tt {0}
    own k (Some x) f = f.own

-- one entry more, or less, or none at all
pub insert_within : (limit id : ℕ) (h : InUse) (x : Slot) → IsWithin limit h → IsUsed limit id x → IsWithin limit (insert h id x)
insert_within limit id h x is new = within_fits limit (insert h id x) (with_used limit id h x (fits limit h is) new)

pub remove_within : (limit id : ℕ) (h : InUse) → IsWithin limit h → IsWithin limit (remove h id)
remove_within limit id h is = within_fits limit (remove h id) (without limit id h (fits limit h is))

pub empty_within : (limit : ℕ) → IsWithin limit empty
empty_within limit = within_fits limit empty (none_used limit)
