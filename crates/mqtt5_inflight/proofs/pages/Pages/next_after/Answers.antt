use Rattle.std.proofs.Common.{◌≡◌, ℕ, ◌≤◌, ◌*◌, ◌<◌, ◌^◌, ◌/◌, None, sym, ap, ◌∙◌, ⊎_elim, arith}
use Rattle.std.proofs.lemmas.Bool.{cases_lt}
use Rattle.std.specs.FinMap.{get}
use Rattle.std.specs.Ordering.{nat_cmp}
use Rattle.std.specs.BTreeMap as tree
use Rattle.std.specs.BTreeMap.{BTreeMap}
use Rattle.mqtt5_inflight.specs.Paged.{Offsets, Places, place_at, places_of}
use Rattle.mqtt5_inflight.proofs.PlacesOf.{get_place, free_at, in_page, no_page}
use Rattle.mqtt5_inflight.proofs.pages.Pages.next_after.Goals as goal

-- ids before a page are free where those before another are, and no page between the two is there
free_before : (m : BTreeMap ℕ Offsets) (p : Places) (after number there q : ℕ) → places_of m ≡ p
    → ((i : ℕ) → after < i → i < 64 * number → get p i ≡ None)
    → ((k : ℕ) → number ≤ k → k < there → tree.get nat_cmp m k ≡ None)
    → after < q → (64 * there ≤ q → q < 2 ^ 16 → place_at m q ≡ None) → get p q ≡ None
free_before m p after number there q is before between above here = ⊎_elim
    (λ (low : q < 64 * number). before q above low)
    (λ (past : 64 * number ≤ q). ap (λ n. get n q) (sym is) ∙ free_at m q (λ high. ⊎_elim
    (λ (gap : q < 64 * there). no_page m q (between (q / 64) (omega arith) (omega arith)))
    (λ (from : 64 * there ≤ q). here from high)
    (cases_lt q (64 * there))))
    (cases_lt q (64 * number))

pub returns-in_err-there-clause-last : goal.returns-in_err-there-clause-last
returns-in_err-there-clause-last c = rw c.from_residual.ensures (λ q above.
    free_before c.self.inside.pages c.args.self.now c.args.after c.loop-number.number 1024 q c.self.view_is c.loop-number.invariant c.in_err-there.ensures.last above (λ from high. absurd (omega arith)))

pub returns-in-Some-clause-found : goal.returns-in-Some-clause-found
returns-in-Some-clause-found c =
    let id = c.in-Some.found.0 in
    let e = c.in-Some.ensures in
    let within : id < 2 ^ 16 = omega (arith, e.within, c.in_ok-there.ensures.within.1) in
    (e.found.0, ap (λ m. get m id) (sym c.self.view_is) ∙ get_place c.self.inside.pages id within ∙ in_page c.self.inside.pages id c.in_ok-there.there _ e.within c.in_ok-there.ensures.found ∙ e.found.1)

pub returns-in-Some-clause-first : goal.returns-in-Some-clause-first
returns-in-Some-clause-first c = λ q above low. free_before c.self.inside.pages c.args.self.now c.args.after c.loop-number.number c.in_ok-there.there q c.self.view_is c.loop-number.invariant c.in_ok-there.ensures.first above (λ from high.
    in_page c.self.inside.pages q c.in_ok-there.there _ (omega (arith, c.in-Some.ensures.within)) c.in_ok-there.ensures.found ∙ c.in-Some.ensures.first q (omega (arith, c.in-Some.ensures.within)) above low)

pub loop-number-preserved : goal.loop-number-preserved
loop-number-preserved c = λ q above low. free_before c.self.inside.pages c.args.self.now c.args.after c.loop-number.number c.in_ok-there.there q c.self.view_is c.loop-number.invariant c.in_ok-there.ensures.first above (λ from high.
    in_page c.self.inside.pages q c.in_ok-there.there _ (omega arith) c.in_ok-there.ensures.found ∙ c.in_default.ensures.last q (omega arith) above)

pub returns-clause-last : goal.returns-clause-last
returns-clause-last c = λ q above.
    free_before c.self.inside.pages c.args.self.now c.args.after c.loop-number.number c.loop-number.number q c.self.view_is c.loop-number.invariant (λ k a b. absurd (omega arith)) above (λ from high. absurd (omega arith))
