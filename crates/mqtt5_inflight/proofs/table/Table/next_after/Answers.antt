use Rattle.std.proofs.Common.{sym, ap, ◌∙◌}
use Rattle.std.specs.FinMap.{get}
use Rattle.mqtt5_inflight.proofs.Standing.{at_place, no_place}
use Rattle.mqtt5_inflight.proofs.table.Table.next_after.Goals as goal

pub returns-in_err-id-clause-last : goal.returns-in_err-id-clause-last
returns-in_err-id-clause-last c =
    let s = c.self.inside in
    rw c.from_residual.ensures (λ q above. ap (λ m. get m q) (sym c.self.view_is) ∙ no_place s.slots.slots s.places q (c.in_err-id.ensures.last q above))

pub returns-clause-found : goal.returns-clause-found
returns-clause-found c =
    let s = c.self.inside in
    let found = c.in_ok-id.ensures.found in
    (found.0, ap (λ m. get m c.in_ok-id.id) (sym c.self.view_is) ∙ at_place s.slots.slots s.places c.self.invariant c.in_ok-id.id c.in_ok-id.place found.1 ∙ c.index.ensures)

pub returns-clause-first : goal.returns-clause-first
returns-clause-first c = λ q above low.
    let s = c.self.inside in
    ap (λ m. get m q) (sym c.self.view_is) ∙ no_place s.slots.slots s.places q (c.in_ok-id.ensures.first q above low)
