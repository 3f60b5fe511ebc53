use Rattle.std.proofs.Common.{◌≤◌, sym, subst}
use Rattle.mqtt5_inflight.proofs.Within.{insert_within}
use Rattle.mqtt5_inflight.proofs.slots.Slots.insert.Goals as goal

pub invariant_of-self-2 : goal.invariant_of-self-2
invariant_of-self-2 c =
    let high : c.args.id ≤ c.self.inside.limit = subst (λ s. c.args.id ≤ s.limit) (sym c.self.view_is) c.requires.high in
    rw c.in_ok-insert.ensures.ok (insert_within c.self.inside.limit c.args.id c.self.inside.in_use c.args.slot c.self.invariant (record { low = c.requires.low; high = high; own = c.requires.own }))
