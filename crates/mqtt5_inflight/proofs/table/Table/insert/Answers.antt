use Rattle.std.proofs.Common.{sym, ap, ◌∙◌, subst, Some, is_some}
use Rattle.std.proofs.lemmas.Bool.{false≢true}
use Rattle.std.specs.FinMap.{get, insert}
use Rattle.mqtt5_inflight.specs.Placed.{held_in, IsPlaced}
use Rattle.mqtt5_inflight.proofs.Standing.{Turns, turned, set_held, no_place, adds, sets}
use Rattle.mqtt5_inflight.proofs.table.Table.insert.Goals as goal

pub returns-in-Some-clause-ok : goal.returns-in-Some-clause-ok
returns-in-Some-clause-ok c =
    let s = c.self.inside in
    let xs = s.slots.slots in
    let ys = c.replace.new.slots.slots in
    let place = c.in-Some.place in
    let done = c.replace.ensures in
    set_held xs ys s.places s.places c.args.id place c.args.slot
    (sets xs ys s.places c.self.invariant c.args.id place done.slot.others c.args.slot (sym c.in-Some.ensures) done.slot.changed done.len)
    ∙ ap (λ h. insert h c.args.id c.args.slot) c.self.view_is

-- an id in use takes no memory
pub returns-in_err-add-clause-used : goal.returns-in_err-add-clause-used
returns-in_err-add-clause-used c = λ known.
    let s = c.self.inside in
    absurd (false≢true (ap is_some (sym (no_place s.slots.slots s.places c.args.id (sym c.in_default.ensures)) ∙ ap (λ m. get m c.args.id) c.self.view_is) ∙ known))

put : (c : goal.In_ok-add) → Turns c.self.inside.slots.slots c.add.new.slots.slots c.self.inside.places (insert c.self.inside.places c.args.id c.self.inside.slots.vacant_key) c.args.id c.self.inside.slots.vacant_key (Some c.args.slot)
put c =
    let s = c.self.inside in
    let done = c.in_ok-add.ensures in
    adds s.slots.slots c.add.new.slots.slots s.places c.self.invariant c.args.id s.slots.vacant_key done.slot.others c.args.slot (sym c.in_default.ensures) done.vacant done.slot.changed done.len

pub invariant_of-self-2 : goal.invariant_of-self-2
invariant_of-self-2 c =
    let s = c.self.inside in
    subst (IsPlaced c.add.new.slots.slots) (sym c.in_ok-add.ensures.place)
    (turned s.slots.slots c.add.new.slots.slots s.places _ c.args.id s.slots.vacant_key (Some c.args.slot) c.self.invariant (put c))

pub returns-clause-ok : goal.returns-clause-ok
returns-clause-ok c =
    let s = c.self.inside in
    ap (held_in c.add.new.slots.slots) c.in_ok-add.ensures.place
    ∙ set_held s.slots.slots c.add.new.slots.slots s.places _ c.args.id s.slots.vacant_key c.args.slot (put c)
    ∙ ap (λ h. insert h c.args.id c.args.slot) c.self.view_is
