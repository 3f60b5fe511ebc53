use Rattle.std.proofs.Common.{sym, ap, ◌∙◌, subst, None}
use Rattle.std.specs.FinMap.{remove}
use Rattle.mqtt5_inflight.specs.Placed.{held_in, IsPlaced}
use Rattle.mqtt5_inflight.proofs.Maps.{remove_free}
use Rattle.mqtt5_inflight.proofs.Standing.{Turns, turned, freed_held, no_place, frees}
use Rattle.mqtt5_inflight.proofs.table.Table.remove.Goals as goal

gone : (c : goal.After-free) → Turns c.self.inside.slots.slots c.free.new.slots.slots c.self.inside.places (remove c.self.inside.places c.args.id) c.args.id c.in-Some.place None
gone c =
    let s = c.self.inside in
    let done = c.free.ensures in
    frees s.slots.slots c.free.new.slots.slots s.places c.self.invariant c.args.id c.in-Some.place done.slot.others (sym c.in-Some.ensures.place) done.slot.changed done.len

pub invariant_of-self : goal.invariant_of-self
invariant_of-self c =
    let s = c.self.inside in
    subst (IsPlaced c.free.new.slots.slots) (sym c.remove.ensures.free)
    (turned s.slots.slots c.free.new.slots.slots s.places _ c.args.id c.in-Some.place None c.self.invariant (gone c))

pub invariant_of-self-in_default : goal.invariant_of-self-in_default
invariant_of-self-in_default c =
    let s = c.self.inside in
    subst (IsPlaced s.slots.slots) (sym (c.remove.ensures.free ∙ remove_free s.places c.args.id (sym c.in_default.ensures.place))) c.self.invariant

pub returns-in-Some : goal.returns-in-Some
returns-in-Some c =
    let s = c.self.inside in
    ap (held_in c.free.new.slots.slots) c.remove.ensures.free
    ∙ freed_held s.slots.slots c.free.new.slots.slots s.places _ c.args.id c.in-Some.place (gone c)
    ∙ ap (λ h. remove h c.args.id) c.self.view_is

pub returns-in_default : goal.returns-in_default
returns-in_default c =
    let s = c.self.inside in
    let free = sym c.in_default.ensures.place in
    ap (held_in s.slots.slots) (c.remove.ensures.free ∙ remove_free s.places c.args.id free)
    ∙ sym (remove_free (held_in s.slots.slots s.places) c.args.id (no_place s.slots.slots s.places c.args.id free))
    ∙ ap (λ h. remove h c.args.id) c.self.view_is
