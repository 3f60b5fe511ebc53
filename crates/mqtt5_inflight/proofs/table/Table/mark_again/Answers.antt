use Rattle.std.proofs.Common.{◌≡◌, map, rules, sym, ap, ◌∙◌, subst}
use Rattle.std.specs.Prelude.{option_map}
use Rattle.mqtt5_inflight.specs.Unacked.{slot_again, in_use_again}
use Rattle.mqtt5_inflight.specs.Placed.{held_in, IsPlaced}
use Rattle.mqtt5_inflight.proofs.Retained.{retained_maps, placed_changed, held_marked}
use Rattle.mqtt5_inflight.proofs.table.Table.mark_again.Goals as goal

marked : (c : goal.After-retain) → c.retain.new.self.slots ≡ map (option_map slot_again) c.self.inside.slots.slots
marked c = retained_maps _ slot_again _ (λ key old keep new next called. let u = called.called in search rules) 0 _ _ c.retain.ensures.retained

pub invariant_of-self : goal.invariant_of-self
invariant_of-self c =
    let s = c.self.inside in
    subst (λ xs. IsPlaced xs s.places) (sym (marked c)) (placed_changed slot_again s.slots.slots s.places c.self.invariant)

pub returns : goal.returns
returns c =
    let s = c.self.inside in
    ap (λ xs. held_in xs s.places) (marked c) ∙ held_marked s.slots.slots s.places ∙ ap in_use_again c.self.view_is
