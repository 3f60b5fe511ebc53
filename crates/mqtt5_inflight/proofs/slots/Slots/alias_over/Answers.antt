use Rattle.std.proofs.Common.{refl, sym, ap, ◌∙◌, ◌++◌}
use Rattle.std.specs.Prelude.{slice_get}
use Rattle.mqtt5_inflight.specs.Unacked.{alias_again}
use Rattle.mqtt5_inflight.proofs.ById.{by_id_free, by_id_next, by_id_first}
use Rattle.mqtt5_inflight.proofs.slots.Slots.alias_over.Goals as goal

pub returns-in-Some-alias_in-clause-first : goal.returns-in-Some-alias_in-clause-first
returns-in-Some-alias_in-clause-first c =
    let s = c.args.self.now in
    let id = c.in-Some.id in
    let e = c.in-Some.ensures in
    sym (by_id_first (alias_again c.args.max) (λ _. refl) s.in_use s.limit c.loop-id.after id c.in-Some-alias_in.alias c.loop-id.invariant.0 e.above.0 e.above.1 e.first
    (ap (alias_again c.args.max id) e.found ∙ sym (c.in-Some-alias_in.ensures id)))

pub loop-id-preserved : goal.loop-id-preserved
loop-id-preserved c =
    let s = c.args.self.now in
    let id = c.in-Some.id in
    let e = c.in-Some.ensures in
    let none = ap (alias_again c.args.max id) e.found ∙ sym (c.in_default-alias_in.ensures id) in
    (by_id_next (alias_again c.args.max) (λ _. refl) s.in_use id c.loop-id.after e.above.0 e.first ∙ (λ i. c.loop-id.invariant.0 i ++ none i), e.above.1)

pub returns-clause-first : goal.returns-clause-first
returns-clause-first c =
    let s = c.args.self.now in
    sym (ap (λ l. slice_get l 0) (by_id_free (alias_again c.args.max) (λ _. refl) s.in_use s.limit c.loop-id.after c.loop-id.invariant.1 (λ q a _. c.in_default.ensures.last q a) ∙ c.loop-id.invariant.0))
