use Rattle.std.proofs.Common.{refl, sym, ap, ◌∙◌, ◌++◌, Some, append_assoc}
use Rattle.mqtt5_inflight.specs.Unacked.{by_id, release_again}
use Rattle.mqtt5_inflight.proofs.ById.{by_id_free, by_id_next}
use Rattle.mqtt5_inflight.proofs.slots.push_released.Goals as goal

pub loop-id-preserved : goal.loop-id-preserved
loop-id-preserved c =
    let h = c.args.slots.now.in_use in
    let old = c.args.requests.now.items in
    let id = c.in-Some.id in
    let e = c.in-Some.ensures in (
      c.in_ok-push_release.ensures
          ∙ ap (λ l. l ++ release_again id (Some c.in-Some.slot.now)) c.loop-id.invariant.0
          ∙ append_assoc old (by_id release_again c.loop-id.after h) (release_again id (Some c.in-Some.slot.now))
          ∙ ap (λ l. old ++ l) (sym (by_id_next release_again (λ _. refl) h id c.loop-id.after e.above.0 e.first ∙ ap (λ o. by_id release_again c.loop-id.after h ++ release_again id o) e.found)),
      e.above.1,
    )

pub returns : goal.returns
returns c =
    let s = c.args.slots.now in
    c.loop-id.invariant.0
    ∙ ap (λ l. c.args.requests.now.items ++ l) (sym (by_id_free release_again (λ _. refl) s.in_use s.limit c.loop-id.after c.loop-id.invariant.1 (λ q a _. c.in_default.ensures.last q a)))
