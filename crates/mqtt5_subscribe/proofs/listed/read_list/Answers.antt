use Rattle.std.proofs.Common.{◌≡◌, length, eqb, false, true, map, ◌++◌, ◌∷◌, [], rules}
use Rattle.std.proofs.lemmas.Result.{err_from_is_err_and}
use Rattle.mqtt5_base.specs.Layout.{all_kept}
use Rattle.mqtt5_subscribe.proofs.Rounds.{falls, goes_on, fails, is_done, all_kept_push, settled_push}
use Rattle.mqtt5_subscribe.proofs.listed.read_list.Goals as goal

pub loop-alloc-smaller : goal.loop-alloc-smaller
loop-alloc-smaller g c =
    let some : eqb (length c.loop-alloc.stream) 0 ≡ false = search rules in
    falls g.T.Listed.first g.T.Listed.others _ _ _ some c.in_ok-item.ensures.read

pub loop-alloc-preserved : goal.loop-alloc-preserved
loop-alloc-preserved g c =
    let some : eqb (length c.loop-alloc.stream) 0 ≡ false = search rules in
    let more : all_kept (map g.T.Listed.written c.push.new.self) ≡ all_kept (map g.T.Listed.written c.loop-alloc.items) ++ (g.T.Listed.written c.in_ok-item.item).kept ∷ [] = rw c.in_ok-push.ensures.ok (all_kept_push g.T.Listed.written c.loop-alloc.items c.in_ok-item.item) in
    let same : map g.T.Listed.settled c.push.new.self ≡ c.push.new.self = rw c.in_ok-push.ensures.ok (settled_push g.T.Listed.settled c.loop-alloc.items c.in_ok-item.item c.loop-alloc.invariant.3 c.in_ok-item.ensures.known) in
    let next = goes_on c.loop-alloc.invariant.0 g.T.Listed.first g.T.Listed.others _ _ _ _ _ c.loop-alloc.invariant.1 some c.in_ok-item.ensures.read c.loop-alloc.invariant.2 in
    rw more (next.0, next.1, next.2, same)

pub returns-in_err-item-clause-read : goal.returns-in_err-item-clause-read
returns-in_err-item-clause-read g c =
    let p = err_from_is_err_and c.from_residual.result c.from_residual.ensures.1 in
    let some : eqb (length c.loop-alloc.stream) 0 ≡ false = search rules in
    rw (p.1, p.2) (λ h. fails c.loop-alloc.invariant.0 g.T.Listed.first g.T.Listed.others _ _ _ _ c.loop-alloc.invariant.1 some (c.in_err-item.ensures.read h) c.loop-alloc.invariant.2)

pub returns-clause-read : goal.returns-clause-read
returns-clause-read g c =
    let none : eqb (length c.loop-alloc.stream) 0 ≡ true = search rules in
    is_done c.loop-alloc.invariant.0 _ _ _ _ none c.loop-alloc.invariant.2
