use Rattle.std.proofs.Common.{◌≡◌, length, eqb, false, true, rules}
use Rattle.std.proofs.lemmas.Result.{err_from_is_err_and}
use Rattle.mqtt5_base.proofs.ItemsLemmas.{goes_on, falls, fails, is_done}
use Rattle.mqtt5_base.proofs.property.read_items.Goals as goal

pub loop-alloc-smaller : goal.loop-alloc-smaller
loop-alloc-smaller g c =
    let some : eqb (length c.loop-alloc.block) 0 ≡ false = search rules in
    falls _ _ _ _ _ some c.in_ok-read_item.ensures

pub loop-alloc-preserved : goal.loop-alloc-preserved
loop-alloc-preserved g c =
    let some : eqb (length c.loop-alloc.block) 0 ≡ false = search rules in
    goes_on _ _ _ _ _ _ _ c.loop-alloc.invariant.1 some c.in_ok-read_item.ensures c.loop-alloc.invariant.2

pub returns-in_err-read_item : goal.returns-in_err-read_item
returns-in_err-read_item g c =
    let p = err_from_is_err_and c.from_residual.result c.from_residual.ensures.1 in
    let some : eqb (length c.loop-alloc.block) 0 ≡ false = search rules in
    rw (p.1, p.2) (λ h. fails _ _ _ _ _ _ c.loop-alloc.invariant.1 some (c.in_err-read_item.ensures h) c.loop-alloc.invariant.2)

pub returns : goal.returns
returns g c =
    let none : eqb (length c.loop-alloc.block) 0 ≡ true = search rules in
    is_done _ _ _ _ _ none c.loop-alloc.invariant.2
