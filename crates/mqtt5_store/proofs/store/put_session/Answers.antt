use Rattle.std.proofs.Common.{◌≡◌, ◌∙◌, ap, ◌++◌, append_assoc, length, arith, inr}
use Rattle.std.specs.Option.{option_copied}
use Rattle.mqtt5_store.specs.Format.{head_bytes}
use Rattle.mqtt5_store.proofs.Whole.{whole}
use Rattle.mqtt5_store.proofs.store.put_session.Goals as goal

pub returns-clause-ok : goal.returns-clause-ok
returns-clause-ok c =
    let packets = c.in_ok-packets.ensures in
    let w = c.in_ok-put_waiting.ensures.ok in
    let p = c.in-Ok.ensures.ok in
    let ps = c.in_ok-packets.packets.items in
    let count : c.len-count.result ≡ length ps = omega arith in
    let head = head_bytes c.numbers-numbers.result c.is_waiting-waits.result c.len-count.result in (
      head ++ (w.0 ++ p.0),
      p.1 ∙ ap (λ l. l ++ p.0) (w.1 ∙ ap (λ l. l ++ w.0) c.in_ok-put_head.ensures ∙ append_assoc c.args.out.now.items head w.0) ∙ append_assoc c.args.out.now.items (head ++ w.0) p.0 ∙ ap (λ l. c.args.out.now.items ++ l) (append_assoc head w.0 p.0),
      whole c.args.state.now.core packets.0 c.numbers-numbers.result c.is_waiting-waits.result c.len-count.result (option_copied c.collision-waiting.result) ps w.0 p.0 c.numbers-numbers.ensures.core packets.1 c.numbers-numbers.ensures.numbers c.is_waiting-waits.ensures count c.collision-waiting.ensures packets.2 c.head_known.ensures w.2 p.2,
    )

pub returns-in-Err-clause-err : goal.returns-in-Err-clause-err
returns-in-Err-clause-err c =
    let told = c.in_ok-packets.ensures in
    inr (c.in-Err.refused, c.from.ensures, inr (told.0, told.1, rw told.2 at c.in-Err.ensures.err))
