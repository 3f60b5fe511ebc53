use Rattle.std.proofs.Common.{◌≡◌, ◌<◌, ◌∙◌, [], ◌∷◌, take, length, get_or, ap, sym, subst, ◌++◌, append_assoc}
use Rattle.std.proofs.lemmas.List.{take_more}
use Rattle.mqtt5_store.specs.Format.{ArePackets}
use Rattle.mqtt5_store.proofs.FramesAgain.{one_more}
use Rattle.mqtt5_store.proofs.frames.put_packets.Goals as goal

pub loop-packet-preserved : goal.loop-packet-preserved
loop-packet-preserved c =
    let so_far = c.loop-packet.invariant in
    let frame = c.in-Ok.ensures.ok in
    let ps = c.args.packets.now.items in
    let i = c.loop-packet.packet-index in
    let p = c.packet-item.result in
    let lt : i < length ps = subst (λ l. i < length l) c.deref-packet-items.ensures.value c.loop-packet-test.true in
    let at : p ≡ get_or ps i p = c.packet-item.is ∙ ap (λ l. get_or l i p) c.deref-packet-items.ensures.value in (
      so_far.0 ++ frame.0,
      frame.1 ∙ ap (λ l. l ++ frame.0) so_far.1 ∙ append_assoc c.args.out.now.items so_far.0 frame.0,
      subst (ArePackets (so_far.0 ++ frame.0)) (sym (take_more ps i p lt ∙ ap (λ q. take i ps ++ q ∷ []) (sym at))) (one_more so_far.0 frame.0 _ p so_far.2 frame.2),
    )
