use Rattle.std.proofs.Common.{arith, ap, ◌∙◌, length}
use Rattle.std.proofs.lemmas.List.{length-take-le}
use Rattle.mqtt5_pubsub.proofs.keeping.Keeper.load.Goals as goal

pub get_u64-taken-requires : goal.get_u64-taken-requires
get_u64-taken-requires g c =
    let whole = ap length c.in_ok-head.ensures.front ∙ length-take-le 8 c.in_ok-stream.stream.items (omega arith) in
    omega (arith, whole)
