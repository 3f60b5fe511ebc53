use Rattle.std.proofs.Common.{refl}
use Rattle.mqtt5_c.specs.Stored.{IsLoadedOf}
use Rattle.mqtt5_c.proofs.store.holder_of.Goals as goal

pub returns-clause-loads : goal.returns-clause-loads
unfolding IsLoadedOf
returns-clause-loads c =
    let read = rw c.in_ok-stream.ensures at c.in_ok-client.ensures.loads in
    rw c.in_ok-holder.ensures.ok ((c.load.new.stream.items, read), c.in_ok-client.ensures.begins, (refl, refl, refl, refl))
