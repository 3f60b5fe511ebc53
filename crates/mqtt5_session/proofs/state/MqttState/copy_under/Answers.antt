use Rattle.mqtt5_session.proofs.Short.{stored_is, waits_is}
use Rattle.mqtt5_session.proofs.state.MqttState.copy_under.Goals as goal

pub returns-in-Ok-Some : goal.returns-in-Ok-Some
returns-in-Ok-Some c = stored_is c.in-Ok-Some.stored c.args.self.now _ _ _ _ (rw c.in-Ok-Some.field-0-is at c.in-Ok-Some.ensures)

pub returns-in-Ok-None : goal.returns-in-Ok-None
returns-in-Ok-None c =
    let kept = rw c.in-Ok-None.field-0-is at c.in-Ok-None.ensures in
    waits_is c.keep_copy.result c.args.self.now c.store_free.new.self _ _ _ _ kept.0 kept.1 c.keep_copy.ensures
