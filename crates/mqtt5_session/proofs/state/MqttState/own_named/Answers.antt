use Rattle.mqtt5_session.proofs.Short.{stored_is}
use Rattle.mqtt5_session.proofs.state.MqttState.own_named.Goals as goal

pub returns-in_ok-store_own-in-Ok-true : goal.returns-in_ok-store_own-in-Ok-true
returns-in_ok-store_own-in-Ok-true c =
    let made = c.in_ok-store_own-in-Ok-true in
    stored_is made.field-0 c.args.self.now c.store_own.new.self c.args.publish c.args.last c.args.at (made.ensures.id, rw c.in-Ok-true.field-0-test at c.in-Ok-true.ensures.judged, made.ensures.ok)
