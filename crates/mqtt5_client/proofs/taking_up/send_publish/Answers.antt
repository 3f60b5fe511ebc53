use Rattle.mqtt5_client.proofs.Written.{written_sends}
use Rattle.mqtt5_client.proofs.taking_up.send_publish.Goals as goal

pub returns-in-Ok-clause-sent : goal.returns-in-Ok-clause-sent
returns-in-Ok-clause-sent c =
    written_sends c.hand_on_own.result c.args.codec.now c.args.publish c.args.at _ _ _ _ _ c.in-Ok.ensures.0 _ c.args.fault.now c.in-Ok.ensures.1 c.in-Ok.ensures.3 c.len-length.ensures.value c.hand_on_own.ensures
