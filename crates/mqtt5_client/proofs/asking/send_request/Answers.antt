use Rattle.mqtt5_client.proofs.Requested.{written_takes}
use Rattle.mqtt5_client.proofs.asking.send_request.Goals as goal

pub returns-in-Ok : goal.returns-in-Ok
returns-in-Ok c = written_takes c.hand_on.result _ c.args.request c.args.at _ _ _ _ _ c.in-Ok.ensures.put.0 _ c.in-Ok.ensures.put.1 c.in-Ok.ensures.put.3 c.len-length.ensures.value (rw c.put.ensures.same at c.hand_on.ensures)
