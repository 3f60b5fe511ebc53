use Rattle.mqtt5_client.proofs.TakingUp.{hears_allowed}
use Rattle.mqtt5_client.proofs.taking_up.ended.Goals as goal

pub returns-clause-ok : goal.returns-clause-ok
returns-clause-ok c = hears_allowed c.args.state.now c.renewed-new.result c.handle_incoming_packet.new.self c.pop_event.new.self c.args.at c.renewed-new.ensures (rw c.allows.ensures at c.in-Ok.ensures.step.1) c.pop_event.ensures.rest
