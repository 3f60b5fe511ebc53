use Rattle.mqtt5_c.proofs.Refusals.{not_taken_up}
use Rattle.mqtt5_c.proofs.life.take_up_in.Goals as goal

pub returns-in-Err-clause-count : goal.returns-in-Err-clause-count
returns-in-Err-clause-count c = λ zero. absurd (not_taken_up c.args.session_present c.in-Err.fault c.args.holder.now.client c.args.at c.in-Err.ensures.err zero)
