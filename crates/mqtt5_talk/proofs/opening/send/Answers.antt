use Rattle.mqtt5_talk.proofs.Talking.{as_sent}
use Rattle.mqtt5_talk.proofs.opening.send.Goals as goal

pub returns-in-Ok-clause-told : goal.returns-in-Ok-clause-told
returns-in-Ok-clause-told g c = let (sent, appended, split) = c.write_output.ensures.written in as_sent _ _ _ _ sent appended split c.write_output.ensures.kept

pub returns-in-Err-clause-told : goal.returns-in-Err-clause-told
returns-in-Err-clause-told g c = let (sent, appended, split) = c.write_output.ensures.written in as_sent _ _ _ _ sent appended split c.write_output.ensures.kept
