use Rattle.mqtt5_sessions.proofs.Quiet.{heard_reply, heard_handed, heard_kept, passed_sent, passed_kept, sent_same, taken_kept}
use Rattle.mqtt5_sessions.proofs.laws.quiet_law.Goals as goal

pub returns-clause-reply : goal.returns-clause-reply
returns-clause-reply c = heard_reply

pub returns-clause-handed : goal.returns-clause-handed
returns-clause-handed c = heard_handed

pub returns-clause-packet : goal.returns-clause-packet
returns-clause-packet c = heard_kept

pub returns-clause-sent : goal.returns-clause-sent
returns-clause-sent c = passed_sent

pub returns-clause-pass : goal.returns-clause-pass
returns-clause-pass c = passed_kept

pub returns-clause-again : goal.returns-clause-again
returns-clause-again c = sent_same

pub returns-clause-back : goal.returns-clause-back
returns-clause-back c = taken_kept
