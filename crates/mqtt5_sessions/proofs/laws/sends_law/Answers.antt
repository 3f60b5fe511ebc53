use Rattle.mqtt5_sessions.proofs.Running.{sent_reply, sent_pass, sent_back, sent_known}
use Rattle.mqtt5_sessions.proofs.laws.sends_law.Goals as goal

pub returns-clause-reply : goal.returns-clause-reply
returns-clause-reply c = sent_reply

pub returns-clause-pass : goal.returns-clause-pass
returns-clause-pass c = sent_pass

pub returns-clause-again : goal.returns-clause-again
returns-clause-again c = sent_back

pub returns-clause-known : goal.returns-clause-known
returns-clause-known c = sent_known
