use Rattle.std.proofs.Common.{refl}
use Rattle.mqtt5_router.proofs.Alone.{packet_kept, packet_reply, packet_handed, pass_kept, pass_sent, pass_taken}
use Rattle.mqtt5_router.proofs.laws.kept_law.Goals as goal

pub returns-clause-packet : goal.returns-clause-packet
returns-clause-packet c = packet_kept

pub returns-clause-reply : goal.returns-clause-reply
returns-clause-reply c = packet_reply

pub returns-clause-handed : goal.returns-clause-handed
returns-clause-handed c = packet_handed

pub returns-clause-pass : goal.returns-clause-pass
returns-clause-pass c = pass_kept

pub returns-clause-sent : goal.returns-clause-sent
returns-clause-sent c = pass_sent

pub returns-clause-taken : goal.returns-clause-taken
returns-clause-taken c = pass_taken

pub returns-clause-expire : goal.returns-clause-expire
returns-clause-expire c = λ d. refl
