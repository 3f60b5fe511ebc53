use Rattle.mqtt5_sessions.proofs.Following.{follows_up, follows_pass, follows_expire, follows_lost, follows_due, follows_dated, follows_turn, follows_left, follows_back, follows_ends}
use Rattle.mqtt5_sessions.proofs.laws.sessions_law.Goals as goal

pub returns-clause-up : goal.returns-clause-up
returns-clause-up c = follows_up

pub returns-clause-pass : goal.returns-clause-pass
returns-clause-pass c = follows_pass

pub returns-clause-expire : goal.returns-clause-expire
returns-clause-expire c = follows_expire

pub returns-clause-lost : goal.returns-clause-lost
returns-clause-lost c = follows_lost

pub returns-clause-due : goal.returns-clause-due
returns-clause-due c = follows_due

pub returns-clause-dated : goal.returns-clause-dated
returns-clause-dated c = follows_dated

pub returns-clause-turn : goal.returns-clause-turn
returns-clause-turn c = follows_turn

pub returns-clause-left : goal.returns-clause-left
returns-clause-left c = follows_left

pub returns-clause-back : goal.returns-clause-back
returns-clause-back c = follows_back

pub returns-clause-ended : goal.returns-clause-ended
returns-clause-ended c = follows_ends
