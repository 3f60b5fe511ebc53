use Rattle.mqtt5_sessions.proofs.sessions.Sessions.count.Goals as goal

pub invariant_of-self : goal.invariant_of-self
invariant_of-self c = c.deliver_all.ensures.followed c.self.inside.index c.self.invariant

pub invariant_of-self-then-client-len : goal.invariant_of-self-then-client-len
invariant_of-self-then-client-len c = c.deliver_all.ensures.followed c.self.inside.index c.self.invariant

pub invariant_of-self-2 : goal.invariant_of-self-2
invariant_of-self-2 c = c.deliver_all.ensures.followed c.self.inside.index c.self.invariant
