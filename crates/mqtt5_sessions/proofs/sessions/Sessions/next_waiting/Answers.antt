use Rattle.std.proofs.Common.{sym, subst}
use Rattle.mqtt5_sessions.specs.Followed.{IsNoted}
use Rattle.mqtt5_sessions.proofs.sessions.Sessions.next_waiting.Goals as goal

pub next_waiting-next-requires : goal.next_waiting-next-requires
next_waiting-next-requires c = subst (IsNoted c.deliver_all.new.noted) (sym c.as_slice.ensures.value) (c.deliver_all.ensures.followed c.self.inside.index c.self.invariant).1

pub invariant_of-self : goal.invariant_of-self
invariant_of-self c = c.deliver_all.ensures.followed c.self.inside.index c.self.invariant

pub invariant_of-self-2 : goal.invariant_of-self-2
invariant_of-self-2 c =
    let followed = c.deliver_all.ensures.followed c.self.inside.index c.self.invariant in
    (followed.0, subst (IsNoted c.next_waiting-next.new.noted) c.as_slice.ensures.value c.next_waiting-next.ensures.noted)
