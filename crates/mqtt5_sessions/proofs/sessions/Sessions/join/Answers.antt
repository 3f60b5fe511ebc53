use Rattle.std.proofs.Common.{[], ◌∷◌, ◌++◌, sym, ap, ◌∙◌, subst}
use Rattle.std.specs.NonZero.{non_zero_u16_get}
use Rattle.mqtt5_sessions.specs.Sessions.{ClientState}
use Rattle.mqtt5_sessions.specs.Followed.{IsFollowed}
use Rattle.mqtt5_sessions.proofs.Noted.{followed_pushed}
use Rattle.mqtt5_sessions.proofs.sessions.Sessions.join.Goals as goal

pub invariant_of-self : goal.invariant_of-self
invariant_of-self c = c.deliver_all.ensures.followed c.self.inside.index c.self.invariant

pub invariant_of-self-in_err-client : goal.invariant_of-self-in_err-client
invariant_of-self-in_err-client c = c.deliver_all.ensures.followed c.self.inside.index c.self.invariant

pub invariant_of-self-in_err-push : goal.invariant_of-self-in_err-push
invariant_of-self-in_err-push c =
    let followed = c.deliver_all.ensures.followed c.self.inside.index c.self.invariant in
    subst (IsFollowed c.self.inside.index c.deliver_all.new.noted) (sym c.in_err-push.ensures.items) followed

pub invariant_of-self-2 : goal.invariant_of-self-2
invariant_of-self-2 c =
    let cs = c.deliver_all.new.clients.items in
    let followed = c.deliver_all.ensures.followed c.self.inside.index c.self.invariant in
    followed_pushed c.self.inside.index c.deliver_all.new.noted cs followed (non_zero_u16_get c.args.limit) c.push.new.self.items (c.in_ok-push.ensures.items ∙ ap (λ (d : ClientState). cs ++ d ∷ []) c.in_ok-client.ensures.ok)
