use Rattle.std.proofs.Common.{List, [], false, refl, ap, ◌∙◌, arith}
use Rattle.mqtt5_publish.specs.declared.publish.Publish.{Publish}
use Rattle.mqtt5_network.specs.Place.{left_will}
use Rattle.mqtt5_sessions.specs.Sessions.{ClientState, leaves}
use Rattle.mqtt5_sessions.proofs.Delivered.{settled, seen_past, seen_none}
use Rattle.mqtt5_sessions.specs.Waiting.{waits}
use Rattle.mqtt5_sessions.proofs.Noted.{followed_kept, away_waits}
use Rattle.mqtt5_sessions.proofs.sessions.Sessions.leave.Goals as goal

abbrev changed : ClientState → ClientState
changed x = record x { here = false; will = left_will x.here x.will }

pub returns-then-client-len-clause-ok : goal.returns-then-client-len-clause-ok
returns-then-client-len-clause-ok c =
    let i = c.args.client in
    let cs : List ClientState = c.deliver_all.new.clients.items in
    let kept : List Publish = c.self.inside.retained.items in
    let none = c.in_ok-deliver_all.ensures.none in
    let seen = settled c.self.inside.coming.items c.deliver_all.new.coming.items c.self.inside.clients.items cs kept c.args.self.now none c.in_ok-deliver_all.ensures.same c.self.view_is in
    seen_past i changed (λ x. []) cs kept c.deliver_all.new.coming.items none (omega (arith, c.if-client-len.true, c.len.ensures)) ∙ ap (λ s. leaves i s) seen

pub returns-clause-ok : goal.returns-clause-ok
returns-clause-ok c =
    let i = c.args.client in
    let cs : List ClientState = c.deliver_all.new.clients.items in
    let kept : List Publish = c.self.inside.retained.items in
    let none = c.in_ok-deliver_all.ensures.none in
    let seen = settled c.self.inside.coming.items c.deliver_all.new.coming.items c.self.inside.clients.items cs kept c.args.self.now none c.in_ok-deliver_all.ensures.same c.self.view_is in
    seen_none i changed (λ x. []) cs kept c.index_mut.result.now c.leave.new.self c.deliver_all.new.coming.items none
    (omega (arith, c.if-client-len.false, c.len.ensures)) c.index_mut.ensures.value c.leave.ensures refl
    ∙ ap (λ s. leaves i s) seen

pub invariant_of-self : goal.invariant_of-self
invariant_of-self c = c.deliver_all.ensures.followed c.self.inside.index c.self.invariant

pub invariant_of-self-then-client-len : goal.invariant_of-self-then-client-len
invariant_of-self-then-client-len c = c.deliver_all.ensures.followed c.self.inside.index c.self.invariant

pub invariant_of-self-2 : goal.invariant_of-self-2
invariant_of-self-2 c =
    let followed = c.deliver_all.ensures.followed c.self.inside.index c.self.invariant in
    followed_kept c.self.inside.index c.deliver_all.new.noted c.deliver_all.new.clients.items followed c.args.client c.index_mut.result.now c.leave.new.self (omega (arith, c.if-client-len.false, c.len.ensures)) c.index_mut.ensures.value
    (ap (λ (x : ClientState). x.kept.subscriptions) c.leave.ensures) (away_waits c.index_mut.result.now c.leave.new.self (ap waits c.leave.ensures))
