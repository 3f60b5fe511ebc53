use Rattle.std.proofs.Common.{List, arith, ap, ◌∙◌, sym}
use Rattle.mqtt5_publish.specs.declared.publish.Publish.{Publish}
use Rattle.mqtt5_sessions.specs.Sessions.{ClientState}
use Rattle.mqtt5_sessions.proofs.Delivered.{settled}
use Rattle.mqtt5_sessions.proofs.Shedding.{none_shed, sheds_past, some_shed, sheds_of}
use Rattle.mqtt5_sessions.specs.Waiting.{waits}
use Rattle.mqtt5_sessions.proofs.Indexed.{shed_marks}
use Rattle.mqtt5_sessions.proofs.Noted.{followed_kept, shed_waits}
use Rattle.mqtt5_sessions.proofs.sessions.Sessions.shed.Goals as goal

pub returns-then-client-len-clause-ok : goal.returns-then-client-len-clause-ok
returns-then-client-len-clause-ok c =
    let cs : List ClientState = c.deliver_all.new.clients.items in
    let kept : List Publish = c.self.inside.retained.items in
    let none = c.in_ok-deliver_all.ensures.none in
    let seen = settled c.self.inside.coming.items c.deliver_all.new.coming.items c.self.inside.clients.items cs kept c.args.self.now none c.in_ok-deliver_all.ensures.same c.self.view_is in
    sheds_past c.args.any c.args.most c.args.bytes c.args.client cs kept c.args.self.now seen c.deliver_all.new.coming.items none (omega (arith, c.if-client-len.true, c.len.ensures))

pub returns-then-client-len-clause-count : goal.returns-then-client-len-clause-count
returns-then-client-len-clause-count c =
    let cs : List ClientState = c.deliver_all.new.clients.items in
    let kept : List Publish = c.self.inside.retained.items in
    let none = c.in_ok-deliver_all.ensures.none in
    let seen = settled c.self.inside.coming.items c.deliver_all.new.coming.items c.self.inside.clients.items cs kept c.args.self.now none c.in_ok-deliver_all.ensures.same c.self.view_is in
    none_shed c.args.any c.args.most c.args.bytes c.args.client cs kept c.args.self.now seen (omega (arith, c.if-client-len.true, c.len.ensures))

pub returns-clause-ok : goal.returns-clause-ok
returns-clause-ok c =
    let cs : List ClientState = c.deliver_all.new.clients.items in
    let kept : List Publish = c.self.inside.retained.items in
    let none = c.in_ok-deliver_all.ensures.none in
    let seen = settled c.self.inside.coming.items c.deliver_all.new.coming.items c.self.inside.clients.items cs kept c.args.self.now none c.in_ok-deliver_all.ensures.same c.self.view_is in
    sheds_of c.args.any c.args.most c.args.bytes c.args.client cs kept c.args.self.now seen c.index_mut.result.now c.shed-count.new.self c.shed-count.result c.deliver_all.new.coming.items none
    (omega (arith, c.if-client-len.false, c.len.ensures)) c.index_mut.ensures.value c.shed-count.ensures.count c.shed-count.ensures.now

pub returns-clause-count : goal.returns-clause-count
returns-clause-count c =
    let cs : List ClientState = c.deliver_all.new.clients.items in
    let kept : List Publish = c.self.inside.retained.items in
    let none = c.in_ok-deliver_all.ensures.none in
    let seen = settled c.self.inside.coming.items c.deliver_all.new.coming.items c.self.inside.clients.items cs kept c.args.self.now none c.in_ok-deliver_all.ensures.same c.self.view_is in
    some_shed c.args.any c.args.most c.args.bytes c.args.client cs kept c.args.self.now seen c.index_mut.result.now c.shed-count.result
    (omega (arith, c.if-client-len.false, c.len.ensures)) c.index_mut.ensures.value c.shed-count.ensures.count

pub invariant_of-self : goal.invariant_of-self
invariant_of-self c = c.deliver_all.ensures.followed c.self.inside.index c.self.invariant

pub invariant_of-self-then-client-len : goal.invariant_of-self-then-client-len
invariant_of-self-then-client-len c = c.deliver_all.ensures.followed c.self.inside.index c.self.invariant

pub invariant_of-self-2 : goal.invariant_of-self-2
invariant_of-self-2 c =
    let followed = c.deliver_all.ensures.followed c.self.inside.index c.self.invariant in
    followed_kept c.self.inside.index c.deliver_all.new.noted c.deliver_all.new.clients.items followed c.args.client c.index_mut.result.now c.shed-count.new.self (omega (arith, c.if-client-len.false, c.len.ensures)) c.index_mut.ensures.value
    (ap (λ (x : ClientState). x.kept.subscriptions) c.shed-count.ensures.now ∙ shed_marks c.shed-count.result c.index_mut.result.now)
    (λ h. shed_waits c.shed-count.result c.index_mut.result.now (sym (ap waits c.shed-count.ensures.now) ∙ h))
