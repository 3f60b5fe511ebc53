use Rattle.std.proofs.Common.{List, refl, arith, ap, ◌∙◌, sym}
use Rattle.mqtt5_publish.specs.declared.publish.Publish.{Publish}
use Rattle.mqtt5_sessions.specs.Sessions.{ClientState, with_turn_of}
use Rattle.mqtt5_sessions.proofs.Delivered.{seen_changed, seen_unchanged}
use Rattle.mqtt5_sessions.specs.Indexed.{marks_in}
use Rattle.mqtt5_sessions.specs.Waiting.{waits}
use Rattle.mqtt5_sessions.proofs.Indexed.{turned_marks}
use Rattle.mqtt5_sessions.proofs.Noted.{followed_marks}
use Rattle.mqtt5_sessions.proofs.sessions.Sessions.turn.Goals as goal

pub returns-then-client-len : goal.returns-then-client-len
returns-then-client-len c =
    let cs : List ClientState = c.self.inside.clients.items in
    let kept : List Publish = c.self.inside.retained.items in
    seen_unchanged (with_turn_of c.args.topic_filter.now c.args.turn) c.args.client c.self.inside.coming.items cs kept c.args.self.now (omega (arith, c.if-client-len.true, c.len.ensures)) c.self.view_is

pub returns : goal.returns
returns c =
    let cs : List ClientState = c.self.inside.clients.items in
    let kept : List Publish = c.self.inside.retained.items in
    seen_changed (with_turn_of c.args.topic_filter.now c.args.turn) (λ ps x. refl) c.args.client c.self.inside.coming.items cs kept c.args.self.now c.index_mut.result.now c.turn.new.self
    (omega (arith, c.if-client-len.false, c.len.ensures)) c.index_mut.ensures.value c.turn.ensures c.self.view_is

pub invariant_of-self : goal.invariant_of-self
invariant_of-self c =
    followed_marks c.self.inside.index c.self.inside.noted c.self.inside.clients.items c.self.invariant c.args.client c.index_mut.result.now c.turn.new.self (omega (arith, c.if-client-len.false, c.len.ensures)) c.index_mut.ensures.value
    (ap (λ (x : ClientState). marks_in x.kept.subscriptions) c.turn.ensures ∙ turned_marks c.args.topic_filter.now c.args.turn c.index_mut.result.now.kept.subscriptions)
    (λ h. sym (ap waits c.turn.ensures) ∙ h)
