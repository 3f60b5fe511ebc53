use Rattle.std.proofs.Common.{List, refl, arith}
use Rattle.mqtt5_publish.specs.declared.publish.Publish.{Publish}
use Rattle.mqtt5_sessions.specs.Sessions.{ClientState, with_dated_will}
use Rattle.mqtt5_sessions.proofs.Delivered.{seen_changed, seen_unchanged}
use Rattle.mqtt5_sessions.proofs.sessions.Sessions.set_will_expiry.Goals as goal

pub returns-then-client-len : goal.returns-then-client-len
returns-then-client-len c =
    let cs : List ClientState = c.self.inside.clients.items in
    let kept : List Publish = c.self.inside.retained.items in
    seen_unchanged (with_dated_will c.args.interval) c.args.client c.self.inside.coming.items cs kept c.args.self.now (omega (arith, c.if-client-len.true, c.len.ensures)) c.self.view_is

pub returns : goal.returns
returns c =
    let cs : List ClientState = c.self.inside.clients.items in
    let kept : List Publish = c.self.inside.retained.items in
    seen_changed (with_dated_will c.args.interval) (λ ps x. refl) c.args.client c.self.inside.coming.items cs kept c.args.self.now c.index_mut.result.now c.set_will_expiry.new.self
    (omega (arith, c.if-client-len.false, c.len.ensures)) c.index_mut.ensures.value c.set_will_expiry.ensures c.self.view_is
