use Rattle.std.proofs.Common.{List, sym, ap, ◌∙◌, arith}
use Rattle.mqtt5_sessions.specs.Sessions.{ClientState, is_here}
use Rattle.mqtt5_sessions.proofs.Delivered.{here_past, here_at, here_delivered}
use Rattle.mqtt5_sessions.proofs.sessions.Sessions.is_here.Goals as goal

pub returns-then-client-len : goal.returns-then-client-len
returns-then-client-len c =
    let i = c.args.client in
    let cs : List ClientState = c.self.inside.clients.items in
    sym (ap (is_here i) (sym c.self.view_is) ∙ here_delivered i c.self.inside.coming.items cs ∙ here_past i cs (omega (arith, c.if-client-len.true, c.len.ensures)))

pub returns : goal.returns
returns c =
    let i = c.args.client in
    let cs : List ClientState = c.self.inside.clients.items in
    c.is_here.ensures
    ∙ here_at i cs c.index.result.now (omega (arith, c.if-client-len.false, c.len.ensures)) c.index.ensures
    ∙ sym (ap (is_here i) (sym c.self.view_is) ∙ here_delivered i c.self.inside.coming.items cs)
