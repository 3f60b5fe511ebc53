use Rattle.std.proofs.Common.{List, sym, ap, ◌∙◌, slice_index_or, ◌≡◌, arith}
use Rattle.mqtt5_sessions.specs.Sessions.{ClientState, new_state}
use Rattle.mqtt5_sessions.specs.Expiry.{delays, will_is_delayed}
use Rattle.mqtt5_sessions.proofs.Delivered.{at_new, will_delivered, will_past}
use Rattle.mqtt5_sessions.proofs.sessions.Sessions.will_is_delayed.Goals as goal

pub returns-then-client-len : goal.returns-then-client-len
returns-then-client-len c =
    let i = c.args.client in
    let cs : List ClientState = c.self.inside.clients.items in
    let is : will_is_delayed i c.args.self.now ≡ delays (slice_index_or cs i (new_state 0)).will =
    ap (will_is_delayed i) (sym c.self.view_is) ∙ ap delays (will_delivered i (new_state 0) c.self.inside.coming.items cs) in
    sym (is ∙ ap delays (will_past i cs (omega (arith, c.if-client-len.true, c.len.ensures))))

pub returns : goal.returns
returns c =
    let i = c.args.client in
    let cs : List ClientState = c.self.inside.clients.items in
    let is : will_is_delayed i c.args.self.now ≡ delays (slice_index_or cs i (new_state 0)).will =
    ap (will_is_delayed i) (sym c.self.view_is) ∙ ap delays (will_delivered i (new_state 0) c.self.inside.coming.items cs) in
    c.will_is_delayed.ensures
    ∙ ap (λ (x : ClientState). delays x.will) (at_new i cs c.index.result.now (omega (arith, c.if-client-len.false, c.len.ensures)) c.index.ensures)
    ∙ sym is
