use Rattle.std.proofs.Common.{List, sym, ap, ◌∙◌, slice_index_or, ◌≡◌, arith}
use Rattle.mqtt5_sessions.specs.Sessions.{ClientState, new_state}
use Rattle.mqtt5_sessions.specs.Expiry.{expiry_of_will, will_expiry}
use Rattle.mqtt5_sessions.proofs.Delivered.{at_new, will_delivered, will_past}
use Rattle.mqtt5_sessions.proofs.sessions.Sessions.will_expiry.Goals as goal

pub returns-then-client-len : goal.returns-then-client-len
returns-then-client-len c =
    let i = c.args.client in
    let cs : List ClientState = c.self.inside.clients.items in
    let is : will_expiry i c.args.self.now ≡ expiry_of_will (slice_index_or cs i (new_state 0)).will =
    ap (will_expiry i) (sym c.self.view_is) ∙ ap expiry_of_will (will_delivered i (new_state 0) c.self.inside.coming.items cs) in
    sym (is ∙ ap expiry_of_will (will_past i cs (omega (arith, c.if-client-len.true, c.len.ensures))))

pub returns : goal.returns
returns c =
    let i = c.args.client in
    let cs : List ClientState = c.self.inside.clients.items in
    let is : will_expiry i c.args.self.now ≡ expiry_of_will (slice_index_or cs i (new_state 0)).will =
    ap (will_expiry i) (sym c.self.view_is) ∙ ap expiry_of_will (will_delivered i (new_state 0) c.self.inside.coming.items cs) in
    c.will_expiry.ensures
    ∙ ap (λ (x : ClientState). expiry_of_will x.will) (at_new i cs c.index.result.now (omega (arith, c.if-client-len.false, c.len.ensures)) c.index.ensures)
    ∙ sym is
