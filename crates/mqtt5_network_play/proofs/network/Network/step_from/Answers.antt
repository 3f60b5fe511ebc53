use Rattle.std.proofs.Common.{sym, ap, ◌∙◌, arith}
use Rattle.mqtt5_network.specs.Network.{Network}
use Rattle.mqtt5_network_play.proofs.Stepped.{next_is_step, moves_at, busy_at, rest_at, rest_all}
use Rattle.mqtt5_network_play.proofs.network.Network.step_from.Goals as goal

pub returns-in-Some-clause-step : goal.returns-in-Some-clause-step
returns-in-Some-clause-step c = next_is_step c.index-in-loop-client.result.now c.in-Some.what (sym c.in-Some.ensures.step)

pub returns-in-Some-clause-moves : goal.returns-in-Some-clause-moves
returns-in-Some-clause-moves c =
    moves_at c.args.self.now c.loop-client.client c.index-in-loop-client.result.now c.self.inside.places.items
    (ap (λ (n : Network). n.places) c.self.view_is)
    (omega (arith, c.loop-client-test.true, c.len-client-end.ensures)) c.index-in-loop-client.ensures
    c.in-Some.what c.in-Some.ensures.can c.in-Some.ensures.step

pub returns-in-Some-clause-some : goal.returns-in-Some-clause-some
returns-in-Some-clause-some c =
    busy_at c.args.self.now c.loop-client.client c.index-in-loop-client.result.now c.self.inside.places.items
    (ap (λ (n : Network). n.places) c.self.view_is)
    (omega (arith, c.loop-client-test.true, c.len-client-end.ensures)) c.index-in-loop-client.ensures
    c.in-Some.what c.in-Some.ensures.step

pub loop-client-preserved : goal.loop-client-preserved
loop-client-preserved c =
    rest_at c.args.self.now c.loop-client.client c.index-in-loop-client.result.now c.self.inside.places.items
    (ap (λ (n : Network). n.places) c.self.view_is)
    (omega (arith, c.loop-client-test.true, c.len-client-end.ensures)) c.index-in-loop-client.ensures
    (sym c.in_default.is ∙ c.next_step.ensures.step) c.loop-client.invariant

pub returns-clause-none : goal.returns-clause-none
returns-clause-none c = λ e. rest_all c.args.self.now c.loop-client.client c.self.inside.places.items (ap (λ (n : Network). n.places) c.self.view_is) (omega (arith, c.loop-client-test.false, c.len-client-end.ensures)) c.loop-client.invariant

pub loop-client-preserved-then-rests : goal.loop-client-preserved-then-rests
loop-client-preserved-then-rests c =
    rest_at c.args.self.now c.loop-client.client c.index.result.now c.self.inside.places.items
    (ap (λ (n : Network). n.places) c.self.view_is)
    (omega (arith, c.loop-client-test.true, c.len-client-end.ensures)) c.index.ensures
    (sym (c.rests.ensures c.if-rests.true)) c.loop-client.invariant
