use Rattle.std.proofs.Common.{ap, ◌∙◌, arith, length}
use Rattle.mqtt5_network.specs.Place.{happens_at}
use Rattle.mqtt5_network.specs.Network.{Network, changed, newly}
use Rattle.mqtt5_network_play.specs.contracts.network.Network.{the_view}
use Rattle.mqtt5_network_play.proofs.Placed.{happens_on, newly_on}
use Rattle.mqtt5_network_play.proofs.network.Network.happen.Goals as goal

pub returns-clause-changed : goal.returns-clause-changed
returns-clause-changed c =
    let seen : Network = the_view c.self.inside in
    let e = c.args.event.now in
    let i = c.args.client in
    happens_on seen i e c.index_mut.result.now c.play.new.self (omega (arith, c.requires, ap (λ (n : Network). length n.places) c.self.view_is)) c.index_mut.ensures.value c.in_ok-new.ensures.ok
    ∙ ap (λ (n : Network). record n { places = changed i (λ p. happens_at p e) n.places }) c.self.view_is

pub returns-clause-new : goal.returns-clause-new
returns-clause-new c =
    let seen : Network = the_view c.self.inside in
    let e = c.args.event.now in
    let i = c.args.client in
    newly_on seen i e c.index_mut.result.now c.play.new.self c.in_ok-new.new.items (omega (arith, c.requires, ap (λ (n : Network). length n.places) c.self.view_is)) c.index_mut.ensures.value c.in_ok-new.ensures.ok c.in_ok-new.ensures.new
    ∙ ap (λ (n : Network). newly i (λ p. happens_at p e) n.places) c.self.view_is
