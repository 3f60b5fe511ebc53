use Rattle.std.proofs.Common.{◌++◌, sym, ap, ◌∙◌}
use Rattle.mqtt5_network.specs.Place.{renewed}
use Rattle.mqtt5_network.specs.Network.{Network, changed}
use Rattle.mqtt5_network_play.specs.Plays.{at}
use Rattle.mqtt5_network_play.proofs.Placed.{ends_on, stays_on}
use Rattle.mqtt5_network_play.proofs.network.Network.change.Goals as goal

pub returns-then-is_end-clause-changed : goal.returns-then-is_end-clause-changed
returns-then-is_end-clause-changed c =
    c.in_ok-end.ensures.ok
    ∙ ap (λ (n : Network). record n { places = changed c.args.client renewed n.places; ended = n.ended ++ at c.args.client n.places }) c.in_ok-new.ensures.changed
    ∙ ends_on c.args.self.now c.args.client c.args.event.now (sym c.is_end.ensures ∙ c.if-is_end.true)

pub returns-clause-changed : goal.returns-clause-changed
returns-clause-changed c = c.in_ok-new.ensures.changed ∙ stays_on c.args.self.now c.args.client c.args.event.now (sym c.is_end.ensures ∙ c.if-is_end.false)
