use Rattle.std.proofs.Common.{ap, ◌∙◌}
use Rattle.std.specs.Option.{option_to_list}
use Rattle.mqtt5_network.specs.Connection.{is_sending}
use Rattle.mqtt5_network.specs.Asking.{is_ack}
use Rattle.mqtt5_network.specs.Client.{Client, comes_to}
use Rattle.mqtt5_network_play.specs.contracts.client.Client.{the_view}
use Rattle.mqtt5_network_play.proofs.Asked.{arrives}
use Rattle.mqtt5_network_play.proofs.client.Client.arrive.Goals as goal

pub returns-clause-ok : goal.returns-clause-ok
returns-clause-ok c =
    let x = c.args.packet in
    let seen : Client = the_view c.self.inside in
    arrives seen x c.arrive.new.self c.push_some.new.all.items (option_to_list c.in_ok-arrived.arrived.handed) c.send.new.way.items (option_to_list c.in_ok-arrived.arrived.reply)
    c.in_ok-arrived.ensures.kept c.in_ok-push_some.ensures c.in_ok-arrived.ensures.handed c.in_ok-send.ensures c.in_ok-arrived.ensures.reply
    ∙ ap (λ (d : Client). comes_to (is_sending x) (is_ack x) d x) c.self.view_is
