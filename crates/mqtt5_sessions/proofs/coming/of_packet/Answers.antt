use Rattle.std.proofs.Common.{◌∙◌}
use Rattle.mqtt5_sessions.proofs.Delivered.{other_is}
use Rattle.mqtt5_sessions.proofs.coming.of_packet.Goals as goal

pub returns-in_ok-to_client-in_default : goal.returns-in_ok-to_client-in_default
returns-in_ok-to_client-in_default c =
    c.in_ok-to_client-in_default.ensures
    ∙ other_is c.args.client c.args.retained.now c.args.clients.now c.args.packet.now c.index-clients-client.result c.in_ok-copies-in_default.copies.items c.in_default.not-Publish c.requires.there c.index-clients-client.is c.in_ok-copies-in_default.ensures
