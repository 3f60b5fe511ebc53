use Rattle.std.proofs.Common.{◌∙◌}
use Rattle.mqtt5_sessions.proofs.Delivered.{will_some, will_none}
use Rattle.mqtt5_sessions.proofs.coming.of_will.Goals as goal

pub returns-in_ok-of_publish-in-Some : goal.returns-in_ok-of_publish-in-Some
returns-in_ok-of_publish-in-Some c = c.in_ok-of_publish-in-Some.ensures ∙ will_some c.args.client c.args.clients.now c.index-clients-client.result c.in-Some.publish.now c.requires.there c.index-clients-client.is c.in-Some.ensures

pub returns-in-None : goal.returns-in-None
returns-in-None c = c.new.ensures.items ∙ will_none c.args.client c.args.clients.now c.index-clients-client.result c.requires.there c.index-clients-client.is c.in-None.ensures
