use Rattle.mqtt5_publish.proofs.pubrel.PubRel.size.Goals as goal

pub returns : goal.returns
returns c = c.ack_size.ensures 98 c.args.self.now.pkid
