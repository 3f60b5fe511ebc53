use Rattle.mqtt5_publish.proofs.pubcomp.PubComp.size.Goals as goal

pub returns : goal.returns
returns c = c.ack_size.ensures 112 c.args.self.now.pkid
