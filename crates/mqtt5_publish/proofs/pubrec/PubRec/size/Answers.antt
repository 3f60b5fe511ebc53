use Rattle.mqtt5_publish.proofs.pubrec.PubRec.size.Goals as goal

pub returns : goal.returns
returns c = c.ack_size.ensures 80 c.args.self.now.pkid
