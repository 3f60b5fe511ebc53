use Rattle.mqtt5_publish.proofs.puback.PubAck.size.Goals as goal

pub returns : goal.returns
returns c = c.ack_size.ensures 64 c.args.self.now.pkid
