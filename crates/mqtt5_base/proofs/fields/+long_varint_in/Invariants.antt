use Rattle.mqtt5_base.proofs.fields.+long_varint_in.Given as goal

abbrev pub decreases-long_varint_in : goal.decreases-long_varint_in
decreases-long_varint_in l = l.most
