use Rattle.mqtt5_base.proofs.VarIntLemmas.{length_two}
use Rattle.mqtt5_base.proofs.fields.varint_in.Goals as goal

pub returns-in-len2-up-clause-value : goal.returns-in-len2-up-clause-value
returns-in-len2-up-clause-value c = length_two c.args.most c.args.bytes.now c.if-most-gt1.true c.in-len2-up.len_at_least c.if-a-ge128.true c.if-b-lt128.true
