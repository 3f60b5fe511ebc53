use Rattle.std.proofs.Common.{arith}
use Rattle.mqtt5_base.proofs.Powers.{power}
use Rattle.mqtt5_base.proofs.fields.+long_varint_in.Goals as goal

pub returns-then-b-lt128-clause-bound : goal.returns-then-b-lt128-clause-bound
returns-then-b-lt128-clause-bound t c = omega (arith, power c.args.most (omega arith) (omega arith))
