use Rattle.std.proofs.Common.{refl}
use Rattle.mqtt5_client.proofs.Taken.{taken_as_piece, stopped_as_piece}
use Rattle.mqtt5_client.proofs.client.Client.take_input.Goals as goal

pub returns-in-Ok-clause-ok : goal.returns-in-Ok-clause-ok
returns-in-Ok-clause-ok c = λ before came put. taken_as_piece before c.args.self.now (record c.args.self.now { state = c.take_input.new.state; input = c.take_input.new.input; output = c.take_input.new.output }) c.args.at came put c.in-Ok.ensures.ok c.in-Ok.ensures.more refl

pub returns-in-Err-clause-err : goal.returns-in-Err-clause-err
returns-in-Err-clause-err c = λ before came put. stopped_as_piece before c.args.self.now (record c.args.self.now { state = c.take_input.new.state; output = c.take_input.new.output }) c.args.at came put _ c.in-Err.ensures.err
