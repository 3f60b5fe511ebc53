use Rattle.std.proofs.Common.{false}
use Rattle.mqtt5_broker.proofs.Dated.{undated}
use Rattle.mqtt5_broker.proofs.broker.Broker.lose_connection.Goals as goal

pub returns-clause-left : goal.returns-clause-left
returns-clause-left c =
    undated c.lose_now-outcome.result c.args.client false c.date_will-before.result c.args.self.now c.date_will-before.new.self c.lose_now-outcome.new.self c.undate_will.new.self
    c.date_will-before.ensures.dated c.date_will-before.ensures.before c.lose_now-outcome.ensures.left c.undate_will.ensures.err
