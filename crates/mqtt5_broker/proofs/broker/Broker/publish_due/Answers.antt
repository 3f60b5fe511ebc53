use Rattle.std.proofs.Common.{true}
use Rattle.mqtt5_broker.proofs.Dated.{undated}
use Rattle.mqtt5_broker.proofs.broker.Broker.publish_due.Goals as goal

pub returns-clause-left : goal.returns-clause-left
returns-clause-left c =
    undated c.publish_now-outcome.result c.args.client true c.date_will-before.result c.args.self.now c.date_will-before.new.self c.publish_now-outcome.new.self c.undate_will.new.self
    c.date_will-before.ensures.dated c.date_will-before.ensures.before c.publish_now-outcome.ensures.left c.undate_will.ensures.err
