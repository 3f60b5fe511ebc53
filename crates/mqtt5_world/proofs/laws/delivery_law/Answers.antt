use Rattle.mqtt5_world.proofs.Contents.{at_most, at_least, for_each_loss, ledger, content_class, content_decides}
use Rattle.mqtt5_world.proofs.laws.delivery_law.Goals as goal

pub returns-clause-at_most_once : goal.returns-clause-at_most_once
returns-clause-at_most_once c = λ limit events qos test class other. at_most test limit events qos other class

pub returns-clause-at_least_once : goal.returns-clause-at_least_once
returns-clause-at_least_once c = λ limit events qos test class other. at_least test limit events qos other class

pub returns-clause-for_each_loss : goal.returns-clause-for_each_loss
returns-clause-for_each_loss c = λ limit events test class. for_each_loss test limit events class

pub returns-clause-ledger : goal.returns-clause-ledger
returns-clause-ledger c = λ limit events test class. ledger test limit events class

pub returns-clause-contents : goal.returns-clause-contents
returns-clause-contents c = content_class

pub returns-clause-decides : goal.returns-clause-decides
returns-clause-decides c = content_decides
