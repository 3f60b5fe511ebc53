use Rattle.mqtt5_network.proofs.Subscribed.{grants_stay, shown_by_one}
use Rattle.mqtt5_network.proofs.laws.subscribing_law.Goals as goal

pub returns-clause-stays : goal.returns-clause-stays
returns-clause-stays c = grants_stay

pub returns-clause-exactly_once : goal.returns-clause-exactly_once
returns-clause-exactly_once c = shown_by_one
