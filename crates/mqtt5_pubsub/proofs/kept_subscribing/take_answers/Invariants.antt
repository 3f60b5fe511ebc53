use Rattle.mqtt5_client.specs.Client.{IsReady}
use Rattle.mqtt5_pubsub.proofs.kept_subscribing.take_answers.Given as goal

abbrev pub invariant-loop : goal.invariant-loop
invariant-loop l = IsReady l.client
