use Rattle.mqtt5_client.specs.Client.{IsReady}
use Rattle.mqtt5_pubsub.proofs.kept_subscribing.await_kept.Given as goal

abbrev pub invariant-loop : goal.invariant-loop
invariant-loop g l = IsReady l.client
