use Rattle.mqtt5_client.specs.Client.{IsReady}
use Rattle.mqtt5_pubsub.proofs.keeping.forget_events.Given as goal

abbrev pub invariant-loop : goal.invariant-loop
invariant-loop l = IsReady l.fn.client → IsReady l.client
