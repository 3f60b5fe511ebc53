use Rattle.mqtt5_client.specs.Client.{IsReady}
use Rattle.mqtt5_pubsub.proofs.kept_talk.take_answer.Given as goal

abbrev pub invariant-loop : goal.invariant-loop
invariant-loop l = IsReady l.fn.client → IsReady l.client
