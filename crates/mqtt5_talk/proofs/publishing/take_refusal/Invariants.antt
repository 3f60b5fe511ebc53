use Rattle.std.proofs.Common.{[]}
use Rattle.mqtt5_client.specs.Client.{IsReady}
use Rattle.mqtt5_talk.specs.Conversation.{Conversation}
use Rattle.mqtt5_talk.proofs.publishing.take_refusal.Given as goal

abbrev pub invariant-loop : goal.invariant-loop
invariant-loop l = record {
  talks : Conversation l.fn.client [] [] [] l.client;
  ready : IsReady l.fn.client → IsReady l.client;
}
