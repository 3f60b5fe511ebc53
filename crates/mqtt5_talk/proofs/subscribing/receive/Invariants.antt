use Rattle.std.proofs.Common.{◌≡◌, ℕ, ◌+◌, List}
use Rattle.mqtt5_publish.specs.declared.publish.Publish.{Publish}
use Rattle.mqtt5_client.specs.Client.{IsReady}
use Rattle.mqtt5_talk.specs.Answers.{acks_of, ShowsAll}
use Rattle.mqtt5_talk.specs.Conversation.{Talked}
use Rattle.mqtt5_talk.proofs.subscribing.receive.Given as goal

abbrev pub invariant-loop : goal.invariant-loop
invariant-loop g l = record {
  ready : IsReady l.client;
  shown : (ps : List Publish) × (n : ℕ) × Talked l.pings (g.R.Read.remaining l.fn.reader) (g.R.Read.remaining l.reader) (g.W.Write.contents l.fn.writer) (g.W.Write.contents l.writer) l.fn.client (acks_of ps) l.client
      × ShowsAll g.S.Screen.shows l.fn.screen ps n l.screen × (n + l.left ≡ l.count);
}
