use Rattle.std.proofs.Common.{◌≡◌, List, All}
use Rattle.std.specs.Prelude.{None}
use Rattle.mqtt5_publish.specs.declared.publish.Publish.{Publish}
use Rattle.mqtt5_client.specs.Client.{IsReady}
use Rattle.mqtt5_talk.specs.Capabilities.{forbidden_message}
use Rattle.mqtt5_talk.specs.Conversation.{Talked}
use Rattle.mqtt5_talk.specs.Published.{asks_of_all, GivesAll}
use Rattle.mqtt5_talk.proofs.publishing.publish_each.Given as goal

abbrev pub invariant-loop : goal.invariant-loop
invariant-loop g l = record {
  ready : IsReady l.client;
  sent : (ms : List Publish) × Talked l.pings (g.R.Read.remaining l.fn.reader) (g.R.Read.remaining l.reader) (g.W.Write.contents l.fn.writer) (g.W.Write.contents l.writer) l.fn.client (asks_of_all l.capabilities ms) l.client
      × GivesAll g.S.Source.gives l.fn.source ms l.source × All (λ m. forbidden_message l.capabilities m ≡ None) ms;
}
