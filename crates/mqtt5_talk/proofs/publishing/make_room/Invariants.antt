use Rattle.std.proofs.Common.{[]}
use Rattle.mqtt5_client.specs.Client.{IsReady}
use Rattle.mqtt5_talk.specs.Conversation.{Talked}
use Rattle.mqtt5_talk.proofs.publishing.make_room.Given as goal

abbrev pub invariant-loop : goal.invariant-loop
invariant-loop g l = record {
  ready : IsReady l.client;
  talked : Talked l.pings (g.R.Read.remaining l.fn.reader) (g.R.Read.remaining l.reader) (g.W.Write.contents l.fn.writer) (g.W.Write.contents l.writer) l.fn.client [] l.client;
}
