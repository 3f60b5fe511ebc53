use Rattle.std.proofs.Common.{◌≡◌, false, []}
use Rattle.mqtt5_client.specs.Client.{IsReady}
use Rattle.mqtt5_talk.specs.Conversation.{Talked}
use Rattle.mqtt5_talk.proofs.opening.await_answer.Given as goal

abbrev pub invariant-loop : goal.invariant-loop
invariant-loop g l = record {
  ready : IsReady l.client;
  none : l.client.state.events ≡ [];
  codec : l.client.codec ≡ l.fn.client.codec;
  talked : Talked false (g.R.Read.remaining l.fn.reader) (g.R.Read.remaining l.reader) (g.W.Write.contents l.fn.writer) (g.W.Write.contents l.writer) l.fn.client [] l.client;
}
