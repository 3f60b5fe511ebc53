-- Bytes that stand in the input are taken as a piece is.
use Rattle.std.proofs.Common.{◌≡◌, ℕ, List, [], ◌∷◌, ◌++◌, sym, ap, ◌∙◌, subst}
use Rattle.mqtt5_base.specs.Front.{NeedsMore}
use Rattle.mqtt5_base.specs.FrontAt.{front}
use Rattle.mqtt5_inflight.specs.declared.error.StateError.{StateError}
use Rattle.mqtt5_drive.specs.Trace.{Holds, finish, Stops}
use Rattle.mqtt5_drive.specs.Run.{turns, run, piece}
use Rattle.mqtt5_client.specs.declared.client.Client.{Client}
use Rattle.mqtt5_client.specs.Client.{IsReady, Fed, Runs, Fails}

module _ (before fed new : Client) (at : ℕ) (came : List ℕ) (put : Fed before came fed) where
  ready : NeedsMore (front fed.codec.max_incoming_size before.input.items)
  ready = subst (λ (c : Client). NeedsMore (front c.codec.max_incoming_size before.input.items)) (sym put.same) put.ready

  pub taken_as_piece : ((held bytes : List ℕ) → fed.input.items ≡ held ++ bytes → NeedsMore (front fed.codec.max_incoming_size held)
      → finish fed.state fed.output.items (run fed.codec (turns (piece at bytes ∷ [])) fed.state held) ≡ record { session = new.state; output = new.output.items; ending = Holds new.input.items })
      → IsReady new → new.disconnected ≡ fed.disconnected → Runs before (piece at came ∷ []) [] new
  taken_as_piece h more over = record {
    all = subst (λ (c : Client). finish c.state c.output.items (run c.codec (turns (piece at came ∷ [])) c.state before.input.items) ≡ record { session = new.state; output = new.output.items; ending = Holds new.input.items }) put.same (h before.input.items came put.grown ready);
    ready = more;
    over = over ∙ ap (λ (c : Client). c.disconnected) put.same;
  }

  pub stopped_as_piece : (e : StateError) → ((held bytes : List ℕ) → fed.input.items ≡ held ++ bytes → NeedsMore (front fed.codec.max_incoming_size held)
      → Stops e fed.state fed.output.items (run fed.codec (turns (piece at bytes ∷ [])) fed.state held) new.state new.output.items)
      → Fails e before (piece at came ∷ []) [] new
  stopped_as_piece e h =
      subst (λ (c : Client). Stops e c.state c.output.items (run c.codec (turns (piece at came ∷ [])) c.state before.input.items) new.state new.output.items) put.same (h before.input.items came put.grown ready)
