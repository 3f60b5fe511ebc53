-- Turns at one moment, one after the other, are one.
use Rattle.std.proofs.Common.{◌≡◌, ℕ, List, [], ◌∷◌, ◌++◌, refl, sym, ap, subst, ◌∙◌, append_assoc, Result, Ok, Err}
use Rattle.bytes.specs.Filled.{Filled}
use Rattle.mqtt5_inflight.specs.declared.error.StateError.{StateError}
use Rattle.mqtt5_inflight.specs.declared.event.Event.{Event}
use Rattle.mqtt5_drive.specs.declared.run.Step.{Step}
use Rattle.mqtt5_drive.specs.Trace.{finish, Stops}
use Rattle.mqtt5_drive.specs.Run.{Turn, byte_turns, turns, run, piece}
use Rattle.mqtt5_drive.specs.Limit.{codec_after}
use Rattle.mqtt5_drive.proofs.Cuts.{bytes_of-append}
use Rattle.mqtt5_client.specs.declared.client.Client.{Client}
use Rattle.mqtt5_client.specs.Client.{IsReady, Runs, Fails}
use Rattle.mqtt5_client.proofs.Joined.{join_runs, join_fails}
use Rattle.mqtt5_pipe.specs.declared.error.PipeError.{PipeError}
use Rattle.mqtt5_pipe.specs.declared.error.PipeError.TheVariants.{Read, Write, Session as OfSession, Unanswered}
use Rattle.mqtt5_pipe.specs.Pipe.{StopsBy, Leaves}

-- two pieces are one
two_pieces : (at : ℕ) (a b : List ℕ) → turns (piece at a ∷ piece at b ∷ []) ≡ turns (piece at (a ++ b) ∷ [])
two_pieces at a b =
    sym (append_assoc (byte_turns at a) (byte_turns at b) []) ∙ ap (λ (ts : List Turn). ts ++ []) (sym (bytes_of-append at a b))

module _ (p r : Client) (at : ℕ) (a b : List ℕ) (sent : List ℕ) where
  as_one_runs : Runs p (piece at a ∷ piece at b ∷ []) sent r → Runs p (piece at (a ++ b) ∷ []) sent r
  as_one_runs h = record {
    all = ap (λ (ts : List Turn). finish p.state p.output.items (run p.codec ts p.state p.input.items)) (sym (two_pieces at a b)) ∙ h.all;
    ready = h.ready;
    over = h.over;
  }

  as_one_fails : (e : StateError) → Fails e p (piece at a ∷ piece at b ∷ []) sent r → Fails e p (piece at (a ++ b) ∷ []) sent r
  as_one_fails e h = subst (λ (ts : List Turn). Stops e p.state p.output.items (run p.codec ts p.state p.input.items) r.state (sent ++ r.output.items)) (two_pieces at a b) h

-- a turn after turns at the same moment
module _ (p q r : Client) (at : ℕ) (a b : List ℕ) (sent more : List ℕ) (ran : Runs p (piece at a ∷ []) sent q) (codec : q.codec ≡ p.codec) where
  pub turn_runs : Runs q (piece at b ∷ []) more r → Runs p (piece at (a ++ b) ∷ []) (sent ++ more) r
  turn_runs h = as_one_runs p r at a b (sent ++ more) (join_runs p q r (piece at a ∷ []) (piece at b ∷ []) sent more ran codec h)

  turn_fails : (e : StateError) → Fails e q (piece at b ∷ []) more r → Fails e p (piece at (a ++ b) ∷ []) (sent ++ more) r
  turn_fails e h = as_one_fails p r at a b (sent ++ more) e (join_fails p q r (piece at a ∷ []) (piece at b ∷ []) sent more ran codec e h)

  pub turn_stops : (fault : PipeError) → StopsBy fault q (piece at b ∷ []) more r → StopsBy fault p (piece at (a ++ b) ∷ []) (sent ++ more) r
  turn_stops (Read error) h = turn_runs h
  turn_stops (Write error) h = turn_runs h
  turn_stops (OfSession e) h = (turn_fails e h.0, h.1)
  turn_stops (Unanswered e error) h = turn_fails e h

-- nothing came, and at most room was made for it
pub at_start : (p : Client) (at : ℕ) (input : Filled) → input.items ≡ p.input.items → IsReady p → Runs p (piece at [] ∷ []) [] (record p { input = input })
unfolding run
at_start p at input same ready = record { all = rw same refl; ready = rw same ready; over = refl }

-- a limit that is taken after a call
pub limited : {T : Type 0} (result : Result T PipeError) (p q : Client) (events : List Event) (steps : List Step) (sent : List ℕ) → Leaves result p steps sent q
    → Leaves result p steps sent (record q { codec = codec_after events q.codec })
limited (Ok x) p q events steps sent h = (record { all = h.0.all; ready = h.0.ready; over = h.0.over }, h.1)
limited (Err (Read error)) p q events steps sent h = record { all = h.all; ready = h.ready; over = h.over }
limited (Err (Write error)) p q events steps sent h = record { all = h.all; ready = h.ready; over = h.over }
limited (Err (OfSession e)) p q events steps sent h = h
limited (Err (Unanswered e error)) p q events steps sent h = h
