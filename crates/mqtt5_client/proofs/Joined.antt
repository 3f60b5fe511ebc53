-- Two calls of a client, one after the other, are one; and what a take makes of a run.
use Rattle.std.proofs.Common.{◌≡◌, ℕ, Bool, List, [], ◌∷◌, ◌++◌, refl, sym, ap, subst, ◌∙◌, append_assoc, take, drop, take-append-drop}
use Rattle.mqtt5_codec.specs.declared.codec.Codec.{Codec}
use Rattle.mqtt5_inflight.specs.declared.error.StateError.{StateError}
use Rattle.std.specs.Prelude.{◌||◌}
use Rattle.mqtt5_drive.specs.declared.run.Step.{Step}
use Rattle.mqtt5_drive.specs.Trace.{Holds, finish, Stops}
use Rattle.mqtt5_drive.specs.Run.{turns, run}
use Rattle.mqtt5_drive.proofs.Joins.{twice_ok, twice_stops}
use Rattle.mqtt5_client.specs.declared.client.Client.{Client}
use Rattle.mqtt5_client.specs.Client.{IsReady, trace, disconnects, is_disconnected, Runs, Fails}
use Rattle.mqtt5_client.proofs.Behind.{shifted, finish-shifted, stops-shifted}

-- a Disconnect is asked for in the one or in the other
disconnected_after : (before : Bool) (first second : List Step) → is_disconnected before (first ++ second) ≡ is_disconnected (is_disconnected before first) second
disconnected_after before [] second = refl
disconnected_after before (step ∷ first) second = disconnected_after (disconnects step.input || before) first second

module _ (p q r : Client) (first second : List Step) (sent more : List ℕ) (ran : Runs p first sent q) (codec : q.codec ≡ p.codec) where
  -- the second run, behind what was sent of the first
  follows : finish q.state (sent ++ q.output.items) (run p.codec (turns second) q.state q.input.items) ≡ shifted sent (finish q.state q.output.items (trace q second))
  follows =
      finish-shifted sent q.state q.output.items (run p.codec (turns second) q.state q.input.items)
      ∙ ap (λ (c : Codec). shifted sent (finish q.state q.output.items (run c (turns second) q.state q.input.items))) (sym codec)

  pub join_runs : Runs q second more r → Runs p (first ++ second) (sent ++ more) r
  join_runs h = record {
    all = twice_ok p.codec p.state q.state r.state p.output.items (sent ++ q.output.items) ((sent ++ more) ++ r.output.items) p.input.items q.input.items r.input.items first second ran.all
        (follows ∙ ap (shifted sent) h.all ∙ ap (λ (o : List ℕ). record { session = r.state; output = o; ending = Holds r.input.items }) (sym (append_assoc sent more r.output.items)));
    ready = h.ready;
    over = h.over ∙ ap (λ (b : Bool). is_disconnected b second) ran.over ∙ sym (disconnected_after p.disconnected first second);
  }

  pub join_fails : (e : StateError) → Fails e q second more r → Fails e p (first ++ second) (sent ++ more) r
  join_fails e h =
      twice_stops p.codec p.state q.state r.state p.output.items (sent ++ q.output.items) ((sent ++ more) ++ r.output.items) p.input.items q.input.items first second e ran.all
      (subst (λ (o : List ℕ). Stops e q.state (sent ++ q.output.items) (run p.codec (turns second) q.state q.input.items) r.state o) (sym (append_assoc sent more r.output.items))
      (stops-shifted sent e q.state q.output.items (run p.codec (turns second) q.state q.input.items) r.state (more ++ r.output.items)
      (subst (λ (c : Codec). Stops e q.state q.output.items (run c (turns second) q.state q.input.items) r.state (more ++ r.output.items)) codec h)))

-- taking from the output is a run without steps
pub took_runs : (old new : Client) (n : ℕ) → new.state ≡ old.state → new.codec ≡ old.codec → new.input.items ≡ old.input.items → new.output.items ≡ drop n old.output.items
    → new.disconnected ≡ old.disconnected → IsReady old → Runs old [] (take n old.output.items) new
unfolding run
took_runs old new n state codec input left over ready = record {
  all = sym (rw (state, input, left, take-append-drop n old.output.items) refl);
  ready = rw (codec, input) ready;
  over = over;
}
