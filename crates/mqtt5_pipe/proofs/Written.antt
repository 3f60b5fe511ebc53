-- A run, and then a write of its output.
use Rattle.std.proofs.Common.{◌≡◌, ℕ, Option, List, [], ◌++◌, take, drop, Result, Ok, Err, sym, ap, ◌∙◌, append_assoc, take-append-drop}
use Rattle.std.specs.Prelude.{OnOk, IfErr}
use Rattle.std.specs.Io.KnownBytes.{Appends}
use Rattle.std.proofs.KnownBytes.{Appends-trans}
use Rattle.std.specs.declared.io.Error.{Error}
use Rattle.mqtt5_inflight.specs.declared.error.StateError.{StateError}
use Rattle.mqtt5_drive.specs.declared.run.Step.{Step}
use Rattle.mqtt5_client.specs.declared.client.Client.{Client}
use Rattle.mqtt5_client.specs.Client.{Runs, Fails}
use Rattle.mqtt5_pipe.specs.Pipe.{Leaves}
use Rattle.mqtt5_pipe.specs.Ends.{ends}

-- what is written goes from the output to sent
module _ (old mid new : Client) (steps : List Step) (sent : List ℕ) (state : new.state ≡ mid.state) (codec : new.codec ≡ mid.codec) (input : new.input ≡ mid.input) (over : new.disconnected ≡ mid.disconnected) (output : mid.output.items ≡ sent ++ new.output.items) where
  wrote_runs : Runs old steps [] mid → Runs old steps sent new
  wrote_runs h = record {
    all = rw (state, input, ← output) h.all;
    ready = rw (codec, input) h.ready;
    over = over ∙ h.over;
  }

  wrote_fails : (e : StateError) → Fails e old steps [] mid → Fails e old steps sent new
  wrote_fails e h = rw (state, ← output) h

  pub wrote : (taken : Result Unit StateError) (written : Result Unit Error) → OnOk taken (Runs old steps [] mid) → IfErr taken (λ e. Fails e old steps [] mid) → OnOk written (new.output.items ≡ [])
      → Leaves (ends taken written) old steps sent new
  wrote (Ok x) (Ok y) ran fails whole = (wrote_runs ran, whole)
  wrote (Ok x) (Err error) ran fails whole = wrote_runs ran
  wrote (Err e) (Ok y) ran fails whole = (wrote_fails e fails, whole)
  wrote (Err e) (Err error) ran fails whole = wrote_fails e fails

-- a writer took the first n bytes of what was left of all
pub took : (a b c : Option (List ℕ)) (all sent left rest : List ℕ) (n : ℕ) → Appends a b sent → all ≡ sent ++ left → Appends b c (take n left) → rest ≡ drop n left
    → (more : List ℕ) × Appends a c more × (all ≡ more ++ rest)
took a b c all sent left rest n before split now gone = (
  sent ++ take n left,
  Appends-trans a b c sent (take n left) before now,
  split ∙ ap (λ (x : List ℕ). sent ++ x) (sym (take-append-drop n left)) ∙ sym (append_assoc sent (take n left) (drop n left)) ∙ ap (λ (x : List ℕ). (sent ++ take n left) ++ x) (sym gone),
)
