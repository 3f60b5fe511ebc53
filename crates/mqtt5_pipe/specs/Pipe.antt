-- What a call leaves of a client between a reader and a writer: its run over what was read, whose
-- output is what was written and what still waits to be (MQTT 5.0 section 4.2).
use Rattle.std.specs.Prelude.{◌≡◌, ◌≢◌, ℕ, List, [], ◌∷◌, length, Option, Result, Ok, Err, IfOk, ⊤}
use Rattle.std.specs.Io.KnownBytes.{Appends, Consumes}
use Rattle.std.specs.IoError.{error_kind}
use Rattle.std.specs.declared.io.ErrorKind.TheVariants.{Interrupted}
use Rattle.mqtt5_drive.specs.declared.run.Step.{Step}
use Rattle.mqtt5_drive.specs.Run.{piece}
use Rattle.mqtt5_client.specs.declared.client.Client.{Client}
use Rattle.mqtt5_client.specs.Client.{Runs, Fails}
use Rattle.mqtt5_pipe.specs.declared.error.PipeError.{PipeError}
use Rattle.mqtt5_pipe.specs.declared.error.PipeError.TheVariants.{Read, Write, Session, Unanswered}

-- what a call leaves that stops by a fault
abbrev pub StopsBy : PipeError → Client → List Step → List ℕ → Client → Type 0
StopsBy (Read error) old steps sent new = Runs old steps sent new
StopsBy (Write error) old steps sent new = Runs old steps sent new
StopsBy (Session e) old steps sent new = Fails e old steps sent new × (new.output.items ≡ [])
StopsBy (Unanswered e error) old steps sent new = Fails e old steps sent new

-- what a call leaves, by its answer: after Ok all of the output is written
abbrev pub Leaves : {T : Type 0} → Result T PipeError → Client → List Step → List ℕ → Client
    → Type 0
Leaves (Ok x) old steps sent new = Runs old steps sent new × (new.output.items ≡ [])
Leaves (Err fault) old steps sent new = StopsBy fault old steps sent new

-- What came was taken as one piece at this moment, and what was written is its output. A reader has
-- what is unread and then what is left of it; a writer holds what it held, and what was written.
abbrev pub Carries : {T : Type 0} → Result T PipeError → ℕ → Client
    → (unread left held written : Option (List ℕ)) → Client → Type 0
Carries result at old unread left held written new =
    (came sent : List ℕ) × Consumes unread left came × Appends held written sent
    × Leaves result old (piece at came ∷ []) sent new

-- the same of a turn, which answers how many bytes came
abbrev pub CarriesOne : Result ℕ PipeError → ℕ → Client
    → (unread left held written : Option (List ℕ)) → Client → Type 0
CarriesOne result at old unread left held written new =
    (came sent : List ℕ) × Consumes unread left came × Appends held written sent
    × Leaves result old (piece at came ∷ []) sent new × IfOk result (λ count. count ≡ length came)

-- no fault is an interruption
abbrev pub IsRetried : PipeError → Type 0
IsRetried (Read error) = error_kind error ≢ Interrupted
IsRetried (Write error) = error_kind error ≢ Interrupted
IsRetried (Session e) = ⊤
IsRetried (Unanswered e error) = error_kind error ≢ Interrupted
