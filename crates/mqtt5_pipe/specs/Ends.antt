-- This file serves the logic alone: the answer of a call, of what the session and the writer
-- answered.
use Rattle.std.specs.Prelude.{Result, Ok, Err}
use Rattle.std.specs.declared.io.Error.{Error}
use Rattle.mqtt5_inflight.specs.declared.error.StateError.{StateError}
use Rattle.mqtt5_pipe.specs.declared.error.PipeError.{PipeError}
use Rattle.mqtt5_pipe.specs.declared.error.PipeError.TheVariants as faults

abbrev pub ends : Result Unit StateError → Result Unit Error → Result Unit PipeError
ends (Ok x) (Ok y) = Ok tt
ends (Ok x) (Err error) = Err (faults.Write error)
ends (Err e) (Ok y) = Err (faults.Session e)
ends (Err e) (Err error) = Err (faults.Unanswered e error)
