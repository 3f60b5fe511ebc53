-- This file serves the logic alone: a request is handed on to the session while its packet stands
-- at the output's end.
use Rattle.std.specs.Prelude.{◌≡◌, ℕ, ◌⊎◌, List, take, Some, None, Result, Ok, Err}
use Rattle.mqtt5_codec.specs.declared.packet.Packet.{Packet}
use Rattle.mqtt5_inflight.specs.declared.error.StateError.{StateError}
use Rattle.mqtt5_inflight.specs.declared.error.StateError.TheVariants as faults
use Rattle.mqtt5_session.specs.Session.{Session, Answer}

-- a packet is sent, and stays; or none is, and the output ends at this length
abbrev pub HandsOn : Result Unit StateError → Answer → ℕ → Session → List ℕ → Session → List ℕ
    → Type 0
HandsOn (Ok done) a n s o t u =
    ((p : Packet) × (a ≡ (Ok (Some p), t)) × (u ≡ o)) ⊎ ((a ≡ (Ok None, t)) × (u ≡ take n o))
HandsOn (Err e) a n s o t u =
    (u ≡ take n o) × (((e ≡ faults.OutOfMemory) × (t ≡ s)) ⊎ (a ≡ (Err e, t)))
