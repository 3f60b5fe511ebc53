-- For which clients something waits to be passed on (MQTT 5.0 section 4.1).
use Rattle.std.specs.Prelude.{◌≡◌, ℕ, ◌<◌, ◌≤◌, Bool, true, false, ◌&&◌, List, [], ◌∷◌, Option, None}
use Rattle.std.specs.Prelude.{Some, slice_index_or}
use Rattle.mqtt5_publish.specs.declared.publish.Publish.{Publish}
use Rattle.mqtt5_sessions.specs.Sessions.{ClientState, Sessions, new_state}

-- whether something is in a queue
abbrev pub has_some : List Publish → Bool
has_some [] = false
has_some (p ∷ ps) = true

-- whether a client is connected, and something is in its queue
abbrev pub waits : ClientState → Bool
waits c = c.here && has_some c.kept.queue

-- of the client of a number: not one that isn't there
abbrev pub waits_at : ℕ → List ClientState → Bool
waits_at i cs = waits (slice_index_or cs i (new_state 0))

-- the first number of those from one on that pass a test: none, where none of them does
abbrev pub IsFirst : (ℕ → Bool) → ℕ → Option ℕ → Type 0
IsFirst test from None = (j : ℕ) → from ≤ j → test j ≡ false
IsFirst test from (Some i) =
    (from ≤ i) × (test i ≡ true) × ((j : ℕ) → from ≤ j → j < i → test j ≡ false)

-- the first client, from a number on, for which something waits
abbrev pub IsNextWaiting : ℕ → Option ℕ → Sessions → Type 0
IsNextWaiting from next s = IsFirst (λ i. waits_at i s.clients) from next
