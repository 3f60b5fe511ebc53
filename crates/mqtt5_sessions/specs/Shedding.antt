-- What is let go of a queue that is too long: messages of QoS 0, which are handed on at most once (MQTT
-- 5.0 section 4.3.1), or the oldest of any QoS, where an operator wants that.
use Rattle.std.specs.Prelude.{ℕ, zero, suc, ◌+◌, nat_lt, Bool, true, false, ◌&&◌, ◌||◌, List, [], ◌∷◌}
use Rattle.std.specs.Prelude.{length, slice_index_or, if◌then◌else◌}
use Rattle.mqtt5_base.specs.declared.quality.QoS.{QoS}
use Rattle.mqtt5_base.specs.declared.quality.QoS.TheVariants.{AtMostOnce, AtLeastOnce, ExactlyOnce}
use Rattle.mqtt5_publish.specs.declared.publish.Publish.{Publish}
use Rattle.mqtt5_sessions.specs.Counts.{sizes_after}
use Rattle.mqtt5_router.specs.Kept.{without_first}
use Rattle.mqtt5_sessions.specs.Sessions.{ClientState, Sessions, new_state, takes_out}

-- whether more waits than so many publishes, or than so many bytes of these
abbrev pub is_over : ℕ → ℕ → List Publish → Bool
is_over most bytes ps = nat_lt most (length ps) || nat_lt bytes (sizes_after 0 ps)

-- whether a message is handed on at most once
abbrev pub is_at_most_once : QoS → Bool
is_at_most_once AtMostOnce = true
is_at_most_once AtLeastOnce = false
is_at_most_once ExactlyOnce = false

-- whether one may be let go: any may, or it is of QoS 0
abbrev pub may_go : Bool → QoS → Bool
may_go any q = any || is_at_most_once q

-- how many are: the first ones, as long as more waits, and they may be let go
abbrev pub surplus : Bool → ℕ → ℕ → List Publish → ℕ
surplus any most bytes [] = 0
surplus any most bytes (p ∷ ps) =
    if is_over most bytes (p ∷ ps) && may_go any p.qos then 1 + surplus any most bytes ps else 0

-- of the queue of the client of a number: none, if it isn't there
abbrev pub surplus_of : Bool → ℕ → ℕ → ℕ → Sessions → ℕ
surplus_of any most bytes i s =
    surplus any most bytes (slice_index_or s.clients i (new_state 0)).kept.queue

-- so many of the first are taken out of a queue
abbrev pub without_firsts : ℕ → ClientState → ClientState
without_firsts zero c = c
without_firsts (suc n) c = without_firsts n (record c { kept = without_first c.kept })

-- and of that of the client of a number
abbrev pub taken_out : ℕ → ℕ → Sessions → Sessions
taken_out zero i s = s
taken_out (suc n) i s = taken_out n i (takes_out i s)

-- as many as are let go
abbrev pub sheds : Bool → ℕ → ℕ → ℕ → Sessions → Sessions
sheds any most bytes i s = taken_out (surplus_of any most bytes i s) i s
