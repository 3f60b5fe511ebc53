-- The Message Expiry Interval of what waits for a client, and of its will (MQTT 5.0 sections 3.1.3.2
-- and 3.3.2.3.3).
use Rattle.std.specs.Prelude.{ℕ, Bool, false, List, [], ◌∷◌, Option, None, Some, slice_index_or}
use Rattle.mqtt5_publish.specs.declared.publish.Publish.{Publish}
use Rattle.mqtt5_publish.specs.declared.publish.PublishProperties.{PublishProperties}
use Rattle.mqtt5_network.specs.declared.event.Will.{Will}
use Rattle.mqtt5_sessions.specs.Sessions.{Sessions, new_state}

-- of a publish, if it has one
abbrev pub expiry_in : Option PublishProperties → Option ℕ
expiry_in None = None
expiry_in (Some set) = set.message_expiry_interval

abbrev pub expiry_of : Publish → Option ℕ
expiry_of p = expiry_in p.properties

-- of the first of a queue
abbrev pub first_expiry : List Publish → Option ℕ
first_expiry [] = None
first_expiry (p ∷ ps) = expiry_of p

-- of that of the client of a number: none, if it isn't there
abbrev pub message_expiry : ℕ → Sessions → Option ℕ
message_expiry i s = first_expiry (slice_index_or s.clients i (new_state 0)).kept.queue

-- of a will, if there is one
abbrev pub expiry_of_will : Option Will → Option ℕ
expiry_of_will None = None
expiry_of_will (Some w) = expiry_of w.publish

-- of that of the client of a number
abbrev pub will_expiry : ℕ → Sessions → Option ℕ
will_expiry i s = expiry_of_will (slice_index_or s.clients i (new_state 0)).will

-- whether it waits once its connection is lost, since it has a delay (3.1.3.2.2): not where there is
-- none
abbrev pub delays : Option Will → Bool
delays None = false
delays (Some w) = w.delayed

abbrev pub will_is_delayed : ℕ → Sessions → Bool
will_is_delayed i s = delays (slice_index_or s.clients i (new_state 0)).will
