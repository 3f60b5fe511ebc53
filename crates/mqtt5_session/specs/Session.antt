-- The session of a client (MQTT 5.0 section 4.1), and what a call of it answers.
use Rattle.std.specs.Prelude.{◌≡◌, ℕ, Bool, false, List, [], ◌∷◌, ◌++◌, Option, None, Result, Err}
use Rattle.std.specs.Prelude.{IsOk}
use Rattle.std.specs.Ordering.{nat_cmp}
use Rattle.std.specs.FinMap as map
use Rattle.std.specs.FinSet as set
use Rattle.mqtt5_publish.specs.declared.publish.Publish.{Publish}
use Rattle.mqtt5_codec.specs.declared.packet.Packet.{Packet}
use Rattle.mqtt5_inflight.specs.declared.event.Outgoing.{Outgoing}
use Rattle.mqtt5_inflight.specs.declared.event.Event.{Event}
use Rattle.mqtt5_inflight.specs.declared.event.Event.TheVariants as events
use Rattle.mqtt5_inflight.specs.declared.error.StateError.{StateError}
use Rattle.mqtt5_inflight.specs.declared.error.StateError.TheVariants as errors
use Rattle.mqtt5_inflight.specs.InUse.{InUse}

-- the topics that the broker's aliases stand for (3.3.2.3.4)
abbrev pub Topics : Type 0
Topics = map.FinMap nat_cmp (List ℕ)

-- what decides the ids and the deliveries (4.1): the limit on ids in use, the current maximum, the
-- last id that was given, the ids in use, the publish that waits for its id, the topics of aliases,
-- the broker's maximum of them, whether the user sends the acks, and the ids of publishes of QoS 2
-- that the broker hasn't released
pub record Core : Type 0 where
  pub limit : ℕ
  pub current : ℕ
  pub last : ℕ
  pub in_use : InUse
  pub waiting : Option Publish
  pub aliases : Topics
  pub alias_max : ℕ
  pub manual_acks : Bool
  pub incoming : set.FinSet nat_cmp

-- the session (4.1): a core, whether a ping isn't answered, how many pings were asked for while a
-- publish waits, what happened, and the moments of the last packet in and the last request out
pub record Session : Type 0 where
  pub core : Core
  pub awaits_ping : Bool
  pub collision_pings : ℕ
  pub events : List Event
  pub last_incoming : ℕ
  pub last_outgoing : ℕ

-- the session of a client that has sent nothing (4.1)
abbrev pub fresh : ℕ → Bool → Session
fresh limit manual = record {
  core = record {
    limit = limit;
    current = limit;
    last = 0;
    in_use = map.empty;
    waiting = None;
    aliases = map.empty;
    alias_max = 0;
    manual_acks = manual;
    incoming = set.empty;
  };
  awaits_ping = false;
  collision_pings = 0;
  events = [];
  last_incoming = 0;
  last_outgoing = 0;
}

-- the reply or the fault of a call, and the session after it
abbrev pub Answer : Type 0
Answer = Result (Option Packet) StateError × Session

-- what is answered to send is told
abbrev pub with_event : Session → Outgoing → Session
with_event s event = record s { events = s.events ++ events.Outgoing event ∷ [] }

-- a request has this answer; or memory was refused, nothing changed, and the answer is no fault
abbrev pub Sends : Result (Option Packet) StateError → Session → Session → Answer → Type 0
Sends (Err errors.OutOfMemory) old new answer = (new ≡ old) × IsOk answer.0
Sends result old new answer = (result ≡ answer.0) × (new ≡ answer.1)

-- a packet has this answer; or memory was refused, and nothing changed
abbrev pub Receives : Result (Option Packet) StateError → Session → Session → Answer → Type 0
Receives (Err errors.OutOfMemory) old new answer = new ≡ old
Receives result old new answer = (result ≡ answer.0) × (new ≡ answer.1)
