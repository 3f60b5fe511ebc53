-- What a call leaves of a handle's client, and the number that it answers.
use Rattle.std.specs.Prelude.{◌≡◌, ◌≢◌, ◌⊎◌, ℕ, List, [], ◌∷◌, Option, None, Some, IsOk, IfErr}
use Rattle.std.specs.Prelude.{OnOk, OnErr, drop, Bool, false, Ok, Err}
use Rattle.mqtt5_base.specs.Texts.{text_of}
use Rattle.mqtt5_options.specs.Options.{defaults}
use Rattle.mqtt5_inflight.specs.declared.event.Request.{Request}
use Rattle.mqtt5_inflight.specs.declared.event.Request.TheVariants as requests
use Rattle.mqtt5_inflight.specs.declared.error.StateError.TheVariants as faults
use Rattle.mqtt5_drive.specs.Run.{piece}
use Rattle.mqtt5_codec.specs.Codecs.{no_limits}
use Rattle.mqtt5_client.specs.declared.client.Client.{Client}
use Rattle.mqtt5_holder.specs.declared.holder.Holder.{Holder}
use Rattle.mqtt5_session.specs.Session.{fresh}
use Rattle.mqtt5_client.specs.Client.{asking, Runs, Fails, codec_since}
use Rattle.mqtt5_client.specs.Again.{SendsAgain, Refuses}
use Rattle.mqtt5_client.specs.Asked.{NotAsked}
use Rattle.mqtt5_client.specs.TakingUp.{NotTakenUp}
use Rattle.mqtt5_client.specs.TakingUp as taking_up
use Rattle.mqtt5_c.specs.Numbers.{Outcome, code_of, no_client}

-- a holder of another client, of which the rest is as before
abbrev pub with_client : Holder → Client → Holder
with_client h c = record h { client = c }

-- Without a client a call is answered by 200, and there is still none. Else there is one after it
-- too, what its packets have and what was let go is as before, and the number is that of an outcome
-- of which Does holds: of the client before, the outcome and the client after.
pub record Called (Does : Client → Outcome → Client → Type 0) (before : Option Holder) (code : ℕ)
    (after : Option Holder) : Type 0 where
  pub none : before ≡ None → (code ≡ no_client) × (after ≡ None)
  pub one : (old : Holder) → before ≡ Some old
      → (new : Client) × (outcome : Outcome) × (after ≡ Some (with_client old new))
      × (code ≡ code_of outcome) × Does old.client outcome new

-- the list of what was let go, after a call: a new one where it was done
abbrev pub dropped_after : Outcome → List Request → List Request → List Request
dropped_after (Ok done) gone before = gone
dropped_after (Err fault) gone before = before

-- The same as Called of a call that may let requests go, but for the list of these: where it is
-- done that is gone, of the client before, in its order; else it is as before.
pub record LetsGo (Does : Client → Outcome → Client → Type 0) (gone : Client → List Request)
    (before : Option Holder) (code : ℕ) (after : Option Holder) : Type 0 where
  pub none : before ≡ None → (code ≡ no_client) × (after ≡ None)
  pub one : (old : Holder) → before ≡ Some old
      → (new : Client) × (outcome : Outcome)
      × (after
      ≡ Some
      (record old {
        client = new;
        dropped = dropped_after outcome (gone old.client) old.dropped;
      }))
      × (code ≡ code_of outcome)
      × Does old.client outcome new

-- Bytes came in: session, input and output are the run's (MQTT 5.0 section 4.2). After a fault no
-- input is left. The limit on what is sent is that of the ConnAcks among the new events
-- (3.2.2.3.6). A Disconnect that was asked for is remembered.
abbrev pub Receives : List ℕ → ℕ → Client → Outcome → Client → Type 0
Receives bytes at old outcome new =
    OnOk outcome (Runs old (piece at bytes ∷ []) [] new)
    × IfErr outcome (λ e. Fails e old (piece at bytes ∷ []) [] new)
    × OnErr outcome (new.input.items ≡ [])
    × (new.codec ≡ codec_since old new)
    × (new.disconnected ≡ old.disconnected)

-- a request, before which no Disconnect was asked for (3.14.4): session and output are the run's;
-- or all is as before, but that a refused ping is counted. The input waits as before.
abbrev pub Asks : Request → ℕ → Client → Outcome → Client → Type 0
Asks request at old outcome new =
    OnOk outcome (Runs old (asking at request ∷ []) [] new)
    × (IsOk outcome → old.disconnected ≡ false)
    × IfErr outcome (λ e. NotAsked old.disconnected e old.codec request at old.state new.state)
    × OnErr outcome (request ≢ requests.PingReq → new.state ≡ old.state)
    × OnErr outcome (new.output.items ≡ old.output.items)
    × OnErr outcome (new.disconnected ≡ old.disconnected)
    × ((new.input.items ≡ old.input.items) × (new.codec ≡ old.codec))

-- so many bytes of the output were sent: they are gone, and nothing else is
abbrev pub Sends : ℕ → Client → Outcome → Client → Type 0
Sends count old outcome new =
    IsOk outcome × (new.output.items ≡ drop count old.output.items)
    × ((new.state ≡ old.state) × (new.codec ≡ old.codec) × (new.input.items ≡ old.input.items))
    × (new.disconnected ≡ old.disconnected)

-- the session is taken up on a new connection (4.4): all that awaits an ack is sent again, or
-- nothing is
abbrev pub Resumes : ℕ → Client → Outcome → Client → Type 0
Resumes at old outcome new =
    OnOk outcome (SendsAgain old at new)
    × IfErr outcome (λ e. Refuses e old at new)
    × OnErr outcome (new.output.items ≡ old.output.items)
    × ((new.input.items ≡ old.input.items) × (new.codec ≡ old.codec))
    × (new.disconnected ≡ old.disconnected)

-- nothing is changed, and it is always done
abbrev pub Looks : Client → Outcome → Client → Type 0
Looks old outcome new = IsOk outcome × (new ≡ old)

-- a client in which nothing happened
abbrev pub IsNewClient : ℕ → Bool → Client → Type 0
IsNewClient limit manual_acks c =
    (c.state ≡ fresh limit manual_acks) × (c.codec ≡ no_limits) × (c.input.items ≡ [])
    × (c.output.items ≡ []) × (c.disconnected ≡ false)

-- no login and no will, nothing for the next packets, and nothing that was let go
abbrev pub HasNothing : Holder → Type 0
HasNothing h =
    (h.settings ≡ defaults (text_of []) (text_of []) 0) × (h.properties ≡ []) × (h.filters ≡ [])
    × (h.dropped ≡ [])

-- one of a new client, with nothing else
abbrev pub IsNew : ℕ → Bool → Holder → Type 0
IsNew limit manual_acks h = IsNewClient limit manual_acks h.client × HasNothing h

-- The session ends, where no event waits: the client is as a new one, with its limits on packets,
-- and a Disconnect that was asked for is remembered. Or an event waits, or memory is refused, and
-- it is as before.
abbrev pub Cleans : Client → Outcome → Client → Type 0
Cleans old outcome new =
    OnOk outcome (new.state ≡ fresh old.state.core.limit old.state.core.manual_acks)
    × OnOk outcome ((new.input.items ≡ []) × (new.output.items ≡ []))
    × (new.codec ≡ old.codec)
    × (new.disconnected ≡ old.disconnected)
    × (IsOk outcome → old.state.events ≡ [])
    × IfErr outcome (λ e. (e ≡ faults.OutOfMemory) ⊎ (e ≡ faults.InvalidState))
    × OnErr outcome (new ≡ old)

-- the session is taken up on a new connection, or it ends, as the ConnAck says (3.2.2.1.1); or it
-- is as before
abbrev pub TakesUp : Bool → ℕ → Client → Outcome → Client → Type 0
TakesUp session_present at old outcome new =
    OnOk outcome (taking_up.TakesUp session_present old at new)
    × IfErr outcome (λ e. NotTakenUp session_present e old at)
    × OnErr outcome (new.state ≡ old.state)
    × OnErr outcome (new.output.items ≡ old.output.items)
    × (new.input.items ≡ old.input.items)
    × (new.codec ≡ old.codec)
    × (new.disconnected ≡ old.disconnected)
