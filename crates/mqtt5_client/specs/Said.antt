-- A packet that a client says by a call of its own, a Disconnect with a reason or an Auth (MQTT 5.0
-- sections 3.14, 3.15 and 4.12), and what becomes of it.
use Rattle.std.specs.Prelude.{◌≡◌, ℕ, true, false, ◌⊎◌, List, ◌++◌, Some, Ok, Err}
use Rattle.mqtt5_base.specs.declared.error.Error.{Error}
use Rattle.mqtt5_codec.specs.declared.packet.Packet.{Packet}
use Rattle.mqtt5_codec.specs.declared.packet.Packet.TheVariants as packets
use Rattle.mqtt5_codec.specs.Packets.{writing_under}
use Rattle.mqtt5_inflight.specs.Errors.{state_error}
use Rattle.mqtt5_inflight.specs.declared.error.StateError.{StateError}
use Rattle.mqtt5_inflight.specs.declared.error.StateError.TheVariants as faults
use Rattle.mqtt5_session.specs.Session.{Session, Answer}
use Rattle.mqtt5_session.specs.Requests.{out_disconnect, out_auth}
use Rattle.mqtt5_client.specs.declared.client.Client.{Client}

-- what the session makes of it
abbrev pub on_said : Session → Packet → ℕ → Answer
on_said s (packets.Disconnect p) at = out_disconnect s p at
on_said s (packets.Auth p) at = out_auth s p at
on_said s packet at = (Err faults.InvalidState, s)

-- A packet was said: no Disconnect was asked for before (3.14.4), the session is the one after it,
-- and its frame stands at the output's end.
abbrev pub IsSaid : Client → Packet → Answer → Client → Type 0
IsSaid old packet answer new =
    (old.disconnected ≡ false) × (answer ≡ (Ok (Some packet), new.state))
    × ((bytes : List ℕ)
    × (writing_under old.codec.max_outgoing_size packet ≡ Ok bytes)
    × (new.output.items ≡ old.output.items ++ bytes))

-- Why a packet isn't said: a Disconnect was asked for before, behind which nothing may be sent
-- (3.14.4); memory ran out; it can't be written, or not under the broker's limit (3.2.2.3.6); or the
-- session refuses it.
abbrev pub NotSaid : StateError → Client → Packet → Answer → Type 0
NotSaid e c packet answer =
    ((c.disconnected ≡ true) × (e ≡ faults.Disconnected))
    ⊎ ((c.disconnected ≡ false)
    × ((e ≡ faults.OutOfMemory)
    ⊎ (((f : Error)
    × (writing_under c.codec.max_outgoing_size packet ≡ Err f)
    × (e ≡ state_error f))
    ⊎ (answer.0 ≡ Err e))))

-- it isn't said, and session, output and what was asked for are as before
abbrev pub IsUnsaid : Client → Client → Type 0
IsUnsaid old new =
    (new.state ≡ old.state) × (new.output.items ≡ old.output.items)
    × (new.disconnected ≡ old.disconnected)
