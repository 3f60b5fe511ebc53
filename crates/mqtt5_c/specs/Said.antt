-- A Disconnect with its reason and an Auth of C's arguments, and what a call leaves that says one
-- (MQTT 5.0 sections 3.14 and 3.15).
use Rattle.std.specs.Prelude.{◌≡◌, ◌⊎◌, ℕ, Bool, true, false, ◌||◌, List, Option, OnOk, OnErr}
use Rattle.std.specs.Prelude.{IfErr}
use Rattle.mqtt5_base.specs.declared.property.Property.{Property}
use Rattle.mqtt5_base.specs.Grammar.{number, passes}
use Rattle.mqtt5_control.specs.declared.disconnect.DisconnectReasonCode.{DisconnectReasonCode}
use Rattle.mqtt5_control.specs.declared.disconnect.DisconnectProperties.{DisconnectProperties}
use Rattle.mqtt5_control.specs.Disconnects.{disconnect_code, disconnect_found}
use Rattle.mqtt5_control.specs.declared.auth.AuthReasonCode.{AuthReasonCode}
use Rattle.mqtt5_control.specs.declared.auth.AuthProperties.{AuthProperties}
use Rattle.mqtt5_control.specs.Auths.{auth_code, auth_found}
use Rattle.mqtt5_control.specs.Rows.{disconnect_codes, disconnect_table, auth_codes, auth_table}
use Rattle.mqtt5_codec.specs.declared.packet.Packet.{Packet}
use Rattle.mqtt5_codec.specs.declared.packet.Packet.TheVariants as packets
use Rattle.mqtt5_client.specs.declared.client.Client.{Client}
use Rattle.mqtt5_client.specs.Said.{on_said, IsSaid, NotSaid, IsUnsaid}
use Rattle.mqtt5_properties.specs.Gathering.{IsSet}
use Rattle.mqtt5_holder.specs.declared.holder.Holder.{Holder}
use Rattle.mqtt5_c.specs.Asked.{CantHave, IsDeclined}
use Rattle.mqtt5_c.specs.Calls.{Called}
use Rattle.mqtt5_c.specs.Numbers.{Outcome}

-- whether a packet ends the connection (3.14)
abbrev pub leaves : Packet → Bool
leaves (packets.Disconnect p) = true
leaves packet = false

-- A packet is said, and a Disconnect is remembered; or it isn't said, and all is as before. The
-- input waits as before.
abbrev pub Says : Packet → ℕ → Client → Outcome → Client → Type 0
Says packet at old outcome new =
    OnOk outcome (IsSaid old packet (on_said old.state packet at) new)
    × OnOk outcome (new.disconnected ≡ (leaves packet || old.disconnected))
    × IfErr outcome (λ e. NotSaid e old packet (on_said old.state packet at))
    × OnErr outcome (IsUnsaid old new)
    × ((new.input.items ≡ old.input.items) × (new.codec ≡ old.codec))

-- a number that is no reason code of a Disconnect (3.14.2.1), or a property that it can't have
abbrev pub IsBadDisconnect : ℕ → List Property → Type 0
IsBadDisconnect reason properties =
    (passes disconnect_codes (number reason) ≡ false) ⊎ CantHave disconnect_table properties

-- a Disconnect of this reason code, with these properties (3.14)
abbrev pub IsDisconnect : ℕ → List Property → Packet → Type 0
IsDisconnect reason properties packet =
    (r : DisconnectReasonCode) × (set : Option DisconnectProperties) × (disconnect_code r ≡ reason)
    × IsSet disconnect_found disconnect_table properties set
    × (packet ≡ packets.Disconnect (record { reason_code = r; properties = set }))

-- a number that is no reason code of an Auth (3.15.2.1), or a property that it can't have
abbrev pub IsBadAuth : ℕ → List Property → Type 0
IsBadAuth reason properties =
    (passes auth_codes (number reason) ≡ false) ⊎ CantHave auth_table properties

-- an Auth of this reason code, with these properties (3.15)
abbrev pub IsAuth : ℕ → List Property → Packet → Type 0
IsAuth reason properties packet =
    (r : AuthReasonCode) × (set : Option AuthProperties) × (auth_code r ≡ reason)
    × IsSet auth_found auth_table properties set
    × (packet ≡ packets.Auth (record { code = r; properties = set }))

-- A call is declined, and the handle is as before; or the client says such a packet.
pub data Said (Bad : Type 0) (Is : Packet → Type 0) (at : ℕ) (before : Option Holder) (code : ℕ)
    (after : Option Holder) : Type 0 where
  Declined : IsDeclined Bad code → after ≡ before → Said Bad Is at before code after
  Put : (packet : Packet) → Is packet → Called (Says packet at) before code after
      → Said Bad Is at before code after
