-- What a Connect of C's arguments leaves (MQTT 5.0 section 3.1).
use Rattle.std.specs.Prelude.{◌≡◌, ◌<◌, ◌≤◌, ◌⊎◌, ℕ, Bool, false, List, [], Option, Some, None, Ok}
use Rattle.std.specs.Prelude.{IfErr, OnOk, OnErr, unwrap_or}
use Rattle.std.specs.Str.{IsUtf8}
use Rattle.mqtt5_base.specs.Texts.{Utf8, text_of}
use Rattle.mqtt5_base.specs.declared.property.Property.{Property}
use Rattle.mqtt5_connect.specs.declared.connect.ConnectProperties.{ConnectProperties}
use Rattle.mqtt5_connect.specs.Connects.{connect_found, no_connect_properties}
use Rattle.mqtt5_connect.specs.Rows.{connect_table}
use Rattle.mqtt5_codec.specs.Packets.{packet_writing}
use Rattle.mqtt5_options.specs.Options.{Settings, seconds}
use Rattle.mqtt5_client.specs.declared.client.Client.{Client}
use Rattle.mqtt5_client.specs.Connecting.{connect_packet, opened, IsRefused}
use Rattle.mqtt5_holder.specs.declared.holder.Holder.{Holder}
use Rattle.mqtt5_properties.specs.Gathering.{IsSet}
use Rattle.mqtt5_c.specs.Asked.{IsDeclined}
use Rattle.mqtt5_c.specs.Numbers.{Outcome, code_of, no_client}

-- an identifier that isn't UTF-8 (1.5.4), or a keep alive below 5 seconds
abbrev pub IsBadConnect : List ℕ → ℕ → Type 0
IsBadConnect client_id keep_alive = ¬ (IsUtf8 client_id) ⊎ (keep_alive < 5)

-- the settings with this client identifier, keep alive (3.1.2.10), clean start (3.1.2.4) and
-- session expiry interval (3.1.2.11.2), and with these properties besides (3.1.2.11); login and
-- will are as before
abbrev pub settled : Utf8 → ℕ → Bool → ℕ → ConnectProperties → Settings → Settings
settled client_id keep_alive clean_start session_expiry p settings = record settings {
  client_id = client_id;
  keep_alive = seconds keep_alive;
  clean_start = clean_start;
  connect_properties = Some (record p { session_expiry_interval = Some session_expiry });
}

-- the output is the Connect, the input is empty, and no Disconnect was asked for yet; or all is as
-- before
abbrev pub Connects : Settings → Client → Outcome → Client → Type 0
Connects settings old outcome new =
    OnOk outcome (packet_writing (connect_packet settings) ≡ Ok new.output.items)
    × OnOk outcome (new.input.items ≡ [])
    × OnOk outcome (new.codec ≡ opened settings old.codec)
    × OnOk outcome (new.disconnected ≡ false)
    × (new.state ≡ old.state)
    × IfErr outcome (IsRefused (connect_packet settings))
    × OnErr outcome (new ≡ old)

-- without a client there is none after the call either, and it is answered by 200; else the
-- settings are these
pub record Begins (settles : Settings → Settings) (before : Option Holder) (code : ℕ)
    (after : Option Holder) : Type 0 where
  pub none : before ≡ None → (code ≡ no_client) × (after ≡ None)
  pub one : (old : Holder) → before ≡ Some old
      → (new : Client) × (outcome : Outcome)
      × (after ≡ Some (record old { client = new; settings = settles old.settings }))
      × (code ≡ code_of outcome)
      × Connects (settles old.settings) old.client outcome new

-- A call is declined, and the handle is as before; or its arguments are none of the bad ones, the
-- Connect has these properties, and it is begun.
pub data Connected (Bad : Type 0) (client_id : List ℕ) (keep_alive : ℕ) (clean_start : Bool)
    (session_expiry : ℕ) (properties : List Property) (before : Option Holder) (code : ℕ)
    (after : Option Holder) : Type 0 where
  Declined : IsDeclined Bad code → after ≡ before
      → Connected Bad client_id keep_alive clean_start session_expiry properties before code after
  Put : IsUtf8 client_id → 5 ≤ keep_alive → (set : Option ConnectProperties)
      → IsSet connect_found connect_table properties set
      → Begins
      (settled (text_of client_id) keep_alive clean_start session_expiry
      (unwrap_or set no_connect_properties))
      before code after
      → Connected Bad client_id keep_alive clean_start session_expiry properties before code after
