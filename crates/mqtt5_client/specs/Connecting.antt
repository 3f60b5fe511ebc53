-- The Connect of a client's settings (MQTT 5.0 section 3.1), and the limits of a new connection.
use Rattle.std.specs.Prelude.{◌≡◌, ℕ, ◌⊎◌, ◌/◌, Option, None, Some, Result, Ok, Err, min}
use Rattle.std.specs.Duration.{as_nanos}
use Rattle.bytes.specs.Filled.{Filled}
use Rattle.mqtt5_base.specs.declared.error.Error.{Error}
use Rattle.mqtt5_base.specs.declared.error.Error.TheVariants.{OutOfMemory}
use Rattle.mqtt5_connect.specs.declared.connect.Connect.{Connect}
use Rattle.mqtt5_codec.specs.declared.packet.Packet.{Packet}
use Rattle.mqtt5_codec.specs.declared.packet.Packet.TheVariants as packets
use Rattle.mqtt5_codec.specs.declared.codec.Codec.{Codec}
use Rattle.mqtt5_codec.specs.Packets.{packet_writing}
use Rattle.mqtt5_inflight.specs.Errors.{state_error}
use Rattle.mqtt5_inflight.specs.declared.error.StateError.{StateError}
use Rattle.mqtt5_inflight.specs.declared.error.StateError.TheVariants as faults
use Rattle.mqtt5_options.specs.Options.{Settings, properties_of}

-- its fields: the keep alive in whole seconds, at most 65,535 (3.1.2.10)
abbrev pub connect_of : Settings → Connect
connect_of s = record {
  keep_alive = min (as_nanos s.keep_alive / 1_000_000_000) 65535;
  client_id = s.client_id;
  clean_start = s.clean_start;
  properties = s.connect_properties;
}

-- with its will and its login (3.1.3)
abbrev pub connect_packet : Settings → Packet
connect_packet s = packets.Connect (connect_of s) s.last_will s.credentials

-- the longest packet that the client takes, where the settings say it (3.1.2.11.4)
abbrev pub incoming_limit : Option ℕ → Option ℕ → Option ℕ
incoming_limit None limit = limit
incoming_limit (Some size) limit = Some size

-- the limits of a new connection: the broker hasn't said one yet (3.2.2.3.6)
abbrev pub opened : Settings → Codec → Codec
opened s codec = record {
  max_incoming_size = incoming_limit (properties_of s).max_packet_size codec.max_incoming_size;
  max_outgoing_size = None;
}

-- these are the bytes of a packet, or memory ran out, or this is why it can't be written
abbrev pub FramesConnect : Packet → Result Filled Error → Type 0
FramesConnect p (Ok frame) = packet_writing p ≡ Ok frame.items
FramesConnect p (Err e) = (e ≡ OutOfMemory) ⊎ (packet_writing p ≡ Err e)

-- a session's fault is want of memory, or why a packet can't be written
abbrev pub IsRefused : Packet → StateError → Type 0
IsRefused p e =
    (e ≡ faults.OutOfMemory) ⊎ ((f : Error) × (packet_writing p ≡ Err f) × (e ≡ state_error f))
