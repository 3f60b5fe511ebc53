-- This file serves the logic alone: a frame that is read by its type's own reader.
use Rattle.std.specs.Prelude.{◌≡◌, ℕ, ◌/◌, List, Option, Some, None, Result, Ok, Err}
use Rattle.mqtt5_base.specs.declared.error.Error.{Error}
use Rattle.mqtt5_base.specs.declared.error.Error.TheVariants.{OutOfMemory}
use Rattle.mqtt5_base.specs.Reading.{frame_values}
use Rattle.mqtt5_codec.specs.declared.packet.Packet.{Packet}
use Rattle.mqtt5_codec.specs.Packets.{packet_rows, packet_type, packet_content, IsRead}

-- The packet of a whole frame's body, by its first byte; or the first fault, unless memory ran out.
-- Never None.
abbrev pub ReadsBody : Result (Option Packet) Error → ℕ → List ℕ → Type 0
ReadsBody (Ok (Some p)) first body =
    (frame_values packet_rows first body ≡ Ok (packet_content p)) × (packet_type p ≡ first / 16)
    × IsRead p
ReadsBody (Ok None) first body = ⊥
ReadsBody (Err e) first body = (e ≡ OutOfMemory → ⊥) → frame_values packet_rows first body ≡ Err e
