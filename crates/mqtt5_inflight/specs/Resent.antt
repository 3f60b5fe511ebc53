-- This file serves the logic alone: the packets that are sent again.
use Rattle.std.specs.Prelude.{ℕ, List, Option, Some, None}
use Rattle.std.specs.List.{filter_map}
use Rattle.mqtt5_codec.specs.declared.packet.Packet.{Packet}
use Rattle.mqtt5_codec.specs.declared.packet.Packet.TheVariants as packets
use Rattle.mqtt5_inflight.specs.declared.event.Request.{Request}
use Rattle.mqtt5_inflight.specs.declared.event.Request.TheVariants as requests
use Rattle.mqtt5_inflight.specs.InUse.{InUse}
use Rattle.mqtt5_inflight.specs.Unacked.{requests_of}

-- the packet that a request which a clean gave is sent as
abbrev pub packet_for : Request → Option Packet
packet_for (requests.Publish p) = Some (packets.Publish p)
packet_for (requests.PubRel p) = Some (packets.PubRel p)
packet_for request = None

-- the packets that are sent again
abbrev pub packets_of : ℕ → InUse → List Packet
packets_of limit in_use = filter_map packet_for (requests_of limit in_use)
