-- A client as the receiver of the publishes that come to it (MQTT 5.0 section 4.3).
use Rattle.std.specs.Prelude.{◌≡◌, ℕ, List, Option, Some, None, Ok}
use Rattle.std.specs.List.{filter_map}
use Rattle.mqtt5_publish.specs.declared.publish.Publish.{Publish}
use Rattle.mqtt5_publish.specs.declared.pubrel.PubRelReason.TheVariants.{Success}
use Rattle.mqtt5_codec.specs.declared.packet.Packet.{Packet}
use Rattle.mqtt5_codec.specs.declared.packet.Packet.TheVariants as packets
use Rattle.mqtt5_inflight.specs.declared.event.Event.{Event}
use Rattle.mqtt5_inflight.specs.declared.event.Event.TheVariants as events
use Rattle.mqtt5_inflight.specs.Aliases.{alias_of}
use Rattle.mqtt5_session.specs.Session.{Session}
use Rattle.mqtt5_session.specs.Packets.{on_packet}
use Rattle.mqtt5_world.specs.Broker.{Broker, serve}

-- the publish that an event tells of (3.3)
abbrev pub publish_in : Event → Option Publish
publish_in (events.Incoming (packets.Publish p)) = Some p
publish_in event = None

-- the publishes that the user was shown, in order (4.3)
abbrev pub shown : Session → List Publish
shown s = filter_map publish_in s.events

-- a session as a receiver: the ids of publishes of QoS 2 that aren't released, and what was shown
-- (4.3.3)
abbrev pub as_receiver : Session → Broker
as_receiver s = record { ids = s.core.incoming; handed = shown s }

-- a publish without a topic alias (3.3.2.3.4), or a release of success (3.6.2.1)
abbrev pub IsPlain : Packet → Type 0
IsPlain (packets.Publish p) = alias_of p ≡ None
IsPlain (packets.PubRel p) = p.reason ≡ Success
IsPlain other = ⊥

-- a session takes a packet as a broker does that receives: its reply, and what it is after it (4.3)
pub record IsReceiver (s : Session) (x : Packet) (at : ℕ) : Type 0 where
  pub reply : (on_packet s x at).0 ≡ Ok (serve (as_receiver s) x).0
  pub after : as_receiver (on_packet s x at).1 ≡ (serve (as_receiver s) x).1
