-- What a broker makes of the bytes of a connection, and of its end (MQTT 5.0 sections 4.2 and
-- 4.13).
use Rattle.std.specs.Prelude.{ℕ, List, [], ◌∷◌, ◌++◌, Option, Some, None, if◌then◌else◌}
use Rattle.mqtt5_base.specs.declared.error.Error.{Error}
use Rattle.mqtt5_base.specs.declared.error.Error.TheVariants.{PayloadSizeLimitExceeded}
use Rattle.mqtt5_control.specs.declared.disconnect.DisconnectReasonCode.{DisconnectReasonCode}
use Rattle.mqtt5_control.specs.declared.disconnect.DisconnectReasonCode.TheVariants as reasons
use Rattle.mqtt5_codec.specs.declared.packet.Packet.{Packet}
use Rattle.mqtt5_broker.specs.Cut.{Cut, Ending, Holds, Breaks, cut_up}
use Rattle.mqtt5_broker.specs.Connection.{Connection, closed, opened, emptied, holding}
use Rattle.mqtt5_broker.specs.Connection.{connection_at}
use Rattle.mqtt5_broker.specs.Broker.{Broker, at_moment, on_connection, loses_client, dismisses}
use Rattle.mqtt5_broker.specs.Serving.{takes}

-- ---- bytes

-- packets come on a connection, one after the other
abbrev pub takes_all : ℕ → List Packet → Broker → Broker
takes_all c [] b = b
takes_all c (x ∷ xs) b = takes_all c xs (takes c x b)

-- why a connection ends at a fault of its bytes (4.13.1)
abbrev pub reason_for : Error → DisconnectReasonCode
reason_for (PayloadSizeLimitExceeded n max) = reasons.PacketTooLarge
reason_for other = reasons.MalformedPacket

-- bytes are held, or a fault ends it: a client that is connected is told why
abbrev pub ends_with : ℕ → Ending → Broker → Broker
ends_with c (Holds held) b = on_connection c (holding held) b
ends_with c (Breaks e) b = dismisses c (reason_for e) b

-- the packets of a stream come, and what is left is held, or its fault ends the connection
abbrev pub comes_of : ℕ → Cut → Broker → Broker
comes_of c r b = ends_with c r.ending (takes_all c r.packets b)

-- bytes come behind those that are held, where any are taken
abbrev pub receives_at : Connection → ℕ → List ℕ → Broker → Broker
receives_at l c bytes b =
    if l.is_open then comes_of c (cut_up (Some b.longest) (l.held ++ bytes) [])
    (on_connection c emptied b)
    else b

unfoldable pub receives_now : ℕ → List ℕ → Broker → Broker
receives_now c bytes b = receives_at (connection_at c b.connections) c bytes b

-- at a moment
abbrev pub receives : ℕ → ℕ → List ℕ → Broker → Broker
receives at c bytes b = receives_now c bytes (at_moment at b)

-- ---- connections

-- one begins, in place of what was there
abbrev pub opens_now : ℕ → Broker → Broker
opens_now c b =
    if (connection_at c b.connections).is_open then b
    else on_connection c (λ (l : Connection). opened b.wait b.moment) b

abbrev pub opens : ℕ → ℕ → Broker → Broker
opens at c b = opens_now c (at_moment at b)

-- its transport has ended: the client's connection is lost
abbrev pub closes_of : Option ℕ → ℕ → Broker → Broker
closes_of None c b = on_connection c (λ (l : Connection). closed) b
closes_of (Some i) c b = on_connection c (λ (l : Connection). closed) (loses_client i b)

unfoldable pub closes_now : ℕ → Broker → Broker
closes_now c b = closes_of (connection_at c b.connections).client c b

abbrev pub closes : ℕ → ℕ → Broker → Broker
closes at c b = closes_now c (at_moment at b)
