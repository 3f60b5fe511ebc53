-- A broker that hands a publish of QoS 2 on at its release, as a receiver may (MQTT 5.0 section
-- 4.3.3), and a world with it.
use Rattle.std.specs.Prelude.{ℕ, zero, suc, Bool, not, ◌==◌, List, [], ◌∷◌, ◌++◌, filter, Option}
use Rattle.std.specs.Prelude.{Some, None, if◌then◌else◌}
use Rattle.std.specs.List.{list_any}
use Rattle.std.specs.Option.{option_to_list}
use Rattle.mqtt5_base.specs.declared.quality.QoS.{QoS}
use Rattle.mqtt5_base.specs.declared.quality.QoS.TheVariants.{AtMostOnce, AtLeastOnce, ExactlyOnce}
use Rattle.mqtt5_publish.specs.declared.publish.Publish.{Publish}
use Rattle.mqtt5_codec.specs.declared.packet.Packet.{Packet}
use Rattle.mqtt5_codec.specs.declared.packet.Packet.TheVariants as packets
use Rattle.mqtt5_inflight.specs.InUse.{awaiting_ack}
use Rattle.mqtt5_inflight.specs.Unacked.{by_id}
use Rattle.mqtt5_session.specs.Session.{Core}
use Rattle.mqtt5_session.specs.Packets.{puback_of, pubrec_of, pubcomp_of}
use Rattle.mqtt5_world.specs.declared.event.WorldEvent.{WorldEvent}
use Rattle.mqtt5_world.specs.declared.event.WorldEvent.TheVariants as events
use Rattle.mqtt5_world.specs.Broker.{reason_for}
use Rattle.mqtt5_world.specs.World.{World, start, happens}
use Rattle.mqtt5_progress.specs.Progress.{all_up, all_down}

-- ---- the broker

-- the publishes of QoS 2 that aren't released, and those that were handed on to subscribers (4.3.3)
pub record Late : Type 0 where
  pub stored : List Publish
  pub handed : List Publish

-- a broker that has nothing of the client
abbrev pub idle_late : Late
idle_late = record { stored = []; handed = [] }

-- whether one of these publishes has this id (2.2.1)
abbrev pub has_id : ℕ → List Publish → Bool
has_id id ps = list_any (λ p. p.pkid == id) ps

-- those that have it
abbrev pub with_id : ℕ → List Publish → List Publish
with_id id ps = filter (λ p. p.pkid == id) ps

-- the others
abbrev pub without_id : ℕ → List Publish → List Publish
without_id id ps = filter (λ p. not (p.pkid == id)) ps

-- the reply, and the broker after it
abbrev pub ServedLate : Type 0
ServedLate = Option Packet × Late

-- a publish of QoS 2 is stored, unless one of its id is (4.3.3); another one is handed on (4.3.1,
-- 4.3.2)
abbrev pub serve_publish_late : QoS → Late → Publish → ServedLate
serve_publish_late AtMostOnce b p = (None, record b { handed = b.handed ++ p ∷ [] })
serve_publish_late AtLeastOnce b p =
    (Some (puback_of p.pkid), record b { handed = b.handed ++ p ∷ [] })
serve_publish_late ExactlyOnce b p = (
  Some (pubrec_of p.pkid),
  record b { stored = if has_id p.pkid b.stored then b.stored else b.stored ++ p ∷ [] },
)

-- what is stored under a released id is handed on (4.3.3)
abbrev pub release_late : Late → ℕ → ServedLate
release_late b id = (
  Some (pubcomp_of id (reason_for (has_id id b.stored))),
  record { stored = without_id id b.stored; handed = b.handed ++ with_id id b.stored },
)

-- a packet from the client (4.3)
abbrev pub serve_late : Late → Packet → ServedLate
serve_late b (packets.Publish p) = serve_publish_late p.qos b p
serve_late b (packets.PubRel p) = release_late b p.pkid
serve_late b other = (None, b)

-- ---- the world

-- such a broker, and the world around it, whose own broker has no part
pub record LateWorld : Type 0 where
  pub around : World
  pub broker : Late

-- a client that has sent nothing, and a broker that has nothing of it
abbrev pub start_late : ℕ → LateWorld
start_late limit = record { around = start limit; broker = idle_late }

-- the broker took a packet: its reply goes down
abbrev pub served_late : World → ServedLate → LateWorld
served_late w a = record { around = record w { down = w.down ++ option_to_list a.0 }; broker = a.1 }

-- the first packet on its way up arrives, if there is one
abbrev pub arrives_late : LateWorld → List Packet → LateWorld
arrives_late l [] = l
arrives_late l (p ∷ rest) = served_late (record l.around { up = rest }) (serve_late l.broker p)

-- an event: where nothing arrives at the broker, it is the world's
abbrev pub happens_late : LateWorld → WorldEvent → LateWorld
happens_late l events.Up = arrives_late l l.around.up
happens_late l e = record l { around = happens l.around e }

-- the events, one after another
abbrev pub run_late : List WorldEvent → LateWorld → LateWorld
run_late [] l = l
run_late (e ∷ es) l = run_late es (happens_late l e)

-- all that is on its way up arrives
abbrev pub upward_late : LateWorld → LateWorld
upward_late l = run_late (all_up l.around.up) l

-- all that is on its way down arrives
abbrev pub downward_late : LateWorld → LateWorld
downward_late l = run_late (all_down l.around.down) l

-- so many rounds of both, one after the other
abbrev pub settle_late : ℕ → LateWorld → LateWorld
settle_late zero l = l
settle_late (suc n) l = settle_late n (downward_late (upward_late l))

-- the publishes that the client stores under an id of which the broker has none
abbrev pub stored_without_late : LateWorld → List Publish
stored_without_late l =
    let c = l.around.session.core in
    by_id (λ id slot. if has_id id l.broker.stored then [] else option_to_list (awaiting_ack slot))
    c.limit c.in_use
