-- Rounds of deliveries, with no request and no loss, and what a world is that has nothing left to
-- do (MQTT 5.0 sections 4.3 and 4.4).
use Rattle.std.specs.Prelude.{◌≡◌, ℕ, zero, suc, ◌+◌, false, List, [], ◌∷◌, ◌++◌, map, sum_by}
use Rattle.std.specs.Prelude.{Option, Some, None}
use Rattle.std.specs.FinMap.{get}
use Rattle.std.specs.FinSet as set
use Rattle.mqtt5_base.specs.declared.quality.QoS.{QoS}
use Rattle.mqtt5_base.specs.declared.quality.QoS.TheVariants.{AtMostOnce, AtLeastOnce, ExactlyOnce}
use Rattle.mqtt5_publish.specs.declared.publish.Publish.{Publish}
use Rattle.mqtt5_codec.specs.declared.packet.Packet.{Packet}
use Rattle.mqtt5_codec.specs.declared.packet.Packet.TheVariants as packets
use Rattle.mqtt5_session.specs.Session.{Core}
use Rattle.mqtt5_world.specs.declared.event.WorldEvent.{WorldEvent}
use Rattle.mqtt5_world.specs.declared.event.WorldEvent.TheVariants as events
use Rattle.mqtt5_world.specs.World.{World, happens, run_world}

-- ---- rounds

-- one delivery for each of these packets
abbrev pub all_up : List Packet → List WorldEvent
all_up ps = map (λ p. events.Up) ps

abbrev pub all_down : List Packet → List WorldEvent
all_down ps = map (λ p. events.Down) ps

-- all that is on its way up arrives
abbrev pub upward : World → World
upward w = run_world (all_up w.up) w

-- all that is on its way down arrives
abbrev pub downward : World → World
downward w = run_world (all_down w.down) w

-- both, one after the other
abbrev pub round : World → World
round w = downward (upward w)

-- so many rounds
abbrev pub settle : ℕ → World → World
settle zero w = w
settle (suc n) w = settle n (round w)

-- the deliveries of so many rounds
abbrev pub deliveries : ℕ → World → List WorldEvent
deliveries zero w = []
deliveries (suc n) w = all_up w.up ++ (all_down (upward w).down ++ deliveries n (round w))

-- events that are deliveries alone
abbrev pub Deliveries : List WorldEvent → Type 0
Deliveries [] = Unit {0}
Deliveries (events.Up ∷ es) = Deliveries es
Deliveries (events.Down ∷ es) = Deliveries es
Deliveries (e ∷ es) = ⊥

-- ---- the end

-- no id is in use, and no publish waits for one (2.2.1)
pub record IsIdle (c : Core) : Type 0 where
  pub in_use : (id : ℕ) → get c.in_use id ≡ None
  pub waiting : c.waiting ≡ None

-- nothing is on its way, the session keeps nothing to send, the broker waits for no release, and
-- nothing was refused
pub record Settled (w : World) : Type 0 where
  pub up : w.up ≡ []
  pub down : w.down ≡ []
  pub core : IsIdle w.session.core
  pub ids : (id : ℕ) → set.contains w.broker.ids id ≡ false
  pub faults : w.faults ≡ []

-- ---- the work that is left

-- how many deliveries a publish takes, itself among them, until its id is free (4.3)
abbrev pub work_of : QoS → ℕ
work_of AtMostOnce = 1
work_of AtLeastOnce = 2
work_of ExactlyOnce = 4

-- so a packet on its way up
abbrev pub work_up : Packet → ℕ
work_up (packets.Publish p) = work_of p.qos
work_up (packets.PubRel p) = 2
work_up other = 1

-- and one on its way down
abbrev pub work_down : Packet → ℕ
work_down (packets.PubRec p) = 3
work_down (packets.Publish p) = 2
work_down (packets.PubRel p) = 2
work_down other = 1

-- and the publish that waits for its id
abbrev pub work_waiting : Option Publish → ℕ
work_waiting None = 0
work_waiting (Some p) = work_of p.qos

-- of a world: at most so many deliveries find a packet
abbrev pub work : World → ℕ
work w = sum_by work_up w.up + sum_by work_down w.down + work_waiting w.session.core.waiting

-- one where there is a packet
abbrev pub found : List Packet → ℕ
found [] = 0
found (p ∷ rest) = 1

-- how many deliveries among these events found a packet
abbrev pub delivered : List WorldEvent → World → ℕ
delivered [] w = 0
delivered (events.Up ∷ es) w = found w.up + delivered es (happens w events.Up)
delivered (events.Down ∷ es) w = found w.down + delivered es (happens w events.Down)
delivered (e ∷ es) w = delivered es (happens w e)
