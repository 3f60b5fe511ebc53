-- What is said of every run of a world: the packets under way for each id, and how often each
-- publish is handed on (MQTT 5.0 section 4.3).
use Rattle.std.specs.Prelude.{◌≡◌, ℕ, Bool, true, false, ◌&&◌, ◌==◌, List, [], ◌∷◌, filter}
use Rattle.std.specs.Prelude.{count_by, Option, Some, None, if◌then◌else◌}
use Rattle.std.specs.Option.{option_to_list}
use Rattle.std.specs.Ordering.{nat_cmp}
use Rattle.std.specs.FinMap as map
use Rattle.std.specs.FinSet as set
use Rattle.mqtt5_base.specs.declared.quality.QoS.{QoS}
use Rattle.mqtt5_base.specs.declared.quality.QoS.TheVariants.{AtMostOnce, AtLeastOnce, ExactlyOnce}
use Rattle.mqtt5_publish.specs.declared.publish.Publish.{Publish}
use Rattle.mqtt5_publish.specs.contracts.publish.PublishPartialEq.TheImpl as publish
use Rattle.mqtt5_codec.specs.declared.packet.Packet.{Packet}
use Rattle.mqtt5_codec.specs.declared.packet.Packet.TheVariants as packets
use Rattle.mqtt5_inflight.specs.declared.slot.Slot.{Slot}
use Rattle.mqtt5_inflight.specs.declared.slot.Slot.TheVariants.{Sent, Released}
use Rattle.mqtt5_inflight.specs.InUse.{awaiting_ack}
use Rattle.mqtt5_inflight.specs.Unacked.{again, by_id}
use Rattle.mqtt5_session.specs.Session.{Core}
use Rattle.mqtt5_session.specs.Requests.{release_of}
use Rattle.mqtt5_session.specs.Packets.{puback_of, pubrec_of, pubcomp_of}
use Rattle.mqtt5_world.specs.Broker.{reason_for}
use Rattle.mqtt5_world.specs.World.{World}

-- ---- tokens

-- whether a publish is acked (4.3)
abbrev pub is_acked : QoS → Bool
is_acked AtMostOnce = false
is_acked qos = true

-- whether a packet on its way up is a token of this id: a publish of QoS 1 or 2, or a PubRel; what
-- a client never sends up would be one of each id
abbrev pub is_token_up : ℕ → Packet → Bool
is_token_up id (packets.Publish p) = is_acked p.qos && (p.pkid == id)
is_token_up id (packets.PubRel p) = p.pkid == id
is_token_up id other = true

-- so on its way down: an ack
abbrev pub is_token_down : ℕ → Packet → Bool
is_token_down id (packets.PubAck p) = p.pkid == id
is_token_down id (packets.PubRec p) = p.pkid == id
is_token_down id (packets.PubComp p) = p.pkid == id
is_token_down id other = true

-- an id has one token where it is in use, and else none: by what the session knows of it, whether
-- the broker has it, and its tokens on their way up and down (4.3.2, 4.3.3)
pub data Token (id : ℕ) : Option Slot → Bool → List Packet → List Packet → Type 0 where
  Free : Token id None false [] []
  PublishUp : (p : Publish) → p.qos ≡ AtLeastOnce
      → Token id (Some (Sent p)) false (packets.Publish p ∷ []) []
  PubAckDown : (p : Publish) → p.qos ≡ AtLeastOnce
      → Token id (Some (Sent p)) false [] (puback_of id ∷ [])
  PublishTwiceUp : (p : Publish) (has : Bool) → p.qos ≡ ExactlyOnce
      → Token id (Some (Sent p)) has (packets.Publish p ∷ []) []
  PubRecDown : (p : Publish) → p.qos ≡ ExactlyOnce
      → Token id (Some (Sent p)) true [] (pubrec_of id ∷ [])
  PubRelUp : (has : Bool) → Token id (Some Released) has (release_of id ∷ []) []
  PubCompDown : (had : Bool)
      → Token id (Some Released) false [] (pubcomp_of id (reason_for had) ∷ [])

-- so it is with an id of a world
abbrev pub HasOneToken : World → ℕ → Type 0
HasOneToken w id =
    Token id (map.get w.session.core.in_use id) (set.contains w.broker.ids id)
    (filter (is_token_up id) w.up) (filter (is_token_down id) w.down)

-- ---- counts

-- the publishes that await an ack, by rising id (4.3.2, 4.3.3)
abbrev pub stored_in : Core → List Publish
stored_in c = by_id (λ id slot. option_to_list (awaiting_ack slot)) c.limit c.in_use

-- of them those under an id that isn't among these
abbrev pub stored_without : set.FinSet nat_cmp → Core → List Publish
stored_without ids c =
    by_id (λ id slot. if set.contains ids id then [] else option_to_list (awaiting_ack slot))
    c.limit c.in_use

-- the publish that waits for its id
abbrev pub waiting_in : Core → List Publish
waiting_in c = option_to_list c.waiting

-- whether a publish has this content: with id 0 and without dup it is the same (2.2.1, 3.3.1.1)
abbrev pub has_content : Publish → Publish → Bool
has_content c p = publish.eq-value.it (record p { pkid = 0; dup = false }) c

-- how many of these publishes have it
abbrev pub times : Publish → List Publish → ℕ
times c ps = count_by (has_content c) ps

-- a class of publishes, of one QoS, whatever their ids and dup; a content is one
pub record IsClass (qos : QoS) (test : Publish → Bool) : Type 0 where
  pub of_qos : (p : Publish) → test p ≡ true → p.qos ≡ qos
  pub blind : (p : Publish) (id : ℕ) → test (record p { pkid = id }) ≡ test p
  pub blind_again : (p : Publish) → test (again p) ≡ test p
