-- This file serves the logic alone: what a request does is done while it is lent, all but its
-- packet.
use Rattle.std.specs.Prelude.{◌≡◌, ◌≢◌, ℕ, Option, Some, None, Result, Ok, Err}
use Rattle.mqtt5_base.specs.declared.quality.QoS.TheVariants.{AtMostOnce}
use Rattle.mqtt5_publish.specs.declared.publish.Publish.{Publish}
use Rattle.mqtt5_codec.specs.declared.packet.Packet.{Packet}
use Rattle.mqtt5_codec.specs.declared.packet.Packet.TheVariants as packets
use Rattle.mqtt5_inflight.specs.declared.event.Request.{Request}
use Rattle.mqtt5_inflight.specs.declared.event.Request.TheVariants as requests
use Rattle.mqtt5_inflight.specs.declared.error.StateError.{StateError}
use Rattle.mqtt5_session.specs.Session.{Session, Sends}
use Rattle.mqtt5_session.specs.Requests.{id_for, verdict_of, Wait, Store, with_stored, on_request}
use Rattle.mqtt5_session.specs.Requests.{out_identified}

-- a publish with the id that it is sent under
abbrev pub named : Session → Publish → Publish
named s p = record p { pkid = id_for s.core p.pkid }

-- a publish with its id is stored, and this is the id; or it is refused; or it has to wait, and
-- nothing was done
abbrev pub Stores : Result (Option ℕ) StateError → Session → Session → Publish → ℕ → ℕ → Type 0
Stores (Ok (Some id)) old new p last at =
    (id ≡ p.pkid) × (verdict_of old.core p ≡ Store) × (new ≡ with_stored old p last at)
Stores (Ok None) old new p last at = (new ≡ old) × (verdict_of old.core p ≡ Wait)
Stores (Err e) old new p last at = Sends (Err e) old new (out_identified old p last at)

-- what is left of a request: a publish has to wait, and a ping is none
abbrev pub IsLeft : Request → Session → Type 0
IsLeft (requests.Publish p) s = (p.qos ≢ AtMostOnce) × (verdict_of s.core (named s p) ≡ Wait)
IsLeft requests.PingReq s = ⊥
IsLeft request s = Unit {0}

-- the packet of a publish with this id, or of a ping
abbrev pub sent_as : Request → ℕ → Packet
sent_as (requests.Publish p) id = packets.Publish (record p { pkid = id })
sent_as request id = packets.PingReq (record {})

-- a request is done, and this is the id of its packet; or it is refused; or nothing was done
abbrev pub Plans : Result (Option ℕ) StateError → Session → Session → Request → ℕ → Type 0
Plans (Ok (Some id)) old new request at =
    on_request old request at ≡ (Ok (Some (sent_as request id)), new)
Plans (Ok None) old new request at = (new ≡ old) × IsLeft request old
Plans (Err e) old new request at = Sends (Err e) old new (on_request old request at)
