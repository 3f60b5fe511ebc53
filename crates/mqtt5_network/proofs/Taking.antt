-- A session takes a publish on where it has nothing to do.
use Rattle.std.proofs.Common.{◌≡◌, ℕ, ◌≤◌, cond, Option, Some, None, Ok, sym, ap, ◌∙◌, subst, arith, le-ltb}
use Rattle.std.specs.FinMap.{get}
use Rattle.mqtt5_base.specs.declared.quality.QoS.{QoS}
use Rattle.mqtt5_base.specs.declared.quality.QoS.TheVariants.{AtMostOnce, AtLeastOnce, ExactlyOnce}
use Rattle.mqtt5_publish.specs.declared.publish.Publish.{Publish}
use Rattle.mqtt5_codec.specs.declared.packet.Packet.{Packet}
use Rattle.mqtt5_codec.specs.declared.packet.Packet.TheVariants as packets
use Rattle.mqtt5_inflight.specs.declared.event.Request.TheVariants as requests
use Rattle.mqtt5_inflight.specs.declared.event.Outgoing.TheVariants as outgoing
use Rattle.mqtt5_inflight.specs.declared.error.StateError.TheVariants as errors
use Rattle.mqtt5_inflight.specs.Aliases.{alias_of, alias_over}
use Rattle.mqtt5_session.specs.Session.{Core, Session, Answer}
use Rattle.mqtt5_session.specs.Requests.{on_request, unless, over_maximum, alias_fault, Refuse, Store, by_use, by_alias, verdict_of, out_acked, out_identified, out_publish, id_for, last_after, with_event_at}
use Rattle.mqtt5_session.specs.Packets.{on_packet}
use Rattle.mqtt5_progress.specs.Progress.{IsIdle}
use Rattle.mqtt5_progress.proofs.Closed.{again_of}
use Rattle.mqtt5_network.specs.Connection.{connected}
use Rattle.mqtt5_network.proofs.Sending.{InRange}

-- ---- the last id stays within the limit

-- the session takes up a new connection
connected_range : (m : Option ℕ) (s : Session) → InRange s.core → InRange (connected m s).core
unfolding on_packet
connected_range None s i = record { last = i.last; current = i.current }
connected_range (Some m) s i = record { last = i.last; current = omega arith }

pub back_range : (m : Option ℕ) (s : Session) → InRange s.core → InRange (again_of (connected m s)).1.core
back_range m s i = let r = connected_range m s i in record { last = r.last; current = r.current }

-- ---- an idle session takes a publish on

abbrev pub IsTaken : Answer → Type 0
IsTaken a = (x : Packet) × (a.0 ≡ Ok (Some x))

none_over : (c : Core) (p : Publish) → alias_of p ≡ None → over_maximum c p ≡ None
none_over c p e = ap (λ a. alias_fault c.alias_max (alias_over c.alias_max a)) e

judged_store : (c : Core) (p : Publish) → alias_of p ≡ None → p.pkid ≤ c.limit → IsIdle c → verdict_of c p ≡ Store
judged_store c p e high idle =
    ap (λ b. cond b (Refuse (errors.Unsolicited p.pkid)) (by_alias (over_maximum c p) (by_use (get c.in_use p.pkid) c.waiting))) (le-ltb c.limit p.pkid high)
    ∙ ap (λ o. by_alias o (by_use (get c.in_use p.pkid) c.waiting)) (none_over c p e)
    ∙ ap (λ x. by_use x c.waiting) (idle.in_use p.pkid)

module _ (s : Session) (idle : IsIdle s.core) (range : InRange s.core) where
  acked_taken : (p : Publish) (last : ℕ) → alias_of p ≡ None → p.pkid ≤ s.core.limit → IsTaken (out_identified s p last 0)
  acked_taken p last e high = (packets.Publish p, ap (λ v. (out_acked v s p last 0).0) (judged_store s.core p e high idle))

  low : id_for s.core 0 ≤ s.core.limit
  low = let l = range.last in omega (arith, l)

  publish_taken : (q : QoS) (p : Publish) → p.pkid ≡ 0 → alias_of p ≡ None → IsTaken (out_publish q s p 0)
  publish_taken AtMostOnce p z e = (packets.Publish p, ap (λ o. (unless o s (Ok (Some (packets.Publish p)), with_event_at s (outgoing.Publish p.pkid) 0)).0) (none_over s.core p e))
  publish_taken AtLeastOnce p z e = acked_taken (record p { pkid = id_for s.core p.pkid }) (last_after s.core p.pkid) e (subst (λ id. id_for s.core id ≤ s.core.limit) (sym z) low)
  publish_taken ExactlyOnce p z e = acked_taken (record p { pkid = id_for s.core p.pkid }) (last_after s.core p.pkid) e (subst (λ id. id_for s.core id ≤ s.core.limit) (sym z) low)

  pub out_taken : (p : Publish) → p.pkid ≡ 0 → alias_of p ≡ None → IsTaken (on_request s (requests.Publish p) 0)
  unfolding on_request
  out_taken p z e = publish_taken p.qos p z e
