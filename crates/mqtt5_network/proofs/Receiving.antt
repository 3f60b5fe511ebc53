-- A session that sends its acks itself receives what is plain as a broker does, and that changes nothing of what it sends.
use Rattle.std.proofs.Common.{◌≡◌, ℕ, Bool, true, false, cond, ◌&&◌, List, [], ◌∷◌, ◌++◌, Option, Some, None, Ok, refl, sym, ap, ◌∙◌, subst, inl, inr, arith, rules}
use Rattle.std.specs.Prelude.{is_some, unwrap_or, not}
use Rattle.std.specs.Ordering.{nat_cmp, eq_by_cmp}
use Rattle.std.specs.Cmp.{nat_cmp_total, unsigned_tied}
use Rattle.std.specs.FinMap.{nat_cmp-IsAntisymmetric}
use Rattle.std.specs.FinSet as set
use Rattle.std.proofs.lemmas.Bool.{cases_eq}
use Rattle.mqtt5_base.specs.declared.quality.QoS.{QoS}
use Rattle.mqtt5_base.specs.declared.quality.QoS.TheVariants.{AtMostOnce, AtLeastOnce, ExactlyOnce}
use Rattle.mqtt5_publish.specs.declared.publish.Publish.{Publish}
use Rattle.mqtt5_publish.specs.declared.pubrel.PubRel.{PubRel}
use Rattle.mqtt5_publish.specs.declared.pubrel.PubRelReason.{PubRelReason}
use Rattle.mqtt5_publish.specs.declared.pubrel.PubRelReason.TheVariants.{Success}
use Rattle.mqtt5_codec.specs.declared.packet.Packet.{Packet}
use Rattle.mqtt5_codec.specs.declared.packet.Packet.TheVariants as packets
use Rattle.mqtt5_inflight.specs.declared.event.Event.TheVariants as events
use Rattle.mqtt5_inflight.specs.declared.event.Outgoing.TheVariants as outgoing
use Rattle.mqtt5_inflight.specs.Aliases.{alias_of}
use Rattle.mqtt5_session.specs.Session.{Topics, Session, Answer}
use Rattle.mqtt5_session.specs.Packets.{on_packet, answer_to, with_incoming, with_notice, topic_under, on_publish, on_qos, answers, ids_with, on_pubrel, is_exactly_once, puback_of, pubrec_of, pubcomp_of}
use Rattle.mqtt5_world.specs.Broker.{Broker, Served, serve, serve_publish, reason_for}
use Rattle.mqtt5_network.specs.Receiver.{shown, as_receiver, IsPlain, IsReceiver}
use Rattle.mqtt5_network.proofs.Sending.{part, show_one, show_none}

-- ---- an id that isn't there is taken out

lacking : (s : set.FinSet nat_cmp) (id q : ℕ) → set.contains s id ≡ false → (not (eq_by_cmp nat_cmp q id) && set.contains s q) ≡ set.contains s q
lacking s id q lacks = elim (cases_eq q id) [
  | inl e ↦
      let tied : eq_by_cmp nat_cmp q id ≡ true = unsigned_tied q id ∙ grind (arith, rules) in
      rw (tied, e, lacks) refl
  | inr n ↦
      let apart : eq_by_cmp nat_cmp q id ≡ false = unsigned_tied q id ∙ grind (arith, rules) in
      rw apart refl
]

remove-absent : (s : set.FinSet nat_cmp) (id : ℕ) → set.contains s id ≡ false → set.remove s id ≡ s
remove-absent s id lacks = set.same_set nat_cmp_total nat_cmp-IsAntisymmetric _ _ (λ q. set.contains-remove nat_cmp_total s id q ∙ lacking s id q lacks)

-- ---- an answer as a receiver's

pub record Receives (s : Session) (a : Answer) (r : Served) : Type 0 where
  pub reply : a.0 ≡ Ok r.0
  pub after : as_receiver a.1 ≡ r.1
  pub part : part a.1 ≡ part s
  pub own : a.1.core.manual_acks ≡ false

abbrev with_shown : set.FinSet nat_cmp → List Publish → Broker
with_shown ids ps = record { ids = ids; handed = ps }

module _ (s : Session) (own : s.core.manual_acks ≡ false) (at : ℕ) where
  -- ---- a publish

  abbrev shown_as : QoS → Publish → Option Packet
  shown_as q p = cond (is_exactly_once q && set.contains s.core.incoming p.pkid) None (Some (packets.Publish p))

  abbrev with_ids : Session → Topics → QoS → ℕ → Session
  with_ids t topics q id = record t { core = record t.core { aliases = topics; incoming = ids_with q t.core.incoming id } }

  twice : (p : Publish) (topics : Topics) (c : Bool) → Receives s (on_qos ExactlyOnce (with_ids (with_notice s (cond c None (Some (packets.Publish p)))) topics ExactlyOnce p.pkid) p.pkid at) (Some (pubrec_of p.pkid), record { ids = set.insert s.core.incoming p.pkid; handed = cond c (shown s) (shown s ++ p ∷ []) })
  twice p topics true = subst (λ b. Receives s (answers b (pubrec_of p.pkid) (outgoing.PubRec p.pkid) (with_ids s topics ExactlyOnce p.pkid) at) (Some (pubrec_of p.pkid), record { ids = set.insert s.core.incoming p.pkid; handed = shown s })) (sym own)
      (record { reply = refl; after = ap (with_shown (set.insert s.core.incoming p.pkid)) (show_none s.events (events.Outgoing (outgoing.PubRec p.pkid)) refl); part = refl; own = own })
  twice p topics false = subst (λ b. Receives s (answers b (pubrec_of p.pkid) (outgoing.PubRec p.pkid) (with_ids (with_incoming s (packets.Publish p)) topics ExactlyOnce p.pkid) at) (Some (pubrec_of p.pkid), record { ids = set.insert s.core.incoming p.pkid; handed = shown s ++ p ∷ [] })) (sym own)
      (record { reply = refl; after = ap (with_shown (set.insert s.core.incoming p.pkid)) (show_none (with_incoming s (packets.Publish p)).events (events.Outgoing (outgoing.PubRec p.pkid)) refl ∙ show_one s.events p); part = refl; own = own })

  by_qos : (q : QoS) (p : Publish) (topics : Topics) → Receives s (on_qos q (with_ids (with_notice s (shown_as q p)) topics q p.pkid) p.pkid at) (serve_publish q (as_receiver s) p)
  by_qos AtMostOnce p topics = record { reply = refl; after = ap (with_shown s.core.incoming) (show_one s.events p); part = refl; own = own }
  by_qos AtLeastOnce p topics = subst (λ b. Receives s (answers b (puback_of p.pkid) (outgoing.PubAck p.pkid) (with_ids (with_incoming s (packets.Publish p)) topics AtLeastOnce p.pkid) at) (serve_publish AtLeastOnce (as_receiver s) p)) (sym own)
      (record { reply = refl; after = ap (with_shown s.core.incoming) (show_none (with_incoming s (packets.Publish p)).events (events.Outgoing (outgoing.PubAck p.pkid)) refl ∙ show_one s.events p); part = refl; own = own })
  by_qos ExactlyOnce p topics = twice p topics (set.contains s.core.incoming p.pkid)

  publish_inc : (p : Publish) → alias_of p ≡ None → on_packet s (packets.Publish p) at ≡ on_publish true (with_notice s (shown_as p.qos p)) p at
  unfolding on_packet
  publish_inc p plain =
      ap (λ a. answer_to (with_notice s (cond (is_exactly_once p.qos && set.contains s.core.incoming p.pkid) None (Some (packets.Publish (record p { topic = unwrap_or (topic_under a p.topic s.core.aliases) p.topic }))))) (packets.Publish p) at) plain
      ∙ ap (λ a. on_publish (is_some (topic_under a p.topic (with_notice s (shown_as p.qos p)).core.aliases)) (with_notice s (shown_as p.qos p)) p at) plain

  -- ---- a release

  abbrev Releases : PubRel → PubRelReason → Bool → Type 0
  Releases a reason b = Receives s (on_pubrel b (with_incoming s (packets.PubRel a)) reason a.pkid at) (Some (pubcomp_of a.pkid (reason_for b)), record { ids = set.remove s.core.incoming a.pkid; handed = shown s })

  released_shown : (a : PubRel) → shown (on_pubrel true (with_incoming s (packets.PubRel a)) Success a.pkid at).1 ≡ shown s
  released_shown a = show_none (with_incoming s (packets.PubRel a)).events (events.Outgoing (outgoing.PubComp a.pkid)) refl ∙ show_none s.events (events.Incoming (packets.PubRel a)) refl

  released : (a : PubRel) (b : Bool) → set.contains s.core.incoming a.pkid ≡ b → Releases a Success b
  released a true e = record { reply = refl; after = ap (with_shown (set.remove s.core.incoming a.pkid)) (released_shown a); part = refl; own = own }
  released a false e =
      record {
        reply = refl;
        after = λ n. with_shown (sym (remove-absent s.core.incoming a.pkid e) n) (released_shown a n);
        part = refl;
        own = own;
      }

  release_received : (a : PubRel) → a.reason ≡ Success → Receives s (on_packet s (packets.PubRel a) at) (serve (as_receiver s) (packets.PubRel a))
  unfolding on_packet
  release_received a plain = subst (λ r. Releases a r (set.contains s.core.incoming a.pkid)) (sym plain) (released a (set.contains s.core.incoming a.pkid) refl)

  received : (x : Packet) → IsPlain x → Receives s (on_packet s x at) (serve (as_receiver s) x)
  received (packets.Publish p) plain = subst (λ a. Receives s a (serve (as_receiver s) (packets.Publish p))) (sym (publish_inc p plain)) (by_qos p.qos p _)
  received (packets.PubRel a) plain = release_received a plain
  received other plain = absurd plain

pub receives : (s : Session) (x : Packet) (at : ℕ) → s.core.manual_acks ≡ false → IsPlain x → Receives s (on_packet s x at) (serve (as_receiver s) x)
receives s x at own plain = received s own at x plain

pub receiver : (s : Session) (x : Packet) (at : ℕ) → s.core.manual_acks ≡ false → IsPlain x → IsReceiver s x at
receiver s x at own plain = let r = receives s x at own plain in record { reply = r.reply; after = r.after }
