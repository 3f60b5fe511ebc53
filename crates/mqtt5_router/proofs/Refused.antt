-- A publish that is refused leaves the session as it was.
use Rattle.std.proofs.Common.{◌≡◌, Option, Some, None, Ok, Err, refl, ℕ}
use Rattle.mqtt5_base.specs.declared.quality.QoS.{QoS}
use Rattle.mqtt5_base.specs.declared.quality.QoS.TheVariants.{AtMostOnce, AtLeastOnce, ExactlyOnce}
use Rattle.mqtt5_publish.specs.declared.publish.Publish.{Publish}
use Rattle.mqtt5_codec.specs.declared.packet.Packet.TheVariants as packets
use Rattle.mqtt5_inflight.specs.declared.event.Outgoing.TheVariants as outgoing
use Rattle.mqtt5_inflight.specs.declared.event.Request.TheVariants as requests
use Rattle.mqtt5_inflight.specs.declared.error.StateError.{StateError}
use Rattle.mqtt5_session.specs.Session.{Session, Answer}
use Rattle.mqtt5_session.specs.Requests.{on_request, unless, over_maximum, Verdict, Refuse, Wait, Store, verdict_of, out_acked, out_publish, id_for, last_after, with_event_at}

abbrev pub IsKept : Session → Answer → Type 0
IsKept s a = (e : StateError) → a.0 ≡ Err e → a.1 ≡ s

acked_kept : (v : Verdict) (s : Session) (p : Publish) (last : ℕ) → IsKept s (out_acked v s p last 0)
acked_kept (Refuse f) s p last = λ e h. refl
acked_kept Wait s p last = λ e h. absurd cc
acked_kept Store s p last = λ e h. absurd cc

once_kept : (o : Option StateError) (s : Session) (p : Publish) → IsKept s (unless o s (Ok (Some (packets.Publish p)), with_event_at s (outgoing.Publish p.pkid) 0))
once_kept None s p = λ e h. absurd cc
once_kept (Some f) s p = λ e h. refl

publish_kept : (q : QoS) (s : Session) (p : Publish) → IsKept s (out_publish q s p 0)
publish_kept AtMostOnce s p = once_kept (over_maximum s.core p) s p
publish_kept AtLeastOnce s p = let q : Publish = record p { pkid = id_for s.core p.pkid } in acked_kept (verdict_of s.core q) s q (last_after s.core p.pkid)
publish_kept ExactlyOnce s p = let q : Publish = record p { pkid = id_for s.core p.pkid } in acked_kept (verdict_of s.core q) s q (last_after s.core p.pkid)

pub refused_kept : (s : Session) (p : Publish) → IsKept s (on_request s (requests.Publish p) 0)
unfolding on_request
refused_kept s p = publish_kept p.qos s p
