-- The session of a world after each event, and that it is sound.
use Rattle.std.proofs.Common.{◌≡◌, List, [], ◌∷◌, Option, Result, Ok, Err, refl, sym, subst}
use Rattle.mqtt5_publish.specs.declared.publish.Publish.{Publish}
use Rattle.mqtt5_codec.specs.declared.packet.Packet.{Packet}
use Rattle.mqtt5_inflight.specs.declared.event.Request.TheVariants as requests
use Rattle.mqtt5_inflight.specs.declared.error.StateError.{StateError}
use Rattle.mqtt5_session.specs.Session.{Session}
use Rattle.mqtt5_session.specs.Requests.{on_request}
use Rattle.mqtt5_session.specs.Packets.{on_packet}
use Rattle.mqtt5_session.specs.Resuming.{resume_of, Sendings}
use Rattle.mqtt5_session.specs.Ledger.{kept_by}
use Rattle.mqtt5_session.specs.Ledger as ledger
use Rattle.mqtt5_session.proofs.Exports.{Sound, inc_sound, out_sound, after_sound}
use Rattle.mqtt5_world.specs.declared.event.WorldEvent.{WorldEvent}
use Rattle.mqtt5_world.specs.declared.event.WorldEvent.TheVariants as events
use Rattle.mqtt5_world.specs.World.{World, after_request, arrives, after_reply, takes_packet, returns, taken_back, after_resume, resumes, happens}

pub asked_session : (w : World) (p : Publish) (r : Result (Option Packet) StateError) (s : Session) → (after_request w p r s).session ≡ s
asked_session w p (Ok reply) s = refl
asked_session w p (Err e) s = refl

pub reply_session : (w : World) (r : Result (Option Packet) StateError) (s : Session) → (after_reply w r s).session ≡ s
reply_session w (Ok reply) s = refl
reply_session w (Err e) s = refl

pub arrives_session : (w : World) (l : List Packet) → (arrives w l).session ≡ w.session
arrives_session w [] = refl
arrives_session w (p ∷ rest) = refl

pub resumed_session : (w : World) (r : Sendings) → (after_resume w r).session ≡ kept_by w.session r
resumed_session w (Ok r) = refl
resumed_session w (Err e) = refl

pub takes_sound : (w : World) (p : Packet) → Sound w.session.core → Sound (takes_packet w p).session.core
takes_sound w p i = subst (λ s. Sound s.core) (sym (reply_session w (on_packet w.session p 0).0 (on_packet w.session p 0).1)) (inc_sound w.session p 0 i)

returns_sound : (w : World) (l : List Packet) → Sound w.session.core → Sound (returns w l).session.core
returns_sound w [] i = i
returns_sound w (p ∷ rest) i = takes_sound (record w { down = rest }) p i

resumes_sound : (w : World) → Sound w.session.core → Sound (resumes w).session.core
resumes_sound w i = subst (λ s. Sound s.core) (sym (resumed_session w (resume_of w.session 0))) (after_sound w.session (ledger.Resume 0) i)

pub event_sound : (w : World) (e : WorldEvent) → Sound w.session.core → Sound (happens w e).session.core
event_sound w (events.Publish p) i = subst (λ s. Sound s.core) (sym (asked_session w p (on_request w.session (requests.Publish p) 0).0 (on_request w.session (requests.Publish p) 0).1)) (out_sound w.session (requests.Publish p) 0 i)
event_sound w events.Up i = subst (λ s. Sound s.core) (sym (arrives_session w w.up)) i
event_sound w events.Down i = returns_sound w w.down i
event_sound w (events.Loss m) i = resumes_sound (takes_packet (record w { up = []; down = [] }) (taken_back m)) (takes_sound (record w { up = []; down = [] }) (taken_back m) i)
