-- A world in which the client's process ends is as one in which its connection alone is lost.
use Rattle.std.proofs.Common.{◌≡◌, ℕ, false, List, [], ◌∷◌, ◌++◌, Option, Result, Ok, Err, refl, sym, ap, ap₂, ◌∙◌, subst}
use Rattle.std.specs.Option.{option_to_list}
use Rattle.std.specs.FinMap.{empty}
use Rattle.mqtt5_publish.specs.declared.publish.Publish.{Publish}
use Rattle.mqtt5_codec.specs.declared.packet.Packet.{Packet}
use Rattle.mqtt5_inflight.specs.declared.event.Request.TheVariants as requests
use Rattle.mqtt5_inflight.specs.declared.error.StateError.{StateError}
use Rattle.mqtt5_session.specs.Session.{Session}
use Rattle.mqtt5_session.specs.Requests.{on_request}
use Rattle.mqtt5_session.specs.Packets.{on_packet}
use Rattle.mqtt5_session.specs.Resuming.{with_dup, resume_of, Sendings}
use Rattle.mqtt5_session.specs.Ledger.{kept_by}
use Rattle.mqtt5_session.specs.Parts.{without_aliases}
use Rattle.mqtt5_session.proofs.Exports.{Sound}
use Rattle.mqtt5_world.specs.declared.calls.Call.TheVariants as calls
use Rattle.mqtt5_world.specs.declared.event.WorldEvent.{WorldEvent}
use Rattle.mqtt5_world.specs.declared.event.WorldEvent.TheVariants as events
use Rattle.mqtt5_world.specs.Broker.{serve}
use Rattle.mqtt5_world.specs.World.{World, start, after_request, arrives, after_reply, takes_packet, returns, taken_back, after_resume, resumes, happens, run_world}
use Rattle.mqtt5_world.proofs.Alike.{any_call, core_kept, sound_after}
use Rattle.mqtt5_world.proofs.Step.{Inv}
use Rattle.mqtt5_world.proofs.Runs.{inv_start, inv_next}
use Rattle.mqtt5_progress.proofs.Closed.{Holds, holds_next, holds_start}
use Rattle.mqtt5_crash.specs.Restart.{loaded_session, sent_by}
use Rattle.mqtt5_crash.specs.Crashes.{CrashEvent, Happens, Crash, run_crashes, as_losses, AllTidy, AlikeWorlds}
use Rattle.mqtt5_crash.proofs.Loading.{sent_same, whole_core, tidy_sound}
use Rattle.mqtt5_crash.proofs.Sessions.{takes_sound, event_sound}
use Rattle.mqtt5_crash.proofs.Whole.{Tidy, tidy_closed, owes_tidy, event_topics, is_whole}

-- ---- events keep worlds alike

asked_alike : (w v : World) (p : Publish) (r : Result (Option Packet) StateError) (s t : Session) → AlikeWorlds w v → with_dup s.core ≡ with_dup t.core → AlikeWorlds (after_request w p r s) (after_request v p r t)
asked_alike w v p (Ok reply) s t a e = record { core = e; broker = a.broker; up = ap (λ l. l ++ option_to_list reply) a.up; down = a.down; accepted = ap (λ l. l ++ p ∷ []) a.accepted; refused = a.refused; faults = a.faults }
asked_alike w v p (Err x) s t a e = record { core = e; broker = a.broker; up = a.up; down = a.down; accepted = a.accepted; refused = ap (λ l. l ++ (p, x) ∷ []) a.refused; faults = a.faults }

reply_alike : (w v : World) (r : Result (Option Packet) StateError) (s t : Session) → AlikeWorlds w v → with_dup s.core ≡ with_dup t.core → AlikeWorlds (after_reply w r s) (after_reply v r t)
reply_alike w v (Ok reply) s t a e = record { core = e; broker = a.broker; up = ap (λ l. l ++ option_to_list reply) a.up; down = a.down; accepted = a.accepted; refused = a.refused; faults = a.faults }
reply_alike w v (Err x) s t a e = record { core = e; broker = a.broker; up = a.up; down = a.down; accepted = a.accepted; refused = a.refused; faults = ap (λ l. l ++ x ∷ []) a.faults }

takes_alike : (w v : World) (p : Packet) → AlikeWorlds w v → AlikeWorlds (takes_packet w p) (takes_packet v p)
takes_alike w v p a =
    let h = any_call (calls.Incoming p 0) w.session v.session a.core in
    let same : (on_packet w.session p 0).0 ≡ (on_packet v.session p 0).0 = cc (h.0) in
    subst (λ r. AlikeWorlds (takes_packet w p) (after_reply v r (on_packet v.session p 0).1)) same (reply_alike w v (on_packet w.session p 0).0 (on_packet w.session p 0).1 (on_packet v.session p 0).1 a h.1)

asks_alike : (w v : World) (p : Publish) → AlikeWorlds w v → AlikeWorlds (happens w (events.Publish p)) (happens v (events.Publish p))
asks_alike w v p a =
    let h = any_call (calls.Outgoing (requests.Publish p) 0) w.session v.session a.core in
    let same : (on_request w.session (requests.Publish p) 0).0 ≡ (on_request v.session (requests.Publish p) 0).0 = cc (h.0) in
    subst (λ r. AlikeWorlds (happens w (events.Publish p)) (after_request v p r (on_request v.session (requests.Publish p) 0).1)) same (asked_alike w v p (on_request w.session (requests.Publish p) 0).0 (on_request w.session (requests.Publish p) 0).1 (on_request v.session (requests.Publish p) 0).1 a h.1)

arrives_alike : (w v : World) (l : List Packet) → AlikeWorlds w v → AlikeWorlds (arrives w l) (arrives v l)
arrives_alike w v [] a = a
arrives_alike w v (p ∷ rest) a = record {
  core = a.core;
  broker = ap (λ b. (serve b p).1) a.broker;
  up = refl;
  down = ap₂ (λ d b. d ++ option_to_list (serve b p).0) a.down a.broker;
  accepted = a.accepted;
  refused = a.refused;
  faults = a.faults;
}

returns_alike : (w v : World) (l : List Packet) → AlikeWorlds w v → AlikeWorlds (returns w l) (returns v l)
returns_alike w v [] a = a
returns_alike w v (p ∷ rest) a = takes_alike (record w { down = rest }) (record v { down = rest }) p (record { core = a.core; broker = a.broker; up = a.up; down = refl; accepted = a.accepted; refused = a.refused; faults = a.faults })

resumed_alike : (w v : World) (x y : Sendings) → AlikeWorlds w v → sent_by x ≡ sent_by y → with_dup (kept_by w.session x).core ≡ with_dup (kept_by v.session y).core → AlikeWorlds (after_resume w x) (after_resume v y)
resumed_alike w v (Ok x) (Ok y) a e k = let same : x.0 ≡ y.0 = cc in record { core = k; broker = a.broker; up = ap₂ (λ l m. l ++ m) a.up same; down = a.down; accepted = a.accepted; refused = a.refused; faults = a.faults }
resumed_alike w v (Err x) (Err y) a e k = let same : x ≡ y = cc in record { core = k; broker = a.broker; up = a.up; down = a.down; accepted = a.accepted; refused = a.refused; faults = ap₂ (λ l m. l ++ m ∷ []) a.faults same }
resumed_alike w v (Ok x) (Err y) a e k = absurd cc
resumed_alike w v (Err x) (Ok y) a e k = absurd cc

resumes_alike : (w v : World) → Sound w.session.core → Sound v.session.core → AlikeWorlds w v → AlikeWorlds (resumes w) (resumes v)
resumes_alike w v i j a = resumed_alike w v (resume_of w.session 0) (resume_of v.session 0) a (sent_same w.session v.session 0 i j (ap without_aliases a.core)) (core_kept w.session 0 i ∙ a.core ∙ sym (core_kept v.session 0 j))

event_alike : (w v : World) (e : WorldEvent) → Sound w.session.core → Sound v.session.core → AlikeWorlds w v → AlikeWorlds (happens w e) (happens v e)
event_alike w v (events.Publish p) i j a = asks_alike w v p a
event_alike w v events.Up i j a = subst (λ l. AlikeWorlds (arrives w w.up) (arrives v l)) a.up (arrives_alike w v w.up a)
event_alike w v events.Down i j a = subst (λ l. AlikeWorlds (returns w w.down) (returns v l)) a.down (returns_alike w v w.down a)
event_alike w v (events.Loss m) i j a =
    let x = record w { up = []; down = [] } in
    let y = record v { up = []; down = [] } in
    resumes_alike (takes_packet x (taken_back m)) (takes_packet y (taken_back m)) (takes_sound x (taken_back m) i) (takes_sound y (taken_back m) j)
    (takes_alike x y (taken_back m) (record { core = a.core; broker = a.broker; up = refl; down = refl; accepted = a.accepted; refused = a.refused; faults = a.faults }))

-- ---- the whole

runs_alike : (limit : ℕ) (es : List CrashEvent) (w v : World) → Sound w.session.core → Inv v → Holds Tidy limit v → v.session.core.aliases ≡ empty → AllTidy es → AlikeWorlds w v → AlikeWorlds (run_crashes es w) (run_world (as_losses es) v)
runs_alike limit [] w v i j h none t a = a
runs_alike limit (Happens e ∷ es) w v i j h none t a =
    runs_alike limit es (happens w e) (happens v e) (event_sound w e i) (inv_next v e j) (holds_next Tidy limit tidy_closed v e j h (owes_tidy v e t.0)) (event_topics limit v e j.sound h ∙ none) t.1
    (event_alike w v e i j.sound a)
runs_alike limit (Crash m ∷ es) w v i j h none t a =
    let x = record w { session = loaded_session w.session } in
    let is = is_whole limit w.session.core v.session.core i a.core h.core none in
    let k = tidy_sound w.session.core is.tidy i in
    runs_alike limit es (happens x (events.Loss m)) (happens v (events.Loss m)) (event_sound x (events.Loss m) k) (inv_next v (events.Loss m) j) (holds_next Tidy limit tidy_closed v (events.Loss m) j h (tt {0})) (event_topics limit v (events.Loss m) j.sound h ∙ none) t.1
    (event_alike x v (events.Loss m) k j.sound (record { core = whole_core w.session.core is ∙ a.core; broker = a.broker; up = a.up; down = a.down; accepted = a.accepted; refused = a.refused; faults = a.faults }))

pub crashes_alike : (limit : ℕ) (es : List CrashEvent) → AllTidy es → AlikeWorlds (run_crashes es (start limit)) (run_world (as_losses es) (start limit))
crashes_alike limit es t = runs_alike limit es (start limit) (start limit) (sound_after [] limit false) (inv_start limit) (holds_start Tidy limit) refl t (record { core = refl; broker = refl; up = refl; down = refl; accepted = refl; refused = refl; faults = refl })
