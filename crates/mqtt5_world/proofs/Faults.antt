-- What was refused once stays so; and no world that is reached has a fault.
use Rattle.std.proofs.Common.{◌≡◌, ◌≢◌, ℕ, suc, ◌<◌, List, [], ◌∷◌, ◌++◌, Option, Result, Ok, Err, refl, sym, ap, ◌∙◌, subst, length, drop, slice_index_or}
use Rattle.std.proofs.Math.Seq.{drop-cons}
use Rattle.mqtt5_publish.specs.declared.publish.Publish.{Publish}
use Rattle.mqtt5_codec.specs.declared.packet.Packet.{Packet}
use Rattle.mqtt5_inflight.specs.declared.error.StateError.{StateError}
use Rattle.mqtt5_inflight.specs.declared.error.StateError.TheVariants as errors
use Rattle.mqtt5_inflight.specs.declared.event.Request.TheVariants as requests
use Rattle.mqtt5_session.specs.Session.{Session}
use Rattle.mqtt5_session.specs.Packets.{on_packet}
use Rattle.mqtt5_session.specs.Requests.{on_request}
use Rattle.mqtt5_session.specs.Resuming.{Sendings, resume_of}
use Rattle.mqtt5_world.specs.declared.event.WorldEvent.{WorldEvent}
use Rattle.mqtt5_world.specs.declared.event.WorldEvent.TheVariants as events
use Rattle.mqtt5_world.specs.World.{World, start, after_request, after_reply, takes_packet, taken_back, arrives, returns, after_resume, happens, run_world}
use Rattle.mqtt5_world.specs.Happens.{Happens}
use Rattle.mqtt5_world.proofs.Runs.{inv_start, inv_run}

abbrev Faulty : World → Type 0
Faulty w = w.faults ≢ []

more : (xs : List StateError) (e : StateError) → (xs ++ e ∷ []) ≢ []
more [] e = λ h. absurd cc
more (x ∷ xs) e = λ h. absurd cc

asked_stays : (w : World) (p : Publish) (a : Result (Option Packet) StateError) (s : Session) → Faulty w → Faulty (after_request w p a s)
asked_stays w p (Ok reply) s f = f
asked_stays w p (Err e) s f = f

heard_stays : (w : World) (a : Result (Option Packet) StateError) (s : Session) → Faulty w → Faulty (after_reply w a s)
heard_stays w (Ok reply) s f = f
heard_stays w (Err e) s f = more w.faults e

arrives_stays : (w : World) (us : List Packet) → Faulty w → Faulty (arrives w us)
arrives_stays w [] f = f
arrives_stays w (p ∷ rest) f = f

takes_stays : (w : World) (p : Packet) → Faulty w → Faulty (takes_packet w p)
takes_stays w p f = heard_stays w (on_packet w.session p 0).0 (on_packet w.session p 0).1 f

returns_stays : (w : World) (ds : List Packet) → Faulty w → Faulty (returns w ds)
returns_stays w [] f = f
returns_stays w (p ∷ rest) f = takes_stays (record w { down = rest }) p f

resumed_stays : (w : World) (r : Sendings) → Faulty w → Faulty (after_resume w r)
resumed_stays w (Ok r) f = f
resumed_stays w (Err e) f = more w.faults e

happens_stays : (w : World) (e : WorldEvent) → Faulty w → Faulty (happens w e)
happens_stays w (events.Publish p) f = asked_stays w p (on_request w.session (requests.Publish p) 0).0 (on_request w.session (requests.Publish p) 0).1 f
happens_stays w events.Up f = arrives_stays w w.up f
happens_stays w events.Down f = returns_stays w w.down f
happens_stays w (events.Loss m) f =
    let lost : World = record w { up = []; down = [] } in
    resumed_stays (takes_packet lost (taken_back m)) (resume_of (takes_packet lost (taken_back m)).session 0) (takes_stays lost (taken_back m) f)

run_stays : (es : List WorldEvent) (w : World) → Faulty w → Faulty (run_world es w)
run_stays [] w f = f
run_stays (e ∷ es) w f = run_stays es (happens w e) (happens_stays w e f)

-- what stops a run stops it also where it goes on
pub stops_then : (e : StateError) (new w : World) (es : List WorldEvent) → Happens {A = Unit {0}} (Err e) new w → Happens {A = Unit {0}} (Err e) new (run_world es w)
stops_then errors.OutOfMemory new w es h = tt {0}
stops_then e new w es h = run_stays es w h

pub stops : (e : StateError) (new old : World) (w : World) (event : WorldEvent) (rest all : List WorldEvent) → run_world (event ∷ rest) w ≡ run_world all old → Happens {A = Unit {0}} (Err e) new (happens w event) → Happens {A = Unit {0}} (Err e) new (run_world all old)
stops e new old w event rest all same h = subst (λ v. Happens {A = Unit {0}} (Err e) new v) same (stops_then e new (happens w event) rest h)

pub stops_at : (e : StateError) (new old w : World) (all : List WorldEvent) (i : ℕ) (event : WorldEvent) → i < length all → event ≡ slice_index_or all i event → run_world (drop i all) w ≡ run_world all old → Happens {A = Unit {0}} (Err e) new (happens w event) → Happens {A = Unit {0}} (Err e) new (run_world all old)
stops_at e new old w all i event below is same h =
    stops e new old w event (drop (suc i) all) all (ap (λ es. run_world es w) (ap (λ x. x ∷ drop (suc i) all) is ∙ sym (drop-cons all i event below)) ∙ same) h

-- of a new client memory alone is refused
pub only_memory : (e : StateError) (new old : World) (limit : ℕ) (es : List WorldEvent) → old ≡ start limit → Happens {A = Unit {0}} (Err e) new (run_world es old) → e ≡ errors.OutOfMemory
only_memory e new old limit es same h = by e (subst (λ w. Happens {A = Unit {0}} (Err e) new (run_world es w)) same h)
  where
    by : (e : StateError) → Happens {A = Unit {0}} (Err e) new (run_world es (start limit)) → e ≡ errors.OutOfMemory
    by errors.OutOfMemory h = refl
    by e h = absurd (h (inv_run es (start limit) (inv_start limit)).none)
