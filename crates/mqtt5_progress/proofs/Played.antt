-- The loops of deliveries in the code.
use Rattle.std.proofs.Common.{◌≡◌, ℕ, zero, suc, ◌+◌, ◌-◌, ◌<◌, ◌≤◌, List, [], ◌∷◌, ◌++◌, length, map, drop, Err, refl, sym, ap, ◌∙◌, subst, arith}
use Rattle.std.proofs.Math.Seq.{drop-cons}
use Rattle.mqtt5_publish.specs.declared.publish.Publish.{Publish}
use Rattle.mqtt5_codec.specs.declared.packet.Packet.{Packet}
use Rattle.mqtt5_inflight.specs.declared.error.StateError.{StateError}
use Rattle.mqtt5_inflight.specs.declared.error.StateError.TheVariants as errors
use Rattle.mqtt5_session.specs.Requests.{release_of}
use Rattle.mqtt5_world.specs.declared.event.WorldEvent.{WorldEvent}
use Rattle.mqtt5_world.specs.World.{World, happens, run_world, start}
use Rattle.mqtt5_world.specs.Happens.{Happens}
use Rattle.mqtt5_world.proofs.Faults.{stops, stops_then, only_memory}
use Rattle.mqtt5_progress.specs.Progress.{round, settle, deliveries}
use Rattle.mqtt5_progress.proofs.Settled.{settle_run, whole}

-- a fault or want of memory
abbrev pub Stops : StateError → World → World → Type 0
Stops e new next = Happens {A = Unit {0}} (Err e) new next

-- ---- one delivery for each packet of a way

module _ (event : WorldEvent) (ps : List Packet) where
  abbrev each : ℕ → List WorldEvent
  each i = map (λ (p : Packet). event) (drop i ps)

  each_next : (i : ℕ) → i < length ps → each i ≡ event ∷ each (suc i)
  each_next i below = ap (map (λ (p : Packet). event)) (drop-cons ps i (release_of 0) below)

  pub goes_on : (i : ℕ) (w new target : World) → i < length ps → run_world (each i) w ≡ target → new ≡ happens w event → run_world (each (i + 1)) new ≡ target
  goes_on i w new target below same is =
      let next : suc i ≡ i + 1 = omega arith in
      subst (λ m. run_world (each m) new ≡ target) next (ap (run_world (each (suc i))) is ∙ ap (λ es. run_world es w) (sym (each_next i below)) ∙ same)

  pub stops_on : (e : StateError) (i : ℕ) (w new old : World) → i < length ps → run_world (each i) w ≡ run_world (each 0) old → Stops e new (happens w event) → Stops e new (run_world (each 0) old)
  stops_on e i w new old below same h = stops e new old w event (each (suc i)) (each 0) (ap (λ es. run_world es w) (sym (each_next i below)) ∙ same) h

-- ---- rounds

pub settle_next : (i n : ℕ) (w new target : World) → i < n → settle (n - i) w ≡ target → new ≡ round w → settle (n - (i + 1)) new ≡ target
settle_next i n w new target below same is =
    let e : n - i ≡ suc (n - (i + 1)) = omega arith in
    ap (settle (n - (i + 1))) is ∙ ap (λ m. settle m w) (sym e) ∙ same

pub settle_stops : (e : StateError) (i n : ℕ) (w new target : World) → i < n → settle (n - i) w ≡ target → Stops e new (round w) → Stops e new target
settle_stops e i n w new target below same h =
    let m : n - i ≡ suc (n - (i + 1)) = omega arith in
    subst (Stops e new) (sym (settle_run (n - (i + 1)) (round w)) ∙ ap (λ k. settle k w) (sym m) ∙ same)
    (stops_then e new (round w) (deliveries (n - (i + 1)) (round w)) h)

-- of a new client memory alone is refused
pub rounds_memory : (e : StateError) (new w : World) (limit : ℕ) (es : List WorldEvent) → w ≡ run_world es (start limit) → Stops e new (settle 4 w) → e ≡ errors.OutOfMemory
rounds_memory e new w limit es same h =
    only_memory e new (start limit) limit (es ++ deliveries 4 (run_world es (start limit))) refl (subst (Stops e new) (ap (settle 4) same ∙ whole limit es) h)
