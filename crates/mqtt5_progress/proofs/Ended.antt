-- A world that is settled sends nothing again; and three rounds are too few.
use Rattle.std.proofs.Common.{◌≡◌, ◌≢◌, ℕ, false, List, [], ◌∷◌, ◌++◌, filter_map, Option, Some, None, refl, sym, ap, ◌∙◌, subst}
use Rattle.std.specs.Ordering.{nat_cmp}
use Rattle.std.specs.FinMap.{get, get-empty}
use Rattle.mqtt5_base.specs.declared.quality.QoS.TheVariants.{ExactlyOnce}
use Rattle.mqtt5_publish.specs.declared.publish.Publish.{Publish}
use Rattle.mqtt5_codec.specs.declared.packet.Packet.{Packet}
use Rattle.mqtt5_inflight.specs.declared.slot.Slot.{Slot}
use Rattle.mqtt5_inflight.specs.Resent.{packet_for}
use Rattle.mqtt5_inflight.proofs.Exports.{get_insert_same}
use Rattle.mqtt5_session.specs.Session.{Core, Session}
use Rattle.mqtt5_session.specs.Requests.{on_request, release_of}
use Rattle.mqtt5_session.specs.Packets.{on_packet}
use Rattle.mqtt5_session.proofs.Exports.{Sound}
use Rattle.mqtt5_world.specs.declared.event.WorldEvent.{WorldEvent}
use Rattle.mqtt5_world.specs.declared.event.WorldEvent.TheVariants as events
use Rattle.mqtt5_world.specs.World.{World, after_resume, resumes, takes_packet, taken_back, run_world, start}
use Rattle.mqtt5_world.proofs.Step.{Inv, SlotAllowed}
use Rattle.mqtt5_world.proofs.Losses.{sends_again}
use Rattle.mqtt5_world.proofs.Runs.{inv_run, inv_start}
use Rattle.mqtt5_progress.specs.Progress.{settle, deliveries, IsIdle}
use Rattle.mqtt5_progress.proofs.Settled.{whole, settled_four}
use Rattle.mqtt5_progress.proofs.Counted.{nothing_back}

-- ---- a loss

back_sends : (w : World) (s : Session) (m : ℕ) → s.core ≡ record w.session.core { current = m } → Inv w → IsIdle w.session.core → (resumes (record w { session = s; up = []; down = [] })).up ≡ []
back_sends w s m e i idle =
    let sound : Sound s.core = subst Sound (sym e) i.sound in
    let allowed : (id : ℕ) → SlotAllowed s.core.alias_max (get s.core.in_use id) = subst (λ (c : Core). (id : ℕ) → SlotAllowed c.alias_max (get c.in_use id)) (sym e) i.allowed in
    let none : IsIdle s.core = subst IsIdle (sym e) (record { in_use = idle.in_use; waiting = idle.waiting }) in
    subst (λ r. (after_resume (record w { session = s; up = []; down = [] }) r).up ≡ []) (sym (sends_again s sound allowed)) (ap (filter_map packet_for) (nothing_back s.core none))

loss_sends : (w : World) (m : Option ℕ) → Inv w → IsIdle w.session.core → (resumes (takes_packet (record w { up = []; down = [] }) (taken_back m))).up ≡ []
unfolding on_packet
loss_sends w None i idle = back_sends w _ w.session.core.current refl i idle
loss_sends w (Some m) i idle = back_sends w _ _ refl i idle

pub nothing_again : (limit : ℕ) (es : List WorldEvent) (m : Option ℕ) → (resumes (takes_packet (record (settle 4 (run_world es (start limit))) { up = []; down = [] }) (taken_back m))).up ≡ []
nothing_again limit es m =
    let i : Inv (settle 4 (run_world es (start limit))) = subst Inv (sym (whole limit es)) (inv_run (es ++ deliveries 4 (run_world es (start limit))) (start limit) (inv_start limit)) in
    loss_sends (settle 4 (run_world es (start limit))) m i (settled_four limit es).core

-- ---- three rounds

-- a publish of QoS 2, twice, where there is one id
abbrev sample : Publish
sample = record { dup = false; qos = ExactlyOnce; retain = false; topic = []; pkid = 0; payload = []; properties = None }

abbrev two_of_one : List WorldEvent
two_of_one = events.Publish sample ∷ events.Publish sample ∷ []

third : (settle 3 (run_world two_of_one (start 1))).up ≡ release_of 1 ∷ []
unfolding on_request on_packet
third = simp (get-empty {X = Slot} nat_cmp, get_insert_same) refl

not_none : (x : Packet) (us : List Packet) → us ≡ x ∷ [] → us ≢ []
not_none x us e f = absurd cc

pub too_few : (limit : ℕ) × (es : List WorldEvent) × ((settle 3 (run_world es (start limit))).up ≢ [])
too_few = (1, two_of_one, not_none (release_of 1) _ third)
