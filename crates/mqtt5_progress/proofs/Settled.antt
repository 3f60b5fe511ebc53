-- With nothing on its way nothing is left to do: what waits waits for an id in use, and each id in use has a token.
use Rattle.std.proofs.Common.{◌≡◌, ℕ, zero, suc, ◌+◌, Bool, true, false, List, [], ◌∷◌, ◌++◌, filter, Option, Some, None, Ok, Err, refl, sym, ap, ◌∙◌, subst, arith}
use Rattle.std.specs.FinMap.{get}
use Rattle.std.specs.FinSet as set
use Rattle.mqtt5_publish.specs.declared.publish.Publish.{Publish}
use Rattle.mqtt5_codec.specs.declared.packet.Packet.{Packet}
use Rattle.mqtt5_session.specs.Session.{Answer}
use Rattle.mqtt5_session.specs.Packets.{on_packet}
use Rattle.mqtt5_inflight.specs.declared.slot.Slot.{Slot}
use Rattle.mqtt5_inflight.specs.InUse.{InUse}
use Rattle.mqtt5_world.specs.declared.event.WorldEvent.{WorldEvent}
use Rattle.mqtt5_world.specs.declared.event.WorldEvent.TheVariants as events
use Rattle.mqtt5_world.specs.World.{World, arrives, after_reply, returns, happens, run_world, start, losses}
use Rattle.mqtt5_world.specs.Delivery.{is_token_up, is_token_down, Token, Free, PublishUp, PubAckDown, PublishTwiceUp, PubRecDown, PubRelUp, PubCompDown}
use Rattle.mqtt5_world.proofs.Step.{Inv}
use Rattle.mqtt5_world.proofs.Runs.{inv_run, inv_start, run_append, losses_append}
use Rattle.mqtt5_progress.specs.Progress.{all_up, all_down, upward, downward, round, settle, deliveries, Deliveries, IsIdle, Settled}
use Rattle.mqtt5_progress.proofs.Moves.{WaitsFor, Waits}
use Rattle.mqtt5_progress.proofs.Waiting.{waits_reached}
use Rattle.mqtt5_progress.proofs.Rounds.{four_rounds}

-- ---- nothing is on its way

-- an id without a token is free
no_token : {k : ℕ} {x : Option Slot} {b : Bool} {us ds : List Packet} → Token k x b us ds → us ≡ [] → ds ≡ [] → (x ≡ None) × (b ≡ false)
no_token Free u d = (refl, refl)
no_token (PublishUp p q) u d = absurd cc
no_token (PubAckDown p q) u d = absurd cc
no_token (PublishTwiceUp p b q) u d = absurd cc
no_token (PubRecDown p q) u d = absurd cc
no_token (PubRelUp b) u d = absurd cc
no_token (PubCompDown b) u d = absurd cc

none_waits : (h : InUse) (o : Option Publish) → ((id : ℕ) → get h id ≡ None) → WaitsFor h o → o ≡ None
none_waits h None none w = refl
none_waits h (Some p) none w = absurd (w (none p.pkid))

settled : (w : World) → Inv w → Waits w.session.core → w.up ≡ [] → w.down ≡ [] → Settled w
settled w i waits u d =
    record {
      up = u;
      down = d;
      core = record { in_use = λ id. (free id).0; waiting = none_waits w.session.core.in_use w.session.core.waiting (λ id. (free id).0) waits };
      ids = λ id. (free id).1;
      faults = i.none;
    }
  where
    free : (id : ℕ) → (get w.session.core.in_use id ≡ None) × (set.contains w.broker.ids id ≡ false)
    free id = no_token (i.tokens id) (ap (filter (is_token_up id)) u) (ap (filter (is_token_down id)) d)

-- in a world that is reached
pub at_rest : (limit : ℕ) (es : List WorldEvent) → (run_world es (start limit)).up ≡ [] → (run_world es (start limit)).down ≡ [] → Settled (run_world es (start limit))
at_rest limit es = settled (run_world es (start limit)) (inv_run es (start limit) (inv_start limit)) (waits_reached limit es)

-- ---- rounds are runs

pub settle_run : (n : ℕ) (w : World) → settle n w ≡ run_world (deliveries n w) w
settle_run zero w = refl
settle_run (suc n) w =
    settle_run n (round w)
    ∙ sym (run_append (all_up w.up) (all_down (upward w).down ++ deliveries n (round w)) w ∙ run_append (all_down (upward w).down) (deliveries n (round w)) (upward w))

-- a run and four rounds after it are a run
pub whole : (limit : ℕ) (es : List WorldEvent) → settle 4 (run_world es (start limit)) ≡ run_world (es ++ deliveries 4 (run_world es (start limit))) (start limit)
whole limit es = settle_run 4 (run_world es (start limit)) ∙ sym (run_append es (deliveries 4 (run_world es (start limit))) (start limit))

pub settled_four : (limit : ℕ) (es : List WorldEvent) → Settled (settle 4 (run_world es (start limit)))
settled_four limit es =
    let all = es ++ deliveries 4 (run_world es (start limit)) in
    let f = four_rounds (run_world es (start limit)) in
    let e = whole limit es in
    subst Settled (sym e) (at_rest limit all (ap (λ (w : World). w.up) (sym e) ∙ f.0) (ap (λ (w : World). w.down) (sym e) ∙ f.1))

-- ---- deliveries

deliveries_append : (es fs : List WorldEvent) → Deliveries es → Deliveries fs → Deliveries (es ++ fs)
deliveries_append [] fs h g = g
deliveries_append (events.Up ∷ es) fs h g = deliveries_append es fs h g
deliveries_append (events.Down ∷ es) fs h g = deliveries_append es fs h g
deliveries_append (events.Publish p ∷ es) fs h g = absurd h
deliveries_append (events.Loss m ∷ es) fs h g = absurd h

ups_alone : (us : List Packet) → Deliveries (all_up us)
ups_alone [] = tt {0}
ups_alone (u ∷ us) = ups_alone us

downs_alone : (ds : List Packet) → Deliveries (all_down ds)
downs_alone [] = tt {0}
downs_alone (d ∷ ds) = downs_alone ds

pub deliveries_alone : (n : ℕ) (w : World) → Deliveries (deliveries n w)
deliveries_alone zero w = tt {0}
deliveries_alone (suc n) w =
    deliveries_append (all_up w.up) _ (ups_alone w.up) (deliveries_append (all_down (upward w).down) _ (downs_alone (upward w).down) (deliveries_alone n (round w)))

no_losses : (es : List WorldEvent) → Deliveries es → losses es ≡ 0
no_losses [] h = refl
no_losses (events.Up ∷ es) h = no_losses es h
no_losses (events.Down ∷ es) h = no_losses es h
no_losses (events.Publish p ∷ es) h = absurd h
no_losses (events.Loss m ∷ es) h = absurd h

pub same_losses : (es fs : List WorldEvent) → Deliveries fs → losses (es ++ fs) ≡ losses es
same_losses es fs h = let a = losses_append es fs in let b = no_losses fs h in omega (arith, a, b)

-- nothing is asked for
pub record Unasked (w w' : World) : Type 0 where
  pub accepted : w'.accepted ≡ w.accepted
  pub refused : w'.refused ≡ w.refused

arrives_unasked : (w : World) (us : List Packet) → Unasked w (arrives w us)
arrives_unasked w [] = record { accepted = refl; refused = refl }
arrives_unasked w (x ∷ us) = record { accepted = refl; refused = refl }

heard_unasked : (w : World) (ds : List Packet) (a : Answer) → Unasked w (after_reply (record w { down = ds }) a.0 a.1)
heard_unasked w ds (Ok reply, s) = record { accepted = refl; refused = refl }
heard_unasked w ds (Err e, s) = record { accepted = refl; refused = refl }

returns_unasked : (w : World) (ds : List Packet) → Unasked w (returns w ds)
returns_unasked w [] = record { accepted = refl; refused = refl }
returns_unasked w (x ∷ ds) = heard_unasked w ds (on_packet w.session x 0)

then_unasked : {u v w : World} → Unasked u v → Unasked v w → Unasked u w
then_unasked a b = record { accepted = b.accepted ∙ a.accepted; refused = b.refused ∙ a.refused }

pub run_unasked : (es : List WorldEvent) (w : World) → Deliveries es → Unasked w (run_world es w)
run_unasked [] w h = record { accepted = refl; refused = refl }
run_unasked (events.Up ∷ es) w h = then_unasked (arrives_unasked w w.up) (run_unasked es _ h)
run_unasked (events.Down ∷ es) w h = then_unasked (returns_unasked w w.down) (run_unasked es _ h)
run_unasked (events.Publish p ∷ es) w h = absurd h
run_unasked (events.Loss m ∷ es) w h = absurd h

pub settle_unasked : (n : ℕ) (w : World) → Unasked w (settle n w)
settle_unasked n w = subst (Unasked w) (sym (settle_run n w)) (run_unasked (deliveries n w) w (deliveries_alone n w))
