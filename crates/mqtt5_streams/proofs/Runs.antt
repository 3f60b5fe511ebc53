-- Whole runs over bytes as runs over packets, and their counts.
use Rattle.std.proofs.Common.{◌≡◌, ℕ, zero, suc, ◌+◌, ◌<◌, Bool, cond, List, [], ◌∷◌, ◌++◌, map, count_by, Option, None, Result, Ok, Err, refl, sym, ap, ◌∙◌, subst, arith}
use Rattle.std.specs.List.{fold}
use Rattle.mqtt5_base.specs.declared.quality.QoS.{QoS}
use Rattle.mqtt5_base.specs.declared.quality.QoS.TheVariants.{AtMostOnce, AtLeastOnce, ExactlyOnce}
use Rattle.mqtt5_publish.specs.declared.publish.Publish.{Publish}
use Rattle.mqtt5_publish.specs.Norms.{publish_norm}
use Rattle.mqtt5_codec.specs.declared.packet.Packet.{Packet}
use Rattle.mqtt5_codec.specs.declared.packet.Packet.TheVariants as packets
use Rattle.mqtt5_codec.specs.declared.codec.Codec.{Codec}
use Rattle.mqtt5_inflight.specs.declared.event.Request.TheVariants as requests
use Rattle.mqtt5_inflight.specs.declared.error.StateError.{StateError}
use Rattle.mqtt5_session.specs.Session.{Core}
use Rattle.mqtt5_session.specs.Requests.{on_request}
use Rattle.mqtt5_world.specs.declared.event.WorldEvent.TheVariants as plain
use Rattle.mqtt5_world.specs.Broker.{Broker}
use Rattle.mqtt5_world.specs.World.{World, start, happens, run_world, losses}
use Rattle.mqtt5_world.specs.Delivery.{IsClass, has_content, times, stored_in, stored_without, waiting_in}
use Rattle.mqtt5_world.proofs.Step.{Inv}
use Rattle.mqtt5_world.proofs.Runs.{inv_start, inv_next, inv_run, run_append, losses_append}
use Rattle.mqtt5_world.proofs.Contents.{content_class, ledger, at_most, at_least, for_each_loss}
use Rattle.mqtt5_streams.specs.declared.event.ByteEvent.{ByteEvent}
use Rattle.mqtt5_streams.specs.declared.event.ByteEvent.TheVariants as events
use Rattle.mqtt5_progress.specs.Packets.{IsAck, Every, numbered}
use Rattle.mqtt5_streams.specs.Wire.{IsTyped}
use Rattle.mqtt5_streams.specs.Buffers.{frames, count}
use Rattle.mqtt5_streams.specs.ByteWorld.{ByteWorld, with_bytes, start_bytes, happens_bytes, run_bytes, byte_losses}
use Rattle.mqtt5_streams.specs.Reduction.{as_events, unless_fault, plain_events, norms, Reduces, IsTypedEvent}
use Rattle.mqtt5_streams.specs.Reduction as often
use Rattle.mqtt5_streams.specs.Counts.{Counts}
use Rattle.mqtt5_streams.proofs.Wire.{wire}
use Rattle.mqtt5_progress.proofs.Closed.{Closed, IsSent, GoesUp, ComesDown, Holds, IfAccepted, Owes, holds_next, holds_start, HasId, within}
use Rattle.mqtt5_streams.proofs.Steps.{Tied, ok_one, then_ok, every_map, next_tied}

-- ---- what is said of packets is kept by an event over bytes

abbrev pub OwesByte : (Packet → Type 0) → World → ByteEvent → Type 0
OwesByte Q w (events.Publish p) = Owes Q w (plain.Publish p)
OwesByte Q w e = Unit {0}

module _ (Q : Packet → Type 0) (limit : ℕ) (closed : Closed Q) where
  holds_ups : (n : ℕ) (w : World) → Inv w → Holds Q limit w → Holds Q limit (run_world (often.so_often n plain.Up) w)
  holds_ups zero w i h = h
  holds_ups (suc n) w i h = holds_ups n (happens w plain.Up) (inv_next w plain.Up i) (holds_next Q limit closed w plain.Up i h (tt {0}))

  holds_downs : (n : ℕ) (w : World) → Inv w → Holds Q limit w → Holds Q limit (run_world (often.so_often n plain.Down) w)
  holds_downs zero w i h = h
  holds_downs (suc n) w i h = holds_downs n (happens w plain.Down) (inv_next w plain.Down i) (holds_next Q limit closed w plain.Down i h (tt {0}))

  pub holds_as : (codec : Codec) (b : ByteWorld) (w : World) (e : ByteEvent) → Inv w → Holds Q limit w → OwesByte Q w e → Holds Q limit (run_world (as_events codec b e) w)
  holds_as codec b w (events.Publish p) i h q = holds_next Q limit closed w (plain.Publish p) i h q
  holds_as codec b w (events.Up n) i h q = holds_ups (count (frames None (with_bytes n b.up).buffer)) w i h
  holds_as codec b w (events.Down n) i h q = holds_downs (count (frames codec.max_incoming_size (with_bytes n b.down).buffer)) w i h
  holds_as codec b w (events.Loss m) i h q = holds_next Q limit closed w (plain.Loss m) i h (tt {0})

-- ---- what the types say of the packets of a run

pub closed_typed : Closed IsTyped
closed_typed = record {
  ack = λ p q. (q.0, tt {0});
  first = λ p q. (q.0, tt {0});
  release = λ id q. q;
  complete = λ id reason q. q;
  again = λ p q. q;
}

if_map : (a : Result (Option Packet) StateError) (P R : Type 0) → (P → R) → IfAccepted a P → IfAccepted a R
if_map (Ok o) P R f h = f h
if_map (Err e) P R f h = tt {0}

numbered_typed : (q : QoS) (c : Core) (p : Publish) (limit : ℕ) → c.limit ≡ limit → limit < 65536 → IsTyped (packets.Publish p) → HasId q c p → IsTyped (packets.Publish (numbered q c p))
numbered_typed AtMostOnce c p limit e small t h = t
numbered_typed AtLeastOnce c p limit e small t h = (omega (arith, e, small, h), t.1)
numbered_typed ExactlyOnce c p limit e small t h = (omega (arith, e, small, h), t.1)

pub owes_typed : (limit : ℕ) → limit < 65536 → (w : World) (e : ByteEvent) → Holds IsTyped limit w → IsTypedEvent e → OwesByte IsTyped w e
owes_typed limit small w (events.Publish p) h t =
    if_map (on_request w.session (requests.Publish p) 0).0 (HasId p.qos w.session.core p) (IsTyped (packets.Publish (numbered p.qos w.session.core p)))
    (numbered_typed p.qos w.session.core p limit h.core.limited small t) (within w.session p)
owes_typed limit small w (events.Up n) h t = tt {0}
owes_typed limit small w (events.Down n) h t = tt {0}
owes_typed limit small w (events.Loss m) h t = tt {0}

-- ---- the reduction

pub on_up : (Q : Packet → Type 0) (limit : ℕ) (w : World) → Holds Q limit w → Every Q w.up × Every IsSent w.up
on_up Q limit w h = (every_map (GoesUp Q) Q w.up (λ x q. q.0) h.up, every_map (GoesUp Q) IsSent w.up (λ x q. q.1) h.up)

pub on_down : (Q : Packet → Type 0) (limit : ℕ) (w : World) → Holds Q limit w → Every Q w.down × Every IsAck w.down
on_down Q limit w h = (every_map (ComesDown Q) Q w.down (λ x q. q.0) h.down, every_map (ComesDown Q) IsAck w.down (λ x q. q.1) h.down)

pub event_tied : (codec : Codec) (limit : ℕ) (b : ByteWorld) (w : World) (e : ByteEvent) (c : ByteWorld) → Holds IsTyped limit w → Tied codec b w → happens_bytes codec b e ≡ Ok c → Tied codec c (run_world (as_events codec b e) w)
event_tied codec limit b w e c h t is =
    let up = on_up IsTyped limit w h in
    let down = on_down IsTyped limit w h in
    next_tied codec b w e c up.0 up.1 down.0 down.1 t is

plain_next : (codec : Codec) (e : ByteEvent) (es : List ByteEvent) (b c : ByteWorld) (w : World) → happens_bytes codec b e ≡ Ok c → run_world (plain_events codec (e ∷ es) b) w ≡ run_world (plain_events codec es c) (run_world (as_events codec b e) w)
plain_next codec e es b c w h = ap (λ o. run_world (as_events codec b e ++ unless_fault o (plain_events codec es)) w) h ∙ run_append (as_events codec b e) (plain_events codec es c) w

-- what is said of the worlds that a run ends in
abbrev pub Ends : Codec → ℕ → ByteWorld → World → Type 0
Ends codec limit b w = Tied codec b w × Holds IsTyped limit w

run_tied : (codec : Codec) (limit : ℕ) → limit < 65536 → (es : List ByteEvent) (b : ByteWorld) (w : World) (c : ByteWorld) → Every IsTypedEvent es → Inv w → Holds IsTyped limit w → Tied codec b w → run_bytes codec es b ≡ Ok c → Ends codec limit c (run_world (plain_events codec es b) w)
run_tied codec limit small [] b w c f i h t e = (subst (λ z. Tied codec z w) (ok_one b c e) t, h)
run_tied codec limit small (x ∷ es) b w c f i h t e =
    let g = then_ok (happens_bytes codec b x) (run_bytes codec es) c e in
    let w1 = run_world (as_events codec b x) w in
    let r = run_tied codec limit small es g.0 w1 c f.1 (inv_run (as_events codec b x) w i)
    (holds_as IsTyped limit closed_typed codec b w x i h (owes_typed limit small w x h f.0))
    (event_tied codec limit b w x g.0 h t g.1) g.2 in
    subst (Ends codec limit c) (sym (plain_next codec x es b g.0 w g.1)) r

pub tied_start : (codec : Codec) (limit : ℕ) → Tied codec (start_bytes limit) (start limit)
tied_start codec limit = record {
  reduces = record { session = refl; broker = refl; accepted = refl; refused = refl; up = refl; down = refl; up_waits = (2, wire.empty None); down_waits = (2, wire.empty codec.max_incoming_size) };
  up_written = tt {0};
  down_written = tt {0};
}

pub ends : (codec : Codec) (limit : ℕ) → limit < 65536 → (es : List ByteEvent) (b : ByteWorld) → Every IsTypedEvent es → run_bytes codec es (start_bytes limit) ≡ Ok b → Ends codec limit b (run_world (plain_events codec es (start_bytes limit)) (start limit))
ends codec limit small es b f e = run_tied codec limit small es (start_bytes limit) (start limit) b f (inv_start limit) (holds_start IsTyped limit) (tied_start codec limit) e

pub reduces : (codec : Codec) (limit : ℕ) → limit < 65536 → (es : List ByteEvent) (b : ByteWorld) → Every IsTypedEvent es → run_bytes codec es (start_bytes limit) ≡ Ok b → Reduces codec b (run_world (plain_events codec es (start_bytes limit)) (start limit))
reduces codec limit small es b f e = (ends codec limit small es b f e).0.reduces

-- ---- counts

fold_map : (g : ℕ → Publish → ℕ) (f : Publish → Publish) (k : ℕ) (xs : List Publish) → fold g k (map f xs) ≡ fold (λ a x. g a (f x)) k xs
fold_map g f k [] = refl
fold_map g f k (x ∷ xs) = fold_map g f (g k (f x)) xs

count_map : (test : Publish → Bool) (f : Publish → Publish) (xs : List Publish) → count_by test (map f xs) ≡ count_by (λ x. test (f x)) xs
count_map test f xs = fold_map (λ a x. a + cond (test x) 1 0) f 0 xs

losses_ups : (n : ℕ) → losses (often.so_often n plain.Up) ≡ 0
losses_ups zero = refl
losses_ups (suc n) = losses_ups n

losses_downs : (n : ℕ) → losses (often.so_often n plain.Down) ≡ 0
losses_downs zero = refl
losses_downs (suc n) = losses_downs n

losses_next : (codec : Codec) (b : ByteWorld) (e : ByteEvent) (es : List ByteEvent) (n : ℕ) → n ≡ byte_losses es → losses (as_events codec b e) + n ≡ byte_losses (e ∷ es)
losses_next codec b (events.Publish p) es n h = omega (arith, h)
losses_next codec b (events.Up m) es n h = let z = losses_ups (count (frames None (with_bytes m b.up).buffer)) in omega (arith, h, z)
losses_next codec b (events.Down m) es n h = let z = losses_downs (count (frames codec.max_incoming_size (with_bytes m b.down).buffer)) in omega (arith, h, z)
losses_next codec b (events.Loss m) es n h = omega (arith, h)

losses_plain : (codec : Codec) (es : List ByteEvent) (b c : ByteWorld) → run_bytes codec es b ≡ Ok c → losses (plain_events codec es b) ≡ byte_losses es
losses_plain codec [] b c e = refl
losses_plain codec (x ∷ es) b c e =
    let g = then_ok (happens_bytes codec b x) (run_bytes codec es) c e in
    ap (λ o. losses (as_events codec b x ++ unless_fault o (plain_events codec es))) g.1
    ∙ losses_append (as_events codec b x) (plain_events codec es g.0)
    ∙ losses_next codec b x es (losses (plain_events codec es g.0)) (losses_plain codec es g.0 c g.2)

-- a publish whose norm has this content
abbrev pub after_norm : Publish → Publish → Bool
after_norm c p = has_content c (publish_norm p)

pub norm_class : (c : Publish) (q : QoS) → c.qos ≡ q → IsClass q (after_norm c)
norm_class c q e = record { of_qos = λ p h. (content_class c).of_qos (publish_norm p) h ∙ e; blind = λ p id. refl; blind_again = λ p. refl }

pub handed_count : (codec : Codec) (b : ByteWorld) (w : World) (c : Publish) → Reduces codec b w → times c b.broker.handed ≡ count_by (after_norm c) w.broker.handed
handed_count codec b w c r = ap (λ (x : Broker). times c x.handed) r.broker ∙ count_map (has_content c) publish_norm w.broker.handed

pub accepted_count : (codec : Codec) (b : ByteWorld) (w : World) (c : Publish) → Reduces codec b w → times c (norms b.accepted) ≡ count_by (after_norm c) w.accepted
accepted_count codec b w c r = ap (λ z. times c (norms z)) r.accepted ∙ count_map (has_content c) publish_norm w.accepted

pub counts : (codec : Codec) (limit : ℕ) → limit < 65536 → (es : List ByteEvent) (b : ByteWorld) (c : Publish) → Every IsTypedEvent es → run_bytes codec es (start_bytes limit) ≡ Ok b → Counts c (byte_losses es) b
counts codec limit small es b c f e =
    let r = reduces codec limit small es b f e in
    let fs = plain_events codec es (start_bytes limit) in
    let test = after_norm c in
    let n = losses_plain codec es (start_bytes limit) b e in
    let hand = handed_count codec b (run_world fs (start limit)) c r in
    let accept = accepted_count codec b (run_world fs (start limit)) c r in
    let store : times c (norms (stored_in b.session.core)) ≡ count_by test (stored_in (run_world fs (start limit)).session.core) = ap (λ s. times c (norms (stored_in s.core))) r.session ∙ count_map (has_content c) publish_norm (stored_in (run_world fs (start limit)).session.core) in
    let wait : times c (norms (waiting_in b.session.core)) ≡ count_by test (waiting_in (run_world fs (start limit)).session.core) = ap (λ s. times c (norms (waiting_in s.core))) r.session ∙ count_map (has_content c) publish_norm (waiting_in (run_world fs (start limit)).session.core) in
    let left : times c (norms (stored_without b.broker.ids b.session.core)) ≡ count_by test (stored_without (run_world fs (start limit)).broker.ids (run_world fs (start limit)).session.core) =
    ap (λ (x : Broker). times c (norms (stored_without x.ids b.session.core))) r.broker ∙ ap (λ s. times c (norms (stored_without (run_world fs (start limit)).broker.ids s.core))) r.session ∙ count_map (has_content c) publish_norm (stored_without (run_world fs (start limit)).broker.ids (run_world fs (start limit)).session.core) in
    record {
      at_most_once = λ q. rw (hand, accept) (at_most test limit fs c.qos q (norm_class c c.qos refl));
      at_least_once = λ q. rw (hand, accept, store, wait) (at_least test limit fs c.qos q (norm_class c c.qos refl));
      for_each_loss = λ q. rw (hand, accept, ← n) (for_each_loss test limit fs (norm_class c AtLeastOnce q));
      ledger = λ q. rw (hand, accept, wait, left) (ledger test limit fs (norm_class c ExactlyOnce q));
    }
