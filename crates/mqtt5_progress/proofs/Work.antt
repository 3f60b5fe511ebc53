-- Each delivery of a packet leaves less work, in any order.
use Rattle.std.proofs.Common.{◌≡◌, ℕ, zero, suc, ◌+◌, ◌*◌, ◌≤◌, List, [], ◌∷◌, ◌++◌, length, Option, Some, None, Result, Ok, Err, refl, sym, ap, ◌∙◌, subst, arith}
use Rattle.std.specs.Prelude.{sum_by}
use Rattle.std.specs.Option.{option_to_list}
use Rattle.std.specs.FinSet as set
use Rattle.std.proofs.lemmas.List.Sums.{sum_by-append, sum_by-cons}
use Rattle.mqtt5_base.specs.declared.quality.QoS.{QoS}
use Rattle.mqtt5_base.specs.declared.quality.QoS.TheVariants.{AtMostOnce, AtLeastOnce, ExactlyOnce}
use Rattle.mqtt5_publish.specs.declared.publish.Publish.{Publish}
use Rattle.mqtt5_codec.specs.declared.packet.Packet.{Packet}
use Rattle.mqtt5_codec.specs.declared.packet.Packet.TheVariants as packets
use Rattle.mqtt5_inflight.specs.declared.error.StateError.{StateError}
use Rattle.mqtt5_session.specs.Session.{Session, Answer}
use Rattle.mqtt5_session.specs.Packets.{on_packet, puback_of, pubrec_of, pubcomp_of}
use Rattle.mqtt5_world.specs.declared.event.WorldEvent.{WorldEvent}
use Rattle.mqtt5_world.specs.declared.event.WorldEvent.TheVariants as events
use Rattle.mqtt5_world.specs.Broker.{Broker, Served, serve, serve_publish, reason_for}
use Rattle.mqtt5_world.specs.World.{World, start, after_serving, arrives, after_reply, returns, happens, run_world}
use Rattle.mqtt5_world.proofs.Runs.{run_append}
use Rattle.mqtt5_progress.specs.Progress.{work_of, work_up, work_down, work_waiting, work, found, delivered, Deliveries, Settled}
use Rattle.mqtt5_progress.proofs.Moves.{sent, Move, Still, LetsGo, Answers, moves}
use Rattle.mqtt5_progress.proofs.Rounds.{Becomes, becomes}
use Rattle.mqtt5_progress.proofs.Settled.{at_rest}

-- ---- up

-- what is answered, and the delivery itself, are within the work of a packet
abbrev IsLess : ℕ → Served → Type 0
IsLess n a = sum_by work_down (option_to_list a.0) + 1 ≤ n

publish_less : (q : QoS) (b : Broker) (p : Publish) → IsLess (work_of q) (serve_publish q b p)
publish_less AtMostOnce b p = omega arith
publish_less AtLeastOnce b p = omega arith
publish_less ExactlyOnce b p = omega arith

serve_less : (b : Broker) (x : Packet) → IsLess (work_up x) (serve b x)
serve_less b (packets.Publish p) = publish_less p.qos b p
serve_less b (packets.PubRel p) = omega arith
serve_less b other = omega arith

up_lowers : (w : World) (us : List Packet) → w.up ≡ us → work (arrives w us) + found us ≤ work w
up_lowers w [] e = omega arith
up_lowers w (x ∷ us) e =
    let a = ap (sum_by work_up) e in
    let b = sum_by-cons work_up x us in
    let c = sum_by-append work_down w.down (option_to_list (serve w.broker x).0) in
    let d = serve_less w.broker x in
    omega (arith, a, b, c, d)

-- ---- down

some_down : (x : Packet) → 1 ≤ work_down x
some_down (packets.PubRec p) = omega arith
some_down (packets.Publish p) = omega arith
some_down (packets.PubRel p) = omega arith
some_down other = omega arith

some_up : (x : Packet) → 1 ≤ work_up x
some_up (packets.Publish p) = by p.qos
  where
    by : (q : QoS) → 1 ≤ work_of q
    by AtMostOnce = omega arith
    by AtLeastOnce = omega arith
    by ExactlyOnce = omega arith
some_up (packets.PubRel p) = omega arith
some_up other = omega arith

module _ (w : World) (x : Packet) (ds : List Packet) (e : w.down ≡ x ∷ ds) where
  -- after it these packets go up, and this waits
  gone : (r : Result (Option Packet) StateError) (t : Session) (ps : List Packet) (o : Option Publish) → sent r ≡ ps → t.core.waiting ≡ o → sum_by work_up ps + work_waiting o + 1 ≤ work_down x + work_waiting w.session.core.waiting → work (after_reply (record w { down = ds }) r t) + 1 ≤ work w
  gone r t ps o s f le =
      let b = becomes w ds r t in
      let u = ap (sum_by work_up) (b.up ∙ ap (λ qs. w.up ++ qs) s) in
      let v = sum_by-append work_up w.up ps in
      let d = ap (sum_by work_down) b.down in
      let m = ap (λ (s : Session). work_waiting s.core.waiting) b.session ∙ ap work_waiting f in
      let a = ap (sum_by work_down) e in
      let c = sum_by-cons work_down x ds in
      omega (arith, u, v, d, m, a, c, le)

  move_lowers : (a : Answer) → Move w.session.core x a → work (after_reply (record w { down = ds }) a.0 a.1) + 1 ≤ work w
  move_lowers a (Still r t s f keeps) = gone r t [] w.session.core.waiting s f (let a = some_down x in omega (arith, a))
  move_lowers a (LetsGo p r t s was is) =
      gone r t (packets.Publish p ∷ []) None s is
      (let a = some_down x in let b = ap work_waiting was in omega (arith, a, b))
  move_lowers a (Answers y r t s one two less f keeps) = gone r t (y ∷ []) w.session.core.waiting s f (omega (arith, less))

down_lowers : (w : World) (ds : List Packet) → w.down ≡ ds → work (returns w ds) + found ds ≤ work w
down_lowers w [] e = omega arith
down_lowers w (x ∷ ds) e = move_lowers w x ds e (on_packet w.session x 0) (moves w.session x)

-- ---- runs

pub lowers : (es : List WorldEvent) (w : World) → Deliveries es → work (run_world es w) + delivered es w ≤ work w
lowers [] w h = omega arith
lowers (events.Up ∷ es) w h =
    let a = up_lowers w w.up refl in
    let b = lowers es (happens w events.Up) h in
    omega (arith, a, b)
lowers (events.Down ∷ es) w h =
    let a = down_lowers w w.down refl in
    let b = lowers es (happens w events.Down) h in
    omega (arith, a, b)
lowers (events.Publish p ∷ es) w h = absurd h
lowers (events.Loss m ∷ es) w h = absurd h

no_work : (f : Packet → ℕ) → ((x : Packet) → 1 ≤ f x) → (xs : List Packet) → sum_by f xs ≡ 0 → xs ≡ []
no_work f some [] e = refl
no_work f some (x ∷ xs) e = absurd (let a = some x in let b = sum_by-cons f x xs in omega (arith, a, b, e))

-- where as many deliveries found a packet as there was work, all is done
pub all_delivered : (limit : ℕ) (es more : List WorldEvent) → Deliveries more → work (run_world es (start limit)) ≤ delivered more (run_world es (start limit)) → Settled (run_world (es ++ more) (start limit))
all_delivered limit es more h le =
    let l = lowers more (run_world es (start limit)) h in
    let e = run_append es more (start limit) in
    let none : work (run_world (es ++ more) (start limit)) ≡ 0 = let a = ap work e in omega (arith, a, l, le) in
    at_rest limit (es ++ more) (no_work work_up some_up _ (omega (arith, none))) (no_work work_down some_down _ (omega (arith, none)))

-- ---- the bound

sum_least : (f : Packet → ℕ) → ((x : Packet) → f x ≤ 4) → (xs : List Packet) → sum_by f xs ≤ 4 * length xs
sum_least f four [] = omega arith
sum_least f four (x ∷ xs) = let a = sum_by-cons f x xs in let b = four x in let c = sum_least f four xs in omega (arith, a, b, c)

four_of : (q : QoS) → work_of q ≤ 4
four_of AtMostOnce = omega arith
four_of AtLeastOnce = omega arith
four_of ExactlyOnce = omega arith

four_up : (x : Packet) → work_up x ≤ 4
four_up (packets.Publish p) = four_of p.qos
four_up (packets.PubRel p) = omega arith
four_up other = omega arith

four_down : (x : Packet) → work_down x ≤ 4
four_down (packets.PubRec p) = omega arith
four_down (packets.Publish p) = omega arith
four_down (packets.PubRel p) = omega arith
four_down other = omega arith

four_waiting : (o : Option Publish) → work_waiting o ≤ 4
four_waiting None = omega arith
four_waiting (Some p) = four_of p.qos

pub bound : (w : World) → work w ≤ 4 * (length w.up + length w.down + 1)
bound w =
    let a = sum_least work_up four_up w.up in
    let b = sum_least work_down four_down w.down in
    let c = four_waiting w.session.core.waiting in
    omega (arith, a, b, c)
