-- Four rounds of deliveries leave nothing on its way, from any world.
use Rattle.std.proofs.Common.{◌≡◌, ℕ, zero, suc, ◌+◌, ◌≤◌, List, [], ◌∷◌, ◌++◌, Option, Some, None, Result, Ok, Err, refl, sym, ap, ◌∙◌, subst, arith, append-nil}
use Rattle.std.specs.Option.{option_to_list}
use Rattle.std.specs.FinSet as set
use Rattle.mqtt5_base.specs.declared.quality.QoS.{QoS}
use Rattle.mqtt5_base.specs.declared.quality.QoS.TheVariants.{AtMostOnce, AtLeastOnce, ExactlyOnce}
use Rattle.mqtt5_publish.specs.declared.publish.Publish.{Publish}
use Rattle.mqtt5_codec.specs.declared.packet.Packet.{Packet}
use Rattle.mqtt5_codec.specs.declared.packet.Packet.TheVariants as packets
use Rattle.mqtt5_inflight.specs.declared.error.StateError.{StateError}
use Rattle.mqtt5_session.specs.Session.{Session, Answer}
use Rattle.mqtt5_session.specs.Packets.{on_packet, puback_of, pubrec_of, pubcomp_of}
use Rattle.mqtt5_world.specs.Broker.{serve, serve_publish, reason_for}
use Rattle.mqtt5_world.specs.World.{World, after_serving, arrives, after_reply, returns, run_world}
use Rattle.mqtt5_progress.specs.Progress.{all_up, all_down, upward, downward, round, settle}
use Rattle.mqtt5_progress.proofs.Moves.{rounds_of, rounds_up, rounds_down, sent, Move, Still, LetsGo, Answers, moves}

-- a publish that waits takes two rounds more
abbrev pub later : Option Publish → ℕ
later None = 0
later (Some p) = 2

-- each of these packets, and so many rounds more, are within n
abbrev pub Within : (Packet → ℕ) → ℕ → ℕ → List Packet → Type 0
Within r n more [] = Unit {0}
Within r n more (x ∷ xs) = (r x + more ≤ n) × Within r n more xs

within_append : (r : Packet → ℕ) (n more : ℕ) (xs ys : List Packet) → Within r n more xs → Within r n more ys → Within r n more (xs ++ ys)
within_append r n more [] ys h g = g
within_append r n more (x ∷ xs) ys h g = (h.0, within_append r n more xs ys h.1 g)

within_less : (r : Packet → ℕ) (n more less : ℕ) (xs : List Packet) → less ≤ more → Within r n more xs → Within r n less xs
within_less r n more less [] le h = tt {0}
within_less r n more less (x ∷ xs) le h = (let a = h.0 in omega (arith, a, le), within_less r n more less xs le h.1)

within_none : (r : Packet → ℕ) → ((x : Packet) → 1 ≤ r x) → (more : ℕ) (xs : List Packet) → Within r 0 more xs → xs ≡ []
within_none r some more [] h = refl
within_none r some more (x ∷ xs) h = absurd (let a = some x in let b = h.0 in omega (arith, a, b))

within_four : (r : Packet → ℕ) → ((x : Packet) → r x ≤ 2) → (o : Option Publish) (xs : List Packet) → Within r 4 (later o) xs
within_four r two o [] = tt {0}
within_four r two o (x ∷ xs) = (let a = two x in let b = two_later o in omega (arith, a, b), within_four r two o xs)
  where
    two_later : (o : Option Publish) → later o ≤ 2
    two_later None = omega arith
    two_later (Some p) = omega arith

-- a packet takes one round or two
one_of : (q : QoS) → 1 ≤ rounds_of q
one_of AtMostOnce = omega arith
one_of AtLeastOnce = omega arith
one_of ExactlyOnce = omega arith

two_of : (q : QoS) → rounds_of q ≤ 2
two_of AtMostOnce = omega arith
two_of AtLeastOnce = omega arith
two_of ExactlyOnce = omega arith

one_up : (x : Packet) → 1 ≤ rounds_up x
one_up (packets.Publish p) = one_of p.qos
one_up other = omega arith

two_up : (x : Packet) → rounds_up x ≤ 2
two_up (packets.Publish p) = two_of p.qos
two_up other = omega arith

one_down : (x : Packet) → 1 ≤ rounds_down x
one_down (packets.Publish p) = omega arith
one_down (packets.PubRec p) = omega arith
one_down (packets.PubRel p) = omega arith
one_down other = omega arith

two_down : (x : Packet) → rounds_down x ≤ 2
two_down (packets.Publish p) = omega arith
two_down (packets.PubRec p) = omega arith
two_down (packets.PubRel p) = omega arith
two_down other = omega arith

-- all is done within n rounds
record Calm (n : ℕ) (w : World) : Type 0 where
  up : Within rounds_up n (later w.session.core.waiting) w.up
  down : Within rounds_down n (later w.session.core.waiting) w.down

-- ---- up

-- a packet was taken by the broker
record Taken (n : ℕ) (rest : List Packet) (w w' : World) : Type 0 where
  session : w'.session ≡ w.session
  up : w'.up ≡ rest
  down : Within rounds_down n (later w.session.core.waiting) w'.down

module _ (n : ℕ) (w : World) (rest : List Packet) (down : Within rounds_down n (later w.session.core.waiting) w.down) where
  answered : (a : Option Packet) (b : _) → Within rounds_down n (later w.session.core.waiting) (option_to_list a) → Taken n rest w (after_serving (record w { up = rest }) (a, b))
  answered a b h = record { session = refl; up = refl; down = within_append rounds_down n _ w.down (option_to_list a) down h }

  publish_taken : (p : Publish) (q : QoS) → rounds_of q + later w.session.core.waiting ≤ n → Taken n rest w (after_serving (record w { up = rest }) (serve_publish q w.broker p))
  publish_taken p AtMostOnce le = answered None _ (tt {0})
  publish_taken p AtLeastOnce le = answered (Some (puback_of p.pkid)) _ (le, tt {0})
  publish_taken p ExactlyOnce le = answered (Some (pubrec_of p.pkid)) _ (le, tt {0})

  taken : (x : Packet) → rounds_up x + later w.session.core.waiting ≤ n → Taken n rest w (after_serving (record w { up = rest }) (serve w.broker x))
  taken (packets.Publish p) le = publish_taken p p.qos le
  taken (packets.PubRel p) le = answered (Some (pubcomp_of p.pkid (reason_for (set.contains w.broker.ids p.pkid)))) _ (le, tt {0})
  taken other le = answered None _ (tt {0})

-- all that is on its way up
all_taken : (n : ℕ) (us : List Packet) (w : World) → w.up ≡ us → Within rounds_up n (later w.session.core.waiting) us → Within rounds_down n (later w.session.core.waiting) w.down → Taken n [] w (run_world (all_up us) w)
all_taken n [] w e h down = record { session = refl; up = e; down = down }
all_taken n (x ∷ us) w e h down =
    let next : World = after_serving (record w { up = us }) (serve w.broker x) in
    let t : Taken n us w next = taken n w us down x h.0 in
    let o = ap (λ (s : Session). later s.core.waiting) t.session in
    let all = all_taken n us next t.up (subst (λ m. Within rounds_up n m us) (sym o) h.1) (subst (λ m. Within rounds_down n m next.down) (sym o) t.down) in
    let whole : Taken n [] w (run_world (all_up us) next) = record {
      session = all.session ∙ t.session;
      up = all.up;
      down = subst (λ m. Within rounds_down n m (run_world (all_up us) next).down) o all.down;
    } in
    subst (λ xs. Taken n [] w (run_world (all_up us) (arrives w xs))) (sym e) whole

-- ---- down

-- a packet was taken by the session
record Read (n : ℕ) (rest : List Packet) (w w' : World) : Type 0 where
  down : w'.down ≡ rest
  up : Within rounds_up n (later w'.session.core.waiting) w'.up
  less : later w'.session.core.waiting ≤ later w.session.core.waiting

-- what an answer makes of a world
pub record Becomes (rest : List Packet) (w w' : World) (r : Result (Option Packet) StateError) (t : Session) : Type 0 where
  pub down : w'.down ≡ rest
  pub session : w'.session ≡ t
  pub up : w'.up ≡ w.up ++ sent r

pub becomes : (w : World) (rest : List Packet) (r : Result (Option Packet) StateError) (t : Session) → Becomes rest w (after_reply (record w { down = rest }) r t) r t
becomes w rest (Ok reply) t = record { down = refl; session = refl; up = refl }
becomes w rest (Err e) t = record { down = refl; session = refl; up = sym (append-nil w.up) }

module _ (n : ℕ) (w : World) (rest : List Packet) (x : Packet) (le : rounds_down x + later w.session.core.waiting ≤ suc n) (up : Within rounds_up n (later w.session.core.waiting) w.up) where
  -- after it these packets go up, and this waits
  gone : (r : Result (Option Packet) StateError) (t : Session) (ps : List Packet) (o : Option Publish) → sent r ≡ ps → t.core.waiting ≡ o → later o ≤ later w.session.core.waiting → Within rounds_up n (later o) ps → Read n rest w (after_reply (record w { down = rest }) r t)
  gone r t ps o s e less h =
      let b = becomes w rest r t in
      let same : later (after_reply (record w { down = rest }) r t).session.core.waiting ≡ later o = ap (λ (s : Session). later s.core.waiting) b.session ∙ ap later e in
      let ups : (after_reply (record w { down = rest }) r t).up ≡ w.up ++ ps = b.up ∙ ap (λ qs. w.up ++ qs) s in
      let all : Within rounds_up n (later o) (w.up ++ ps) = within_append rounds_up n (later o) w.up ps (within_less rounds_up n _ (later o) w.up less up) h in
      record {
        down = b.down;
        up = subst (λ m. Within rounds_up n m (after_reply (record w { down = rest }) r t).up) (sym same) (subst (Within rounds_up n (later o)) (sym ups) all);
        less = subst (λ m. m ≤ later w.session.core.waiting) (sym same) less;
      }

  read_move : (a : Answer) → Move w.session.core x a → Read n rest w (after_reply (record w { down = rest }) a.0 a.1)
  read_move a (Still r t s e keeps) = gone r t [] w.session.core.waiting s e (omega arith) (tt {0})
  read_move a (LetsGo p r t s was is) =
      let two = ap later was in
      let one = one_down x in
      let of = two_of p.qos in
      gone r t (packets.Publish p ∷ []) None s is (omega arith) (omega (arith, two, one, of, le), tt {0})
  read_move a (Answers y r t s one two smaller e keeps) =
      gone r t (y ∷ []) w.session.core.waiting s e (omega arith) (omega (arith, one, two, le), tt {0})

-- all that is on its way down
all_read : (n : ℕ) (ds : List Packet) (w : World) → w.down ≡ ds → Within rounds_down (suc n) (later w.session.core.waiting) ds → Within rounds_up n (later w.session.core.waiting) w.up → Read n [] w (run_world (all_down ds) w)
all_read n [] w e h up = record { down = e; up = up; less = omega arith }
all_read n (x ∷ ds) w e h up =
    let next : World = after_reply (record w { down = ds }) (on_packet w.session x 0).0 (on_packet w.session x 0).1 in
    let t : Read n ds w next = read_move n w ds x h.0 up (on_packet w.session x 0) (moves w.session x) in
    let all = all_read n ds next t.down (within_less rounds_down (suc n) _ _ ds t.less h.1) t.up in
    let whole : Read n [] w (run_world (all_down ds) next) = record {
      down = all.down;
      up = all.up;
      less = let a = all.less in let b = t.less in omega (arith, a, b);
    } in
    subst (λ xs. Read n [] w (run_world (all_down ds) (returns w xs))) (sym e) whole

-- ---- rounds

round_calm : (n : ℕ) (w : World) → Calm (suc n) w → Calm n (round w)
round_calm n w c =
    let u = all_taken (suc n) w.up w refl c.up c.down in
    let o = ap (λ (s : Session). later s.core.waiting) u.session in
    let none : Within rounds_up n (later (upward w).session.core.waiting) (upward w).up = subst (Within rounds_up n (later (upward w).session.core.waiting)) (sym u.up) (tt {0}) in
    let d = all_read n (upward w).down (upward w) refl (subst (λ m. Within rounds_down (suc n) m (upward w).down) (sym o) u.down) none in
    record { up = d.up; down = subst (Within rounds_down n (later (round w).session.core.waiting)) (sym d.down) (tt {0}) }

settle_calm : (n : ℕ) (w : World) → Calm n w → Calm 0 (settle n w)
settle_calm zero w c = c
settle_calm (suc n) w c = settle_calm n (round w) (round_calm n w c)

pub four_rounds : (w : World) → ((settle 4 w).up ≡ []) × ((settle 4 w).down ≡ [])
four_rounds w =
    let c = settle_calm 4 w (record { up = within_four rounds_up two_up w.session.core.waiting w.up; down = within_four rounds_down two_down w.session.core.waiting w.down }) in
    (within_none rounds_up one_up _ _ c.up, within_none rounds_down one_down _ _ c.down)
