-- A run over two lists.
use Rattle.std.proofs.Common.{◌≡◌, ℕ, List, [], ◌∷◌, ◌++◌, Option, Result, Ok, Err, refl, sym, ap, ◌∙◌, subst, inl, inr, ⊎_elim, append_assoc}
use Rattle.mqtt5_base.specs.Front.{Front, Bad, More, Whole}
use Rattle.mqtt5_base.specs.FrontAt.{front}
use Rattle.mqtt5_base.specs.declared.error.Error.{Error}
use Rattle.mqtt5_codec.specs.declared.codec.Codec.{Codec}
use Rattle.mqtt5_codec.specs.declared.packet.Packet.{Packet}
use Rattle.mqtt5_codec.specs.PacketsIn.{packet_in}
use Rattle.mqtt5_inflight.specs.declared.error.StateError.{StateError}
use Rattle.mqtt5_inflight.specs.declared.error.StateError.TheVariants as faults
use Rattle.mqtt5_session.specs.Session.{Session}
use Rattle.mqtt5_session.specs.Requests.{on_request}
use Rattle.mqtt5_session.specs.Packets.{on_packet}
use Rattle.mqtt5_drive.specs.declared.run.Step.{Step}
use Rattle.mqtt5_drive.specs.Trace.{Trace, Waits, Faults, Steps, End, Ending, Holds, Fault, finish, Passes, Stops}
use Rattle.mqtt5_drive.specs.Run.{Turn, Byte, Ask, of_input, turns, reply_bytes, on_written, on_reply, on_frame, on_front, run}

-- a course, and from where it rests another
abbrev pub after : Session → Trace → (Session → List ℕ → Trace) → Trace
after s (Waits held) k = k s held
after s (Faults e) k = Faults e
after s (Steps t reply c) k = Steps t reply (after t c k)

module _ (codec : Codec) (k : Session → List ℕ → Trace) where
  answered_after : (s t : Session) (r : Result (List ℕ) Error) (f g : Session → Trace) → ((v : Session) → f v ≡ after v (g v) k) → on_written t r f ≡ after s (on_written t r g) k
  answered_after s t (Ok bytes) f g same = ap (Steps t bytes) (same t)
  answered_after s t (Err e) f g same = refl

  moved_after : (s t : Session) (r : Result (Option Packet) StateError) (f g : Session → Trace) → ((v : Session) → f v ≡ after v (g v) k) → on_reply codec t r f ≡ after s (on_reply codec t r g) k
  moved_after s t (Ok reply) f g same = answered_after s t (reply_bytes codec reply) f g same
  moved_after s t (Err e) f g same = refl

  received_after : (at : ℕ) (s : Session) (r : Result Packet Error) (f g : Session → Trace) → ((v : Session) → f v ≡ after v (g v) k) → on_frame codec at s r f ≡ after s (on_frame codec at s r g) k
  received_after at s (Ok m) f g same = moved_after s (on_packet s m at).1 (on_packet s m at).0 f g same
  received_after at s (Err e) f g same = refl

  looked_after : (at : ℕ) (s : Session) (held : List ℕ) (r : Front) (f g : Session → List ℕ → Trace) → ((v : Session) (h : List ℕ) → f v h ≡ after v (g v h) k) → on_front codec at s held r f ≡ after s (on_front codec at s held r g) k
  looked_after at s held (Bad e) f g same = refl
  looked_after at s held (More n) f g same = same s held
  looked_after at s held (Whole frame rest) f g same = received_after at s (packet_in frame) (λ t. f t rest) (λ t. g t rest) (λ v. same v rest)

run_both : (codec : Codec) (xs ys : List Turn) (s : Session) (held : List ℕ) → run codec (xs ++ ys) s held ≡ after s (run codec xs s held) (λ t h. run codec ys t h)
unfolding run
run_both codec [] ys s held = refl
run_both codec (Byte at b ∷ xs) ys s held = looked_after codec (λ t h. run codec ys t h) at s (held ++ b ∷ []) (front codec.max_incoming_size (held ++ b ∷ [])) _ _ (λ v h. run_both codec xs ys v h)
run_both codec (Ask at r ∷ xs) ys s held = moved_after codec (λ t h. run codec ys t h) s (on_request s r at).1 (on_request s r at).0 _ _ (λ v. run_both codec xs ys v held)

abbrev held_of : Ending → List ℕ
held_of (Holds held) = held
held_of (Fault e) = []

finish_after : (k : Session → List ℕ → Trace) (s : Session) (o : List ℕ) (c : Trace) (t : Session) (u left : List ℕ) → finish s o c ≡ record { session = t; output = u; ending = Holds left } → finish s o (after s c k) ≡ finish t u (k t left)
finish_after k s o (Waits held) t u left e = ap (λ (x : End). finish x.session x.output (k x.session (held_of x.ending))) e
finish_after k s o (Faults f) t u left e = let x = ap (λ (x : End). x.ending) e in absurd cc
finish_after k s o (Steps v reply c) t u left e = finish_after k v (o ++ reply) c t u left e

turns-append : (xs ys : List Step) → turns (xs ++ ys) ≡ turns xs ++ turns ys
turns-append [] ys = refl
turns-append (x ∷ xs) ys = ap (λ (more : List Turn). of_input x.at x.input ++ more) (turns-append xs ys) ∙ sym (append_assoc (of_input x.at x.input) (turns xs) (turns ys))

pub twice : (codec : Codec) (s t : Session) (o u held left : List ℕ) (first second : List Step) → finish s o (run codec (turns first) s held) ≡ record { session = t; output = u; ending = Holds left }
    → finish s o (run codec (turns (first ++ second)) s held) ≡ finish t u (run codec (turns second) t left)
twice codec s t o u held left first second e =
    ap (λ (xs : List Turn). finish s o (run codec xs s held)) (turns-append first second) ∙ ap (finish s o) (run_both codec (turns first) (turns second) s held)
    ∙ finish_after (λ v h. run codec (turns second) v h) s o (run codec (turns first) s held) t u left e

pub twice_ok : (codec : Codec) (s t v : Session) (o u w held left last : List ℕ) (first second : List Step) → finish s o (run codec (turns first) s held) ≡ record { session = t; output = u; ending = Holds left }
    → finish t u (run codec (turns second) t left) ≡ record { session = v; output = w; ending = Holds last }
    → finish s o (run codec (turns (first ++ second)) s held) ≡ record { session = v; output = w; ending = Holds last }
twice_ok codec s t v o u w held left last first second e f = twice codec s t o u held left first second e ∙ f

-- a point of the second course is one of both
passes_after : (k : Session → List ℕ → Trace) (s : Session) (o : List ℕ) (c : Trace) (t : Session) (u left : List ℕ) (v : Session) (w : List ℕ) → finish s o c ≡ record { session = t; output = u; ending = Holds left } → Passes t u (k t left) v w → Passes s o (after s c k) v w
passes_after k s o (Waits held) t u left v w e h = subst (λ (x : End). Passes x.session x.output (k x.session (held_of x.ending)) v w) (sym e) h
passes_after k s o (Faults f) t u left v w e h = let x = ap (λ (x : End). x.ending) e in absurd cc
passes_after k s o (Steps next reply c) t u left v w e h = inr (inr (passes_after k next (o ++ reply) c t u left v w e h))

pub twice_stops : (codec : Codec) (s t v : Session) (o u w held left : List ℕ) (first second : List Step) (why : StateError) → finish s o (run codec (turns first) s held) ≡ record { session = t; output = u; ending = Holds left }
    → Stops why t u (run codec (turns second) t left) v w → Stops why s o (run codec (turns (first ++ second)) s held) v w
twice_stops codec s t v o u w held left first second why e h = ⊎_elim
    (λ (m : (why ≡ faults.OutOfMemory) × Passes t u (run codec (turns second) t left) v w). inl (m.0, subst (λ (c : Trace). Passes s o c v w) (sym both) (passes_after (λ x y. run codec (turns second) x y) s o (run codec (turns first) s held) t u left v w e m.1)))
    (λ (f : finish t u (run codec (turns second) t left) ≡ record { session = v; output = w; ending = Fault why }). inr (twice codec s t o u held left first second e ∙ f))
    h
  where
    both : run codec (turns (first ++ second)) s held ≡ after s (run codec (turns first) s held) (λ x y. run codec (turns second) x y)
    both = ap (λ (xs : List Turn). run codec xs s held) (turns-append first second) ∙ run_both codec (turns first) (turns second) s held
