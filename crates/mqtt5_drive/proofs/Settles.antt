-- The run over a piece, byte by byte, is that of the whole frames in it.
use Rattle.std.proofs.Common.{◌≡◌, ℕ, List, [], ◌∷◌, ◌++◌, Option, refl, sym, ap, subst, ◌∙◌, append_assoc}
use Rattle.std.proofs.lemmas.List.{append-nil}
use Rattle.mqtt5_base.specs.Front.{Front, Bad, More, Whole, IsFound, IsFront}
use Rattle.mqtt5_base.specs.FrontAt.{front}
use Rattle.mqtt5_codec.specs.declared.codec.Codec.{Codec}
use Rattle.mqtt5_codec.specs.PacketsIn.{packet_in}
use Rattle.mqtt5_inflight.specs.Errors.{state_error}
use Rattle.mqtt5_session.specs.Session.{Session}
use Rattle.mqtt5_drive.specs.Trace.{Trace, Faults}
use Rattle.mqtt5_drive.specs.Run.{Turn, byte_turns, on_frame, on_front, run}

-- what comes of a stream whose front is this
abbrev pub outcome : Codec → ℕ → List Turn → Session → List ℕ → Front → Trace
outcome codec at rest s stream (Bad e) = Faults (state_error e)
outcome codec at rest s stream (More n) = run codec rest s stream
outcome codec at rest s stream (Whole frame left) = on_frame codec at s (packet_in frame) (λ t. run codec (byte_turns at left ++ rest) t [])

-- from held on, these bytes come to what the front of all of them says
abbrev Settles : Codec → ℕ → List Turn → Session → List ℕ → List ℕ → Type 0
Settles codec at rest s bytes held =
    run codec (byte_turns at bytes ++ rest) s held ≡ outcome codec at rest s (held ++ bytes) (front codec.max_incoming_size (held ++ bytes))

-- what the laws of fronts say of every limit
pub record Fronts : Type 0 where
  pub found : (limit : Option ℕ) → IsFound limit (front limit)
  pub stays : (limit : Option ℕ) → IsFront (front limit)

pub fronts_of : ((limit : Option ℕ) → IsFound limit (front limit)) → ((limit : Option ℕ) → IsFront (front limit)) → Fronts
fronts_of found stays = record { found = found; stays = stays }

module _ (fronts : Fronts) where
  -- after one byte more, whose front is f
  one : (codec : Codec) (at : ℕ) (rest : List Turn) (s : Session) (b : ℕ) (bytes held : List ℕ) (n : ℕ) → front codec.max_incoming_size held ≡ More n
      → ((m : ℕ) → front codec.max_incoming_size (held ++ b ∷ []) ≡ More m → Settles codec at rest s bytes (held ++ b ∷ []))
      → (f : Front) → front codec.max_incoming_size (held ++ b ∷ []) ≡ f
      → on_front codec at s (held ++ b ∷ []) f (λ t left. run codec (byte_turns at bytes ++ rest) t left) ≡ outcome codec at rest s ((held ++ b ∷ []) ++ bytes) (front codec.max_incoming_size ((held ++ b ∷ []) ++ bytes))
  one codec at rest s b bytes held n h go (Bad e) is = rw ((fronts.stays codec.max_incoming_size).bad (held ++ b ∷ []) bytes e is) refl
  one codec at rest s b bytes held n h go (More m) is = go m is
  one codec at rest s b bytes held n h go (Whole frame left) is =
      let none : left ≡ [] = (fronts.stays codec.max_incoming_size).tight held b n frame left h is in
      let whole : front codec.max_incoming_size ((held ++ b ∷ []) ++ bytes) ≡ Whole frame (left ++ bytes) = (fronts.stays codec.max_incoming_size).whole (held ++ b ∷ []) bytes frame left is in
      rw (whole, none) refl

  pub settles : (codec : Codec) (at : ℕ) (rest : List Turn) (s : Session) (bytes held : List ℕ) (n : ℕ) → front codec.max_incoming_size held ≡ More n → Settles codec at rest s bytes held
  unfolding run
  settles codec at rest s [] held n h = rw (append-nil held, h) refl
  settles codec at rest s (b ∷ bytes) held n h =
      let grown : (held ++ b ∷ []) ++ bytes ≡ held ++ b ∷ bytes = append_assoc held (b ∷ []) bytes in
      subst (λ (x : List ℕ). run codec (byte_turns at (b ∷ bytes) ++ rest) s held ≡ outcome codec at rest s x (front codec.max_incoming_size x)) grown
      (one codec at rest s b bytes held n h (λ m is. settles codec at rest s bytes (held ++ b ∷ []) m is) (front codec.max_incoming_size (held ++ b ∷ [])) refl)

  -- so it does not matter where a piece starts that follows a stream that wants more
  pub regroup : (codec : Codec) (at : ℕ) (rest : List Turn) (s : Session) (bytes held : List ℕ) (n : ℕ) → front codec.max_incoming_size held ≡ More n
      → run codec (byte_turns at bytes ++ rest) s held ≡ run codec (byte_turns at (held ++ bytes) ++ rest) s []
  regroup codec at rest s bytes held n h =
      settles codec at rest s bytes held n h ∙ sym (settles codec at rest s (held ++ bytes) [] 2 (fronts.found codec.max_incoming_size).nothing)

  -- a stream from its start
  pub from_start : (codec : Codec) (at : ℕ) (rest : List Turn) (s : Session) (stream : List ℕ) (f : Front) → front codec.max_incoming_size stream ≡ f
      → run codec (byte_turns at stream ++ rest) s [] ≡ outcome codec at rest s stream f
  from_start codec at rest s stream f is =
      settles codec at rest s stream [] 2 (fronts.found codec.max_incoming_size).nothing ∙ ap (outcome codec at rest s stream) is
