-- A stream that is cut a byte at a time is cut at its whole frames.
use Rattle.std.proofs.Common.{◌≡◌, ℕ, List, [], ◌∷◌, ◌++◌, Option, Some, None, Result, Ok, Err, refl, sym, ap, subst, ◌∙◌, ◌⊎◌, inl, inr, append_assoc}
use Rattle.std.proofs.lemmas.List.{append-nil}
use Rattle.mqtt5_base.specs.Front.{Front, Bad, More, Whole, IsFound, IsFront}
use Rattle.mqtt5_base.specs.FrontAt.{front}
use Rattle.mqtt5_base.specs.declared.error.Error.{Error}
use Rattle.mqtt5_base.specs.declared.error.Error.TheVariants.{OutOfMemory}
use Rattle.mqtt5_codec.specs.declared.packet.Packet.{Packet}
use Rattle.mqtt5_codec.specs.PacketsIn.{packet_in}
use Rattle.mqtt5_codec.specs.Codecs.{Decodes}
use Rattle.mqtt5_codec.specs.Laws.{IsFrames}
use Rattle.mqtt5_broker.specs.Cut.{Cut, Holds, Breaks, ends_so, with_packet, on_frame, on_front, cut_up, goes_on_as}

-- ---- two pieces

on_frame_more : (r : Result Packet Error) (a b : Cut) (k : List ℕ → Cut) → a ≡ goes_on_as b k → on_frame r a ≡ goes_on_as (on_frame r b) k
on_frame_more (Ok p) a b k e = ap (with_packet p) e
on_frame_more (Err e) a b k h = refl

on_front_more : (f : Front) (held : List ℕ) (a b : List ℕ → Cut) (k : List ℕ → Cut) → ((left : List ℕ) → a left ≡ goes_on_as (b left) k) → on_front f held a ≡ goes_on_as (on_front f held b) k
on_front_more (Bad e) held a b k h = refl
on_front_more (More n) held a b k h = h held
on_front_more (Whole frame rest) held a b k h = on_frame_more (packet_in frame) (a rest) (b rest) k (h rest)

pub pieces : (limit : Option ℕ) (xs ys held : List ℕ) → cut_up limit (xs ++ ys) held ≡ goes_on_as (cut_up limit xs held) (λ left. cut_up limit ys left)
unfolding cut_up
pieces limit [] ys held = refl
pieces limit (x ∷ xs) ys held =
    on_front_more (front limit (held ++ x ∷ [])) (held ++ x ∷ []) (λ left. cut_up limit (xs ++ ys) left) (λ left. cut_up limit xs left) (λ left. cut_up limit ys left) (λ left. pieces limit xs ys left)

-- ---- whole frames

-- what comes of a stream whose front is this
abbrev pub outcome : Option ℕ → List ℕ → Front → Cut
outcome limit stream (Bad e) = ends_so (Breaks e)
outcome limit stream (More n) = ends_so (Holds stream)
outcome limit stream (Whole frame left) = on_frame (packet_in frame) (cut_up limit left [])

abbrev Settles : Option ℕ → List ℕ → List ℕ → Type 0
Settles limit bytes held = cut_up limit bytes held ≡ outcome limit (held ++ bytes) (front limit (held ++ bytes))

module _ (limit : Option ℕ) (found : IsFound limit (front limit)) (stays : IsFront (front limit)) where
  -- after one byte more, whose front is f
  one : (b : ℕ) (bytes held : List ℕ) (n : ℕ) → front limit held ≡ More n
      → ((m : ℕ) → front limit (held ++ b ∷ []) ≡ More m → Settles limit bytes (held ++ b ∷ []))
      → (f : Front) → front limit (held ++ b ∷ []) ≡ f
      → on_front f (held ++ b ∷ []) (λ left. cut_up limit bytes left) ≡ outcome limit ((held ++ b ∷ []) ++ bytes) (front limit ((held ++ b ∷ []) ++ bytes))
  one b bytes held n h go (Bad e) is = rw (stays.bad (held ++ b ∷ []) bytes e is) refl
  one b bytes held n h go (More m) is = go m is
  one b bytes held n h go (Whole frame left) is =
      let none : left ≡ [] = stays.tight held b n frame left h is in
      let whole : front limit ((held ++ b ∷ []) ++ bytes) ≡ Whole frame (left ++ bytes) = stays.whole (held ++ b ∷ []) bytes frame left is in
      rw (whole, none) refl

  pub settles : (bytes held : List ℕ) (n : ℕ) → front limit held ≡ More n → Settles limit bytes held
  unfolding cut_up
  settles [] held n h = rw (append-nil held, h) refl
  settles (b ∷ bytes) held n h =
      let grown : (held ++ b ∷ []) ++ bytes ≡ held ++ b ∷ bytes = append_assoc held (b ∷ []) bytes in
      subst (λ (x : List ℕ). cut_up limit (b ∷ bytes) held ≡ outcome limit x (front limit x)) grown
      (one b bytes held n h (λ m is. settles bytes (held ++ b ∷ []) m is) (front limit (held ++ b ∷ [])) refl)

  -- a stream from its start
  pub from_start : (stream : List ℕ) (f : Front) → front limit stream ≡ f → cut_up limit stream [] ≡ outcome limit stream f
  from_start stream f is = settles stream [] 2 found.nothing ∙ ap (outcome limit stream) is

  -- so it does not matter where a piece starts that follows a stream that wants more
  pub regroup : (bytes held : List ℕ) (n : ℕ) → front limit held ≡ More n → cut_up limit bytes held ≡ cut_up limit (held ++ bytes) []
  regroup bytes held n h = settles bytes held n h ∙ sym (settles (held ++ bytes) [] 2 found.nothing)

  module _ (frames : IsFrames) where
    -- a whole frame with a packet is the first of them
    pub took : (stream left : List ℕ) (p : Packet) → Decodes (Ok (Some p)) limit stream left → cut_up limit stream [] ≡ with_packet p (cut_up limit left [])
    took stream left p h =
        let w = stays.shape stream h.0 left h.1 in
        from_start stream (Whole h.0 left) h.1
        ∙ ap (λ (r : Result Packet Error). on_frame r (cut_up limit left [])) (((frames.reads h.0 w.0 w.1 w.2).value p).1 h.2)

    -- what more is wanted of is held
    pub waits : (stream left : List ℕ) → Decodes (Ok None) limit stream left → cut_up limit stream [] ≡ ends_so (Holds left)
    waits stream left h = from_start stream (More h.0.0) h.0.1 ∙ ap (λ (x : List ℕ). ends_so (Holds x)) (sym h.1)

    -- and a fault is the end, but for the want of memory
    pub breaks : (stream left : List ℕ) (e : Error) → Decodes (Err e) limit stream left → (e ≡ OutOfMemory) ⊎ (cut_up limit stream [] ≡ ends_so (Breaks e))
    breaks stream left e (inl (inl h)) =
        let w = stays.shape stream h.0 left h.1 in
        inr (from_start stream (Whole h.0 left) h.1 ∙ ap (λ (r : Result Packet Error). on_frame r (cut_up limit left [])) (((frames.reads h.0 w.0 w.1 w.2).fault e).1 h.2))
    breaks stream left e (inl (inr h)) = inl h.0
    breaks stream left e (inr h) = inr (from_start stream (Bad e) h.0)
