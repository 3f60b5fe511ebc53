-- The frames of a buffer, and what they are where the buffer is the front of packets' frames.
use Rattle.std.proofs.Common.{◌≡◌, ℕ, zero, suc, ◌<◌, List, [], ◌∷◌, ◌++◌, length, take, Option, None, Ok, ◌⊎◌, inl, inr, refl, sym, ap, ◌∙◌, arith, append_assoc}
use Rattle.std.proofs.lemmas.List.{append_cancel_left}
use Rattle.std.proofs.Math.Seq.{take-append_seam}
use Rattle.mqtt5_base.specs.declared.error.Error.{Error}
use Rattle.mqtt5_base.specs.VarInt.{IsEnded, sevens}
use Rattle.mqtt5_base.specs.Frames.{IsWhole}
use Rattle.mqtt5_base.specs.Front.{Front, Bad, More, Whole, Admits, NeedsMore}
use Rattle.mqtt5_base.specs.FrontAt.{front}
use Rattle.mqtt5_codec.specs.declared.packet.Packet.{Packet}
use Rattle.mqtt5_codec.specs.PacketsIn.{packet_in}
use Rattle.mqtt5_codec.specs.Norms.{norm}
use Rattle.mqtt5_streams.specs.Wire.{wire_of, remaining, IsWritable, IsTyped}
use Rattle.mqtt5_streams.specs.Buffers.{Frames, Waits, Breaks, Takes, cut_by, frames_in, frames}
use Rattle.mqtt5_progress.specs.Packets.{Every}
use Rattle.mqtt5_streams.specs.Reduction.{frames_of}
use Rattle.mqtt5_streams.proofs.Wire.{wire}

-- ---- so many are enough

cut_alike : (limit : Option ℕ) (n m : ℕ) (bytes : List ℕ) → length bytes < n → length bytes < m → frames_in n limit bytes ≡ frames_in m limit bytes
cut_alike limit zero m bytes h k = absurd (omega arith)
cut_alike limit (suc n) zero bytes h k = absurd (omega arith)
cut_alike limit (suc n) (suc m) bytes h k = by (λ rest a b. cut_alike limit n m rest a b) (front limit bytes) refl
  where
    by : ((rest : List ℕ) → length rest < n → length rest < m → frames_in n limit rest ≡ frames_in m limit rest) → (f : Front) → front limit bytes ≡ f → cut_by f (frames_in n limit) ≡ cut_by f (frames_in m limit)
    by go_on (Bad e) is = refl
    by go_on (More j) is = refl
    by go_on (Whole frame rest) is = let s = (wire.stays limit).shorter bytes frame rest is in ap (λ others. Takes frame rest others) (go_on rest (omega arith) (omega arith))

pub frames_whole : (limit : Option ℕ) (bytes frame rest : List ℕ) → front limit bytes ≡ Whole frame rest → frames limit bytes ≡ Takes frame rest (frames limit rest)
unfolding frames
frames_whole limit bytes frame rest is =
    let s = (wire.stays limit).shorter bytes frame rest is in
    ap (λ f. cut_by f (frames_in (length bytes) limit)) is ∙ ap (λ others. Takes frame rest others) (cut_alike limit (length bytes) (suc (length rest)) rest s (omega arith))

pub frames_more : (limit : Option ℕ) (bytes : List ℕ) (n : ℕ) → front limit bytes ≡ More n → frames limit bytes ≡ Waits
unfolding frames
frames_more limit bytes n is = ap (λ f. cut_by f (frames_in (length bytes) limit)) is

pub frames_bad : (limit : Option ℕ) (bytes : List ℕ) (e : Error) → front limit bytes ≡ Bad e → frames limit bytes ≡ Breaks e
unfolding frames
frames_bad limit bytes e is = ap (λ f. cut_by f (frames_in (length bytes) limit)) is

-- ---- of two whole frames at the front of one stream each is the other

heads : (x y : ℕ) (xs ys : List ℕ) → x ∷ xs ≡ y ∷ ys → x ≡ y
heads x y xs ys e = cc

tails : (x y : ℕ) (xs ys : List ℕ) → x ∷ xs ≡ y ∷ ys → xs ≡ ys
tails x y xs ys e = cc

-- the bytes of a length end by themselves
ended_one : (a b x y : List ℕ) → IsEnded a → IsEnded b → a ++ x ≡ b ++ y → a ≡ b
ended_one [] b x y h k e = absurd h
ended_one (c ∷ []) [] x y h k e = absurd k
ended_one (c ∷ d ∷ a) [] x y h k e = absurd k
ended_one (c ∷ []) (d ∷ []) x y h k e = ap (λ z. z ∷ []) (heads c d x y e)
ended_one (c ∷ []) (d ∷ g ∷ b) x y h k e = let s = heads c d x (g ∷ b ++ y) e in let low = k.0 in absurd (omega arith)
ended_one (c ∷ d ∷ a) (g ∷ []) x y h k e = let s = heads c g (d ∷ a ++ x) y e in let low = h.0 in absurd (omega arith)
ended_one (c ∷ d ∷ a) (g ∷ i ∷ b) x y h k e =
    let first = heads c g (d ∷ a ++ x) (i ∷ b ++ y) e in
    let rest = ended_one (d ∷ a) (i ∷ b) x y h.1 k.1 (tails c g (d ∷ a ++ x) (i ∷ b ++ y) e) in
    ap (λ z. z ∷ d ∷ a) first ∙ ap (λ z. g ∷ z) rest

one_frame : (f g r s : List ℕ) (a b : ℕ) (x y : List ℕ) → IsWhole f a x → IsWhole g b y → f ++ r ≡ g ++ s → f ≡ g
one_frame f g r s a b x y v w e =
    let m = v.0 in
    let n = w.0 in
    let all : a ∷ ((m ++ x) ++ r) ≡ b ∷ ((n ++ y) ++ s) = sym (ap (λ z. z ++ r) v.1) ∙ e ∙ ap (λ z. z ++ s) w.1 in
    let after : m ++ (x ++ r) ≡ n ++ (y ++ s) = sym (append_assoc m x r) ∙ tails a b ((m ++ x) ++ r) ((n ++ y) ++ s) all ∙ append_assoc n y s in
    let lengths : m ≡ n = ended_one m n (x ++ r) (y ++ s) v.2.1 w.2.1 after in
    let bodies : x ++ r ≡ y ++ s = append_cancel_left m (x ++ r) (y ++ s) (after ∙ ap (λ z. z ++ (y ++ s)) (sym lengths)) in
    let len : length x ≡ length y = v.2.2 ∙ ap sevens lengths ∙ sym w.2.2 in
    let body : x ≡ y = sym (take-append_seam x r) ∙ ap (λ k. take k (x ++ r)) len ∙ ap (take (length y)) bodies ∙ take-append_seam y s in
    v.1 ∙ ap (λ z. z ∷ (m ++ x)) (heads a b _ _ all) ∙ ap (λ z. b ∷ (z ++ x)) lengths ∙ ap (λ z. b ∷ (n ++ z)) body ∙ sym w.1

-- ---- the frames of packets

-- it stands on a stream
abbrev pub IsSound : Packet → Type 0
IsSound p = IsTyped p × IsWritable None p

-- The frames of a buffer are packets' frames, each read as its packet's norm; then the rest of the buffer and what comes later
-- are those of the other packets. Where a frame can't be read, this is said.
abbrev pub AreCut : Option ℕ → Type 0 → Frames → List ℕ → List Packet → List ℕ → Type 0
AreCut limit Broken Waits buffer ps later = NeedsMore (front limit buffer) × (buffer ++ later ≡ frames_of ps)
AreCut limit Broken (Breaks e) buffer ps later = Broken
AreCut limit Broken (Takes frame rest others) buffer [] later = ⊥
AreCut limit Broken (Takes frame rest others) buffer (p ∷ ps) later = (packet_in frame ≡ Ok (norm p)) × AreCut limit Broken others rest ps later

no_bytes : (xs ys : List ℕ) → xs ++ ys ≡ [] → xs ≡ []
no_bytes [] ys e = refl
no_bytes (x ∷ xs) ys e = absurd cc

-- a whole frame at the front is the first packet's
is_first : (limit : Option ℕ) (p : Packet) (more bytes later frame rest : List ℕ) → IsSound p → bytes ++ later ≡ wire_of p ++ more → front limit bytes ≡ Whole frame rest → (frame ≡ wire_of p) × (rest ++ later ≡ more)
is_first limit p more bytes later frame rest sound e is =
    let here = (wire.stays limit).shape bytes frame rest is in
    let its = (wire.stays None).shape (wire_of p ++ more) (wire_of p) more (wire.stands None p more sound.0 sound.1 (tt {0})) in
    let all : frame ++ (rest ++ later) ≡ wire_of p ++ more = sym (append_assoc frame rest later) ∙ ap (λ z. z ++ later) (sym ((wire.stays limit).parts bytes frame rest is)) ∙ e in
    let same = one_frame frame (wire_of p) (rest ++ later) more here.0 its.0 here.1 its.1 here.2 its.2 all in
    (same, append_cancel_left frame (rest ++ later) more (all ∙ ap (λ z. z ++ more) (sym same)))

pub not_bad : (n : ℕ) (e : Error) → More n ≡ Bad e → ⊥
not_bad n e h = cc

pub not_whole : (n : ℕ) (frame rest : List ℕ) → More n ≡ Whole frame rest → ⊥
not_whole n frame rest h = cc

whole_not_bad : (e : Error) (frame rest : List ℕ) → Whole frame rest ≡ Bad e → ⊥
whole_not_bad e frame rest h = cc

module _ (limit : Option ℕ) (Broken : Type 0) where
  abbrev Admitted : Packet → Type 0
  Admitted p = Admits limit (remaining p)

  others_admitted : (p : Packet) (ps : List Packet) → Broken ⊎ Every Admitted (p ∷ ps) → Broken ⊎ Every Admitted ps
  others_admitted p ps (inl b) = inl b
  others_admitted p ps (inr a) = inr a.1

  -- so it is of each shorter buffer
  abbrev Shorter : ℕ → List ℕ → Type 0
  Shorter n later = (rest : List ℕ) (qs : List Packet) → length rest < n → Every IsSound qs → Broken ⊎ Every Admitted qs → rest ++ later ≡ frames_of qs → AreCut limit Broken (frames_in n limit rest) rest qs later

  by_front : (n : ℕ) (bytes later : List ℕ) → length bytes < suc n → Shorter n later → (f : Front) → front limit bytes ≡ f → (ps : List Packet) → Every IsSound ps → Broken ⊎ Every Admitted ps → bytes ++ later ≡ frames_of ps → AreCut limit Broken (cut_by f (frames_in n limit)) bytes ps later
  by_front n bytes later h go_on (More j) is ps g b e = ((j, is), e)
  by_front n bytes later h go_on (Bad x) is [] g b e = absurd (not_bad 2 x (sym (wire.empty limit) ∙ ap (front limit) (sym (no_bytes bytes later e)) ∙ is))
  by_front n bytes later h go_on (Bad x) is (p ∷ ps) g (inl b) e = b
  by_front n bytes later h go_on (Bad x) is (p ∷ ps) g (inr a) e =
      absurd (whole_not_bad x (wire_of p) (frames_of ps)
      (sym (wire.stands limit p (frames_of ps) g.0.0 g.0.1 a.0) ∙ ap (front limit) (sym e) ∙ (wire.stays limit).bad bytes later x is))
  by_front n bytes later h go_on (Whole frame rest) is [] g b e = not_whole 2 frame rest (sym (wire.empty limit) ∙ ap (front limit) (sym (no_bytes bytes later e)) ∙ is)
  by_front n bytes later h go_on (Whole frame rest) is (p ∷ ps) g b e =
      let first = is_first limit p (frames_of ps) bytes later frame rest g.0 e is in
      let s = (wire.stays limit).shorter bytes frame rest is in
      (ap packet_in first.0 ∙ wire.read p g.0.0 g.0.1, go_on rest ps (omega arith) g.1 (others_admitted p ps b) first.1)

  cuts_in : (n : ℕ) (later bytes : List ℕ) (ps : List Packet) → length bytes < n → Every IsSound ps → Broken ⊎ Every Admitted ps → bytes ++ later ≡ frames_of ps → AreCut limit Broken (frames_in n limit bytes) bytes ps later
  cuts_in zero later bytes ps h g b e = absurd (omega arith)
  cuts_in (suc n) later bytes ps h g b e = by_front n bytes later h (λ rest qs s g b e. cuts_in n later rest qs s g b e) (front limit bytes) refl ps g b e

  pub cuts : (bytes : List ℕ) (ps : List Packet) (later : List ℕ) → Every IsSound ps → Broken ⊎ Every Admitted ps → bytes ++ later ≡ frames_of ps → AreCut limit Broken (frames limit bytes) bytes ps later
  unfolding frames
  cuts bytes ps later g b e = cuts_in (suc (length bytes)) later bytes ps (omega arith) g b e
