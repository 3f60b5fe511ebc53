-- What decoding answers where more bytes are needed, and that they are needed of the first bytes of the longest frame.
use Rattle.std.proofs.Common.{◌≡◌, ℕ, List, [], ◌∷◌, Option, Some, None, Result, Ok, Err, refl, sym, ◌∙◌, inl, inr, ap}
use Rattle.mqtt5_base.specs.declared.error.Error.{Error}
use Rattle.mqtt5_base.specs.Front.{Bad, More, Whole}
use Rattle.mqtt5_base.specs.FrontAt.{front}
use Rattle.mqtt5_base.specs.Lengths.{length_at}
use Rattle.mqtt5_codec.specs.declared.packet.Packet.{Packet}
use Rattle.bytes.specs.Filled.{Filled}
use Rattle.mqtt5_codec.specs.Codecs.{Decodes, Reserves}

-- 30 FF FF FF 7F
front_of_longest : front None (48 ∷ 255 ∷ 255 ∷ 255 ∷ 127 ∷ []) ≡ More 268435455
unfolding front length_at
front_of_longest = refl

not_whole : (n : ℕ) (frame rest : List ℕ) → More n ≡ Whole frame rest → ⊥
not_whole n frame rest h = absurd cc

not_bad : (n : ℕ) (e : Error) → More n ≡ Bad e → ⊥
not_bad n e h = absurd cc

-- neither a packet nor an error, want of memory among them, is answered where more bytes are needed
more_is_none : (n : ℕ) (limit : Option ℕ) (r : Result (Option Packet) Error) (old new : List ℕ) → front limit old ≡ More n → Decodes r limit old new → r ≡ Ok None
more_is_none n limit (Ok None) old new h d = refl
more_is_none n limit (Ok (Some p)) old new h d = absurd (not_whole n d.0 new (sym h ∙ d.1))
more_is_none n limit (Err e) old new h (inl (inl t)) = absurd (not_whole n t.0 new (sym h ∙ t.1))
more_is_none n limit (Err e) old new h (inl (inr m)) = absurd (not_whole n m.1.0 m.1.1 (sym h ∙ m.1.2))
more_is_none n limit (Err e) old new h (inr b) = absurd (not_bad n e (sym h ∙ b.0))

pub longest_awaited : (r : Result (Option Packet) Error) (old new : List ℕ) → old ≡ 48 ∷ 255 ∷ 255 ∷ 255 ∷ 127 ∷ [] → Decodes r None old new → r ≡ Ok None
longest_awaited r old new is d = more_is_none 268435455 None r old new (ap (front None) is ∙ front_of_longest) d

-- and then nothing was reserved
pub none_reserves : (r : Result (Option Packet) Error) (old new : Filled) → r ≡ Ok None → Reserves r old new → new ≡ old
none_reserves (Ok None) old new is h = h
none_reserves (Ok (Some p)) old new is h = absurd cc
none_reserves (Err e) old new is h = absurd cc
