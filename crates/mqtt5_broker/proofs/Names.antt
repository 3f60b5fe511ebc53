-- Texts that are made.
use Rattle.std.proofs.Common.{◌≡◌, ℕ, Bool, true, false, List, [], ◌++◌, Result, Ok, Err, IfOk, refl, sym, ap, ◌∙◌, codes}
use Rattle.std.specs.Fmt.{decimal}
use Rattle.std.specs.Str.{is_utf8}
use Rattle.mqtt5_base.specs.Texts.{Utf8, text_by, text_of}
use Rattle.mqtt5_base.specs.Codes.{text_back}
use Rattle.mqtt5_broker.specs.Broker.{assigned_name}

pub text_is : (t : Utf8) (bs : List ℕ) → t.bytes ≡ bs → t ≡ text_of bs
text_is t bs e = sym (text_back t) ∙ ap text_of e

-- one that may be refused
pub text_if : {E : Type 0} (r : Result Utf8 E) (bs : List ℕ) → IfOk r (λ t. t.bytes ≡ bs) → IfOk r (λ t. t ≡ text_of bs)
text_if (Ok t) bs h = text_is t bs h
text_if (Err e) bs h = tt

-- its bytes, where they are UTF-8, and else none
bytes_by : (bs : List ℕ) (b : Bool) (e : is_utf8 bs ≡ b) → b ≡ true → (text_by bs b e).bytes ≡ bs
unfolding text_by
bytes_by bs true e h = refl
bytes_by bs false e h = absurd cc

none_by : (bs : List ℕ) (b : Bool) (e : is_utf8 bs ≡ b) → b ≡ false → (text_by bs b e).bytes ≡ []
unfolding text_by
none_by bs true e h = absurd cc
none_by bs false e h = refl

pub bytes_back : (bs : List ℕ) → is_utf8 bs ≡ true → (text_of bs).bytes ≡ bs
unfolding text_of
bytes_back bs h = bytes_by bs (is_utf8 bs) refl h

pub none_back : (bs : List ℕ) → is_utf8 bs ≡ false → (text_of bs).bytes ≡ []
unfolding text_of
none_back bs h = none_by bs (is_utf8 bs) refl h

pub assigned_is : (t : Utf8) (n : ℕ) → t.bytes ≡ codes "auto-" ++ decimal n → t ≡ assigned_name n
assigned_is t n e = text_is t (codes "auto-" ++ decimal n) e
