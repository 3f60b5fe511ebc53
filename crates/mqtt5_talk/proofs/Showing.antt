-- What was shown, and its acks.
use Rattle.std.proofs.Common.{◌≡◌, ℕ, ◌+◌, Bool, List, [], ◌∷◌, ◌++◌, refl, sym, ap, subst, ◌∙◌, append_assoc, append-nil, add-one, ◌<◌, arith, take, get_or, length, Result, Ok, Err, IfOk}
use Rattle.std.specs.Prelude.{Option}
use Rattle.std.proofs.Math.Seq.{take-suc}
use Rattle.mqtt5_base.specs.Views.{bit}
use Rattle.mqtt5_publish.specs.declared.publish.Publish.{Publish}
use Rattle.mqtt5_client.specs.declared.client.Client.{Client}
use Rattle.mqtt5_talk.specs.declared.error.TalkError.{TalkError}
use Rattle.mqtt5_talk.specs.Conversation.{Saying, SendsOnly, Talked}
use Rattle.mqtt5_talk.proofs.Talking.{then_told, then_talked, as_talked}
use Rattle.mqtt5_talk.specs.Answers.{ack_of, acks_of, ShowsAll, Showed}
use Rattle.mqtt5_talk.specs.Shown.{shown_byte, escaped}

pub acks_append : (ps qs : List Publish) → acks_of (ps ++ qs) ≡ acks_of ps ++ acks_of qs
acks_append [] qs = refl
acks_append (p ∷ ps) qs = ap (λ (s : List Saying). ack_of p ++ s) (acks_append ps qs) ∙ sym (append_assoc (ack_of p) (acks_of ps) (acks_of qs))

pub shows_append : {S : Type 0} (shows : S → Publish → Bool → S → Type 0) (s t u : S) (ps qs : List Publish) (m n : ℕ) → ShowsAll shows s ps m t → ShowsAll shows t qs n u → ShowsAll shows s (ps ++ qs) (m + n) u
shows_append shows s t u [] qs m n h k =
    let e : m + n ≡ n = omega (arith, h.1) in rw (sym h.0, e) k
shows_append shows s t u (p ∷ ps) qs m n h k = (h.0, h.1, h.2 + n, h.3, shows_append shows h.1 t u ps qs h.2 n h.4 k, omega (arith, h.5))

pub showed_append : {S : Type 0} (shows : S → Publish → Bool → S → Type 0) (s t : S) (ps qs : List Publish) (m : ℕ) → ShowsAll shows s ps m t → Showed shows t qs → Showed shows s (ps ++ qs)
showed_append shows s t ps qs m h k = (m + k.0, k.1, shows_append shows s t k.1 ps qs m k.0 h k.2)

pub escaped_append : (is_text : Bool) (xs ys : List ℕ) → escaped is_text (xs ++ ys) ≡ escaped is_text xs ++ escaped is_text ys
escaped_append is_text [] ys = refl
escaped_append is_text (x ∷ xs) ys =
    ap (λ (l : List ℕ). shown_byte is_text x ++ l) (escaped_append is_text xs ys) ∙ sym (append_assoc (shown_byte is_text x) (escaped is_text xs) (escaped is_text ys))

-- a byte more is shown
pub escaped_more : (is_text : Bool) (old line new bytes : List ℕ) (i : ℕ) → i < length bytes → line ≡ old ++ escaped is_text (take i bytes)
    → new ≡ line ++ shown_byte is_text (get_or bytes i 0) → new ≡ old ++ escaped is_text (take (i + 1) bytes)
escaped_more is_text old line new bytes i below so_far grown =
    let last : List ℕ = shown_byte is_text (get_or bytes i 0) in
    let step : escaped is_text (take (i + 1) bytes) ≡ escaped is_text (take i bytes) ++ last =
    ap (λ (n : ℕ). escaped is_text (take n bytes)) (add-one i) ∙ ap (escaped is_text) (take-suc bytes i 0 below)
    ∙ escaped_append is_text (take i bytes) (get_or bytes i 0 ∷ []) ∙ ap (λ (l : List ℕ). escaped is_text (take i bytes) ++ l) (append-nil last) in
    grown ∙ ap (λ (l : List ℕ). l ++ last) so_far ∙ append_assoc old (escaped is_text (take i bytes)) last ∙ ap (λ (l : List ℕ). old ++ l) (sym step)

-- one message, or none, and its ack
module _ (x y : Option (List ℕ)) (p q : Client) where
  pub one_acked : (m : Publish) → SendsOnly x y p (ack_of m) q → SendsOnly x y p (acks_of (m ∷ [])) q
  one_acked m t = subst (λ (said : List Saying). SendsOnly x y p said q) (sym (append-nil (ack_of m))) t

module _ (x y z : Option (List ℕ)) (p q r : Client) (ps qs : List Publish) where
  pub more_told : SendsOnly x y p (acks_of ps) q → SendsOnly y z q (acks_of qs) r → SendsOnly x z p (acks_of (ps ++ qs)) r
  more_told t u = subst (λ (said : List Saying). SendsOnly x z p said r) (sym (acks_append ps qs)) (then_told x y z p q r (acks_of ps) (acks_of qs) t u)

module _ {k : Bool} (a b : Option (List ℕ)) (x y z : Option (List ℕ)) (p q r : Client) (ps qs : List Publish) where
  pub more_talked : Talked k a b x y p (acks_of ps) q → SendsOnly y z q (acks_of qs) r → Talked k a b x z p (acks_of (ps ++ qs)) r
  more_talked t u = subst (λ (said : List Saying). Talked k a b x z p said r) (sym (acks_append ps qs)) (then_talked a b b x y z p q r (acks_of ps) (acks_of qs) t (as_talked b y z q r (acks_of qs) u))

-- where nothing was shown
pub shows_none : {S : Type 0} (shows : S → Publish → Bool → S → Type 0) (s : S) (r : Result ℕ TalkError) → IfOk r (λ n. n ≡ 0) → IfOk r (λ n. (count : ℕ) × ShowsAll shows s [] count s × (count ≡ n))
shows_none shows s (Ok n) e = (0, (refl, refl), sym e)
shows_none shows s (Err trouble) e = tt

-- one message was given
pub shows_one : {S : Type 0} (shows : S → Publish → Bool → S → Type 0) (s t : S) (p : Publish) (is_shown : Bool) → shows s p is_shown t → ShowsAll shows s (p ∷ []) (bit is_shown) t
shows_one shows s t p is_shown h = (is_shown, t, 0, h, (refl, refl), omega arith)
