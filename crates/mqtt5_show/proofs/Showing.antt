-- Frames that are shown, one after another, and before bytes that come later.
use Rattle.std.proofs.Common.{◌≡◌, ℕ, Bool, true, false, List, [], ◌∷◌, ◌++◌, refl, sym, ap, subst, append_assoc}
use Rattle.std.specs.Prelude.{Option, Ok}
use Rattle.mqtt5_base.proofs.FrontLemmas.{front_is}
use Rattle.mqtt5_codec.specs.declared.packet.Packet.{Packet}
use Rattle.mqtt5_show.specs.Shown.{ShowsAll, ShowsOne}

pub shows_append : {S : Type 0} (shows : S → Packet → S → Type 0) (limit : Option ℕ) (a b c : List ℕ) (s t u : S) (ps qs : List Packet)
    → ShowsAll shows limit a s ps b t → ShowsAll shows limit b t qs c u → ShowsAll shows limit a s (ps ++ qs) c u
shows_append shows limit a b c s t u [] qs h k = rw (sym h.0, sym h.1) k
shows_append shows limit a b c s t u (p ∷ ps) qs h k =
    (h.0, h.1, h.2, h.3, shows_append shows limit h.0 b c h.1 t u ps qs h.4 k)

pub shows_more : {S : Type 0} (shows : S → Packet → S → Type 0) (limit : Option ℕ) (more a b : List ℕ) (s t : S) (ps : List Packet)
    → ShowsAll shows limit a s ps b t → ShowsAll shows limit (a ++ more) s ps (b ++ more) t
shows_more shows limit more a b s t [] h = (ap (λ (x : List ℕ). x ++ more) h.0, h.1)
shows_more shows limit more a b s t (p ∷ ps) h = (
  h.0 ++ more,
  h.1,
  (h.2.0, (front_is limit).whole a more h.2.0 h.0 h.2.1, h.2.2),
  h.3,
  shows_more shows limit more h.0 b h.1 t ps h.4,
)

-- bytes that come later are shown behind those that came before
pub shows_then : {S : Type 0} (shows : S → Packet → S → Type 0) (limit later : Option ℕ) (a b c mid new : List ℕ) (s t u : S) (ps qs : List Packet)
    → later ≡ limit → ShowsAll shows limit (a ++ b) s ps mid t → ShowsAll shows later (mid ++ c) t qs new u → ShowsAll shows limit (a ++ (b ++ c)) s (ps ++ qs) new u
shows_then {S} shows limit later a b c mid new s t u ps qs same h k =
    subst (λ (x : List ℕ). ShowsAll shows limit x s (ps ++ qs) new u) (append_assoc a b c)
    (shows_append shows limit ((a ++ b) ++ c) (mid ++ c) new s t u ps qs (shows_more shows limit c (a ++ b) mid s t ps h)
    (subst (λ (l : Option ℕ). ShowsAll shows l (mid ++ c) t qs new u) same k))

-- a packet more is shown
pub shows_one_more : {S : Type 0} (shows : S → Packet → S → Type 0) (limit later : Option ℕ) (a mid new : List ℕ) (s t u : S) (ps : List Packet) (whole : Bool)
    → later ≡ limit → whole ≡ true → ShowsAll shows limit a s ps mid t → ShowsOne shows later (Ok whole) mid t new u
    → (qs : List Packet) × ShowsAll shows limit a s qs new u
shows_one_more {S} shows limit later a mid new s t u ps true same is h k =
    let one : ShowsAll shows later mid t (k.0 ∷ []) new u = (new, u, k.1, k.2, (refl, refl)) in
    (ps ++ k.0 ∷ [], shows_append shows limit a mid new s t u ps (k.0 ∷ []) h (subst (λ (l : Option ℕ). ShowsAll shows l mid t (k.0 ∷ []) new u) same one))
shows_one_more shows limit later a mid new s t u ps false same is h k = absurd (cc is)
