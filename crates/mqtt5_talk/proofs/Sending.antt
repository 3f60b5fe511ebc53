-- What was published.
use Rattle.std.proofs.Common.{◌≡◌, Bool, List, [], ◌∷◌, ◌++◌, ℕ, refl, sym, ap, subst, ◌∙◌, append_assoc, append-nil}
use Rattle.std.specs.Prelude.{Option, Some}
use Rattle.mqtt5_publish.specs.declared.publish.Publish.{Publish}
use Rattle.mqtt5_client.specs.declared.client.Client.{Client}
use Rattle.mqtt5_talk.specs.declared.capabilities.Capabilities.{Capabilities}
use Rattle.mqtt5_talk.specs.Conversation.{Saying, SendsOnly, Talked}
use Rattle.mqtt5_talk.specs.Published.{asks_of, asks_of_all, GivesAll}
use Rattle.mqtt5_talk.proofs.Talking.{then_talked, as_talked}

pub asks_append : (c : Capabilities) (ps qs : List Publish) → asks_of_all c (ps ++ qs) ≡ asks_of_all c ps ++ asks_of_all c qs
asks_append c [] qs = refl
asks_append c (p ∷ ps) qs = ap (λ (s : List Saying). asks_of c p ++ s) (asks_append c ps qs) ∙ sym (append_assoc (asks_of c p) (asks_of_all c ps) (asks_of_all c qs))

-- one message more
pub asks_more : (c : Capabilities) (ps : List Publish) (p : Publish) → asks_of_all c ps ++ asks_of c p ≡ asks_of_all c (ps ++ p ∷ [])
asks_more c ps p = ap (λ (s : List Saying). asks_of_all c ps ++ s) (sym (append-nil (asks_of c p))) ∙ sym (asks_append c ps (p ∷ []))

pub gives_append : {S : Type 0} (gives : S → Option Publish → S → Type 0) (s t u : S) (ps qs : List Publish) → GivesAll gives s ps t → GivesAll gives t qs u → GivesAll gives s (ps ++ qs) u
gives_append gives s t u [] qs h k = rw (sym h) k
gives_append gives s t u (p ∷ ps) qs h k = (h.0, h.1, gives_append gives h.0 t u ps qs h.2 k)

pub gives_more : {S : Type 0} (gives : S → Option Publish → S → Type 0) (s t u : S) (ps : List Publish) (p : Publish) → GivesAll gives s ps t → gives t (Some p) u → GivesAll gives s (ps ++ p ∷ []) u
gives_more gives s t u ps p h k = gives_append gives s t u ps (p ∷ []) h (u, k, refl)

module _ {k : Bool} (a b : Option (List ℕ)) (x y z : Option (List ℕ)) (p q r : Client) (c : Capabilities) (ps : List Publish) (m : Publish) where
  pub more_asked : Talked k a b x y p (asks_of_all c ps) q → SendsOnly y z q (asks_of c m) r → Talked k a b x z p (asks_of_all c (ps ++ m ∷ [])) r
  more_asked t u = subst (λ (said : List Saying). Talked k a b x z p said r) (asks_more c ps m) (then_talked a b b x y z p q r (asks_of_all c ps) (asks_of c m) t (as_talked b y z q r (asks_of c m) u))
