-- How far the groups of shared subscriptions are worked through, and what a topic leaves as it is.
use Rattle.std.proofs.Common.{◌≡◌, ℕ, Bool, true, false, ◌||◌, List, [], ◌∷◌, ◌++◌, drop, not, ◌==◌, cond, refl, sym, ap, ◌∙◌}
use Rattle.std.specs.Prelude.{filter}
use Rattle.std.specs.List.{list_any}
use Rattle.mqtt5_subscribe.specs.declared.filter.Filter.{Filter}
use Rattle.mqtt5_codec.specs.declared.packet.Packet.{Packet}
use Rattle.mqtt5_sessions.specs.Sessions.{Sessions}
use Rattle.mqtt5_broker.specs.Groups.{Group, without_member, turns_of, named_in, left_in, rotated, turns_first, gives_all, meets, turns_met, rotates, rotated_for, turned_for, joins_all}
use Rattle.mqtt5_broker.proofs.Sharing.{true_false}

-- the turns that are given, from the nth group on
abbrev pub GivenAll : List Group → ℕ → Sessions → Sessions → Type 0
GivenAll gs n before now = gives_all (drop n gs) now ≡ gives_all gs before

abbrev pub TurnedMet : Bool → List ℕ → List Group → ℕ → Sessions → Sessions → Type 0
TurnedMet on t gs n before now = turns_met on t (drop n gs) now ≡ turns_met on t gs before

-- those of the groups in which a client was, and of one the first but that client
abbrev pub GivenLeft : ℕ → List Group → ℕ → Sessions → Sessions → Type 0
GivenLeft i gs n before now = gives_all (left_in i (drop n gs)) now ≡ gives_all (left_in i gs) before

abbrev pub GivenFirst : ℕ → Group → ℕ → Sessions → Sessions → Type 0
GivenFirst i g n before now =
    (now ≡ before) × (turns_of (filter (λ m. not (m == i)) (drop n g.members)) g.topic_filter true now ≡ turns_first true (without_member i g) before)

-- the groups that a packet names, before the nth
abbrev pub NamedIn : Packet → List Group → ℕ → List Group → Type 0
NamedIn x gs n named = named ++ named_in x (drop n gs) ≡ named_in x gs

-- the filters that are taken in, from the nth on
abbrev pub JoinedAll : ℕ → List Filter → ℕ → List Group → List Group → Type 0
JoinedAll i fs n before now = joins_all i (drop n fs) now ≡ joins_all i fs before

-- ---- a topic that no group's filter matches

module _ (t : List ℕ) where
  unmet_turned : (on : Bool) (gs : List Group) (s : Sessions) → list_any (meets t) gs ≡ false → turns_met on t gs s ≡ s
  unmet_turned on [] s e = refl
  unmet_turned on (g ∷ gs) s e = by (meets t g) refl (λ k. unmet_turned on gs s k)
    where
      by : (v : Bool) → meets t g ≡ v → (list_any (meets t) gs ≡ false → turns_met on t gs s ≡ s) → turns_met on t gs (cond v (turns_first on g s) s) ≡ s
      by true h rest = absurd (true_false (sym (ap (λ v. v || list_any (meets t) gs) h) ∙ e))
      by false h rest = rest (sym (ap (λ v. v || list_any (meets t) gs) h) ∙ e)

  unmet_rotated : (s : Sessions) (gs : List Group) → list_any (meets t) gs ≡ false → rotates t s gs ≡ gs
  unmet_rotated s [] e = refl
  unmet_rotated s (g ∷ gs) e = by (meets t g) refl (λ k. unmet_rotated s gs k)
    where
      by : (v : Bool) → meets t g ≡ v → (list_any (meets t) gs ≡ false → rotates t s gs ≡ gs) → cond v (rotated s g) g ∷ rotates t s gs ≡ g ∷ gs
      by true h rest = absurd (true_false (sym (ap (λ v. v || list_any (meets t) gs) h) ∙ e))
      by false h rest = ap (λ hs. g ∷ hs) (rest (sym (ap (λ v. v || list_any (meets t) gs) h) ∙ e))

  pub unmet_groups : (gs : List Group) (s : Sessions) → list_any (meets t) gs ≡ false → rotated_for t gs s ≡ gs
  unmet_groups gs s e = unmet_rotated (turns_met false t gs s) gs e

  pub unmet_sessions : (gs : List Group) (s : Sessions) → list_any (meets t) gs ≡ false → turned_for t gs s ≡ s
  unmet_sessions gs s e =
      ap (λ hs. turns_met true t hs (turns_met false t gs s)) (unmet_groups gs s e)
      ∙ unmet_turned true gs (turns_met false t gs s) e
      ∙ unmet_turned false gs s e
