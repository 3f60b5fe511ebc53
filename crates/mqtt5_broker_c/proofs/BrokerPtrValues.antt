-- This file serves the logic alone: how a `BrokerPtr` lies in the machine, and how a walk takes one apart and makes one.
use Rattle.std.proofs.Common.{◌≡◌, List, [], ◌∷◌, ◌++◌, refl, subst}
use lib.Dec.{T}
use mathlib.Core.Bool.{Bool, not}
use seplogic.Ra.Ura.{Ura}
use mir.Val.{Val, vstruct, vcons, vnil, of_list}
use types.Logic.{Logic}
use types.Kit.{Item, Goal, Seq, Step, step, ‵, ◌$◌, drop, fsplit, fjoin, fpick, fpack, feq_i, feq_l}
use denote.Builtin.{RawPtr}
use denote.RattleType.{RattleType, Valss}
use denote.RawPtr.{Ptr, ptr_val}
use denote.Steps.{nothing}
use denote.Struct.Owning.{shape}
use denote.Struct.Struct.{within}
use Rattle.std.specs.Prelude.{Option, Some, None, is_some, true}
use Rattle.mqtt5_broker_c.specs.Owned.{owned_if_some}
use Rattle.mqtt5_broker_c.specs.contracts.broker_ptr.BrokerPtr as broker_ptr
use Rattle.mqtt5_broker.specs.contracts.broker.Broker as broker

abbrev pub Value : Type 0
Value = broker.the_row.Denot

abbrev pub Row : RattleType
Row = broker_ptr.the_row

-- a struct of one pointer
abbrev pub word : Ptr → Val
word pointer = vstruct (vcons (ptr_val pointer) vnil)

module _ {M : Type 1} {𝓤 : Ura M} {𝓛 : Logic 𝓤} {K : Type 0} {Γ : List (Item 𝓤)} {G : Goal 𝓤 𝓛.H} where
  pub takes_apart : K → (s : Row.Denot) (words : List Val)
      → (words ≡ word s.pointer ∷ [] → Seq K 𝓛 (‵ (owned_if_some s.pointer s.value) ∷ Γ) G)
      → Seq K 𝓛 (‵ (Row.own_val s words) ∷ Γ) G
  takes_apart t s words continue =
      fsplit t $ fpick t (λ fields. fsplit t $ feq_l t (λ are_words. fsplit t $ feq_l t (λ is_pointer.
      drop t $ continue (subst (λ (ps : List Val). words ≡ vstruct (of_list (ps ++ [])) ∷ []) is_pointer are_words))))

  pub puts_together : K → (pointer : Ptr) (value : Option Value)
      → Step K 𝓛 (‵ (Row.own_val (record { pointer = pointer; value = value }) (word pointer ∷ [])) ∷ Γ) G (‵ (owned_if_some pointer value) ∷ Γ) G
  puts_together t pointer value = step (λ rest.
      nothing t $ feq_i t (List Val) (ptr_val pointer ∷ []) _ refl $ fjoin t $ feq_i t (List Val) (word pointer ∷ []) _ refl $ fjoin t $
      fpack t (Valss (RawPtr ∷ [])) (within (shape broker_ptr.the_type) (pointer, tt) (word pointer ∷ [])) (ptr_val pointer ∷ [], tt) $ fjoin t $ rest)

-- the value of an option that has one
pub value_of : {X : Type 0} → (m : Option X) → is_some m ≡ true → (x : X) × (m ≡ Some x)
value_of None none = absurd (subst (λ (b : Bool). T (not b)) none tt)
value_of (Some x) some = (x, refl)
