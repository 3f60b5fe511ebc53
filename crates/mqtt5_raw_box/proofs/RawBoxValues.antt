-- This file serves the logic alone: how an `RawBox` lies in the machine, and how a walk takes one apart and makes one.
use Rattle.std.proofs.Common.{◌≡◌, ℕ, List, [], ◌∷◌, ◌++◌, refl, subst}
use mathlib.Core.Bool.{true, ◌&&◌}
use lib.Dec.{T}
use seplogic.Ra.Ura.{Ura}
use mir.Raw.{raw as bare}
use mir.Syntax.{impl, tnil, dnil}
use mir.Val.{Val, vptr, vstruct, vcons, vnil, of_list, has_ty, WT}
use base.Logic.{never, fst∗}
use types.Logic.{Logic, sem}
use types.Kit.{Item, Goal, Seq, Step, step, ‵, ◌$◌, move, drop, fsplit, fjoin, fpick, fpack, feq_i, feq_l}
use denote.Builtin.{RawPtr}
use denote.Memory.{lone}
use denote.Param.{layout}
use denote.Param.Laws.{Laws}
use denote.RattleType.{RattleType, Valss}
use denote.RawPtr.{Ptr, block_ptr, null_ptr, ptr_val, in_a_block}
use denote.Steps.{nothing}
use denote.Struct.Owning.{shape}
use denote.Struct.Struct.{within}
use Rattle.core.specs.declared.alloc.Allocator.{Ghosts}
use Rattle.core.proofs.alloc.Calls.{Al, handle_tells}
use Rattle.core.proofs.cell.Inside.{Good}
use Rattle.std_alloc.specs.Box.Ownership.{box_owns}
use Rattle.std_alloc.proofs.ResultValues.{and_tt}
use Rattle.mqtt5_raw_box.specs.contracts.RawBox as raw_box

-- a pointer beside an allocator's handle
abbrev pub beside : ℕ → ℕ → Val → Val
beside block offset handle = vstruct (vcons (vptr block offset) (vcons handle vnil))

module _ (X A : RattleType) (laws : Laws A) (ghosts : Ghosts A.Denot) where
  abbrev pub Row : RattleType
  Row = raw_box.the_row X A ghosts

  abbrev pub allocator : Al
  allocator = record { row = A; laws = laws; g = ghosts; d = impl [] tnil dnil; drops = impl [] tnil dnil }

  abbrev pub owned : A.Denot → Ptr → X.Denot → base.Fml.Fml
  owned alloc = box_owns (ghosts.dealloc_token alloc) X

  pub beside_fits : (block offset : ℕ) (handle : Val) → Good (layout A) handle → T (has_ty (layout A) handle && true) × WT (beside block offset handle)
  beside_fits block offset handle fits = (and_tt (has_ty (layout A) handle) fits.0, (tt, (fits.1, tt)))

  module _ {M : Type 1} {𝓤 : Ura M} {𝓛 : Logic 𝓤} {K : Type 0} {Γ : List (Item 𝓤)} {G : Goal 𝓤 𝓛.H} where
    -- one by value is a pair of words, the value in its block and the allocator's handle
    pub takes_apart : K → (u : Row.Denot) (words : List Val)
        → ((block offset : ℕ) (handle : Val) → u.pointer ≡ block_ptr block offset → words ≡ beside block offset handle ∷ [] → Good (layout A) handle
        → Seq K 𝓛 (‵ (owned u.alloc (block_ptr block offset) u.value) ∷ ‵ (A.own_val u.alloc (handle ∷ [])) ∷ Γ) G)
        → Seq K 𝓛 (‵ (Row.own_val u words) ∷ Γ) G
    takes_apart t u words continue =
        fsplit t $ fpick t (λ fields. fsplit t $ feq_l t (λ are_words. fsplit t $ feq_l t (λ is_pointer. fsplit t $
        handle_tells allocator t u.alloc fields.1.0 (λ handle is_handle fits.
        -- [the handle; no further field; the value]
        move t (1 ∷ []) $ drop t $ move t (1 ∷ []) $
        in_a_block t u.pointer (λ p. owned u.alloc p u.value) (fst∗ 𝓤 (never 𝓤) (sem 𝓛 (ghosts.dealloc_token u.alloc (bare (lone X.mir)) null_ptr))) (λ block offset at.
        continue block offset handle at
        (subst (λ (p : Ptr). words ≡ vstruct (of_list (ptr_val p ∷ handle ∷ [])) ∷ []) at
        (subst (λ (hs : List Val). words ≡ vstruct (of_list (ptr_val u.pointer ∷ (hs ++ []))) ∷ []) is_handle
        (subst (λ (ps : List Val). words ≡ vstruct (of_list (ps ++ (fields.1.0 ++ []))) ∷ []) is_pointer are_words)))
        fits)))))

    -- and the way back
    pub puts_together : K → (block offset : ℕ) (handle : Val) (alloc : A.Denot) (value : X.Denot)
        → Step K 𝓛 (‵ (Row.own_val (record { pointer = block_ptr block offset; alloc = alloc; value = value }) (beside block offset handle ∷ [])) ∷ Γ) G
        (‵ (owned alloc (block_ptr block offset) value) ∷ ‵ (A.own_val alloc (handle ∷ [])) ∷ Γ) G
    puts_together t block offset handle alloc value = step (λ rest. let word = beside block offset handle in
        nothing t $ move t (2 ∷ 0 ∷ []) $ fjoin t $
        feq_i t (List Val) (vptr block offset ∷ []) _ refl $ fjoin t $ feq_i t (List Val) (word ∷ []) _ refl $ fjoin t $
        fpack t (Valss (RawPtr ∷ A ∷ [])) (within (shape (raw_box.the_type X A ghosts)) (block_ptr block offset, (alloc, tt)) (word ∷ [])) (vptr block offset ∷ [], (handle ∷ [], tt)) $
        fjoin t $ rest)
