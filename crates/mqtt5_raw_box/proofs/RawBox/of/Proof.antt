-- This file serves the logic alone: `of`, statement by statement.
use Rattle.std.proofs.Common.{◌≡◌, List, [], ◌∷◌, ◌++◌, refl, sym, ap, ◌∙◌, subst}
use mir.Syntax.{a_type, dcons, dnil}
use mir.Raw.{raw as bare}
use mir.Val.{Val, vstruct, of_list}
use mir.MapTy.{inst_fn}
use base.Logic.{SProp, ent, emp, never, id⊢, fst∗}
use base.Fml.{ftrue, fsep, flft}
use prog.Wp.{WpFn}
use types.Logic.{sem}
use types.Kit.{‵, raw, ◌⊛◌, some, later, ◌$◌, ◌∵◌, !, qed, by, move, keep, drop, split, split3, join, fsplit, fjoin, fpick, pick, suffices, use0, use1, await, rewrite, feq_l}
use types.Run.{stop, fld, of_opd, no_more, and_then, returns, enter}
use types.ByLocal.{alloc_all, pass_all, free_all, look_at, get, get_in, sets, lands_as}
use types.Part.{agg, sub, whole}
use contract.Monad.{fact, fact_i}
use contract.Running.{tables}
use denote.Exit.{no}
use denote.RattleType.{RattleType, owns}
use denote.Signature.{types_at, plain}
use denote.Builtin.{RawPtr}
use denote.RawPtr.{Ptr, block_ptr, null_ptr, ptr_val, in_a_block}
use denote.Steps.{nothing, only, heard}
use denote.Param.{param, layout, bounded}
use denote.Param.Laws.{param_laws}
use denote.Struct.Tuple.{Tuple}
use denote.Triple.Spec.{triple_of}
use denote.Triple.Call.{calls_at}
use denote.Triple.Walked.{Stays, stay_dropped, walk_of}
use Rattle.core.proofs.alloc.Calls.{Goes-blank, handle_tells}
use Rattle.core.proofs.atomic.Steps.{fm}
use Rattle.std_alloc.proofs.BoxSteps.Form as box
use Rattle.std_alloc.proofs.BoxSteps.Steps.{box_out, box_in}
use Rattle.std.proofs.raw_atomic.Walks.{proved_at, leaves}
use Rattle.mqtt5_raw_box.proofs.RawBoxValues.{beside, beside_fits, owned, puts_together}
use Rattle.std_alloc.specs.contracts.boxed.Box.into_raw_with_allocator as into_raw
use Rattle.std_alloc.proofs.boxed.Box.into_raw_with_allocator.Met.{met}
use Rattle.mqtt5_raw_box.specs.contracts.RawBox.of as of
use Rattle.mqtt5_raw_box.proofs.RawBox.of.Statement.{statement}
use Rattle.mqtt5_raw_box.proofs.RawBox.of.Code as code

pub of_spec : {M : Type 1} → statement M
of_spec 𝓤 𝓛 𝓜 𝓡 wired T A T-laws A-laws ghosts A-methods T-drop A-drop allocator T-dropped A-dropped =
    let 𝓣 = tables 𝓤 𝓛.H 𝓜 𝓡 𝓡.env in
    let X : RattleType = param 0 T in let Z : RattleType = param 1 A in let Z-laws = param_laws 1 A A-laws in
    let arguments = bounded (a_type ∷ a_type ∷ []) (T, (A, tt)) (dcons A-methods (dcons T-drop (dcons A-drop dnil))) in
    let function = inst_fn arguments code.function in
    let ends = of.ended T A ghosts A-methods T-drop A-drop in
    let clauses = of.clauses T A ghosts A-methods T-drop A-drop 𝓛 𝓜.mem 𝓡.returns in
    let the_box : box.Bx = record { row = T; laws = T-laws; al = record { row = A; laws = A-laws; g = ghosts; d = A-methods; drops = A-drop } } in
    let given = plain (λ _. box.B the_box) in
    let stays : Stays ends.signature.params ends.kept = (stay_dropped given no, tt) in
    proved_at 𝓛 ends stays clauses 𝓜 𝓡 (Goes-blank 𝓛 2 given no (λ κs b words. tt), tt)
    (of.Key.name arguments) function (code.unfolded 𝓤 𝓛.H 𝓜 𝓡 wired (T, (A, tt)) A-methods T-drop A-drop) (λ y are.
    let κs = y.0.0 in let qs = y.0.1 in let b = y.0.3.0 in let alloc = b.alloc in
    let Post : Val → SProp 𝓤 = (walk_of 𝓛 ends stays clauses).post y in
    let Run : List Val → SProp 𝓤 = λ words. WpFn 𝓤 𝓛.H 𝓣.C 𝓣.Λ function words Post in
    let tokens = ‵ (flft κs.0 qs.0) ⊛ ‵ (flft κs.1.0 qs.1.0) ⊛ ‵ ftrue in
    qed 𝓛 ((tokens ⊛ ‵ (owns (types_at ends.signature.params κs) y.0.3 y.0.4)) ∷ raw ((clauses κs y.0.3).requires y.1) ∷ []) ∵
    split ! $ move ! (1 ∷ []) $ fsplit ! $ box_out the_box ! b y.0.4.0 (λ block offset handle at is_word fits. box_in the_box ! b block offset b.value at refl $
    let word = beside block offset handle in let word_fits = beside_fits X Z Z-laws ghosts block offset handle fits in
    let Call = triple_of 𝓛 (into_raw.signature T A ghosts A-methods A-drop T-drop) (into_raw.spec T A ghosts A-methods A-drop T-drop 𝓛 𝓜.mem 𝓡.returns) in
    let call : Call.Ghost = ((κs, qs, tt, (b, tt), (word ∷ [], tt)), tt) in
    let Pair = Tuple (RawPtr ∷ Z ∷ []) in
    -- [the box; no further parameter; the tokens; the lifetimes' facts]
    fjoin ! $ move ! (1 ∷ 0 ∷ []) $ join ! $ join ! $ use1 𝓛 (raw (Call.pre call)) (id⊢ 𝓤 _) $
    suffices ! (Run (word ∷ [])) (subst (λ (words : List Val). ent 𝓤 (Run (word ∷ [])) (Run words)) (sym (λ i. is_word i ++ [])) (id⊢ 𝓤 (Run (word ∷ [])))) $
    enter ! 𝓣.C 𝓣.Λ function (word ∷ []) Post $ alloc_all ! (λ locals. pass_all ! refl (word_fits, tt) $
    sets ! (of_opd ! (get ! refl)) refl word_fits $
    calls_at ! (fm 𝓛 𝓜 𝓡) Call (met 𝓤 𝓛 𝓜 𝓡 (code.calls-std_alloc::boxed::Box::into_raw_with_allocator 𝓡.env wired) T A T-laws A-laws ghosts A-methods A-drop T-drop allocator A-dropped T-dropped) call
    (and_then ! (get ! refl) (no_more !)) (λ made.
    use1 𝓛 (later (some (λ (r : Ptr × A.Denot). (tokens ⊛ ‵ (Pair.own_val r (made ∷ []))) ⊛
    some (λ (_ : (Unit {0} × (Unit {0} × Unit {0})) × Unit {0}). ‵ (fsep (fsep ftrue (fsep ftrue ftrue)) ftrue) ⊛
    (raw (fact 𝓤 (r.1 ≡ alloc)) ⊛ ‵ (owned X Z Z-laws ghosts alloc r.0 b.value)))))) (id⊢ 𝓤 _) $
    await ! tt $ pick ! (λ r. split ! $ move ! (1 ∷ []) $ pick ! (λ _. split3 ! $ drop ! $ heard ! (r.1 ≡ alloc) (λ same.
    -- [the value; the tokens with the pair]
    in_a_block ! r.0 (λ p. owned X Z Z-laws ghosts alloc p b.value) (fst∗ 𝓤 (never 𝓤) (sem 𝓛 (ghosts.dealloc_token alloc (bare (layout T)) null_ptr))) (λ block' offset' at'.
    move ! (1 ∷ []) $ split ! $ move ! (1 ∷ []) $ fpick ! (λ fields. fsplit ! $ feq_l ! (λ is_made. fsplit ! $ feq_l ! (λ is_pointer. fsplit ! $
    rewrite ! 0 (λ (a : A.Denot). ‵ (A.own_val a fields.1.0)) same refl $ handle_tells the_box.al ! alloc fields.1.0 (λ handle' is_handle fits'.
    let made_fits = beside_fits X Z Z-laws ghosts block' offset' handle' fits' in
    lands_as ! (ap only (is_made ∙ (λ j. vstruct (of_list ((is_pointer ∙ ap (λ (p : Ptr). ptr_val p ∷ []) at') j ++ (is_handle j ++ []))) ∷ []))) refl made_fits $
    sets ! (of_opd ! (get_in ! (fld ! refl (stop !)) (sub ! 0 refl (whole !)))) refl (tt, tt) $
    sets ! (of_opd ! (get_in ! (fld ! refl (stop !)) (sub ! 1 refl (whole !)))) refl fits' $
    sets ! (of_opd ! (get ! refl)) refl fits' $
    sets ! (agg ! (and_then ! (get ! refl) (and_then ! (get ! refl) (no_more !)))) refl made_fits $
    -- [the handle; no further field; the tokens; the value]
    move ! (3 ∷ 0 ∷ []) $ puts_together X Z Z-laws ghosts ! block' offset' handle' alloc b.value $
    use0 𝓛 (raw (fact 𝓤 (b.value ≡ b.value))) (fact_i 𝓤 (b.value ≡ b.value) (emp 𝓤) refl) $ nothing ! $ nothing ! $ fjoin ! $
    returns ! (look_at ! 0 refl) $ free_all ! refl $ keep ! (4 ∷ 0 ∷ 2 ∷ 1 ∷ []) $
    by ! (leaves 𝓛 ends stays clauses y (beside block' offset' handle') (record { pointer = block_ptr block' offset'; alloc = alloc; value = b.value }) ((tt, (tt, tt)), tt) (tt, tt))))))))))))))
