-- This file serves the logic alone: `into_box`, statement by statement.
use Rattle.std.proofs.Common.{◌≡◌, List, [], ◌∷◌, ◌++◌, refl, sym, ap, subst}
use mir.Syntax.{a_type, dcons, dnil}
use mir.Val.{Val, vptr}
use mir.MapTy.{inst_fn}
use base.Logic.{SProp, ent, id⊢}
use base.Fml.{ftrue, flft}
use prog.Wp.{WpFn}
use types.Kit.{‵, raw, ◌⊛◌, some, later, at_ret, ◌$◌, ◌∵◌, !, qed, by, move, keep, drop, split, split3, join, fsplit, fjoin, pick, suffices, use1, await, rewrite, feq_i}
use types.Run.{stop, fld, of_opd, no_more, and_then, first, blocks, exec, returns, enter}
use types.ByLocal.{alloc_all, pass_all, free_all, look_at, get, get_in, sets, lands_last, env}
use types.Part.{sub, whole}
use contract.Monad.{fact}
use contract.BorrowLft.{◌⊑◌}
use contract.Running.{tables}
use denote.Exit.{no}
use denote.RattleType.{RattleType, owns}
use denote.Signature.{types_at, plain}
use denote.RawPtr.{block_ptr}
use denote.Steps.{nothing, only}
use denote.Param.{param, layout, bounded}
use denote.Param.Laws.{param_laws}
use denote.Triple.Clauses.{Lasts, lasts}
use denote.Triple.Spec.{triple_of}
use denote.Triple.Call.{calls_at_last}
use denote.Triple.Walked.{Stays, stay_dropped, walk_of}
use Rattle.core.proofs.alloc.Calls.{Goes-blank}
use Rattle.core.proofs.alloc.Shapes.{after}
use Rattle.core.proofs.atomic.Steps.{fm}
use Rattle.core.proofs.cell.Inside.{Good}
use Rattle.std_alloc.proofs.BoxSteps.Form as box
use Rattle.std_alloc.proofs.BoxSteps.Steps.{box_out, box_in}
use Rattle.std.proofs.raw_atomic.Walks.{proved_at, leaves}
use Rattle.mqtt5_raw_box.proofs.RawBoxValues.{Row, beside, beside_fits, takes_apart}
use Rattle.std_alloc.specs.contracts.boxed.Box.from_raw as from_raw
use Rattle.std_alloc.proofs.boxed.Box.from_raw.Met.{met}
use Rattle.mqtt5_raw_box.specs.contracts.RawBox.into_box as into_box
use Rattle.mqtt5_raw_box.proofs.RawBox.into_box.Statement.{statement}
use Rattle.mqtt5_raw_box.proofs.RawBox.into_box.Code as code

pub into_box_spec : {M : Type 1} → statement M
into_box_spec 𝓤 𝓛 𝓜 𝓡 wired T A T-laws A-laws ghosts A-methods T-drop A-drop allocator T-dropped A-dropped =
    let 𝓣 = tables 𝓤 𝓛.H 𝓜 𝓡 𝓡.env in
    let X : RattleType = param 0 T in let Z : RattleType = param 1 A in let Z-laws = param_laws 1 A A-laws in
    let arguments = bounded (a_type ∷ a_type ∷ []) (T, (A, tt)) (dcons A-methods (dcons T-drop (dcons A-drop dnil))) in
    let function = inst_fn arguments code.function in
    let ends = into_box.ended T A ghosts A-methods T-drop A-drop in
    let clauses = into_box.clauses T A ghosts A-methods T-drop A-drop 𝓛 𝓜.mem 𝓡.returns in
    let the_box : box.Bx = record { row = T; laws = T-laws; al = record { row = A; laws = A-laws; g = ghosts; d = A-methods; drops = A-drop } } in
    let Box : RattleType = box.B the_box in
    let self = plain (λ _. Row X Z Z-laws ghosts) in
    let stays : Stays ends.signature.params ends.kept = (stay_dropped self no, tt) in
    proved_at 𝓛 ends stays clauses 𝓜 𝓡 (Goes-blank 𝓛 2 self no (λ κs u words. tt), tt)
    (into_box.Key.name arguments) function (code.unfolded 𝓤 𝓛.H 𝓜 𝓡 wired (T, (A, tt)) A-methods T-drop A-drop) (λ y are.
    let κs = y.0.0 in let qs = y.0.1 in let u = y.0.3.0 in let alloc = u.alloc in
    let Post : Val → SProp 𝓤 = (walk_of 𝓛 ends stays clauses).post y in
    let Run : List Val → SProp 𝓤 = λ words. WpFn 𝓤 𝓛.H 𝓣.C 𝓣.Λ function words Post in
    let tokens = ‵ (flft κs.0 qs.0) ⊛ ‵ (flft κs.1.0 qs.1.0) ⊛ ‵ ftrue in
    qed 𝓛 ((tokens ⊛ ‵ (owns (types_at ends.signature.params κs) y.0.3 y.0.4)) ∷ raw ((clauses κs y.0.3).requires y.1) ∷ []) ∵
    split ! $ move ! (1 ∷ []) $ fsplit ! $ takes_apart X Z Z-laws ghosts ! u y.0.4.0 (λ block offset handle at is_word fits.
    let word = beside block offset handle in let word_fits = beside_fits X Z Z-laws ghosts block offset handle fits in
    let Call = triple_of 𝓛 (from_raw.signature T A ghosts A-methods A-drop) (from_raw.spec T A ghosts A-methods A-drop 𝓛 𝓜.mem 𝓡.returns) in
    let call : Call.Ghost = ((κs, qs, tt, (alloc, (block_ptr block offset, tt)), (handle ∷ [], (vptr block offset ∷ [], tt))), u.value) in
    -- [the value in its block; the handle; no further parameter; the tokens; the lifetimes' facts]
    move ! (4 ∷ []) $ use1 𝓛 (raw (fact 𝓤 (κs.0 ⊑ T.lives)) ⊛ raw (fact 𝓤 (κs.1.0 ⊑ A.lives)) ⊛ ‵ ftrue) (id⊢ 𝓤 _) $ split3 ! $
    move ! (2 ∷ []) $ drop ! $ move ! (1 ∷ 2 ∷ []) $ join ! $ move ! (1 ∷ 0 ∷ []) $ join ! $
    move ! (2 ∷ []) $ feq_i ! (List Val) (vptr block offset ∷ []) _ refl $ fjoin ! $ move ! (2 ∷ 0 ∷ []) $ fjoin ! $ move ! (2 ∷ 0 ∷ []) $ join ! $ join ! $
    use1 𝓛 (raw (Call.pre call)) (id⊢ 𝓤 _) $
    suffices ! (Run (word ∷ [])) (subst (λ (words : List Val). ent 𝓤 (Run (word ∷ [])) (Run words)) (sym (λ i. is_word i ++ [])) (id⊢ 𝓤 (Run (word ∷ [])))) $
    enter ! 𝓣.C 𝓣.Λ function (word ∷ []) Post $ alloc_all ! (λ locals. pass_all ! refl (word_fits, tt) $
    sets ! (of_opd ! (get_in ! (fld ! refl (stop !)) (sub ! 0 refl (whole !)))) refl (tt, tt) $
    sets ! (of_opd ! (get_in ! (fld ! refl (stop !)) (sub ! 1 refl (whole !)))) refl fits $
    first ! $ blocks ! $ sets ! (of_opd ! (get ! refl)) refl fits $
    calls_at_last ! (fm 𝓛 𝓜 𝓡) Call (met 𝓤 𝓛 𝓜 𝓡 (code.calls-std_alloc::boxed::Box::from_raw 𝓡.env wired) T A T-laws A-laws ghosts A-methods A-drop allocator A-dropped) call
    (and_then ! (get ! refl) (and_then ! (get ! refl) (no_more !))) (λ made.
    use1 𝓛 (later (some (λ (b : Box.Denot). (tokens ⊛ ‵ (Box.own_val b (made ∷ []))) ⊛
    some (λ (ls : Lasts (from_raw.ended T A ghosts A-methods A-drop) κs call.0.3). ‵ (lasts (from_raw.ended T A ghosts A-methods A-drop) κs call.0.3 ls) ⊛
    (raw (fact 𝓤 (b.value ≡ u.value)) ⊛ raw (fact 𝓤 (b.alloc ≡ alloc))))))) (id⊢ 𝓤 _) $
    await ! tt $ pick ! (λ b. split ! $ move ! (1 ∷ []) $ pick ! (λ _. split3 ! $ drop ! $ move ! (2 ∷ []) $ split ! $ move ! (1 ∷ []) $
    -- [the box; the tokens; its value; its allocator]
    box_out the_box ! b (made ∷ []) (λ block' offset' handle' at' is_made fits'.
    box_in the_box ! b block' offset' b.value at' refl $ rewrite ! 0 (λ (words : List Val). ‵ (Box.own_val b words)) (sym is_made) refl $
    let made_fits : Good (layout Box) made = subst (Good (layout Box)) (sym (ap only is_made)) (beside_fits X Z Z-laws ghosts block' offset' handle' fits') in
    lands_last ! refl made_fits $ exec ! 𝓣.C 𝓣.Λ (env function.locals locals) (after 3 function.body) (at_ret _ Post) $
    sets ! (of_opd ! (get ! refl)) refl made_fits $ nothing ! $ nothing ! $ fjoin ! $
    returns ! (look_at ! 0 refl) $ free_all ! refl $ keep ! (2 ∷ 0 ∷ 1 ∷ 3 ∷ []) $
    by ! (leaves 𝓛 ends stays clauses y made b ((tt, (tt, tt)), tt) (tt, tt)))))))))
