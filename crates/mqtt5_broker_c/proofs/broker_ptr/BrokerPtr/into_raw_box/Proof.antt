-- This file serves the logic alone: `into_raw_box`, statement by statement.
use Rattle.std.proofs.Common.{◌≡◌, List, [], ◌∷◌, ◌++◌, refl, sym, subst}
use mir.Val.{Val}
use mir.Raw.{raw as bare}
use base.Logic.{SProp, ent, emp, id⊢, never, fst∗}
use prog.Wp.{WpFn}
use types.Logic.{sem}
use types.Kit.{‵, raw, ◌⊛◌, ◌$◌, ◌∵◌, !, qed, by, move, keep, split, fsplit3, fjoin, suffices, use0, rewrite}
use types.Run.{stop, fld, of_opd, no_more, and_then, returns, enter}
use types.ByLocal.{alloc_all, pass_all, free_all, look_at, get, get_in, sets}
use types.Part.{agg, sub, whole}
use contract.Monad.{fact, fact_i}
use contract.Running.{tables}
use denote.Exit.{yes}
use denote.RattleType.{owns}
use denote.Signature.{types_at, plain}
use denote.RawPtr.{Ptr, block_ptr, null_ptr, in_a_block}
use denote.Param.{layout}
use denote.Steps.{nothing, heard}
use denote.Triple.Entry.{alive}
use denote.Triple.Walked.{Stays, stay_dropped, walk_of, Goes-dropped}
use Rattle.core.proofs.alloc.Calls.{handle_tells}
use Rattle.std.specs.Prelude.{Option, Some, is_some, true}
use Rattle.std.proofs.raw_atomic.Walks.{proved_at, leaves}
use Rattle.std_heap.specs.contracts.Global as global
use Rattle.std_heap.specs.contracts.GlobalAllocator.TheImpl.{ghosts}
use Rattle.std_heap.proofs.Global.TheLaws as global_laws
use Rattle.mqtt5_raw_box.proofs.RawBoxValues as raw_box
use Rattle.mqtt5_broker.specs.contracts.broker.Broker as broker
use Rattle.mqtt5_broker_c.specs.Owned.{in_heap, owned_if_some}
use Rattle.mqtt5_broker_c.proofs.BrokerPtrValues.{Value, Row, word, takes_apart, value_of}
use Rattle.mqtt5_broker_c.specs.contracts.broker_ptr.BrokerPtr.into_raw_box as into_raw_box
use Rattle.mqtt5_broker_c.proofs.broker_ptr.BrokerPtr.into_raw_box.Statement.{statement}
use Rattle.mqtt5_broker_c.proofs.broker_ptr.BrokerPtr.into_raw_box.Code as code

pub into_raw_box_spec : {M : Type 1} → statement M
into_raw_box_spec 𝓤 𝓛 𝓜 𝓡 wired =
    let 𝓣 = tables 𝓤 𝓛.H 𝓜 𝓡 𝓡.env in let ends = into_raw_box.ended in let clauses = into_raw_box.clauses 𝓛 𝓜.mem 𝓡.returns in
    let X = broker.the_row in let A = global.the_row in let laws = global_laws.the_row_laws in
    let stays : Stays ends.signature.params ends.kept = (stay_dropped (plain (λ _. Row)) yes, (stay_dropped (plain (λ _. A)) yes, tt)) in
    proved_at 𝓛 ends stays clauses 𝓜 𝓡 (Goes-dropped 𝓛 0 (plain (λ _. Row)) yes (λ κs s words. refl), (Goes-dropped 𝓛 0 (plain (λ _. A)) yes (λ κs a words. refl), tt))
    into_raw_box.Key.name code.function (code.unfolded 𝓤 𝓛.H 𝓜 𝓡 wired) (λ y are.
    let κs = y.0.0 in let s = y.0.3.0 in let alloc = y.0.3.1.0 in
    let Post : Val → SProp 𝓤 = (walk_of 𝓛 ends stays clauses).post y in
    let Run : List Val → SProp 𝓤 = λ words. WpFn 𝓤 𝓛.H 𝓣.C 𝓣.Λ code.function words Post in
    let Full : Type 0 = is_some s.value ≡ true in
    qed 𝓛 ((raw (alive 𝓛 ends.signature κs y.0.1) ⊛ ‵ (owns (types_at ends.signature.params κs) y.0.3 y.0.4)) ∷ raw (fact 𝓤 Full) ∷ []) ∵
    move ! (1 ∷ []) $ heard ! Full (λ full. let value = value_of s.value full in
    split ! $ move ! (1 ∷ []) $ fsplit3 ! $ takes_apart ! s y.0.4.0 (λ is_word.
    rewrite ! 0 (λ (m : Option Value). ‵ (owned_if_some s.pointer m)) value.1 refl $
    -- [the value in its block; the allocator; no further parameter; the tokens]
    in_a_block ! s.pointer (λ p. in_heap p value.0) (fst∗ 𝓤 (never 𝓤) (sem 𝓛 (ghosts.dealloc_token alloc (bare (layout X)) null_ptr))) (λ block offset at.
    move ! (1 ∷ []) $ handle_tells (raw_box.allocator X A laws ghosts) ! alloc y.0.4.1.0 (λ handle is_handle fits. move ! (1 ∷ []) $
    let given_word = word (block_ptr block offset) in let are_words = subst (λ (p : Ptr). y.0.4.0 ≡ word p ∷ []) at is_word in
    suffices ! (Run (given_word ∷ handle ∷ [])) (subst (λ (words : List Val). ent 𝓤 (Run (given_word ∷ handle ∷ [])) (Run words)) (sym (λ i. are_words i ++ (is_handle i ++ []))) (id⊢ 𝓤 (Run (given_word ∷ handle ∷ [])))) $
    enter ! 𝓣.C 𝓣.Λ code.function (given_word ∷ handle ∷ []) Post $ alloc_all ! (λ locals. pass_all ! refl ((tt, (tt, tt)), (fits, tt)) $
    sets ! (of_opd ! (get_in ! (fld ! refl (stop !)) (sub ! 0 refl (whole !)))) refl (tt, tt) $
    sets ! (of_opd ! (get ! refl)) refl (tt, tt) $
    sets ! (agg ! (and_then ! (get ! refl) (and_then ! (get ! refl) (no_more !)))) refl (raw_box.beside_fits X A laws ghosts block offset handle fits) $
    raw_box.puts_together X A laws ghosts ! block offset handle alloc value.0 $
    use0 𝓛 (raw (fact 𝓤 (s.value ≡ Some value.0))) (fact_i 𝓤 (s.value ≡ Some value.0) (emp 𝓤) value.1) $ nothing ! $ nothing ! $ fjoin ! $ nothing ! $ fjoin ! $
    returns ! (look_at ! 0 refl) $ free_all ! refl $ keep ! (4 ∷ 0 ∷ 2 ∷ 1 ∷ []) $
    by ! (leaves 𝓛 ends stays clauses y (raw_box.beside block offset handle) (record { pointer = block_ptr block offset; alloc = alloc; value = value.0 }) _ (tt, (tt, tt)))))))))
