-- This file serves the logic alone: `of`, statement by statement.
use Rattle.std.proofs.Common.{◌≡◌, List, [], ◌∷◌, ◌++◌, refl, sym, subst}
use mir.Val.{Val}
use base.Logic.{SProp, ent, emp, id⊢}
use prog.Wp.{WpFn}
use types.Kit.{‵, raw, ◌⊛◌, ◌$◌, ◌∵◌, !, qed, by, move, keep, split, fsplit, fjoin, suffices, use0}
use types.Run.{stop, fld, of_opd, no_more, and_then, returns, enter}
use types.ByLocal.{alloc_all, pass_all, free_all, look_at, get, get_in, sets}
use types.Part.{agg, sub, whole}
use contract.Monad.{fact, fact_i}
use contract.Running.{tables}
use denote.Exit.{yes}
use denote.RattleType.{owns}
use denote.Signature.{types_at, plain}
use denote.RawPtr.{block_ptr}
use denote.Steps.{nothing}
use denote.Triple.Entry.{alive}
use denote.Triple.Walked.{Stays, stay_dropped, walk_of, Goes-dropped}
use Rattle.std.specs.Prelude.{Some}
use Rattle.std.proofs.raw_atomic.Walks.{proved_at, leaves}
use Rattle.std_heap.specs.contracts.Global as global
use Rattle.std_heap.specs.contracts.GlobalAllocator.TheImpl.{ghosts}
use Rattle.std_heap.proofs.Global.TheLaws as global_laws
use Rattle.mqtt5_raw_box.proofs.RawBoxValues as raw_box
use Rattle.mqtt5_broker.specs.contracts.broker.Broker as broker
use Rattle.mqtt5_broker_c.proofs.BrokerPtrValues.{word, puts_together}
use Rattle.mqtt5_broker_c.specs.contracts.broker_ptr.BrokerPtr.of as of
use Rattle.mqtt5_broker_c.proofs.broker_ptr.BrokerPtr.of.Statement.{statement}
use Rattle.mqtt5_broker_c.proofs.broker_ptr.BrokerPtr.of.Code as code

pub of_spec : {M : Type 1} → statement M
of_spec 𝓤 𝓛 𝓜 𝓡 wired =
    let 𝓣 = tables 𝓤 𝓛.H 𝓜 𝓡 𝓡.env in let clauses = of.clauses 𝓛 𝓜.mem 𝓡.returns in
    let X = broker.the_row in let A = global.the_row in let laws = global_laws.the_row_laws in
    let given = plain (λ _. raw_box.Row X A laws ghosts) in
    let stays : Stays of.ended.signature.params of.ended.kept = (stay_dropped given yes, tt) in
    proved_at 𝓛 of.ended stays clauses 𝓜 𝓡 (Goes-dropped 𝓛 0 given yes (λ κs u words. refl), tt)
    of.Key.name code.function (code.unfolded 𝓤 𝓛.H 𝓜 𝓡 wired) (λ y are.
    let κs = y.0.0 in let u = y.0.3.0 in
    let Post : Val → SProp 𝓤 = (walk_of 𝓛 of.ended stays clauses).post y in
    let Run : List Val → SProp 𝓤 = λ words. WpFn 𝓤 𝓛.H 𝓣.C 𝓣.Λ code.function words Post in
    qed 𝓛 ((raw (alive 𝓛 of.ended.signature κs y.0.1) ⊛ ‵ (owns (types_at of.ended.signature.params κs) y.0.3 y.0.4)) ∷ raw ((clauses κs y.0.3).requires y.1) ∷ []) ∵
    split ! $ move ! (1 ∷ []) $ fsplit ! $ raw_box.takes_apart X A laws ghosts ! u y.0.4.0 (λ block offset handle at is_word fits.
    let given_word = raw_box.beside block offset handle in
    -- [the value in its block; the handle; no further parameter; the tokens; the requires]
    suffices ! (Run (given_word ∷ [])) (subst (λ (words : List Val). ent 𝓤 (Run (given_word ∷ [])) (Run words)) (sym (λ i. is_word i ++ [])) (id⊢ 𝓤 (Run (given_word ∷ [])))) $
    enter ! 𝓣.C 𝓣.Λ code.function (given_word ∷ []) Post $ alloc_all ! (λ locals. pass_all ! refl (raw_box.beside_fits X A laws ghosts block offset handle fits, tt) $
    sets ! (of_opd ! (get_in ! (fld ! refl (stop !)) (sub ! 0 refl (whole !)))) refl (tt, tt) $
    sets ! (of_opd ! (get ! refl)) refl (tt, tt) $
    sets ! (agg ! (and_then ! (get ! refl) (no_more !))) refl (tt, (tt, tt)) $
    puts_together ! (block_ptr block offset) (Some u.value) $
    use0 𝓛 (raw (fact 𝓤 (Some u.value ≡ Some u.value))) (fact_i 𝓤 (Some u.value ≡ Some u.value) (emp 𝓤) refl) $ nothing ! $ nothing ! $ fjoin ! $
    returns ! (look_at ! 0 refl) $ free_all ! refl $ keep ! (5 ∷ 0 ∷ 2 ∷ 1 ∷ []) $
    by ! (leaves 𝓛 of.ended stays clauses y (word (block_ptr block offset)) (record { pointer = block_ptr block offset; value = Some u.value }) _ (tt, tt)))))
