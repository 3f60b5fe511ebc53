-- This file serves the logic alone: `none`, statement by statement.
use Rattle.std.proofs.Common.{◌≡◌, [], ◌∷◌, refl, lit<}
use mir.Val.{Val}
use base.Logic.{SProp, emp}
use base.Fml.{ftrue}
use types.Kit.{‵, raw, ◌⊛◌, ◌$◌, ◌∵◌, !, qed, by, keep, split, use0}
use types.Run.{lit, no_more, and_then, returns, enter}
use types.ByLocal.{alloc_all, pass_all, free_all, look_at, sets}
use types.Part.{agg}
use contract.Monad.{fact, fact_i}
use contract.Running.{tables}
use denote.RawPtr.{null_ptr}
use denote.Steps.{nothing}
use denote.Triple.Entry.{alive}
use denote.Triple.Walked.{walk_of}
use Rattle.std.specs.Prelude.{Option, None}
use Rattle.std.proofs.raw_atomic.Walks.{proved_at, leaves}
use Rattle.mqtt5_broker_c.proofs.BrokerPtrValues.{Value, word, puts_together}
use Rattle.mqtt5_broker_c.specs.contracts.broker_ptr.BrokerPtr.none as none
use Rattle.mqtt5_broker_c.proofs.broker_ptr.BrokerPtr.none.Statement.{statement}
use Rattle.mqtt5_broker_c.proofs.broker_ptr.BrokerPtr.none.Code as code

pub none_spec : {M : Type 1} → statement M
none_spec 𝓤 𝓛 𝓜 𝓡 wired =
    let 𝓣 = tables 𝓤 𝓛.H 𝓜 𝓡 𝓡.env in let clauses = none.clauses 𝓛 𝓜.mem 𝓡.returns in
    proved_at 𝓛 none.ended tt clauses 𝓜 𝓡 tt none.Key.name code.function (code.unfolded 𝓤 𝓛.H 𝓜 𝓡 wired) (λ y are.
    let κs = y.0.0 in let absent : Option Value = None in
    let Post : Val → SProp 𝓤 = (walk_of 𝓛 none.ended tt clauses).post y in
    qed 𝓛 ((raw (alive 𝓛 none.ended.signature κs y.0.1) ⊛ ‵ ftrue) ∷ raw ((clauses κs y.0.3).requires y.1) ∷ []) ∵
    split ! $ keep ! (0 ∷ []) $ enter ! 𝓣.C 𝓣.Λ code.function [] Post $ alloc_all ! (λ locals. pass_all ! refl tt $
    sets ! (agg ! (and_then ! (lit ! tt) (no_more !))) refl (tt, (record { fits = lit< tt }, tt)) $
    nothing ! $ puts_together ! null_ptr None $
    use0 𝓛 (raw (fact 𝓤 (absent ≡ None))) (fact_i 𝓤 (absent ≡ None) (emp 𝓤) refl) $ nothing ! $
    returns ! (look_at ! 0 refl) $ free_all ! refl $ keep ! (3 ∷ 0 ∷ 2 ∷ 1 ∷ []) $
    by ! (leaves 𝓛 none.ended tt clauses y (word null_ptr) (record { pointer = null_ptr; value = None }) tt tt)))
