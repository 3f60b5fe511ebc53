use Rattle.std.proofs.Common.{rules}
use Rattle.std.proofs.lemmas.Fn.{filter_same}
use Rattle.broker_core.proofs.filters.forget.Goals as goal

pub returns-then-had-clause-filters : goal.returns-then-had-clause-filters
returns-then-had-clause-filters c = filter_same _ _ _ (λ x b f' k. search rules) _ _ c.retain.ensures.filtered

pub returns-else-had-clause-filters : goal.returns-else-had-clause-filters
returns-else-had-clause-filters c = filter_same _ _ _ (λ x b f' k. search rules) _ _ c.retain.ensures.filtered
