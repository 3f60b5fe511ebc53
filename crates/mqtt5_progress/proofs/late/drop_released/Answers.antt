use Rattle.std.proofs.Common.{rules}
use Rattle.std.proofs.lemmas.Fn.{filter_same}
use Rattle.mqtt5_progress.proofs.late.drop_released.Goals as goal

pub returns : goal.returns
returns c = filter_same _ _ _ (λ p b f k. search rules) _ _ c.retain.ensures.filtered
