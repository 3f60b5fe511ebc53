use Rattle.std.proofs.Common.{refl, inl}
use Rattle.std.proofs.lemmas.Result.{on_ok_weaker, IfErr-weaker}
use Rattle.mqtt5_drive.proofs.Ways.{passes_here}
use Rattle.mqtt5_drive.proofs.run.take_piece.Goals as goal

pub returns-in_default-clause-err : goal.returns-in_default-clause-err
returns-in_default-clause-err c = inl (refl, passes_here _ _ _)

pub returns-clause-ok : goal.returns-clause-ok
returns-clause-ok c = on_ok_weaker c.take_input.result (λ h. h _ _ c.in-Ok.ensures.ok c.requires) c.take_input.ensures.ok

pub returns-clause-err : goal.returns-clause-err
returns-clause-err c = IfErr-weaker c.take_input.result _ _ (λ e h. h _ _ c.in-Ok.ensures.ok c.requires) c.take_input.ensures.err
