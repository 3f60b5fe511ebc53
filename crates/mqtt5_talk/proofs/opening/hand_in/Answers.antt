use Rattle.std.proofs.Common.{inl, inr}
use Rattle.mqtt5_talk.proofs.Talking.{requested}
use Rattle.mqtt5_talk.proofs.opening.hand_in.Goals as goal

pub returns-in-Ok-clause-said : goal.returns-in-Ok-clause-said
returns-in-Ok-clause-said c = requested _ _ _ (inl c.in-Ok.ensures.ok, c.request.ensures.kept.0, c.request.ensures.kept.1)

pub returns-in-Err-clause-said : goal.returns-in-Err-clause-said
returns-in-Err-clause-said c = requested _ _ _ (inr (_, c.in-Err.ensures.err, c.in-Err.ensures.unsent, c.in-Err.ensures.over), c.request.ensures.kept.0, c.request.ensures.kept.1)
