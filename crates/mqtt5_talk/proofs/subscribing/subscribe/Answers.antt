use Rattle.std.proofs.Common.{[], inl, refl}
use Rattle.mqtt5_talk.proofs.Talking.{nothing_told}
use Rattle.mqtt5_talk.proofs.subscribing.subscribe.Goals as goal

pub returns-in-Err-clause-told : goal.returns-in-Err-clause-told
returns-in-Err-clause-told g c = ([], nothing_told _ _, inl refl, tt)
