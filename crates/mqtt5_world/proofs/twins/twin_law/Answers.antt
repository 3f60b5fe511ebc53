use Rattle.mqtt5_session.specs.Session.{fresh}
use Rattle.mqtt5_world.specs.Twins.{after_calls}
use Rattle.mqtt5_world.proofs.Alike.{sound_after, within, over, core_kept, same_replies}
use Rattle.mqtt5_world.proofs.twins.twin_law.Goals as goal

pub returns-clause-within : goal.returns-clause-within
returns-clause-within c = λ limit at manual calls. within (after_calls calls (fresh limit manual)) at (sound_after calls limit manual)

pub returns-clause-over : goal.returns-clause-over
returns-clause-over c = λ limit at alias manual calls others. over (after_calls calls (fresh limit manual)) at alias others (sound_after calls limit manual)

pub returns-clause-core : goal.returns-clause-core
returns-clause-core c = λ limit at manual calls. core_kept (after_calls calls (fresh limit manual)) at (sound_after calls limit manual)

pub returns-clause-alike : goal.returns-clause-alike
returns-clause-alike c = same_replies
