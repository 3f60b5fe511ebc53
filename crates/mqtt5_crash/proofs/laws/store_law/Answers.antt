use Rattle.mqtt5_session.specs.Session.{fresh}
use Rattle.mqtt5_world.specs.Twins.{after_calls}
use Rattle.mqtt5_world.proofs.Alike.{sound_after}
use Rattle.mqtt5_crash.proofs.Loading.{loaded_replies, resumed_replies, resumed_sent}
use Rattle.mqtt5_crash.proofs.laws.store_law.Goals as goal

pub returns-clause-loaded : goal.returns-clause-loaded
returns-clause-loaded c = λ limit at manual before later tidy first. loaded_replies (after_calls before (fresh limit manual)) at later (sound_after before limit manual) tidy first

pub returns-clause-resumed : goal.returns-clause-resumed
returns-clause-resumed c = λ limit at manual ack before later tidy first. resumed_replies (after_calls before (fresh limit manual)) at ack later (sound_after before limit manual) tidy first

pub returns-clause-resent : goal.returns-clause-resent
returns-clause-resent c = λ limit at manual ack before tidy. resumed_sent (after_calls before (fresh limit manual)) at ack (sound_after before limit manual) tidy
