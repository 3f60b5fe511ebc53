use Rattle.std.proofs.Common.{◌≡◌, [], length}
use Rattle.mqtt5_session.specs.Session.{Session}
use Rattle.mqtt5_router.proofs.kept.forget.Given as goal

abbrev pub invariant-loop-sender : goal.invariant-loop-sender
invariant-loop-sender l = record l.sender { events = [] } ≡ record l.initial.sender { events = [] }

abbrev pub decreases-loop-sender : goal.decreases-loop-sender
decreases-loop-sender l = length l.sender.events
