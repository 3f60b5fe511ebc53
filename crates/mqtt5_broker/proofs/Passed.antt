-- Whether a session sends a packet, and for whom nothing is passed on.
use Rattle.std.proofs.Common.{◌≡◌, ℕ, true, false, ◌||◌, List, Option, Some, None, is_some, refl, ap, ◌∙◌}
use Rattle.std.specs.Option.{option_to_list}
use Rattle.mqtt5_codec.specs.declared.packet.Packet.{Packet}
use Rattle.mqtt5_sessions.specs.Sessions.{is_here}
use Rattle.mqtt5_sessions.specs.Waiting.{waits_at}
use Rattle.mqtt5_sessions.proofs.Noted.{passed_none, expiry_none}
use Rattle.mqtt5_broker.specs.Broker.{Broker}
use Rattle.mqtt5_broker.specs.Connection.{connection_at}
use Rattle.mqtt5_broker.specs.Expiry.{is_over}
use Rattle.mqtt5_broker.specs.Serving.{has_any, has_passed, has_passed_of}

any_of : (r : Option Packet) → is_some r ≡ has_any (option_to_list r)
any_of None = refl
any_of (Some p) = refl

pub some_of : (r : Option Packet) (ps : List Packet) → option_to_list r ≡ ps → is_some r ≡ has_any ps
some_of r ps e = any_of r ∙ ap has_any e

pub none_passed : (c i : ℕ) (b : Broker) → (connection_at c b.connections).client ≡ Some i → is_here i b.sessions ≡ true → waits_at i b.sessions.clients ≡ false → has_passed c b ≡ false
none_passed c i b is here none =
    ap (λ client. has_passed_of client b) is
    ∙ (λ j. is_over b.moment (expiry_none i b.sessions.clients here none j) || has_any (passed_none i b.sessions.clients none j))
