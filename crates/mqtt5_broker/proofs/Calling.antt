-- What any calls make of a broker.
use Rattle.std.proofs.Common.{ℕ, List, [], ◌∷◌, ◌++◌, refl, sym, ap, ◌∙◌}
use Rattle.mqtt5_sessions.specs.Runs.{after_events}
use Rattle.mqtt5_broker.specs.Connection.{Connection, opened, of_user, connection_at}
use Rattle.mqtt5_broker.specs.Broker.{Broker, at_moment, on_connection}
use Rattle.mqtt5_broker.specs.Reasons.{refusal}
use Rattle.mqtt5_broker.specs.Serving.{turns_away}
use Rattle.mqtt5_broker.specs.Receiving.{opens}
use Rattle.mqtt5_broker.specs.Asking.{is_new}
use Rattle.mqtt5_broker.specs.Acts.{events_in}
use Rattle.mqtt5_broker.specs.Standing.{IsStanding}
use Rattle.mqtt5_broker.specs.Calls.{Call, Open, Hold, Identify, Reject, Receive, Sent, Pass, Close, Tick, SetBounds, Trim, ShutDown, AddUser, AllowPublish, AllowSubscribe, after_call, after_calls}
use Rattle.mqtt5_broker.proofs.Turned.{events_append}
use Rattle.mqtt5_broker.proofs.Acting.{Done, receives_done, passes_done, ticks_done, trims_at_done, shuts_down_done}
use Rattle.mqtt5_broker.proofs.Made.{Made, done_made}
use Rattle.mqtt5_broker.proofs.Sending.{Lost, lost_if, all_events, closes_lost}
use Rattle.mqtt5_broker.proofs.Asked.{holds_standing, identifies_standing, rejects_standing}
use Rattle.mqtt5_broker.proofs.Standing.{opens_standing, receives_standing, passes_standing, sent_standing, closes_standing, ticks_standing, trims_at_standing, shuts_down_standing}

-- ---- the sessions

of_acts : (b c : Broker) → Done b c → Lost b c
of_acts b c d = let m : Made b c = done_made b c d in (events_in m.0, ap (λ (x : Broker). x.sessions) m.1 ∙ all_events m.0 b)

opens_lost : (at c : ℕ) (b : Broker) → Lost b (opens at c b)
opens_lost at c b =
    let d : Broker = at_moment at b in
    lost_if (connection_at c d.connections).is_open b d (on_connection c (λ (l : Connection). opened d.wait d.moment) d) ([], refl) ([], refl)

one_call : (c : Call) (b : Broker) → Lost b (after_call c b)
one_call (Open at c) b = opens_lost at c b
one_call (Hold c bytes) b = ([], refl)
one_call (Identify c u) b = lost_if (is_new (connection_at c b.connections)) b (on_connection c (of_user u) b) b ([], refl) ([], refl)
one_call (Reject c code) b = lost_if (is_new (connection_at c b.connections)) b (turns_away c (refusal code) b) b ([], refl) ([], refl)
one_call (Receive at c bytes) b = of_acts b (after_call (Receive at c bytes) b) (receives_done at c bytes b)
one_call (Sent c count) b = ([], refl)
one_call (Pass at c) b = of_acts b (after_call (Pass at c) b) (passes_done at c b)
one_call (Close at c) b = closes_lost at c b
one_call (Tick at) b = of_acts b (after_call (Tick at) b) (ticks_done at b)
one_call (SetBounds bounds) b = ([], refl)
one_call (Trim at) b = of_acts b (after_call (Trim at) b) (trims_at_done at b)
one_call (ShutDown at) b = of_acts b (after_call (ShutDown at) b) (shuts_down_done at b)
one_call AddUser b = ([], refl)
one_call (AllowPublish u f) b = ([], refl)
one_call (AllowSubscribe u f) b = ([], refl)

then_more : (b c d : Broker) → Lost b c → Lost c d → Lost b d
then_more b c d h k = (h.0 ++ k.0, k.1 ∙ ap (after_events k.0) h.1 ∙ sym (events_append h.0 k.0 b.sessions))

pub all_calls : (cs : List Call) (b : Broker) → Lost b (after_calls cs b)
all_calls [] b = ([], refl)
all_calls (c ∷ cs) b = then_more b (after_call c b) (after_calls cs (after_call c b)) (one_call c b) (all_calls cs (after_call c b))

-- ---- the connections

pub one_stands : (c : Call) (b : Broker) → IsStanding b → IsStanding (after_call c b)
one_stands (Open at c) b s = opens_standing at c b s
one_stands (Hold c bytes) b s = holds_standing c bytes b s
one_stands (Identify c u) b s = identifies_standing c u b s
one_stands (Reject c code) b s = rejects_standing c code b s
one_stands (Receive at c bytes) b s = receives_standing at c bytes b s
one_stands (Sent c count) b s = sent_standing c count b s
one_stands (Pass at c) b s = passes_standing at c b s
one_stands (Close at c) b s = closes_standing at c b s
one_stands (Tick at) b s = ticks_standing at b s
one_stands (SetBounds bounds) b s = s
one_stands (Trim at) b s = trims_at_standing at b s
one_stands (ShutDown at) b s = shuts_down_standing at b s
one_stands AddUser b s = s
one_stands (AllowPublish u f) b s = s
one_stands (AllowSubscribe u f) b s = s

pub all_stand : (cs : List Call) (b : Broker) → IsStanding b → IsStanding (after_calls cs b)
all_stand [] b s = s
all_stand (c ∷ cs) b s = all_stand cs (after_call c b) (one_stands c b s)
