-- What a broker makes of bytes is a list of acts.
use Rattle.std.proofs.Common.{◌≡◌, ℕ, List, [], ◌∷◌, ◌++◌, refl, sym, ap, ◌∙◌}
use Rattle.mqtt5_codec.specs.declared.packet.Packet.{Packet}
use Rattle.mqtt5_sessions.specs.Sessions.{Sessions, arrives, ends}
use Rattle.mqtt5_sessions.specs.Runs.{SessionEvent, Arrives, Ends, after_events}
use Rattle.mqtt5_broker.specs.Groups.{Group, groups_before, sessions_before, groups_after, sessions_after, groups_without, sessions_without}
use Rattle.mqtt5_broker.specs.Broker.{Broker}
use Rattle.mqtt5_broker.specs.Serving.{answers, comes_to_session}
use Rattle.mqtt5_broker.specs.Acts.{Act, Session, Regroup, act, acts}
use Rattle.mqtt5_broker.proofs.Steps.{Step, Do, Comes, Leaves, leaves, step, steps}
use Rattle.mqtt5_broker.proofs.Acting.{Done}
use Rattle.mqtt5_broker.proofs.Turned.{Makes, makes_turn, before_kept, after_kept, without_kept}

acts_append : (ds bs : List Act) (b : Broker) → acts (ds ++ bs) b ≡ acts bs (acts ds b)
acts_append [] bs b = refl
acts_append (a ∷ ds) bs b = acts_append ds bs (act a b)

-- after some acts it is this
abbrev pub Made : Broker → Broker → Type 0
Made b c = (ds : List Act) × (c ≡ acts ds b)

made_one : (a : Act) (b : Broker) → Made b (act a b)
made_one a b = (a ∷ [], refl)

made_more : (b c d : Broker) → Made b c → Made c d → Made b d
made_more b c d m k = (m.0 ++ k.0, k.1 ∙ ap (acts k.0) m.1 ∙ sym (acts_append m.0 k.0 b))

made_as : (b c d : Broker) → d ≡ c → Made b c → Made b d
made_as b c d e m = (m.0, e ∙ m.1)

-- events of its sessions
events_made : (es : List SessionEvent) (b : Broker) → Made b (record b { sessions = after_events es b.sessions })
events_made [] b = ([], refl)
events_made (e ∷ es) b = made_more b (act (Session e) b) _ (made_one (Session e) b) (events_made es (act (Session e) b))

makes_made : (b : Broker) (t : Sessions) → Makes b.sessions t → Made b (record b { sessions = t })
makes_made b t m = made_as b _ _ (ap (λ (s : Sessions). record b { sessions = s }) m.1) (events_made m.0 b)

-- turns that are given and taken, and others who take part
grouped_made : (b : Broker) (t : Sessions) (gs : List Group) → Makes b.sessions t → Made b (record b { sessions = t; groups = gs })
grouped_made b t gs m = made_more b (record b { sessions = t }) _ (makes_made b t m) (made_one (Regroup gs) (record b { sessions = t }))

leaves_made : (i : ℕ) (b : Broker) → Made b (leaves i b)
leaves_made i b =
    let s : Sessions = ends i b.sessions in
    let ended : Broker = record b { sessions = s } in
    made_more b ended _ (made_one (Session (Ends i)) b)
    (grouped_made ended (sessions_without i b.groups s) (groups_without i b.groups) (without_kept (Makes s) (makes_turn s) i b.groups s ([], refl)))

comes_made : (i : ℕ) (x : Packet) (b : Broker) → Made b (comes_to_session i x b)
comes_made i x b =
    let s : Sessions = sessions_before x b.groups b.sessions in
    let turned_first : Broker = record b { sessions = s } in
    let t : Sessions = arrives i x s in
    let came : Broker = record b { sessions = t } in
    made_more b came _
    (made_more b turned_first came (makes_made b s (before_kept (Makes b.sessions) (makes_turn b.sessions) x b.groups b.sessions ([], refl))) (made_one (Session (Arrives i x)) turned_first))
    (grouped_made came (sessions_after (answers i x b) i x (groups_before x b.groups b.sessions) t) (groups_after (answers i x b) i x (groups_before x b.groups b.sessions)) (after_kept (Makes t) (makes_turn t) (answers i x b) i x (groups_before x b.groups b.sessions) t ([], refl)))

step_made : (d : Step) (b : Broker) → Made b (step d b)
step_made (Do a h) b = made_one a b
step_made (Comes i x) b = comes_made i x b
step_made (Leaves i) b = leaves_made i b

steps_made : (ds : List Step) (b : Broker) → Made b (steps ds b)
steps_made [] b = ([], refl)
steps_made (d ∷ ds) b = made_more b (step d b) _ (step_made d b) (steps_made ds (step d b))

pub done_made : (b c : Broker) → Done b c → Made b c
done_made b c m = made_as b _ _ m.1 (steps_made m.0 b)
