-- What a broker makes of bytes is a list of steps.
use Rattle.std.proofs.Common.{◌&&◌, ◌≡◌, ℕ, zero, suc, Bool, true, false, List, [], ◌∷◌, ◌++◌, Option, Some, None, refl, sym, ap, ◌∙◌, get_or, set, slice_set, if◌then◌else◌, not, length, ◌==◌, max}
use Rattle.std.specs.Prelude.{option_map, map}
use Rattle.std.specs.Option.{option_to_list}
use Rattle.std.proofs.lemmas.List.{set-get_or}
use Rattle.mqtt5_codec.specs.declared.packet.Packet.{Packet}
use Rattle.mqtt5_codec.specs.declared.packet.Packet.TheVariants as packets
use Rattle.mqtt5_connect.specs.declared.connect.Connect.{Connect}
use Rattle.mqtt5_connect.specs.declared.will.LastWill.{LastWill}
use Rattle.mqtt5_control.specs.declared.connack.ConnectReturnCode.{ConnectReturnCode}
use Rattle.mqtt5_control.specs.declared.connack.ConnectReturnCode.TheVariants as return_codes
use Rattle.mqtt5_control.specs.declared.disconnect.DisconnectReasonCode.{DisconnectReasonCode}
use Rattle.mqtt5_control.specs.declared.disconnect.DisconnectReasonCode.TheVariants as reasons
use Rattle.mqtt5_sessions.specs.Sessions.{replies, passed, ends}
use Rattle.mqtt5_sessions.specs.Runs as runs
use Rattle.mqtt5_sessions.specs.Runs.{Joins, Passes, TakesOut, Loses, IsDue, Dates}
use Rattle.mqtt5_sessions.specs.Expiry.{will_expiry, will_is_delayed}
use Rattle.mqtt5_broker.specs.declared.member.Member.{Member}
use Rattle.mqtt5_broker.specs.declared.serving.Kind.{Kind}
use Rattle.mqtt5_broker.specs.declared.serving.Kind.TheVariants as kinds
use Rattle.mqtt5_broker.specs.Moments.{has_come}
use Rattle.mqtt5_broker.specs.Cut.{Cut, Ending, Holds, Breaks, cut_up}
use Rattle.mqtt5_broker.specs.Connection.{Connection, closed, shut, taken_by, learned_topic, written, written_all, emptied, connection_at, connection_of}
use Rattle.mqtt5_broker.specs.Broker.{Broker, at_moment, on_connection, on_member, away, gone, expiring, undue, member_at, has_ended, will_is_due, forgets, loses_client, leaves_client, publishes_will, stays_at, sessions_dated, refuses, dismisses, dismisses_of, numbers, number_in, free_number, number_of, assigned_name, number_after, user_at, owner_at}
use Rattle.mqtt5_broker.specs.Wills.{will_of}
use Rattle.mqtt5_broker.specs.Rights.{may_do, denial, suback_for, part_of}
use Rattle.mqtt5_broker.specs.Groups.{sessions_before, groups_without, sessions_without}
use Rattle.mqtt5_sessions.specs.Shedding.{surplus_of, taken_out}
use Rattle.mqtt5_sessions.specs.Counts.{counts}
use Rattle.mqtt5_broker.specs.Reasons.{farewell}
use Rattle.mqtt5_broker.specs.Serving.{kind_of, comes_to_session, arrives_from, denies, brings, goes, disconnects, serves_as, serves_by, fault_of, serves, rejects_by, receive_max_of, longest_of, silence_of, member_of, welcome, comes_in, displaced, displaces, starts_anew, begins, enters, turns_away, enters_if_room, assigns_by, assigns, is_its, admits_as, admits, entry_fault, connects_by, connects, begins_with, takes_under, takes_by, takes_of, takes, first_is_over, passes_of, passes_on, passes_at}
use Rattle.mqtt5_broker.specs.Aliases.{alias_used, unaliased, named}
use Rattle.mqtt5_broker.specs.Expiry.{begun, dated, counted}
use Rattle.mqtt5_broker.specs.Receiving.{takes_all, reason_for, ends_with, comes_of, receives_now, receives}
use Rattle.mqtt5_broker.specs.Bounds.{has_room, exceeds, ends_of, ends_over, dropped_after, sheds_of, trims, trims_all, trims_at}
use Rattle.mqtt5_broker.specs.Clock.{for_each, silences, silences_all, expires, ticks, ends_now, shuts_down}
use Rattle.mqtt5_broker.specs.Acts.{Act, Session, Know, Name, Moment, Count, Hear, Write, Shut, Welcome, Learn, Hold, Empty, act}
use Rattle.mqtt5_broker.proofs.Steps.{IsPlain, Step, Do, Comes, Leaves, step, steps}

-- ---- lists of steps

steps_append : (ds bs : List Step) (b : Broker) → steps (ds ++ bs) b ≡ steps bs (steps ds b)
steps_append [] bs b = refl
steps_append (d ∷ ds) bs b = steps_append ds bs (step d b)

-- after some steps it is this
abbrev pub Done : Broker → Broker → Type 0
Done b c = (ds : List Step) × (c ≡ steps ds b)

done_none : (b : Broker) → Done b b
done_none b = ([], refl)

done_one : (a : Act) → IsPlain a → (b : Broker) → Done b (act a b)
done_one a h b = (Do a h ∷ [], refl)

done_more : (b c d : Broker) → Done b c → Done c d → Done b d
done_more b c d m k = (m.0 ++ k.0, k.1 ∙ ap (steps k.0) m.1 ∙ sym (steps_append m.0 k.0 b))

done_as : (b c d : Broker) → d ≡ c → Done b c → Done b d
done_as b c d e m = (m.0, e ∙ m.1)

done_if : (v : Bool) (b x y : Broker) → Done b x → Done b y → Done b (if v then x else y)
done_if true b x y m k = m
done_if false b x y m k = k

-- ---- connections

set_after : (f g : Connection → Connection) (d : ℕ) (ls : List Connection) → set ls d (g (f (get_or ls d closed))) ≡ set (set ls d (f (get_or ls d closed))) d (g (get_or (set ls d (f (get_or ls d closed))) d closed))
set_after f g d [] = refl
set_after f g zero (x ∷ xs) = refl
set_after f g (suc d) (x ∷ xs) = ap (λ (ys : List Connection). x ∷ ys) (set_after f g d xs)

-- two changes of one
on_after : (d : ℕ) (f g : Connection → Connection) (b : Broker) → on_connection d (λ (l : Connection). g (f l)) b ≡ on_connection d g (on_connection d f b)
on_after d f g b = ap (λ (ls : List Connection). record b { connections = ls }) (set_after f g d b.connections)

on_none : (d : ℕ) (b : Broker) → on_connection d (λ (l : Connection). l) b ≡ b
on_none d b = ap (λ (ls : List Connection). record b { connections = ls }) (set-get_or b.connections d closed)

all_done : (ps : List Packet) (d : ℕ) (b : Broker) → Done b (on_connection d (written_all ps) b)
all_done [] d b = ([], on_none d b)
all_done (p ∷ ps) d b = done_as b _ _ (on_after d (written p) (written_all ps) b) (done_more b _ _ (done_one (Write d p) tt b) (all_done ps d (on_connection d (written p) b)))

shut_done : (p : Packet) (d : ℕ) (b : Broker) → Done b (on_connection d (λ (l : Connection). shut (written p l)) b)
shut_done p d b = done_as b _ _ (on_after d (written p) shut b) (Do (Write d p) tt ∷ Do (Shut d) tt ∷ [], refl)

-- ---- ends

-- the lifetime of a will begins, of any, or of one without a delay
abbrev begins_will : Bool → ℕ → Broker → Act
begins_will any i b = Session (Dates i (option_map (begun (not any && will_is_delayed i b.sessions) b.moment) (will_expiry i b.sessions)))

ended_done : (i : ℕ) (ms : List (Option Member)) (b : Broker) → Done b (record b { sessions = sessions_without i b.groups (ends i (sessions_dated true i b)); members = ms; groups = groups_without i b.groups })
ended_done i ms b = (Do (begins_will true i b) tt ∷ Leaves i ∷ Do (Know ms) tt ∷ [], refl)

forgets_done : (i : ℕ) (b : Broker) → Done b (forgets i b)
unfolding forgets
forgets_done i b = ended_done i (slice_set b.members i None) b

pub loses_done : (i : ℕ) (b : Broker) → Done b (loses_client i b)
unfolding loses_client
loses_done i b = done_if (stays_at i b.members) b _ _ (Do (begins_will false i b) tt ∷ Do (Session (Loses i)) tt ∷ Do (Know (on_member i (away b.moment) b.members)) tt ∷ [], refl) (forgets_done i b)

leaves_done : (i : ℕ) (b : Broker) → Done b (leaves_client i b)
unfolding leaves_client
leaves_done i b =
    let left : Broker = act (Session (runs.Leaves i)) b in
    done_more b left _ (done_one (Session (runs.Leaves i)) tt b) (done_if (stays_at i b.members) left _ _ (done_one (Know (on_member i (gone b.moment) b.members)) tt left) (forgets_done i left))

refuses_done : (d i : ℕ) (reason : DisconnectReasonCode) (b : Broker) → Done b (refuses d i reason b)
unfolding refuses
refuses_done d i reason b = done_more b (loses_client i b) _ (loses_done i b) (shut_done (farewell (connection_at d (loses_client i b).connections).longest reason) d (loses_client i b))

publishes_done : (i : ℕ) (b : Broker) → Done b (publishes_will i b)
unfolding publishes_will
publishes_done i b = (Do (begins_will true i b) tt ∷ Do (Session (IsDue i)) tt ∷ Do (Know (on_member i undue b.members)) tt ∷ [], refl)

dismisses_of_done : (o : Option ℕ) (d : ℕ) (reason : DisconnectReasonCode) (b : Broker) → Done b (dismisses_of o d reason b)
dismisses_of_done None d reason b = done_one (Shut d) tt b
dismisses_of_done (Some i) d reason b = refuses_done d i reason b

dismisses_done : (d : ℕ) (reason : DisconnectReasonCode) (b : Broker) → Done b (dismisses d reason b)
unfolding dismisses
dismisses_done d reason b = done_if (connection_at d b.connections).is_open b _ _ (dismisses_of_done (connection_at d b.connections).client d reason b) (done_none b)

-- ---- a client that is connected

comes_session_done : (i : ℕ) (x : Packet) (b : Broker) → Done b (comes_to_session i x b)
comes_session_done i x b = (Comes i x ∷ [], refl)

arrives_done : (d i : ℕ) (x : Packet) (b : Broker) → Done b (arrives_from d i x b)
unfolding arrives_from
arrives_done d i x b = done_more b (comes_to_session i x b) _ (comes_session_done i x b) (all_done (map (counted b.moment) (replies i x (sessions_before x b.groups b.sessions))) d (comes_to_session i x b))

denies_done : (user : Option ℕ) (d i : ℕ) (x : Packet) (b : Broker) → Done b (denies user d i x b)
unfolding denies
denies_done user d i (packets.Publish p) b = all_done (option_to_list (denial p.qos p.pkid)) d b
denies_done user d i (packets.Subscribe p) b =
    let x : Packet = packets.Subscribe (part_of user b.rights p) in
    done_more b (comes_to_session i x b) _ (comes_session_done i x b) (done_one (Write d (suback_for user b.rights p)) tt (comes_to_session i x b))
denies_done user d i other b = done_none b

brings_done : (d i : ℕ) (x : Packet) (b : Broker) → Done b (brings d i x b)
unfolding brings
brings_done d i x b = done_if (may_do (owner_at i b.members) b.rights x) b _ _ (arrives_done d i x b) (denies_done (owner_at i b.members) d i x b)

goes_done : (reason : DisconnectReasonCode) (i : ℕ) (b : Broker) → Done b (goes reason i b)
goes_done reasons.NormalDisconnection i b = leaves_done i b
goes_done other i b = loses_done i b

disconnects_done : (d i : ℕ) (reason : DisconnectReasonCode) (expiry : Option ℕ) (b : Broker) → Done b (disconnects d i reason expiry b)
unfolding disconnects
disconnects_done d i reason expiry b =
    let known : Broker = act (Know (on_member i (expiring expiry) b.members)) b in
    done_more b (goes reason i known) _ (done_more b known _ (done_one (Know (on_member i (expiring expiry) b.members)) tt b) (goes_done reason i known)) (done_one (Shut d) tt (goes reason i known))

as_done : (kind : Kind) (d i : ℕ) (x : Packet) (b : Broker) → Done b (serves_as kind d i x b)
as_done kinds.Ping d i x b = done_one (Write d (packets.PingResp (record {}))) tt b
as_done (kinds.Goodbye reason expiry) d i x b = disconnects_done d i reason expiry b
as_done kinds.Message d i x b = brings_done d i x b

by_done : (fault : Option DisconnectReasonCode) (d i : ℕ) (x : Packet) (b : Broker) → Done b (serves_by fault d i x b)
by_done (Some reason) d i x b = refuses_done d i reason b
by_done None d i x b = as_done (kind_of x) d i x b

serves_done : (d i : ℕ) (x : Packet) (b : Broker) → Done b (serves d i x b)
unfolding serves
serves_done d i x b = by_done (fault_of i x b) d i x b

-- ---- a Connect

comes_done : (d i : ℕ) (present given : Bool) (q : Connect) (will : Option LastWill) (b : Broker) → Done b (comes_in d i present given q will b)
unfolding comes_in
comes_done d i present given q will b =
    let e : Act = Session (runs.Comes i (Some (receive_max_of q.properties)) (option_map will_of will)) in
    let w : Act = Welcome d i (longest_of q.properties) (silence_of b.keep_alive_max q) b.moment in
    let ps : List Packet = welcome i present given q b in
    let begun_one : Act = begins_will false i b in
    let came : Broker = act e (act begun_one b) in
    let here : Broker = act w came in
    done_as b _ _ (on_after d (taken_by i (longest_of q.properties) (silence_of b.keep_alive_max q) b.moment) (written_all ps) came) (done_more b here _ (Do begun_one tt ∷ Do e tt ∷ Do w tt ∷ [], refl) (all_done ps d here))

displaced_done : (o : Option ℕ) (b : Broker) → Done b (displaced o b)
displaced_done None b = done_none b
displaced_done (Some d) b = shut_done (farewell (connection_at d b.connections).longest reasons.SessionTakenOver) d b

displaces_done : (i : ℕ) (b : Broker) → Done b (displaces i b)
unfolding displaces
displaces_done i b = displaced_done (connection_of i b.connections) b

begins_by : (v : Bool) (i : ℕ) (ms : List (Option Member)) (b : Broker)
    → Done b (record b { sessions = if v then sessions_without i b.groups (ends i (sessions_dated true i b)) else b.sessions; members = ms; groups = if v then groups_without i b.groups else b.groups })
begins_by true i ms b = ended_done i ms b
begins_by false i ms b = (Do (Know ms) tt ∷ [], refl)

begins_done : (i : ℕ) (anew : Bool) (q : Connect) (will : Option LastWill) (b : Broker) → Done b (begins i anew q will b)
unfolding begins
begins_done i anew q will b = begins_by anew i (slice_set b.members i (Some (member_of (owner_at i b.members) q will))) b

numbers_done : (m : Member) (o : Option ℕ) (b : Broker) → Done b (numbers m o b)
numbers_done m None b = (Do (Session (Joins b.limit)) tt ∷ Do (Know (b.members ++ Some m ∷ [])) tt ∷ [], refl)
numbers_done m (Some i) b = done_one (Know (slice_set b.members i (Some m))) tt b

enters_done : (d : ℕ) (given : Bool) (q : Connect) (will : Option LastWill) (b : Broker) → Done b (enters d given q will b)
unfolding enters
enters_done d given q will b =
    let known : Broker = numbers (member_of (user_at d b) q will) (free_number b.members) b in
    done_more b known _ (numbers_done (member_of (user_at d b) q will) (free_number b.members) b) (comes_done d (number_in (free_number b.members) b) false given q will known)

turns_done : (d : ℕ) (answer : Packet) (b : Broker) → Done b (turns_away d answer b)
turns_done d answer b = shut_done answer d b

room_done : (d : ℕ) (given : Bool) (q : Connect) (will : Option LastWill) (b : Broker) → Done b (enters_if_room d given q will b)
room_done d given q will b = done_if (has_room b) b _ _ (enters_done d given q will b) (turns_done d (rejects_by q return_codes.QuotaExceeded) b)

assigns_by_done : (o : Option ℕ) (d : ℕ) (q : Connect) (will : Option LastWill) (b : Broker) → Done b (assigns_by o d q will b)
assigns_by_done (Some i) d q will b = turns_done d (rejects_by q return_codes.ServerBusy) b
assigns_by_done None d q will b = room_done d true q will b

assigns_done : (d : ℕ) (q : Connect) (will : Option LastWill) (b : Broker) → Done b (assigns d q will b)
unfolding assigns
assigns_done d q will b =
    let named : Broker = act (Name (number_after b.next_name)) b in
    done_more b named _ (done_one (Name (number_after b.next_name)) tt b) (assigns_by_done (number_of (assigned_name b.next_name) b.members) d (record q { client_id = assigned_name b.next_name }) will named)

returns_done : (d i : ℕ) (anew : Bool) (q : Connect) (will : Option LastWill) (b : Broker) → Done b (comes_in d i (not anew) false q will (begins i anew q will (displaces i b)))
returns_done d i anew q will b =
    done_more b (begins i anew q will (displaces i b)) _ (done_more b (displaces i b) _ (displaces_done i b) (begins_done i anew q will (displaces i b)))
    (comes_done d i (not anew) false q will (begins i anew q will (displaces i b)))

admits_as_done : (o : Option ℕ) (d : ℕ) (q : Connect) (will : Option LastWill) (b : Broker) → Done b (admits_as o d q will b)
admits_as_done (Some i) d q will b = done_if (is_its d i b) b _ _ (returns_done d i (starts_anew i q b) q will b) (turns_done d (rejects_by q return_codes.ClientIdentifierNotValid) b)
admits_as_done None d q will b = room_done d false q will b

admits_done : (d : ℕ) (q : Connect) (will : Option LastWill) (b : Broker) → Done b (admits d q will b)
unfolding admits
admits_done d q will b = done_if (length q.client_id.bytes == 0) b _ _ (assigns_done d q will b) (admits_as_done (number_of q.client_id b.members) d q will b)

connects_by_done : (o : Option ConnectReturnCode) (d : ℕ) (q : Connect) (will : Option LastWill) (b : Broker) → Done b (connects_by o d q will b)
connects_by_done (Some code) d q will b = turns_done d (rejects_by q code) b
connects_by_done None d q will b = admits_done d q will b

connects_done : (d : ℕ) (q : Connect) (will : Option LastWill) (b : Broker) → Done b (connects d q will b)
unfolding connects
connects_done d q will b = connects_by_done (entry_fault d q will b) d q will b

-- ---- any packet, and bytes

begins_with_done : (d : ℕ) (x : Packet) (b : Broker) → Done b (begins_with d x b)
begins_with_done d (packets.Connect q will login) b = connects_done d q will b
begins_with_done d other b = done_one (Shut d) tt b

under_done : (a d i : ℕ) (x : Packet) (b : Broker) → Done b (takes_under a d i x b)
under_done a d i (packets.Publish p) b =
    let told : Broker = act (Learn d a p.topic) b in
    done_if (length p.topic == 0) b _ _ (serves_done d i (packets.Publish (named (learned_topic a (connection_at d b.connections)) p)) b)
    (done_more b told _ (done_one (Learn d a p.topic) tt b) (serves_done d i (packets.Publish (unaliased p)) told))
under_done a d i other b = serves_done d i other b

alias_done : (o : Option ℕ) (d i : ℕ) (x : Packet) (b : Broker) → Done b (takes_by o d i x b)
alias_done None d i x b = serves_done d i x b
alias_done (Some a) d i x b = under_done a d i x b

of_done : (o : Option ℕ) (d : ℕ) (x : Packet) (b : Broker) → Done b (takes_of o d x b)
of_done None d x b = begins_with_done d x b
of_done (Some i) d x b = alias_done (alias_used b.alias_max x) d i (dated b.moment x) b

takes_done : (d : ℕ) (x : Packet) (b : Broker) → Done b (takes d x b)
unfolding takes
takes_done d x b =
    let known : Broker = act (Hear d b.moment) b in
    done_if (connection_at d b.connections).is_open b _ _ (done_more b known _ (done_one (Hear d b.moment) tt b) (of_done (connection_at d b.connections).client d x known)) (done_none b)

takes_all_done : (d : ℕ) (xs : List Packet) (b : Broker) → Done b (takes_all d xs b)
takes_all_done d [] b = done_none b
takes_all_done d (x ∷ xs) b = done_more b (takes d x b) _ (takes_done d x b) (takes_all_done d xs (takes d x b))

ends_done : (d : ℕ) (ending : Ending) (b : Broker) → Done b (ends_with d ending b)
ends_done d (Holds held) b = done_one (Hold d held) tt b
ends_done d (Breaks e) b = dismisses_done d (reason_for e) b

comes_of_done : (d : ℕ) (r : Cut) (b : Broker) → Done b (comes_of d r b)
comes_of_done d r b = done_more b (takes_all d r.packets b) _ (takes_all_done d r.packets b) (ends_done d r.ending (takes_all d r.packets b))

moment_done : (at : ℕ) (b : Broker) → Done b (at_moment at b)
moment_done at b = done_one (Moment (max at b.moment)) tt b

now_done : (d : ℕ) (bytes : List ℕ) (b : Broker) → Done b (receives_now d bytes b)
unfolding receives_now
now_done d bytes b =
    done_if (connection_at d b.connections).is_open b _ _
    (done_more b (on_connection d emptied b) _ (done_one (Empty d) tt b) (comes_of_done d (cut_up (Some b.longest) ((connection_at d b.connections).held ++ bytes) []) (on_connection d emptied b)))
    (done_none b)

pub receives_done : (at d : ℕ) (bytes : List ℕ) (b : Broker) → Done b (receives at d bytes b)
receives_done at d bytes b = done_more b (at_moment at b) _ (moment_done at b) (now_done d bytes (at_moment at b))

passes_of_done : (o : Option ℕ) (d : ℕ) (b : Broker) → Done b (passes_of o d b)
passes_of_done None d b = done_none b
passes_of_done (Some i) d b =
    done_if (first_is_over i b) b _ _ (done_one (Session (TakesOut i)) tt b)
    (done_more b (act (Session (Passes i)) b) _ (done_one (Session (Passes i)) tt b) (all_done (map (counted b.moment) (passed i b.sessions)) d (act (Session (Passes i)) b)))

passes_on_done : (d : ℕ) (b : Broker) → Done b (passes_on d b)
unfolding passes_on
passes_on_done d b = passes_of_done (connection_at d b.connections).client d b

pub passes_done : (at d : ℕ) (b : Broker) → Done b (passes_at at d b)
passes_done at d b = done_more b (at_moment at b) _ (moment_done at b) (passes_on_done d (at_moment at b))

-- ---- what is due

each_done : (n : ℕ) (f : ℕ → Broker → Broker) → ((i : ℕ) (b : Broker) → Done b (f i b)) → (b : Broker) → Done b (for_each n f b)
each_done zero f h b = done_none b
each_done (suc n) f h b = done_more b (for_each n f b) _ (each_done n f h b) (h n (for_each n f b))

silences_done : (d : ℕ) (b : Broker) → Done b (silences d b)
unfolding silences
silences_done d b = done_if (has_come (connection_at d b.connections).deadline b.moment) b _ _ (dismisses_done d reasons.KeepAliveTimeout b) (done_none b)

expires_done : (i : ℕ) (b : Broker) → Done b (expires i b)
unfolding expires
expires_done i b =
    done_if (has_ended b.moment (member_at i b.members)) b _ _ (forgets_done i b)
    (done_if (will_is_due b.moment (member_at i b.members)) b _ _ (publishes_done i b) (done_none b))

pub ticks_done : (at : ℕ) (b : Broker) → Done b (ticks at b)
ticks_done at b =
    let now : Broker = at_moment at b in
    let heard_all : Broker = silences_all now in
    done_more b heard_all _ (done_more b now _ (moment_done at b) (each_done (length now.connections) silences silences_done now)) (each_done (length heard_all.members) expires expires_done heard_all)

ends_now_done : (d : ℕ) (b : Broker) → Done b (ends_now d b)
unfolding ends_now
ends_now_done d b = dismisses_done d reasons.ServerShuttingDown b

pub shuts_down_done : (at : ℕ) (b : Broker) → Done b (shuts_down at b)
shuts_down_done at b = done_more b (at_moment at b) _ (moment_done at b) (each_done (length b.connections) ends_now ends_now_done (at_moment at b))

-- ---- queues that are too long

ends_of_done : (o : Option ℕ) (b : Broker) → Done b (ends_of o b)
ends_of_done None b = done_none b
ends_of_done (Some d) b = shut_done (farewell (connection_at d b.connections).longest reasons.QuotaExceeded) d b

sheds_done : (n i : ℕ) (b : Broker) → Done b (record b { sessions = taken_out n i b.sessions })
sheds_done zero i b = done_none b
sheds_done (suc n) i b =
    done_more b (act (Session (TakesOut i)) b) _ (done_one (Session (TakesOut i)) tt b) (sheds_done n i (act (Session (TakesOut i)) b))

ends_over_done : (i : ℕ) (b : Broker) → Done b (ends_over i b)
ends_over_done i b =
    done_if (exceeds (counts i b.sessions) b.bounds) b _ _
    (done_more b (forgets i b) _ (forgets_done i b) (ends_of_done (connection_of i b.connections) (forgets i b)))
    (done_none b)

trims_done : (i : ℕ) (b : Broker) → Done b (trims i b)
unfolding trims
trims_done i b =
    let n : ℕ = surplus_of b.bounds.oldest b.bounds.queued b.bounds.bytes i b.sessions in
    let shorter : Broker = record b { sessions = taken_out n i b.sessions } in
    done_if (exceeds (counts i b.sessions) b.bounds) b _ _
    (done_more b (sheds_of i b) _ (done_more b shorter _ (sheds_done n i b) (done_one (Count (dropped_after b.dropped n)) tt shorter)) (ends_over_done i (sheds_of i b)))
    (done_none b)

trims_all_done : (b : Broker) → Done b (trims_all b)
trims_all_done b = each_done (length b.members) trims trims_done b

pub trims_at_done : (at : ℕ) (b : Broker) → Done b (trims_at at b)
trims_at_done at b = done_more b (at_moment at b) _ (moment_done at b) (trims_all_done (at_moment at b))
