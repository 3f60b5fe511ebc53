-- What acts do to the sessions, and what they send.
use Rattle.std.proofs.Common.{◌≡◌, ℕ, Bool, true, false, List, [], ◌∷◌, ◌++◌, Option, Some, None, Result, Ok, Err, refl, sym, subst, ap, ◌∙◌, append_assoc, if◌then◌else◌, nat_lt, min, not, ◌&&◌}
use Rattle.std.specs.Prelude.{option_map}
use Rattle.std.proofs.lemmas.List.{append-nil}
use Rattle.mqtt5_base.specs.declared.error.Error.{Error}
use Rattle.mqtt5_base.specs.declared.error.Error.TheVariants.{OutgoingPacketTooLarge}
use Rattle.mqtt5_codec.specs.declared.packet.Packet.{Packet}
use Rattle.mqtt5_codec.specs.Packets.{packet_writing, packet_len, writing_under}
use Rattle.mqtt5_sessions.specs.Sessions.{ends}
use Rattle.mqtt5_sessions.specs.Runs.{SessionEvent, Loses, Dates, Ends, after_events}
use Rattle.mqtt5_sessions.specs.Expiry.{will_expiry, will_is_delayed}
use Rattle.mqtt5_broker.specs.Connection.{Connection, shut, heard, taken_by, learned, emptied, holding, with_bytes, written, connection_at}
use Rattle.mqtt5_broker.specs.Broker.{Broker, at_moment, loses_client, forgets, stays_at, sessions_dated, on_connection}
use Rattle.mqtt5_broker.specs.Expiry.{begun}
use Rattle.mqtt5_broker.specs.Receiving.{closes_of, closes_now, closes}
use Rattle.mqtt5_broker.specs.Acts.{Act, Session, Know, Regroup, Name, Moment, Count, Hear, Write, Shut, Welcome, Learn, Hold, Empty, act, acts, event_in, events_in, AreFrames, output_at, Sends}
use Rattle.mqtt5_broker.proofs.Keeping.{at_changed}
use Rattle.mqtt5_broker.proofs.Turned.{events_append, Makes, makes_turn, without_kept}

-- ---- the sessions

one_event : (a : Act) (b : Broker) → (act a b).sessions ≡ after_events (event_in a) b.sessions
one_event (Session e) b = refl
one_event (Know ms) b = refl
one_event (Regroup gs) b = refl
one_event (Name n) b = refl
one_event (Moment at) b = refl
one_event (Count n) b = refl
one_event (Hear d at) b = refl
one_event (Write d p) b = refl
one_event (Shut d) b = refl
one_event (Welcome d i longest silence at) b = refl
one_event (Learn d a t) b = refl
one_event (Hold d bytes) b = refl
one_event (Empty d) b = refl

pub all_events : (ds : List Act) (b : Broker) → (acts ds b).sessions ≡ after_events (events_in ds) b.sessions
all_events [] b = refl
all_events (a ∷ ds) b = all_events ds (act a b) ∙ ap (after_events (events_in ds)) (one_event a b) ∙ sym (events_append (event_in a) (events_in ds) b.sessions)

-- a connection that is closed
abbrev pub Lost : Broker → Broker → Type 0
Lost b c = (es : List SessionEvent) × (c.sessions ≡ after_events es b.sessions)

pub lost_if : (v : Bool) (b x y : Broker) → Lost b x → Lost b y → Lost b (if v then x else y)
lost_if true b x y m k = m
lost_if false b x y m k = k

loses_lost : (i : ℕ) (b : Broker) → Lost b (loses_client i b)
unfolding loses_client forgets
loses_lost i b =
    lost_if (stays_at i b.members) b _ _ (dated_by false ∷ Loses i ∷ [], refl)
    (without_kept (Makes b.sessions) (makes_turn b.sessions) i b.groups (ends i (sessions_dated true i b)) (dated_by true ∷ Ends i ∷ [], refl))
  where
    dated_by : Bool → SessionEvent
    dated_by any = Dates i (option_map (begun (not any && will_is_delayed i b.sessions) b.moment) (will_expiry i b.sessions))

of_lost : (o : Option ℕ) (d : ℕ) (b : Broker) → Lost b (closes_of o d b)
of_lost None d b = ([], refl)
of_lost (Some i) d b = loses_lost i b

now_lost : (d : ℕ) (b : Broker) → Lost b (closes_now d b)
unfolding closes_now
now_lost d b = of_lost (connection_at d b.connections).client d b

pub closes_lost : (at d : ℕ) (b : Broker) → Lost b (closes at d b)
closes_lost at d b = now_lost d (at_moment at b)

-- ---- frames

under_limit : (v : Bool) (e : Error) (r : Result (List ℕ) Error) (bytes : List ℕ) → (if v then Err e else r) ≡ Ok bytes → r ≡ Ok bytes
under_limit true e r bytes h = absurd (cc h)
under_limit false e r bytes h = h

writable : (limit : Option ℕ) (p : Packet) (bytes : List ℕ) → writing_under limit p ≡ Ok bytes → packet_writing p ≡ Ok bytes
writable None p bytes h = h
writable (Some max) p bytes h = under_limit (nat_lt max (packet_len p)) (OutgoingPacketTooLarge (min (packet_len p) 4294967295) max) (packet_writing p) bytes h

sends_none : (old new : List ℕ) → new ≡ old → Sends old new
sends_none old new e = ([], [], refl, e ∙ sym (append-nil old))

with_bytes_sends : (r : Result (List ℕ) Error) (p : Packet) (l : Connection) → ((bytes : List ℕ) → r ≡ Ok bytes → packet_writing p ≡ Ok bytes) → Sends l.output (with_bytes r l).output
with_bytes_sends (Ok bytes) p l h = (p ∷ [], bytes, (bytes, [], h bytes refl, sym (append-nil bytes), refl), refl)
with_bytes_sends (Err e) p l h = sends_none l.output l.output refl

written_sends : (p : Packet) (l : Connection) → Sends l.output (written p l).output
unfolding written
written_sends p l = with_bytes_sends (writing_under l.longest p) p l (λ bytes e. writable l.longest p bytes e)

holding_sends : (v : Bool) (bytes : List ℕ) (l : Connection) → (if v then record l { held = bytes } else l).output ≡ l.output
holding_sends true bytes l = refl
holding_sends false bytes l = refl

-- one connection changes
on_sends : (d e : ℕ) (f : Connection → Connection) (b : Broker) → ((l : Connection) → Sends l.output (f l).output) → Sends (output_at d b) (output_at d (on_connection e f b))
on_sends d e f b h =
    at_changed (λ (l : Connection). Sends (output_at d b) l.output) d e b.connections (f (connection_at e b.connections)) (sends_none (output_at d b) (output_at d b) refl)
    (λ same. subst (λ (j : ℕ). Sends (connection_at j b.connections).output (f (connection_at e b.connections)).output) (sym same) (h (connection_at e b.connections)))

one_sends : (d : ℕ) (a : Act) (b : Broker) → Sends (output_at d b) (output_at d (act a b))
one_sends d (Session e) b = sends_none (output_at d b) (output_at d b) refl
one_sends d (Know ms) b = sends_none (output_at d b) (output_at d b) refl
one_sends d (Regroup gs) b = sends_none (output_at d b) (output_at d b) refl
one_sends d (Name n) b = sends_none (output_at d b) (output_at d b) refl
one_sends d (Moment at) b = sends_none (output_at d b) (output_at d b) refl
one_sends d (Count n) b = sends_none (output_at d b) (output_at d b) refl
one_sends d (Hear e at) b = on_sends d e (heard at) b (λ l. sends_none l.output l.output refl)
one_sends d (Write e p) b = on_sends d e (written p) b (λ l. written_sends p l)
one_sends d (Shut e) b = on_sends d e shut b (λ l. sends_none l.output l.output refl)
one_sends d (Welcome e i longest silence at) b = on_sends d e (taken_by i longest silence at) b (λ l. sends_none l.output l.output refl)
one_sends d (Learn e a t) b = on_sends d e (learned a t) b (λ l. sends_none l.output l.output refl)
one_sends d (Hold e bytes) b = on_sends d e (holding bytes) b (λ l. sends_none l.output (holding bytes l).output (holding_sends l.is_open bytes l))
one_sends d (Empty e) b = on_sends d e emptied b (λ l. sends_none l.output l.output refl)

-- frames behind frames
frames_append : (ps qs : List Packet) (xs ys : List ℕ) → AreFrames ps xs → AreFrames qs ys → AreFrames (ps ++ qs) (xs ++ ys)
frames_append [] qs xs ys h k = subst (AreFrames qs) (sym (ap (λ (zs : List ℕ). zs ++ ys) h)) k
frames_append (p ∷ ps) qs xs ys h k = (h.0, h.1 ++ ys, h.2, ap (λ (zs : List ℕ). zs ++ ys) h.3 ∙ append_assoc h.0 h.1 ys, frames_append ps qs h.1 ys h.4 k)

sends_more : (x y z : List ℕ) → Sends x y → Sends y z → Sends x z
sends_more x y z h k = (h.0 ++ k.0, h.1 ++ k.1, frames_append h.0 k.0 h.1 k.1 h.2 k.2, k.3 ∙ ap (λ (zs : List ℕ). zs ++ k.1) h.3 ∙ append_assoc x h.1 k.1)

pub all_sends : (d : ℕ) (ds : List Act) (b : Broker) → Sends (output_at d b) (output_at d (acts ds b))
all_sends d [] b = sends_none (output_at d b) (output_at d b) refl
all_sends d (a ∷ ds) b = sends_more (output_at d b) (output_at d (act a b)) (output_at d (acts ds (act a b))) (one_sends d a b) (all_sends d ds (act a b))
