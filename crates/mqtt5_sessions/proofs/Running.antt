-- A whole run of what a broker keeps of its clients is one of a network.
use Rattle.std.proofs.Common.{◌≡◌, ℕ, zero, suc, ◌<◌, ◌≤◌, Bool, true, false, List, [], ◌∷◌, ◌++◌, length, map, Option, Some, None, Result, Ok, Err, ◌⊎◌, inl, inr, refl, sym, ap, ◌∙◌, arith, append-nil, append_assoc}
use Rattle.std.specs.Prelude.{slice_get, unwrap_or, option_map, ⊤}
use Rattle.std.specs.List.{filter_map}
use Rattle.mqtt5_publish.specs.declared.publish.Publish.{Publish}
use Rattle.mqtt5_codec.specs.declared.packet.Packet.{Packet}
use Rattle.mqtt5_inflight.specs.declared.event.Request.TheVariants as requests
use Rattle.mqtt5_inflight.specs.declared.error.StateError.{StateError}
use Rattle.mqtt5_session.specs.Session.{Session}
use Rattle.mqtt5_session.specs.Requests.{on_request}
use Rattle.mqtt5_session.specs.Resuming.{resume_of}
use Rattle.mqtt5_world.specs.Broker.{Broker}
use Rattle.mqtt5_network.specs.declared.event.ClientEvent.{ClientEvent}
use Rattle.mqtt5_network.specs.declared.event.ClientEvent.TheVariants as events
use Rattle.mqtt5_network.specs.declared.event.NetworkEvent.{NetworkEvent}
use Rattle.mqtt5_network.specs.declared.event.Will.{Will}
use Rattle.mqtt5_network.specs.Connection.{connected, sent_in}
use Rattle.mqtt5_network.specs.Retained.{retained_after, copies_for}
use Rattle.mqtt5_network.specs.Subscriptions.{forwarded_to}
use Rattle.mqtt5_network.specs.Client.{Client, asked_of, asks_for, sends_of, requests_for, goes_up, goes_down}
use Rattle.mqtt5_network.specs.Place.{Place, sent_from, passes as passes_at, lost_message, waiting, replaced_message, due_message, not_due, left_will, message_of, becomes, becomes_with, queues_at, gets_at}
use Rattle.mqtt5_network.specs.Network.{Network, Profile, begins, start_network, changed, new_of, routes, handed_by, happens_in, run_network, IsReached}
use Rattle.mqtt5_router.specs.Kept.{Kept, new_kept, without_events, without_first, kept_of, after_packet}
use Rattle.mqtt5_router.proofs.Alone.{packet_reply, pass_sent}
use Rattle.mqtt5_sessions.proofs.Delivered.{with_past, with_same, of_client_past, none_queued}
use Rattle.mqtt5_sessions.proofs.Quiet.{heard_reply, passed_sent, sent_same}
use Rattle.mqtt5_sessions.proofs.Following.{follows, none, nothing_new, follows_up, follows_pass, follows_expire, follows_lost, follows_due, follows_dated, follows_turn, follows_left, follows_back, follows_ends}
use Rattle.mqtt5_sessions.specs.Sessions.{ClientState, new_state, state_of, Sessions, sessions_of, gets, queues, queues_all, with_client, of_client, to_client, changes, joins, arrives, replies, passes_here, sent_here, passed, passes, takes_out, loses, is_due, with_dated_will, dates, with_turn_of, turns, leaves, taken_up, comes, sent_again, ends}
use Rattle.mqtt5_sessions.specs.Runs.{SessionEvent, Joins, Arrives, Passes, TakesOut, Loses, IsDue, Dates, Turns, Leaves, Comes, Ends, after_event, after_events, no_sessions, RunEvent, AtBroker, AtClient, IsOfClient, at_broker, limit_of, limits_in, with_new, all_lost, before, HaveNone, within, in_network, all_in_network, IsFirst, IsRun}

-- ---- lists of events

run_more : (es fs : List NetworkEvent) (n : Network) → run_network (es ++ fs) n ≡ run_network fs (run_network es n)
run_more [] fs n = refl
run_more (e ∷ es) fs n = run_more es fs (happens_in n e)

pub reached_from : (ps : List Profile) (es : List NetworkEvent) → IsReached (run_network es (before ps))
reached_from ps es = record { profiles = ps; events = all_lost 0 ps ++ es; reached = sym (run_more (all_lost 0 ps) es (start_network ps)) }

-- ---- the client of a number, among those that are known

abbrev IsIn : ℕ → List ClientState → Type 0
IsIn i [] = ⊥
IsIn zero (c ∷ cs) = ⊤
IsIn (suc i) (c ∷ cs) = IsIn i cs

is_in : (i : ℕ) (cs : List ClientState) → IsIn i cs ⊎ (length cs ≤ i)
is_in i [] = inr (omega arith)
is_in zero (c ∷ cs) = inl tt
is_in (suc i) (c ∷ cs) = more (is_in i cs)
  where
    more : IsIn i cs ⊎ (length cs ≤ i) → IsIn (suc i) (c ∷ cs) ⊎ (length (c ∷ cs) ≤ suc i)
    more (inl h) = inl h
    more (inr h) = inr (omega arith)

within_in : (i : ℕ) (cs : List ClientState) (es : List NetworkEvent) → IsIn i cs → within (length cs) i es ≡ es
within_in i [] es h = absurd h
within_in zero (c ∷ cs) es h = refl
within_in (suc i) (c ∷ cs) es h = within_in i cs es h

within_out : (i : ℕ) (cs : List ClientState) (es : List NetworkEvent) → length cs ≤ i → within (length cs) i es ≡ []
within_out i [] es past = refl
within_out zero (c ∷ cs) es past = absurd (omega arith)
within_out (suc i) (c ∷ cs) es past = within_out i cs es (omega arith)

with_more : (i : ℕ) (g : ClientState → ClientState) (cs rs : List ClientState) → IsIn i cs → with_client i g (cs ++ rs) ≡ with_client i g cs ++ rs
with_more i g [] rs h = absurd h
with_more zero g (c ∷ cs) rs h = refl
with_more (suc i) g (c ∷ cs) rs h = ap (λ xs. c ∷ xs) (with_more i g cs rs h)

of_more : (i : ℕ) (m : ClientState → List Publish) (cs rs : List ClientState) → IsIn i cs → of_client i m (cs ++ rs) ≡ of_client i m cs
of_more i m [] rs h = absurd h
of_more zero m (c ∷ cs) rs h = refl
of_more (suc i) m (c ∷ cs) rs h = of_more i m cs rs h

in_with : (i : ℕ) (g : ClientState → ClientState) (cs : List ClientState) → IsIn i cs → IsIn i (with_client i g cs)
in_with i g [] h = absurd h
in_with zero g (c ∷ cs) h = tt
in_with (suc i) g (c ∷ cs) h = in_with i g cs h

others_more : (xs : List Publish) (cs rs : List ClientState) → map (queues false xs) (cs ++ rs) ≡ map (queues false xs) cs ++ map (queues false xs) rs
others_more xs [] rs = refl
others_more xs (c ∷ cs) rs = ap (λ ds. queues false xs c ∷ ds) (others_more xs cs rs)

queues_more : (i : ℕ) (xs : List Publish) (cs rs : List ClientState) → IsIn i cs → queues_all i xs (cs ++ rs) ≡ queues_all i xs cs ++ map (queues false xs) rs
queues_more i xs [] rs h = absurd h
queues_more zero xs (c ∷ cs) rs h = ap (λ ds. queues true xs c ∷ ds) (others_more xs cs rs)
queues_more (suc i) xs (c ∷ cs) rs h = ap (λ ds. queues false xs c ∷ ds) (queues_more i xs cs rs h)

-- ---- those that aren't known yet get nothing

none_for : (xs : List Publish) → filter_map (forwarded_to false []) xs ≡ []
none_for [] = refl
none_for (x ∷ xs) = none_for xs

new_queued : (xs : List Publish) (limits : List ℕ) → map (queues false xs) (map new_state limits) ≡ map new_state limits
new_queued xs [] = refl
new_queued xs (l ∷ limits) = λ j. record { kept = record (new_kept l []) { queue = none_for xs j }; here = false; will = None } ∷ new_queued xs limits j

-- an event of a client that is known
changes_more : (i : ℕ) (g : ClientState → ClientState) (m : ClientState → List Publish) (s : Sessions) (limits : List ℕ) → IsIn i s.clients → changes i g m (with_new limits s) ≡ with_new limits (changes i g m s)
changes_more i g m s limits h =
    let rs : List ClientState = map new_state limits in
    let new : List Publish = of_client i m s.clients in
    let cs : List ClientState = with_client i g s.clients in
    let a : of_client i m (s.clients ++ rs) ≡ new = of_more i m s.clients rs h in
    let b : with_client i g (s.clients ++ rs) ≡ cs ++ rs = with_more i g s.clients rs h in
    let c : queues_all i new (cs ++ rs) ≡ queues_all i new cs ++ rs =
    queues_more i new cs rs (in_with i g s.clients h) ∙ ap (λ ds. queues_all i new cs ++ ds) (new_queued new limits) in
    let d : queues_all i (of_client i m (s.clients ++ rs)) (with_client i g (s.clients ++ rs)) ≡ queues_all i new cs ++ rs =
    (λ j. queues_all i (a j) (b j)) ∙ c in
    λ j. record { clients = d j; retained = retained_after s.retained (a j) }

-- and of none
changes_past : (i : ℕ) (g : ClientState → ClientState) (m : ClientState → List Publish) (s : Sessions) → length s.clients ≤ i → changes i g m s ≡ s
changes_past i g m s past =
    let a : of_client i m s.clients ≡ [] = of_client_past i m s.clients past in
    let b : with_client i g s.clients ≡ s.clients = with_past i g s.clients past in
    let c : queues_all i (of_client i m s.clients) (with_client i g s.clients) ≡ s.clients =
    (λ j. queues_all i (a j) (b j)) ∙ none_queued i s.clients in
    λ j. record { clients = c j; retained = retained_after s.retained (a j) }

-- ---- an event at the broker

module _ (n : Network) (s : Sessions) (limits : List ℕ) (is : sessions_of n ≡ with_new limits s) where
  known : (i : ℕ) (e : ClientEvent) (g : ClientState → ClientState) (m : ClientState → List Publish) → sessions_of (happens_in n (record { client = i; what = e })) ≡ changes i g m (with_new limits s)
      → sessions_of (run_network (within (length s.clients) i (record { client = i; what = e } ∷ [])) n) ≡ with_new limits (changes i g m s)
  known i e g m after = by (is_in i s.clients)
    where
      by : IsIn i s.clients ⊎ (length s.clients ≤ i) → sessions_of (run_network (within (length s.clients) i (record { client = i; what = e } ∷ [])) n) ≡ with_new limits (changes i g m s)
      by (inl h) =
          ap (λ es. sessions_of (run_network es n)) (within_in i s.clients (record { client = i; what = e } ∷ []) h)
          ∙ after
          ∙ changes_more i g m s limits h
      by (inr past) =
          ap (λ es. sessions_of (run_network es n)) (within_out i s.clients (record { client = i; what = e } ∷ []) past)
          ∙ is
          ∙ ap (with_new limits) (sym (changes_past i g m s past))

one_more : (l : ℕ) (n : Network) (s : Sessions) (limits : List ℕ) → sessions_of n ≡ with_new (l ∷ limits) s → sessions_of n ≡ with_new limits (joins l s)
one_more l n s limits is =
    is ∙ (λ j. record { clients = sym (append_assoc s.clients (new_state l ∷ []) (map new_state limits)) j; retained = s.retained })

one_event : (e : SessionEvent) (n : Network) (s : Sessions) (limits : List ℕ) → sessions_of n ≡ with_new (limit_of e ++ limits) s → IsFirst n e
    → sessions_of (run_network (in_network (length s.clients) e) n) ≡ with_new limits (after_event e s)
one_event (Joins l) n s limits is first = one_more l n s limits is
one_event (Arrives i x) n s limits is first =
    known n s limits is i events.Up
    (λ (c : ClientState). gets (copies_for s.retained c.kept.subscriptions x) (record c { kept = without_events (kept_of (after_packet c.kept x)) }))
    (λ (c : ClientState). (after_packet c.kept x).receiver.handed)
    (follows_up n i first.0 x first.1 first.2 first.3 ∙ ap (arrives i x) is)
one_event (Passes i) n s limits is first =
    known n s limits is i events.PassOn (λ (c : ClientState). record c { kept = passes_here c.here c.kept }) (λ (c : ClientState). []) (follows_pass n i ∙ ap (passes i) is)
one_event (TakesOut i) n s limits is first =
    known n s limits is i events.Expire (λ (c : ClientState). record c { kept = without_first c.kept }) (λ (c : ClientState). []) (follows_expire n i ∙ ap (takes_out i) is)
one_event (Loses i) n s limits is first =
    known n s limits is i events.Lost (λ (c : ClientState). record c { here = false; will = waiting c.will }) (λ (c : ClientState). lost_message c.will) (follows_lost n i ∙ ap (loses i) is)
one_event (IsDue i) n s limits is first =
    known n s limits is i events.Due (λ (c : ClientState). record c { will = not_due c.here c.will }) (λ (c : ClientState). due_message c.here c.will) (follows_due n i ∙ ap (is_due i) is)
one_event (Dates i interval) n s limits is first =
    known n s limits is i (events.Dated interval) (with_dated_will interval) (λ (c : ClientState). []) (follows_dated n i interval ∙ ap (dates i interval) is)
one_event (Turns i f turn) n s limits is first =
    known n s limits is i (events.Turn f turn) (with_turn_of f turn) (λ (c : ClientState). []) (follows_turn n i f turn ∙ ap (turns i f turn) is)
one_event (Leaves i) n s limits is first =
    known n s limits is i events.Left (λ (c : ClientState). record c { here = false; will = left_will c.here c.will }) (λ (c : ClientState). []) (follows_left n i ∙ ap (leaves i) is)
one_event (Comes i m will) n s limits is first =
    known n s limits is i (events.Back None m will) (λ (c : ClientState). record { kept = taken_up m c.kept; here = true; will = will }) (λ (c : ClientState). replaced_message c.here c.will)
    (follows_back n i None m will ∙ ap (comes i m will) is)
one_event (Ends i) n s limits is first =
    known n s limits is i events.Ends (λ (c : ClientState). record { kept = new_kept c.kept.sender.core.limit []; here = false; will = None }) (λ (c : ClientState). message_of c.will)
    (follows_ends n i ∙ ap (ends i) is)

-- ---- an event of a client alone

-- the broker's side of it stays
pub record Stays (c d : Client) : Type 0 where
  pub kept : kept_of d ≡ kept_of c
  pub receiver : d.receiver ≡ c.receiver

asked_stays : (c : Client) (p : Publish) (r : Result (Option Packet) StateError) (s : Session) → Stays c (asked_of c p r s)
asked_stays c p (Ok reply) s = record { kept = refl; receiver = refl }
asked_stays c p (Err e) s = record { kept = refl; receiver = refl }

sends_stays : (c : Client) (r : Result (Option Packet) StateError) (s : Session) → Stays c (sends_of c r s)
sends_stays c (Ok reply) s = record { kept = refl; receiver = refl }
sends_stays c (Err e) s = record { kept = refl; receiver = refl }

down_stays : (c : Client) (way : List Packet) → Stays c (goes_down c way)
down_stays c [] = record { kept = refl; receiver = refl }
down_stays c (x ∷ way) = record { kept = refl; receiver = refl }

from_stays : (b : Bool) (c d : Client) → Stays c d → Stays c (sent_from b d)
from_stays true c d s = s
from_stays false c d s = record { kept = s.kept; receiver = s.receiver }

state_stays : (p : Place) (d : Client) → Stays p.client d → state_of (gets_at [] (record p { client = d })) ≡ state_of p
state_stays p d s =
    none (state_of (record p { client = d })) ∙ ap (λ (k : Kept). record { kept = without_events k; here = p.here; will = p.will }) s.kept

new_stays : (p : Place) (d : Client) → Stays p.client d → new_of p (record p { client = d }) ≡ []
new_stays p d s = nothing_new p (record p { client = d }) (ap (λ (b : Broker). b.handed) s.receiver) refl

of_none : (i : ℕ) (cs : List ClientState) → of_client i (λ (c : ClientState). []) cs ≡ []
of_none i [] = refl
of_none zero (c ∷ cs) = refl
of_none (suc i) (c ∷ cs) = of_none i cs

changes_same : (i : ℕ) (s : Sessions) → changes i (λ (c : ClientState). c) (λ (c : ClientState). []) s ≡ s
changes_same i s =
    let a : of_client i (λ (c : ClientState). []) s.clients ≡ [] = of_none i s.clients in
    let b : with_client i (λ (c : ClientState). c) s.clients ≡ s.clients = with_same i (λ (c : ClientState). c) s.clients (λ c. refl) in
    let c : queues_all i (of_client i (λ (c : ClientState). []) s.clients) (with_client i (λ (c : ClientState). c) s.clients) ≡ s.clients =
    (λ j. queues_all i (a j) (b j)) ∙ none_queued i s.clients in
    λ j. record { clients = c j; retained = retained_after s.retained (a j) }

pub of_client_alone : (n : Network) (i : ℕ) (e : ClientEvent) → IsOfClient e → sessions_of (happens_in n (record { client = i; what = e })) ≡ sessions_of n
of_client_alone n i (events.Ask x) is =
    follows n i (events.Ask x) (λ (c : ClientState). c) (λ (c : ClientState). [])
    (λ p h.
    let a = on_request p.client.session (requests.Publish x) 0 in
    let s : Stays p.client (sent_from p.here (asks_for p.client x)) = from_stays p.here p.client (asks_for p.client x) (asked_stays p.client x a.0 a.1) in
    record { state = state_stays p (sent_from p.here (asks_for p.client x)) s; new = new_stays p (sent_from p.here (asks_for p.client x)) s })
    ∙ changes_same i (sessions_of n)
of_client_alone n i (events.Subscribe x) is =
    follows n i (events.Subscribe x) (λ (c : ClientState). c) (λ (c : ClientState). [])
    (λ p h.
    let a = on_request p.client.session (requests.Subscribe x) 0 in
    let s : Stays p.client (sent_from p.here (requests_for p.client (requests.Subscribe x))) =
    from_stays p.here p.client (requests_for p.client (requests.Subscribe x)) (sends_stays p.client a.0 a.1) in
    record { state = state_stays p (sent_from p.here (requests_for p.client (requests.Subscribe x))) s; new = new_stays p (sent_from p.here (requests_for p.client (requests.Subscribe x))) s })
    ∙ changes_same i (sessions_of n)
of_client_alone n i (events.Unsubscribe x) is =
    follows n i (events.Unsubscribe x) (λ (c : ClientState). c) (λ (c : ClientState). [])
    (λ p h.
    let a = on_request p.client.session (requests.Unsubscribe x) 0 in
    let s : Stays p.client (sent_from p.here (requests_for p.client (requests.Unsubscribe x))) =
    from_stays p.here p.client (requests_for p.client (requests.Unsubscribe x)) (sends_stays p.client a.0 a.1) in
    record { state = state_stays p (sent_from p.here (requests_for p.client (requests.Unsubscribe x))) s; new = new_stays p (sent_from p.here (requests_for p.client (requests.Unsubscribe x))) s })
    ∙ changes_same i (sessions_of n)
of_client_alone n i events.Down is =
    follows n i events.Down (λ (c : ClientState). c) (λ (c : ClientState). [])
    (λ p h.
    let s : Stays p.client (goes_down p.client p.client.down) = down_stays p.client p.client.down in
    record { state = state_stays p (goes_down p.client p.client.down) s; new = new_stays p (goes_down p.client p.client.down) s })
    ∙ changes_same i (sessions_of n)
of_client_alone n i events.Up is = absurd is
of_client_alone n i events.PassOn is = absurd is
of_client_alone n i events.Lost is = absurd is
of_client_alone n i events.Expire is = absurd is
of_client_alone n i events.Due is = absurd is
of_client_alone n i (events.Dated interval) is = absurd is
of_client_alone n i (events.Turn f turn) is = absurd is
of_client_alone n i events.Left is = absurd is
of_client_alone n i (events.Back a b will) is = absurd is
of_client_alone n i events.Ends is = absurd is

-- ---- a run

from_these : (es : List RunEvent) (s : Sessions) (limits : List ℕ) (n : Network) → sessions_of n ≡ with_new (limits_in es ++ limits) s → IsRun s n es
    → sessions_of (run_network (all_in_network s es) n) ≡ with_new limits (after_events (at_broker es) s)
from_these [] s limits n is run = is
from_these (AtBroker e ∷ es) s limits n is run =
    let m : Network = run_network (in_network (length s.clients) e) n in
    ap sessions_of (run_more (in_network (length s.clients) e) (all_in_network (after_event e s) es) n)
    ∙ from_these es (after_event e s) limits m
    (one_event e n s (limits_in es ++ limits) (is ∙ ap (λ ls. with_new ls s) (append_assoc (limit_of e) (limits_in es) limits)) run.0) run.1
from_these (AtClient e ∷ es) s limits n is run =
    from_these es s limits (happens_in n e) (of_client_alone n e.client e.what run.0 ∙ is) run.1

-- ---- where it begins

with_last : (done : List ClientState) (g : ClientState → ClientState) (c : ClientState) (cs : List ClientState) → with_client (length done) g (done ++ c ∷ cs) ≡ done ++ g c ∷ cs
with_last [] g c cs = refl
with_last (d ∷ done) g c cs = ap (λ xs. d ∷ xs) (with_last done g c cs)

of_last : (done : List ClientState) (m : ClientState → List Publish) (c : ClientState) (cs : List ClientState) → of_client (length done) m (done ++ c ∷ cs) ≡ m c
of_last [] m c cs = refl
of_last (d ∷ done) m c cs = of_last done m c cs

long_last : (done : List ClientState) (c : ClientState) → suc (length done) ≡ length (done ++ c ∷ [])
long_last [] c = refl
long_last (d ∷ done) c = ap suc (long_last done c)

abbrev begun : Profile → ClientState
begun p = state_of (begins p)

-- a client that has only begun goes away
goes_away : (done cs : List ClientState) (p : Profile) → p.subscriptions ≡ []
    → loses (length done) (record { clients = done ++ begun p ∷ cs; retained = [] }) ≡ record { clients = done ++ new_state p.sender_limit ∷ cs; retained = [] }
goes_away done cs p bare =
    let i : ℕ = length done in
    let g : ClientState → ClientState = λ (c : ClientState). record c { here = false; will = waiting c.will } in
    let m : ClientState → List Publish = λ (c : ClientState). lost_message c.will in
    let a : of_client i m (done ++ begun p ∷ cs) ≡ [] = of_last done m (begun p) cs in
    let b : with_client i g (done ++ begun p ∷ cs) ≡ done ++ new_state p.sender_limit ∷ cs =
    with_last done g (begun p) cs ∙ (λ j. done ++ record { kept = new_kept p.sender_limit (bare j); here = false; will = None } ∷ cs) in
    let c : queues_all i (of_client i m (done ++ begun p ∷ cs)) (with_client i g (done ++ begun p ∷ cs)) ≡ done ++ new_state p.sender_limit ∷ cs =
    (λ j. queues_all i (a j) (b j)) ∙ none_queued i (done ++ new_state p.sender_limit ∷ cs) in
    λ j. record { clients = c j; retained = retained_after [] (a j) }

all_away : (ps : List Profile) (done : List ClientState) (n : Network) → HaveNone ps → sessions_of n ≡ record { clients = done ++ map begun ps; retained = [] }
    → sessions_of (run_network (all_lost (length done) ps) n) ≡ record { clients = done ++ map new_state (map (λ (p : Profile). p.sender_limit) ps); retained = [] }
all_away [] done n bare is = is
all_away (p ∷ ps) done n bare is =
    let l : ℕ = p.sender_limit in
    let m : Network = happens_in n (record { client = length done; what = events.Lost }) in
    let one : sessions_of m ≡ record { clients = (done ++ new_state l ∷ []) ++ map begun ps; retained = [] } =
    follows_lost n (length done)
    ∙ ap (loses (length done)) is
    ∙ goes_away done (map begun ps) p bare.0
    ∙ (λ j. record { clients = sym (append_assoc done (new_state l ∷ []) (map begun ps)) j; retained = [] }) in
    ap (λ k. sessions_of (run_network (all_lost k ps) m)) (long_last done (new_state l))
    ∙ all_away ps (done ++ new_state l ∷ []) m bare.1 one
    ∙ (λ j. record { clients = append_assoc done (new_state l ∷ []) (map new_state (map (λ (p : Profile). p.sender_limit) ps)) j; retained = [] })

begun_states : (ps : List Profile) → map state_of (map begins ps) ≡ map begun ps
begun_states [] = refl
begun_states (p ∷ ps) = ap (λ cs. begun p ∷ cs) (begun_states ps)

pub run_same : (ps : List Profile) (es : List RunEvent) (limits : List ℕ) → HaveNone ps → map (λ (p : Profile). p.sender_limit) ps ≡ limits_in es ++ limits → IsRun no_sessions (before ps) es
    → sessions_of (run_network (all_in_network no_sessions es) (before ps)) ≡ with_new limits (after_events (at_broker es) no_sessions)
run_same ps es limits bare same run =
    from_these es no_sessions limits (before ps)
    (all_away ps [] (start_network ps) bare (λ j. record { clients = begun_states ps j; retained = [] })
    ∙ (λ j. record { clients = map new_state (same j); retained = [] })) run

-- ---- what is sent

place_after : (i : ℕ) (xs : List Publish) (f : Place → Place) (ps : List Place) (p : Place) → slice_get ps i ≡ Some p → slice_get (routes i xs (changed i f ps)) i ≡ Some (queues_at true xs (f p))
place_after i xs f [] p at = ap (λ (o : Option Place). option_map (λ q. queues_at true xs (f q)) o) at
place_after zero xs f (q ∷ ps) p at = ap (λ (o : Option Place). option_map (λ q. queues_at true xs (f q)) o) at
place_after (suc i) xs f (q ∷ ps) p at = place_after i xs f ps p at

abbrev sent_by : (ClientState → List Packet) → Option Place → List Packet
sent_by f None = []
sent_by f (Some p) = f (state_of p)

sent_at : (i : ℕ) (f : ClientState → List Packet) (ps : List Place) (p : Place) → slice_get ps i ≡ Some p → to_client i f (map state_of ps) ≡ f (state_of p)
sent_at i f [] p at = ap (sent_by f) at
sent_at zero f (q ∷ ps) p at = ap (sent_by f) at
sent_at (suc i) f (q ∷ ps) p at = sent_at i f ps p at

module _ (n : Network) (i : ℕ) (p q : Place) (at : slice_get n.places i ≡ Some p) where
  down_after : (e : ClientEvent) → slice_get (happens_in n (record { client = i; what = e })).places i ≡ Some q → q.client.down ≡ (becomes p e).client.down
  down_after e after =
      sym (ap (λ (o : Option Place). (unwrap_or o p).client.down)
      (sym (place_after i (handed_by n (record { client = i; what = e })) (becomes_with n.handed e) n.places p at) ∙ after))

  pub sent_reply : (x : Packet) (way : List Packet) → p.client.up ≡ x ∷ way → slice_get (happens_in n (record { client = i; what = events.Up })).places i ≡ Some q → q.client.down ≡ p.client.down ++ replies i x (sessions_of n)
  sent_reply x way up after =
      down_after events.Up after
      ∙ ap (λ us. (goes_up p.client us).down) up
      ∙ packet_reply (record p.client { up = way }) x
      ∙ ap (λ ys. p.client.down ++ ys) (sym (heard_reply (kept_of p.client) x) ∙ sym (sent_at i (λ (c : ClientState). (after_packet c.kept x).down) n.places p at))

  here_sent : (b : Bool) (c : Client) → (passes_at b c).down ≡ c.down ++ sent_here b (without_events (kept_of c))
  here_sent true c = pass_sent c ∙ ap (λ ys. c.down ++ ys) (sym (passed_sent (kept_of c)))
  here_sent false c = sym (append-nil c.down)

  pub sent_pass : slice_get (happens_in n (record { client = i; what = events.PassOn })).places i ≡ Some q → q.client.down ≡ p.client.down ++ passed i (sessions_of n)
  sent_pass after =
      down_after events.PassOn after
      ∙ here_sent p.here p.client
      ∙ ap (λ ys. p.client.down ++ ys) (sym (sent_at i (λ (c : ClientState). sent_here c.here c.kept) n.places p at))

  pub sent_back : (a m : Option ℕ) (will : Option Will) → slice_get (happens_in n (record { client = i; what = events.Back a m will })).places i ≡ Some q → q.client.down ≡ sent_again i m (sessions_of n)
  sent_back a m will after =
      down_after (events.Back a m will) after
      ∙ sym (sent_same m (kept_of p.client))
      ∙ sym (sent_at i (λ (c : ClientState). sent_in (resume_of (connected m c.kept.sender) 0)) n.places p at)

-- to a client that is known
to_more : (i : ℕ) (f : ClientState → List Packet) (cs rs : List ClientState) → i < length cs → to_client i f (cs ++ rs) ≡ to_client i f cs
to_more i f [] rs below = absurd (omega arith)
to_more zero f (c ∷ cs) rs below = refl
to_more (suc i) f (c ∷ cs) rs below = to_more i f cs rs (omega arith)

pub sent_known : (s : Sessions) (limits : List ℕ) (i : ℕ) → i < length s.clients
    → ((x : Packet) → replies i x (with_new limits s) ≡ replies i x s) × (passed i (with_new limits s) ≡ passed i s) × ((m : Option ℕ) → sent_again i m (with_new limits s) ≡ sent_again i m s)
sent_known s limits i below = (
  λ x. to_more i (λ (c : ClientState). (after_packet c.kept x).down) s.clients (map new_state limits) below,
  to_more i (λ (c : ClientState). sent_here c.here c.kept) s.clients (map new_state limits) below,
  λ m. to_more i (λ (c : ClientState). sent_in (resume_of (connected m c.kept.sender) 0)) s.clients (map new_state limits) below,
)
