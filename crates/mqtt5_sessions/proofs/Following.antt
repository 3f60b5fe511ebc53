-- What a broker keeps of a network, after each event of a client.
use Rattle.std.proofs.Common.{◌≡◌, ℕ, zero, suc, Bool, true, false, List, [], ◌∷◌, ◌++◌, length, drop, map, Option, Some, None, Result, Ok, Err, refl, sym, ap, ◌∙◌, subst, append-nil}
use Rattle.std.specs.Prelude.{slice_get, unwrap_or}
use Rattle.std.proofs.Math.Seq.{drop-append_seam, drop-length}
use Rattle.mqtt5_base.specs.Texts.{Utf8}
use Rattle.mqtt5_publish.specs.declared.publish.Publish.{Publish}
use Rattle.mqtt5_codec.specs.declared.packet.Packet.{Packet}
use Rattle.mqtt5_inflight.specs.declared.event.Request.TheVariants as requests
use Rattle.mqtt5_inflight.specs.declared.error.StateError.{StateError}
use Rattle.mqtt5_session.specs.Session.{Session}
use Rattle.mqtt5_session.specs.Requests.{on_request}
use Rattle.mqtt5_world.specs.Broker.{Broker}
use Rattle.mqtt5_network.specs.declared.event.ClientEvent.{ClientEvent}
use Rattle.mqtt5_network.specs.declared.event.ClientEvent.TheVariants as events
use Rattle.mqtt5_network.specs.declared.event.Will.{Will}
use Rattle.mqtt5_network.specs.Connection.{is_sending}
use Rattle.mqtt5_network.specs.Asking.{is_ack}
use Rattle.mqtt5_network.specs.Retained.{retains, retained_after, retained_of, copies_for, copies_first}
use Rattle.mqtt5_network.specs.Client.{Client, comes_to, goes_up, taken_for, passes_on}
use Rattle.mqtt5_network.specs.Place.{Place, passes as passes_at, lost_message, waiting, replaced_message, due_message, not_due, left_will, message_of, happens_at, becomes, becomes_with, queues_at, gets_at}
use Rattle.mqtt5_network.specs.Network.{Network, changed, new_of, newly, routes, happens_in}
use Rattle.mqtt5_router.specs.Kept.{Kept, new_kept, without_events, without_first, kept_of, after_packet}
use Rattle.mqtt5_router.proofs.Alone.{packet_kept, packet_handed, pass_kept}
use Rattle.mqtt5_sessions.proofs.Quiet.{heard_kept, heard_handed, passed_kept, taken_kept}
use Rattle.mqtt5_sessions.specs.Sessions.{ClientState, state_of, sessions_of, gets, queues, queues_all, with_client, of_client, changes, arrives, passes_here, passes, takes_out, loses, is_due, with_dated_will, dates, with_turn_of, turns, leaves, taken_up, comes, ends}

-- ---- the clients

changed_state : (i : ℕ) (f : Place → Place) (g : ClientState → ClientState) (ps : List Place) → ((p : Place) → slice_get ps i ≡ Some p → state_of (f p) ≡ g (state_of p)) → map state_of (changed i f ps) ≡ with_client i g (map state_of ps)
changed_state i f g [] same = refl
changed_state zero f g (p ∷ ps) same = ap (λ c. c ∷ map state_of ps) (same p refl)
changed_state (suc i) f g (p ∷ ps) same = ap (λ cs. state_of p ∷ cs) (changed_state i f g ps same)

newly_state : (i : ℕ) (f : Place → Place) (m : ClientState → List Publish) (ps : List Place) → ((p : Place) → slice_get ps i ≡ Some p → new_of p (f p) ≡ m (state_of p)) → newly i f ps ≡ of_client i m (map state_of ps)
newly_state i f m [] same = refl
newly_state zero f m (p ∷ ps) same = same p refl
newly_state (suc i) f m (p ∷ ps) same = newly_state i f m ps same

map_queues : (own : Bool) (xs : List Publish) (ps : List Place) → map state_of (map (queues_at own xs) ps) ≡ map (queues own xs) (map state_of ps)
map_queues own xs [] = refl
map_queues own xs (p ∷ ps) = ap (λ cs. queues own xs (state_of p) ∷ cs) (map_queues own xs ps)

routes_state : (i : ℕ) (xs : List Publish) (ps : List Place) → map state_of (routes i xs ps) ≡ queues_all i xs (map state_of ps)
routes_state i xs [] = refl
routes_state zero xs (p ∷ ps) = ap (λ cs. queues true xs (state_of p) ∷ cs) (map_queues false xs ps)
routes_state (suc i) xs (p ∷ ps) = ap (λ cs. queues false xs (state_of p) ∷ cs) (routes_state i xs ps)

-- ---- what is retained

retained_more : (kept xs ys : List Publish) → retained_after kept (xs ++ ys) ≡ retained_after (retained_after kept xs) ys
retained_more kept [] ys = refl
retained_more kept (x ∷ xs) ys = retained_more (retains kept x) xs ys

-- ---- an event, by what it makes of the client at its place

pub record Makes (n : Network) (e : ClientEvent) (g : ClientState → ClientState) (m : ClientState → List Publish) (p : Place) : Type 0 where
  pub state : state_of (becomes_with n.handed e p) ≡ g (state_of p)
  pub new : new_of p (happens_at p e) ≡ m (state_of p)

pub follows : (n : Network) (i : ℕ) (e : ClientEvent) (g : ClientState → ClientState) (m : ClientState → List Publish) → ((p : Place) → slice_get n.places i ≡ Some p → Makes n e g m p) → sessions_of (happens_in n (record { client = i; what = e })) ≡ changes i g m (sessions_of n)
follows n i e g m makes =
    let f : Place → Place = becomes_with n.handed e in
    let new : List Publish = newly i (λ p. happens_at p e) n.places in
    let a : new ≡ of_client i m (map state_of n.places) = newly_state i (λ p. happens_at p e) m n.places (λ p h. (makes p h).new) in
    let b : map state_of (changed i f n.places) ≡ with_client i g (map state_of n.places) = changed_state i f g n.places (λ p h. (makes p h).state) in
    let c : map state_of (routes i new (changed i f n.places)) ≡ queues_all i (of_client i m (map state_of n.places)) (with_client i g (map state_of n.places)) =
    routes_state i new (changed i f n.places) ∙ (λ j. queues_all i (a j) (b j)) in
    let d : retained_of (n.handed ++ new) ≡ retained_after (retained_of n.handed) (of_client i m (map state_of n.places)) =
    retained_more [] n.handed new ∙ ap (λ xs. retained_after (retained_of n.handed) xs) a in
    λ j. record { clients = c j; retained = d j }

-- ---- lists that grow

grown : (xs ys zs : List Publish) → zs ≡ xs ++ ys → drop (length xs) zs ≡ ys
grown xs ys zs e = ap (λ zs. drop (length xs) zs) e ∙ drop-append_seam xs ys

-- no copies
pub none : (c : ClientState) → gets [] c ≡ c
none c = λ j. record c { kept = record c.kept { queue = append-nil c.kept.queue j } }

-- ---- a packet arrives

arrived_new : (p : Place) (x : Packet) (way : List Packet) → new_of p (record p { client = comes_to (is_sending x) (is_ack x) (record p.client { up = way }) x }) ≡ (after_packet (without_events (kept_of p.client)) x).receiver.handed
arrived_new p x way =
    let c : Client = record p.client { up = way } in
    (λ j. grown p.client.receiver.handed (after_packet (kept_of c) x).receiver.handed (comes_to (is_sending x) (is_ack x) c x).receiver.handed (packet_handed c x) j ++ drop-length p.willed j)
    ∙ append-nil (after_packet (kept_of p.client) x).receiver.handed
    ∙ sym (heard_handed (kept_of p.client) x)

arrived_state : (handed : List Publish) (p : Place) (x : Packet) (way : List Packet)
    → state_of (gets_at (copies_for (retained_of handed) p.client.subscriptions x) (record p { client = comes_to (is_sending x) (is_ack x) (record p.client { up = way }) x }))
    ≡ gets (copies_for (retained_of handed) p.client.subscriptions x) (record (state_of p) { kept = without_events (kept_of (after_packet (without_events (kept_of p.client)) x)) })
arrived_state handed p x way =
    ap (λ (k : Kept). record { kept = record k { queue = k.queue ++ copies_for (retained_of handed) p.client.subscriptions x }; here = p.here; will = p.will })
    (ap without_events (packet_kept (record p.client { up = way }) x) ∙ sym (heard_kept (kept_of p.client) x))

arriving : (n : Network) (x : Packet) (way : List Packet) (p : Place) → p.client.up ≡ x ∷ way → Makes n events.Up
    (λ (c : ClientState). gets (copies_for (retained_of n.handed) c.kept.subscriptions x) (record c { kept = without_events (kept_of (after_packet c.kept x)) }))
    (λ (c : ClientState). (after_packet c.kept x).receiver.handed) p
arriving n x way p e = record {
  state =
      ap (λ us. state_of (gets_at (copies_first (retained_of n.handed) p.client.subscriptions us) (record p { client = goes_up p.client us }))) e
      ∙ arrived_state n.handed p x way;
  new = ap (λ us. new_of p (record p { client = goes_up p.client us })) e ∙ arrived_new p x way;
}

pub follows_up : (n : Network) (i : ℕ) (p : Place) (x : Packet) (way : List Packet) → slice_get n.places i ≡ Some p → p.client.up ≡ x ∷ way
    → sessions_of (happens_in n (record { client = i; what = events.Up })) ≡ arrives i x (sessions_of n)
follows_up n i p x way at e =
    follows n i events.Up
    (λ (c : ClientState). gets (copies_for (retained_of n.handed) c.kept.subscriptions x) (record c { kept = without_events (kept_of (after_packet c.kept x)) }))
    (λ (c : ClientState). (after_packet c.kept x).receiver.handed)
    (λ q h. let s : p ≡ q = ap (λ (o : Option Place). unwrap_or o p) (sym at ∙ h) in arriving n x way q (subst (λ (q : Place). q.client.up ≡ x ∷ way) s e))

-- ---- the first of the queue is passed on

taken_receiver : (c : Client) (p : Publish) (rest : List Publish) (r : Result (Option Packet) StateError) (s : Session) → (taken_for c p rest r s).receiver ≡ c.receiver
taken_receiver c p rest (Ok reply) s = refl
taken_receiver c p rest (Err e) s = refl

passes_receiver : (c : Client) (ps : List Publish) → (passes_on c ps).receiver ≡ c.receiver
passes_receiver c [] = refl
passes_receiver c (p ∷ rest) = taken_receiver c p rest (on_request c.sender (requests.Publish p) 0).0 (on_request c.sender (requests.Publish p) 0).1

here_receiver : (b : Bool) (c : Client) → (passes_at b c).receiver ≡ c.receiver
here_receiver true c = passes_receiver c c.queue
here_receiver false c = refl

here_kept : (b : Bool) (c : Client) → without_events (kept_of (passes_at b c)) ≡ passes_here b (without_events (kept_of c))
here_kept true c = ap without_events (pass_kept c) ∙ sym (passed_kept (kept_of c))
here_kept false c = refl

pub nothing_new : (p q : Place) → q.client.receiver.handed ≡ p.client.receiver.handed → q.willed ≡ p.willed → new_of p q ≡ []
nothing_new p q e w =
    (λ j. (ap (λ xs. drop (length p.client.receiver.handed) xs) e ∙ drop-length p.client.receiver.handed) j ++ (ap (λ xs. drop (length p.willed) xs) w ∙ drop-length p.willed) j)

pub follows_pass : (n : Network) (i : ℕ) → sessions_of (happens_in n (record { client = i; what = events.PassOn })) ≡ passes i (sessions_of n)
follows_pass n i =
    follows n i events.PassOn (λ (c : ClientState). record c { kept = passes_here c.here c.kept }) (λ c. [])
    (λ p h. record {
      state = none (state_of (record p { client = passes_at p.here p.client })) ∙ ap (λ (k : Kept). record { kept = k; here = p.here; will = p.will }) (here_kept p.here p.client);
      new = nothing_new p (record p { client = passes_at p.here p.client }) (ap (λ (b : Broker). b.handed) (here_receiver p.here p.client)) refl;
    })

-- ---- it has expired

pub follows_expire : (n : Network) (i : ℕ) → sessions_of (happens_in n (record { client = i; what = events.Expire })) ≡ takes_out i (sessions_of n)
follows_expire n i =
    follows n i events.Expire (λ (c : ClientState). record c { kept = without_first c.kept }) (λ c. [])
    (λ p h. record { state = none (state_of (happens_at p events.Expire)); new = nothing_new p (happens_at p events.Expire) refl refl })

-- ---- its will

willed_new : (p q : Place) (xs : List Publish) → q.client.receiver.handed ≡ p.client.receiver.handed → q.willed ≡ p.willed ++ xs → new_of p q ≡ xs
willed_new p q xs e w =
    (λ j. (ap (λ ys. drop (length p.client.receiver.handed) ys) e ∙ drop-length p.client.receiver.handed) j ++ grown p.willed xs q.willed w j)

pub follows_lost : (n : Network) (i : ℕ) → sessions_of (happens_in n (record { client = i; what = events.Lost })) ≡ loses i (sessions_of n)
follows_lost n i =
    follows n i events.Lost (λ (c : ClientState). record c { here = false; will = waiting c.will }) (λ (c : ClientState). lost_message c.will)
    (λ p h. record { state = none (state_of (happens_at p events.Lost)); new = willed_new p (happens_at p events.Lost) (lost_message p.will) refl refl })

pub follows_due : (n : Network) (i : ℕ) → sessions_of (happens_in n (record { client = i; what = events.Due })) ≡ is_due i (sessions_of n)
follows_due n i =
    follows n i events.Due (λ (c : ClientState). record c { will = not_due c.here c.will }) (λ (c : ClientState). due_message c.here c.will)
    (λ p h. record { state = none (state_of (happens_at p events.Due)); new = willed_new p (happens_at p events.Due) (due_message p.here p.will) refl refl })

pub follows_dated : (n : Network) (i : ℕ) (interval : Option ℕ) → sessions_of (happens_in n (record { client = i; what = events.Dated interval })) ≡ dates i interval (sessions_of n)
follows_dated n i interval =
    follows n i (events.Dated interval) (with_dated_will interval) (λ c. [])
    (λ p h. record { state = none (state_of (happens_at p (events.Dated interval))); new = nothing_new p (happens_at p (events.Dated interval)) refl refl })

pub follows_turn : (n : Network) (i : ℕ) (f : Utf8) (turn : Bool) → sessions_of (happens_in n (record { client = i; what = events.Turn f turn })) ≡ turns i f turn (sessions_of n)
follows_turn n i f turn =
    follows n i (events.Turn f turn) (with_turn_of f turn) (λ c. [])
    (λ p h. record { state = none (state_of (happens_at p (events.Turn f turn))); new = nothing_new p (happens_at p (events.Turn f turn)) refl refl })

pub follows_left : (n : Network) (i : ℕ) → sessions_of (happens_in n (record { client = i; what = events.Left })) ≡ leaves i (sessions_of n)
follows_left n i =
    follows n i events.Left (λ (c : ClientState). record c { here = false; will = left_will c.here c.will }) (λ c. [])
    (λ p h. record { state = none (state_of (happens_at p events.Left)); new = nothing_new p (happens_at p events.Left) refl refl })

pub follows_back : (n : Network) (i : ℕ) (a b : Option ℕ) (will : Option Will) → sessions_of (happens_in n (record { client = i; what = events.Back a b will })) ≡ comes i b will (sessions_of n)
follows_back n i a b will =
    follows n i (events.Back a b will) (λ (c : ClientState). record { kept = taken_up b c.kept; here = true; will = will }) (λ (c : ClientState). replaced_message c.here c.will)
    (λ p h. record { state = none (state_of (happens_at p (events.Back a b will))) ∙ ap (λ (k : Kept). record { kept = k; here = true; will = will }) (sym (taken_kept b (kept_of p.client))); new = willed_new p (happens_at p (events.Back a b will)) (replaced_message p.here p.will) refl refl })

pub follows_ends : (n : Network) (i : ℕ) → sessions_of (happens_in n (record { client = i; what = events.Ends })) ≡ ends i (sessions_of n)
follows_ends n i =
    follows n i events.Ends (λ (c : ClientState). record { kept = new_kept c.kept.sender.core.limit []; here = false; will = None }) (λ (c : ClientState). message_of c.will)
    (λ p h. record { state = none (state_of (becomes p events.Ends)); new = willed_new p (happens_at p events.Ends) (message_of p.will) refl refl })
