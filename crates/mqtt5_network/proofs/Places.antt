-- A client that is away is one whose packets on their way aren't seen: each event keeps it a client as it has to be.
use Rattle.std.proofs.Common.{◌≡◌, ℕ, ◌≤◌, Bool, true, false, cond, List, [], ◌∷◌, ◌++◌, length, Option, Some, None, Result, Ok, Err, refl, sym, ap, ◌∙◌, subst, arith, ◌⊎◌, inl, inr, ⊎_elim, append-nil}
use Rattle.std.specs.Option.{option_to_list}
use Rattle.mqtt5_publish.specs.declared.publish.Publish.{Publish}
use Rattle.mqtt5_codec.specs.declared.packet.Packet.{Packet}
use Rattle.mqtt5_inflight.specs.declared.event.Request.{Request}
use Rattle.mqtt5_inflight.specs.declared.event.Request.TheVariants as requests
use Rattle.mqtt5_inflight.specs.declared.error.StateError.{StateError}
use Rattle.mqtt5_session.specs.Session.{Session}
use Rattle.mqtt5_session.specs.Requests.{on_request}
use Rattle.mqtt5_network.specs.declared.event.ClientEvent.{ClientEvent}
use Rattle.mqtt5_network.specs.declared.event.ClientEvent.TheVariants as events
use Rattle.mqtt5_network.specs.Client.{Client, routed, asked_of, sends_of, asks_for, requests_for, goes_up, goes_down, taken_for, passes_on, takes_out, takes_turn}
use Rattle.mqtt5_network.specs.declared.event.Will.{Will}
use Rattle.mqtt5_network.specs.Place.{Place, message_of, lost_message, replaced_message, due_message, cut_off, sent_from, passes, loses, ended, happens_at, renewed, becomes, ends_of, queues_at, gets_at}
use Rattle.mqtt5_network.specs.Granted.{GoesOn, KeepsSubscriptions}
use Rattle.mqtt5_network.specs.Answered.{asked_by, IsClear}
use Rattle.mqtt5_network.proofs.Telling.{subscribe_same, unsubscribe_same, turned_without, Tells, tells_same, tells_lost, asked_away, requests_away}
use Rattle.mqtt5_network.proofs.Moves as moves
use Rattle.mqtt5_network.proofs.Grown.{Grows}
use Rattle.mqtt5_network.proofs.Good.{Quiet, client_grows, client_quiet, client_tells, back_heard, back_answered, back_told, routed_same}
use Rattle.mqtt5_network.proofs.Clients.{IsClient, AreCopies, client_start, client_moved, client_queues, client_turned, client_gets}

-- ---- here and away

-- a client with these packets on their way
abbrev pub seen : Client → List Packet → List Packet → Client
seen c up down = record c { up = up; down = down }

-- with some
pub record IsHidden (handed : List Publish) (c : Client) : Type 0 where
  pub up : List Packet
  pub down : List Packet
  pub client : IsClient handed (seen c up down)

pub record IsHere (handed : List Publish) (p : Place) : Type 0 where
  pub is : p.here ≡ true
  pub client : IsClient handed p.client

pub record IsGone (handed : List Publish) (p : Place) : Type 0 where
  pub is : p.here ≡ false
  pub up : p.client.up ≡ []
  pub down : p.client.down ≡ []
  pub hidden : IsHidden handed p.client

abbrev pub IsPlace : List Publish → Place → Type 0
IsPlace handed p = IsHere handed p ⊎ IsGone handed p

-- it asks for something while it is away
module _ (handed : List Publish) (c : Client) (h : IsHidden handed c) where
  hidden_asked : (x : Publish) → IsHidden handed (cut_off (asks_for c x))
  hidden_asked x = by (on_request c.session (requests.Publish x) 0).0 (on_request c.session (requests.Publish x) 0).1 (client_moved handed (moves.Ask x) (seen c h.up h.down) h.client)
    where
      by : (r : Result (Option Packet) StateError) (t : Session) → IsClient handed (asked_of (seen c h.up h.down) x r t) → IsHidden handed (cut_off (asked_of c x r t))
      by (Ok reply) t i = record { up = h.up ++ option_to_list reply; down = h.down; client = i }
      by (Err e) t i = record { up = h.up; down = h.down; client = i }

  hidden_sends : (r : Result (Option Packet) StateError) (t : Session) → IsClient handed (sends_of (seen c h.up h.down) r t) → IsHidden handed (cut_off (sends_of c r t))
  hidden_sends (Ok reply) t i = record { up = h.up ++ option_to_list reply; down = h.down; client = i }
  hidden_sends (Err e) t i = record { up = h.up; down = h.down; client = i }

  hidden_requests : (r : Request) → IsClient handed (requests_for (seen c h.up h.down) r) → IsHidden handed (cut_off (requests_for c r))
  hidden_requests r i = hidden_sends (on_request c.session r 0).0 (on_request c.session r 0).1 i

-- ---- each event, by whether it is here

module _ (handed : List Publish) (p : Place) where
  here_sent : (c : Client) → IsClient handed c → IsHere handed p → IsPlace handed (record p { client = sent_from p.here c })
  here_sent c i h = inl (record { is = h.is; client = subst (λ b. IsClient handed (sent_from b c)) (sym h.is) i })

  gone_sent : (c : Client) → IsHidden handed (cut_off c) → IsGone handed p → IsPlace handed (record p { client = sent_from p.here c })
  gone_sent c i h = inr (subst (λ b. IsGone handed (record { client = sent_from b c; here = b; will = p.will; willed = p.willed })) (sym h.is) (record { is = refl; up = refl; down = refl; hidden = i }))

  here_lost : IsHere handed p → IsGone handed (loses p)
  here_lost h = record { is = refl; up = refl; down = refl; hidden = record { up = p.client.up; down = p.client.down; client = h.client } }

  here_ended : IsHere handed p → IsGone handed (ended p)
  here_ended h = record { is = refl; up = refl; down = refl; hidden = record { up = p.client.up; down = p.client.down; client = h.client } }

  gone_lost : IsGone handed p → IsGone handed (loses p)
  gone_lost h = record { is = refl; up = refl; down = refl; hidden = record { up = h.hidden.up; down = h.hidden.down; client = h.hidden.client } }

  gone_ended : IsGone handed p → IsGone handed (ended p)
  gone_ended h = record { is = refl; up = refl; down = refl; hidden = record { up = h.hidden.up; down = h.hidden.down; client = h.hidden.client } }

  here_next : (e : ClientEvent) → IsHere handed p → IsPlace handed (happens_at p e)
  here_next (events.Ask x) h = here_sent _ (client_moved handed (moves.Ask x) p.client h.client) h
  here_next (events.Subscribe x) h = here_sent _ (client_moved handed (moves.Subscribing x) p.client h.client) h
  here_next (events.Unsubscribe x) h = here_sent _ (client_moved handed (moves.Unsubscribing x) p.client h.client) h
  here_next events.Up h = inl (record { is = h.is; client = client_moved handed moves.Up p.client h.client })
  here_next events.Down h = inl (record { is = h.is; client = client_moved handed moves.Down p.client h.client })
  here_next events.PassOn h = inl (record { is = h.is; client = subst (λ b. IsClient handed (passes b p.client)) (sym h.is) (client_moved handed moves.PassOn p.client h.client) })
  here_next events.Lost h = inr (here_lost h)
  here_next events.Left h = inr (record { is = refl; up = refl; down = refl; hidden = record { up = p.client.up; down = p.client.down; client = h.client } })
  here_next (events.Turn f turn) h = inl (record { is = h.is; client = client_turned handed f turn p.client h.client })
  here_next events.Due h = inl (record { is = h.is; client = h.client })
  here_next (events.Dated interval) h = inl (record { is = h.is; client = h.client })
  here_next events.Expire h = inl (record { is = h.is; client = client_moved handed moves.Expire p.client h.client })
  here_next (events.Back m n w) h = inl (record { is = refl; client = client_moved handed (moves.Back m n) p.client h.client })
  here_next events.Ends h = inr (here_ended h)

  gone_next : (e : ClientEvent) → IsGone handed p → IsPlace handed (happens_at p e)
  gone_next (events.Ask x) h = gone_sent _ (hidden_asked handed p.client h.hidden x) h
  gone_next (events.Subscribe x) h = gone_sent _ (hidden_requests handed p.client h.hidden (requests.Subscribe x) (client_moved handed (moves.Subscribing x) (seen p.client h.hidden.up h.hidden.down) h.hidden.client)) h
  gone_next (events.Unsubscribe x) h = gone_sent _ (hidden_requests handed p.client h.hidden (requests.Unsubscribe x) (client_moved handed (moves.Unsubscribing x) (seen p.client h.hidden.up h.hidden.down) h.hidden.client)) h
  gone_next events.Up h = inr (subst (λ us. IsGone handed (record p { client = goes_up p.client us })) (sym h.up) h)
  gone_next events.Down h = inr (subst (λ ds. IsGone handed (record p { client = goes_down p.client ds })) (sym h.down) h)
  gone_next events.PassOn h = inr (subst (λ b. IsGone handed (record p { client = passes b p.client })) (sym h.is) h)
  gone_next events.Lost h = inr (gone_lost h)
  gone_next events.Left h = inr (record { is = refl; up = refl; down = refl; hidden = record { up = h.hidden.up; down = h.hidden.down; client = h.hidden.client } })
  gone_next (events.Turn f turn) h = inr (record { is = h.is; up = h.up; down = h.down; hidden = record { up = h.hidden.up; down = h.hidden.down; client = client_turned handed f turn (seen p.client h.hidden.up h.hidden.down) h.hidden.client } })
  gone_next events.Due h = inr (record { is = h.is; up = h.up; down = h.down; hidden = record { up = h.hidden.up; down = h.hidden.down; client = h.hidden.client } })
  gone_next (events.Dated interval) h = inr (record { is = h.is; up = h.up; down = h.down; hidden = record { up = h.hidden.up; down = h.hidden.down; client = h.hidden.client } })
  gone_next events.Expire h = inr (record { is = h.is; up = h.up; down = h.down; hidden = record { up = h.hidden.up; down = h.hidden.down; client = client_moved handed moves.Expire (seen p.client h.hidden.up h.hidden.down) h.hidden.client } })
  gone_next (events.Back m n w) h = inl (record { is = refl; client = client_moved handed (moves.Back m n) (seen p.client h.hidden.up h.hidden.down) h.hidden.client })
  gone_next events.Ends h = inr (gone_ended h)

  pub place_next : (e : ClientEvent) → IsPlace handed p → IsPlace handed (happens_at p e)
  place_next e i = ⊎_elim (λ (h : IsHere handed p). here_next e h) (λ (h : IsGone handed p). gone_next e h) i

  -- publishes go into its queue
  pub place_queues : (more : List Publish) (own : Bool) → IsPlace handed p → IsPlace (handed ++ more) (queues_at own more p)
  place_queues more own i = ⊎_elim
      (λ (h : IsHere handed p). inl (record { is = h.is; client = client_queues handed more own p.client h.client }))
      (λ (h : IsGone handed p). inr (record { is = h.is; up = h.up; down = h.down; hidden = record { up = h.hidden.up; down = h.hidden.down; client = client_queues handed more own (seen p.client h.hidden.up h.hidden.down) h.hidden.client } }))
      i

  -- and as they are
  pub place_gets : (xs : List Publish) → AreCopies xs → IsPlace handed p → IsPlace handed (gets_at xs p)
  place_gets xs copies i = ⊎_elim
      (λ (h : IsHere handed p). inl (record { is = h.is; client = client_gets handed xs p.client copies h.client }))
      (λ (h : IsGone handed p). inr (record { is = h.is; up = h.up; down = h.down; hidden = record { up = h.hidden.up; down = h.hidden.down; client = client_gets handed xs (seen p.client h.hidden.up h.hidden.down) copies h.hidden.client } }))
      i

  -- a new session
  new_place : IsPlace handed (renewed p)
  new_place = inr (record { is = refl; up = refl; down = refl; hidden = record { up = []; down = []; client = client_start handed p.client.session.core.limit p.client.sender.core.limit [] } })

-- where the session goes on, the client becomes what happens to it
pub goes_on : (p : Place) (e : ClientEvent) → GoesOn e → (becomes p e ≡ happens_at p e) × (ends_of p e ≡ [])
goes_on p (events.Ask x) g = (refl, refl)
goes_on p (events.Subscribe x) g = (refl, refl)
goes_on p (events.Unsubscribe x) g = (refl, refl)
goes_on p events.Up g = (refl, refl)
goes_on p events.Down g = (refl, refl)
goes_on p events.PassOn g = (refl, refl)
goes_on p events.Lost g = (refl, refl)
goes_on p events.Left g = (refl, refl)
goes_on p (events.Turn f turn) g = (refl, refl)
goes_on p events.Due g = (refl, refl)
goes_on p (events.Dated interval) g = (refl, refl)
goes_on p events.Expire g = (refl, refl)
goes_on p (events.Back m n w) g = (refl, refl)
goes_on p events.Ends g = absurd g

-- it does, or it ends
pub data Course : ClientEvent → Type 0 where
  On : (e : ClientEvent) → GoesOn e → Course e
  End : Course events.Ends

pub course : (e : ClientEvent) → Course e
course (events.Ask x) = On (events.Ask x) tt
course (events.Subscribe x) = On (events.Subscribe x) tt
course (events.Unsubscribe x) = On (events.Unsubscribe x) tt
course events.Up = On events.Up tt
course events.Down = On events.Down tt
course events.PassOn = On events.PassOn tt
course events.Lost = On events.Lost tt
course events.Left = On events.Left tt
course (events.Turn f turn) = On (events.Turn f turn) tt
course events.Due = On events.Due tt
course (events.Dated interval) = On (events.Dated interval) tt
course events.Expire = On events.Expire tt
course (events.Back m n w) = On (events.Back m n w) tt
course events.Ends = End

pub place_becomes : (handed : List Publish) (p : Place) (e : ClientEvent) → IsPlace handed p → IsPlace handed (becomes p e)
place_becomes handed p e i = by e (course e)
  where
    by : (e : ClientEvent) → Course e → IsPlace handed (becomes p e)
    by _ (On e g) = subst (IsPlace handed) (sym (goes_on p e g).0) (place_next handed p e i)
    by _ End = new_place handed p

-- ---- what it hands on, and what was put into its queue

stays : (old new : List Publish) → new ≡ old → Grows old new
stays old new e = record { more = []; grown = e ∙ sym (append-nil old); few = omega arith }

sent_handed : (b : Bool) (c : Client) → (sent_from b c).receiver.handed ≡ c.receiver.handed
sent_handed true c = refl
sent_handed false c = refl

asked_handed : (c : Client) (x : Publish) (r : Result (Option Packet) StateError) (t : Session) → (asked_of c x r t).receiver.handed ≡ c.receiver.handed
asked_handed c x (Ok reply) t = refl
asked_handed c x (Err e) t = refl

sends_handed : (c : Client) (r : Result (Option Packet) StateError) (t : Session) → (sends_of c r t).receiver.handed ≡ c.receiver.handed
sends_handed c (Ok reply) t = refl
sends_handed c (Err e) t = refl

down_handed : (c : Client) (ds : List Packet) → (goes_down c ds).receiver.handed ≡ c.receiver.handed
down_handed c [] = refl
down_handed c (x ∷ ds) = refl

taken_handed : (c : Client) (x : Publish) (rest : List Publish) (r : Result (Option Packet) StateError) (t : Session) → (taken_for c x rest r t).receiver.handed ≡ c.receiver.handed
taken_handed c x rest (Ok reply) t = refl
taken_handed c x rest (Err e) t = refl

passed_handed : (c : Client) (q : List Publish) → (passes_on c q).receiver.handed ≡ c.receiver.handed
passed_handed c [] = refl
passed_handed c (x ∷ rest) = taken_handed c x rest (on_request c.sender (requests.Publish x) 0).0 (on_request c.sender (requests.Publish x) 0).1

passes_handed : (b : Bool) (c : Client) → (passes b c).receiver.handed ≡ c.receiver.handed
passes_handed true c = passed_handed c c.queue
passes_handed false c = refl

module _ (handed : List Publish) (p : Place) (i : IsPlace handed p) where
  up_grows : Grows p.client.receiver.handed (goes_up p.client p.client.up).receiver.handed
  up_grows = ⊎_elim
      (λ (h : IsHere handed p). client_grows h.client.limit h.client.sender_limit p.client h.client.good moves.Up)
      (λ (h : IsGone handed p). stays _ _ (ap (λ us. (goes_up p.client us).receiver.handed) h.up))
      i

  requests_grow : (r : Request) → Grows p.client.receiver.handed (sent_from p.here (requests_for p.client r)).receiver.handed
  requests_grow r = stays _ _ (sent_handed p.here (requests_for p.client r) ∙ sends_handed p.client (on_request p.client.session r 0).0 (on_request p.client.session r 0).1)

  pub place_grows : (e : ClientEvent) → Grows p.client.receiver.handed (happens_at p e).client.receiver.handed
  place_grows (events.Ask x) = stays _ _ (sent_handed p.here (asks_for p.client x) ∙ asked_handed p.client x (on_request p.client.session (requests.Publish x) 0).0 (on_request p.client.session (requests.Publish x) 0).1)
  place_grows (events.Subscribe x) = requests_grow (requests.Subscribe x)
  place_grows (events.Unsubscribe x) = requests_grow (requests.Unsubscribe x)
  place_grows events.Up = up_grows
  place_grows events.Down = stays _ _ (down_handed p.client p.client.down)
  place_grows events.PassOn = stays _ _ (passes_handed p.here p.client)
  place_grows events.Lost = stays _ _ refl
  place_grows events.Left = stays _ _ refl
  place_grows (events.Turn f turn) = stays _ _ refl
  place_grows events.Due = stays _ _ refl
  place_grows (events.Dated interval) = stays _ _ refl
  place_grows events.Expire = stays _ _ refl
  place_grows (events.Back m n w) = stays _ _ refl
  place_grows events.Ends = stays _ _ refl

message_few : (o : Option Will) → length (message_of o) ≤ 1
message_few None = omega arith
message_few (Some w) = omega arith

lost_few : (o : Option Will) → length (lost_message o) ≤ 1
lost_few None = omega arith
lost_few (Some w) = by w.delayed
  where
    by : (b : Bool) → length (cond b [] (w.publish ∷ [])) ≤ 1
    by true = omega arith
    by false = omega arith

replaced_few : (here : Bool) (o : Option Will) → length (replaced_message here o) ≤ 1
replaced_few true o = lost_few o
replaced_few false o = omega arith

due_few : (here : Bool) (o : Option Will) → length (due_message here o) ≤ 1
due_few true o = omega arith
due_few false o = message_few o

pub wills_grow : (p : Place) (e : ClientEvent) → Grows p.willed (happens_at p e).willed
wills_grow p (events.Ask x) = stays _ _ refl
wills_grow p (events.Subscribe x) = stays _ _ refl
wills_grow p (events.Unsubscribe x) = stays _ _ refl
wills_grow p events.Up = stays _ _ refl
wills_grow p events.Down = stays _ _ refl
wills_grow p events.PassOn = stays _ _ refl
wills_grow p events.Lost = record { more = lost_message p.will; grown = refl; few = lost_few p.will }
wills_grow p events.Left = stays _ _ refl
wills_grow p (events.Turn f turn) = stays _ _ refl
wills_grow p events.Due = record { more = due_message p.here p.will; grown = refl; few = due_few p.here p.will }
wills_grow p (events.Dated interval) = stays _ _ refl
wills_grow p events.Expire = stays _ _ refl
wills_grow p (events.Back m n w) = record { more = replaced_message p.here p.will; grown = refl; few = replaced_few p.here p.will }
wills_grow p events.Ends = record { more = message_of p.will; grown = refl; few = message_few p.will }

sent_routed : (b : Bool) (c : Client) → routed (sent_from b c) ≡ routed c
sent_routed true c = refl
sent_routed false c = refl

passes_routed : (b : Bool) (c : Client) → routed (passes b c) ≡ routed c
passes_routed true c = routed_same c moves.PassOn
passes_routed false c = refl

pub place_routed : (p : Place) (e : ClientEvent) → routed (happens_at p e).client ≡ routed p.client
place_routed p (events.Ask x) = sent_routed p.here (asks_for p.client x) ∙ routed_same p.client (moves.Ask x)
place_routed p (events.Subscribe x) = sent_routed p.here (requests_for p.client (requests.Subscribe x)) ∙ routed_same p.client (moves.Subscribing x)
place_routed p (events.Unsubscribe x) = sent_routed p.here (requests_for p.client (requests.Unsubscribe x)) ∙ routed_same p.client (moves.Unsubscribing x)
place_routed p events.Up = routed_same p.client moves.Up
place_routed p events.Down = routed_same p.client moves.Down
place_routed p events.PassOn = passes_routed p.here p.client
place_routed p events.Lost = refl
place_routed p events.Left = refl
place_routed p (events.Turn f turn) = refl
place_routed p events.Due = refl
place_routed p (events.Dated interval) = refl
place_routed p events.Expire = routed_same p.client moves.Expire
place_routed p (events.Back m n w) = refl
place_routed p events.Ends = refl

-- ---- its subscriptions

asked_kept : (c : Client) (x : Publish) (r : Result (Option Packet) StateError) (t : Session) → (asked_of c x r t).subscriptions ≡ c.subscriptions
asked_kept c x (Ok reply) t = refl
asked_kept c x (Err e) t = refl

taken_kept : (c : Client) (x : Publish) (rest : List Publish) (r : Result (Option Packet) StateError) (t : Session) → (taken_for c x rest r t).subscriptions ≡ c.subscriptions
taken_kept c x rest (Ok reply) t = refl
taken_kept c x rest (Err e) t = refl

module _ (handed : List Publish) (p : Place) where
  here_sent_quiet : (c : Client) → IsHere handed p → Quiet p.client c → Quiet p.client (sent_from p.here c)
  here_sent_quiet c h q = subst (λ b. Quiet p.client (sent_from b c)) (sym h.is) q

  here_quiet : (e : ClientEvent) → KeepsSubscriptions e → IsHere handed p → Quiet p.client (happens_at p e).client
  here_quiet (events.Ask x) k h = here_sent_quiet (asks_for p.client x) h (client_quiet h.client.limit h.client.sender_limit p.client h.client.good (moves.Ask x) (tt {0}))
  here_quiet (events.Subscribe x) k h = absurd k
  here_quiet (events.Unsubscribe x) k h = absurd k
  here_quiet events.Up k h = client_quiet h.client.limit h.client.sender_limit p.client h.client.good moves.Up (tt {0})
  here_quiet events.Down k h = client_quiet h.client.limit h.client.sender_limit p.client h.client.good moves.Down (tt {0})
  here_quiet events.PassOn k h = subst (λ b. Quiet p.client (passes b p.client)) (sym h.is) (client_quiet h.client.limit h.client.sender_limit p.client h.client.good moves.PassOn (tt {0}))
  here_quiet events.Lost k h = λ q. (refl, refl)
  here_quiet events.Left k h = λ q. (refl, refl)
  here_quiet (events.Turn f turn) k h = absurd k
  here_quiet events.Due k h = λ q. (q, refl)
  here_quiet (events.Dated interval) k h = λ q. (q, refl)
  here_quiet events.Expire k h = λ q. (q, refl)
  here_quiet (events.Back m n w) k h = client_quiet h.client.limit h.client.sender_limit p.client h.client.good (moves.Back m n) (tt {0})
  here_quiet events.Ends k h = absurd k

  gone_quiet : (e : ClientEvent) → KeepsSubscriptions e → IsGone handed p → Quiet p.client (happens_at p e).client
  gone_quiet (events.Ask x) k h =
      subst (λ b. Quiet p.client (sent_from b (asks_for p.client x))) (sym h.is)
      (λ q. (refl, asked_kept p.client x (on_request p.client.session (requests.Publish x) 0).0 (on_request p.client.session (requests.Publish x) 0).1))
  gone_quiet (events.Subscribe x) k h = absurd k
  gone_quiet (events.Unsubscribe x) k h = absurd k
  gone_quiet events.Up k h = subst (λ us. Quiet p.client (goes_up p.client us)) (sym h.up) (λ q. (q, refl))
  gone_quiet events.Down k h = subst (λ ds. Quiet p.client (goes_down p.client ds)) (sym h.down) (λ q. (q, refl))
  gone_quiet events.PassOn k h = subst (λ b. Quiet p.client (passes b p.client)) (sym h.is) (λ q. (q, refl))
  gone_quiet events.Lost k h = λ q. (refl, refl)
  gone_quiet events.Left k h = λ q. (refl, refl)
  gone_quiet (events.Turn f turn) k h = absurd k
  gone_quiet events.Due k h = λ q. (q, refl)
  gone_quiet (events.Dated interval) k h = λ q. (q, refl)
  gone_quiet events.Expire k h = λ q. (q, refl)
  gone_quiet (events.Back m n w) k h = λ q. (back_heard h.hidden.client.limit h.hidden.client.sender_limit (seen p.client h.hidden.up h.hidden.down) h.hidden.client.good m n, refl)
  gone_quiet events.Ends k h = absurd k

  -- they stay while the client asks for none, and no request for some is on its way up
  pub place_quiet : (e : ClientEvent) → KeepsSubscriptions e → IsPlace handed p → Quiet p.client (happens_at p e).client
  place_quiet e k i = ⊎_elim (λ (h : IsHere handed p). here_quiet e k h) (λ (h : IsGone handed p). gone_quiet e k h) i

-- ---- what it is told of them

module _ (handed : List Publish) (p : Place) where
  here_sent_tells : (c : Client) (asked : List Packet) → IsHere handed p → Tells p.client c asked → Tells p.client (sent_from p.here c) asked
  here_sent_tells c asked h t = subst (λ b. Tells p.client (sent_from b c) asked) (sym h.is) t

  gone_sent_tells : (c : Client) (asked : List Packet) → IsGone handed p → Tells p.client (cut_off c) asked → Tells p.client (sent_from p.here c) asked
  gone_sent_tells c asked h t = subst (λ b. Tells p.client (sent_from b c) asked) (sym h.is) t

  here_tells : (e : ClientEvent) → GoesOn e → IsHere handed p → Tells p.client (happens_at p e).client (asked_by e p.client.session)
  here_tells (events.Ask x) g h = here_sent_tells (asks_for p.client x) [] h (client_tells h.client.limit h.client.sender_limit p.client h.client.good (moves.Ask x))
  here_tells (events.Subscribe x) g h = here_sent_tells (requests_for p.client (requests.Subscribe x)) (asked_by (events.Subscribe x) p.client.session) h (client_tells h.client.limit h.client.sender_limit p.client h.client.good (moves.Subscribing x))
  here_tells (events.Unsubscribe x) g h = here_sent_tells (requests_for p.client (requests.Unsubscribe x)) (asked_by (events.Unsubscribe x) p.client.session) h (client_tells h.client.limit h.client.sender_limit p.client h.client.good (moves.Unsubscribing x))
  here_tells events.Up g h = client_tells h.client.limit h.client.sender_limit p.client h.client.good moves.Up
  here_tells events.Down g h = client_tells h.client.limit h.client.sender_limit p.client h.client.good moves.Down
  here_tells events.PassOn g h = subst (λ b. Tells p.client (passes b p.client) []) (sym h.is) (client_tells h.client.limit h.client.sender_limit p.client h.client.good moves.PassOn)
  here_tells events.Lost g h = tells_lost p.client (cut_off p.client) [] refl refl refl refl
  here_tells events.Left g h = tells_lost p.client (cut_off p.client) [] refl refl refl refl
  here_tells (events.Turn f turn) g h = tells_same p.client (takes_turn f turn p.client) refl refl refl (turned_without f turn p.client.subscriptions)
  here_tells events.Due g h = tells_same p.client p.client refl refl refl refl
  here_tells (events.Dated interval) g h = tells_same p.client p.client refl refl refl refl
  here_tells events.Expire g h = tells_same p.client (takes_out p.client) refl refl refl refl
  here_tells (events.Back m n w) g h = client_tells h.client.limit h.client.sender_limit p.client h.client.good (moves.Back m n)
  here_tells events.Ends g h = absurd g

  gone_tells : (e : ClientEvent) → GoesOn e → IsGone handed p → Tells p.client (happens_at p e).client (asked_by e p.client.session)
  gone_tells (events.Ask x) g h = gone_sent_tells (asks_for p.client x) [] h (asked_away p.client x)
  gone_tells (events.Subscribe x) g h = gone_sent_tells (requests_for p.client (requests.Subscribe x)) (asked_by (events.Subscribe x) p.client.session) h (requests_away p.client (requests.Subscribe x) (asked_by (events.Subscribe x) p.client.session) (subscribe_same p.client.session x))
  gone_tells (events.Unsubscribe x) g h = gone_sent_tells (requests_for p.client (requests.Unsubscribe x)) (asked_by (events.Unsubscribe x) p.client.session) h (requests_away p.client (requests.Unsubscribe x) (asked_by (events.Unsubscribe x) p.client.session) (unsubscribe_same p.client.session x))
  gone_tells events.Up g h = subst (λ us. Tells p.client (goes_up p.client us) []) (sym h.up) (tells_same p.client p.client refl refl refl refl)
  gone_tells events.Down g h = subst (λ ds. Tells p.client (goes_down p.client ds) []) (sym h.down) (tells_same p.client p.client refl refl refl refl)
  gone_tells events.PassOn g h = subst (λ b. Tells p.client (passes b p.client) []) (sym h.is) (tells_same p.client p.client refl refl refl refl)
  gone_tells events.Lost g h = tells_lost p.client (cut_off p.client) [] refl refl refl refl
  gone_tells events.Left g h = tells_lost p.client (cut_off p.client) [] refl refl refl refl
  gone_tells (events.Turn f turn) g h = tells_same p.client (takes_turn f turn p.client) refl refl refl (turned_without f turn p.client.subscriptions)
  gone_tells events.Due g h = tells_same p.client p.client refl refl refl refl
  gone_tells (events.Dated interval) g h = tells_same p.client p.client refl refl refl refl
  gone_tells events.Expire g h = tells_same p.client (takes_out p.client) refl refl refl refl
  gone_tells (events.Back m n w) g h = let c = seen p.client h.hidden.up h.hidden.down in let i = h.hidden.client in tells_lost p.client (happens_at p (events.Back m n w)).client [] (back_told i.limit i.sender_limit c i.good m n) (back_answered i.limit i.sender_limit c i.good m n) (back_heard i.limit i.sender_limit c i.good m n) refl
  gone_tells events.Ends g h = absurd g

  -- of what it asks for, while its session goes on
  pub place_tells : (e : ClientEvent) → GoesOn e → IsPlace handed p → Tells p.client (happens_at p e).client (asked_by e p.client.session)
  place_tells e g i = ⊎_elim (λ (h : IsHere handed p). here_tells e g h) (λ (h : IsGone handed p). gone_tells e g h) i

  -- on a new connection nothing of it is on its way
  pub place_clear : (m n : Option ℕ) (w : Option Will) → IsPlace handed p → IsClear (happens_at p (events.Back m n w)).client
  place_clear m n w i = ⊎_elim
      (λ (h : IsHere handed p). let j = h.client in record { up = back_heard j.limit j.sender_limit p.client j.good m n; down = back_answered j.limit j.sender_limit p.client j.good m n })
      (λ (h : IsGone handed p). let c = seen p.client h.hidden.up h.hidden.down in let j = h.hidden.client in record { up = back_heard j.limit j.sender_limit c j.good m n; down = back_answered j.limit j.sender_limit c j.good m n })
      i

-- ---- of what is said of it

pub hidden_of : (handed : List Publish) (p : Place) → IsPlace handed p → IsHidden handed p.client
hidden_of handed p i = ⊎_elim (λ (h : IsHere handed p). record { up = p.client.up; down = p.client.down; client = h.client }) (λ (h : IsGone handed p). h.hidden) i

-- one that is here
pub here_of : (handed : List Publish) (p : Place) → IsPlace handed p → p.here ≡ true → IsClient handed p.client
here_of handed p i e = ⊎_elim (λ (h : IsHere handed p). h.client) (λ (h : IsGone handed p). absurd (let z = sym e ∙ h.is in cc)) i
