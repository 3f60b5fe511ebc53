-- What happens to a client keeps both of its flows, and what it leaves in the queue is as it is to be forwarded.
use Rattle.std.proofs.Common.{◌≡◌, ℕ, ◌+◌, ◌-◌, ◌<◌, ◌≤◌, Bool, true, false, cond, List, [], ◌∷◌, ◌++◌, length, Option, None, Some, Result, Ok, Err, refl, sym, ap, ◌∙◌, subst, arith, append-nil, ◌==◌, count_by, append_assoc, length-append, take, drop, take-append-drop}
use Rattle.std.specs.Prelude.{sum_by}
use Rattle.std.specs.Option.{option_to_list}
use Rattle.std.proofs.lemmas.List.Sums.{sum_by-append, sum_by-cons}
use Rattle.mqtt5_progress.specs.Progress.{work, work_up, found}
use Rattle.mqtt5_network.specs.Steps.{work_from, work_about, work_to, filters_in, filters_up}
use Rattle.std.specs.List.{AllByRecursion, filter_map}
use Rattle.mqtt5_base.specs.declared.quality.QoS.{QoS}
use Rattle.mqtt5_base.specs.declared.quality.QoS.TheVariants.{AtMostOnce, AtLeastOnce, ExactlyOnce}
use Rattle.mqtt5_publish.specs.declared.publish.Publish.{Publish}
use Rattle.mqtt5_codec.specs.declared.packet.Packet.{Packet}
use Rattle.mqtt5_codec.specs.declared.packet.Packet.TheVariants as packets
use Rattle.mqtt5_inflight.specs.declared.event.Request.TheVariants as requests
use Rattle.mqtt5_inflight.specs.declared.error.StateError.{StateError}
use Rattle.mqtt5_inflight.specs.Aliases.{alias_of}
use Rattle.mqtt5_session.specs.Session.{Core, Session, Answer}
use Rattle.mqtt5_session.specs.Requests.{on_request, next_id, gives_id, with_event_at}
use Rattle.mqtt5_session.specs.Packets.{on_packet}
use Rattle.mqtt5_session.specs.Resuming.{resume_of}
use Rattle.mqtt5_session.specs.Ledger.{kept_by}
use Rattle.mqtt5_world.specs.Broker.{Broker, serve}
use Rattle.mqtt5_world.specs.World.{World}
use Rattle.mqtt5_progress.specs.Packets.{numbered}
use Rattle.mqtt5_progress.proofs.Closed.{Closed, IsSent, APublish, ARelease, again_of}
use Rattle.mqtt5_network.specs.Receiver.{as_receiver, IsPlain}
use Rattle.mqtt5_network.specs.Connection.{reply_in, is_sending, sent, connected, sent_in}
use Rattle.mqtt5_network.proofs.Grown.{IsForwarded, all_both, all_dropped, all_forwarded, Grows, new_few, none_new, same, serve_grows}
use Rattle.mqtt5_network.proofs.Taking.{back_range}
use Rattle.mqtt5_network.proofs.Sending.{InRange, Costs, Kept, Aside, IsAnswer, ToSubscribe, ToUnsubscribe, out_apart, ack_apart, ack_kept, back_kept, subscribe_aside, unsubscribe_aside, answer_aside}
use Rattle.mqtt5_network.proofs.Receiving.{Receives, receives}
use Rattle.mqtt5_network.proofs.Flow.{Sends, Others, first_sending, first_ack, first_other, behind_sends, behind_acks, behind_others, serve_acks, answer_others, flow, Ends, flow_of, IsFlow, start_flow, same_flow, Goes, Asked, holds_core, sends_out, asks, serves, goes_up as first_goes_up, is_ack, sends_back, comes_back, resumes_again, sends_on, loses}
use Rattle.mqtt5_network.specs.declared.subscription.Subscription.{Subscription}
use Rattle.mqtt5_network.specs.Asking.{is_ack as is_an_ack, acks, others, answer_of}
use Rattle.mqtt5_inflight.specs.declared.event.Outgoing.TheVariants as outgoing
use Rattle.mqtt5_inflight.specs.declared.error.StateError.TheVariants as errors
use Rattle.mqtt5_subscribe.specs.declared.subscribe.Subscribe.{Subscribe}
use Rattle.mqtt5_subscribe.specs.declared.unsubscribe.Unsubscribe.{Unsubscribe}
use Rattle.mqtt5_network.specs.Subscriptions.{forwarded_to}
use Rattle.mqtt5_network.specs.Answered.{answers_told}
use Rattle.mqtt5_network.specs.Client.{Client, routed, new_client, asked_of, sends_of, comes_to, goes_up, takes_in, goes_down, queues, taken_for, passes_on, takes_out, reconnects}
use Rattle.mqtt5_network.proofs.Telling.{Same, out_same, subscribe_same, unsubscribe_same, sending_same, ack_same, answer_more, back_same, Tells, tells_still, tells_same, tells_taken, tells_lost, tells_asked}
use Rattle.mqtt5_network.proofs.Moves.{Move, moved, AsksForNone, asked_in_move}
use Rattle.mqtt5_network.proofs.Moves as moves
use Rattle.mqtt5_network.proofs.Forwarding.{count_both}

-- ---- what is said of the packets of a flow

abbrev Any : Packet → Type 0
Any x = Unit {0}

any_closed : Closed Any
any_closed = record { ack = λ p q. tt {0}; first = λ p q. tt {0}; release = λ id q. tt {0}; complete = λ id reason q. tt {0}; again = λ p q. q }

-- what goes to a client is plain
abbrev Plain : Packet → Type 0
Plain (packets.Publish p) = alias_of p ≡ None
Plain other = Unit {0}

plain_closed : Closed Plain
plain_closed = record { ack = λ p q. tt {0}; first = λ p q. tt {0}; release = λ id q. tt {0}; complete = λ id reason q. tt {0}; again = λ p q. q }

plain_sent : (x : Packet) → IsSent x → Plain x → IsPlain x
plain_sent _ (APublish p) q = q
plain_sent _ (ARelease id) q = refl

numbered_plain : (q : QoS) (p : Publish) (c : Core) → alias_of p ≡ None → Plain (packets.Publish (numbered q c p))
numbered_plain AtMostOnce p c e = e
numbered_plain AtLeastOnce p c e = e
numbered_plain ExactlyOnce p c e = e

-- ---- what a sender is asked for

-- without the last id
abbrev without_last : Session → Session
without_last t = record t { core = record t.core { last = 0 } }

-- what asks for subscriptions is neither an ack nor sent by a sender
subscribe_others : (s : Session) (p : Subscribe) → Others (reply_in (on_request s (requests.Subscribe p) 0).0)
unfolding on_request
subscribe_others s p = by (length p.filters == 0)
  where
    made : Answer
    made = (Ok (Some (packets.Subscribe (record p { pkid = next_id s.core }))), with_event_at (gives_id s) (outgoing.Subscribe (next_id s.core)) 0)

    by : (b : Bool) → Others (reply_in (cond {A = Answer} b (Err errors.EmptySubscription, s) made).0)
    by true = record { all = refl; none = refl; rest = refl }
    by false = record { all = refl; none = refl; rest = refl }

unsubscribe_others : (s : Session) (p : Unsubscribe) → Others (reply_in (on_request s (requests.Unsubscribe p) 0).0)
unfolding on_request
unsubscribe_others s p = record { all = refl; none = refl; rest = refl }

-- ---- what is kept of a client

-- what it sends, and what is sent to it
abbrev ends_from : Client → Ends
ends_from c = record { sender = c.session; receiver = c.receiver; there = c.up; back = c.down; taken = c.accepted }

abbrev pub flow_from : Client → World
flow_from c = flow_of (ends_from c)

-- (of those that the sender took on)
abbrev ends_to : Client → List Publish → Ends
ends_to c passed = record { sender = c.sender; receiver = as_receiver c.session; there = c.down; back = c.up; taken = passed }

abbrev pub flow_to : Client → List Publish → World
flow_to c passed = flow_of (ends_to c passed)

-- both flows are runs, the client sends its acks itself, its sender's last id is within its limit, what is in its queue is as it is
-- forwarded, what left the queue the sender took on, or it had expired, and what comes down beside the flows answers a request for
-- subscriptions
pub record IsGood (limit sender_limit : ℕ) (c : Client) : Type 0 where
  pub from : IsFlow Any limit c.lost (flow_from c)
  pub passed : List Publish
  pub to : IsFlow Plain sender_limit c.lost (flow_to c passed)
  pub parts : (test : Publish → Bool) → count_by test c.taken ≡ count_by test passed + count_by test c.expired
  pub own : c.session.core.manual_acks ≡ false
  pub range : 0 < sender_limit → InRange c.sender.core
  pub queued : AllByRecursion IsForwarded c.queue
  pub told : AllByRecursion IsAnswer (others c.down)

-- where no request for subscriptions is on its way up, none is then, and the subscriptions stay
abbrev pub Quiet : Client → Client → Type 0
Quiet c d = others c.up ≡ [] → (others d.up ≡ []) × (d.subscriptions ≡ c.subscriptions)

pub record Stepped (limit sender_limit : ℕ) (c d : Client) : Type 0 where
  pub good : IsGood limit sender_limit d
  pub grows : Grows c.receiver.handed d.receiver.handed
  pub quiet : Quiet c d
  pub tells : Tells c d []

-- how many filters the first packet of a way asks for
abbrev pub filters_first : List Packet → ℕ
filters_first [] = 0
filters_first (x ∷ way) = filters_in x

-- a step leaves less work from a client by s and to it by t, at most s are handed on, m were found, and a request for so many filters
-- was taken in
pub record Less (c d : Client) (m filters : ℕ) : Type 0 where
  pub s : ℕ
  pub t : ℕ
  pub from : work_from d + s ≤ work_from c
  pub to : work_to d + t ≤ work_to c
  pub few : length (drop (length c.receiver.handed) d.receiver.handed) ≤ s
  pub found : m ≤ s + t
  pub asked : filters_up d + filters ≤ filters_up c

-- so it is with a delivery, and where the first of the queue is passed on
pub record Step (limit sender_limit : ℕ) (c d : Client) (m filters : ℕ) : Type 0 where
  pub stepped : Stepped limit sender_limit c d
  pub less : Less c d m filters

-- where nothing was found, nothing changes
idle : (c : Client) → Less c c 0 0
idle c = record { s = 0; t = 0; from = omega arith; to = omega arith; few = none_new c.receiver.handed; found = omega arith; asked = omega arith }

-- a packet of a flow asks for none
sent_none : (x : Packet) → is_sending x ≡ true → filters_in x ≡ 0
sent_none (packets.Publish p) e = refl
sent_none (packets.PubRel p) e = refl
sent_none other e = absurd cc

ack_none : (x : Packet) → is_an_ack x ≡ true → filters_in x ≡ 0
ack_none (packets.PubAck p) e = refl
ack_none (packets.PubRec p) e = refl
ack_none (packets.PubComp p) e = refl
ack_none other e = absurd cc

-- what is about subscriptions stays the same
same_about : (c d : Client) → others d.up ≡ others c.up → others d.down ≡ others c.down → work_about d ≡ work_about c
same_about c d e f = let a = ap length e in let b = ap length f in omega (arith, a, b)

one_answer : (o : Option Packet) → length (option_to_list o) ≤ 1
one_answer None = omega arith
one_answer (Some x) = omega arith

answers_behind : (xs ys : List Packet) → AllByRecursion IsAnswer xs → AllByRecursion IsAnswer ys → AllByRecursion IsAnswer (xs ++ ys)
answers_behind [] ys all more = more
answers_behind (x ∷ xs) ys all more = (all.0, answers_behind xs ys all.1 more)

answered : (ss : List Subscription) (x : Packet) → AllByRecursion IsAnswer (option_to_list (answer_of ss x))
answered ss (packets.Subscribe p) = (ToSubscribe _, tt)
answered ss (packets.Unsubscribe p) = (ToUnsubscribe _, tt)
answered ss other = tt

-- ---- events

module _ (limit sender_limit : ℕ) (c : Client) (i : IsGood limit sender_limit c) where
  nothing : Stepped limit sender_limit c c
  nothing = record { good = i; grows = same _ _ refl; quiet = λ q. (q, refl); tells = tells_same c c refl refl refl refl }

  nothing_found : Step limit sender_limit c c 0 0
  nothing_found = record { stepped = nothing; less = idle c }

  -- what is said of the packets down stays
  told_still : (way : List Packet) → others way ≡ others c.down → AllByRecursion IsAnswer (others way)
  told_still way e = subst (AllByRecursion IsAnswer) (sym e) i.told

  -- a publish is asked for
  asked_stepped : (p : Publish) → Stepped limit sender_limit c (asked_of c p (on_request c.session (requests.Publish p) 0).0 (on_request c.session (requests.Publish p) 0).1)
  asked_stepped p = by (on_request c.session (requests.Publish p) 0).0 (on_request c.session (requests.Publish p) 0).1
      (asks Any any_closed limit c.lost (ends_from c) i.from p (λ k. tt {0}))
      (sends_out Any any_closed limit c.lost (ends_from c) i.from p (λ k. tt {0}))
      (out_apart c.session p).kept
      (out_same c.session p)
    where
      by : (r : Result (Option Packet) StateError) (t : Session) → Asked Any any_closed limit c.lost (ends_from c) i.from p r t → Sends (reply_in r) → Kept c.session t → Same c.session t → Stepped limit sender_limit c (asked_of c p r t)
      by (Ok reply) t a k e h =
          record {
            good = record {
              from = a;
              to = subst (IsFlow Plain sender_limit c.lost) (sym (same_flow c.sender c.sender (as_receiver c.session) (as_receiver t) c.down c.down c.up (c.up ++ option_to_list reply) i.passed refl e.seen refl (behind_sends c.up (option_to_list reply) k).1)) i.to;
              own = e.own ∙ i.own;
              range = i.range;
              queued = i.queued;
              passed = i.passed;
              parts = i.parts;
              told = i.told;
            };
            grows = same _ _ refl;
            quiet = λ q. ((behind_sends c.up (option_to_list reply) k).2 ∙ q, refl);
            tells = tells_same c _ h refl (behind_sends c.up (option_to_list reply) k).2 refl;
          }
      by (Err f) t a k e h = nothing

  -- something else is asked for
  good_sends : (r : Result (Option Packet) StateError) (t : Session) → Aside c.session (r, t) → Others (reply_in r) → IsGood limit sender_limit (sends_of c r t)
  good_sends (Ok reply) t a k =
      record {
        from = subst (IsFlow Any limit c.lost) (sym (same_flow c.session t c.receiver c.receiver c.up (c.up ++ option_to_list reply) c.down c.down c.accepted a.same refl (behind_others c.up (option_to_list reply) k).1 refl)) i.from;
        to = subst (IsFlow Plain sender_limit c.lost) (sym (same_flow c.sender c.sender (as_receiver c.session) (as_receiver t) c.down c.down c.up (c.up ++ option_to_list reply) i.passed refl a.kept.seen refl (behind_others c.up (option_to_list reply) k).2)) i.to;
        own = a.kept.own ∙ i.own;
        range = i.range;
        queued = i.queued;
        passed = i.passed;
        parts = i.parts;
        told = i.told;
      }
  good_sends (Err f) t a k = i

  -- a packet arrives at the broker
  module _ (x : Packet) (rest : List Packet) (u : c.up ≡ x ∷ rest) where
    to_receiver : (b : Bool) → is_sending x ≡ true → Step limit sender_limit c (comes_to true b (record c { up = rest }) x) 1 (filters_in x)
    to_receiver b e =
        record {
          stepped = record {
            good = record {
              from = a.still;
              to = subst (IsFlow Plain sender_limit c.lost) (sym other) i.to;
              own = i.own;
              range = i.range;
              queued = i.queued;
              passed = i.passed;
              parts = i.parts;
              told = told_still d.down behind.2;
            };
            grows = serve_grows c.receiver x;
            quiet = λ q. (sym (first_sending c.up x rest u e).2 ∙ q, refl);
            tells = tells_same c d refl behind.2 (sym (first_sending c.up x rest u e).2) refl;
          };
          less = record {
            s = 1;
            t = 0;
            from = a.less;
            to = let k = ap work other in let l = same_about c d (sym (first_sending c.up x rest u e).2) behind.2 in omega (arith, k, l);
            few = new_few _ _ (serve_grows c.receiver x);
            found = omega arith;
            asked = let k = ap (sum_by filters_in) (first_sending c.up x rest u e).2 in let z = sent_none x e in omega (arith, k, z);
          };
        }
      where
        d : Client
        d = comes_to true true (record c { up = rest }) x

        a : Goes Any limit c.lost (flow_from c) (flow_from d)
        a = serves Any any_closed limit c.lost (ends_from c) i.from x rest u e

        behind : (acks (c.down ++ option_to_list (serve c.receiver x).0) ≡ acks c.down ++ option_to_list (serve c.receiver x).0) × (sent (c.down ++ option_to_list (serve c.receiver x).0) ≡ sent c.down) × (others (c.down ++ option_to_list (serve c.receiver x).0) ≡ others c.down)
        behind = behind_acks c.down (option_to_list (serve c.receiver x).0) (serve_acks c.receiver x)

        other : flow_to d i.passed ≡ flow_to c i.passed
        other = same_flow c.sender c.sender (as_receiver c.session) (as_receiver c.session) c.down d.down c.up rest i.passed refl refl behind.1 (sym (first_sending c.up x rest u e).1)

    to_sender : is_sending x ≡ false → is_an_ack x ≡ true → Step limit sender_limit c (comes_to false true (record c { up = rest }) x) 1 (filters_in x)
    to_sender e h =
        record {
          stepped = record {
            good = record {
              from = subst (IsFlow Any limit c.lost) (sym other) i.from;
              to = a.still;
              own = i.own;
              range = λ l. (ack_apart c.sender x (is_ack Plain plain_closed sender_limit c.lost (ends_to c i.passed) i.to x rest u e h)).range (i.range l);
              queued = i.queued;
              passed = i.passed;
              parts = i.parts;
              told = told_still (c.down ++ reply_in (on_packet c.sender x 0).0) behind.2;
            };
            grows = same _ _ refl;
            quiet = λ q. (sym (first_ack c.up x rest u e h).2 ∙ q, refl);
            tells = tells_same c d refl behind.2 (sym (first_ack c.up x rest u e h).2) refl;
          };
          less = record {
            s = 0;
            t = 1;
            from = let k = ap work other in omega (arith, k);
            to = let l = a.less in let m = same_about c d (sym (first_ack c.up x rest u e h).2) behind.2 in omega (arith, l, m);
            few = none_new c.receiver.handed;
            found = omega arith;
            asked = let k = ap (sum_by filters_in) (first_ack c.up x rest u e h).2 in let z = ack_none x h in omega (arith, k, z);
          };
        }
      where
        d : Client
        d = comes_to false true (record c { up = rest }) x

        a : Goes Plain sender_limit c.lost (flow_to c i.passed) (flow_to d i.passed)
        a = comes_back Plain plain_closed sender_limit c.lost (ends_to c i.passed) i.to x rest u e h

        behind : (sent (c.down ++ reply_in (on_packet c.sender x 0).0) ≡ sent c.down ++ reply_in (on_packet c.sender x 0).0) × (acks (c.down ++ reply_in (on_packet c.sender x 0).0) ≡ acks c.down) × (others (c.down ++ reply_in (on_packet c.sender x 0).0) ≡ others c.down)
        behind = behind_sends c.down (reply_in (on_packet c.sender x 0).0) (sends_back Plain plain_closed sender_limit c.lost (ends_to c i.passed) i.to x rest u e h)

        other : flow_from d ≡ flow_from c
        other = same_flow c.session c.session c.receiver c.receiver c.up rest c.down d.down c.accepted refl refl (sym (first_ack c.up x rest u e h).1) behind.1

    to_neither : is_sending x ≡ false → is_an_ack x ≡ false → Step limit sender_limit c (comes_to false false (record c { up = rest }) x) 1 (filters_in x)
    to_neither e h =
        record {
          stepped = record {
            good = record {
              from = subst (IsFlow Any limit c.lost) (sym own) i.from;
              to = subst (IsFlow Plain sender_limit c.lost) (sym other) i.to;
              own = i.own;
              range = i.range;
              queued = i.queued;
              passed = i.passed;
              parts = i.parts;
              told = subst (AllByRecursion IsAnswer) (sym behind.0) (answers_behind (others c.down) (option_to_list (answer_of c.subscriptions x)) i.told (answered c.subscriptions x));
            };
            grows = same _ _ refl;
            quiet = λ q. absurd (let z : x ∷ others rest ≡ [] = sym front.0 ∙ q in cc);
            tells = tells_taken c d x (others rest) front.0 refl one_more_down refl refl;
          };
          less = record {
            s = 0;
            t = 1;
            from = let k = ap work own in omega (arith, k);
            to =
                let k = ap work other in
                let l = ap length front.0 in
                let m = one_more_down in
                omega (arith, k, l, m);
            few = none_new c.receiver.handed;
            found = omega arith;
            asked = let k = ap (sum_by filters_in) front.0 in let l = sum_by-cons filters_in x (others rest) in omega (arith, k, l);
          };
        }
      where
        d : Client
        d = comes_to false false (record c { up = rest }) x

        front : (others c.up ≡ x ∷ others rest) × (sent c.up ≡ sent rest) × (acks c.up ≡ acks rest)
        front = first_other c.up x rest u e h

        behind : (others (c.down ++ option_to_list (answer_of c.subscriptions x)) ≡ others c.down ++ option_to_list (answer_of c.subscriptions x)) × (sent (c.down ++ option_to_list (answer_of c.subscriptions x)) ≡ sent c.down) × (acks (c.down ++ option_to_list (answer_of c.subscriptions x)) ≡ acks c.down)
        behind = behind_others c.down (option_to_list (answer_of c.subscriptions x)) (answer_others c.subscriptions x)

        one_more_down : length (others d.down) ≤ length (others c.down) + 1
        one_more_down =
            let o = length-append (others c.down) (option_to_list (answer_of c.subscriptions x)) in
            let p = one_answer (answer_of c.subscriptions x) in
            omega (arith, ap length behind.0, o, p)

        own : flow_from d ≡ flow_from c
        own = same_flow c.session c.session c.receiver c.receiver c.up rest c.down d.down c.accepted refl refl (sym front.1) behind.2

        other : flow_to d i.passed ≡ flow_to c i.passed
        other = same_flow c.sender c.sender (as_receiver c.session) (as_receiver c.session) c.down d.down c.up rest i.passed refl refl behind.1 (sym front.2)

    to_broker : (a b : Bool) → is_sending x ≡ a → is_an_ack x ≡ b → Step limit sender_limit c (comes_to a b (record c { up = rest }) x) 1 (filters_in x)
    to_broker true b e h = to_receiver b e
    to_broker false true e h = to_sender e h
    to_broker false false e h = to_neither e h

  up_stepped : (us : List Packet) → c.up ≡ us → Step limit sender_limit c (goes_up c us) (found us) (filters_first us)
  up_stepped [] u = nothing_found
  up_stepped (x ∷ rest) u = to_broker x rest u (is_sending x) (is_an_ack x) refl refl

  -- a packet arrives at the client
  module _ (x : Packet) (rest : List Packet) (f : c.down ≡ x ∷ rest) where
    abbrev taker : Client
    taker = takes_in (record c { down = rest }) x

    sent_to_client : is_sending x ≡ true → Step limit sender_limit c taker 1 0
    sent_to_client e =
        record {
          stepped = record {
            good = record { from = subst (IsFlow Any limit c.lost) (sym other) i.from; to = a.still; own = r.own; range = i.range; queued = i.queued; passed = i.passed; parts = i.parts; told = told_still rest (sym (first_sending c.down x rest f e).2) };
            grows = same _ _ refl;
            quiet = λ q. (about ∙ q, refl);
            tells = tells_same c taker (sending_same c.session x e) (sym (first_sending c.down x rest f e).2) about refl;
          };
          less = record {
            s = 0;
            t = 1;
            from = let k = ap work other in omega (arith, k);
            to = let l = a.less in let m = same_about c taker about (sym (first_sending c.down x rest f e).2) in omega (arith, l, m);
            few = none_new c.receiver.handed;
            found = omega arith;
            asked = let k = ap (sum_by filters_in) about in omega (arith, k);
          };
        }
      where
        r : Receives c.session (on_packet c.session x 0) (serve (as_receiver c.session) x)
        r =
            let g = first_goes_up Plain plain_closed sender_limit c.lost (ends_to c i.passed) i.to x rest f e in
            receives c.session x 0 i.own (plain_sent x g.1 g.0)

        about : others taker.up ≡ others c.up
        about = ap (λ y. others (c.up ++ reply_in y)) r.reply ∙ (behind_acks c.up (option_to_list (serve (as_receiver c.session) x).0) (serve_acks (as_receiver c.session) x)).2

        a : Goes Plain sender_limit c.lost (flow_to c i.passed) (flow_to taker i.passed)
        a = subst (Goes Plain sender_limit c.lost (flow_to c i.passed)) (λ n. flow c.sender (sym r.after n) rest (c.up ++ reply_in (sym r.reply n)) i.passed)
            (serves Plain plain_closed sender_limit c.lost (ends_to c i.passed) i.to x rest f e)

        other : flow_from taker ≡ flow_from c
        other = same_flow c.session (on_packet c.session x 0).1 c.receiver c.receiver c.up taker.up c.down rest c.accepted (ap without_last r.part) refl
            (ap (λ y. sent (c.up ++ reply_in y)) r.reply ∙ (behind_acks c.up (option_to_list (serve (as_receiver c.session) x).0) (serve_acks (as_receiver c.session) x)).1)
            (sym (first_sending c.down x rest f e).1)

    ack_to_client : is_sending x ≡ false → is_an_ack x ≡ true → Step limit sender_limit c taker 1 0
    ack_to_client e h =
        record {
          stepped = record {
            good = record { from = a.still; to = subst (IsFlow Plain sender_limit c.lost) (sym other) i.to; own = k.own ∙ i.own; range = i.range; queued = i.queued; passed = i.passed; parts = i.parts; told = told_still rest (sym (first_ack c.down x rest f e h).2) };
            grows = same _ _ refl;
            quiet = λ q. (about ∙ q, refl);
            tells = tells_same c taker (ack_same c.session x h) (sym (first_ack c.down x rest f e h).2) about refl;
          };
          less = record {
            s = 1;
            t = 0;
            from = a.less;
            to = let z = ap work other in let m = same_about c taker about (sym (first_ack c.down x rest f e h).2) in omega (arith, z, m);
            few = let z = none_new c.receiver.handed in omega (arith, z);
            found = omega arith;
            asked = let k = ap (sum_by filters_in) about in omega (arith, k);
          };
        }
      where
        about : others taker.up ≡ others c.up
        about = (behind_sends c.up (reply_in (on_packet c.session x 0).0) (sends_back Any any_closed limit c.lost (ends_from c) i.from x rest f e h)).2

        k : Kept c.session (on_packet c.session x 0).1
        k = ack_kept c.session x (is_ack Any any_closed limit c.lost (ends_from c) i.from x rest f e h)

        a : Goes Any limit c.lost (flow_from c) (flow_from taker)
        a = comes_back Any any_closed limit c.lost (ends_from c) i.from x rest f e h

        other : flow_to taker i.passed ≡ flow_to c i.passed
        other = same_flow c.sender c.sender (as_receiver c.session) (as_receiver (on_packet c.session x 0).1) c.down rest c.up taker.up i.passed refl k.seen
            (sym (first_ack c.down x rest f e h).1)
            (behind_sends c.up (reply_in (on_packet c.session x 0).0) (sends_back Any any_closed limit c.lost (ends_from c) i.from x rest f e h)).1

    answer_to_client : is_sending x ≡ false → is_an_ack x ≡ false → Step limit sender_limit c taker 1 0
    answer_to_client e h =
        record {
          stepped = record {
            good = record {
              from = subst (IsFlow Any limit c.lost) (sym own) i.from;
              to = subst (IsFlow Plain sender_limit c.lost) (sym other) i.to;
              own = k.1.kept.own ∙ i.own;
              range = i.range;
              queued = i.queued;
              passed = i.passed;
              parts = i.parts;
              told = told.1;
            };
            grows = same _ _ refl;
            quiet = λ q. (ap others none ∙ q, refl);
            tells = tells_still c taker (let y = answer_more c.session x told.0 in let l = ap length front.0 in omega (arith, y, l)) (ap others none) refl;
          };
          less = record {
            s = 0;
            t = 1;
            from = let k = ap work own in omega (arith, k);
            to =
                let k = ap work other in
                let l = ap length (ap others none) in
                let m = ap length front.0 in
                omega (arith, k, l, m);
            few = none_new c.receiver.handed;
            found = omega arith;
            asked = let k = ap (sum_by filters_in) (ap others none) in omega (arith, k);
          };
        }
      where
        front : (others c.down ≡ x ∷ others rest) × (sent c.down ≡ sent rest) × (acks c.down ≡ acks rest)
        front = first_other c.down x rest f e h

        told : IsAnswer x × AllByRecursion IsAnswer (others rest)
        told = subst (AllByRecursion IsAnswer) front.0 i.told

        k : ((on_packet c.session x 0).0 ≡ Ok None) × Aside c.session (on_packet c.session x 0)
        k = answer_aside c.session x told.0

        none : taker.up ≡ c.up
        none = ap (λ r. c.up ++ reply_in r) k.0 ∙ append-nil c.up

        own : flow_from taker ≡ flow_from c
        own = same_flow c.session (on_packet c.session x 0).1 c.receiver c.receiver c.up taker.up c.down rest c.accepted k.1.same refl (ap sent none) (sym front.2)

        other : flow_to taker i.passed ≡ flow_to c i.passed
        other = same_flow c.sender c.sender (as_receiver c.session) (as_receiver (on_packet c.session x 0).1) c.down rest c.up taker.up i.passed refl k.1.kept.seen (sym front.1) (ap acks none)

    to_client : (a b : Bool) → is_sending x ≡ a → is_an_ack x ≡ b → Step limit sender_limit c taker 1 0
    to_client true b e h = sent_to_client e
    to_client false true e h = ack_to_client e h
    to_client false false e h = answer_to_client e h

  down_stepped : (ds : List Packet) → c.down ≡ ds → Step limit sender_limit c (goes_down c ds) (found ds) 0
  down_stepped [] f = nothing_found
  down_stepped (x ∷ rest) f = to_client x rest f (is_sending x) (is_an_ack x) refl refl

  -- the first of the queue is passed on
  module _ (p : Publish) (rest : List Publish) (l : c.queue ≡ p ∷ rest) where
    is : IsForwarded p × AllByRecursion IsForwarded rest
    is = subst (AllByRecursion IsForwarded) l i.queued

    forwards : (r : Result (Option Packet) StateError) (t : Session) → Asked Plain plain_closed sender_limit c.lost (ends_to c i.passed) i.to p r t → Sends (reply_in r) → Costs c.sender (r, t) → (0 < sender_limit → InRange t.core)
        → Step limit sender_limit c (taken_for c p rest r t) (length c.queue - length (taken_for c p rest r t).queue) 0
    forwards (Ok reply) t a k cost range =
        record {
          stepped = record {
            good = record {
              from = subst (IsFlow Any limit c.lost) (sym other) i.from;
              to = a;
              own = i.own;
              range = range;
              queued = is.1;
              passed = i.passed ++ p ∷ [];
              parts = λ test.
                  let a = count_both test c.taken (p ∷ []) in
                  let b = count_both test i.passed (p ∷ []) in
                  let e = i.parts test in
                  omega (arith, a, b, e);
              told = told_still (c.down ++ option_to_list reply) behind.2;
            };
            grows = same _ _ refl;
            quiet = λ q. (q, refl);
            tells = tells_same c d refl behind.2 refl refl;
          };
          less = record { s = 0; t = 1; from = let z = ap work other in omega (arith, z); to = costs; few = none_new c.receiver.handed; found = let f = ap length l in omega (arith, f); asked = omega arith };
        }
      where
        d : Client
        d = taken_for c p rest (Ok reply) t

        behind : (sent (c.down ++ option_to_list reply) ≡ sent c.down ++ option_to_list reply) × (acks (c.down ++ option_to_list reply) ≡ acks c.down) × (others (c.down ++ option_to_list reply) ≡ others c.down)
        behind = behind_sends c.down (option_to_list reply) k

        other : flow_from d ≡ flow_from c
        other = same_flow c.session c.session c.receiver c.receiver c.up c.up c.down d.down c.accepted refl refl refl behind.1

        costs : work_to d + 1 ≤ work_to c
        costs =
            let f = ap length l in
            let w = ap (sum_by work_up) behind.0 in
            let v = sum_by-append work_up (sent c.down) (option_to_list reply) in
            let o = same_about c d refl behind.2 in
            omega (arith, f, w, v, cost, o)
    forwards (Err f) t a k cost range = record { stepped = nothing; less = record { s = 0; t = 0; from = omega arith; to = omega arith; few = none_new c.receiver.handed; found = omega arith; asked = omega arith } }

    passed : Step limit sender_limit c (passes_on c (p ∷ rest)) (length c.queue - length (passes_on c (p ∷ rest)).queue) 0
    passed = forwards (on_request c.sender (requests.Publish p) 0).0 (on_request c.sender (requests.Publish p) 0).1
        (asks Plain plain_closed sender_limit c.lost (ends_to c i.passed) i.to p (λ k. numbered_plain p.qos p k is.0.plain))
        (sends_out Plain plain_closed sender_limit c.lost (ends_to c i.passed) i.to p (λ k. numbered_plain p.qos p k is.0.plain))
        (out_apart c.sender p).cost
        (λ low. (out_apart c.sender p).range (i.range low))

  passed_stepped : (ps : List Publish) → c.queue ≡ ps → Step limit sender_limit c (passes_on c ps) (length c.queue - length (passes_on c ps).queue) 0
  passed_stepped [] l = record { stepped = nothing; less = record { s = 0; t = 0; from = omega arith; to = omega arith; few = none_new c.receiver.handed; found = omega arith; asked = omega arith } }
  passed_stepped (p ∷ rest) l = passed p rest l

  -- the first of the queue has expired
  expired_good : IsGood limit sender_limit (takes_out c)
  expired_good =
      record {
        from = i.from;
        to = i.to;
        own = i.own;
        range = i.range;
        queued = all_dropped c.queue i.queued;
        passed = i.passed;
        parts = λ test.
            let a = count_both test c.taken (take 1 c.queue) in
            let b = count_both test c.expired (take 1 c.queue) in
            let e = i.parts test in
            omega (arith, a, b, e);
        told = i.told;
      }

  -- the connection is lost
  lost_stepped : (m n : Option ℕ) → Stepped limit sender_limit c (reconnects c (connected m c.session) (connected n c.sender))
  lost_stepped m n =
      subst (Stepped limit sender_limit c) (λ j. record c { session = kept_by h (sym e j); up = sent_in (sym e j); sender = kept_by k (sym g j); down = sent_in (sym g j); lost = c.lost + 1 })
      (record {
        grows = same _ _ refl;
        quiet = λ q. (up.rest, refl);
        tells = tells_lost c _ [] (back_same m c.session) down.rest up.rest refl;
        good = record {
          from = loses Any any_closed limit c.lost (ends_from c) i.from m (again_of k).0 down;
          to = subst (λ b. IsFlow Plain sender_limit (c.lost + 1) (flow (again_of k).1 b (again_of k).0 (again_of h).0 i.passed)) (sym kept.seen)
              (loses Plain plain_closed sender_limit c.lost (ends_to c i.passed) i.to n (again_of h).0 up);
          own = kept.own ∙ i.own;
          range = λ l. back_range n c.sender (i.range l);
          queued = i.queued;
          passed = i.passed;
          parts = i.parts;
          told = subst (AllByRecursion IsAnswer) (sym down.rest) tt;
        };
      })
    where
      h : Session
      h = connected m c.session

      k : Session
      k = connected n c.sender

      up : Sends (again_of h).0
      up = sends_on Any any_closed limit c.lost (ends_from c) i.from m

      down : Sends (again_of k).0
      down = sends_on Plain plain_closed sender_limit c.lost (ends_to c i.passed) i.to n

      e : resume_of h 0 ≡ Ok (again_of h)
      e = resumes_again Any any_closed limit c.lost (ends_from c) i.from m

      g : resume_of k 0 ≡ Ok (again_of k)
      g = resumes_again Plain plain_closed sender_limit c.lost (ends_to c i.passed) i.to n

      kept : Kept c.session (again_of h).1
      kept = back_kept m c.session

  -- no request for subscriptions is sent again
  pub back_heard : (m n : Option ℕ) → others (moved c (moves.Back m n)).up ≡ []
  back_heard m n = ap (λ r. others (sent_in r)) (resumes_again Any any_closed limit c.lost (ends_from c) i.from m) ∙ (sends_on Any any_closed limit c.lost (ends_from c) i.from m).rest

  -- and no answer to one
  pub back_answered : (m n : Option ℕ) → others (moved c (moves.Back m n)).down ≡ []
  back_answered m n = ap (λ r. others (sent_in r)) (resumes_again Plain plain_closed sender_limit c.lost (ends_to c i.passed) i.to n) ∙ (sends_on Plain plain_closed sender_limit c.lost (ends_to c i.passed) i.to n).rest

  pub back_told : (m n : Option ℕ) → Same c.session (moved c (moves.Back m n)).session
  back_told m n = ap (λ r. answers_told (kept_by (connected m c.session) r)) (resumes_again Any any_closed limit c.lost (ends_from c) i.from m) ∙ back_same m c.session

  -- ---- each move

  sends_receiver : (r : Result (Option Packet) StateError) (t : Session) → (sends_of c r t).receiver ≡ c.receiver
  sends_receiver (Ok reply) t = refl
  sends_receiver (Err e) t = refl

  pub good_next : (e : Move) → IsGood limit sender_limit (moved c e)
  good_next (moves.Ask p) = (asked_stepped p).good
  good_next (moves.Subscribing p) = good_sends (on_request c.session (requests.Subscribe p) 0).0 (on_request c.session (requests.Subscribe p) 0).1 (subscribe_aside c.session p) (subscribe_others c.session p)
  good_next (moves.Unsubscribing p) = good_sends (on_request c.session (requests.Unsubscribe p) 0).0 (on_request c.session (requests.Unsubscribe p) 0).1 (unsubscribe_aside c.session p) (unsubscribe_others c.session p)
  good_next moves.Up = (up_stepped c.up refl).stepped.good
  good_next moves.Down = (down_stepped c.down refl).stepped.good
  good_next moves.PassOn = (passed_stepped c.queue refl).stepped.good
  good_next moves.Expire = expired_good
  good_next (moves.Back m n) = (lost_stepped m n).good

  pub client_grows : (e : Move) → Grows c.receiver.handed (moved c e).receiver.handed
  client_grows (moves.Ask p) = (asked_stepped p).grows
  client_grows (moves.Subscribing p) = same _ _ (ap (λ (b : Broker). b.handed) (sends_receiver (on_request c.session (requests.Subscribe p) 0).0 (on_request c.session (requests.Subscribe p) 0).1))
  client_grows (moves.Unsubscribing p) = same _ _ (ap (λ (b : Broker). b.handed) (sends_receiver (on_request c.session (requests.Unsubscribe p) 0).0 (on_request c.session (requests.Unsubscribe p) 0).1))
  client_grows moves.Up = (up_stepped c.up refl).stepped.grows
  client_grows moves.Down = (down_stepped c.down refl).stepped.grows
  client_grows moves.PassOn = (passed_stepped c.queue refl).stepped.grows
  client_grows moves.Expire = same _ _ refl
  client_grows (moves.Back m n) = same _ _ refl

  -- where the client doesn't ask for subscriptions
  pub client_quiet : (e : Move) → AsksForNone e → Quiet c (moved c e)
  client_quiet (moves.Ask p) k = (asked_stepped p).quiet
  client_quiet (moves.Subscribing p) k = absurd k
  client_quiet (moves.Unsubscribing p) k = absurd k
  client_quiet moves.Up k = (up_stepped c.up refl).stepped.quiet
  client_quiet moves.Down k = (down_stepped c.down refl).stepped.quiet
  client_quiet moves.PassOn k = (passed_stepped c.queue refl).stepped.quiet
  client_quiet moves.Expire k = λ q. (q, refl)
  client_quiet (moves.Back m n) k = (lost_stepped m n).quiet

  -- of what it asks for about subscriptions
  pub client_tells : (e : Move) → Tells c (moved c e) (asked_in_move c.session e)
  client_tells (moves.Ask p) = (asked_stepped p).tells
  client_tells (moves.Subscribing p) = tells_asked c (on_request c.session (requests.Subscribe p) 0).0 (on_request c.session (requests.Subscribe p) 0).1 (subscribe_same c.session p) (subscribe_others c.session p)
  client_tells (moves.Unsubscribing p) = tells_asked c (on_request c.session (requests.Unsubscribe p) 0).0 (on_request c.session (requests.Unsubscribe p) 0).1 (unsubscribe_same c.session p) (unsubscribe_others c.session p)
  client_tells moves.Up = (up_stepped c.up refl).stepped.tells
  client_tells moves.Down = (down_stepped c.down refl).stepped.tells
  client_tells moves.PassOn = (passed_stepped c.queue refl).stepped.tells
  client_tells moves.Expire = tells_same c (takes_out c) refl refl refl refl
  client_tells (moves.Back m n) = (lost_stepped m n).tells

  -- a step leaves less work
  pub up_less : Less c (moved c moves.Up) (found c.up) (filters_first c.up)
  up_less = (up_stepped c.up refl).less

  pub down_less : Less c (moved c moves.Down) (found c.down) 0
  down_less = (down_stepped c.down refl).less

  pub pass_less : Less c (moved c moves.PassOn) (length c.queue - length (moved c moves.PassOn).queue) 0
  pass_less = (passed_stepped c.queue refl).less

pub sender_limited : (limit sender_limit : ℕ) (c : Client) → IsGood limit sender_limit c → c.sender.core.limit ≡ sender_limit
sender_limited limit sender_limit c i = (holds_core Plain plain_closed sender_limit c.lost (ends_to c i.passed) i.to).limited

-- a new session has sent nothing
pub good_start : (limit sender_limit : ℕ) (ss : List Subscription) → IsGood limit sender_limit (new_client limit sender_limit ss)
good_start limit sender_limit ss =
    record {
      from = start_flow Any limit;
      to = start_flow Plain sender_limit;
      own = refl;
      range = λ l. record { last = l; current = omega arith };
      queued = tt;
      passed = [];
      parts = λ test. refl;
      told = tt;
    }

-- publishes go into its queue
pub good_queues : (own : Bool) (ps : List Publish) (limit sender_limit : ℕ) (c : Client) → IsGood limit sender_limit c → IsGood limit sender_limit (queues own ps c)
good_queues own ps limit sender_limit c i =
    record {
      from = i.from;
      to = i.to;
      own = i.own;
      range = i.range;
      queued = all_both c.queue (filter_map (forwarded_to own c.subscriptions) ps) i.queued (all_forwarded own c.subscriptions ps);
      passed = i.passed;
      parts = i.parts;
      told = i.told;
    }

-- ---- what was put into the queue

-- an event by itself leaves it
pub routed_same : (c : Client) (e : Move) → routed (moved c e) ≡ routed c
routed_same c (moves.Ask p) = by (on_request c.session (requests.Publish p) 0).0 (on_request c.session (requests.Publish p) 0).1
  where
    by : (r : Result (Option Packet) StateError) (t : Session) → routed (asked_of c p r t) ≡ routed c
    by (Ok reply) t = refl
    by (Err e) t = refl
routed_same c (moves.Subscribing p) = by (on_request c.session (requests.Subscribe p) 0).0 (on_request c.session (requests.Subscribe p) 0).1
  where
    by : (r : Result (Option Packet) StateError) (t : Session) → routed (sends_of c r t) ≡ routed c
    by (Ok reply) t = refl
    by (Err e) t = refl
routed_same c (moves.Unsubscribing p) = by (on_request c.session (requests.Unsubscribe p) 0).0 (on_request c.session (requests.Unsubscribe p) 0).1
  where
    by : (r : Result (Option Packet) StateError) (t : Session) → routed (sends_of c r t) ≡ routed c
    by (Ok reply) t = refl
    by (Err e) t = refl
routed_same c moves.Up = by c.up
  where
    to_broker : (a b : Bool) (rest : List Packet) (x : Packet) → routed (comes_to a b (record c { up = rest }) x) ≡ routed c
    to_broker true b rest x = refl
    to_broker false true rest x = refl
    to_broker false false rest x = refl

    by : (us : List Packet) → routed (goes_up c us) ≡ routed c
    by [] = refl
    by (x ∷ rest) = to_broker (is_sending x) (is_an_ack x) rest x
routed_same c moves.Down = by c.down
  where
    by : (ds : List Packet) → routed (goes_down c ds) ≡ routed c
    by [] = refl
    by (x ∷ rest) = refl
routed_same c moves.PassOn = by c.queue refl
  where
    taken : (p : Publish) (rest : List Publish) → c.queue ≡ p ∷ rest → (r : Result (Option Packet) StateError) (t : Session) → routed (taken_for c p rest r t) ≡ routed c
    taken p rest l (Ok reply) t = append_assoc c.taken (p ∷ []) rest ∙ ap (λ q. c.taken ++ q) (sym l)
    taken p rest l (Err e) t = refl

    by : (ps : List Publish) → c.queue ≡ ps → routed (passes_on c ps) ≡ routed c
    by [] l = refl
    by (p ∷ rest) l = taken p rest l (on_request c.sender (requests.Publish p) 0).0 (on_request c.sender (requests.Publish p) 0).1
routed_same c moves.Expire = append_assoc c.taken (take 1 c.queue) (drop 1 c.queue) ∙ ap (λ q. c.taken ++ q) (take-append-drop 1 c.queue)
routed_same c (moves.Back m n) = refl

-- publishes that go into it are added
pub routed_queues : (own : Bool) (ps : List Publish) (c : Client) → routed (queues own ps c) ≡ routed c ++ filter_map (forwarded_to own c.subscriptions) ps
routed_queues own ps c = sym (append_assoc c.taken c.queue (filter_map (forwarded_to own c.subscriptions) ps))
