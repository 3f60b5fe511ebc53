-- Of how many answers to its requests about subscriptions a client was told, and what is still on its way.
use Rattle.std.proofs.Common.{◌≡◌, ℕ, ◌+◌, ◌≤◌, Bool, true, false, cond, ◌&&◌, List, [], ◌∷◌, ◌++◌, length, count_by, Option, Some, None, Result, Ok, Err, refl, sym, ap, ◌∙◌, arith, ◌==◌, append-nil, length-append}
use Rattle.std.specs.Prelude.{not, is_some, unwrap_or, option_map}
use Rattle.std.specs.Option.{option_to_list}
use Rattle.std.specs.List.{filter_map}
use Rattle.std.specs.FinMap as map
use Rattle.std.specs.FinSet as set
use Rattle.std.proofs.lemmas.List.{nil_from_length, map-append}
use Rattle.std.proofs.lemmas.List.Sums.{sum_by-cons, sum_by-append}
use Rattle.mqtt5_base.specs.Texts.{Utf8}
use Rattle.mqtt5_base.specs.declared.quality.QoS.{QoS}
use Rattle.mqtt5_base.specs.declared.quality.QoS.TheVariants.{AtMostOnce, AtLeastOnce, ExactlyOnce}
use Rattle.mqtt5_publish.specs.declared.publish.Publish.{Publish}
use Rattle.mqtt5_publish.specs.declared.puback.PubAckReason.{PubAckReason}
use Rattle.mqtt5_publish.specs.declared.pubrel.PubRel.{PubRel}
use Rattle.mqtt5_publish.specs.declared.pubrel.PubRelReason.{PubRelReason}
use Rattle.mqtt5_publish.specs.declared.pubrel.PubRelReason.TheVariants.{Success}
use Rattle.mqtt5_subscribe.specs.declared.filter.Filter.{Filter}
use Rattle.mqtt5_subscribe.specs.declared.subscribe.Subscribe.{Subscribe}
use Rattle.mqtt5_subscribe.specs.declared.unsubscribe.Unsubscribe.{Unsubscribe}
use Rattle.mqtt5_codec.specs.declared.packet.Packet.{Packet}
use Rattle.mqtt5_codec.specs.declared.packet.Packet.TheVariants as packets
use Rattle.mqtt5_inflight.specs.declared.slot.Slot.{Slot}
use Rattle.mqtt5_inflight.specs.declared.slot.Slot.TheVariants.{Sent, Released}
use Rattle.mqtt5_inflight.specs.declared.event.Event.{Event}
use Rattle.mqtt5_inflight.specs.declared.event.Event.TheVariants as events
use Rattle.mqtt5_inflight.specs.declared.event.Request.{Request}
use Rattle.mqtt5_inflight.specs.declared.event.Request.TheVariants as requests
use Rattle.mqtt5_inflight.specs.declared.event.Outgoing.{Outgoing}
use Rattle.mqtt5_inflight.specs.declared.event.Outgoing.TheVariants as outgoing
use Rattle.mqtt5_inflight.specs.declared.error.StateError.{StateError}
use Rattle.mqtt5_inflight.specs.declared.error.StateError.TheVariants as errors
use Rattle.mqtt5_inflight.specs.Aliases.{alias_of}
use Rattle.mqtt5_session.specs.Session.{Session, Answer}
use Rattle.mqtt5_session.specs.Requests.{on_request, unless, over_maximum, Verdict, Refuse, Wait, Store, verdict_of, out_acked, out_publish, id_for, last_after, next_id, gives_id, with_event_at}
use Rattle.mqtt5_session.specs.Packets.{on_packet, with_incoming, with_notice, event_of, is_exactly_once, topic_of, topics_with, ids_with, answers, on_qos, on_publish, on_released, on_pubrel, freed_for, on_puback, is_taken, on_received, on_pubrec, on_pubcomp, puback_of, pubrec_of}
use Rattle.mqtt5_session.specs.Again.{event_for}
use Rattle.mqtt5_world.specs.World.{taken_back}
use Rattle.mqtt5_world.proofs.Step.{one}
use Rattle.mqtt5_progress.proofs.Closed.{again_of}
use Rattle.mqtt5_network.specs.Connection.{is_sending, reply_in, connected}
use Rattle.mqtt5_network.specs.declared.subscription.Share.{Share}
use Rattle.mqtt5_network.specs.declared.subscription.Subscription.{Subscription}
use Rattle.mqtt5_network.specs.Subscriptions.{is_of, unsubscribed, subscribed, with_turn, turned, without_turns}
use Rattle.mqtt5_network.specs.Asking.{is_ack as is_an_ack, others, identifier_of, shared_filter, share_in, subscription_of, subscribed_all, unsubscribed_all, subscriptions_after}
use Rattle.mqtt5_network.specs.Client.{Client, asked_of, asks_for, sends_of, requests_for}
use Rattle.mqtt5_network.specs.Place.{cut_off}
use Rattle.mqtt5_network.specs.Answered.{is_answer, answers_told, subscriptions_by}
use Rattle.mqtt5_network.proofs.Sending.{IsAnswer, ToSubscribe, ToUnsubscribe}
use Rattle.mqtt5_network.proofs.Flow.{Others, behind_others}

-- ---- one event more

event_here : (x : Event) (es : List Event) → count_by is_answer (x ∷ es) ≡ one (is_answer x) + count_by is_answer es
event_here x es = sum_by-cons (λ y. cond (is_answer y) 1 0) x es

events_both : (xs ys : List Event) → count_by is_answer (xs ++ ys) ≡ count_by is_answer xs + count_by is_answer ys
events_both xs ys = sum_by-append (λ y. cond (is_answer y) 1 0) xs ys

-- that tells of no answer
tells_none : (es : List Event) (x : Event) → is_answer x ≡ false → count_by is_answer (es ++ x ∷ []) ≡ count_by is_answer es
tells_none es x e =
    let a = events_both es (x ∷ []) in
    let b = event_here x [] in
    let c = ap one e in
    omega (arith, a, b, c)

-- that tells of one
tells_one : (es : List Event) (x : Event) → is_answer x ≡ true → count_by is_answer (es ++ x ∷ []) ≡ count_by is_answer es + 1
tells_one es x e =
    let a = events_both es (x ∷ []) in
    let b = event_here x [] in
    let c = ap one e in
    omega (arith, a, b, c)

-- a session told of as many
abbrev pub Same : Session → Session → Type 0
Same s t = answers_told t ≡ answers_told s

-- what is sent is no answer
sent_none : (s : Session) (x : Outgoing) → count_by is_answer (s.events ++ events.Outgoing x ∷ []) ≡ answers_told s
sent_none s x = tells_none s.events (events.Outgoing x) refl

-- ---- requests

acked_same : (v : Verdict) (s : Session) (p : Publish) (last : ℕ) → Same s (out_acked v s p last 0).1
acked_same (Refuse e) s p last = refl
acked_same Wait s p last = sent_none s (outgoing.AwaitAck p.pkid)
acked_same Store s p last = sent_none s (outgoing.Publish p.pkid)

once_same : (o : Option StateError) (s : Session) (p : Publish) → Same s (unless o s (Ok (Some (packets.Publish p)), with_event_at s (outgoing.Publish p.pkid) 0)).1
once_same None s p = sent_none s (outgoing.Publish p.pkid)
once_same (Some e) s p = refl

publish_same : (q : QoS) (s : Session) (p : Publish) → Same s (out_publish q s p 0).1
publish_same AtMostOnce s p = once_same (over_maximum s.core p) s p
publish_same AtLeastOnce s p = acked_same (verdict_of s.core (record p { pkid = id_for s.core p.pkid })) s (record p { pkid = id_for s.core p.pkid }) (last_after s.core p.pkid)
publish_same ExactlyOnce s p = acked_same (verdict_of s.core (record p { pkid = id_for s.core p.pkid })) s (record p { pkid = id_for s.core p.pkid }) (last_after s.core p.pkid)

pub out_same : (s : Session) (p : Publish) → Same s (on_request s (requests.Publish p) 0).1
unfolding on_request
out_same s p = publish_same p.qos s p

pub subscribe_same : (s : Session) (p : Subscribe) → Same s (on_request s (requests.Subscribe p) 0).1
unfolding on_request
subscribe_same s p = by (length p.filters == 0)
  where
    made : Answer
    made = (Ok (Some (packets.Subscribe (record p { pkid = next_id s.core }))), with_event_at (gives_id s) (outgoing.Subscribe (next_id s.core)) 0)

    by : (b : Bool) → Same s (cond {A = Answer} b (Err errors.EmptySubscription, s) made).1
    by true = refl
    by false = sent_none s (outgoing.Subscribe (next_id s.core))

pub unsubscribe_same : (s : Session) (p : Unsubscribe) → Same s (on_request s (requests.Unsubscribe p) 0).1
unfolding on_request
unsubscribe_same s p = sent_none s (outgoing.Unsubscribe (next_id s.core))

-- ---- packets

-- a publish comes
notice_same : (b : Bool) (s : Session) (p : Publish) → Same s (with_notice s (cond b None (Some (packets.Publish p))))
notice_same true s p = refl
notice_same false s p = tells_none s.events (events.Incoming (packets.Publish p)) refl

answers_same : (manual : Bool) (ack : Packet) (x : Outgoing) (s : Session) → Same s (answers manual ack x s 0).1
answers_same true ack x s = refl
answers_same false ack x s = sent_none s x

qos_same : (q : QoS) (s : Session) (id : ℕ) → Same s (on_qos q s id 0).1
qos_same AtMostOnce s id = refl
qos_same AtLeastOnce s id = answers_same s.core.manual_acks (puback_of id) (outgoing.PubAck id) s
qos_same ExactlyOnce s id = answers_same s.core.manual_acks (pubrec_of id) (outgoing.PubRec id) s

known_same : (b : Bool) (s : Session) (p : Publish) → Same s (on_publish b s p 0).1
known_same true s p = qos_same p.qos (record s { core = record s.core { aliases = topics_with (alias_of p) p.topic s.core.aliases; incoming = ids_with p.qos s.core.incoming p.pkid } }) p.pkid
known_same false s p = sent_none s outgoing.Disconnect

comes_same : (s : Session) (p : Publish) → Same s (on_packet s (packets.Publish p) 0).1
unfolding on_packet
comes_same s p =
    known_same (is_some (topic_of (with_notice s (event_of s (packets.Publish p))) p)) (with_notice s (event_of s (packets.Publish p))) p
    ∙ notice_same (is_exactly_once p.qos && set.contains s.core.incoming p.pkid) s (record p { topic = unwrap_or (topic_of s p) p.topic })

-- a release comes
released_same : (r : PubRelReason) (s : Session) (id : ℕ) → Same s (on_released r s id 0).1
released_same Success s id = sent_none s (outgoing.PubComp id)
released_same other s id = refl

pubrel_same : (b : Bool) (s : Session) (r : PubRelReason) (id : ℕ) → Same s (on_pubrel b s r id 0).1
pubrel_same true s r id = released_same r (record s { core = record s.core { incoming = set.remove s.core.incoming id } }) id
pubrel_same false s r id = sent_none s (outgoing.PubComp id)

release_same : (s : Session) (p : PubRel) → Same s (on_packet s (packets.PubRel p) 0).1
unfolding on_packet
release_same s p = pubrel_same (set.contains s.core.incoming p.pkid) (with_incoming s (packets.PubRel p)) p.reason p.pkid ∙ tells_none s.events (events.Incoming (packets.PubRel p)) refl

pub sending_same : (s : Session) (x : Packet) → is_sending x ≡ true → Same s (on_packet s x 0).1
sending_same s (packets.Publish p) e = comes_same s p
sending_same s (packets.PubRel p) e = release_same s p
sending_same s other e = absurd cc

-- an ack comes
either_same : (b : Bool) (s : Session) (x y : Answer) → Same s x.1 → Same s y.1 → Same s (cond b x y).1
either_same true s x y h k = h
either_same false s x y h k = k

freed_same : (o : Option Publish) (s : Session) (id : ℕ) → Same s (freed_for o s id 0).1
freed_same None s id = refl
freed_same (Some p) s id = either_same (p.pkid == id) s _ _ (sent_none s (outgoing.Publish id)) refl

puback_same : (x : Option Slot) (s : Session) (id : ℕ) → Same s (on_puback x s id 0).1
puback_same None s id = refl
puback_same (Some Released) s id = refl
puback_same (Some (Sent p)) s id = freed_same s.core.waiting s id

received_same : (b : Bool) (s : Session) (id : ℕ) → Same s (on_received b s id 0).1
received_same true s id = sent_none s (outgoing.PubRel id)
received_same false s id = freed_same s.core.waiting s id

pubrec_same : (x : Option Slot) (s : Session) (r : PubAckReason) (id : ℕ) → Same s (on_pubrec x s r id 0).1
pubrec_same None s r id = refl
pubrec_same (Some Released) s r id = refl
pubrec_same (Some (Sent p)) s r id = received_same (is_taken r) s id

pubcomp_same : (x : Option Slot) (s : Session) (id : ℕ) → Same s (on_pubcomp x s id 0).1
pubcomp_same None s id = refl
pubcomp_same (Some (Sent p)) s id = refl
pubcomp_same (Some Released) s id = freed_same s.core.waiting s id

pub ack_same : (s : Session) (x : Packet) → is_an_ack x ≡ true → Same s (on_packet s x 0).1
unfolding on_packet
ack_same s (packets.PubAck p) e = puback_same (map.get s.core.in_use p.pkid) (with_incoming s (packets.PubAck p)) p.pkid ∙ tells_none s.events (events.Incoming (packets.PubAck p)) refl
ack_same s (packets.PubRec p) e = pubrec_same (map.get s.core.in_use p.pkid) (with_incoming s (packets.PubRec p)) p.reason p.pkid ∙ tells_none s.events (events.Incoming (packets.PubRec p)) refl
ack_same s (packets.PubComp p) e = pubcomp_same (map.get s.core.in_use p.pkid) (with_incoming s (packets.PubComp p)) p.pkid ∙ tells_none s.events (events.Incoming (packets.PubComp p)) refl
ack_same s other e = absurd cc

-- an answer comes
pub answer_more : (s : Session) (x : Packet) → IsAnswer x → answers_told (on_packet s x 0).1 ≡ answers_told s + 1
unfolding on_packet
answer_more s _ (ToSubscribe p) = tells_one s.events (events.Incoming (packets.SubAck p)) refl
answer_more s _ (ToUnsubscribe p) = tells_one s.events (events.Incoming (packets.UnsubAck p)) refl

-- ---- a new connection

connected_same : (m : Option ℕ) (s : Session) → Same s (connected m s)
unfolding on_packet
connected_same m s = tells_none s.events (events.Incoming (taken_back m)) refl

again_none : (ps : List Packet) → count_by is_answer (filter_map event_for ps) ≡ 0
again_none [] = refl
again_none (packets.Publish p ∷ ps) = let a = event_here (events.Outgoing (outgoing.Publish p.pkid)) (filter_map event_for ps) in let b = again_none ps in omega (arith, a, b)
again_none (packets.PubRel p ∷ ps) = let a = event_here (events.Outgoing (outgoing.PubRel p.pkid)) (filter_map event_for ps) in let b = again_none ps in omega (arith, a, b)
again_none (x ∷ ps) = again_none ps

pub back_same : (m : Option ℕ) (s : Session) → Same s (again_of (connected m s)).1
back_same m s =
    let a = connected_same m s in
    let b = events_both (connected m s).events (filter_map event_for (again_of (connected m s)).0) in
    let c = again_none (again_of (connected m s)).0 in
    omega (arith, a, b, c)

-- ---- from one moment to another

-- the answers that it was told of, and what is on its way
abbrev pub due : Client → ℕ
due c = answers_told c.session + length (others c.down) + length (others c.up)

-- its subscriptions once the requests that are on their way have arrived, but for its turns
abbrev pub wanted : Client → List Subscription
wanted c = subscriptions_by (others c.up) (without_turns c.subscriptions)

-- a turn that is given or taken doesn't change them
turn_without : (turn : Bool) (s : Subscription) → with_turn false (with_turn turn s) ≡ with_turn false s
turn_without turn s = ap (λ o. record s { share = o }) (by s.share)
  where
    by : (o : Option Share) → option_map (λ (h : Share). record h { turn = false }) (option_map (λ (h : Share). record h { turn = turn }) o) ≡ option_map (λ (h : Share). record h { turn = false }) o
    by None = refl
    by (Some h) = refl

pub turned_without : (f : Utf8) (turn : Bool) (ss : List Subscription) → without_turns (turned f turn ss) ≡ without_turns ss
turned_without f turn [] = refl
turned_without f turn (s ∷ ss) = λ n. by (is_of f s) n ∷ turned_without f turn ss n
  where
    by : (b : Bool) → with_turn false (cond b (with_turn turn s) s) ≡ with_turn false s
    by true = turn_without turn s
    by false = refl

-- a request makes the same of them
filter_without : (f : Utf8) (ss : List Subscription) → without_turns (unsubscribed f ss) ≡ unsubscribed f (without_turns ss)
filter_without f [] = refl
filter_without f (s ∷ ss) = by (is_of f s) (filter_without f ss)
  where
    by : (b : Bool) → without_turns (unsubscribed f ss) ≡ unsubscribed f (without_turns ss) → without_turns (cond (not b) (s ∷ unsubscribed f ss) (unsubscribed f ss)) ≡ cond (not b) (with_turn false s ∷ unsubscribed f (without_turns ss)) (unsubscribed f (without_turns ss))
    by true rest = rest
    by false rest = ap (λ l. with_turn false s ∷ l) rest

made_without : (k : Option ℕ) (f : Filter) → with_turn false (subscription_of k f) ≡ subscription_of k f
made_without k f = ap (λ o. record (subscription_of k f) { share = o }) (by (shared_filter f.path.bytes))
  where
    by : (o : Option (List ℕ)) → option_map (λ (h : Share). record h { turn = false }) (share_in o) ≡ share_in o
    by None = refl
    by (Some bytes) = refl

subscribed_without : (s : Subscription) (ss : List Subscription) → with_turn false s ≡ s → without_turns (subscribed s ss) ≡ subscribed s (without_turns ss)
subscribed_without s ss e =
    map-append (with_turn false) (unsubscribed s.topic_filter ss) (s ∷ [])
    ∙ (λ n. filter_without s.topic_filter ss n ++ e n ∷ [])

all_without : (k : Option ℕ) (fs : List Filter) (ss : List Subscription) → without_turns (subscribed_all k fs ss) ≡ subscribed_all k fs (without_turns ss)
all_without k [] ss = refl
all_without k (f ∷ fs) ss = all_without k fs (subscribed (subscription_of k f) ss) ∙ ap (subscribed_all k fs) (subscribed_without (subscription_of k f) ss (made_without k f))

none_without : (fs : List Utf8) (ss : List Subscription) → without_turns (unsubscribed_all fs ss) ≡ unsubscribed_all fs (without_turns ss)
none_without [] ss = refl
none_without (f ∷ fs) ss = none_without fs (unsubscribed f ss) ∙ ap (unsubscribed_all fs) (filter_without f ss)

after_without : (ss : List Subscription) (x : Packet) → without_turns (subscriptions_after ss x) ≡ subscriptions_after (without_turns ss) x
after_without ss (packets.Subscribe p) = all_without (identifier_of p.properties) p.filters ss
after_without ss (packets.Unsubscribe p) = none_without p.filters ss
after_without ss other = refl

-- a client before and after it asked for these: what is due grows by their number at most, and where it grows by that, it is to have what
-- they make of what it was to have
pub record Tells (c d : Client) (asked : List Packet) : Type 0 where
  pub most : due d ≤ due c + length asked
  pub all : due d ≡ due c + length asked → wanted d ≡ subscriptions_by asked (wanted c)

pub by_append : (xs ys : List Packet) (ss : List Subscription) → subscriptions_by (xs ++ ys) ss ≡ subscriptions_by ys (subscriptions_by xs ss)
by_append [] ys ss = refl
by_append (x ∷ xs) ys ss = by_append xs ys (subscriptions_after ss x)

-- these go behind the requests that are on their way
tells_on : (c d : Client) (asked : List Packet) → answers_told d.session + length (others d.down) ≡ answers_told c.session + length (others c.down) → others d.up ≡ others c.up ++ asked → without_turns d.subscriptions ≡ without_turns c.subscriptions → Tells c d asked
tells_on c d asked told up same =
    record {
      most = let a = ap length up in let b = length-append (others c.up) asked in omega (arith, told, a, b);
      all = λ e. let a : wanted d ≡ subscriptions_by (others c.up ++ asked) (without_turns c.subscriptions) = λ n. subscriptions_by (up n) (same n) in a ∙ by_append (others c.up) asked (without_turns c.subscriptions);
    }

-- nothing is asked for
pub tells_still : (c d : Client) → answers_told d.session + length (others d.down) ≡ answers_told c.session + length (others c.down) → others d.up ≡ others c.up → without_turns d.subscriptions ≡ without_turns c.subscriptions → Tells c d []
tells_still c d told up same = tells_on c d [] told (up ∙ sym (append-nil (others c.up))) same

-- and no answer comes
pub tells_same : (c d : Client) → Same c.session d.session → others d.down ≡ others c.down → others d.up ≡ others c.up → without_turns d.subscriptions ≡ without_turns c.subscriptions → Tells c d []
tells_same c d told down up same = tells_still c d (let a = ap length down in omega (arith, told, a)) up same

-- the first request is taken in, and answered at most
pub tells_taken : (c d : Client) (x : Packet) (rest : List Packet) → others c.up ≡ x ∷ rest → Same c.session d.session → length (others d.down) ≤ length (others c.down) + 1 → others d.up ≡ rest → d.subscriptions ≡ subscriptions_after c.subscriptions x → Tells c d []
tells_taken c d x rest front told down up same =
    record {
      most = let a = ap length front in let b = ap length up in omega (arith, a, b, told, down);
      all = λ e.
          let is : without_turns d.subscriptions ≡ subscriptions_after (without_turns c.subscriptions) x = ap without_turns same ∙ after_without c.subscriptions x in
          let a : wanted d ≡ subscriptions_by rest (subscriptions_after (without_turns c.subscriptions) x) = λ n. subscriptions_by (up n) (is n) in
          a ∙ sym (ap (λ us. subscriptions_by us (without_turns c.subscriptions)) front);
    }

-- all that is on its way is lost, and what is asked for goes nowhere
pub tells_lost : (c d : Client) (asked : List Packet) → Same c.session d.session → others d.down ≡ [] → others d.up ≡ [] → without_turns d.subscriptions ≡ without_turns c.subscriptions → Tells c d asked
tells_lost c d asked told down up same =
    let a = ap length down in
    let b = ap length up in
    record {
      most = omega (arith, a, b, told);
      all = λ e.
          let none : others c.up ≡ [] = nil_from_length (others c.up) (omega (arith, a, b, told, e)) in
          let nowhere : asked ≡ [] = nil_from_length asked (omega (arith, a, b, told, e)) in
          let f : wanted d ≡ without_turns c.subscriptions = λ n. subscriptions_by (up n) (same n) in
          let g : subscriptions_by asked (wanted c) ≡ without_turns c.subscriptions = λ n. subscriptions_by (nowhere n) (subscriptions_by (none n) (without_turns c.subscriptions)) in
          f ∙ sym g;
    }

-- and then to a third
pub tells_then : (c d f : Client) (xs ys : List Packet) → Tells c d xs → Tells d f ys → Tells c f (xs ++ ys)
tells_then c d f xs ys s t =
    let a = s.most in
    let b = t.most in
    let l = length-append xs ys in
    record {
      most = omega (arith, a, b, l);
      all = λ e. t.all (omega (arith, a, b, l, e)) ∙ ap (subscriptions_by ys) (s.all (omega (arith, a, b, l, e))) ∙ sym (by_append xs ys (wanted c));
    }

-- ---- what a client asks for

-- a request about subscriptions goes up, or is refused
pub tells_asked : (c : Client) (r : Result (Option Packet) StateError) (t : Session) → Same c.session t → Others (reply_in r) → Tells c (sends_of c r t) (reply_in r)
tells_asked c (Ok reply) t told k = tells_on c _ (option_to_list reply) (omega (arith, told)) (behind_others c.up (option_to_list reply) k).0 refl
tells_asked c (Err e) t told k = tells_same c c refl refl refl refl

-- away it goes nowhere
pub asked_away : (c : Client) (p : Publish) → Tells c (cut_off (asks_for c p)) []
asked_away c p = by (on_request c.session (requests.Publish p) 0).0 (on_request c.session (requests.Publish p) 0).1 (out_same c.session p)
  where
    by : (r : Result (Option Packet) StateError) (t : Session) → Same c.session t → Tells c (cut_off (asked_of c p r t)) []
    by (Ok reply) t told = tells_lost c _ [] told refl refl refl
    by (Err e) t told = tells_lost c _ [] refl refl refl refl

pub requests_away : (c : Client) (r : Request) (asked : List Packet) → Same c.session (on_request c.session r 0).1 → Tells c (cut_off (requests_for c r)) asked
requests_away c r asked told = by (on_request c.session r 0).0 (on_request c.session r 0).1 told
  where
    by : (o : Result (Option Packet) StateError) (t : Session) → Same c.session t → Tells c (cut_off (sends_of c o t)) asked
    by (Ok reply) t told = tells_lost c _ asked told refl refl refl
    by (Err e) t told = tells_lost c _ asked refl refl refl refl
