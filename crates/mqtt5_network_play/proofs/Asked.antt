-- What a client is after its session was asked for something, after a packet arrived, and after one of its queue was passed.
use Rattle.std.proofs.Common.{◌≡◌, ℕ, ◌+◌, ◌<◌, ◌==◌, true, false, cond, List, [], ◌∷◌, ◌++◌, take, drop, length, append-nil, Option, Some, None, Result, Ok, Err, refl, sym, ap, ◌∙◌, slice_index_or}
use Rattle.std.specs.Prelude.{Bool, is_ok}
use Rattle.std.specs.List.{filter_map}
use Rattle.std.specs.Option.{option_to_list}
use Rattle.std.proofs.lemmas.Bool.{eqb-true}
use Rattle.std.proofs.lemmas.List.{take_more, nil_from_length}
use Rattle.std.proofs.lemmas.List.Elements.{filter_map-append}
use Rattle.mqtt5_publish.specs.declared.publish.Publish.{Publish}
use Rattle.mqtt5_subscribe.specs.declared.subscribe.Subscribe.{Subscribe}
use Rattle.mqtt5_subscribe.specs.declared.unsubscribe.Unsubscribe.{Unsubscribe}
use Rattle.mqtt5_codec.specs.declared.packet.Packet.{Packet}
use Rattle.mqtt5_codec.specs.declared.packet.Packet.TheVariants as packets
use Rattle.mqtt5_inflight.specs.declared.event.Event.{Event}
use Rattle.mqtt5_inflight.specs.declared.event.Outgoing.TheVariants as outgoing
use Rattle.mqtt5_inflight.specs.declared.event.Request.{Request}
use Rattle.mqtt5_inflight.specs.declared.event.Request.TheVariants as requests
use Rattle.mqtt5_inflight.specs.declared.error.StateError.{StateError}
use Rattle.mqtt5_inflight.specs.declared.error.StateError.TheVariants as errors
use Rattle.mqtt5_session.specs.Session.{Session, Answer}
use Rattle.mqtt5_session.specs.Requests.{on_request, next_id, gives_id, with_event_at}
use Rattle.mqtt5_world.specs.Broker.{Broker}
use Rattle.mqtt5_network.specs.Receiver.{publish_in}
use Rattle.mqtt5_network.specs.Connection.{reply_in, is_sending}
use Rattle.mqtt5_network.specs.declared.subscription.Subscription.{Subscription}
use Rattle.mqtt5_network.specs.Asking.{is_ack}
use Rattle.mqtt5_network.specs.Retained.{copies_for, copies_first}
use Rattle.mqtt5_network.specs.Client.{Client, asked_of, asks_for, sends_of, requests_for, comes_to, taken_for, passes_on, takes_out}
use Rattle.mqtt5_router.specs.Kept.{Kept, kept_of, after_packet, after_pass}
use Rattle.mqtt5_router.proofs.Alone.{packet_kept, packet_reply, packet_handed, pass_kept, pass_sent, pass_taken}
use Rattle.mqtt5_router.proofs.Refused.{IsKept, refused_kept}
use Rattle.mqtt5_network_play.specs.Plays.{IsAbout}

-- ---- after its session was asked for a publish

module _ (c : Client) (p : Publish) where
  abbrev answer : Answer
  answer = on_request c.session (requests.Publish p) 0

  asked_true : (r : Result (Option Packet) StateError) (s : Session) → is_ok r ≡ true → asked_of c p r s ≡ record c { session = s; up = c.up ++ reply_in r; accepted = c.accepted ++ p ∷ [] }
  asked_true (Ok reply) s h = refl
  asked_true (Err e) s h = absurd cc

  asked_false : (r : Result (Option Packet) StateError) (s : Session) → IsKept c.session (r, s) → is_ok r ≡ false → asked_of c p r s ≡ record c { session = s; up = c.up ++ reply_in r }
  asked_false (Ok reply) s k h = absurd cc
  asked_false (Err e) s k h = λ j. record c { session = sym (k e refl) j; up = sym (append-nil c.up) j }

  pub asks_true : is_ok (on_request c.session (requests.Publish p) 0).0 ≡ true
      → asks_for c p ≡ record c { session = (on_request c.session (requests.Publish p) 0).1; up = c.up ++ reply_in (on_request c.session (requests.Publish p) 0).0; accepted = c.accepted ++ p ∷ [] }
  asks_true h = asked_true answer.0 answer.1 h

  pub asks_false : is_ok (on_request c.session (requests.Publish p) 0).0 ≡ false
      → asks_for c p ≡ record c { session = (on_request c.session (requests.Publish p) 0).1; up = c.up ++ reply_in (on_request c.session (requests.Publish p) 0).0 }
  asks_false h = asked_false answer.0 answer.1 (refused_kept c.session p) h

-- ---- for something about subscriptions

subscribe_kept : (s : Session) (p : Subscribe) → IsKept s (on_request s (requests.Subscribe p) 0)
unfolding on_request
subscribe_kept s p = by (length p.filters == 0)
  where
    by : (b : Bool) → IsKept s (cond b (Err errors.EmptySubscription, s) (Ok (Some (packets.Subscribe (record p { pkid = next_id s.core }))), with_event_at (gives_id s) (outgoing.Subscribe (next_id s.core)) 0))
    by true = λ e h. refl
    by false = λ e h. absurd cc

unsubscribe_kept : (s : Session) (p : Unsubscribe) → IsKept s (on_request s (requests.Unsubscribe p) 0)
unfolding on_request
unsubscribe_kept s p = λ e h. absurd cc

about_kept : (s : Session) (r : Request) → IsAbout r → IsKept s (on_request s r 0)
about_kept s (requests.Subscribe p) about = subscribe_kept s p
about_kept s (requests.Unsubscribe p) about = unsubscribe_kept s p
about_kept s other about = absurd about

pub about_sends : (c : Client) (r : Request) → IsAbout r
    → requests_for c r ≡ record c { session = (on_request c.session r 0).1; up = c.up ++ reply_in (on_request c.session r 0).0 }
about_sends c r about = by (on_request c.session r 0).0 (on_request c.session r 0).1 (about_kept c.session r about)
  where
    by : (a : Result (Option Packet) StateError) (s : Session) → IsKept c.session (a, s) → sends_of c a s ≡ record c { session = s; up = c.up ++ reply_in a }
    by (Ok reply) s same = refl
    by (Err e) s same = λ j. record c { session = sym (same e refl) j; up = sym (append-nil c.up) j }

-- ---- after a packet arrived

module _ (c : Client) where
  -- it changes what is kept, what was handed on, and what is on its way down
  comes_whole : (sending ack : Bool) (x : Packet) → comes_to sending ack c x
      ≡ record c { receiver = (comes_to sending ack c x).receiver; sender = (comes_to sending ack c x).sender; down = (comes_to sending ack c x).down; subscriptions = (comes_to sending ack c x).subscriptions; queue = (comes_to sending ack c x).queue }
  comes_whole true ack x = refl
  comes_whole false true x = refl
  comes_whole false false x = refl

  module _ (x : Packet) where
    abbrev come : Client
    come = comes_to (is_sending x) (is_ack x) c x

    -- by what is seen of it then: what is kept, all that was handed on, and the way down
    pub arrives : (k : Kept) (all handed : List Publish) (way down : List Packet) → k ≡ kept_of (after_packet (kept_of c) x)
        → all ≡ c.receiver.handed ++ handed → handed ≡ (after_packet (kept_of c) x).receiver.handed
        → way ≡ c.down ++ down → down ≡ (after_packet (kept_of c) x).down
        → record c { receiver = record { ids = k.ids; handed = all }; sender = k.sender; down = way; subscriptions = k.subscriptions; queue = k.queue }
        ≡ comes_to (is_sending x) (is_ack x) c x
    arrives k all handed way down kept grown more behind back =
        let e : k ≡ kept_of come = kept ∙ sym (packet_kept c x) in
        let h : all ≡ come.receiver.handed = grown ∙ ap (λ ps. c.receiver.handed ++ ps) more ∙ sym (packet_handed c x) in
        let d : way ≡ come.down = behind ∙ ap (λ xs. c.down ++ xs) back ∙ sym (packet_reply c x) in
        (λ j. record c { receiver = record { ids = (e j).ids; handed = h j }; sender = (e j).sender; down = d j; subscriptions = (e j).subscriptions; queue = (e j).queue })
        ∙ sym (comes_whole (is_sending x) (is_ack x) x)

  -- ---- after the first of its queue was passed on

  taken_whole : (p : Publish) (rest : List Publish) (r : Result (Option Packet) StateError) (s : Session) → taken_for c p rest r s
      ≡ record c { receiver = (taken_for c p rest r s).receiver; sender = (taken_for c p rest r s).sender; down = (taken_for c p rest r s).down; subscriptions = (taken_for c p rest r s).subscriptions; queue = (taken_for c p rest r s).queue; taken = (taken_for c p rest r s).taken }
  taken_whole p rest (Ok reply) s = refl
  taken_whole p rest (Err e) s = refl

  passes_whole : (ps : List Publish) → passes_on c ps
      ≡ record c { receiver = (passes_on c ps).receiver; sender = (passes_on c ps).sender; down = (passes_on c ps).down; subscriptions = (passes_on c ps).subscriptions; queue = (passes_on c ps).queue; taken = (passes_on c ps).taken }
  passes_whole [] = refl
  passes_whole (p ∷ rest) = taken_whole p rest (on_request c.sender (requests.Publish p) 0).0 (on_request c.sender (requests.Publish p) 0).1

  taken_receiver : (p : Publish) (rest : List Publish) (r : Result (Option Packet) StateError) (s : Session) → (taken_for c p rest r s).receiver ≡ c.receiver
  taken_receiver p rest (Ok reply) s = refl
  taken_receiver p rest (Err e) s = refl

  passes_receiver : (ps : List Publish) → (passes_on c ps).receiver ≡ c.receiver
  passes_receiver [] = refl
  passes_receiver (p ∷ rest) = taken_receiver p rest (on_request c.sender (requests.Publish p) 0).0 (on_request c.sender (requests.Publish p) 0).1

  abbrev passed : Client
  passed = passes_on c c.queue

  pub passes : (k : Kept) (taken : List Publish) (down : List Packet) → k ≡ kept_of (after_pass (kept_of c)) → taken ≡ (after_pass (kept_of c)).taken → down ≡ (after_pass (kept_of c)).down
      → record c { receiver = record { ids = k.ids; handed = c.receiver.handed }; sender = k.sender; down = c.down ++ down; subscriptions = k.subscriptions; queue = k.queue; taken = c.taken ++ taken }
      ≡ passes_on c c.queue
  passes k taken down kept more back =
      let e : k ≡ kept_of passed = kept ∙ sym (pass_kept c) in
      let t : c.taken ++ taken ≡ passed.taken = ap (λ ps. c.taken ++ ps) more ∙ sym (pass_taken c) in
      let d : c.down ++ down ≡ passed.down = ap (λ xs. c.down ++ xs) back ∙ sym (pass_sent c) in
      let h : c.receiver.handed ≡ passed.receiver.handed = sym (ap (λ (b : Broker). b.handed) (passes_receiver c.queue)) in
      (λ j. record c { receiver = record { ids = (e j).ids; handed = h j }; sender = (e j).sender; down = d j; subscriptions = (e j).subscriptions; queue = (e j).queue; taken = t j })
      ∙ sym (passes_whole c.queue)

-- ---- after the first of its queue has expired

none_left : (ps : List Publish) → (length ps == 0) ≡ true → ps ≡ drop 1 ps
none_left ps h = let e = nil_from_length ps (eqb-true (length ps) 0 h) in e ∙ sym (ap (drop 1) e)

none_more : (ps qs : List Publish) → (length ps == 0) ≡ true → qs ≡ qs ++ take 1 ps
none_more ps qs h = sym (ap (λ xs. qs ++ take 1 xs) (nil_from_length ps (eqb-true (length ps) 0 h)) ∙ append-nil qs)

module _ (c : Client) where
  pub none_expires : (length c.queue == 0) ≡ true → c ≡ takes_out c
  none_expires h = λ j. record c { queue = none_left c.queue h j; taken = none_more c.queue c.taken h j; expired = none_more c.queue c.expired h j }

  pub first_expires : (p : Publish) → (length c.queue == 0) ≡ false → p ≡ slice_index_or c.queue 0 p
      → record c { queue = drop 1 c.queue; taken = c.taken ++ p ∷ []; expired = c.expired ++ p ∷ [] } ≡ takes_out c
  first_expires p h is = ap (λ xs. record c { queue = drop 1 c.queue; taken = c.taken ++ xs; expired = c.expired ++ xs }) (by c.queue h is)
    where
      by : (ps : List Publish) → (length ps == 0) ≡ false → p ≡ slice_index_or ps 0 p → p ∷ [] ≡ take 1 ps
      by [] h is = absurd cc
      by (q ∷ ps) h is = ap (λ x. x ∷ []) is

-- ---- copies for the first packet on its way up

no_packets : (xs : List Packet) → (length xs == 0) ≡ true → xs ≡ []
no_packets xs h = nil_from_length xs (eqb-true (length xs) 0 h)

pub copies_none : (kept : List Publish) (ss : List Subscription) (xs : List Packet) → (length xs == 0) ≡ true → [] ≡ copies_first kept ss xs
copies_none kept ss xs h = sym (ap (copies_first kept ss) (no_packets xs h))

pub copies_some : (kept : List Publish) (ss : List Subscription) (xs : List Packet) (x : Packet) → (length xs == 0) ≡ false → x ≡ slice_index_or xs 0 x → copies_first kept ss xs ≡ copies_for kept ss x
copies_some kept ss [] x h is = absurd cc
copies_some kept ss (y ∷ xs) x h is = ap (copies_for kept ss) (sym is)

-- ---- one more of a queue

pub queue_next : (ps : List Publish) (i : ℕ) (x : Publish) → i < length ps → x ≡ slice_index_or ps i x → take (i + 1) ps ≡ take i ps ++ x ∷ []
queue_next ps i x below is = take_more ps i x below ∙ ap (λ y. take i ps ++ y ∷ []) (sym is)

-- ---- one more event that is looked at

show_last : (x : Event) → filter_map publish_in (x ∷ []) ≡ option_to_list (publish_in x)
show_last x = by (publish_in x)
  where
    by : (o : Option Publish) → filter_map (λ (y : Event). o) (x ∷ []) ≡ option_to_list o
    by None = refl
    by (Some p) = refl

pub shown_next : (es : List Event) (i : ℕ) (x : Event) → i < length es → x ≡ slice_index_or es i x → filter_map publish_in (take (i + 1) es) ≡ filter_map publish_in (take i es) ++ option_to_list (publish_in x)
shown_next es i x below is =
    ap (filter_map publish_in) (take_more es i x below)
    ∙ filter_map-append publish_in (take i es) (slice_index_or es i x ∷ [])
    ∙ ap (λ y. filter_map publish_in (take i es) ++ filter_map publish_in (y ∷ [])) (sym is)
    ∙ ap (λ ps. filter_map publish_in (take i es) ++ ps) (show_last x)
