-- A network in which all is at rest, and a client was shown a message that it asked for while it was away; at its beginning the client
-- was told of an answer.
use Rattle.std.proofs.Common.{◌≡◌, ◌||◌, ℕ, ◌+◌, zero, suc, true, false, List, [], ◌∷◌, ◌++◌, length, None, Some, refl, sym, ap, ◌∙◌, arith, map, append-nil}
use Rattle.std.specs.Prelude.{slice_get}
use Rattle.std.specs.Str.{is_utf8, IsAscii}
use Rattle.std.proofs.lemmas.Str.{is_utf8-from_IsUtf8, IsUtf8-from_ascii}
use Rattle.std.specs.Ordering.{nat_cmp, eq_by_cmp}
use Rattle.std.specs.Cmp.{nat_cmp_total}
use Rattle.std.specs.FinMap.{get, get-empty}
use Rattle.std.specs.FinSet.{contains-empty, contains-insert}
use Rattle.std.specs.List.{Contains}
use Rattle.std.specs.FinSet as set
use Rattle.std.proofs.Math.Seq.{drop-length}
use Rattle.std.proofs.lemmas.List.Elements.{All-from_recursion, filter_map-append}
use Rattle.mqtt5_base.specs.declared.quality.QoS.TheVariants.{ExactlyOnce}
use Rattle.mqtt5_publish.specs.declared.publish.Publish.{Publish}
use Rattle.mqtt5_subscribe.specs.declared.filter.Filter.{Filter}
use Rattle.mqtt5_subscribe.specs.declared.filter.RetainForwardRule.TheVariants as rules
use Rattle.mqtt5_subscribe.specs.declared.subscribe.Subscribe.{Subscribe}
use Rattle.mqtt5_inflight.proofs.Within.{get_insert_same, no_ids}
use Rattle.mqtt5_session.specs.Session.{fresh}
use Rattle.mqtt5_session.specs.Requests.{on_request}
use Rattle.mqtt5_session.specs.Packets.{on_packet}
use Rattle.mqtt5_session.specs.Resuming.{resume_of}
use Rattle.mqtt5_world.specs.Broker.{idle}
use Rattle.mqtt5_network.specs.Receiver.{publish_in, shown}
use Rattle.mqtt5_network.specs.Asking.{subscription_of}
use Rattle.mqtt5_network.specs.declared.event.ClientEvent.{ClientEvent}
use Rattle.mqtt5_network.specs.declared.event.ClientEvent.TheVariants as events
use Rattle.mqtt5_network.specs.declared.event.NetworkEvent.{NetworkEvent}
use Rattle.mqtt5_network.specs.Place.{Place, happens_at, copies_in, queues_at, gets_at, AtRest}
use Rattle.mqtt5_network.specs.Network.{Network, Profile, begins, new_of, run_network, IsReached, AllAtRest}
use Rattle.mqtt5_network.specs.Granted.{GoesOn, Lives}
use Rattle.mqtt5_network.specs.Answered.{answers_told, asked_in, IsClear}
use Rattle.mqtt5_network.proofs.Places.{goes_on}

-- ---- a client alone

-- what it is after these events, where the broker handed these publishes on, and what that handed on then
abbrev next : List Publish → Place → ClientEvent → Place
next handed p e = queues_at true (new_of p (happens_at p e)) (gets_at (copies_in handed p e) (happens_at p e))

abbrev alone : List ClientEvent → List Publish → Place → Place
alone [] handed p = p
alone (e ∷ es) handed p = alone es (handed ++ new_of p (happens_at p e)) (next handed p e)

abbrev later : List ClientEvent → List Publish → Place → List Publish
later [] handed p = handed
later (e ∷ es) handed p = later es (handed ++ new_of p (happens_at p e)) (next handed p e)

alone_both : (xs ys : List ClientEvent) (handed : List Publish) (p : Place) → alone (xs ++ ys) handed p ≡ alone ys (later xs handed p) (alone xs handed p)
alone_both [] ys handed p = refl
alone_both (e ∷ xs) ys handed p = alone_both xs ys (handed ++ new_of p (happens_at p e)) (next handed p e)

abbrev event : ClientEvent → NetworkEvent
event e = record { client = 0; what = e }

abbrev one : Place → List Publish → Network
one p handed = record { places = p ∷ []; ended = []; handed = handed }

-- in which the session goes on
abbrev AllOn : List ClientEvent → Type 0
AllOn [] = Unit {0}
AllOn (e ∷ es) = GoesOn e × AllOn es

run_alone : (es : List ClientEvent) → AllOn es → (p : Place) (handed : List Publish) → run_network (map event es) (one p handed) ≡ one (alone es handed p) (later es handed p)
run_alone [] g p handed = refl
run_alone (e ∷ es) g p handed =
    let xs = new_of p (happens_at p e) in
    let same = goes_on p e g.0 in
    (λ n. run_network (map event es) (record { places = queues_at true xs (gets_at (copies_in handed p e) (same.0 n)) ∷ []; ended = same.1 n; handed = handed ++ xs }))
    ∙ run_alone es g.1 (next handed p e) (handed ++ xs)

-- ---- what it does

abbrev pub topic : List ℕ
topic = 97 ∷ []

abbrev pub sample : Publish
sample = record { dup = false; qos = ExactlyOnce; retain = false; topic = topic; pkid = 0; payload = []; properties = None }

small : IsAscii topic
small zero = omega arith
small (suc i) = omega arith

pub text : is_utf8 topic ≡ true
text = is_utf8-from_IsUtf8 topic (IsUtf8-from_ascii topic small)

abbrev asked_filter : Filter
asked_filter = record { path = record { bytes = topic; is_text = text }; qos = ExactlyOnce; nolocal = false; preserve_retain = false; retain_forward_rule = rules.OnEverySubscribe }

abbrev subscribe : Subscribe
subscribe = record { pkid = 0; filters = asked_filter ∷ []; properties = None }

-- what is looked up
none_used : (id : ℕ) → get no_ids id ≡ None
none_used id = get-empty nat_cmp id

none_in : (id : ℕ) → set.contains {R = nat_cmp} set.empty id ≡ false
none_in id = contains-empty nat_cmp id

is_in : (ids : set.FinSet nat_cmp) (id q : ℕ) → set.contains (set.insert ids id) q ≡ (eq_by_cmp nat_cmp q id || set.contains ids q)
is_in ids id q = contains-insert nat_cmp_total ids id q

ruleset looks = (none_used, get_insert_same, none_in, is_in)

abbrev profile : Profile
profile = record { limit = 1; sender_limit = 1; subscriptions = [] }

-- it subscribes
abbrev first : List ClientEvent
first = events.Subscribe subscribe ∷ events.Up ∷ events.Down ∷ []

begun : Place
begun = alone first [] (begins profile)

-- so far as matters then
abbrev ready : Place → Place
ready p = record p {
  client = record p.client {
    session = record p.client.session { core = (fresh 1 false).core };
    receiver = idle;
    sender = fresh 1 false;
    up = [];
    down = [];
    accepted = [];
    subscriptions = subscription_of None asked_filter ∷ [];
    queue = [];
  };
  here = true;
  will = None;
  willed = [];
}

begun_ready : begun ≡ ready begun
unfolding on_request on_packet begun
begun_ready = refl

begun_shown : shown begun.client.session ≡ []
unfolding on_request on_packet begun
begun_shown = refl

begun_told : answers_told begun.client.session ≡ 1
unfolding on_request on_packet begun
begun_told = refl

begun_asked : length (asked_in 0 (map event first) (one (begins profile) [])) ≡ 1
unfolding on_request on_packet
begun_asked = refl

pub answered : (n : Network) × (es : List NetworkEvent) × (p : Place) × (q : Place) × IsReached n × Lives 0 es × (slice_get n.places 0 ≡ Some p) × (slice_get (run_network es n).places 0 ≡ Some q) × IsClear p.client × (length (asked_in 0 es n) ≡ 1) × (answers_told q.client.session ≡ answers_told p.client.session + 1)
unfolding begun
answered = (
  one (begins profile) [],
  map event first,
  begins profile,
  begun,
  record { profiles = profile ∷ []; events = []; reached = refl },
  (λ h. tt, (λ h. tt, (λ h. tt, tt))),
  refl,
  ap (λ (m : Network). slice_get m.places 0) (run_alone first (tt, (tt, (tt, tt {0}))) (begins profile) []),
  record { up = refl; down = refl },
  begun_asked,
  begun_told,
)

-- it is away, asks for a publish, and comes back
abbrev second : List ClientEvent
second = events.Lost ∷ events.Ask sample ∷ events.Back None None None ∷ events.Up ∷ events.Down ∷ events.Up ∷ events.Down ∷ []

-- so far as matters then
abbrev waits : Place → Place
waits p = record p {
  client = record p.client {
    session = record p.client.session { core = record p.client.session.core { manual_acks = false; incoming = set.empty } };
    sender = record p.client.sender { core = (fresh 1 false).core };
    up = [];
    down = [];
    subscriptions = subscription_of None asked_filter ∷ [];
    queue = sample ∷ [];
  };
  here = true;
  will = None;
  willed = [];
}

module _ (h : List Publish) (p : Place) where
  back : Place
  back = alone second h (ready p)

  back_up : back.client.up ≡ []
  unfolding on_request on_packet resume_of back
  back_up = simp (looks, text) refl

  back_down : back.client.down ≡ []
  unfolding on_request on_packet resume_of back
  back_down = simp (looks, text) refl

  back_sender : back.client.sender.core ≡ (fresh 1 false).core
  unfolding on_request on_packet resume_of back
  back_sender = simp (looks, text) refl

  back_acks : back.client.session.core.manual_acks ≡ false
  unfolding on_request on_packet resume_of back
  back_acks = simp (looks, text) refl

  back_incoming : back.client.session.core.incoming ≡ set.empty
  unfolding on_request on_packet resume_of back
  back_incoming = simp (looks, text) refl

  back_accepted : back.client.accepted ≡ sample ∷ []
  unfolding on_request on_packet resume_of back
  back_accepted = simp (looks, text) refl

  back_subscriptions : back.client.subscriptions ≡ subscription_of None asked_filter ∷ []
  unfolding on_request on_packet resume_of back
  back_subscriptions = simp (looks, text) refl

  back_queue : back.client.queue ≡ sample ∷ []
  unfolding on_request on_packet resume_of back
  back_queue = simp (looks, text) refl

  back_here : back.here ≡ true
  unfolding on_request on_packet resume_of back
  back_here = refl

  back_will : back.will ≡ None
  unfolding on_request on_packet resume_of back
  back_will = refl

  back_willed : back.willed ≡ []
  unfolding on_request on_packet resume_of back
  back_willed = refl

  back_shown : shown back.client.session ≡ shown p.client.session
  unfolding on_request on_packet resume_of back
  back_shown = simp (looks, text, filter_map-append publish_in, append-nil {A = Publish}) refl

  back_waits : back ≡ waits back
  back_waits = λ n. record back {
    client = record back.client {
      session = record back.client.session { core = record back.client.session.core { manual_acks = back_acks n; incoming = back_incoming n } };
      sender = record back.client.sender { core = back_sender n };
      up = back_up n;
      down = back_down n;
      subscriptions = back_subscriptions n;
      queue = back_queue n;
    };
    here = back_here n;
    will = back_will n;
    willed = back_willed n;
  }

-- then it is shown it
abbrev third : List ClientEvent
third = events.PassOn ∷ events.Down ∷ events.Up ∷ events.Down ∷ events.Up ∷ []

module _ (h : List Publish) (p : Place) where
  told : Place
  told = alone third h (waits p)

  told_up : told.client.up ≡ []
  unfolding on_request on_packet resume_of told
  told_up = simp (looks, drop-length {A = Publish}) refl

  told_down : told.client.down ≡ []
  unfolding on_request on_packet resume_of told
  told_down = simp (looks, drop-length {A = Publish}) refl

  told_queue : told.client.queue ≡ []
  unfolding on_request on_packet resume_of told
  told_queue = simp (looks, drop-length {A = Publish}) refl

  told_here : told.here ≡ true
  unfolding on_request on_packet resume_of told
  told_here = refl

  told_accepted : told.client.accepted ≡ p.client.accepted
  unfolding on_request on_packet resume_of told
  told_accepted = simp (looks, drop-length {A = Publish}) refl

  told_shown : shown told.client.session ≡ shown p.client.session ++ record sample { pkid = 1 } ∷ []
  unfolding on_request on_packet resume_of told
  told_shown = simp (looks, drop-length {A = Publish}, filter_map-append publish_in, append-nil {A = Publish}) refl

-- ---- the network

abbrev way : List ClientEvent
way = first ++ (second ++ third)

all_on : AllOn way
all_on = (tt, (tt, (tt, (tt, (tt, (tt, (tt, (tt, (tt, (tt, (tt, (tt, (tt, (tt, (tt, tt {0})))))))))))))))

-- what was handed on before each part
handed_first : List Publish
handed_first = later first [] (begins profile)

handed_second : List Publish
handed_second = later second handed_first begun

abbrev returned : Place
returned = back handed_first begun

abbrev last : Place
last = told handed_second returned

last_is : last ≡ alone way [] (begins profile)
unfolding told back begun handed_first handed_second
last_is =
    ap (alone third handed_second) (sym (back_waits handed_first begun))
    ∙ ap (λ p. alone third handed_second (alone second handed_first p)) (sym begun_ready)
    ∙ sym (alone_both second third handed_first begun)
    ∙ sym (alone_both first (second ++ third) [] (begins profile))

ended : (handed : List Publish) × IsReached (one last handed)
ended =
    let a = run_alone way all_on (begins profile) [] in
    (later way [] (begins profile), record { profiles = profile ∷ []; events = map event way; reached = sym (a ∙ ap (λ p. one p (later way [] (begins profile))) (sym last_is)) })

pub shows : (n : Network) × (p : Place) × (x : Publish) × IsReached n × Contains n.places p × AllAtRest n × (x.qos ≡ ExactlyOnce) × (p.client.accepted ≡ x ∷ []) × (shown p.client.session ≡ record x { pkid = 1 } ∷ [])
shows =
    let all : List Place = last ∷ [] in (
      one last ended.0,
      last,
      sample,
      ended.1,
      (0, omega arith, refl),
      All-from_recursion AtRest all (record { here = told_here handed_second returned; up = told_up handed_second returned; down = told_down handed_second returned; queue = told_queue handed_second returned }, tt),
      refl,
      told_accepted handed_second returned ∙ back_accepted handed_first begun,
      told_shown handed_second returned ∙ ap (λ ps. ps ++ record sample { pkid = 1 } ∷ []) (back_shown handed_first begun ∙ begun_shown),
    )
