-- The publishes that go from a session that sends to one that receives are those of a run of a world.
use Rattle.std.proofs.Common.{◌≡◌, ℕ, ◌+◌, ◌≤◌, true, false, cond, List, [], ◌∷◌, ◌++◌, Option, None, Result, Ok, Err, refl, sym, ap, ◌∙◌, subst, arith, append-nil, Bool, ◌&&◌, map}
use Rattle.std.specs.Prelude.{not}
use Rattle.std.specs.Option.{option_to_list}
use Rattle.std.specs.FinMap.{get}
use Rattle.std.proofs.lemmas.List.{map-append}
use Rattle.std.proofs.lemmas.List.Elements.{filter-append}
use Rattle.mqtt5_base.specs.declared.quality.QoS.{QoS}
use Rattle.mqtt5_base.specs.declared.quality.QoS.TheVariants.{AtMostOnce, AtLeastOnce, ExactlyOnce}
use Rattle.mqtt5_publish.specs.declared.publish.Publish.{Publish}
use Rattle.mqtt5_codec.specs.declared.packet.Packet.{Packet}
use Rattle.mqtt5_codec.specs.declared.packet.Packet.TheVariants as packets
use Rattle.mqtt5_inflight.specs.declared.event.Request.TheVariants as requests
use Rattle.mqtt5_inflight.specs.declared.error.StateError.{StateError}
use Rattle.mqtt5_session.specs.Session.{Core, Session}
use Rattle.mqtt5_session.specs.Requests.{on_request}
use Rattle.mqtt5_session.specs.Packets.{on_packet}
use Rattle.mqtt5_session.specs.Resuming.{resume_of}
use Rattle.mqtt5_session.proofs.Exports.{Sound}
use Rattle.mqtt5_world.specs.declared.event.WorldEvent.{WorldEvent}
use Rattle.mqtt5_world.specs.declared.event.WorldEvent.TheVariants as events
use Rattle.mqtt5_world.specs.Broker.{Broker, serve, serve_publish}
use Rattle.mqtt5_world.specs.World.{World, start, after_request, arrives, after_reply, returns, after_resume, resumes, happens, run_world, losses}
use Rattle.mqtt5_world.proofs.Step.{Inv, SlotAllowed}
use Rattle.mqtt5_world.proofs.Losses.{sends_again}
use Rattle.mqtt5_world.proofs.Runs.{inv_start, inv_next, inv_run, run_append, losses_append}
use Rattle.mqtt5_progress.specs.Progress.{Deliveries, work, delivered, found}
use Rattle.mqtt5_progress.proofs.Work.{lowers}
use Rattle.mqtt5_progress.specs.Packets.{IsAck, Every, numbered}
use Rattle.mqtt5_progress.proofs.Closed.{Closed, IsSent, APublish, ARelease, GoesUp, ComesDown, HoldsCore, Holds, HoldsReply, IfAccepted, Owes, again_of, taken_core, taken_reply, resumes_taken, keeps_out, keeps_inc, keeps_again, taken_holds, holds_next, holds_start}
use Rattle.mqtt5_network.specs.Connection.{is_sending, reply_in, connected, sent}
use Rattle.mqtt5_network.specs.Asking.{is_ack as is_an_ack, acks, others, answer_of}
use Rattle.mqtt5_network.specs.declared.subscription.Subscription.{Subscription}
use Rattle.mqtt5_network.proofs.Sending.{part, out_alike, numbered_again, ack_alike, connected_alike, again_alike}

-- ---- what is sent, what is an ack, and what is neither

-- a packet that is sent isn't an ack
apart : (x : Packet) → is_sending x ≡ true → is_an_ack x ≡ false
apart (packets.Publish p) e = refl
apart (packets.PubRel p) e = refl
apart other e = absurd cc

-- packets of a sender alone
pub record Sends (ps : List Packet) : Type 0 where
  pub all : sent ps ≡ ps
  pub none : acks ps ≡ []
  pub rest : others ps ≡ []

-- acks alone
pub record Acks (ps : List Packet) : Type 0 where
  pub all : acks ps ≡ ps
  pub none : sent ps ≡ []
  pub rest : others ps ≡ []

-- neither
pub record Others (ps : List Packet) : Type 0 where
  pub all : others ps ≡ ps
  pub none : sent ps ≡ []
  pub rest : acks ps ≡ []

abbrev kept_if : Bool → Packet → List Packet → List Packet
kept_if b x xs = cond b (x ∷ xs) xs

front_sending : (x : Packet) (xs : List Packet) → is_sending x ≡ true → (sent (x ∷ xs) ≡ x ∷ sent xs) × (acks (x ∷ xs) ≡ acks xs) × (others (x ∷ xs) ≡ others xs)
front_sending x xs e = (ap (λ b. kept_if b x (sent xs)) e, ap (λ b. kept_if b x (acks xs)) (apart x e), ap (λ b. kept_if (not b && not (is_an_ack x)) x (others xs)) e)

front_ack : (x : Packet) (xs : List Packet) → is_sending x ≡ false → is_an_ack x ≡ true → (acks (x ∷ xs) ≡ x ∷ acks xs) × (sent (x ∷ xs) ≡ sent xs) × (others (x ∷ xs) ≡ others xs)
front_ack x xs e f = (ap (λ b. kept_if b x (acks xs)) f, ap (λ b. kept_if b x (sent xs)) e, λ n. kept_if (not (e n) && not (f n)) x (others xs))

front_other : (x : Packet) (xs : List Packet) → is_sending x ≡ false → is_an_ack x ≡ false → (others (x ∷ xs) ≡ x ∷ others xs) × (sent (x ∷ xs) ≡ sent xs) × (acks (x ∷ xs) ≡ acks xs)
front_other x xs e f = (λ n. kept_if (not (e n) && not (f n)) x (others xs), ap (λ b. kept_if b x (sent xs)) e, ap (λ b. kept_if b x (acks xs)) f)

-- of a way with such a front
pub first_sending : (way : List Packet) (x : Packet) (rest : List Packet) → way ≡ x ∷ rest → is_sending x ≡ true → (sent way ≡ x ∷ sent rest) × (acks way ≡ acks rest) × (others way ≡ others rest)
first_sending way x rest w e = let f = front_sending x rest e in (ap sent w ∙ f.0, ap acks w ∙ f.1, ap others w ∙ f.2)

pub first_ack : (way : List Packet) (x : Packet) (rest : List Packet) → way ≡ x ∷ rest → is_sending x ≡ false → is_an_ack x ≡ true → (acks way ≡ x ∷ acks rest) × (sent way ≡ sent rest) × (others way ≡ others rest)
first_ack way x rest w e h = let f = front_ack x rest e h in (ap acks w ∙ f.0, ap sent w ∙ f.1, ap others w ∙ f.2)

pub first_other : (way : List Packet) (x : Packet) (rest : List Packet) → way ≡ x ∷ rest → is_sending x ≡ false → is_an_ack x ≡ false → (others way ≡ x ∷ others rest) × (sent way ≡ sent rest) × (acks way ≡ acks rest)
first_other way x rest w e h = let f = front_other x rest e h in (ap others w ∙ f.0, ap sent w ∙ f.1, ap acks w ∙ f.2)

-- behind others
pub behind_sends : (xs ps : List Packet) → Sends ps → (sent (xs ++ ps) ≡ sent xs ++ ps) × (acks (xs ++ ps) ≡ acks xs) × (others (xs ++ ps) ≡ others xs)
behind_sends xs ps s = (
  filter-append is_sending xs ps ∙ ap (λ l. sent xs ++ l) s.all,
  filter-append is_an_ack xs ps ∙ ap (λ l. acks xs ++ l) s.none ∙ append-nil (acks xs),
  filter-append (λ x. not (is_sending x) && not (is_an_ack x)) xs ps ∙ ap (λ l. others xs ++ l) s.rest ∙ append-nil (others xs),
)

pub behind_acks : (xs ps : List Packet) → Acks ps → (acks (xs ++ ps) ≡ acks xs ++ ps) × (sent (xs ++ ps) ≡ sent xs) × (others (xs ++ ps) ≡ others xs)
behind_acks xs ps s = (
  filter-append is_an_ack xs ps ∙ ap (λ l. acks xs ++ l) s.all,
  filter-append is_sending xs ps ∙ ap (λ l. sent xs ++ l) s.none ∙ append-nil (sent xs),
  filter-append (λ x. not (is_sending x) && not (is_an_ack x)) xs ps ∙ ap (λ l. others xs ++ l) s.rest ∙ append-nil (others xs),
)

pub behind_others : (xs ps : List Packet) → Others ps → (others (xs ++ ps) ≡ others xs ++ ps) × (sent (xs ++ ps) ≡ sent xs) × (acks (xs ++ ps) ≡ acks xs)
behind_others xs ps s = (
  filter-append (λ x. not (is_sending x) && not (is_an_ack x)) xs ps ∙ ap (λ l. others xs ++ l) s.all,
  filter-append is_sending xs ps ∙ ap (λ l. sent xs ++ l) s.none ∙ append-nil (sent xs),
  filter-append is_an_ack xs ps ∙ ap (λ l. acks xs ++ l) s.rest ∙ append-nil (acks xs),
)

-- the broker answers a request for subscriptions with such
pub answer_others : (ss : List Subscription) (x : Packet) → Others (option_to_list (answer_of ss x))
answer_others ss (packets.Subscribe p) = record { all = refl; none = refl; rest = refl }
answer_others ss (packets.Unsubscribe p) = record { all = refl; none = refl; rest = refl }
answer_others ss other = record { all = refl; none = refl; rest = refl }

-- a receiver answers with acks
publish_acks : (q : QoS) (b : Broker) (p : Publish) → Acks (option_to_list (serve_publish q b p).0)
publish_acks AtMostOnce b p = record { all = refl; none = refl; rest = refl }
publish_acks AtLeastOnce b p = record { all = refl; none = refl; rest = refl }
publish_acks ExactlyOnce b p = record { all = refl; none = refl; rest = refl }

pub serve_acks : (b : Broker) (x : Packet) → Acks (option_to_list (serve b x).0)
serve_acks b (packets.Publish p) = publish_acks p.qos b p
serve_acks b (packets.PubRel a) = record { all = refl; none = refl; rest = refl }
serve_acks b other = record { all = refl; none = refl; rest = refl }

-- what goes up in a world is sent
sent_sending : (x : Packet) → IsSent x → is_sending x ≡ true
sent_sending _ (APublish p) = refl
sent_sending _ (ARelease id) = refl

every_sends : (Q : Packet → Type 0) (ps : List Packet) → Every (GoesUp Q) ps → Sends ps
every_sends Q [] h = record { all = refl; none = refl; rest = refl }
every_sends Q (x ∷ ps) h =
    let rest = every_sends Q ps h.1 in
    let f = front_sending x ps (sent_sending x h.0.1) in
    record { all = f.0 ∙ ap (λ l. x ∷ l) rest.all; none = f.1 ∙ rest.none; rest = f.2 ∙ rest.rest }

reply_sends : (Q : Packet → Type 0) (r : Result (Option Packet) StateError) → HoldsReply Q r → Sends (reply_in r)
reply_sends Q (Ok o) h = every_sends Q (option_to_list o) h
reply_sends Q (Err e) h = record { all = refl; none = refl; rest = refl }

-- ---- a flow

-- a world, of whose session the sending part alone is looked at
abbrev pub trim : World → World
trim w = record w { session = part w.session }

-- what a session sends to a receiver over two ways that others use too, and what it took on
abbrev pub flow : Session → Broker → List Packet → List Packet → List Publish → World
flow s b forth back ps = record { session = part s; broker = b; up = sent forth; down = acks back; accepted = ps; refused = []; faults = [] }

-- these of a flow
pub record Ends : Type 0 where
  pub sender : Session
  pub receiver : Broker
  pub there : List Packet
  pub back : List Packet
  pub taken : List Publish

abbrev pub flow_of : Ends → World
flow_of e = flow e.sender e.receiver e.there e.back e.taken

-- with id 0
abbrev pub unnumbered : Publish → Publish
unnumbered p = record p { pkid = 0 }

-- it is a run, whose publishes are asked for with the ids that they are given, and so much is said of all its packets
pub record IsFlow (Q : Packet → Type 0) (limit times : ℕ) (v : World) : Type 0 where
  pub events : List WorldEvent
  pub ids : List Publish
  pub like : map unnumbered ids ≡ map unnumbered v.accepted
  pub reached : trim (run_world events (start limit)) ≡ record v { accepted = ids }
  pub holds : Holds Q limit (run_world events (start limit))
  pub lost : losses events ≡ times

pub start_flow : (Q : Packet → Type 0) (limit : ℕ) → IsFlow Q limit 0 (trim (start limit))
start_flow Q limit = record { events = []; ids = []; like = refl; reached = refl; holds = holds_start Q limit; lost = refl }

-- the same but for the other flow
pub same_flow : (s t : Session) (b d : Broker) (forth ahead back behind : List Packet) (ps : List Publish) → part t ≡ part s → d ≡ b → sent ahead ≡ sent forth → acks behind ≡ acks back → flow t d ahead behind ps ≡ flow s b forth back ps
same_flow s t b d forth ahead back behind ps e f g h = λ n. record { session = e n; broker = f n; up = g n; down = h n; accepted = ps; refused = []; faults = [] }

numbered_blank : (q : QoS) (c : Core) (p : Publish) → unnumbered (numbered q c p) ≡ unnumbered p
numbered_blank AtMostOnce c p = refl
numbered_blank AtLeastOnce c p = refl
numbered_blank ExactlyOnce c p = refl

if_so : (a : Result (Option Packet) StateError) (P : Type 0) → P → IfAccepted a P
if_so (Ok o) P h = h
if_so (Err e) P h = tt {0}

-- no packet that comes down is refused
heard_is : (w : World) (r : Result (Option Packet) StateError) (s : Session) → w.faults ≡ [] → (after_reply w r s).faults ≡ [] → after_reply w r s ≡ record w { session = s; up = w.up ++ reply_in r }
heard_is w (Ok reply) s none h = refl
heard_is w (Err e) s none h = absurd (let f : ◌≡◌ {A = List StateError} (e ∷ []) [] = sym (ap (λ l. l ++ e ∷ []) none) ∙ h in cc)

-- ---- its events

-- a delivery keeps it, and leaves less work
pub record Goes (Q : Packet → Type 0) (limit lost : ℕ) (u v : World) : Type 0 where
  pub still : IsFlow Q limit lost v
  pub less : work v + 1 ≤ work u

module _ (Q : Packet → Type 0) (closed : Closed Q) (limit lost : ℕ) (ends : Ends) (i : IsFlow Q limit lost (flow_of ends)) where
  abbrev s : Session
  s = ends.sender

  abbrev b : Broker
  b = ends.receiver

  abbrev forth : List Packet
  forth = ends.there

  abbrev back : List Packet
  back = ends.back

  abbrev ps : List Publish
  ps = ends.taken

  abbrev w : World
  w = run_world i.events (start limit)

  inv : Inv w
  inv = inv_run i.events (start limit) (inv_start limit)

  same_part : part w.session ≡ part s
  same_part = ap (λ (v : World). v.session) i.reached

  pub holds_core : HoldsCore Q limit s.core
  holds_core =
      let h = i.holds.core in
      let k : HoldsCore Q limit (part s).core = subst (λ (r : Session). HoldsCore Q limit r.core) same_part (record { limited = h.limited; in_use = h.in_use; waits = h.waits }) in
      record { limited = k.limited; in_use = k.in_use; waits = k.waits }

  on : (v : World) (ids : List Publish) → map unnumbered ids ≡ map unnumbered v.accepted → (e : WorldEvent) (m : ℕ) → trim (happens w e) ≡ record v { accepted = ids } → Owes Q w e → lost + losses (e ∷ []) ≡ m → IsFlow Q limit m v
  on v ids like e m same owes l =
      record {
        events = i.events ++ e ∷ [];
        ids = ids;
        like = like;
        reached = ap trim (run_append i.events (e ∷ []) (start limit)) ∙ same;
        holds = subst (Holds Q limit) (sym (run_append i.events (e ∷ []) (start limit))) (holds_next Q limit closed w e inv i.holds owes);
        lost = let a = losses_append i.events (e ∷ []) in let c = i.lost in omega (arith, a, c, l);
      }

  goes : (v : World) → v.accepted ≡ ps → (e : WorldEvent) → trim (happens w e) ≡ record v { accepted = i.ids } → Owes Q w e → losses (e ∷ []) ≡ 0 → Deliveries (e ∷ []) → delivered (e ∷ []) w ≡ 1 → Goes Q limit lost (flow_of ends) v
  goes v kept e same owes none d one =
      record {
        still = on v i.ids (i.like ∙ ap (map unnumbered) (sym kept)) e lost same owes (omega (arith, none));
        less = let l = lowers (e ∷ []) w d in let c = ap work same in let k = ap work i.reached in omega (arith, l, c, k, one);
      }

  -- a publish is asked for
  pub sends_out : (p : Publish) → ((c : Core) → Q (packets.Publish (numbered p.qos c p))) → Sends (reply_in (on_request s (requests.Publish p) 0).0)
  sends_out p q = reply_sends Q _ (keeps_out Q limit s p holds_core (if_so (on_request s (requests.Publish p) 0).0 (Q (packets.Publish (numbered p.qos s.core p))) (q s.core))).reply

  abbrev pub Asked : Publish → Result (Option Packet) StateError → Session → Type 0
  Asked p (Ok reply) t = IsFlow Q limit lost (flow t b (forth ++ option_to_list reply) back (ps ++ p ∷ []))
  Asked p (Err e) t = Unit {0}

  pub asks : (p : Publish) → ((c : Core) → Q (packets.Publish (numbered p.qos c p))) → Asked p (on_request s (requests.Publish p) 0).0 (on_request s (requests.Publish p) 0).1
  asks p q =
      let a = out_alike w.session s p same_part in
      by (on_request s (requests.Publish p) 0).0 (on_request s (requests.Publish p) 0).1 a.reply a.after (sends_out p q)
    where
      given : Publish
      given = numbered p.qos s.core p

      owed : Q (packets.Publish (numbered given.qos w.session.core given))
      owed = subst (λ x. Q (packets.Publish x)) (sym (numbered_again s.core w.session.core p)) (q s.core)

      alike : map unnumbered (i.ids ++ given ∷ []) ≡ map unnumbered (ps ++ p ∷ [])
      alike = map-append unnumbered i.ids (given ∷ []) ∙ ap (λ l. l ++ unnumbered given ∷ []) i.like ∙ ap (λ x. map unnumbered ps ++ x ∷ []) (numbered_blank p.qos s.core p) ∙ sym (map-append unnumbered ps (p ∷ []))

      by : (r : Result (Option Packet) StateError) (t : Session) → (on_request w.session (requests.Publish given) 0).0 ≡ r → part (on_request w.session (requests.Publish given) 0).1 ≡ part t → Sends (reply_in r) → Asked p r t
      by (Ok reply) t e f k =
          on (flow t b (forth ++ option_to_list reply) back (ps ++ p ∷ [])) (i.ids ++ given ∷ []) alike (events.Publish given) lost
          (ap (λ r. trim (after_request w given r (on_request w.session (requests.Publish given) 0).1)) e
          ∙ (λ n. record (trim w) { session = f n; up = w.up ++ option_to_list reply; accepted = w.accepted ++ given ∷ [] })
          ∙ ap (λ (v : World). record v { session = part t; up = v.up ++ option_to_list reply; accepted = v.accepted ++ given ∷ [] }) i.reached
          ∙ (λ n. record (flow_of ends) { session = part t; up = sym (behind_sends forth (option_to_list reply) k).0 n; accepted = i.ids ++ given ∷ [] }))
          (if_so (on_request w.session (requests.Publish given) 0).0 (Q (packets.Publish (numbered given.qos w.session.core given))) owed) (omega arith)
      by (Err e) t f g k = tt {0}

  -- the first packet that is sent
  up_is : (x : Packet) (rest : List Packet) → forth ≡ x ∷ rest → is_sending x ≡ true → w.up ≡ x ∷ sent rest
  up_is x rest f e = ap (λ (v : World). v.up) i.reached ∙ (first_sending forth x rest f e).0

  pub goes_up : (x : Packet) (rest : List Packet) → forth ≡ x ∷ rest → is_sending x ≡ true → GoesUp Q x
  goes_up x rest f e = let h : Every (GoesUp Q) (x ∷ sent rest) = subst (Every (GoesUp Q)) (up_is x rest f e) i.holds.up in h.0

  -- it arrives at the receiver
  pub serves : (x : Packet) (rest : List Packet) → forth ≡ x ∷ rest → is_sending x ≡ true → Goes Q limit lost (flow_of ends) (flow s (serve b x).1 rest (back ++ option_to_list (serve b x).0) ps)
  serves x rest f e =
      goes _ refl events.Up
      (ap (λ us. trim (arrives w us)) up
      ∙ ap (λ (v : World). record v { up = sent rest; broker = (serve v.broker x).1; down = v.down ++ option_to_list (serve v.broker x).0 }) i.reached
      ∙ (λ n. record (flow_of ends) { accepted = i.ids; up = sent rest; broker = (serve b x).1; down = sym (behind_acks back (option_to_list (serve b x).0) (serve_acks b x)).0 n }))
      (tt {0}) refl (tt {0}) (let a = ap found up in omega (arith, a))
    where
      up : w.up ≡ x ∷ sent rest
      up = up_is x rest f e

  -- an ack comes back
  module _ (x : Packet) (rest : List Packet) (f : back ≡ x ∷ rest) (e : is_sending x ≡ false) (h : is_an_ack x ≡ true) where
    down : w.down ≡ x ∷ acks rest
    down = ap (λ (v : World). v.down) i.reached ∙ (first_ack back x rest f e h).0

    comes_down : ComesDown Q x
    comes_down = let h : Every (ComesDown Q) (x ∷ acks rest) = subst (Every (ComesDown Q)) down i.holds.down in h.0

    pub is_ack : IsAck x
    is_ack = comes_down.1

    pub sends_back : Sends (reply_in (on_packet s x 0).0)
    sends_back = reply_sends Q _ (keeps_inc Q limit closed s x holds_core comes_down).reply

    pub comes_back : Goes Q limit lost (flow_of ends) (flow (on_packet s x 0).1 b (forth ++ reply_in (on_packet s x 0).0) rest ps)
    comes_back =
        let a = ack_alike w.session s x is_ack same_part in
        goes _ refl events.Down
        (ap (λ ds. trim (returns w ds)) down
        ∙ ap trim (heard_is (record w { down = acks rest }) (on_packet w.session x 0).0 (on_packet w.session x 0).1 inv.none none)
        ∙ (λ n. record (trim w) { session = a.after n; up = w.up ++ reply_in (a.reply n); down = acks rest })
        ∙ ap (λ (v : World). record v { session = part (on_packet s x 0).1; up = v.up ++ reply_in (on_packet s x 0).0; down = acks rest }) i.reached
        ∙ (λ n. record (flow_of ends) { accepted = i.ids; session = part (on_packet s x 0).1; up = sym (behind_sends forth (reply_in (on_packet s x 0).0) sends_back).0 n; down = acks rest }))
        (tt {0}) refl (tt {0}) (let c = ap found down in omega (arith, c))
      where
        none : (returns w (x ∷ acks rest)).faults ≡ []
        none = ap (λ ds. (returns w ds).faults) (sym down) ∙ (inv_next w events.Down inv).none

  -- the connection is lost
  module _ (m : Option ℕ) where
    pub resumes_again : resume_of (connected m s) 0 ≡ Ok (again_of (connected m s))
    resumes_again = sends_again (connected m s)
        (subst Sound (sym (taken_core s m).1) sound)
        (subst (λ (c : Core). (id : ℕ) → SlotAllowed c.alias_max (get c.in_use id)) (sym (taken_core s m).1) allowed)
      where
        sound : Sound s.core
        sound = subst (λ (r : Session). Sound r.core) same_part inv.sound

        allowed : (id : ℕ) → SlotAllowed s.core.alias_max (get s.core.in_use id)
        allowed = subst (λ (r : Session). (id : ℕ) → SlotAllowed r.core.alias_max (get r.core.in_use id)) same_part inv.allowed

    pub sends_on : Sends (again_of (connected m s)).0
    sends_on = every_sends Q _ (keeps_again Q limit closed (connected m s) (taken_holds Q limit s m holds_core)).0

    pub loses : (others : List Packet) → Sends others → IsFlow Q limit (lost + 1) (flow (again_of (connected m s)).1 b (again_of (connected m s)).0 others ps)
    loses others k =
        on _ i.ids i.like (events.Loss m) (lost + 1)
        (ap (λ r. trim (resumes (after_reply emptied r g))) (taken_reply w.session m)
        ∙ ap (λ r. trim (after_resume (after_reply emptied (Ok None) g) r)) (resumes_taken w m inv)
        ∙ (λ n. record (trim w) { session = same.1 n; up = same.0 n; down = [] })
        ∙ ap (λ (v : World). record v { session = part (again_of (connected m s)).1; up = (again_of (connected m s)).0; down = [] }) i.reached
        ∙ (λ n. record (flow_of ends) { accepted = i.ids; session = part (again_of (connected m s)).1; up = sym sends_on.all n; down = sym k.none n }))
        (tt {0}) (omega arith)
      where
        g : Session
        g = connected m w.session

        emptied : World
        emptied = record w { up = []; down = [] }

        same : ((again_of g).0 ≡ (again_of (connected m s)).0) × (part (again_of g).1 ≡ part (again_of (connected m s)).1)
        same = again_alike g (connected m s) (connected_alike m w.session s same_part)
