-- The broker that hands on at a release beside one that hands on at once: what it handed on and what it stores is what the
-- other handed on.
use Rattle.std.proofs.Common.{◌≡◌, ◌≢◌, ℕ, zero, suc, ◌+◌, ◌≤◌, Bool, true, false, cond, ◌&&◌, ◌==◌, List, [], ◌∷◌, ◌++◌, filter, count_by, Option, Some, None, Result, Ok, Err, refl, sym, ap, ap₂, ◌∙◌, subst, arith, eq-eqb}
use Rattle.std.specs.Prelude.{not, ◌||◌}
use Rattle.std.specs.List.{All, list_any}
use Rattle.std.specs.Option.{option_to_list}
use Rattle.std.specs.Ordering.{nat_cmp, eq_by_cmp}
use Rattle.std.specs.Cmp.{nat_cmp_total, unsigned_tied}
use Rattle.std.specs.FinMap.{get}
use Rattle.std.specs.FinSet as set
use Rattle.std.proofs.lemmas.Bool.{eqb-true, false_from_ne_true}
use Rattle.std.proofs.lemmas.List.Elements.{All-nil, All-head, All-tail, All-push, All-filter}
use Rattle.std.proofs.lemmas.List.Folds.{list_any-append}
use Rattle.std.proofs.lemmas.List.Filters.{sum_by-filter_both}
use Rattle.std.proofs.lemmas.List.Sums.{sum_by-append}
use Rattle.mqtt5_base.specs.declared.quality.QoS.{QoS}
use Rattle.mqtt5_base.specs.declared.quality.QoS.TheVariants.{AtMostOnce, AtLeastOnce, ExactlyOnce}
use Rattle.mqtt5_publish.specs.declared.publish.Publish.{Publish}
use Rattle.mqtt5_codec.specs.declared.packet.Packet.{Packet}
use Rattle.mqtt5_codec.specs.declared.packet.Packet.TheVariants as packets
use Rattle.mqtt5_inflight.specs.declared.slot.Slot.{Slot}
use Rattle.mqtt5_inflight.specs.declared.event.Request.TheVariants as requests
use Rattle.mqtt5_inflight.specs.declared.error.StateError.{StateError}
use Rattle.mqtt5_inflight.specs.InUse.{InUse, awaiting_ack}
use Rattle.mqtt5_inflight.specs.Unacked.{by_id}
use Rattle.mqtt5_session.specs.Session.{Session}
use Rattle.mqtt5_session.specs.Requests.{on_request}
use Rattle.mqtt5_session.specs.Packets.{on_packet, pubcomp_of}
use Rattle.mqtt5_session.specs.Resuming.{Sendings, resume_of}
use Rattle.mqtt5_world.specs.declared.event.WorldEvent.{WorldEvent}
use Rattle.mqtt5_world.specs.declared.event.WorldEvent.TheVariants as events
use Rattle.mqtt5_world.specs.Broker.{Broker, Served, idle, serve_publish, serve, reason_for}
use Rattle.mqtt5_world.specs.World.{World, start, after_request, arrives, after_reply, takes_packet, returns, taken_back, after_resume, resumes, happens, run_world}
use Rattle.mqtt5_world.specs.Delivery.{IsClass, stored_in, stored_without, waiting_in}
use Rattle.mqtt5_world.proofs.Step.{one, count_push}
use Rattle.mqtt5_world.proofs.Contents as contents
use Rattle.mqtt5_progress.specs.Progress.{all_up, all_down, upward, downward, settle, Settled}
use Rattle.mqtt5_progress.specs.Late.{Late, has_id, with_id, without_id, ServedLate, serve_publish_late, serve_late, LateWorld, start_late, arrives_late, happens_late, run_late, upward_late, downward_late, settle_late, stored_without_late}
use Rattle.mqtt5_progress.proofs.Settled.{settled_four}
use Rattle.mqtt5_progress.proofs.Counted as counted

-- ---- publishes by their ids

abbrev Ids : Type 0
Ids = set.FinSet nat_cmp

swapped : (j k : ℕ) → (j == k) ≡ (k == j)
swapped j k = by (j == k) (k == j) refl refl
  where
    by : (a b : Bool) → (j == k) ≡ a → (k == j) ≡ b → a ≡ b
    by true true e f = refl
    by false false e f = refl
    by true false e f = sym (eq-eqb k j (sym (eqb-true j k e))) ∙ f
    by false true e f = sym e ∙ eq-eqb j k (sym (eqb-true k j f))

inserted : (s : Ids) (k id : ℕ) → set.contains (set.insert s k) id ≡ ((k == id) || set.contains s id)
inserted s k id = set.contains-insert nat_cmp_total s k id ∙ ap (λ b. b || set.contains s id) (unsigned_tied id k ∙ swapped id k)

removed : (s : Ids) (k id : ℕ) → set.contains (set.remove s k) id ≡ (not (k == id) && set.contains s id)
removed s k id = set.contains-remove nat_cmp_total s k id ∙ ap (λ b. not b && set.contains s id) (unsigned_tied id k ∙ swapped id k)

-- a publish is put behind others
has_push : (id : ℕ) (ps : List Publish) (p : Publish) → has_id id (ps ++ p ∷ []) ≡ ((p.pkid == id) || has_id id ps)
has_push id ps p = list_any-append (λ q. q.pkid == id) ps (p ∷ []) ∙ by (has_id id ps) (p.pkid == id)
  where
    by : (a b : Bool) → (a || (b || false)) ≡ (b || a)
    by true true = refl
    by true false = refl
    by false true = refl
    by false false = refl

-- one of this id is there already
has_already : (id k : ℕ) (ps : List Publish) → has_id k ps ≡ true → has_id id ps ≡ ((k == id) || has_id id ps)
has_already id k ps has = by (k == id) refl
  where
    by : (b : Bool) → (k == id) ≡ b → has_id id ps ≡ (b || has_id id ps)
    by true e = subst (λ j. has_id j ps ≡ true) (eqb-true k id e) has
    by false e = refl

-- those of an id are taken out
module _ (id k : ℕ) where
  has_left : (ps : List Publish) → has_id id (without_id k ps) ≡ (not (k == id) && has_id id ps)
  has_left [] = by (not (k == id))
    where
      by : (b : Bool) → false ≡ (b && false)
      by true = refl
      by false = refl
  has_left (p ∷ ps) = by (p.pkid == k) refl (has_left ps)
    where
      other : (b : Bool) → (k == id) ≡ b → (p.pkid == k) ≡ false → ((p.pkid == id) || (not b && has_id id ps)) ≡ (not b && ((p.pkid == id) || has_id id ps))
      other true e ne = ap (λ x. x || false) (subst (λ j. (p.pkid == j) ≡ false) (eqb-true k id e) ne)
      other false e ne = refl

      same : (a b : Bool) → (not b && a) ≡ (not b && (b || a))
      same a true = refl
      same a false = refl

      by : (b : Bool) → (p.pkid == k) ≡ b → has_id id (without_id k ps) ≡ (not (k == id) && has_id id ps) → has_id id (cond (not b) (p ∷ without_id k ps) (without_id k ps)) ≡ (not (k == id) && ((p.pkid == id) || has_id id ps))
      by true e h = h ∙ same (has_id id ps) (k == id) ∙ ap (λ j. not (k == id) && ((j == id) || has_id id ps)) (sym (eqb-true p.pkid k e))
      by false e h = ap (λ x. (p.pkid == id) || x) h ∙ other (k == id) refl e

-- of no id, so none
none_left : (ps : List Publish) → ((id : ℕ) → has_id id ps ≡ false) → ps ≡ []
none_left [] h = refl
none_left (p ∷ ps) h = absurd (let a = h p.pkid in let b = ap (λ b. b || has_id p.pkid ps) (eq-eqb p.pkid p.pkid refl) in cc)

-- ---- counts

count_both : (test : Publish → Bool) (xs ys : List Publish) → count_by test (xs ++ ys) ≡ count_by test xs + count_by test ys
count_both test xs ys = sum_by-append (λ x. cond (test x) 1 0) xs ys

count_parted : (test : Publish → Bool) (id : ℕ) (ps : List Publish) → count_by test (with_id id ps) + count_by test (without_id id ps) ≡ count_by test ps
count_parted test id ps = sum_by-filter_both (λ p. p.pkid == id) (λ p. not (p.pkid == id)) (λ p. refl) (λ p. cond (test p) 1 0) ps

abbrev IsTwice : Publish → Type 0
IsTwice p = p.qos ≡ ExactlyOnce

-- of another QoS, so none
none_twice : (test : Publish → Bool) → ((p : Publish) → test p ≡ true → p.qos ≢ ExactlyOnce) → (ps : List Publish) → All IsTwice ps → count_by test ps ≡ 0
none_twice test light [] all = refl
none_twice test light (p ∷ ps) all =
    let c = count_both test (p ∷ []) ps in
    let rest = none_twice test light ps (All-tail IsTwice p ps all) in
    let here = count_push test [] p in
    let z = ap one (false_from_ne_true (test p) (λ t. light p t (All-head IsTwice p ps all))) in
    omega (arith, c, rest, here, z)

-- ---- a packet that both brokers take

-- they hold the same ids; what one handed on the other did, or stores it
record Tied (l : Late) (b : Broker) : Type 0 where
  ids : (id : ℕ) → has_id id l.stored ≡ set.contains b.ids id
  counts : (test : Publish → Bool) → count_by test l.handed + count_by test l.stored ≡ count_by test b.handed
  twice : All IsTwice l.stored

record Alike (a : ServedLate) (b : Served) : Type 0 where
  reply : a.0 ≡ b.0
  tied : Tied a.1 b.1

module _ (l : Late) (b : Broker) (t : Tied l b) where
  hands_on : (p : Publish) → Tied (record l { handed = l.handed ++ p ∷ [] }) (record b { handed = b.handed ++ p ∷ [] })
  hands_on p = record {
    ids = t.ids;
    counts = λ test.
        let x = count_push test l.handed p in
        let y = count_push test b.handed p in
        let c = t.counts test in
        omega (arith, x, y, c);
    twice = t.twice;
  }

  stores : (p : Publish) → p.qos ≡ ExactlyOnce → Tied (serve_publish_late ExactlyOnce l p).1 (serve_publish ExactlyOnce b p).1
  stores p e = by (has_id p.pkid l.stored) refl (set.contains b.ids p.pkid) (t.ids p.pkid)
    where
      fresh : Tied (record l { stored = l.stored ++ p ∷ [] }) (record { ids = set.insert b.ids p.pkid; handed = b.handed ++ p ∷ [] })
      fresh = record {
        ids = λ id. has_push id l.stored p ∙ ap (λ x. (p.pkid == id) || x) (t.ids id) ∙ sym (inserted b.ids p.pkid id);
        counts = λ test.
            let x = count_push test l.stored p in
            let y = count_push test b.handed p in
            let c = t.counts test in
            omega (arith, x, y, c);
        twice = All-push IsTwice l.stored p t.twice e;
      }

      again : has_id p.pkid l.stored ≡ true → Tied l (record b { ids = set.insert b.ids p.pkid })
      again has = record {
        ids = λ id. has_already id p.pkid l.stored has ∙ ap (λ x. (p.pkid == id) || x) (t.ids id) ∙ sym (inserted b.ids p.pkid id);
        counts = t.counts;
        twice = t.twice;
      }

      by : (x : Bool) → has_id p.pkid l.stored ≡ x → (y : Bool) → has_id p.pkid l.stored ≡ y → Tied (record l { stored = cond x l.stored (l.stored ++ p ∷ []) }) (record { ids = set.insert b.ids p.pkid; handed = cond y b.handed (b.handed ++ p ∷ []) })
      by true h true g = again h
      by false h false g = fresh
      by true h false g = absurd cc
      by false h true g = absurd cc

  releases : (k : ℕ) → Tied (record { stored = without_id k l.stored; handed = l.handed ++ with_id k l.stored }) (record b { ids = set.remove b.ids k })
  releases k = record {
    ids = λ id. has_left id k l.stored ∙ ap (λ x. not (k == id) && x) (t.ids id) ∙ sym (removed b.ids k id);
    counts = λ test.
        let x = count_both test l.handed (with_id k l.stored) in
        let y = count_parted test k l.stored in
        let c = t.counts test in
        omega (arith, x, y, c);
    twice = All-filter (λ p. not (p.pkid == k)) IsTwice l.stored t.twice;
  }

  publish_alike : (q : QoS) (p : Publish) → p.qos ≡ q → Alike (serve_publish_late q l p) (serve_publish q b p)
  publish_alike AtMostOnce p e = record { reply = refl; tied = hands_on p }
  publish_alike AtLeastOnce p e = record { reply = refl; tied = hands_on p }
  publish_alike ExactlyOnce p e = record { reply = refl; tied = stores p e }

  served_alike : (x : Packet) → Alike (serve_late l x) (serve b x)
  served_alike (packets.Publish p) = publish_alike p.qos p refl
  served_alike (packets.PubRel p) = record { reply = ap (λ had. Some (pubcomp_of p.pkid (reason_for had))) (t.ids p.pkid); tied = releases p.pkid }
  served_alike other = record { reply = refl; tied = t }

-- ---- an event in both worlds

-- the world with another broker
abbrev with : Broker → World → World
with b w = record w { broker = b }

-- the worlds are the same but for their brokers
record Beside (l : LateWorld) (w : World) : Type 0 where
  same : l.around ≡ with idle w
  tied : Tied l.broker w.broker

-- a world goes on, from w to v, and so it does with the broker b, to u; its own broker is left alone
record Left (b : Broker) (w v u : World) : Type 0 where
  around : u ≡ with b v
  broker : v.broker ≡ w.broker

module _ (b : Broker) where
  asked_left : (w : World) (p : Publish) (r : Result (Option Packet) StateError) (s : Session) → Left b w (after_request w p r s) (after_request (with b w) p r s)
  asked_left w p (Ok reply) s = record { around = refl; broker = refl }
  asked_left w p (Err e) s = record { around = refl; broker = refl }

  heard_left : (w : World) (r : Result (Option Packet) StateError) (s : Session) → Left b w (after_reply w r s) (after_reply (with b w) r s)
  heard_left w (Ok reply) s = record { around = refl; broker = refl }
  heard_left w (Err e) s = record { around = refl; broker = refl }

  takes_left : (w : World) (p : Packet) → Left b w (takes_packet w p) (takes_packet (with b w) p)
  takes_left w p = heard_left w (on_packet w.session p 0).0 (on_packet w.session p 0).1

  returns_left : (w : World) (ds : List Packet) → Left b w (returns w ds) (returns (with b w) ds)
  returns_left w [] = record { around = refl; broker = refl }
  returns_left w (x ∷ rest) = let a = takes_left (record w { down = rest }) x in record { around = a.around; broker = a.broker }

  resumed_left : (w : World) (r : Sendings) → Left b w (after_resume w r) (after_resume (with b w) r)
  resumed_left w (Ok sent) = record { around = refl; broker = refl }
  resumed_left w (Err e) = record { around = refl; broker = refl }

  lost_left : (w : World) (p : Packet) → Left b w (resumes (takes_packet w p)) (resumes (takes_packet (with b w) p))
  lost_left w p =
      let t = takes_left w p in
      let r = resumed_left (takes_packet w p) (resume_of (takes_packet w p).session 0) in
      record { around = ap resumes t.around ∙ r.around; broker = r.broker ∙ t.broker }

goes_on : (l : Late) (w v u : World) → Tied l w.broker → Left idle w v u → Beside (record { around = u; broker = l }) v
goes_on l w v u t a = record { same = a.around; tied = subst (Tied l) (sym a.broker) t }

arrives_beside : (l : Late) (w : World) (us : List Packet) → Tied l w.broker → Beside (arrives_late (record { around = with idle w; broker = l }) us) (arrives w us)
arrives_beside l w [] t = record { same = refl; tied = t }
arrives_beside l w (x ∷ rest) t =
    let a = served_alike l w.broker t x in
    record { same = ap (λ o. record w { broker = idle; up = rest; down = w.down ++ option_to_list o }) a.reply; tied = a.tied }

happens_beside : (l : Late) (w : World) (e : WorldEvent) → Tied l w.broker → Beside (happens_late (record { around = with idle w; broker = l }) e) (happens w e)
happens_beside l w (events.Publish p) t = goes_on l w _ _ t (asked_left idle w p (on_request w.session (requests.Publish p) 0).0 (on_request w.session (requests.Publish p) 0).1)
happens_beside l w events.Up t = arrives_beside l w w.up t
happens_beside l w events.Down t = goes_on l w _ _ t (returns_left idle w w.down)
happens_beside l w (events.Loss m) t =
    let a = lost_left idle (record w { up = []; down = [] }) (taken_back m) in
    goes_on l w _ _ t (record { around = a.around; broker = a.broker })

next_beside : (l : LateWorld) (w : World) (e : WorldEvent) → Beside l w → Beside (happens_late l e) (happens w e)
next_beside l w e i = subst (λ a. Beside (happens_late (record { around = a; broker = l.broker }) e) (happens w e)) (sym i.same) (happens_beside l.broker w e i.tied)

-- ---- runs

run_beside : (es : List WorldEvent) (l : LateWorld) (w : World) → Beside l w → Beside (run_late es l) (run_world es w)
run_beside [] l w i = i
run_beside (e ∷ es) l w i = run_beside es (happens_late l e) (happens w e) (next_beside l w e i)

upward_beside : (l : LateWorld) (w : World) → Beside l w → Beside (upward_late l) (upward w)
upward_beside l w i = subst (λ us. Beside (run_late (all_up us) l) (upward w)) (sym (ap (λ (a : World). a.up) i.same)) (run_beside (all_up w.up) l w i)

downward_beside : (l : LateWorld) (w : World) → Beside l w → Beside (downward_late l) (downward w)
downward_beside l w i = subst (λ ds. Beside (run_late (all_down ds) l) (downward w)) (sym (ap (λ (a : World). a.down) i.same)) (run_beside (all_down w.down) l w i)

settle_beside : (n : ℕ) (l : LateWorld) (w : World) → Beside l w → Beside (settle_late n l) (settle n w)
settle_beside zero l w i = i
settle_beside (suc n) l w i = settle_beside n (downward_late (upward_late l)) (downward (upward w)) (downward_beside (upward_late l) (upward w) (upward_beside l w i))

start_beside : (limit : ℕ) → Beside (start_late limit) (start limit)
start_beside limit = record {
  same = refl;
  tied = record { ids = λ id. sym (set.contains-empty nat_cmp id); counts = λ test. omega arith; twice = All-nil IsTwice };
}

-- ---- what is said of them

module _ (limit : ℕ) (es : List WorldEvent) where
  abbrev pub late : LateWorld
  late = run_late es (start_late limit)

  abbrev pub early : World
  early = run_world es (start limit)

  beside : Beside (run_late es (start_late limit)) (run_world es (start limit))
  beside = run_beside es (start_late limit) (start limit) (start_beside limit)

  pub same_world : late.around ≡ record early { broker = idle }
  same_world = beside.same

  pub same_ids : (id : ℕ) → has_id id late.broker.stored ≡ set.contains early.broker.ids id
  same_ids = beside.tied.ids

  pub same_replies : (x : Packet) → (serve_late late.broker x).0 ≡ (serve early.broker x).0
  same_replies x = (served_alike late.broker early.broker beside.tied x).reply

  pub moved : (test : Publish → Bool) → count_by test late.broker.handed + count_by test late.broker.stored ≡ count_by test early.broker.handed
  moved test = beside.tied.counts test

  accepted_is : (test : Publish → Bool) → count_by test late.around.accepted ≡ count_by test early.accepted
  accepted_is test = ap (λ (a : World). count_by test a.accepted) same_world

  waiting_is : (test : Publish → Bool) → count_by test (waiting_in late.around.session.core) ≡ count_by test (waiting_in early.session.core)
  waiting_is test = ap (λ (a : World). count_by test (waiting_in a.session.core)) same_world

  stored_is : (test : Publish → Bool) → count_by test (stored_in late.around.session.core) ≡ count_by test (stored_in early.session.core)
  stored_is test = ap (λ (a : World). count_by test (stored_in a.session.core)) same_world

  without_is : stored_without_late late ≡ stored_without early.broker.ids early.session.core
  without_is =
      ap (λ (a : World). by_id (λ id slot. cond (has_id id late.broker.stored) [] (option_to_list (awaiting_ack slot))) a.session.core.limit a.session.core.in_use) same_world
      ∙ by_same early.session.core.limit early.session.core.in_use
    where
      by_same : (n : ℕ) (h : InUse) → by_id (λ id slot. cond (has_id id late.broker.stored) [] (option_to_list (awaiting_ack slot))) n h ≡ by_id (λ id slot. cond (set.contains early.broker.ids id) [] (option_to_list (awaiting_ack slot))) n h
      by_same zero h = refl
      by_same (suc n) h = ap₂ (λ xs b. xs ++ cond b [] (option_to_list (awaiting_ack (get h (suc n))))) (by_same n h) (same_ids (suc n))

  pub same_below : (q : QoS) (test : Publish → Bool) → IsClass q test → q ≢ ExactlyOnce → count_by test late.broker.handed ≡ count_by test early.broker.handed
  same_below q test c ne =
      let m = moved test in
      let z = none_twice test (λ p t e. ne (sym (c.of_qos p t) ∙ e)) late.broker.stored beside.tied.twice in
      omega (arith, m, z)

  pub at_most : (q : QoS) (test : Publish → Bool) → IsClass q test → q ≢ AtLeastOnce → count_by test late.broker.handed ≤ count_by test late.around.accepted
  at_most q test c ne =
      let m = moved test in
      let a = accepted_is test in
      let x = contents.at_most test limit es q ne c in
      omega (arith, m, a, x)

  pub at_least : (q : QoS) (test : Publish → Bool) → IsClass q test → q ≢ AtMostOnce → count_by test late.around.accepted ≤ count_by test late.broker.handed + count_by test late.broker.stored + count_by test (stored_in late.around.session.core) + count_by test (waiting_in late.around.session.core)
  at_least q test c ne =
      let m = moved test in
      let a = accepted_is test in
      let s = stored_is test in
      let v = waiting_is test in
      let x = contents.at_least test limit es q ne c in
      omega (arith, m, a, s, v, x)

  pub ledger : (test : Publish → Bool) → IsClass ExactlyOnce test → count_by test late.broker.handed + count_by test late.broker.stored + count_by test (waiting_in late.around.session.core) + count_by test (stored_without_late late) ≡ count_by test late.around.accepted
  ledger test c =
      let m = moved test in
      let a = accepted_is test in
      let v = waiting_is test in
      let u = ap (count_by test) without_is in
      let x = contents.ledger test limit es c in
      omega (arith, m, a, v, u, x)

-- ---- after four rounds

module _ (limit : ℕ) (es : List WorldEvent) where
  abbrev pub late_end : LateWorld
  late_end = settle_late 4 (late limit es)

  settled_beside : Beside (settle_late 4 (late limit es)) (settle 4 (early limit es))
  settled_beside = settle_beside 4 (late limit es) (early limit es) (beside limit es)

  pub settled : Settled late_end.around
  settled = let s = settled_four limit es in subst Settled (sym settled_beside.same) (record { up = s.up; down = s.down; core = s.core; ids = λ id. set.contains-empty nat_cmp id; faults = s.faults })

  pub none_stored : late_end.broker.stored ≡ []
  none_stored = none_left late_end.broker.stored (λ id. settled_beside.tied.ids id ∙ (settled_four limit es).ids id)

  same_end : (test : Publish → Bool) → count_by test late_end.broker.handed ≡ count_by test (settle 4 (early limit es)).broker.handed
  same_end test =
      let m = settled_beside.tied.counts test in
      let n = ap (count_by test) none_stored in
      omega (arith, m, n)

  pub exactly : (test : Publish → Bool) → IsClass ExactlyOnce test → count_by test late_end.broker.handed ≡ count_by test (late limit es).around.accepted
  exactly test c = same_end test ∙ counted.exactly test limit es c ∙ sym (accepted_is limit es test)

  pub least : (test : Publish → Bool) → IsClass AtLeastOnce test → count_by test (late limit es).around.accepted ≤ count_by test late_end.broker.handed
  least test c =
      let e = same_end test in
      let a = accepted_is limit es test in
      let l = counted.least test limit es c in
      omega (arith, e, a, l)
