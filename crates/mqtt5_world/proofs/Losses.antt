-- A lost connection: both ways are emptied, and what the session keeps is sent again.
use Rattle.std.proofs.Common.{◌≡◌, ◌≢◌, ℕ, zero, suc, ◌<◌, ◌≤◌, Bool, true, false, ◌&&◌, List, [], ◌++◌, filter, Option, Some, None, Ok, refl, sym, ap, ap₂, ◌∙◌, subst, ⊎_elim, arith, append-nil, eq-eqb, ◌⊎◌, inl, inr}
use Rattle.std.proofs.lemmas.Bool.{cases_eq}
use Rattle.std.proofs.lemmas.List.Elements.{filter-append, filter_map-append}
use Rattle.std.specs.Prelude.{option_map, not}
use Rattle.std.specs.List.{filter_map}
use Rattle.std.specs.Option.{option_to_list}
use Rattle.std.specs.FinMap.{get}
use Rattle.std.specs.FinSet as set
use Rattle.mqtt5_base.specs.declared.quality.QoS.{QoS}
use Rattle.mqtt5_base.specs.declared.quality.QoS.TheVariants.{AtMostOnce, AtLeastOnce, ExactlyOnce}
use Rattle.mqtt5_publish.specs.declared.publish.Publish.{Publish}
use Rattle.mqtt5_codec.specs.declared.packet.Packet.{Packet}
use Rattle.mqtt5_codec.specs.declared.packet.Packet.TheVariants as packets
use Rattle.mqtt5_inflight.specs.declared.slot.Slot.{Slot}
use Rattle.mqtt5_inflight.specs.declared.slot.Slot.TheVariants.{Sent, Released}
use Rattle.mqtt5_inflight.specs.declared.event.Request.{Request}
use Rattle.mqtt5_inflight.specs.InUse.{InUse}
use Rattle.mqtt5_inflight.specs.Unacked.{again, slot_again, in_use_again, alias_again, by_id, publish_again, release_again}
use Rattle.mqtt5_inflight.specs.Resent.{packet_for, packets_of}
use Rattle.mqtt5_inflight.proofs.Exports.{Fits, within_fits, get_again}
use Rattle.mqtt5_session.specs.Session.{Core, Session}
use Rattle.mqtt5_session.specs.Requests.{release_of}
use Rattle.mqtt5_session.specs.Packets.{on_packet}
use Rattle.mqtt5_session.specs.Resuming.{on_clean, with_dup, resume_of}
use Rattle.mqtt5_session.specs.Again.{after_sent, sent_unless}
use Rattle.mqtt5_session.proofs.Exports as session
use Rattle.mqtt5_session.proofs.Exports.{Sound, marked_sound}
use Rattle.mqtt5_world.specs.World.{World, takes_packet, taken_back, after_resume, resumes}
use Rattle.mqtt5_world.specs.Delivery.{is_token_up, Token, Free, PublishUp, PubAckDown, PublishTwiceUp, PubRecDown, PubRelUp, PubCompDown, IsClass}
use Rattle.mqtt5_world.proofs.Places.{token_here, token_other, front_here, front_none, publish_token}
use Rattle.mqtt5_world.proofs.Step.{Inv, SlotAllowed, sum_same, sum_less, one, is_sent, is_due, waiting, stored, due, on_way, way_append, of_acked}
use Rattle.mqtt5_world.proofs.Returns.{counted_acked}

-- ---- a list of packets built id by id

abbrev packets_to : (ℕ → Option Slot → List Request) → ℕ → InUse → List Packet
packets_to f n h = filter_map packet_for (by_id f n h)

abbrev part : (ℕ → Option Slot → List Request) → ℕ → Option Slot → List Packet
part f id slot = filter_map packet_for (f id slot)

packets_next : (f : ℕ → Option Slot → List Request) (n : ℕ) (h : InUse) → packets_to f (suc n) h ≡ packets_to f n h ++ part f (suc n) (get h (suc n))
packets_next f n h = filter_map-append packet_for (by_id f n h) (f (suc n) (get h (suc n)))

-- each part has tokens of its own id alone
module _ (f : ℕ → Option Slot → List Request) (h : InUse) (own : (id : ℕ) → filter (is_token_up id) (part f id (get h id)) ≡ part f id (get h id)) (none : (id j : ℕ) → j ≢ id → filter (is_token_up j) (part f id (get h id)) ≡ []) where
  outside : (n k : ℕ) → ((j : ℕ) → 0 < j → j ≤ n → k ≢ j) → filter (is_token_up k) (packets_to f n h) ≡ []
  outside zero k a = refl
  outside (suc n) k a =
      ap (filter (is_token_up k)) (packets_next f n h) ∙ filter-append (is_token_up k) (packets_to f n h) (part f (suc n) (get h (suc n)))
      ∙ ap₂ (λ x y. x ++ y) (outside n k (λ j p q. a j p (omega arith))) (none (suc n) k (a (suc n) (omega arith) (omega arith)))

  inside : (n k : ℕ) → 0 < k → k ≤ n → filter (is_token_up k) (packets_to f n h) ≡ part f k (get h k)
  inside zero k p q = absurd (omega arith)
  inside (suc n) k p q = ap (filter (is_token_up k)) (packets_next f n h) ∙ filter-append (is_token_up k) (packets_to f n h) (part f (suc n) (get h (suc n))) ∙ ⊎_elim
      (λ (e : k ≡ suc n). subst (λ j. filter (is_token_up j) (packets_to f n h) ++ filter (is_token_up j) (part f (suc n) (get h (suc n))) ≡ part f j (get h j)) (sym e) (ap₂ (λ x y. x ++ y) (outside n (suc n) (λ j a b x. absurd (omega arith))) (own (suc n))))
      (λ (ne : k ≢ suc n). ap₂ (λ x y. x ++ y) (inside n k p (omega arith)) (none (suc n) k ne) ∙ append-nil _)
      (cases_eq k (suc n))

-- ---- the packets that are sent again

sent_own : (limit id : ℕ) (slot : Option Slot) → Fits limit id slot → filter (is_token_up id) (part publish_again id slot) ≡ part publish_again id slot
sent_own limit id None k = refl
sent_own limit id (Some Released) k = refl
sent_own limit id (Some (Sent p)) k = front_here is_token_up id (packets.Publish (again p)) [] (subst (λ j. is_token_up j (packets.Publish (again p)) ≡ true) k.own.0 (token_here is_token_up p.pkid (packets.Publish (again p)) (publish_token (again p) (counted_acked p.qos k.own.1))))

sent_none : (limit id : ℕ) (slot : Option Slot) → Fits limit id slot → (j : ℕ) → j ≢ id → filter (is_token_up j) (part publish_again id slot) ≡ []
sent_none limit id None k j ne = refl
sent_none limit id (Some Released) k j ne = refl
sent_none limit id (Some (Sent p)) k j ne = front_none is_token_up j (packets.Publish (again p)) [] (token_other is_token_up p.pkid (packets.Publish (again p)) (publish_token (again p) (counted_acked p.qos k.own.1)) j (λ e. ne (e ∙ k.own.0)))

release_own : (id : ℕ) (slot : Option Slot) → filter (is_token_up id) (part release_again id slot) ≡ part release_again id slot
release_own id None = refl
release_own id (Some Released) = front_here is_token_up id (release_of id) [] (eq-eqb id id refl)
release_own id (Some (Sent p)) = refl

release_none : (id : ℕ) (slot : Option Slot) (j : ℕ) → j ≢ id → filter (is_token_up j) (part release_again id slot) ≡ []
release_none id None j ne = refl
release_none id (Some Released) j ne = front_none is_token_up j (release_of id) [] (token_other is_token_up id (release_of id) (λ i. refl) j ne)
release_none id (Some (Sent p)) j ne = refl

abbrev again_of : ℕ → Option Slot → List Packet
again_of id slot = part publish_again id slot ++ part release_again id slot

nothing_apart : (limit id : ℕ) (slot : Option Slot) → Fits limit id slot → ((j : ℕ) → 0 < j → j ≤ limit → id ≢ j) → again_of id slot ≡ []
nothing_apart limit id None k apart = refl
nothing_apart limit id (Some x) k apart = absurd (apart id k.low k.high refl)

in_or_apart : (n k : ℕ) → ((0 < k) × (k ≤ n)) ⊎ ((j : ℕ) → 0 < j → j ≤ n → k ≢ j)
in_or_apart zero k = inr (λ j a b e. absurd (omega arith))
in_or_apart (suc n) k = ⊎_elim
    (λ (e : k ≡ suc n). inl (omega arith, omega arith))
    (λ (ne : k ≢ suc n). ⊎_elim
    (λ (h : (0 < k) × (k ≤ n)). inl (h.0, let b = h.1 in omega (arith, b)))
    (λ (apart : (j : ℕ) → 0 < j → j ≤ n → k ≢ j). inr (λ j a b e. ⊎_elim (λ (last : j ≡ suc n). ne (e ∙ last)) (λ (before : j ≢ suc n). apart j a (omega arith) e) (cases_eq j (suc n))))
    (in_or_apart n k))
    (cases_eq k (suc n))

-- the tokens of an id among them
tokens_again : (c : Core) → Sound c → (k : ℕ) → filter (is_token_up k) (packets_of c.limit c.in_use) ≡ again_of k (get c.in_use k)
tokens_again c i k =
    ap (filter (is_token_up k)) (filter_map-append packet_for (by_id publish_again c.limit c.in_use) (by_id release_again c.limit c.in_use))
    ∙ filter-append (is_token_up k) (packets_to publish_again c.limit c.in_use) (packets_to release_again c.limit c.in_use)
    ∙ ⊎_elim
    (λ (h : (0 < k) × (k ≤ c.limit)). ap₂ (λ x y. x ++ y) (inside publish_again c.in_use own none c.limit k h.0 h.1) (inside release_again c.in_use own' none' c.limit k h.0 h.1))
    (λ (a : (j : ℕ) → 0 < j → j ≤ c.limit → k ≢ j). ap₂ (λ x y. x ++ y) (outside publish_again c.in_use own none c.limit k a) (outside release_again c.in_use own' none' c.limit k a) ∙ sym (nothing_apart c.limit k (get c.in_use k) (i.0 k) a))
    (in_or_apart c.limit k)
  where
    own : (id : ℕ) → filter (is_token_up id) (part publish_again id (get c.in_use id)) ≡ part publish_again id (get c.in_use id)
    own id = sent_own c.limit id (get c.in_use id) (i.0 id)

    none : (id j : ℕ) → j ≢ id → filter (is_token_up j) (part publish_again id (get c.in_use id)) ≡ []
    none id j ne = sent_none c.limit id (get c.in_use id) (i.0 id) j ne

    own' : (id : ℕ) → filter (is_token_up id) (part release_again id (get c.in_use id)) ≡ part release_again id (get c.in_use id)
    own' id = release_own id (get c.in_use id)

    none' : (id j : ℕ) → j ≢ id → filter (is_token_up j) (part release_again id (get c.in_use id)) ≡ []
    none' id j ne = release_none id (get c.in_use id) j ne

token_again : {k : ℕ} {x : Option Slot} {b : Bool} {us ds : List Packet} → Token k x b us ds → Token k (option_map slot_again x) b (again_of k x) []
token_again Free = Free
token_again (PublishUp p q) = PublishUp (again p) q
token_again (PubAckDown p q) = PublishUp (again p) q
token_again (PublishTwiceUp p b q) = PublishTwiceUp (again p) b q
token_again (PubRecDown p q) = PublishTwiceUp (again p) true q
token_again (PubRelUp b) = PubRelUp b
token_again (PubCompDown g) = PubRelUp false

-- ---- the resume isn't refused

none_over : (max : ℕ) (h : InUse) → ((id : ℕ) → SlotAllowed max (get h id)) → (n : ℕ) → by_id (alias_again max) n h ≡ []
none_over max h allowed zero = refl
none_over max h allowed (suc n) = ap₂ (λ x y. x ++ y) (none_over max h allowed n) (by (suc n) (get h (suc n)) (allowed (suc n)))
  where
    by : (id : ℕ) (x : Option Slot) → SlotAllowed max x → alias_again max id x ≡ []
    by id None a = refl
    by id (Some Released) a = refl
    by id (Some (Sent p)) a = ap option_to_list a

pub sends_again : (s : Session) → Sound s.core → ((id : ℕ) → SlotAllowed s.core.alias_max (get s.core.in_use id)) → resume_of s 0 ≡ Ok (packets_of s.core.limit s.core.in_use, after_sent (packets_of s.core.limit s.core.in_use) (in_use_again s.core.in_use) (on_clean s) 0)
sends_again s i allowed =
    session.resumes s 0 (within_fits s.core.limit s.core.in_use i.0)
    ∙ ap (λ xs. sent_unless xs (packets_of s.core.limit s.core.in_use) (in_use_again s.core.in_use) (on_clean s) 0) (none_over s.core.alias_max s.core.in_use allowed s.core.limit)

-- ---- the counts over a loss

-- no publish that passes is sent again, where none that is acked passes
none_acked : (test : Publish → Bool) → IsClass AtMostOnce test → (limit : ℕ) (h : InUse) → ((k : ℕ) → Fits limit k (get h k)) → (n : ℕ) → on_way test (packets_to publish_again n h) ≡ 0
none_acked test c limit h fit zero = refl
none_acked test c limit h fit (suc n) =
    let e = ap (on_way test) (packets_next publish_again n h) in
    let a = way_append test (packets_to publish_again n h) (part publish_again (suc n) (get h (suc n))) in
    let rest = none_acked test c limit h fit n in
    let here = by (suc n) (get h (suc n)) (fit (suc n)) in
    omega (arith, e, a, rest, here)
  where
    by : (id : ℕ) (x : Option Slot) → Fits limit id x → on_way test (part publish_again id x) ≡ 0
    by id None f = refl
    by id (Some Released) f = refl
    by id (Some (Sent p)) f = let z = ap one (of_acked c (again p) (counted_acked p.qos f.own.1)) in omega (arith, z)

none_released : (test : Publish → Bool) (h : InUse) (n : ℕ) → on_way test (packets_to release_again n h) ≡ 0
none_released test h zero = refl
none_released test h (suc n) =
    let e = ap (on_way test) (packets_next release_again n h) in
    let a = way_append test (packets_to release_again n h) (part release_again (suc n) (get h (suc n))) in
    let rest = none_released test h n in
    let here = by (suc n) (get h (suc n)) in
    omega (arith, e, a, rest, here)
  where
    by : (id : ℕ) (x : Option Slot) → on_way test (part release_again id x) ≡ 0
    by id None = refl
    by id (Some Released) = refl
    by id (Some (Sent p)) = refl

still_allowed : (max : ℕ) (x : Option Slot) → SlotAllowed max x → SlotAllowed max (option_map slot_again x)
still_allowed max None a = a
still_allowed max (Some Released) a = a
still_allowed max (Some (Sent p)) a = a

pub record Again (w w' : World) : Type 0 where
  pub inv : Inv w'
  pub handed : w'.broker.handed ≡ w.broker.handed
  pub accepted : w'.accepted ≡ w.accepted
  pub waiting : (test : Publish → Bool) → waiting test w' ≡ waiting test w
  pub stored : (q : QoS) (test : Publish → Bool) → IsClass q test → stored test w' ≡ stored test w
  pub due_twice : (test : Publish → Bool) → IsClass ExactlyOnce test → due ExactlyOnce test w' ≡ due ExactlyOnce test w
  pub due_once : (test : Publish → Bool) → IsClass AtLeastOnce test → due AtLeastOnce test w ≤ due AtLeastOnce test w'
  pub none_light : (test : Publish → Bool) → IsClass AtMostOnce test → on_way test w'.up ≡ 0

-- a publish with dup is of the same class
passes_again : {q : QoS} (test : Publish → Bool) → IsClass q test → (x : Option Slot) → is_sent test (option_map slot_again x) ≡ is_sent test x
passes_again test c None = refl
passes_again test c (Some Released) = refl
passes_again test c (Some (Sent p)) = c.blind_again p

still_sent : {q : QoS} (test : Publish → Bool) → IsClass q test → (h : InUse) (k : ℕ) → is_sent test (get (in_use_again h) k) ≡ is_sent test (get h k)
still_sent test c h k = ap (is_sent test) (get_again h k) ∙ passes_again test c (get h k)

-- a publish of QoS 1 that is kept is sent again
more_due : (test : Publish → Bool) (k : ℕ) (x : Option Slot) (b : Bool) (us vs : List Packet) → vs ≡ again_of k x → one (is_sent test x && is_due AtLeastOnce b us) ≤ one (is_sent test x && is_due AtLeastOnce b vs)
more_due test k None b us vs e = omega arith
more_due test k (Some Released) b us vs e = omega arith
more_due test k (Some (Sent p)) b us vs e = subst (λ vs. one (test p && is_due AtLeastOnce b us) ≤ one (test p && is_due AtLeastOnce b vs)) (sym e) (by (test p) (is_due AtLeastOnce b us))
  where
    by : (a c : Bool) → one (a && c) ≤ one (a && true)
    by true true = omega arith
    by true false = omega arith
    by false c = omega arith

still_due : (test : Publish → Bool) (k : ℕ) (x : Option Slot) (s b : Bool) (us vs : List Packet) → s ≡ is_sent test x → vs ≡ again_of k x → one (is_sent test x && is_due AtLeastOnce b us) ≤ one (s && is_due AtLeastOnce b vs)
still_due test k x s b us vs same e = subst (λ y. one (is_sent test x && is_due AtLeastOnce b us) ≤ one (y && is_due AtLeastOnce b vs)) (sym same) (more_due test k x b us vs e)

-- the session is the same but for its current maximum, dup of what awaits an ack, and what isn't of the core
sent_on : (w : World) (s : Session) (m : ℕ) → s.core ≡ record (with_dup w.session.core) { current = m } → Inv w → Again w (record w { session = s; up = packets_of w.session.core.limit w.session.core.in_use; down = [] })
sent_on w s m e i =
    subst (λ c. Again w (record w { session = record s { core = c }; up = packets_of w.session.core.limit w.session.core.in_use; down = [] })) (sym e)
    (record {
      inv = record {
        sound = marked_sound w.session.core i.sound;
        allowed = λ k. subst (SlotAllowed w.session.core.alias_max) (sym (get_again w.session.core.in_use k)) (still_allowed w.session.core.alias_max (get w.session.core.in_use k) (i.allowed k));
        waits = i.waits;
        tokens = λ k.
            subst (λ x. Token k x (set.contains w.broker.ids k) (filter (is_token_up k) (packets_of w.session.core.limit w.session.core.in_use)) []) (sym (get_again w.session.core.in_use k))
            (subst (λ us. Token k (option_map slot_again (get w.session.core.in_use k)) (set.contains w.broker.ids k) us []) (sym (tokens_again w.session.core i.sound k)) (token_again (i.tokens k)));
        none = i.none;
      };
      handed = refl;
      accepted = refl;
      waiting = λ test. refl;
      stored = λ q test c. sum_same w.session.core.limit _ _ (λ k _ _. ap one (still_sent test c w.session.core.in_use k));
      due_twice = λ test c. sum_same w.session.core.limit _ _ (λ k _ _. ap (λ b. one (b && not (set.contains w.broker.ids k))) (still_sent test c w.session.core.in_use k));
      due_once = λ test c. sum_less w.session.core.limit _ _ (λ k.
          still_due test k (get w.session.core.in_use k) (is_sent test (get (in_use_again w.session.core.in_use) k)) (set.contains w.broker.ids k)
          (filter (is_token_up k) w.up) (filter (is_token_up k) (packets_of w.session.core.limit w.session.core.in_use)) (still_sent test c w.session.core.in_use k) (tokens_again w.session.core i.sound k));
      none_light = λ test c.
          let e = ap (on_way test) (filter_map-append packet_for (by_id publish_again w.session.core.limit w.session.core.in_use) (by_id release_again w.session.core.limit w.session.core.in_use)) in
          let a = way_append test (packets_to publish_again w.session.core.limit w.session.core.in_use) (packets_to release_again w.session.core.limit w.session.core.in_use) in
          let p = none_acked test c w.session.core.limit w.session.core.in_use i.sound.0 w.session.core.limit in
          let r = none_released test w.session.core.in_use w.session.core.limit in
          omega (arith, e, a, p, r);
    })

-- a session that was taken back, and is resumed
back_step : (w : World) (s : Session) (m : ℕ) → s.core ≡ record w.session.core { current = m } → Inv w → Again w (resumes (record w { session = s; up = []; down = [] }))
back_step w s m e i =
    let sound : Sound s.core = subst Sound (sym e) i.sound in
    let allowed : (id : ℕ) → SlotAllowed s.core.alias_max (get s.core.in_use id) = subst (λ (c : Core). (id : ℕ) → SlotAllowed c.alias_max (get c.in_use id)) (sym e) i.allowed in
    let same : packets_of s.core.limit s.core.in_use ≡ packets_of w.session.core.limit w.session.core.in_use = ap (λ (c : Core). packets_of c.limit c.in_use) e in
    subst (λ r. Again w (after_resume (record w { session = s; up = []; down = [] }) r)) (sym (sends_again s sound allowed))
    (subst (λ ps. Again w (record w { session = after_sent (packets_of s.core.limit s.core.in_use) (in_use_again s.core.in_use) (on_clean s) 0; up = ps; down = [] })) (sym same) (sent_on w (after_sent (packets_of s.core.limit s.core.in_use) (in_use_again s.core.in_use) (on_clean s) 0) m (ap with_dup e) i))

pub loss_step : (w : World) (m : Option ℕ) → Inv w → Again w (resumes (takes_packet (record w { up = []; down = [] }) (taken_back m)))
unfolding on_packet
loss_step w None i = back_step w _ w.session.core.current refl i
loss_step w (Some m) i = back_step w _ _ refl i
