-- When a run over bytes has no fault.
use Rattle.std.proofs.Common.{◌≡◌, ℕ, ◌<◌, ◌≤◌, List, [], ◌∷◌, ◌++◌, Option, Some, None, IfSome, Result, Ok, Err, inr, refl, ap, ◌∙◌, subst, arith}
use Rattle.std.specs.Option.{option_to_list}
use Rattle.std.specs.FinSet as set
use Rattle.mqtt5_base.specs.Front.{Admits}
use Rattle.mqtt5_base.specs.declared.quality.QoS.{QoS}
use Rattle.mqtt5_base.specs.declared.quality.QoS.TheVariants.{AtMostOnce, AtLeastOnce, ExactlyOnce}
use Rattle.mqtt5_publish.specs.declared.publish.Publish.{Publish}
use Rattle.mqtt5_codec.specs.declared.packet.Packet.{Packet}
use Rattle.mqtt5_codec.specs.declared.packet.Packet.TheVariants as packets
use Rattle.mqtt5_codec.specs.declared.codec.Codec.{Codec}
use Rattle.mqtt5_codec.specs.PacketsIn.{packet_in}
use Rattle.mqtt5_codec.specs.Norms.{norm}
use Rattle.mqtt5_inflight.specs.declared.event.Request.TheVariants as requests
use Rattle.mqtt5_inflight.specs.declared.error.StateError.{StateError}
use Rattle.mqtt5_session.specs.Session.{Session}
use Rattle.mqtt5_session.specs.Requests.{on_request, release_of}
use Rattle.mqtt5_session.specs.Packets.{on_packet}
use Rattle.mqtt5_world.specs.declared.event.WorldEvent.TheVariants as plain
use Rattle.mqtt5_world.specs.Broker.{Broker, serve, serve_publish, reason_for}
use Rattle.mqtt5_world.specs.World.{World, start, after_reply, takes_packet, returns, taken_back, run_world}
use Rattle.mqtt5_world.proofs.Step.{Inv}
use Rattle.mqtt5_world.proofs.Runs.{inv_start, inv_next, inv_run}
use Rattle.mqtt5_streams.specs.declared.event.ByteEvent.{ByteEvent}
use Rattle.mqtt5_streams.specs.declared.event.ByteEvent.TheVariants as events
use Rattle.mqtt5_progress.specs.Packets.{IsAck, OfPublish, OfFirst, OfRelease, Every, numbered}
use Rattle.mqtt5_streams.specs.Wire.{wire_of, remaining, IsWritable, IsTyped}
use Rattle.mqtt5_streams.specs.Buffers.{Frames, Waits, Breaks, Takes}
use Rattle.mqtt5_streams.specs.ByteWorld.{with_bytes, sent, reply_wire, before, all_bytes, ByteWorld, Outcome, and_then, sends_up, sends_down, asked_bytes, arrived, go_up, heard_bytes, takes_bytes, returned, come_down, emptied, resumed_bytes, resumes_bytes, happens_bytes, run_bytes, start_bytes}
use Rattle.mqtt5_streams.specs.Reduction.{as_events, unless_fault, IsTypedEvent, if_accepted, taken_on, all_taken_on, AllWritable, AdmitsAcks}
use Rattle.mqtt5_streams.proofs.Wire.{wire}
use Rattle.mqtt5_streams.proofs.Cuts.{AreCut, cuts}
use Rattle.mqtt5_progress.proofs.Closed.{Closed, IsSent, APublish, ARelease, GoesUp, ComesDown, Holds, HoldsReply, IfAccepted, keeps_out, keeps_inc, keeps_again, taken_holds, taken_reply, resumes_taken, again_of, holds_next, holds_start}
use Rattle.mqtt5_streams.proofs.Steps.{Tied, IsWritten, every_both, every_map, norm_ack, moved_whole}
use Rattle.mqtt5_streams.proofs.Runs.{OwesByte, holds_as, closed_typed, owes_typed, on_up, on_down, event_tied, tied_start}

abbrev Answers : Outcome → Type 0
Answers o = (c : ByteWorld) × (o ≡ Ok c)

then_answers : (o : Outcome) (go_on : ByteWorld → Outcome) (c : ByteWorld) → o ≡ Ok c → Answers (go_on c) → Answers (and_then o go_on)
then_answers o go_on c e a = (a.0, ap (λ o. and_then o go_on) e ∙ a.1)

every_any : {A : Type 0} (P : A → Type 0) (xs : List A) → ((x : A) → P x) → Every P xs
every_any P [] f = tt {0}
every_any P (x ∷ xs) f = (f x, every_any P xs f)

every_parts : {A : Type 0} (P : A → Type 0) (xs ys : List A) → Every P (xs ++ ys) → Every P xs × Every P ys
every_parts P [] ys h = (tt {0}, h)
every_parts P (x ∷ xs) ys h = let t = every_parts P xs ys h.1 in ((h.0, t.0), t.1)

-- ---- to the broker

publish_acks : (q : QoS) (b : Broker) (p : Publish) → Every IsAck (option_to_list (serve_publish q b p).0)
publish_acks AtMostOnce b p = tt {0}
publish_acks AtLeastOnce b p = (OfPublish p.pkid, tt {0})
publish_acks ExactlyOnce b p = (OfFirst p.pkid, tt {0})

serve_acks : (b : Broker) (x : Packet) → Every IsAck (option_to_list (serve b x).0)
serve_acks b (packets.Publish p) = publish_acks p.qos b p
serve_acks b (packets.PubRel p) = (OfRelease p.pkid (reason_for (set.contains b.ids p.pkid)), tt {0})
serve_acks b other = tt {0}

down_answers : (b : ByteWorld) (o : Option Packet) → Every IsAck (option_to_list o) → Answers (sends_down b (reply_wire None o))
down_answers b None h = (record b { down = sent b.down [] }, refl)
down_answers b (Some x) h = (record b { down = sent b.down (wire_of x) }, ap (sends_down b) (wire.acks x h.0).0)

broker_answers : (fs : Frames) (b : ByteWorld) (buffer later : List ℕ) (ps : List Packet) → AreCut None ⊥ fs buffer ps later → Answers (go_up fs b)
broker_answers Waits b buffer later ps cut = (b, refl)
broker_answers (Breaks e) b buffer later ps cut = absurd cut
broker_answers (Takes frame rest others) b buffer later [] cut = absurd cut
broker_answers (Takes frame rest others) b buffer later (x ∷ ps) cut =
    let b1 : ByteWorld = record b { up = record { buffer = rest; stream = b.up.stream } } in
    let a = serve b.broker (norm x) in
    let d = down_answers (record b1 { broker = a.1 }) a.0 (serve_acks b.broker (norm x)) in
    then_answers (arrived b1 (packet_in frame)) (go_up others) d.0 (ap (arrived b1) cut.0 ∙ d.1) (broker_answers others d.0 rest later ps cut.1)

-- a world that takes a packet has no fault where it has none before
some_fault : {A : Type 0} (xs : List A) (x : A) → xs ++ x ∷ [] ≡ [] → ⊥
some_fault [] x e = cc
some_fault (y ∷ ys) x e = cc

heard_down : (w : World) (a : Result (Option Packet) StateError) (s : Session) → (after_reply w a s).down ≡ w.down
heard_down w (Ok o) s = refl
heard_down w (Err e) s = refl

module _ (codec : Codec) (limit : ℕ) (small : limit < 65536) where
  -- what is said of the packets of a run: the client can write what it sends, or sends for it
  abbrev Can : Packet → Type 0
  Can (packets.Publish p) = IsWritable codec.max_outgoing_size (packets.Publish p)
  Can (packets.PubRel p) = IsWritable codec.max_outgoing_size (packets.PubRel p)
  Can (packets.PubRec p) = IsWritable codec.max_outgoing_size (release_of p.pkid)
  Can other = Unit {0}

  closed_can : Closed Can
  closed_can = record {
    ack = λ p q. tt {0};
    first = λ p q. wire.releases codec.max_outgoing_size p p.pkid q;
    release = λ id q. q;
    complete = λ id reason q. tt {0};
    again = λ p q. wire.again codec.max_outgoing_size p q;
  }

  can_sent : (x : Packet) → IsSent x → Can x → IsWritable codec.max_outgoing_size x
  can_sent _ (APublish p) q = q
  can_sent _ (ARelease id) q = q

  -- ---- what the client sends

  all_answers : (ps : List Packet) → Every (GoesUp Can) ps → (bytes : List ℕ) × (all_bytes codec.max_outgoing_size ps ≡ Ok bytes)
  all_answers [] h = ([], refl)
  all_answers (p ∷ ps) h =
      let t = all_answers ps h.1 in
      (wire_of p ++ t.0, ap (λ r. before r (all_bytes codec.max_outgoing_size ps)) (can_sent p h.0.1 h.0.0) ∙ ap (before (Ok (wire_of p))) t.1)

  reply_answers : (o : Option Packet) → Every (GoesUp Can) (option_to_list o) → (bytes : List ℕ) × (reply_wire codec.max_outgoing_size o ≡ Ok bytes)
  reply_answers None h = ([], refl)
  reply_answers (Some x) h = (wire_of x, can_sent x h.0.1 h.0.0)

  -- ---- a request

  asked_answers : (b : ByteWorld) (p : Publish) (a : Result (Option Packet) StateError) (s : Session) → HoldsReply Can a → Answers (asked_bytes codec b p a s)
  asked_answers b p (Err f) s h = (_, refl)
  asked_answers b p (Ok o) s h =
      let r = reply_answers o h in
      let b1 : ByteWorld = record b { session = s; accepted = b.accepted ++ p ∷ [] } in
      (record b1 { up = sent b1.up r.0 }, ap (sends_up b1) r.1)

  -- ---- to the client

  -- where the session of a world of packets takes a packet, so does that of bytes
  heard_answers : (b : ByteWorld) (w : World) (a : Result (Option Packet) StateError) (s : Session) → (after_reply w a s).faults ≡ [] → HoldsReply Can a → (c : ByteWorld) × (heard_bytes codec b a s ≡ Ok c) × (c.session ≡ (after_reply w a s).session) × (c.down ≡ b.down)
  heard_answers b w (Err e) s i h = absurd (some_fault w.faults e i)
  heard_answers b w (Ok o) s i h =
      let r = reply_answers o h in
      let b1 : ByteWorld = record b { session = s } in
      (record b1 { up = sent b1.up r.0 }, ap (sends_up b1) r.1, refl, refl)

  client_answers : (fs : Frames) (b : ByteWorld) (w : World) (buffer later : List ℕ) (ds : List Packet) → w.down ≡ ds → b.session ≡ w.session → Inv w → Holds Can limit w → AreCut codec.max_incoming_size ⊥ fs buffer ds later → Answers (come_down codec fs b)
  client_answers Waits b w buffer later ds eq same i h cut = (b, refl)
  client_answers (Breaks e) b w buffer later ds eq same i h cut = absurd cut
  client_answers (Takes frame rest others) b w buffer later [] eq same i h cut = absurd cut
  client_answers (Takes frame rest others) b w buffer later (x ∷ ds) eq same i h cut =
      let b1 : ByteWorld = record b { down = record { buffer = rest; stream = b.down.stream } } in
      let w0 : World = record w { down = ds } in
      let q : Every (ComesDown Can) (x ∷ ds) = subst (Every (ComesDown Can)) eq h.down in
      let w1 = takes_packet w0 x in
      let i1 : Inv w1 = subst Inv (ap (returns w) eq) (inv_next w plain.Down i) in
      let h1 : Holds Can limit w1 = subst (Holds Can limit) (ap (returns w) eq) (holds_next Can limit closed_can w plain.Down i h (tt {0})) in
      let k = keeps_inc Can limit closed_can w.session x h.core q.0 in
      let g = heard_answers b1 w0 (on_packet w.session x 0).0 (on_packet w.session x 0).1 i1.none k.reply in
      let is : packet_in frame ≡ Ok x = cut.0 ∙ ap (λ z. Ok z) (norm_ack x q.0.1) in
      let e : returned codec b1 (packet_in frame) ≡ Ok g.0 = ap (returned codec b1) is ∙ ap (λ s. heard_bytes codec b1 (on_packet s x 0).0 (on_packet s x 0).1) same ∙ g.1 in
      then_answers (returned codec b1 (packet_in frame)) (come_down codec others) g.0 e
      (client_answers others g.0 w1 rest later ds (heard_down w0 (on_packet w.session x 0).0 (on_packet w.session x 0).1) g.2 i1 h1 cut.1)

  -- ---- a loss

  lost_answers : (b : ByteWorld) (w : World) (m : Option ℕ) → b.session ≡ w.session → Inv w → Holds Can limit w → Answers (happens_bytes codec b (events.Loss m))
  lost_answers b w m same i h =
      let s = (on_packet w.session (taken_back m) 0).1 in
      let b1 : ByteWorld = record (emptied b) { session = s; up = sent (emptied b).up [] } in
      let first : takes_bytes codec (emptied b) (taken_back m) ≡ Ok b1 =
      ap (λ s. heard_bytes codec (emptied b) (on_packet s (taken_back m) 0).0 (on_packet s (taken_back m) 0).1) same ∙ ap (λ r. heard_bytes codec (emptied b) r s) (taken_reply w.session m) in
      let k = keeps_again Can limit closed_can s (taken_holds Can limit w.session m h.core) in
      let r = all_answers (again_of s).0 k.0 in
      let b2 : ByteWorld = record b1 { session = (again_of s).1 } in
      let then : resumes_bytes codec b1 ≡ Ok (record b2 { up = sent b2.up r.0 }) = ap (resumed_bytes codec b1) (resumes_taken w m i) ∙ ap (sends_up b2) r.1 in
      then_answers (takes_bytes codec (emptied b) (taken_back m)) (resumes_bytes codec) b1 first (_, then)

  -- ---- any event

  -- acks are read
  admitted : AdmitsAcks codec → (x : Packet) → IsAck x → Admits codec.max_incoming_size (remaining x)
  admitted ad x k = by codec.max_incoming_size ad
    where
      by : (l : Option ℕ) → IfSome l (λ max. 4 ≤ max) → Admits l (remaining x)
      by None h = tt {0}
      by (Some max) h = let f = (wire.acks x k).1 in omega (arith, f, h)

  if_every : (P : Publish → Type 0) (p : Publish) (a : Result (Option Packet) StateError) → Every P (if_accepted a p) → IfAccepted a (P p)
  if_every P p (Ok o) h = h.0
  if_every P p (Err f) h = tt {0}

  owes_can : (b : ByteWorld) (w : World) (e : ByteEvent) → b.session ≡ w.session → AllWritable codec (taken_on b e) → OwesByte Can w e
  owes_can b w (events.Publish p) same h =
      if_every (λ p. IsWritable codec.max_outgoing_size (packets.Publish p)) (numbered p.qos w.session.core p) (on_request w.session (requests.Publish p) 0).0
      (subst (λ (s : Session). AllWritable codec (if_accepted (on_request s (requests.Publish p) 0).0 (numbered p.qos s.core p))) same h)
  owes_can b w (events.Up n) same h = tt {0}
  owes_can b w (events.Down n) same h = tt {0}
  owes_can b w (events.Loss m) same h = tt {0}

  next_answers : (b : ByteWorld) (w : World) (e : ByteEvent) → AdmitsAcks codec → Inv w → Holds IsTyped limit w → Holds Can limit w → Tied codec b w → OwesByte Can w e → Answers (happens_bytes codec b e)
  next_answers b w (events.Publish p) ad i f h t o =
      let k = keeps_out Can limit w.session p h.core o in
      let a = asked_answers b p (on_request w.session (requests.Publish p) 0).0 (on_request w.session (requests.Publish p) 0).1 k.reply in
      (a.0, ap (λ s. asked_bytes codec b p (on_request s (requests.Publish p) 0).0 (on_request s (requests.Publish p) 0).1) t.reduces.session ∙ a.1)
  next_answers b w (events.Up n) ad i f h t o =
      let up = on_up IsTyped limit w f in
      broker_answers _ (record b { up = with_bytes n b.up }) (with_bytes n b.up).buffer (with_bytes n b.up).stream w.up
      (cuts None ⊥ (with_bytes n b.up).buffer w.up (with_bytes n b.up).stream (every_both IsTyped IsWritten w.up up.0 t.up_written) (inr (every_any _ w.up (λ x. tt {0}))) (moved_whole codec n b.up ∙ t.reduces.up))
  next_answers b w (events.Down n) ad i f h t o =
      let down = on_down IsTyped limit w f in
      client_answers _ (record b { down = with_bytes n b.down }) w (with_bytes n b.down).buffer (with_bytes n b.down).stream w.down refl t.reduces.session i h
      (cuts codec.max_incoming_size ⊥ (with_bytes n b.down).buffer w.down (with_bytes n b.down).stream (every_both IsTyped IsWritten w.down down.0 t.down_written) (inr (every_map IsAck _ w.down (admitted ad) down.1)) (moved_whole codec n b.down ∙ t.reduces.down))
  next_answers b w (events.Loss m) ad i f h t o = lost_answers b w m t.reduces.session i h

  run_answers : (es : List ByteEvent) (b : ByteWorld) (w : World) → AdmitsAcks codec → Every IsTypedEvent es → Inv w → Holds IsTyped limit w → Holds Can limit w → Tied codec b w → AllWritable codec (all_taken_on codec es b) → Answers (run_bytes codec es b)
  run_answers [] b w ad fs i f h t all = (b, refl)
  run_answers (x ∷ es) b w ad fs i f h t all =
      let parts = every_parts (λ p. IsWritable codec.max_outgoing_size (packets.Publish p)) (taken_on b x) _ all in
      let o = owes_can b w x t.reduces.session parts.0 in
      let a = next_answers b w x ad i f h t o in
      let w1 = run_world (as_events codec b x) w in
      let rest : AllWritable codec (all_taken_on codec es a.0) = subst (λ o. AllWritable codec (unless_fault o (all_taken_on codec es))) a.1 parts.1 in
      let r = run_answers es a.0 w1 ad fs.1 (inv_run (as_events codec b x) w i)
      (holds_as IsTyped limit closed_typed codec b w x i f (owes_typed limit small w x f fs.0))
      (holds_as Can limit closed_can codec b w x i h o)
      (event_tied codec limit b w x a.0 f t a.1) rest in
      then_answers (happens_bytes codec b x) (run_bytes codec es) a.0 a.1 r

  pub answers : (es : List ByteEvent) → AdmitsAcks codec → Every IsTypedEvent es → AllWritable codec (all_taken_on codec es (start_bytes limit)) → Answers (run_bytes codec es (start_bytes limit))
  answers es ad fs all = run_answers es (start_bytes limit) (start limit) ad fs (inv_start limit) (holds_start IsTyped limit) (holds_start Can limit) (tied_start codec limit) all
