-- An event of the world of bytes is events of the world of packets.
use Rattle.std.proofs.Common.{◌≡◌, ℕ, Bool, true, false, cond, List, [], ◌∷◌, ◌++◌, take, drop, Option, Some, None, Result, Ok, Err, inl, refl, sym, ap, ◌∙◌, subst, append-nil, append_assoc}
use Rattle.std.proofs.lemmas.List.{map-append, take-append-drop}
use Rattle.std.specs.Option.{option_to_list}
use Rattle.std.specs.FinSet as set
use Rattle.mqtt5_base.specs.Front.{NeedsMore}
use Rattle.mqtt5_base.specs.declared.error.Error.{Error}
use Rattle.mqtt5_base.specs.FrontAt.{front}
use Rattle.mqtt5_base.specs.declared.quality.QoS.{QoS}
use Rattle.mqtt5_base.specs.declared.quality.QoS.TheVariants.{AtMostOnce, AtLeastOnce, ExactlyOnce}
use Rattle.mqtt5_publish.specs.declared.publish.Publish.{Publish}
use Rattle.mqtt5_publish.specs.Norms.{publish_norm}
use Rattle.mqtt5_codec.specs.declared.packet.Packet.{Packet}
use Rattle.mqtt5_codec.specs.declared.codec.Codec.{Codec}
use Rattle.mqtt5_codec.specs.PacketsIn.{packet_in}
use Rattle.mqtt5_codec.specs.Norms.{norm}
use Rattle.mqtt5_inflight.specs.declared.event.Request.TheVariants as requests
use Rattle.mqtt5_inflight.specs.declared.error.StateError.{StateError}
use Rattle.mqtt5_session.specs.Session.{Session}
use Rattle.mqtt5_session.specs.Requests.{on_request}
use Rattle.mqtt5_session.specs.Packets.{puback_of, pubrec_of, on_packet}
use Rattle.mqtt5_session.specs.Resuming.{Sendings, resume_of}
use Rattle.mqtt5_world.specs.declared.event.WorldEvent.TheVariants as plain
use Rattle.mqtt5_world.specs.Broker.{Broker, Served, serve, serve_publish}
use Rattle.mqtt5_world.specs.World.{World, after_request, after_serving, arrives, after_reply, takes_packet, returns, taken_back, after_resume, happens, run_world}
use Rattle.mqtt5_streams.specs.declared.event.ByteEvent.{ByteEvent}
use Rattle.mqtt5_streams.specs.declared.event.ByteEvent.TheVariants as events
use Rattle.mqtt5_progress.specs.Packets.{IsAck, OfPublish, OfFirst, OfRelease, Every}
use Rattle.mqtt5_streams.specs.Wire.{wire_of, bytes_of, IsWritable, IsTyped}
use Rattle.mqtt5_streams.specs.Buffers.{Frames, Waits, Breaks, Takes, count}
use Rattle.mqtt5_streams.specs.ByteWorld.{Way, clear, with_bytes, sent, reply_wire, before, all_bytes, ByteWorld, Outcome, and_then, sends_up, sends_down, asked_bytes, served_bytes, arrived, go_up, heard_bytes, takes_bytes, returned, come_down, emptied, resumed_bytes, resumes_bytes, happens_bytes}
use Rattle.mqtt5_streams.specs.Reduction.{so_often, as_events, norms, normed, frames_of, Reduces}
use Rattle.mqtt5_streams.proofs.Wire.{wire}
use Rattle.mqtt5_streams.proofs.Cuts.{AreCut, cuts}
use Rattle.mqtt5_progress.proofs.Closed.{every_append, IsSent, APublish, ARelease}

-- ---- results

pub ok_one : {A E : Type 0} (x y : A) → ◌≡◌ {A = Result A E} (Ok x) (Ok y) → x ≡ y
ok_one x y e = cc

pub not_ok : {A E : Type 0} (e : E) (y : A) → ◌≡◌ {A = Result A E} (Err e) (Ok y) → ⊥
not_ok e y h = cc

pub then_ok : (o : Outcome) (go_on : ByteWorld → Outcome) (b : ByteWorld) → and_then o go_on ≡ Ok b → (c : ByteWorld) × (o ≡ Ok c) × (go_on c ≡ Ok b)
then_ok (Ok c) go_on b e = (c, refl, e)
then_ok (Err f) go_on b e = absurd (not_ok f b e)

up_ok : (w : ByteWorld) (r : Result (List ℕ) Error) (b : ByteWorld) → sends_up w r ≡ Ok b → (bytes : List ℕ) × (r ≡ Ok bytes) × (record w { up = sent w.up bytes } ≡ b)
up_ok w (Ok bytes) b e = (bytes, refl, ok_one _ b e)
up_ok w (Err f) b e = absurd (not_ok _ b e)

down_ok : (w : ByteWorld) (r : Result (List ℕ) Error) (b : ByteWorld) → sends_down w r ≡ Ok b → (bytes : List ℕ) × (r ≡ Ok bytes) × (record w { down = sent w.down bytes } ≡ b)
down_ok w (Ok bytes) b e = (bytes, refl, ok_one _ b e)
down_ok w (Err f) b e = absurd (not_ok _ b e)

-- ---- lists of packets

frames_append : (xs ys : List Packet) → frames_of (xs ++ ys) ≡ frames_of xs ++ frames_of ys
frames_append [] ys = refl
frames_append (x ∷ xs) ys = ap (λ z. wire_of x ++ z) (frames_append xs ys) ∙ sym (append_assoc (wire_of x) (frames_of xs) (frames_of ys))

pub every_both : {A : Type 0} (P R : A → Type 0) (xs : List A) → Every P xs → Every R xs → Every (λ x. P x × R x) xs
every_both P R [] a b = tt {0}
every_both P R (x ∷ xs) a b = ((a.0, b.0), every_both P R xs a.1 b.1)

pub every_map : {A : Type 0} (P R : A → Type 0) (xs : List A) → ((x : A) → P x → R x) → Every P xs → Every R xs
every_map P R [] f h = tt {0}
every_map P R (x ∷ xs) f h = (f x h.0, every_map P R xs f h.1)

-- ---- writing

abbrev pub IsWritten : Packet → Type 0
IsWritten p = IsWritable None p

reply_written : (limit : Option ℕ) (o : Option Packet) (bytes : List ℕ) → reply_wire limit o ≡ Ok bytes → (bytes ≡ frames_of (option_to_list o)) × Every IsWritten (option_to_list o)
reply_written limit None bytes e = (sym (ok_one _ _ e), tt {0})
reply_written limit (Some p) bytes e = let h = wire.written limit p bytes e in (h.0 ∙ sym (append-nil (wire_of p)), (h.1, tt {0}))

before_ok : (r s : Result (List ℕ) Error) (bytes : List ℕ) → before r s ≡ Ok bytes → (a b : List ℕ) × (r ≡ Ok a) × (s ≡ Ok b) × (bytes ≡ a ++ b)
before_ok (Ok a) (Ok b) bytes e = (a, b, refl, refl, sym (ok_one _ _ e))
before_ok (Ok a) (Err f) bytes e = absurd (not_ok _ bytes e)
before_ok (Err f) s bytes e = absurd (not_ok _ bytes e)

all_written : (limit : Option ℕ) (ps : List Packet) (bytes : List ℕ) → all_bytes limit ps ≡ Ok bytes → (bytes ≡ frames_of ps) × Every IsWritten ps
all_written limit [] bytes e = (sym (ok_one _ _ e), tt {0})
all_written limit (p ∷ ps) bytes e =
    let f = before_ok (bytes_of limit p) (all_bytes limit ps) bytes e in
    let h = wire.written limit p f.0 f.2 in
    let t = all_written limit ps f.1 f.3 in
    (f.4 ∙ ap (λ z. z ++ f.1) h.0 ∙ ap (λ z. wire_of p ++ z) t.0, (h.1, t.1))

-- bytes that are sent after packets' frames
after : (buffer stream bytes : List ℕ) (ps qs : List Packet) → buffer ++ stream ≡ frames_of ps → bytes ≡ frames_of qs → buffer ++ (stream ++ bytes) ≡ frames_of (ps ++ qs)
after buffer stream bytes ps qs e h = sym (append_assoc buffer stream bytes) ∙ ap (λ z. z ++ bytes) e ∙ ap (λ z. frames_of ps ++ z) h ∙ sym (frames_append ps qs)

-- ---- norms

pub norm_ack : (x : Packet) → IsAck x → norm x ≡ x
norm_ack _ (OfPublish id) = refl
norm_ack _ (OfFirst id) = refl
norm_ack _ (OfRelease id reason) = refl

push_norm : (handed : List Publish) (p : Publish) → norms handed ++ publish_norm p ∷ [] ≡ norms (handed ++ p ∷ [])
push_norm handed p = sym (map-append publish_norm handed (p ∷ []))

-- what a broker that saw norms answers
abbrev norm_served : Served → Served
norm_served a = (a.0, normed a.1)

-- a norm of QoS 1 or 2 has the id
own_id : (q : QoS) (p : Publish) → p.qos ≡ q → (q ≡ AtMostOnce → ⊥) → (publish_norm p).pkid ≡ p.pkid
own_id AtMostOnce p e ne = absurd (ne refl)
own_id AtLeastOnce p e ne = rw e refl
own_id ExactlyOnce p e ne = rw e refl

publish_served : (q : QoS) (b : Broker) (p : Publish) → p.qos ≡ q → serve_publish q (normed b) (publish_norm p) ≡ norm_served (serve_publish q b p)
publish_served AtMostOnce b p e = λ i. (None, record { ids = b.ids; handed = push_norm b.handed p i })
publish_served AtLeastOnce b p e =
    let own = own_id AtLeastOnce p e (λ h. absurd cc) in
    λ i. (Some (puback_of (own i)), record { ids = b.ids; handed = push_norm b.handed p i })
publish_served ExactlyOnce b p e =
    let own = own_id ExactlyOnce p e (λ h. absurd cc) in
    let list = ap (λ k. cond (set.contains b.ids k) (norms b.handed) (norms b.handed ++ publish_norm p ∷ [])) own ∙ by (set.contains b.ids p.pkid) in
    λ i. (Some (pubrec_of (own i)), record { ids = set.insert b.ids (own i); handed = list i })
  where
    by : (t : Bool) → cond t (norms b.handed) (norms b.handed ++ publish_norm p ∷ []) ≡ norms (cond t b.handed (b.handed ++ p ∷ []))
    by true = refl
    by false = push_norm b.handed p

serve_norm : (b : Broker) (x : Packet) → IsSent x → serve (normed b) (norm x) ≡ norm_served (serve b x)
serve_norm b _ (APublish p) = publish_served p.qos b p refl
serve_norm b _ (ARelease id) = refl

heard_left : (w : World) (a : Result (Option Packet) StateError) (s : Session) → (after_reply w a s).down ≡ w.down
heard_left w (Ok o) s = refl
heard_left w (Err f) s = refl

-- ---- one world of bytes and one of packets

-- it is that of packets, and what is on its way was written
pub record Tied (codec : Codec) (b : ByteWorld) (w : World) : Type 0 where
  pub reduces : Reduces codec b w
  pub up_written : Every IsWritten w.up
  pub down_written : Every IsWritten w.down

-- the same, but for the way up
record ButUp (codec : Codec) (b : ByteWorld) (w : World) : Type 0 where
  session : b.session ≡ w.session
  broker : b.broker ≡ normed w.broker
  accepted : b.accepted ≡ w.accepted
  refused : b.refused ≡ w.refused
  down : b.down.buffer ++ b.down.stream ≡ frames_of w.down
  down_waits : NeedsMore (front codec.max_incoming_size b.down.buffer)
  down_written : Every IsWritten w.down

-- the same, but for the way down
record ButDown (b : ByteWorld) (w : World) : Type 0 where
  session : b.session ≡ w.session
  broker : b.broker ≡ normed w.broker
  accepted : b.accepted ≡ w.accepted
  refused : b.refused ≡ w.refused
  up : b.up.buffer ++ b.up.stream ≡ frames_of w.up
  up_waits : NeedsMore (front None b.up.buffer)
  up_written : Every IsWritten w.up

module _ (codec : Codec) where
  -- ---- a request

  asked_tied : (b : ByteWorld) (w : World) (p : Publish) (a : Result (Option Packet) StateError) (s : Session) (c : ByteWorld) → Tied codec b w → asked_bytes codec b p a s ≡ Ok c → Tied codec c (after_request w p a s)
  asked_tied b w p (Err f) s c t e =
      let r = t.reduces in
      subst (λ z. Tied codec z (after_request w p (Err f) s)) (ok_one _ c e) (record {
        reduces = record { session = refl; broker = r.broker; accepted = r.accepted; refused = ap (λ z. z ++ (p, f) ∷ []) r.refused; up = r.up; down = r.down; up_waits = r.up_waits; down_waits = r.down_waits };
        up_written = t.up_written;
        down_written = t.down_written;
      })
  asked_tied b w p (Ok o) s c t e =
      let r = t.reduces in
      let u = up_ok (record b { session = s; accepted = b.accepted ++ p ∷ [] }) (reply_wire codec.max_outgoing_size o) c e in
      let h = reply_written codec.max_outgoing_size o u.0 u.1 in
      subst (λ z. Tied codec z (after_request w p (Ok o) s)) u.2 (record {
        reduces = record {
          session = refl;
          broker = r.broker;
          accepted = ap (λ z. z ++ p ∷ []) r.accepted;
          refused = r.refused;
          up = after b.up.buffer b.up.stream u.0 w.up (option_to_list o) r.up h.0;
          down = r.down;
          up_waits = r.up_waits;
          down_waits = r.down_waits;
        };
        up_written = every_append IsWritten w.up (option_to_list o) t.up_written h.1;
        down_written = t.down_written;
      })

  -- ---- to the broker

  served_on : (b : ByteWorld) (w : World) (x : Packet) (rest : List ℕ) (c : ByteWorld) → IsSent x → ButUp codec b w → arrived (record b { up = record { buffer = rest; stream = b.up.stream } }) (Ok (norm x)) ≡ Ok c → (ps : List Packet) → ButUp codec c (after_serving (record w { up = ps }) (serve w.broker x)) × (c.up ≡ record { buffer = rest; stream = b.up.stream })
  served_on b w x rest c sends t e ps =
      let a = serve w.broker x in
      let b1 : ByteWorld = record b { up = record { buffer = rest; stream = b.up.stream } } in
      let same : serve b.broker (norm x) ≡ norm_served a = ap (λ z. serve z (norm x)) t.broker ∙ serve_norm w.broker x sends in
      let u = down_ok (record b1 { broker = normed a.1 }) (reply_wire None a.0) c (sym (ap (served_bytes b1) same) ∙ e) in
      let h = reply_written None a.0 u.0 u.1 in
      subst (λ z. ButUp codec z (after_serving (record w { up = ps }) a) × (z.up ≡ record { buffer = rest; stream = b.up.stream })) u.2 (
        record {
          session = t.session;
          broker = refl;
          accepted = t.accepted;
          refused = t.refused;
          down = after b.down.buffer b.down.stream u.0 w.down (option_to_list a.0) t.down h.0;
          down_waits = t.down_waits;
          down_written = every_append IsWritten w.down (option_to_list a.0) t.down_written h.1;
        },
        refl,
      )

  up_tied : (Broken : Type 0) (fs : Frames) (b : ByteWorld) (w : World) (c : ByteWorld) (ps : List Packet) → w.up ≡ ps → ButUp codec b w → AreCut None Broken fs b.up.buffer ps b.up.stream → Every IsWritten ps → Every IsSent ps → go_up fs b ≡ Ok c → Tied codec c (run_world (so_often (count fs) plain.Up) w)
  up_tied Broken Waits b w c ps eq t cut wr se e =
      subst (λ z. Tied codec z w) (ok_one _ c e) (record {
        reduces = record {
          session = t.session;
          broker = t.broker;
          accepted = t.accepted;
          refused = t.refused;
          up = cut.1 ∙ ap frames_of (sym eq);
          down = t.down;
          up_waits = cut.0;
          down_waits = t.down_waits;
        };
        up_written = subst (Every IsWritten) (sym eq) wr;
        down_written = t.down_written;
      })
  up_tied Broken (Breaks x) b w c ps eq t cut wr se e = absurd (not_ok _ c e)
  up_tied Broken (Takes frame rest others) b w c [] eq t cut wr se e = absurd cut
  up_tied Broken (Takes frame rest others) b w c (x ∷ ps) eq t cut wr se e =
      let b1 : ByteWorld = record b { up = record { buffer = rest; stream = b.up.stream } } in
      let g = then_ok (arrived b1 (packet_in frame)) (go_up others) c e in
      let s = served_on b w x rest g.0 se.0 t (sym (ap (arrived b1) cut.0) ∙ g.1) ps in
      let w1 = after_serving (record w { up = ps }) (serve w.broker x) in
      let k : AreCut None Broken others g.0.up.buffer ps g.0.up.stream = subst (λ (z : Way). AreCut None Broken others z.buffer ps z.stream) (sym s.1) cut.1 in
      let r = up_tied Broken others g.0 w1 c ps refl s.0 k wr.1 se.1 g.2 in
      subst (λ z. Tied codec c (run_world (so_often (count others) plain.Up) z)) (sym (ap (arrives w) eq)) r

  -- ---- to the client

  heard_on : (b : ByteWorld) (w : World) (a : Result (Option Packet) StateError) (s : Session) (c : ByteWorld) → ButDown b w → heard_bytes codec b a s ≡ Ok c → ButDown c (after_reply w a s) × (c.down ≡ b.down)
  heard_on b w (Err f) s c t e = absurd (not_ok _ c e)
  heard_on b w (Ok o) s c t e =
      let u = up_ok (record b { session = s }) (reply_wire codec.max_outgoing_size o) c e in
      let h = reply_written codec.max_outgoing_size o u.0 u.1 in
      subst (λ z. ButDown z (after_reply w (Ok o) s) × (z.down ≡ b.down)) u.2 (
        record {
          session = refl;
          broker = t.broker;
          accepted = t.accepted;
          refused = t.refused;
          up = after b.up.buffer b.up.stream u.0 w.up (option_to_list o) t.up h.0;
          up_waits = t.up_waits;
          up_written = every_append IsWritten w.up (option_to_list o) t.up_written h.1;
        },
        refl,
      )

  taken_on : (b : ByteWorld) (w : World) (x : Packet) (c : ByteWorld) → ButDown b w → takes_bytes codec b x ≡ Ok c → ButDown c (takes_packet w x) × (c.down ≡ b.down)
  taken_on b w x c t e = heard_on b w (on_packet w.session x 0).0 (on_packet w.session x 0).1 c t (sym (ap (λ s. heard_bytes codec b (on_packet s x 0).0 (on_packet s x 0).1) t.session) ∙ e)

  without_down : (b : ByteWorld) (w : World) (way : Way) (ds : List Packet) → ButDown b w → ButDown (record b { down = way }) (record w { down = ds })
  without_down b w way ds t = record { session = t.session; broker = t.broker; accepted = t.accepted; refused = t.refused; up = t.up; up_waits = t.up_waits; up_written = t.up_written }

  down_tied : (Broken : Type 0) (fs : Frames) (b : ByteWorld) (w : World) (c : ByteWorld) (ds : List Packet) → w.down ≡ ds → ButDown b w → AreCut codec.max_incoming_size Broken fs b.down.buffer ds b.down.stream → Every IsWritten ds → Every IsAck ds → come_down codec fs b ≡ Ok c → Tied codec c (run_world (so_often (count fs) plain.Down) w)
  down_tied Broken Waits b w c ds eq t cut wr ac e =
      subst (λ z. Tied codec z w) (ok_one _ c e) (record {
        reduces = record {
          session = t.session;
          broker = t.broker;
          accepted = t.accepted;
          refused = t.refused;
          up = t.up;
          down = cut.1 ∙ ap frames_of (sym eq);
          up_waits = t.up_waits;
          down_waits = cut.0;
        };
        up_written = t.up_written;
        down_written = subst (Every IsWritten) (sym eq) wr;
      })
  down_tied Broken (Breaks x) b w c ds eq t cut wr ac e = absurd (not_ok _ c e)
  down_tied Broken (Takes frame rest others) b w c [] eq t cut wr ac e = absurd cut
  down_tied Broken (Takes frame rest others) b w c (x ∷ ds) eq t cut wr ac e =
      let way : Way = record { buffer = rest; stream = b.down.stream } in
      let b1 : ByteWorld = record b { down = way } in
      let g = then_ok (returned codec b1 (packet_in frame)) (come_down codec others) c e in
      let is : packet_in frame ≡ Ok x = cut.0 ∙ ap (λ z. Ok z) (norm_ack x ac.0) in
      let w0 : World = record w { down = ds } in
      let s = taken_on b1 w0 x g.0 (without_down b w way ds t) (sym (ap (returned codec b1) is) ∙ g.1) in
      let k : AreCut codec.max_incoming_size Broken others g.0.down.buffer ds g.0.down.stream = subst (λ (z : Way). AreCut codec.max_incoming_size Broken others z.buffer ds z.stream) (sym s.1) cut.1 in
      let r = down_tied Broken others g.0 (takes_packet w0 x) c ds (heard_left w0 (on_packet w.session x 0).0 (on_packet w.session x 0).1) s.0 k wr.1 ac.1 g.2 in
      subst (λ z. Tied codec c (run_world (so_often (count others) plain.Down) z)) (sym (ap (returns w) eq)) r

  -- ---- a loss

  resumed_tied : (b : ByteWorld) (w : World) (r : Sendings) (c : ByteWorld) → ButDown b w → b.down ≡ clear → w.down ≡ [] → resumed_bytes codec b r ≡ Ok c → Tied codec c (after_resume w r)
  resumed_tied b w (Err f) c t none nothing e = absurd (not_ok _ c e)
  resumed_tied b w (Ok again) c t none nothing e =
      let u = up_ok (record b { session = again.1 }) (all_bytes codec.max_outgoing_size again.0) c e in
      let h = all_written codec.max_outgoing_size again.0 u.0 u.1 in
      subst (λ z. Tied codec z (after_resume w (Ok again))) u.2 (record {
        reduces = record {
          session = refl;
          broker = t.broker;
          accepted = t.accepted;
          refused = t.refused;
          up = after b.up.buffer b.up.stream u.0 w.up again.0 t.up h.0;
          down = ap (λ (z : Way). z.buffer ++ z.stream) none ∙ ap frames_of (sym nothing);
          up_waits = t.up_waits;
          down_waits = subst (λ (z : Way). NeedsMore (front codec.max_incoming_size z.buffer)) (sym none) (2, wire.empty codec.max_incoming_size);
        };
        up_written = every_append IsWritten w.up again.0 t.up_written h.1;
        down_written = subst (Every IsWritten) (sym nothing) (tt {0});
      })

  lost_tied : (b : ByteWorld) (w : World) (m : Option ℕ) (c : ByteWorld) → Tied codec b w → happens_bytes codec b (events.Loss m) ≡ Ok c → Tied codec c (happens w (plain.Loss m))
  lost_tied b w m c t e =
      let r = t.reduces in
      let lost : World = record w { up = []; down = [] } in
      let g = then_ok (takes_bytes codec (emptied b) (taken_back m)) (resumes_bytes codec) c e in
      let start : ButDown (emptied b) lost = record { session = r.session; broker = r.broker; accepted = r.accepted; refused = r.refused; up = refl; up_waits = (2, wire.empty None); up_written = tt {0} } in
      let s = taken_on (emptied b) lost (taken_back m) g.0 start g.1 in
      resumed_tied g.0 (takes_packet lost (taken_back m)) (resume_of (takes_packet lost (taken_back m)).session 0) c s.0 s.1 (heard_left lost (on_packet w.session (taken_back m) 0).0 (on_packet w.session (taken_back m) 0).1)
      (sym (ap (λ z. resumed_bytes codec g.0 (resume_of z 0)) s.0.session) ∙ g.2)

  -- ---- any event

  pub moved_whole : (n : ℕ) (way : Way) → (with_bytes n way).buffer ++ (with_bytes n way).stream ≡ way.buffer ++ way.stream
  moved_whole n way = append_assoc way.buffer (take n way.stream) (drop n way.stream) ∙ ap (λ z. way.buffer ++ z) (take-append-drop n way.stream)

  pub next_tied : (b : ByteWorld) (w : World) (e : ByteEvent) (c : ByteWorld) → Every IsTyped w.up → Every IsSent w.up → Every IsTyped w.down → Every IsAck w.down → Tied codec b w → happens_bytes codec b e ≡ Ok c → Tied codec c (run_world (as_events codec b e) w)
  next_tied b w (events.Publish p) c ut us dt da t e =
      asked_tied b w p (on_request w.session (requests.Publish p) 0).0 (on_request w.session (requests.Publish p) 0).1 c t
      (sym (ap (λ s. asked_bytes codec b p (on_request s (requests.Publish p) 0).0 (on_request s (requests.Publish p) 0).1) t.reduces.session) ∙ e)
  next_tied b w (events.Up n) c ut us dt da t e =
      let r = t.reduces in
      up_tied (Unit {0}) _ (record b { up = with_bytes n b.up }) w c w.up refl
      (record { session = r.session; broker = r.broker; accepted = r.accepted; refused = r.refused; down = r.down; down_waits = r.down_waits; down_written = t.down_written })
      (cuts None (Unit {0}) (with_bytes n b.up).buffer w.up (with_bytes n b.up).stream (every_both IsTyped IsWritten w.up ut t.up_written) (inl (tt {0})) (moved_whole n b.up ∙ r.up))
      t.up_written us e
  next_tied b w (events.Down n) c ut us dt da t e =
      let r = t.reduces in
      down_tied (Unit {0}) _ (record b { down = with_bytes n b.down }) w c w.down refl
      (record { session = r.session; broker = r.broker; accepted = r.accepted; refused = r.refused; up = r.up; up_waits = r.up_waits; up_written = t.up_written })
      (cuts codec.max_incoming_size (Unit {0}) (with_bytes n b.down).buffer w.down (with_bytes n b.down).stream (every_both IsTyped IsWritten w.down dt t.down_written) (inl (tt {0})) (moved_whole n b.down ∙ r.down))
      t.down_written da e
  next_tied b w (events.Loss m) c ut us dt da t e = lost_tied b w m c t e
