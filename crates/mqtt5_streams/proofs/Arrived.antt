-- Where no byte is on its way no packet is, and all is handed on.
use Rattle.std.proofs.Common.{◌≡◌, ℕ, zero, suc, ◌<◌, ◌≤◌, Bool, true, false, nat_lt, List, [], ◌∷◌, ◌++◌, length, count_by, Option, Some, None, refl, sym, ap, ◌∙◌, subst, append-nil, append_assoc}
use Rattle.std.proofs.lemmas.Bool.{ltb-false, ltb-true}
use Rattle.std.specs.FinSet as set
use Rattle.mqtt5_base.specs.Front.{More, NeedsMore}
use Rattle.mqtt5_base.specs.FrontAt.{front}
use Rattle.mqtt5_base.specs.Frames.{IsWhole}
use Rattle.mqtt5_base.specs.declared.quality.QoS.TheVariants.{AtLeastOnce, ExactlyOnce}
use Rattle.mqtt5_base.proofs.FrontFound.{front_found}
use Rattle.mqtt5_publish.specs.declared.publish.Publish.{Publish}
use Rattle.mqtt5_codec.specs.declared.packet.Packet.{Packet}
use Rattle.mqtt5_codec.specs.declared.codec.Codec.{Codec}
use Rattle.mqtt5_session.specs.Session.{Session}
use Rattle.mqtt5_world.specs.declared.event.WorldEvent.{WorldEvent}
use Rattle.mqtt5_world.specs.Broker.{Broker}
use Rattle.mqtt5_world.specs.World.{World, run_world, start}
use Rattle.mqtt5_world.specs.Delivery.{times}
use Rattle.mqtt5_progress.specs.Progress.{IsIdle, Settled, all_up, all_down, downward, settle}
use Rattle.mqtt5_progress.proofs.Settled.{at_rest}
use Rattle.mqtt5_progress.proofs.Counted.{exactly, least}
use Rattle.mqtt5_streams.specs.declared.event.ByteEvent.{ByteEvent}
use Rattle.mqtt5_streams.specs.Wire.{wire_of, IsTyped}
use Rattle.mqtt5_streams.specs.ByteWorld.{Way, clear, ByteWorld, start_bytes}
use Rattle.mqtt5_progress.specs.Packets.{Every}
use Rattle.mqtt5_streams.specs.Reduction.{norms, frames_of, IsTypedEvent, plain_events}
use Rattle.mqtt5_streams.specs.Arrival.{AllArrived, SettledBytes}
use Rattle.mqtt5_streams.proofs.Wire.{wire}
use Rattle.mqtt5_streams.proofs.Cuts.{IsSound, not_bad, not_whole}
use Rattle.mqtt5_streams.proofs.Steps.{IsWritten, every_both}
use Rattle.mqtt5_streams.proofs.Runs.{Ends, ends, on_up, on_down, after_norm, norm_class, handed_count, accepted_count}

-- ---- the ways

-- a whole frame at the front waits for no byte, whatever the limit
not_short : (limit : Option ℕ) (first : ℕ) (frame body more : List ℕ) → IsWhole frame first body → (n : ℕ) → front limit (frame ++ more) ≡ More n → ⊥
not_short None first frame body more is n e = not_whole n frame more (sym e ∙ (front_found None).found first frame body more is (tt {0}))
not_short (Some max) first frame body more is n e = by (nat_lt max (length body)) refl
  where
    parts : frame ++ more ≡ first ∷ (is.0 ++ (body ++ more))
    parts = ap (λ z. z ++ more) is.1 ∙ ap (λ z. first ∷ z) (append_assoc is.0 body more)

    by : (b : Bool) → nat_lt max (length body) ≡ b → ⊥
    by true over = not_bad n _ (sym e ∙ ap (front (Some max)) parts ∙ (front_found (Some max)).over first (length body) max is.0 (body ++ more) refl is.2 (ltb-true max (length body) over))
    by false within = not_whole n frame more (sym e ∙ (front_found (Some max)).found first frame body more is (ltb-false max (length body) within))

-- where no byte is on its way, and the reader waits for more, there is no packet
no_packet : (limit : Option ℕ) (way : Way) (ps : List Packet) → way.stream ≡ [] → way.buffer ++ way.stream ≡ frames_of ps → NeedsMore (front limit way.buffer) → Every IsSound ps → ps ≡ []
no_packet limit way [] none e more sound = refl
no_packet limit way (p ∷ ps) none e more sound =
    let here : way.buffer ≡ wire_of p ++ frames_of ps = sym (append-nil way.buffer) ∙ ap (λ z. way.buffer ++ z) (sym none) ∙ e in
    let its = (wire.stays None).shape (wire_of p ++ frames_of ps) (wire_of p) (frames_of ps) (wire.stands None p (frames_of ps) sound.0.0 sound.0.1 (tt {0})) in
    absurd (not_short limit its.0 (wire_of p) its.1 (frames_of ps) its.2 more.0 (ap (front limit) (sym here) ∙ more.1))

is_clear : (way : Way) (ps : List Packet) → way.stream ≡ [] → way.buffer ++ way.stream ≡ frames_of ps → ps ≡ [] → way ≡ clear
is_clear way ps none e is =
    let empty : way.buffer ≡ [] = sym (append-nil way.buffer) ∙ ap (λ z. way.buffer ++ z) (sym none) ∙ e ∙ ap frames_of is in
    λ i. record { buffer = empty i; stream = none i }

-- rounds change nothing where nothing is on its way
rests : (n : ℕ) (w : World) → w.up ≡ [] → w.down ≡ [] → settle n w ≡ w
rests zero w u d = refl
rests (suc n) w u d = ap (λ ps. settle n (downward (run_world (all_up ps) w))) u ∙ ap (λ ps. settle n (run_world (all_down ps) w)) d ∙ rests n w u d

-- ---- the worlds

module _ (codec : Codec) (limit : ℕ) (small : limit < 65536) (es : List ByteEvent) (typed : Every IsTypedEvent es) (b : ByteWorld) (a : AllArrived codec limit es b) where
  abbrev fs : List WorldEvent
  fs = plain_events codec es (start_bytes limit)

  abbrev v : World
  v = run_world fs (start limit)

  both : Ends codec limit b v
  both = ends codec limit small es b typed a.reached

  none_up : v.up ≡ []
  none_up =
      no_packet None b.up v.up a.up both.0.reduces.up both.0.reduces.up_waits
      (every_both IsTyped IsWritten v.up (on_up IsTyped limit v both.1).0 both.0.up_written)

  none_down : v.down ≡ []
  none_down =
      no_packet codec.max_incoming_size b.down v.down a.down both.0.reduces.down both.0.reduces.down_waits
      (every_both IsTyped IsWritten v.down (on_down IsTyped limit v both.1).0 both.0.down_written)

  rest : Settled v
  rest = at_rest limit fs none_up none_down

  pub settled : SettledBytes b
  settled = record {
    up = is_clear b.up v.up a.up both.0.reduces.up none_up;
    down = is_clear b.down v.down a.down both.0.reduces.down none_down;
    core = subst (λ (s : Session). IsIdle s.core) (sym both.0.reduces.session) rest.core;
    ids = λ id. ap (λ (x : Broker). set.contains x.ids id) both.0.reduces.broker ∙ rest.ids id;
  }

  pub all_once : (c : Publish) → c.qos ≡ ExactlyOnce → times c b.broker.handed ≡ times c (norms b.accepted)
  all_once c e =
      let test = after_norm c in
      let h : count_by test v.broker.handed ≡ count_by test v.accepted = subst (λ (w : World). count_by test w.broker.handed ≡ count_by test v.accepted) (rests 4 v none_up none_down) (exactly test limit fs (norm_class c ExactlyOnce e)) in
      handed_count codec b v c both.0.reduces ∙ h ∙ sym (accepted_count codec b v c both.0.reduces)

  pub all_least : (c : Publish) → c.qos ≡ AtLeastOnce → times c (norms b.accepted) ≤ times c b.broker.handed
  all_least c e =
      let test = after_norm c in
      let h : count_by test v.accepted ≤ count_by test v.broker.handed = subst (λ (w : World). count_by test v.accepted ≤ count_by test w.broker.handed) (rests 4 v none_up none_down) (least test limit fs (norm_class c AtLeastOnce e)) in
      rw (handed_count codec b v c both.0.reduces, accepted_count codec b v c both.0.reduces) h
