-- What the parts of a run do is what its definitions say.
use Rattle.std.proofs.Common.{◌≡◌, ◌≢◌, ℕ, ◌+◌, ◌*◌, ◌<◌, ◌≤◌, List, Some, None, Ok, Err, ◌⊎◌, inl, inr, sym, ap, ◌∙◌, subst, arith}
use Rattle.mqtt5_base.specs.declared.error.Error.{Error}
use Rattle.mqtt5_base.specs.declared.quality.QoS.TheVariants.{AtMostOnce, AtLeastOnce, ExactlyOnce}
use Rattle.mqtt5_publish.specs.declared.publish.Publish.{Publish}
use Rattle.mqtt5_codec.specs.declared.packet.Packet.{Packet}
use Rattle.mqtt5_codec.specs.declared.codec.Codec.{Codec}
use Rattle.mqtt5_codec.specs.Codecs.{Decodes}
use Rattle.mqtt5_codec.proofs.CodecLemmas.{taken_packet, taken_fault}
use Rattle.mqtt5_inflight.specs.declared.error.StateError.{StateError}
use Rattle.mqtt5_inflight.specs.declared.error.StateError.TheVariants as errors
use Rattle.mqtt5_inflight.specs.Errors.{state_error}
use Rattle.mqtt5_session.specs.Session.{Session}
use Rattle.mqtt5_world.specs.declared.event.Report.{Report}
use Rattle.mqtt5_world.specs.Delivery.{times, stored_in, waiting_in}
use Rattle.mqtt5_progress.specs.Progress.{IsIdle}
use Rattle.mqtt5_streams.specs.declared.event.ByteEvent.{ByteEvent}
use Rattle.mqtt5_streams.specs.Buffers.{frames}
use Rattle.mqtt5_streams.specs.ByteWorld.{Way, ByteWorld, Outcome, and_then, arrived, go_up, drain_up, returned, come_down, drain_down, run_bytes, start_bytes, byte_losses}
use Rattle.mqtt5_progress.specs.Packets.{Every}
use Rattle.mqtt5_streams.specs.Reduction.{IsTypedEvent, norms, AdmitsAcks, AllWritable, all_taken_on}
use Rattle.mqtt5_streams.specs.Counts.{Counts}
use Rattle.mqtt5_streams.specs.Arrival.{AllArrived}
use Rattle.mqtt5_streams.specs.Does.{Does, IsByteReport}
use Rattle.mqtt5_streams.proofs.Cuts.{frames_whole, frames_more, frames_bad}
use Rattle.mqtt5_streams.proofs.Steps.{ok_one}
use Rattle.mqtt5_streams.proofs.Runs.{counts}
use Rattle.mqtt5_streams.proofs.Answered.{answers}
use Rattle.mqtt5_streams.proofs.Arrived.{settled, all_once, all_least}

-- ---- the loops over frames

-- a part that wasn't done ends it
then_stops : (x : StateError) (o : Outcome) (go_on : ByteWorld → Outcome) (v w : ByteWorld) → Does {A = Unit {0}} (Err x) o v → Does {A = Unit {0}} (Err x) (and_then o go_on) w
then_stops x o go_on v w (inl m) = inl m
then_stops x o go_on v w (inr f) = inr (ap (λ z. and_then z go_on) f)

-- the reader of a way took something out of what it had
abbrev UpRead : ByteWorld → ByteWorld → Type 0
UpRead w v = v ≡ record w { up = record { buffer = v.up.buffer; stream = w.up.stream } }

abbrev DownRead : ByteWorld → ByteWorld → Type 0
DownRead w v = v ≡ record w { down = record { buffer = v.down.buffer; stream = w.down.stream } }

up_taken : (w v : ByteWorld) (p : Packet) → UpRead w v → Decodes (Ok (Some p)) None w.up.buffer v.up.buffer → drain_up w ≡ and_then (arrived v (Ok p)) (go_up (frames None v.up.buffer))
up_taken w v p same d =
    ap (λ fs. go_up fs w) (frames_whole None w.up.buffer d.0 v.up.buffer d.1)
    ∙ ap (λ r. and_then (arrived (record w { up = record { buffer = v.up.buffer; stream = w.up.stream } }) r) (go_up (frames None v.up.buffer))) (taken_packet None w.up.buffer d.0 v.up.buffer p d.1 d.2)
    ∙ ap (λ z. and_then (arrived z (Ok p)) (go_up (frames None v.up.buffer))) (sym same)

pub up_on : (start : Outcome) (w v u : ByteWorld) (p : Packet) → drain_up w ≡ start → UpRead w v → Decodes (Ok (Some p)) None w.up.buffer v.up.buffer → arrived v (Ok p) ≡ Ok u → u.up ≡ v.up → drain_up u ≡ start
up_on start w v u p inv same d e is =
    ap (λ (z : Way). go_up (frames None z.buffer) u) is ∙ sym (ap (λ o. and_then o (go_up (frames None v.up.buffer))) e) ∙ sym (up_taken w v p same d) ∙ inv

pub up_stops : (start : Outcome) (w v u t : ByteWorld) (p : Packet) (x : StateError) → drain_up w ≡ start → UpRead w v → Decodes (Ok (Some p)) None w.up.buffer v.up.buffer → Does {A = Unit {0}} (Err x) (arrived v (Ok p)) u → Does {A = Unit {0}} (Err x) start t
up_stops start w v u t p x inv same d f =
    subst (λ o. Does {A = Unit {0}} (Err x) o t) (sym (up_taken w v p same d) ∙ inv) (then_stops x (arrived v (Ok p)) (go_up (frames None v.up.buffer)) u t f)

pub up_waits : (start : Outcome) (w v : ByteWorld) → drain_up w ≡ start → UpRead w v → Decodes (Ok None) None w.up.buffer v.up.buffer → start ≡ Ok v
up_waits start w v inv same d =
    sym inv ∙ ap (λ fs. go_up fs w) (frames_more None w.up.buffer d.0.0 d.0.1)
    ∙ ap (λ z. Ok z) (sym (same ∙ ap (λ z. record w { up = record { buffer = z; stream = w.up.stream } }) d.1))

pub up_fails : (start : Outcome) (w u : ByteWorld) (left : List ℕ) (e : Error) → drain_up w ≡ start → Decodes (Err e) None w.up.buffer left → Does {A = Unit {0}} (Err (state_error e)) start u
up_fails start w u left e inv (inl (inl h)) =
    inr (sym inv ∙ ap (λ fs. go_up fs w) (frames_whole None w.up.buffer h.0 left h.1)
    ∙ ap (λ r. and_then (arrived (record w { up = record { buffer = left; stream = w.up.stream } }) r) (go_up (frames None left))) (taken_fault None w.up.buffer h.0 left e h.1 h.2))
up_fails start w u left e inv (inl (inr h)) = inl (ap state_error h.0)
up_fails start w u left e inv (inr h) = inr (sym inv ∙ ap (λ fs. go_up fs w) (frames_bad None w.up.buffer e h.0))

module _ (codec : Codec) where
  down_taken : (w v : ByteWorld) (p : Packet) → DownRead w v → Decodes (Ok (Some p)) codec.max_incoming_size w.down.buffer v.down.buffer → drain_down codec w ≡ and_then (returned codec v (Ok p)) (come_down codec (frames codec.max_incoming_size v.down.buffer))
  down_taken w v p same d =
      ap (λ fs. come_down codec fs w) (frames_whole codec.max_incoming_size w.down.buffer d.0 v.down.buffer d.1)
      ∙ ap (λ r. and_then (returned codec (record w { down = record { buffer = v.down.buffer; stream = w.down.stream } }) r) (come_down codec (frames codec.max_incoming_size v.down.buffer))) (taken_packet codec.max_incoming_size w.down.buffer d.0 v.down.buffer p d.1 d.2)
      ∙ ap (λ z. and_then (returned codec z (Ok p)) (come_down codec (frames codec.max_incoming_size v.down.buffer))) (sym same)

  pub down_on : (start : Outcome) (w v u : ByteWorld) (p : Packet) → drain_down codec w ≡ start → DownRead w v → Decodes (Ok (Some p)) codec.max_incoming_size w.down.buffer v.down.buffer → returned codec v (Ok p) ≡ Ok u → u.down ≡ v.down → drain_down codec u ≡ start
  down_on start w v u p inv same d e is =
      ap (λ (z : Way). come_down codec (frames codec.max_incoming_size z.buffer) u) is ∙ sym (ap (λ o. and_then o (come_down codec (frames codec.max_incoming_size v.down.buffer))) e) ∙ sym (down_taken w v p same d) ∙ inv

  pub down_stops : (start : Outcome) (w v u t : ByteWorld) (p : Packet) (x : StateError) → drain_down codec w ≡ start → DownRead w v → Decodes (Ok (Some p)) codec.max_incoming_size w.down.buffer v.down.buffer → Does {A = Unit {0}} (Err x) (returned codec v (Ok p)) u → Does {A = Unit {0}} (Err x) start t
  down_stops start w v u t p x inv same d f =
      subst (λ o. Does {A = Unit {0}} (Err x) o t) (sym (down_taken w v p same d) ∙ inv) (then_stops x (returned codec v (Ok p)) (come_down codec (frames codec.max_incoming_size v.down.buffer)) u t f)

  pub down_waits : (start : Outcome) (w v : ByteWorld) → drain_down codec w ≡ start → DownRead w v → Decodes (Ok None) codec.max_incoming_size w.down.buffer v.down.buffer → start ≡ Ok v
  down_waits start w v inv same d =
      sym inv ∙ ap (λ fs. come_down codec fs w) (frames_more codec.max_incoming_size w.down.buffer d.0.0 d.0.1)
      ∙ ap (λ z. Ok z) (sym (same ∙ ap (λ z. record w { down = record { buffer = z; stream = w.down.stream } }) d.1))

  pub down_fails : (start : Outcome) (w u : ByteWorld) (left : List ℕ) (e : Error) → drain_down codec w ≡ start → Decodes (Err e) codec.max_incoming_size w.down.buffer left → Does {A = Unit {0}} (Err (state_error e)) start u
  down_fails start w u left e inv (inl (inl h)) =
      inr (sym inv ∙ ap (λ fs. come_down codec fs w) (frames_whole codec.max_incoming_size w.down.buffer h.0 left h.1)
      ∙ ap (λ r. and_then (returned codec (record w { down = record { buffer = left; stream = w.down.stream } }) r) (come_down codec (frames codec.max_incoming_size left))) (taken_fault codec.max_incoming_size w.down.buffer h.0 left e h.1 h.2))
  down_fails start w u left e inv (inl (inr h)) = inl (ap state_error h.0)
  down_fails start w u left e inv (inr h) = inr (sym inv ∙ ap (λ fs. come_down codec fs w) (frames_bad codec.max_incoming_size w.down.buffer e h.0))

-- ---- a report

abbrev pub IsReportOf : Codec → ℕ → List ByteEvent → Report → Type 0
IsReportOf codec limit es r = (w : ByteWorld) × (run_bytes codec es (start_bytes limit) ≡ Ok w) × IsByteReport r w

pub reported : (codec : Codec) (limit : ℕ) (es : List ByteEvent) (r : Report) (old w : ByteWorld) → old ≡ start_bytes limit → run_bytes codec es old ≡ Ok w → IsByteReport r w → IsReportOf codec limit es r
reported codec limit es r old w same run is = (w, subst (λ z. run_bytes codec es z ≡ Ok w) same run, is)

module _ (codec : Codec) (limit : ℕ) (small : limit < 65536) (es : List ByteEvent) (typed : Every IsTypedEvent es) where
  module _ (r : Report) (is : IsReportOf codec limit es r) (c : Publish) where
    its : Counts c (byte_losses es) is.0
    its = counts codec limit small es is.0 c typed is.1

    pub report_most : c.qos ≢ AtLeastOnce → times c r.handed.items ≤ times c (norms r.accepted.items)
    report_most ne = rw (is.2.handed, is.2.accepted) (its.at_most_once ne)

    pub report_least : c.qos ≢ AtMostOnce → times c (norms r.accepted.items) ≤ times c r.handed.items + times c (norms (stored_in r.state.core)) + times c (norms (waiting_in r.state.core))
    report_least ne = rw (is.2.handed, is.2.accepted, is.2.state) (its.at_least_once ne)

    pub report_losses : c.qos ≡ AtLeastOnce → times c r.handed.items ≤ (byte_losses es + 1) * times c (norms r.accepted.items)
    report_losses e = rw (is.2.handed, is.2.accepted) (its.for_each_loss e)

    pub report_once : c.qos ≡ ExactlyOnce → times c (norms (stored_in r.state.core)) ≡ 0 → times c (norms (waiting_in r.state.core)) ≡ 0 → times c r.handed.items ≡ times c (norms r.accepted.items)
    report_once e none_stored none_waiting =
        let most = report_most (λ f. let g : ExactlyOnce ≡ AtLeastOnce = sym e ∙ f in absurd cc) in
        let least = report_least (λ f. let g : ExactlyOnce ≡ AtMostOnce = sym e ∙ f in absurd cc) in
        omega (arith, most, least, none_stored, none_waiting)

  module _ (r : Report) (is : IsReportOf codec limit es r) (w : ByteWorld) (a : AllArrived codec limit es w) where
    of_it : IsByteReport r w
    of_it = subst (IsByteReport r) (ok_one is.0 w (sym is.1 ∙ a.reached)) is.2

    pub report_settled : IsIdle r.state.core
    report_settled = subst (λ (s : Session). IsIdle s.core) (sym of_it.state) (settled codec limit small es typed w a).core

    pub report_all_once : (c : Publish) → c.qos ≡ ExactlyOnce → times c r.handed.items ≡ times c (norms r.accepted.items)
    report_all_once c e = rw (of_it.handed, of_it.accepted) (all_once codec limit small es typed w a c e)

    pub report_all_least : (c : Publish) → c.qos ≡ AtLeastOnce → times c (norms r.accepted.items) ≤ times c r.handed.items
    report_all_least c e = rw (of_it.handed, of_it.accepted) (all_least codec limit small es typed w a c e)

  pub only_memory : (x : StateError) → (x ≡ errors.OutOfMemory) ⊎ (run_bytes codec es (start_bytes limit) ≡ Err x) → AdmitsAcks codec → AllWritable codec (all_taken_on codec es (start_bytes limit)) → x ≡ errors.OutOfMemory
  only_memory x (inl m) admits writable = m
  only_memory x (inr f) admits writable =
      let a = answers codec limit small es admits typed writable in
      let both : ◌≡◌ {A = Outcome} (Ok a.0) (Err x) = sym a.1 ∙ f in
      absurd cc
