-- What the codec and the session do with the front of a stream is what the run does.
use Rattle.std.specs.Prelude.{OnOk, IfErr}
use Rattle.std.proofs.Common.{◌≡◌, ℕ, List, [], ◌∷◌, ◌++◌, Option, Some, None, Result, Ok, Err, refl, sym, ap, ◌∙◌, inl, inr}
use Rattle.mqtt5_base.specs.Front.{Bad, More, Whole, NeedsMore}
use Rattle.mqtt5_base.specs.FrontAt.{front}
use Rattle.mqtt5_base.specs.declared.error.Error.{Error}
use Rattle.mqtt5_codec.specs.declared.codec.Codec.{Codec}
use Rattle.mqtt5_codec.specs.declared.packet.Packet.{Packet}
use Rattle.mqtt5_codec.specs.Packets.{IsFrameOf, IsFaultOf}
use Rattle.mqtt5_codec.specs.PacketsIn.{packet_in}
use Rattle.mqtt5_codec.specs.Codecs.{Decodes}
use Rattle.mqtt5_codec.specs.Laws.{IsFrames}
use Rattle.mqtt5_inflight.specs.Errors.{state_error}
use Rattle.mqtt5_inflight.specs.declared.error.StateError.{StateError}
use Rattle.mqtt5_inflight.specs.declared.event.Request.{Request}
use Rattle.mqtt5_session.specs.Session.{Session}
use Rattle.mqtt5_session.specs.Requests.{on_request}
use Rattle.mqtt5_session.specs.Packets.{on_packet}
use Rattle.mqtt5_drive.specs.Ways.{LeadsTo, Goes, Drained}
use Rattle.mqtt5_drive.specs.Trace.{Trace, finish, Stops, Holds}
use Rattle.mqtt5_drive.specs.Run.{Turn, Ask, byte_turns, on_answer, on_frame, run}
use Rattle.mqtt5_drive.proofs.Settles.{Fronts, from_start, regroup}
use Rattle.mqtt5_drive.proofs.Ways.{leads_same, leads_on, stops_on, passes_here}

module _ (fronts : Fronts) (frames : IsFrames) where
  -- the packet of the frame that was taken out is what reading answers
  taken_packet : (limit : Option ℕ) (s frame new : List ℕ) (p : Packet) → front limit s ≡ Whole frame new → IsFrameOf frame p → packet_in frame ≡ Ok p
  taken_packet limit s frame new p h is = let w = (fronts.stays limit).shape s frame new h in ((frames.reads frame w.0 w.1 w.2).value p).1 is

  -- and so is its fault
  taken_fault : (limit : Option ℕ) (s frame new : List ℕ) (e : Error) → front limit s ≡ Whole frame new → IsFaultOf frame e → packet_in frame ≡ Err e
  taken_fault limit s frame new e h is = let w = (fronts.stays limit).shape s frame new h in ((frames.reads frame w.0 w.1 w.2).fault e).1 is

  -- a whole frame with a packet is one step of the session
  pub took : (codec : Codec) (at : ℕ) (rest : List Turn) (s : Session) (stream frame left : List ℕ) (m : Packet) → front codec.max_incoming_size stream ≡ Whole frame left → IsFrameOf frame m
      → run codec (byte_turns at stream ++ rest) s [] ≡ on_answer codec (on_packet s m at) (λ t. run codec (byte_turns at left ++ rest) t [])
  took codec at rest s stream frame left m whole is =
      from_start fronts codec at rest s stream (Whole frame left) whole
      ∙ ap (λ (x : Result Packet Error). on_frame codec at s x (λ t. run codec (byte_turns at left ++ rest) t [])) (taken_packet codec.max_incoming_size stream frame left m whole is)

  pub takes : (codec : Codec) (at : ℕ) (s0 : Session) (o0 h0 : List ℕ) (s : Session) (o stream left : List ℕ) (p : Packet) (t : Session) (u : List ℕ)
      → Drained codec at s0 o0 h0 s o stream → Decodes (Ok (Some p)) codec.max_incoming_size stream left
      → ((goes_on : Session → Trace) → LeadsTo s o (on_answer codec (on_packet s p at) goes_on) t u (goes_on t))
      → Drained codec at s0 o0 h0 t u left
  takes codec at s0 o0 h0 s o stream left p t u drained decoded goes = λ rest.
      leads_on (drained rest) (leads_on (leads_same s o _ _ (took codec at rest s stream decoded.0 left p decoded.1 decoded.2)) (goes (λ t. run codec (byte_turns at left ++ rest) t [])))

  pub stops_at : (codec : Codec) (at : ℕ) (s0 : Session) (o0 h0 : List ℕ) (s : Session) (o stream left : List ℕ) (p : Packet) (e : StateError) (t : Session) (u : List ℕ)
      → Drained codec at s0 o0 h0 s o stream → Decodes (Ok (Some p)) codec.max_incoming_size stream left
      → ((goes_on : Session → Trace) → Stops e s o (on_answer codec (on_packet s p at) goes_on) t u)
      → (rest : List Turn) → Stops e s0 o0 (run codec (byte_turns at h0 ++ rest) s0 []) t u
  stops_at codec at s0 o0 h0 s o stream left p e t u drained decoded stops rest =
      stops_on e (drained rest) (stops_on e (leads_same s o _ _ (took codec at rest s stream decoded.0 left p decoded.1 decoded.2)) (stops (λ t. run codec (byte_turns at left ++ rest) t [])))

  -- what more is wanted of is held
  pub waits : (codec : Codec) (at : ℕ) (s0 : Session) (o0 h0 : List ℕ) (s : Session) (o stream left : List ℕ)
      → Drained codec at s0 o0 h0 s o stream → Decodes (Ok None) codec.max_incoming_size stream left
      → (rest : List Turn) → LeadsTo s0 o0 (run codec (byte_turns at h0 ++ rest) s0 []) s o (run codec rest s left)
  waits codec at s0 o0 h0 s o stream left drained decoded rest =
      leads_on (drained rest) (leads_same s o _ _ (from_start fronts codec at rest s stream (More decoded.0.0) decoded.0.1 ∙ ap (run codec rest s) (sym decoded.1)))

  -- a fault of the codec ends the run
  pub faults_at : (codec : Codec) (at : ℕ) (s : Session) (o stream left : List ℕ) (e : Error) → Decodes (Err e) codec.max_incoming_size stream left
      → (rest : List Turn) → Stops (state_error e) s o (run codec (byte_turns at stream ++ rest) s []) s o
  faults_at codec at s o stream left e (inl (inl h)) rest =
      inr (ap (finish s o) (from_start fronts codec at rest s stream (Whole h.0 left) h.1
      ∙ ap (λ (x : Result Packet Error). on_frame codec at s x (λ t. run codec (byte_turns at left ++ rest) t [])) (taken_fault codec.max_incoming_size stream h.0 left e h.1 h.2)))
  faults_at codec at s o stream left e (inl (inr h)) rest = inl (ap state_error h.0, passes_here s o _)
  faults_at codec at s o stream left e (inr h) rest = inr (ap (finish s o) (from_start fronts codec at rest s stream (Bad e) h.0))

  pub ends_at : (codec : Codec) (at : ℕ) (s0 : Session) (o0 h0 : List ℕ) (s : Session) (o stream left : List ℕ) (e : Error)
      → Drained codec at s0 o0 h0 s o stream → Decodes (Err e) codec.max_incoming_size stream left
      → (rest : List Turn) → Stops (state_error e) s0 o0 (run codec (byte_turns at h0 ++ rest) s0 []) s o
  ends_at codec at s0 o0 h0 s o stream left e drained decoded rest =
      stops_on (state_error e) (drained rest) (faults_at codec at s o stream left e decoded rest)

module _ (fronts : Fronts) where
  -- a piece behind a stream that wants more
  pub extends : (codec : Codec) (at : ℕ) (rest : List Turn) (s : Session) (held bytes stream : List ℕ) → NeedsMore (front codec.max_incoming_size held) → stream ≡ held ++ bytes
      → run codec (byte_turns at bytes ++ rest) s held ≡ run codec (byte_turns at stream ++ rest) s []
  extends codec at rest s held bytes stream more is = rw is (regroup fronts codec at rest s bytes held more.0 more.1)

  -- a stream that still wants more is held
  pub holds : (codec : Codec) (at : ℕ) (rest : List Turn) (s : Session) (o stream : List ℕ) → NeedsMore (front codec.max_incoming_size stream)
      → LeadsTo s o (run codec (byte_turns at stream ++ rest) s []) s o (run codec rest s stream)
  holds codec at rest s o stream still = leads_same s o _ _ (from_start fronts codec at rest s stream (More still.0) still.1)

-- a request is one step of the session
pub asks : (codec : Codec) (at : ℕ) (rest : List Turn) (s : Session) (held : List ℕ) (request : Request)
    → run codec (Ask at request ∷ rest) s held ≡ on_answer codec (on_request s request at) (λ t. run codec rest t held)
unfolding run
asks codec at rest s held request = refl

-- the end of the steps
pub ended : (codec : Codec) (s : Session) (o : List ℕ) (c : Trace) (t : Session) (u held : List ℕ) → LeadsTo s o c t u (run codec [] t held) → finish s o c ≡ record { session = t; output = u; ending = Holds held }
unfolding run
ended codec s o c t u held p = p.ends

pub asked_ok : (r : Result Unit StateError) (codec : Codec) (at : ℕ) (s : Session) (o held : List ℕ) (request : Request) (t : Session) (u : List ℕ) → Goes r codec (on_request s request at) s o t u
    → OnOk r ((rest : List Turn) → LeadsTo s o (run codec (Ask at request ∷ rest) s held) t u (run codec rest t held))
asked_ok (Ok x) codec at s o held request t u goes = λ rest. leads_on (leads_same s o _ _ (asks codec at rest s held request)) (goes (λ v. run codec rest v held))
asked_ok (Err e) codec at s o held request t u goes = tt

pub asked_err : (r : Result Unit StateError) (codec : Codec) (at : ℕ) (s : Session) (o held : List ℕ) (request : Request) (t : Session) (u : List ℕ) → Goes r codec (on_request s request at) s o t u
    → IfErr r (λ e. (rest : List Turn) → Stops e s o (run codec (Ask at request ∷ rest) s held) t u)
asked_err (Ok x) codec at s o held request t u goes = tt
asked_err (Err e) codec at s o held request t u goes = λ rest. stops_on e (leads_same s o _ _ (asks codec at rest s held request)) (goes (λ v. run codec rest v held))

-- bytes that came stand behind those that were held: what is taken is the run over them
module _ (fronts : Fronts) (codec : Codec) (at : ℕ) (s : Session) (o stream : List ℕ) (t : Session) (u left held came : List ℕ) (is : stream ≡ held ++ came) (more : NeedsMore (front codec.max_incoming_size held)) where
  pub came_ok : ((rest : List Turn) → LeadsTo s o (run codec (byte_turns at stream ++ rest) s []) t u (run codec rest t left))
      → finish s o (run codec (byte_turns at came ++ []) s held) ≡ record { session = t; output = u; ending = Holds left }
  came_ok leads = ended codec s o _ t u left (leads_on (leads_same s o _ _ (extends fronts codec at [] s held came stream more is)) (leads []))

  pub came_stops : (e : StateError) → ((rest : List Turn) → Stops e s o (run codec (byte_turns at stream ++ rest) s []) t u)
      → Stops e s o (run codec (byte_turns at came ++ []) s held) t u
  came_stops e stops = stops_on e (leads_same s o _ _ (extends fronts codec at [] s held came stream more is)) (stops [])
