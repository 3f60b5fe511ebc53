-- Who is asked before the answer, and then taken, is taken as one who wasn't.
use Rattle.std.proofs.Common.{◌≡◌, ◌<◌, ℕ, zero, suc, Bool, true, false, ◌&&◌, List, [], ◌∷◌, ◌++◌, Option, Some, None, Result, Ok, Err, refl, sym, ap, ◌∙◌, ◌⊎◌, inl, inr, length, set, get_or-set_same, if◌then◌else◌}
use Rattle.std.specs.Prelude.{is_none}
use Rattle.std.proofs.lemmas.List.{append-nil, set-get_or}
use Rattle.mqtt5_base.specs.Front.{Front, Bad, More, Whole, IsFound, IsFront}
use Rattle.mqtt5_base.specs.FrontAt.{front}
use Rattle.mqtt5_base.specs.declared.error.Error.{Error}
use Rattle.mqtt5_base.specs.declared.error.Error.TheVariants.{OutOfMemory}
use Rattle.mqtt5_control.specs.declared.connack.ConnectReturnCode.{ConnectReturnCode}
use Rattle.mqtt5_control.specs.declared.disconnect.DisconnectReasonCode.{DisconnectReasonCode}
use Rattle.mqtt5_codec.specs.declared.packet.Packet.{Packet}
use Rattle.mqtt5_codec.specs.declared.packet.Packet.TheVariants as packets
use Rattle.mqtt5_codec.specs.PacketsIn.{packet_in}
use Rattle.mqtt5_codec.specs.Codecs.{Decodes}
use Rattle.mqtt5_codec.specs.Laws.{IsFrames}
use Rattle.mqtt5_broker.specs.declared.asking.Asks.TheVariants as asks
use Rattle.mqtt5_broker.specs.Cut.{Cut, Ending, Holds, Breaks, with_packet, on_frame, cut_up}
use Rattle.mqtt5_broker.specs.Connection.{Connection, closed, shut, heard, of_user, emptied, holding, connection_at, with_connection}
use Rattle.mqtt5_broker.specs.Broker.{Broker, at_moment, on_connection, dismisses, dismisses_of}
use Rattle.mqtt5_broker.specs.Serving.{begins_with, takes_of, takes}
use Rattle.mqtt5_broker.specs.Receiving.{reason_for, ends_with, comes_of, receives_now, receives}
use Rattle.mqtt5_broker.specs.Standing.{IsStanding, client_at}
use Rattle.mqtt5_broker.specs.Asking.{kept_on, holds, is_new, sent_by, first_by, asks_of, asks_at, identifies, rejects}
use Rattle.mqtt5_broker.proofs.Cutting.{outcome, from_start}
use Rattle.mqtt5_broker.proofs.Pieces.{closed_takes, closed_all, closed_ends, closed_receives, open_receives, open_within, holding_closed, holding_open, set_twice, shut_at_self}
use Rattle.mqtt5_broker.specs.Reasons.{refusal}
use Rattle.mqtt5_broker.proofs.Standing.{on_less, if_standing, turns_standing}

-- ---- the first packet of a stream

module _ (limit : Option ℕ) (stays : IsFront (front limit)) (frames : IsFrames) (held stream left : List ℕ) (copied : stream ≡ held) where
  as_held : first_by (front limit stream) ≡ first_by (front limit held)
  as_held = ap (λ (s : List ℕ). first_by (front limit s)) copied

  pub by_packet : (p : Packet) → Decodes (Ok (Some p)) limit stream left → sent_by (Ok p) ≡ first_by (front limit held)
  by_packet p h =
      let w = stays.shape stream h.0 left h.1 in
      sym (ap first_by h.1 ∙ ap sent_by (((frames.reads h.0 w.0 w.1 w.2).value p).1 h.2)) ∙ as_held

  pub by_fault : (e : Error) → Decodes (Err e) limit stream left → (e ≡ OutOfMemory) ⊎ (first_by (front limit held) ≡ asks.Nobody)
  by_fault e (inl (inl h)) =
      let w = stays.shape stream h.0 left h.1 in
      inr (sym as_held ∙ ap first_by h.1 ∙ ap sent_by (((frames.reads h.0 w.0 w.1 w.2).fault e).1 h.2))
  by_fault e (inl (inr h)) = inl h.0
  by_fault e (inr h) = inr (sym as_held ∙ ap first_by h.0)

-- ---- bytes that are held first

module _ (c : ℕ) (bytes : List ℕ) (b : Broker) where
  taken_open : (connection_at c b.connections).is_open ≡ true → receives_now c [] (holds c bytes b) ≡ receives_now c bytes b
  taken_open e =
      let l : Connection = connection_at c b.connections in
      let m : Connection = connection_at c (holds c bytes b).connections in
      let within : c < length b.connections = open_within c b.connections e in
      let there : m ≡ record l { held = l.held ++ bytes } =
      get_or-set_same b.connections c (kept_on bytes l) closed within ∙ holding_open (l.held ++ bytes) l e in
      let is_open : m.is_open ≡ true = ap (λ (x : Connection). x.is_open) there ∙ e in
      let is_held : m.held ++ [] ≡ l.held ++ bytes = append-nil m.held ∙ ap (λ (x : Connection). x.held) there in
      let back : set (set b.connections c (kept_on bytes l)) c (emptied m) ≡ set b.connections c (emptied l) =
      set_twice b.connections c (kept_on bytes l) (emptied m) ∙ ap (λ (x : Connection). set b.connections c (emptied x)) there in
      open_receives c [] (holds c bytes b) is_open
      ∙ ap (λ (h : List ℕ). comes_of c (cut_up (Some b.longest) h []) (on_connection c emptied (holds c bytes b))) is_held
      ∙ ap (λ (ls : List Connection). comes_of c (cut_up (Some b.longest) (l.held ++ bytes) []) (record b { connections = ls })) back
      ∙ sym (open_receives c bytes b e)

  holds_closed : (connection_at c b.connections).is_open ≡ false → holds c bytes b ≡ b
  holds_closed e =
      let l : Connection = connection_at c b.connections in
      let same : set b.connections c (kept_on bytes l) ≡ b.connections =
      ap (set b.connections c) (holding_closed (l.held ++ bytes) l e) ∙ set-get_or b.connections c closed in
      ap (λ (ls : List Connection). record b { connections = ls }) same

  taken_closed : (connection_at c b.connections).is_open ≡ false → receives_now c [] (holds c bytes b) ≡ receives_now c bytes b
  taken_closed e = ap (receives_now c []) (holds_closed e) ∙ closed_receives c [] b e ∙ sym (closed_receives c bytes b e)

  taken_by : (v : Bool) → (connection_at c b.connections).is_open ≡ v → receives_now c [] (holds c bytes b) ≡ receives_now c bytes b
  taken_by true e = taken_open e
  taken_by false e = taken_closed e

pub held_taken : (at c : ℕ) (bytes : List ℕ) (b : Broker) → receives at c [] (holds c bytes b) ≡ receives at c bytes b
held_taken at c bytes b = taken_by c bytes (at_moment at b) (connection_at c b.connections).is_open refl

-- ---- nobody

-- a connection that has ended is no client's
shut_client : (c : ℕ) (f : Connection → Connection) (ls : List Connection) → ((l : Connection) → (f l).client ≡ None) → client_at c (with_connection c f ls) ≡ None
shut_client c f [] h = refl
shut_client zero f (x ∷ xs) h = h x
shut_client (suc c) f (x ∷ xs) h = shut_client c f xs h

of_none : (o : Option ℕ) (c : ℕ) (reason : DisconnectReasonCode) (b : Broker) → o ≡ None → client_at c (dismisses_of o c reason b).connections ≡ None
of_none None c reason b e = shut_client c shut b.connections (λ l. refl)
of_none (Some i) c reason b e = absurd (cc e)

if_client : (v : Bool) (c : ℕ) (x y : Broker) → client_at c x.connections ≡ None → client_at c y.connections ≡ None → client_at c (if v then x else y).connections ≡ None
if_client true c x y e f = e
if_client false c x y e f = f

dismissed_client : (c : ℕ) (reason : DisconnectReasonCode) (b : Broker) → client_at c b.connections ≡ None → client_at c (dismisses c reason b).connections ≡ None
unfolding dismisses
dismissed_client c reason b e = if_client (connection_at c b.connections).is_open c _ b (of_none (connection_at c b.connections).client c reason b e) e

-- the client of the connection stays where a change lets it
same_client : (c : ℕ) (f : Connection → Connection) (ls : List Connection) → ((l : Connection) → (f l).client ≡ l.client) → client_at c (with_connection c f ls) ≡ client_at c ls
same_client c f [] h = refl
same_client zero f (x ∷ xs) h = h x
same_client (suc c) f (x ∷ xs) h = same_client c f xs h

holding_client : (v : Bool) (bytes : List ℕ) (l : Connection) → (if v then record l { held = bytes } else l).client ≡ l.client
holding_client true bytes l = refl
holding_client false bytes l = refl

ends_client : (c : ℕ) (ending : Ending) (b : Broker) → client_at c b.connections ≡ None → client_at c (ends_with c ending b).connections ≡ None
ends_client c (Holds held) b e = same_client c (holding held) b.connections (λ l. holding_client l.is_open held l) ∙ e
ends_client c (Breaks fault) b e = dismissed_client c (reason_for fault) b e

-- the first packet is no Connect: nothing more is taken
begins_shut : (c : ℕ) (p : Packet) (b : Broker) → sent_by (Ok p) ≡ asks.Nobody → begins_with c p b ≡ on_connection c shut b
begins_shut c (packets.Connect k will None) b h = absurd (cc h)
begins_shut c (packets.Connect k will (Some login)) b h = absurd (cc h)
begins_shut c other b h = refl

of_shut : (o : Option ℕ) (c : ℕ) (p : Packet) (b : Broker) → o ≡ None → sent_by (Ok p) ≡ asks.Nobody → takes_of o c p b ≡ on_connection c shut b
of_shut None c p b e h = begins_shut c p b h
of_shut (Some i) c p b e h = absurd (cc e)

module _ (c : ℕ) (p : Packet) (b : Broker) (none : client_at c b.connections ≡ None) (h : sent_by (Ok p) ≡ asks.Nobody) where
  abbrev heard_now : Broker
  heard_now = on_connection c (heard b.moment) b

  takes_open : (connection_at c b.connections).is_open ≡ true → takes c p b ≡ on_connection c shut heard_now
  unfolding takes
  takes_open e =
      ap (λ (v : Bool). if v then takes_of (connection_at c b.connections).client c p heard_now else b) e
      ∙ of_shut (connection_at c b.connections).client c p heard_now none h

  -- so it isn't open then, and no client's
  taken_shut : (v : Bool) → (connection_at c b.connections).is_open ≡ v → ((connection_at c (takes c p b).connections).is_open ≡ false) × (client_at c (takes c p b).connections ≡ None)
  taken_shut true e =
      let same = takes_open e in (
        ap (λ (x : Broker). (connection_at c x.connections).is_open) same ∙ shut_at_self c shut heard_now.connections (λ l. refl),
        ap (λ (x : Broker). client_at c x.connections) same ∙ shut_client c shut heard_now.connections (λ l. refl),
      )
  taken_shut false e =
      let same = closed_takes c p b e in (
        ap (λ (x : Broker). (connection_at c x.connections).is_open) same ∙ e,
        ap (λ (x : Broker). client_at c x.connections) same ∙ none,
      )

  -- whatever comes behind it
  rest_none : (rest : Cut) → client_at c (comes_of c (with_packet p rest) b).connections ≡ None
  rest_none rest =
      let t = taken_shut (connection_at c b.connections).is_open refl in
      ap (λ (x : Broker). client_at c (ends_with c rest.ending x).connections) (closed_all c rest.packets (takes c p b) t.0)
      ∙ ap (λ (x : Broker). client_at c x.connections) (closed_ends c rest.ending (takes c p b) t.0)
      ∙ t.1

module _ (n : ℕ) (found : IsFound (Some n) (front (Some n))) (stays : IsFront (front (Some n))) (c : ℕ) (b : Broker) (none : client_at c b.connections ≡ None) where
  on_frame_none : (r : Result Packet Error) (rest : Cut) → sent_by r ≡ asks.Nobody → client_at c (comes_of c (on_frame r rest) b).connections ≡ None
  on_frame_none (Ok p) rest h = rest_none c p b none h rest
  on_frame_none (Err e) rest h = ends_client c (Breaks e) b none

  by_front : (stream : List ℕ) (f : Front) → first_by f ≡ asks.Nobody → client_at c (comes_of c (outcome (Some n) stream f) b).connections ≡ None
  by_front stream (Bad e) h = ends_client c (Breaks e) b none
  by_front stream (More m) h = ends_client c (Holds stream) b none
  by_front stream (Whole frame left) h = on_frame_none (packet_in frame) (cut_up (Some n) left []) h

  stream_none : (stream : List ℕ) → first_by (front (Some n) stream) ≡ asks.Nobody → client_at c (comes_of c (cut_up (Some n) stream []) b).connections ≡ None
  stream_none stream h =
      ap (λ (r : Cut). client_at c (comes_of c r b).connections) (from_start (Some n) found stays stream (front (Some n) stream) refl)
      ∙ by_front stream (front (Some n) stream) h

module _ (c : ℕ) (b : Broker) (found : IsFound (Some b.longest) (front (Some b.longest))) (stays : IsFront (front (Some b.longest))) (none : client_at c b.connections ≡ None) where
  -- who has no client and is open is asked
  asked_first : (connection_at c b.connections).is_open ≡ true → asks_at c b ≡ asks.Nobody → first_by (front (Some b.longest) (connection_at c b.connections).held) ≡ asks.Nobody
  unfolding asks_of
  asked_first e h =
      let l : Connection = connection_at c b.connections in
      sym (ap (λ (v : Bool). if v && is_none l.client then first_by (front (Some b.longest) l.held) else asks.Nobody) e
      ∙ ap (λ (o : Option ℕ). if is_none o then first_by (front (Some b.longest) l.held) else asks.Nobody) none)
      ∙ h

  nobody_by : (v : Bool) → (connection_at c b.connections).is_open ≡ v → asks_at c b ≡ asks.Nobody → client_at c (receives_now c [] b).connections ≡ None
  nobody_by true e h =
      let l : Connection = connection_at c b.connections in
      let empty : Broker = on_connection c emptied b in
      ap (λ (x : Broker). client_at c x.connections) (open_receives c [] b e)
      ∙ ap (λ (s : List ℕ). client_at c (comes_of c (cut_up (Some b.longest) s []) empty).connections) (append-nil l.held)
      ∙ stream_none b.longest found stays c empty (same_client c emptied b.connections (λ l. refl) ∙ none) l.held (asked_first e h)
  nobody_by false e h = ap (λ (x : Broker). client_at c x.connections) (closed_receives c [] b e) ∙ none

pub nobody_connects : (found : (limit : Option ℕ) → IsFound limit (front limit)) (stays : (limit : Option ℕ) → IsFront (front limit)) (at c : ℕ) (b : Broker) → client_at c b.connections ≡ None → asks_at c b ≡ asks.Nobody
    → client_at c (receives at c [] b).connections ≡ None
nobody_connects found stays at c b none h =
    nobody_by c (at_moment at b) (found (Some b.longest)) (stays (Some b.longest)) none (connection_at c b.connections).is_open refl h

-- ---- the connections

pub holds_standing : (c : ℕ) (bytes : List ℕ) (b : Broker) → IsStanding b → IsStanding (holds c bytes b)
holds_standing c bytes b s = on_less c (kept_on bytes) b (λ l i h. sym (holding_client l.is_open (l.held ++ bytes) l) ∙ h) s

pub identifies_standing : (c u : ℕ) (b : Broker) → IsStanding b → IsStanding (identifies c u b)
identifies_standing c u b s = if_standing (is_new (connection_at c b.connections)) _ _ (on_less c (of_user u) b (λ l i h. h) s) s

pub rejects_standing : (c : ℕ) (code : ConnectReturnCode) (b : Broker) → IsStanding b → IsStanding (rejects c code b)
rejects_standing c code b s = if_standing (is_new (connection_at c b.connections)) _ _ (turns_standing c (refusal code) b s) s
