-- Requests that are sent again where they fit, one after the other; and a session that hears what it may do.
use Rattle.std.proofs.Common.{◌≡◌, ℕ, List, [], ◌∷◌, ◌++◌, Option, Some, None, Result, Ok, Err, refl, sym, ap, subst, ◌∙◌, inl, inr, append_assoc, append-nil, drop, false, true, Bool, cond, map}
use Rattle.std.specs.List.{flat_map}
use Rattle.std.specs.Option.{option_to_list}
use Rattle.mqtt5_control.specs.declared.connack.ConnectReturnCode.TheVariants as return_codes
use Rattle.mqtt5_base.specs.declared.error.Error.{Error}
use Rattle.mqtt5_codec.specs.declared.packet.Packet.{Packet}
use Rattle.mqtt5_codec.specs.declared.packet.Packet.TheVariants as packets
use Rattle.mqtt5_publish.specs.declared.publish.Publish.{Publish}
use Rattle.mqtt5_codec.specs.declared.codec.Codec.{Codec}
use Rattle.mqtt5_codec.specs.Packets.{writing_under}
use Rattle.mqtt5_inflight.specs.declared.event.Request.{Request}
use Rattle.mqtt5_inflight.specs.declared.event.Request.TheVariants as requests
use Rattle.mqtt5_inflight.specs.declared.error.StateError.{StateError}
use Rattle.mqtt5_session.specs.Session.{Session, Answer, fresh}
use Rattle.mqtt5_session.specs.Requests.{on_request}
use Rattle.mqtt5_session.specs.Packets.{on_packet}
use Rattle.mqtt5_session.specs.Resuming.{on_clean, send_all, resume_of, with_reply, Sendings}
use Rattle.mqtt5_session.proofs.Exports.{sent_before}
use Rattle.mqtt5_drive.specs.Run.{reply_bytes}
use Rattle.mqtt5_client.specs.TakingUp.{is_writable, fitting, unfitting, unacked, fitting_of, ended}
use Rattle.mqtt5_client.specs.Again.{behind, frames_behind, frames_of}
use Rattle.mqtt5_client.specs.Resending.{all_fitting, NotResent, Stands, Adds, SendsFrame, allowed_by}

-- a packet goes behind those before it
reply_after : (ps : List Packet) (reply : Option Packet) (r : Sendings) → sent_before ps (with_reply (Ok reply) r) ≡ sent_before (ps ++ option_to_list reply) r
reply_after ps reply (Err e) = refl
reply_after ps reply (Ok r) = ap (λ (l : List Packet). Ok (l, r.1)) (sym (append_assoc ps (option_to_list reply) r.0))

-- none is left
none_left : (ps : List Packet) (t : Session) → ◌≡◌ {A = Sendings} (sent_before ps (Ok ([], t))) (Ok (ps, t))
none_left ps t = ap (λ (l : List Packet). Ok (l, t)) (append-nil ps)

-- ---- frames, one after the other

-- one goes behind those before it
abbrev then_one : Result (List ℕ) Error → Result (List ℕ) Error → Result (List ℕ) Error
then_one (Err e) value = Err e
then_one (Ok frames) value = behind frames value (λ (u : List ℕ). Ok u)

behind_then : (o : List ℕ) (value last : Result (List ℕ) Error) (f g : List ℕ → Result (List ℕ) Error) → ((u : List ℕ) → f u ≡ then_one (g u) last) → behind o value f ≡ then_one (behind o value g) last
behind_then o (Ok bytes) last f g h = h (o ++ bytes)
behind_then o (Err e) last f g h = refl

frames_then : (codec : Codec) (o : List ℕ) (ps : List Packet) (p : Packet) → frames_behind o codec (ps ++ p ∷ []) ≡ then_one (frames_behind o codec ps) (writing_under codec.max_outgoing_size p)
frames_then codec o [] p = refl
frames_then codec o (q ∷ ps) p =
    behind_then o (writing_under codec.max_outgoing_size q) (writing_under codec.max_outgoing_size p) (λ (u : List ℕ). frames_behind u codec (ps ++ p ∷ [])) (λ (u : List ℕ). frames_behind u codec ps)
    (λ u. frames_then codec u ps p)

then_none : (value : Result (List ℕ) Error) → value ≡ then_one value (Ok [])
then_none (Ok frames) = ap (λ (u : List ℕ). Ok u) (sym (append-nil frames))
then_none (Err e) = refl

frames_reply : (codec : Codec) (ps : List Packet) (reply : Option Packet) → frames_of codec (ps ++ option_to_list reply) ≡ then_one (frames_of codec ps) (reply_bytes codec reply)
frames_reply codec ps None = ap (frames_of codec) (append-nil ps) ∙ then_none (frames_of codec ps)
frames_reply codec ps (Some p) = frames_then codec [] ps p

stands_on : (fault kept : Option StateError) (old new : List ℕ) (before value : Result (List ℕ) Error) → Stands fault old before → Adds fault old value kept new → Stands kept new (then_one before value)
stands_on None None old new before value is more =
    ap (λ (v : Result (List ℕ) Error). then_one v value) is ∙ ap (λ (v : Result (List ℕ) Error). then_one (Ok old) v) more.1 ∙ ap (λ (u : List ℕ). Ok u) (sym more.2)
stands_on None (Some e) old new before value is (inl memory) = inl memory
stands_on None (Some e) old new before value is (inr h) =
    inr (h.0, ap (λ (v : Result (List ℕ) Error). then_one v value) is ∙ ap (λ (v : Result (List ℕ) Error). then_one (Ok old) v) h.1, h.2)
stands_on (Some e) kept old new before value is more = subst (λ (k : Option StateError). Stands k new (then_one before value)) (sym more) (by is)
  where
    by : Stands (Some e) old before → Stands (Some e) new (then_one before value)
    by (inl memory) = inl memory
    by (inr h) = inr (h.0, ap (λ (v : Result (List ℕ) Error). then_one v value) h.1, h.2)

-- ---- requests, one after the other

-- The whole is these packets and what is sent of the rest; the frames are theirs.
abbrev pub Resends : Sendings → Codec → List Request → Session → ℕ → Option StateError → List ℕ → Type 0
Resends whole codec rest s at fault frames = (ps : List Packet) × (whole ≡ sent_before ps (all_fitting codec rest s at)) × Stands fault frames (frames_of codec ps)

module _ (codec : Codec) (r : Request) (rest : List Request) (at : ℕ) (s t : Session) (fault kept : Option StateError) (old new : List ℕ) where
  -- one more is sent
  pub sends_on : (whole : Sendings) → SendsFrame (Ok tt) codec (on_request s (fitting codec r) at) fault old t kept new → Resends whole codec (r ∷ rest) s at fault old → Resends whole codec rest t at kept new
  sends_on whole one h = (
    h.0 ++ option_to_list one.0,
    h.1 ∙ ap (λ (a : Answer). sent_before h.0 (with_reply a.0 (all_fitting codec rest a.1 at))) one.1 ∙ reply_after h.0 one.0 (all_fitting codec rest t at),
    subst (Stands kept new) (sym (frames_reply codec h.0 one.0)) (stands_on fault kept old new (frames_of codec h.0) (reply_bytes codec one.0) h.2 one.2),
  )

-- one more is given back, if it doesn't fit
pub gives_on : (codec : Codec) (r : Request) (rest gs hs whole : List Request) → hs ≡ gs ++ unfitting codec r → gs ++ flat_map (unfitting codec) (r ∷ rest) ≡ whole → hs ++ flat_map (unfitting codec) rest ≡ whole
gives_on codec r rest gs hs whole one h =
    ap (λ (l : List Request). l ++ flat_map (unfitting codec) rest) one ∙ append_assoc gs (unfitting codec r) (flat_map (unfitting codec) rest) ∙ h

-- a frame can't be had
pub not_framed : (codec : Codec) (rs : List Request) (s t : Session) (at : ℕ) (frames : List ℕ) (e : StateError) → Resends (all_fitting codec rs s at) codec [] t at (Some e) frames → NotResent e codec rs s at
not_framed codec rs s t at frames e h = by h.2
  where
    by : Stands (Some e) frames (frames_of codec h.0) → NotResent e codec rs s at
    by (inl memory) = inl memory
    by (inr x) = inr (inr (h.0, t, h.1 ∙ none_left h.0 t, x))

-- ---- a new session that hears what it may do

abbrev allowing : Session → Packet
allowing s = packets.ConnAck (record { session_present = false; code = return_codes.Success; properties = Some (allowed_by s.core) })

pub hears_allowed : (s old mid new : Session) (at : ℕ) → old ≡ fresh s.core.limit s.core.manual_acks → mid ≡ (on_packet old (allowing s) at).1 → new ≡ record mid { events = drop 1 mid.events } → new ≡ ended s at
unfolding on_packet
hears_allowed s old mid new at start heard popped =
    popped
    ∙ ap (λ (m : Session). record m { events = drop 1 m.events }) heard
    ∙ ap (λ (o : Session). record (on_packet o (allowing s) at).1 { events = drop 1 (on_packet o (allowing s) at).1.events }) start

-- ---- where all fits

abbrev IsNil : List Request → Type 0
IsNil [] = Unit {0}
IsNil (x ∷ xs) = ⊥

fits : (b : Bool) (p : Publish) (r : Request) → cond b [] (requests.Publish p ∷ []) ≡ [] → cond b (requests.Publish p) r ≡ requests.Publish p
fits true p r e = refl
fits false p r e = absurd (subst (λ (xs : List Request). IsNil xs) (sym e) tt)

one_fits : (codec : Codec) (r : Request) → unfitting codec r ≡ [] → fitting codec r ≡ r
one_fits codec (requests.Publish p) e = fits (is_writable codec p) p _ e
one_fits codec r e = refl

all_fit : (codec : Codec) (rs : List Request) → flat_map (unfitting codec) rs ≡ [] → map (fitting codec) rs ≡ rs
all_fit codec [] e = refl
all_fit codec (r ∷ rs) e =
    let both = append_nil_both (unfitting codec r) (flat_map (unfitting codec) rs) e in
    ap (λ (x : Request). x ∷ map (fitting codec) rs) (one_fits codec r both.0) ∙ ap (λ (xs : List Request). r ∷ xs) (all_fit codec rs both.1)
  where
    append_nil_both : (xs ys : List Request) → xs ++ ys ≡ [] → (xs ≡ []) × (ys ≡ [])
    append_nil_both [] ys h = (refl, h)
    append_nil_both (x ∷ xs) ys h = absurd (subst (λ (zs : List Request). IsNil zs) (sym h) tt)

pub fitting_resumes : (codec : Codec) (s : Session) (at : ℕ) → flat_map (unfitting codec) (unacked s) ≡ [] → fitting_of codec s at ≡ resume_of s at
unfolding resume_of
fitting_resumes codec s at e = ap (λ (rs : List Request). send_all rs (on_clean s) at) (all_fit codec (unacked s) e)
