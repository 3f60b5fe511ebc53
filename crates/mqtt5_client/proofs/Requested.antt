-- A request is sent as the packet that was judged; and what a request leaves of a client.
use Rattle.std.proofs.Common.{◌≡◌, ◌≢◌, ℕ, Bool, true, false, cond, ◌==◌, List, [], ◌∷◌, ◌++◌, length, take, Option, Some, None, Result, Ok, Err, refl, sym, ap, subst, ◌∙◌, inl, inr, ◌⊎◌, append-nil, nat_lt}
use Rattle.std.proofs.Math.Bool.{or-false}
use Rattle.std.proofs.Math.Seq.{take-append_seam}
use Rattle.std.specs.Prelude.{OnOk, OnErr, IfErr, IsOk, T, ◌||◌}
use Rattle.std.specs.FinMap.{get}
use Rattle.mqtt5_base.specs.declared.error.Error.{Error}
use Rattle.mqtt5_base.specs.declared.error.Error.TheVariants as errors
use Rattle.mqtt5_base.specs.Puts.{Writes}
use Rattle.mqtt5_base.specs.declared.quality.QoS.{QoS}
use Rattle.mqtt5_base.specs.declared.quality.QoS.TheVariants.{AtMostOnce, AtLeastOnce, ExactlyOnce}
use Rattle.mqtt5_publish.specs.declared.publish.Publish.{Publish}
use Rattle.mqtt5_codec.specs.declared.packet.Packet.{Packet}
use Rattle.mqtt5_codec.specs.declared.packet.Packet.TheVariants as packets
use Rattle.mqtt5_codec.specs.declared.codec.Codec.{Codec}
use Rattle.mqtt5_inflight.specs.declared.slot.Slot.{Slot}
use Rattle.mqtt5_inflight.specs.declared.slot.Slot.TheVariants.{Sent, Released}
use Rattle.mqtt5_inflight.specs.Errors.{state_error}
use Rattle.mqtt5_inflight.specs.declared.event.Request.{Request}
use Rattle.mqtt5_inflight.specs.declared.event.Request.TheVariants as requests
use Rattle.mqtt5_inflight.specs.declared.error.StateError.{StateError}
use Rattle.mqtt5_inflight.specs.declared.error.StateError.TheVariants as faults
use Rattle.mqtt5_session.specs.Session.{Session, Answer, Sends}
use Rattle.mqtt5_session.specs.Requests.{on_request, unless, over_maximum, verdict_of, Verdict, Refuse, Wait, Store, out_acked, out_publish, out_release, out_known, release_of, id_for, last_after, counts_ping, ping_fault}
use Rattle.mqtt5_session.proofs.Exports.{choose}
use Rattle.mqtt5_drive.specs.declared.run.Input.TheVariants as inputs
use Rattle.mqtt5_drive.specs.Trace.{Waits, Holds, finish}
use Rattle.mqtt5_drive.specs.Run.{reply_bytes, on_answer, on_written, run}
use Rattle.mqtt5_client.specs.declared.client.Client.{Client}
use Rattle.mqtt5_client.specs.Client.{IsReady, asking, disconnects, is_disconnected, Runs}
use Rattle.mqtt5_client.specs.Asked.{id_asked, packet_asked, bytes_asked, Declines, Takes}
use Rattle.mqtt5_client.specs.Handed.{HandsOn}

-- ---- the packet of an answer

-- where a packet is answered, it is this one
abbrev Is : Option Packet → Result (Option Packet) StateError → Type 0
Is asked (Ok (Some p)) = asked ≡ Some p
Is asked (Ok None) = Unit {0}
Is asked (Err e) = Unit {0}

abbrev Said : Option Packet → Answer → Type 0
Said asked a = Is asked a.0

unless_said : (asked : Option Packet) (e : Option StateError) (s : Session) (a : Answer) → Said asked a → Said asked (unless e s a)
unless_said asked None s a h = h
unless_said asked (Some e) s a h = tt {0}

acked_said : (v : Verdict) (s : Session) (p : Publish) (last at : ℕ) → Said (Some (packets.Publish p)) (out_acked v s p last at)
acked_said (Refuse e) s p last at = tt {0}
acked_said Wait s p last at = tt {0}
acked_said Store s p last at = refl

publish_said : (q : QoS) (s : Session) (p : Publish) (at : ℕ) → Said (Some (packets.Publish (record p { pkid = id_asked q s.core p.pkid }))) (out_publish q s p at)
publish_said AtMostOnce s p at = unless_said _ (over_maximum s.core p) s _ refl
publish_said AtLeastOnce s p at = acked_said (verdict_of s.core (record p { pkid = id_for s.core p.pkid })) s (record p { pkid = id_for s.core p.pkid }) (last_after s.core p.pkid) at
publish_said ExactlyOnce s p at = acked_said (verdict_of s.core (record p { pkid = id_for s.core p.pkid })) s (record p { pkid = id_for s.core p.pkid }) (last_after s.core p.pkid) at

known_said : (x : Option Slot) (s : Session) (id last at : ℕ) → Said (Some (release_of id)) (out_known x s id last at)
known_said (Some (Sent p)) s id last at = tt {0}
known_said (Some Released) s id last at = refl
known_said None s id last at = refl

release_said : (s : Session) (id last at : ℕ) → Said (Some (release_of id)) (out_release s id last at)
release_said s id last at = choose (Said (Some (release_of id))) (nat_lt s.core.limit id) _ _ (λ _. tt {0}) (λ _. known_said (get s.core.in_use id) s id last at)

either_said : (b : Bool) (p : Packet) (e : StateError) (s t : Session) → Said (cond b None (Some p)) (cond b (Err e, s) (Ok (Some p), t))
either_said true p e s t = tt {0}
either_said false p e s t = refl

out_said : (s : Session) (request : Request) (at : ℕ) → Said (packet_asked s.core request) (on_request s request at)
unfolding on_request
out_said s (requests.Publish p) at = publish_said p.qos s p at
out_said s (requests.Subscribe p) at = either_said (length p.filters == 0) _ _ _ _
out_said s (requests.Unsubscribe p) at = refl
out_said s (requests.PubRel p) at = release_said s (id_for s.core p.pkid) (last_after s.core p.pkid) at
out_said s (requests.PubAck p) at = refl
out_said s (requests.PubRec p) at = refl
out_said s requests.PingReq at = unless_said _ (ping_fault s.core.waiting (counts_ping s).collision_pings s.awaits_ping) (counts_ping s) _ refl
out_said s requests.Disconnect at = refl
out_said s other at = tt {0}

-- what is answered to send is what was judged
sent_is : (s t : Session) (request : Request) (at : ℕ) (p : Packet) → on_request s request at ≡ (Ok (Some p), t) → packet_asked s.core request ≡ Some p
sent_is s t request at p e = subst (Said (packet_asked s.core request)) e (out_said s request at)

-- ---- a refused request

-- a refusal changes nothing, but it counts a ping
abbrev Stays : Request → Session → Result (Option Packet) StateError → Session → Type 0
Stays request s (Ok reply) t = Unit {0}
Stays request s (Err e) t = request ≢ requests.PingReq → t ≡ s

abbrev Still : Request → Session → Answer → Type 0
Still request s a = Stays request s a.0 a.1

unless_still : (request : Request) (e : Option StateError) (s t : Session) (reply : Option Packet) → Still request s (unless e s (Ok reply, t))
unless_still request None s t reply = tt {0}
unless_still request (Some e) s t reply = λ _. refl

acked_still : (request : Request) (v : Verdict) (s : Session) (p : Publish) (last at : ℕ) → Still request s (out_acked v s p last at)
acked_still request (Refuse e) s p last at = λ _. refl
acked_still request Wait s p last at = tt {0}
acked_still request Store s p last at = tt {0}

publish_still : (request : Request) (q : QoS) (s : Session) (p : Publish) (at : ℕ) → Still request s (out_publish q s p at)
publish_still request AtMostOnce s p at = unless_still request (over_maximum s.core p) s _ _
publish_still request AtLeastOnce s p at = acked_still request (verdict_of s.core (record p { pkid = id_for s.core p.pkid })) s (record p { pkid = id_for s.core p.pkid }) (last_after s.core p.pkid) at
publish_still request ExactlyOnce s p at = acked_still request (verdict_of s.core (record p { pkid = id_for s.core p.pkid })) s (record p { pkid = id_for s.core p.pkid }) (last_after s.core p.pkid) at

known_still : (request : Request) (x : Option Slot) (s : Session) (id last at : ℕ) → Still request s (out_known x s id last at)
known_still request (Some (Sent p)) s id last at = λ _. refl
known_still request (Some Released) s id last at = tt {0}
known_still request None s id last at = tt {0}

out_still : (s : Session) (request : Request) (at : ℕ) → Still request s (on_request s request at)
unfolding on_request
out_still s (requests.Publish p) at = publish_still (requests.Publish p) p.qos s p at
out_still s (requests.Subscribe p) at = choose (Still (requests.Subscribe p) s) (length p.filters == 0) _ _ (λ _ _. refl) (λ _. tt {0})
out_still s (requests.Unsubscribe p) at = tt {0}
out_still s (requests.PubRel p) at =
    choose (Still (requests.PubRel p) s) (nat_lt s.core.limit (id_for s.core p.pkid)) _ _ (λ _ _. refl) (λ _. known_still (requests.PubRel p) (get s.core.in_use (id_for s.core p.pkid)) s (id_for s.core p.pkid) (last_after s.core p.pkid) at)
out_still s (requests.PubAck p) at = tt {0}
out_still s (requests.PubRec p) at = tt {0}
out_still s requests.PingReq at = ping_still (ping_fault s.core.waiting (counts_ping s).collision_pings s.awaits_ping) _ _
  where
    ping_still : (e : Option StateError) (t : Session) (reply : Option Packet) → Still requests.PingReq s (unless e (counts_ping s) (Ok reply, t))
    ping_still None t reply = tt {0}
    ping_still (Some e) t reply = λ h. absurd (h refl)
out_still s requests.Disconnect at = tt {0}
out_still s other at = λ _. refl

pub declined_still : (e : StateError) (codec : Codec) (request : Request) (at : ℕ) (s t : Session) → Declines e codec request at s t → request ≢ requests.PingReq → t ≡ s
declined_still e codec request at s t (inl h) = λ _. h.0
declined_still e codec request at s t (inr h) = subst (λ (a : Answer). Still request s a) h.1 (out_still s request at)

-- ---- what a request leaves

-- where the output ended
pub cut : (o mid bytes : List ℕ) (n : ℕ) → mid ≡ o ++ bytes → n ≡ length o → take n mid ≡ o
cut o mid bytes n put is = ap (λ (k : ℕ). take k mid) is ∙ ap (take (length o)) put ∙ take-append_seam o bytes

-- a refusal of the session, or of memory
pub refused_or : (e : StateError) (s t : Session) (a : Answer) → Sends (Err e) s t a → ((e ≡ faults.OutOfMemory) × (t ≡ s)) ⊎ (a ≡ (Err e, t))
refused_or faults.OutOfMemory s t a h = inl (refl, h.0)
refused_or e s t a h = inr (λ i. (sym h.0 i, sym h.1 i))

pub written_takes : (result : Result Unit StateError) (codec : Codec) (request : Request) (at : ℕ) (s t : Session) (o mid u bytes : List ℕ) (n : ℕ)
    → bytes_asked codec s.core request ≡ Ok bytes → mid ≡ o ++ bytes → n ≡ length o → HandsOn result (on_request s request at) n s mid t u → Takes result codec request at s o t u
written_takes (Ok done) codec request at s t o mid u bytes n asked put is (inl h) =
    let same : reply_bytes codec (Some h.0) ≡ Ok bytes = ap (reply_bytes codec) (sym (sent_is s t request at h.0 h.1)) ∙ asked in
    (Some h.0, bytes, h.1, same, h.2 ∙ put, subst (λ (r : Result (List ℕ) Error). IsOk r) (sym asked) refl)
written_takes (Ok done) codec request at s t o mid u bytes n asked put is (inr h) =
    (None, [], h.0, refl, h.1 ∙ cut o mid bytes n put is ∙ sym (append-nil o), subst (λ (r : Result (List ℕ) Error). IsOk r) (sym asked) refl)
written_takes (Err e) codec request at s t o mid u bytes n asked put is h = (h.0 ∙ cut o mid bytes n put is, by h.1)
  where
    by : ((e ≡ faults.OutOfMemory) × (t ≡ s)) ⊎ (on_request s request at ≡ (Err e, t)) → Declines e codec request at s t
    by (inl memory) = inl (memory.1, inl memory.0)
    by (inr refused) = inr (subst (λ (r : Result (List ℕ) Error). IsOk r) (sym asked) refl, refused)

pub refused_takes : (f : Error) (codec : Codec) (request : Request) (at : ℕ) (s : Session) (o u : List ℕ)
    → Writes {A = Unit {0}} (λ _. tt) (bytes_asked codec s.core request) (Err f) o u → Takes (Err (state_error f)) codec request at s o s u
refused_takes f codec request at s o u w = (w.0, inl (refl, by w.1))
  where
    by : ((f ≡ errors.OutOfMemory) × ((bytes : List ℕ) × (bytes_asked codec s.core request ≡ Ok bytes))) ⊎ (bytes_asked codec s.core request ≡ Err f)
        → (state_error f ≡ faults.OutOfMemory) ⊎ ((g : Error) × (bytes_asked codec s.core request ≡ Err g) × (state_error f ≡ state_error g))
    by (inl memory) = inl (ap state_error memory.0)
    by (inr refused) = inr (f, refused, refl)

-- where no Disconnect was asked for before, the request alone says whether one is
pub over_by : (before now : Bool) (request : Request) → now ≡ disconnects (inputs.Request request) → before ≡ false
    → now ≡ (disconnects (inputs.Request request) || before)
over_by before now request is none =
    is ∙ sym (ap (λ (b : Bool). disconnects (inputs.Request request) || b) none ∙ or-false (disconnects (inputs.Request request)))

-- one that is taken is one move of the run
pub taken_runs : (result : Result Unit StateError) (old new : Client) (request : Request) (at : ℕ)
    → Takes result old.codec request at old.state old.output.items new.state new.output.items → new.input.items ≡ old.input.items
    → new.disconnected ≡ is_disconnected old.disconnected (asking at request ∷ []) → IsReady new
    → OnOk result (Runs old (asking at request ∷ []) [] new)
unfolding run
taken_runs (Ok done) old new request at h input over ready = record {
  all =
      ap (λ (a : Answer). finish old.state old.output.items (on_answer old.codec a (λ t. Waits old.input.items))) h.2
      ∙ ap (λ (b : Result (List ℕ) Error). finish old.state old.output.items (on_written new.state b (λ t. Waits old.input.items))) h.3
      ∙ ap (λ (u : List ℕ). record { session = new.state; output = u; ending = Holds old.input.items }) (sym h.4)
      ∙ ap (λ (held : List ℕ). record { session = new.state; output = new.output.items; ending = Holds held }) (sym input);
  ready = ready;
  over = over;
}
taken_runs (Err e) old new request at h input over ready = tt

pub taken_writable : (result : Result Unit StateError) (codec : Codec) (request : Request) (at : ℕ) (s t : Session) (o u : List ℕ) → Takes result codec request at s o t u → IsOk result → IsOk (bytes_asked codec s.core request)
taken_writable (Ok done) codec request at s t o u h = λ _. h.5
taken_writable (Err e) codec request at s t o u h = λ x. absurd (subst (λ (b : Bool). T b) (sym x) tt)

pub taken_err : (result : Result Unit StateError) (codec : Codec) (request : Request) (at : ℕ) (s t : Session) (o u : List ℕ) → Takes result codec request at s o t u → IfErr result (λ e. Declines e codec request at s t)
taken_err (Ok done) codec request at s t o u h = tt
taken_err (Err e) codec request at s t o u h = h.1

pub taken_unchanged : (result : Result Unit StateError) (codec : Codec) (request : Request) (at : ℕ) (s t : Session) (o u : List ℕ) → Takes result codec request at s o t u → OnErr result (request ≢ requests.PingReq → t ≡ s)
taken_unchanged (Ok done) codec request at s t o u h = tt
taken_unchanged (Err e) codec request at s t o u h = declined_still e codec request at s t h.1

pub taken_unsent : (result : Result Unit StateError) (codec : Codec) (request : Request) (at : ℕ) (s t : Session) (o u : List ℕ) → Takes result codec request at s o t u → OnErr result (u ≡ o)
taken_unsent (Ok done) codec request at s t o u h = tt
taken_unsent (Err e) codec request at s t o u h = h.0
