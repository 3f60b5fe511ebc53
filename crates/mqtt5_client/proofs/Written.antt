-- A publish whose frame is written before the session takes it.
use Rattle.std.proofs.Common.{◌≡◌, ℕ, ◌<◌, Bool, true, false, cond, nat_lt, min, ◌==◌, List, ◌++◌, length, Option, Some, None, Result, Ok, Err, refl, sym, ap, ◌∙◌, inl, inr, ◌⊎◌, arith, ne_eqb}
use Rattle.std.proofs.lemmas.Bool.{ltb-true}
use Rattle.mqtt5_base.specs.declared.error.Error.{Error}
use Rattle.mqtt5_base.specs.declared.error.Error.TheVariants.{OutgoingPacketTooLarge, PayloadTooLong, InvalidQoS, PacketIdZero}
use Rattle.mqtt5_base.specs.declared.quality.QoS.{QoS}
use Rattle.mqtt5_base.specs.declared.quality.QoS.TheVariants.{AtMostOnce, AtLeastOnce, ExactlyOnce}
use Rattle.mqtt5_base.specs.Grammar.{number, passes, is_qos, not_zero}
use Rattle.mqtt5_base.specs.Views.{qos_number}
use Rattle.mqtt5_base.specs.Layout.{layout, fits}
use Rattle.mqtt5_publish.specs.declared.publish.Publish.{Publish}
use Rattle.mqtt5_publish.specs.Rows.{publish_row}
use Rattle.mqtt5_publish.specs.Publishes.{publish_packet}
use Rattle.mqtt5_codec.specs.declared.packet.Packet.{Packet}
use Rattle.mqtt5_codec.specs.declared.packet.Packet.TheVariants as packets
use Rattle.mqtt5_codec.specs.declared.codec.Codec.{Codec}
use Rattle.mqtt5_codec.specs.Packets.{packet_len, packet_writing, writing_under}
use Rattle.mqtt5_inflight.specs.Errors.{state_error}
use Rattle.mqtt5_inflight.specs.declared.event.Request.TheVariants as requests
use Rattle.mqtt5_inflight.specs.declared.error.StateError.{StateError}
use Rattle.mqtt5_inflight.specs.declared.error.StateError.TheVariants as faults
use Rattle.mqtt5_session.specs.Session.{Core, Session, Answer}
use Rattle.mqtt5_session.specs.Requests.{on_request, next_id}
use Rattle.mqtt5_drive.specs.Run.{reply_bytes}
use Rattle.mqtt5_client.specs.Asked.{id_asked, bytes_asked, Declines, Takes}
use Rattle.mqtt5_client.specs.Handed.{HandsOn}
use Rattle.mqtt5_client.specs.TakingUp.{fitting}
use Rattle.mqtt5_client.specs.Resending.{Adds, SendsFrame}
use Rattle.mqtt5_client.proofs.Requested.{written_takes}

-- what is written under a limit is written under none
unlimited : (limit : Option ℕ) (p : Packet) (bytes : List ℕ) → writing_under limit p ≡ Ok bytes → packet_writing p ≡ Ok bytes
unlimited None p bytes e = e
unlimited (Some max) p bytes e = by (nat_lt max (packet_len p)) e
  where
    by : (b : Bool) → cond b (Err (OutgoingPacketTooLarge (min (packet_len p) 4294967295) max)) (packet_writing p) ≡ Ok bytes → packet_writing p ≡ Ok bytes
    by true h = absurd cc
    by false h = h

-- of four tests the last, where the third holds
last_of : (a b c d : Bool) (x : Result (List ℕ) Error) (e f g : Error) (bytes : List ℕ) → cond a (cond b (cond c (cond d x (Err e)) x) (Err f)) (Err g) ≡ Ok bytes → c ≡ true → d ≡ true
last_of false b c d x e f g bytes h is = absurd cc
last_of true false c d x e f g bytes h is = absurd cc
last_of true true false d x e f g bytes h is = absurd cc
last_of true true true true x e f g bytes h is = refl
last_of true true true false x e f g bytes h is = absurd cc

-- a publish of QoS 1 or 2 has an id, or it can't be written
has_id : (p : Publish) (bytes : List ℕ) → packet_writing (packets.Publish p) ≡ Ok bytes → nat_lt 0 (qos_number p.qos) ≡ true → nat_lt 0 p.pkid ≡ true
has_id p bytes h =
    last_of (fits publish_row (publish_packet p)) (passes is_qos (number (qos_number p.qos))) (nat_lt 0 (qos_number p.qos)) (passes not_zero (number p.pkid))
    (Ok (layout publish_row (publish_packet p))) PacketIdZero (InvalidQoS (qos_number p.qos)) PayloadTooLong bytes h

same_id : (c : Core) (id : ℕ) → nat_lt 0 id ≡ true → cond (id == 0) (next_id c) id ≡ id
same_id c id is = let low : 0 < id = ltb-true 0 id is in let e : (id == 0) ≡ false = ne_eqb id 0 (λ x. absurd (omega arith)) in rw e

own_id : (q : QoS) (c : Core) (id : ℕ) → (nat_lt 0 (qos_number q) ≡ true → nat_lt 0 id ≡ true) → id_asked q c id ≡ id
own_id AtMostOnce c id h = refl
own_id AtLeastOnce c id h = same_id c id (h refl)
own_id ExactlyOnce c id h = same_id c id (h refl)

-- one that can be written is sent as it is
asked_as_is : (codec : Codec) (c : Core) (p : Publish) (bytes : List ℕ) → writing_under codec.max_outgoing_size (packets.Publish p) ≡ Ok bytes → bytes_asked codec c (requests.Publish p) ≡ Ok bytes
asked_as_is codec c p bytes written =
    ap (λ (id : ℕ). writing_under codec.max_outgoing_size (packets.Publish (record p { pkid = id }))) (own_id p.qos c p.pkid (has_id p bytes (unlimited codec.max_outgoing_size (packets.Publish p) bytes written)))
    ∙ written

-- its frame stays where the session sends it, and else goes
pub written_sends : (result : Result Unit StateError) (codec : Codec) (p : Publish) (at : ℕ) (s t : Session) (old mid new bytes : List ℕ) (n : ℕ) (fault : Option StateError)
    → writing_under codec.max_outgoing_size (packets.Publish p) ≡ Ok bytes → mid ≡ old ++ bytes → n ≡ length old → HandsOn result (on_request s (requests.Publish p) at) n s mid t new
    → SendsFrame result codec (on_request s (fitting codec (requests.Publish p)) at) fault old t fault new
written_sends result codec p at s t old mid new bytes n fault written put is h =
    rw written (by result (written_takes result codec (requests.Publish p) at s t old mid new bytes n asked put is h))
  where
    asked : bytes_asked codec s.core (requests.Publish p) ≡ Ok bytes
    asked = asked_as_is codec s.core p bytes written

    adds : (f : Option StateError) (value : Result (List ℕ) Error) (bs : List ℕ) → value ≡ Ok bs → new ≡ old ++ bs → Adds f old value f new
    adds None value bs same at_end = (bs, same, at_end)
    adds (Some e) value bs same at_end = refl

    refused : (e : StateError) → Declines e codec (requests.Publish p) at s t → (e ≡ faults.OutOfMemory) ⊎ ((on_request s (requests.Publish p) at).0 ≡ Err e)
    refused e (inl unchanged) = of_two unchanged.1
      where
        of_two : (e ≡ faults.OutOfMemory) ⊎ ((f : Error) × (bytes_asked codec s.core (requests.Publish p) ≡ Err f) × (e ≡ state_error f)) → (e ≡ faults.OutOfMemory) ⊎ ((on_request s (requests.Publish p) at).0 ≡ Err e)
        of_two (inl memory) = inl memory
        of_two (inr x) = let no : ◌≡◌ {A = Result (List ℕ) Error} (Err x.0) (Ok bytes) = sym x.1 ∙ asked in absurd cc
    refused e (inr h) = inr (ap (λ (a : Answer). a.0) h.1)

    by : (r : Result Unit StateError) → Takes r codec (requests.Publish p) at s old t new → SendsFrame r codec (on_request s (requests.Publish p) at) fault old t fault new
    by (Ok done) h = (h.0, h.2, adds fault (reply_bytes codec h.0) h.1 h.3 h.4)
    by (Err e) h = refused e h.1
