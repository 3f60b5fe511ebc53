-- What a token at the front of a way says of its id.
use Rattle.std.proofs.Common.{◌≡◌, ℕ, Bool, true, false, List, [], ◌∷◌, filter, Option, Some, None, refl, ap, ◌∙◌}
use Rattle.mqtt5_base.specs.declared.quality.QoS.{QoS}
use Rattle.mqtt5_base.specs.declared.quality.QoS.TheVariants.{AtMostOnce, AtLeastOnce, ExactlyOnce}
use Rattle.mqtt5_publish.specs.declared.publish.Publish.{Publish}
use Rattle.mqtt5_publish.specs.declared.puback.PubAck.{PubAck}
use Rattle.mqtt5_publish.specs.declared.puback.PubAckReason.TheVariants.{Success}
use Rattle.mqtt5_publish.specs.declared.pubrec.PubRec.{PubRec}
use Rattle.mqtt5_publish.specs.declared.pubrel.PubRel.{PubRel}
use Rattle.mqtt5_publish.specs.declared.pubcomp.PubComp.{PubComp}
use Rattle.mqtt5_codec.specs.declared.packet.Packet.{Packet}
use Rattle.mqtt5_codec.specs.declared.packet.Packet.TheVariants as packets
use Rattle.mqtt5_inflight.specs.declared.slot.Slot.{Slot}
use Rattle.mqtt5_inflight.specs.declared.slot.Slot.TheVariants.{Sent, Released}
use Rattle.mqtt5_world.specs.Delivery.{is_acked, is_token_up, is_token_down, Token, Free, PublishUp, PubAckDown, PublishTwiceUp, PubRecDown, PubRelUp, PubCompDown}
use Rattle.mqtt5_world.proofs.Places.{View, place, front_here}

-- a publish of QoS 1 on its way up
pub once_up : {k : ℕ} {x : Option Slot} {b : Bool} {us ds : List Packet} {p : Publish} → p.qos ≡ AtLeastOnce → Token k x b (packets.Publish p ∷ us) ds → (x ≡ Some (Sent p)) × (b ≡ false) × (us ≡ []) × (ds ≡ [])
once_up e (PublishUp p q) = (refl, refl, refl, refl)
once_up e (PublishTwiceUp p h q) = absurd cc

-- a publish of QoS 2
pub twice_up : {k : ℕ} {x : Option Slot} {b : Bool} {us ds : List Packet} {p : Publish} → p.qos ≡ ExactlyOnce → Token k x b (packets.Publish p ∷ us) ds → (x ≡ Some (Sent p)) × (us ≡ []) × (ds ≡ [])
twice_up e (PublishUp p q) = absurd cc
twice_up e (PublishTwiceUp p h q) = (refl, refl, refl)

pub release_up : {k : ℕ} {a : PubRel} {x : Option Slot} {b : Bool} {us ds : List Packet} → Token k x b (packets.PubRel a ∷ us) ds → (x ≡ Some Released) × (us ≡ []) × (ds ≡ [])
release_up (PubRelUp h) = (refl, refl, refl)

pub ack_down : {k : ℕ} {a : PubAck} {x : Option Slot} {b : Bool} {us ds : List Packet} → Token k x b us (packets.PubAck a ∷ ds) → (p : Publish) × (x ≡ Some (Sent p)) × (p.qos ≡ AtLeastOnce) × (b ≡ false) × (us ≡ []) × (ds ≡ [])
ack_down (PubAckDown p q) = (p, refl, q, refl, refl, refl)

pub rec_down : {k : ℕ} {a : PubRec} {x : Option Slot} {b : Bool} {us ds : List Packet} → Token k x b us (packets.PubRec a ∷ ds) → (p : Publish) × (x ≡ Some (Sent p)) × (p.qos ≡ ExactlyOnce) × (b ≡ true) × (us ≡ []) × (ds ≡ []) × (a.reason ≡ Success)
rec_down (PubRecDown p q) = (p, refl, q, refl, refl, refl, refl)

pub comp_down : {k : ℕ} {a : PubComp} {x : Option Slot} {b : Bool} {us ds : List Packet} → Token k x b us (packets.PubComp a ∷ ds) → (x ≡ Some Released) × (b ≡ false) × (us ≡ []) × (ds ≡ [])
comp_down (PubCompDown h) = (refl, refl, refl, refl)

pub none_free : {k : ℕ} {b : Bool} {us ds : List Packet} → Token k None b us ds → (b ≡ false) × (us ≡ []) × (ds ≡ [])
none_free Free = (refl, refl, refl)

-- what goes up, and what comes down
abbrev pub GoesUp : Packet → Type 0
GoesUp (packets.Publish p) = Unit {0}
GoesUp (packets.PubRel p) = Unit {0}
GoesUp other = ⊥

abbrev pub ComesDown : Packet → Type 0
ComesDown (packets.PubAck p) = Unit {0}
ComesDown (packets.PubRec p) = Unit {0}
ComesDown (packets.PubComp p) = Unit {0}
ComesDown other = ⊥

pub goes_up : {k : ℕ} {y : Packet} {x : Option Slot} {b : Bool} {us ds : List Packet} → Token k x b (y ∷ us) ds → GoesUp y
goes_up (PublishUp p q) = tt {0}
goes_up (PublishTwiceUp p b q) = tt {0}
goes_up (PubRelUp b) = tt {0}

pub comes_down : {k : ℕ} {y : Packet} {x : Option Slot} {b : Bool} {us ds : List Packet} → Token k x b us (y ∷ ds) → ComesDown y
comes_down (PubAckDown p q) = tt {0}
comes_down (PubRecDown p q) = tt {0}
comes_down (PubCompDown g) = tt {0}

-- a token at the front of a way
pub place_up : (v : View) (x : Packet) (rest : List Packet) (k : ℕ) → is_token_up k x ≡ true → v.up ≡ x ∷ rest → place v k ≡ record (place v k) { up = x ∷ filter (is_token_up k) rest }
place_up v x rest k is u i = record (place v k) { up = (ap (filter (is_token_up k)) u ∙ front_here is_token_up k x rest is) i }

pub place_down : (v : View) (x : Packet) (rest : List Packet) (k : ℕ) → is_token_down k x ≡ true → v.down ≡ x ∷ rest → place v k ≡ record (place v k) { down = x ∷ filter (is_token_down k) rest }
place_down v x rest k is d i = record (place v k) { down = (ap (filter (is_token_down k)) d ∙ front_here is_token_down k x rest is) i }

-- a token of a publish that was just stored
pub stored_token : (k : ℕ) (p : Publish) (q : QoS) → p.qos ≡ q → is_acked q ≡ true → Token k (Some (Sent p)) false (packets.Publish p ∷ []) []
stored_token k p AtMostOnce e h = absurd cc
stored_token k p AtLeastOnce e h = PublishUp p e
stored_token k p ExactlyOnce e h = PublishTwiceUp p false e
