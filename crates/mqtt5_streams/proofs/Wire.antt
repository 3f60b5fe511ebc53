-- The codec keeps the laws of frames.
use Rattle.std.proofs.Common.{◌≡◌, ℕ, ◌+◌, ◌≤◌, ◌/◌, ◌%◌, Bool, true, false, cond, nat_lt, min, List, [], ◌∷◌, ◌++◌, length, Option, Some, None, Result, Ok, Err, refl, sym, ap, ◌∙◌, arith, le-ltb}
use Rattle.std.proofs.lemmas.Bool.{ltb-false}
use Rattle.std.proofs.lemmas.List.{length-append}
use Rattle.mqtt5_base.specs.declared.error.Error.{Error}
use Rattle.mqtt5_base.specs.declared.error.Error.TheVariants.{OutgoingPacketTooLarge, PayloadTooLong, InvalidQoS, PacketIdZero}
use Rattle.mqtt5_base.specs.VarInt.{var_int, var_int_in}
use Rattle.mqtt5_base.specs.Front.{Whole, Admits}
use Rattle.mqtt5_base.specs.FrontAt.{front}
use Rattle.mqtt5_base.specs.Grammar.{number, passes, is_qos, not_zero}
use Rattle.mqtt5_base.specs.Views.{qos_number}
use Rattle.mqtt5_base.specs.Layout.{layout, fits}
use Rattle.mqtt5_base.proofs.FrontFound.{front_found}
use Rattle.mqtt5_base.proofs.FrontLemmas.{front_is}
use Rattle.mqtt5_base.proofs.FramesAgain.{is_written}
use Rattle.mqtt5_publish.specs.declared.publish.Publish.{Publish}
use Rattle.mqtt5_publish.specs.Rows.{publish_row}
use Rattle.mqtt5_publish.specs.Publishes.{publish_packet}
use Rattle.mqtt5_publish.specs.declared.pubrel.PubRelReason.TheVariants as releases
use Rattle.mqtt5_codec.specs.declared.packet.Packet.{Packet}
use Rattle.mqtt5_codec.specs.declared.packet.Packet.TheVariants as packets
use Rattle.mqtt5_codec.specs.Packets.{packet_row, written_packet, packet_len, packet_writing, writing_under}
use Rattle.mqtt5_codec.specs.PacketsIn.{packet_in}
use Rattle.mqtt5_codec.specs.Norms.{norm, IsReadBack}
use Rattle.mqtt5_codec.proofs.CodecLemmas.{taken_packet}
use Rattle.mqtt5_codec.proofs.PacketsAgain.{publish_read_back, puback_read_back, pubrec_read_back, pubrel_read_back, pubcomp_read_back}
use Rattle.mqtt5_session.specs.Requests.{release_of}
use Rattle.mqtt5_session.specs.Packets.{puback_of, pubrec_of, pubcomp_of}
use Rattle.mqtt5_progress.specs.Packets.{IsAck, OfPublish, OfFirst, OfRelease}
use Rattle.mqtt5_streams.specs.Wire.{wire_of, remaining, bytes_of, IsWritable, IsTyped, IsWire}

-- ---- limits

-- what is written under a limit is written under none
unlimited : (limit : Option ℕ) (p : Packet) (bytes : List ℕ) → writing_under limit p ≡ Ok bytes → packet_writing p ≡ Ok bytes
unlimited None p bytes e = e
unlimited (Some max) p bytes e = by (nat_lt max (packet_len p)) e
  where
    by : (b : Bool) → cond b (Err (OutgoingPacketTooLarge (min (packet_len p) 4294967295) max)) (packet_writing p) ≡ Ok bytes → packet_writing p ≡ Ok bytes
    by true h = absurd cc
    by false h = h

-- and is within it
within : (max : ℕ) (p : Packet) (bytes : List ℕ) → writing_under (Some max) p ≡ Ok bytes → packet_len p ≤ max
within max p bytes e = by (nat_lt max (packet_len p)) refl e
  where
    by : (b : Bool) → nat_lt max (packet_len p) ≡ b → cond b (Err (OutgoingPacketTooLarge (min (packet_len p) 4294967295) max)) (packet_writing p) ≡ Ok bytes → packet_len p ≤ max
    by true same h = absurd cc
    by false same h = ltb-false _ _ same

-- what is within a limit is written under it as under none
limited : (max : ℕ) (p : Packet) → packet_len p ≤ max → writing_under (Some max) p ≡ packet_writing p
limited max p h = ap (λ b. cond b (Err (OutgoingPacketTooLarge (min (packet_len p) 4294967295) max)) (packet_writing p)) (le-ltb max (packet_len p) h)

written : (limit : Option ℕ) (p : Packet) (bytes : List ℕ) → bytes_of limit p ≡ Ok bytes → (bytes ≡ wire_of p) × IsWritable None p
unfolding bytes_of wire_of
written limit p bytes e =
    let w = unlimited limit p bytes e in
    let same = sym (is_written (packet_row p) (written_packet p) bytes w).bytes in
    (same, w ∙ ap (λ z. Ok z) same)

-- ---- reading

back : (p : Packet) → IsTyped p → IsReadBack p
back (packets.Publish p) t = publish_read_back p t.0 t.1
back (packets.PubAck p) t = puback_read_back p t.0 t.1
back (packets.PubRec p) t = pubrec_read_back p t.0 t.1
back (packets.PubRel p) t = pubrel_read_back p t.0 t.1
back (packets.PubComp p) t = pubcomp_read_back p t.0 t.1
back other t = absurd t

stands : (limit : Option ℕ) (p : Packet) (more : List ℕ) → IsTyped p → IsWritable None p → Admits limit (remaining p) → front limit (wire_of p ++ more) ≡ Whole (wire_of p) more
unfolding bytes_of wire_of remaining
stands limit p more t w admits = ((back p t).again limit (layout (packet_row p) (written_packet p)) more w admits).0

read : (p : Packet) → IsTyped p → IsWritable None p → packet_in (wire_of p) ≡ Ok (norm p)
unfolding bytes_of wire_of
read p t w =
    let bytes = layout (packet_row p) (written_packet p) in
    let r = (back p t).again None bytes [] w (tt {0}) in
    taken_packet None (bytes ++ []) bytes [] (norm p) r.0 r.1

-- ---- acks and releases

acks : (p : Packet) → IsAck p → IsWritable None p × (remaining p ≤ 4)
unfolding bytes_of wire_of remaining
acks _ (OfPublish id) = (refl, let n : remaining (puback_of id) ≡ 2 = refl in omega (arith, n))
acks _ (OfFirst id) = (refl, let n : remaining (pubrec_of id) ≡ 2 = refl in omega (arith, n))
acks _ (OfRelease id releases.Success) = (refl, let n : remaining (pubcomp_of id releases.Success) ≡ 2 = refl in omega (arith, n))
acks _ (OfRelease id releases.PacketIdentifierNotFound) = (refl, let n : remaining (pubcomp_of id releases.PacketIdentifierNotFound) ≡ 4 = refl in omega (arith, n))

release_len : (id : ℕ) → packet_len (release_of id) ≡ 4
unfolding var_int
release_len id = refl

some_bytes : (n : ℕ) → 1 ≤ length (var_int n)
unfolding var_int
some_bytes n = by (nat_lt n 128)
  where
    by : (b : Bool) → 1 ≤ length (cond b (n ∷ []) ((n % 128 + 128) ∷ var_int_in 2 (n / 128)))
    by true = omega arith
    by false = omega arith

four : (n a b : ℕ) (rest : List ℕ) → 4 ≤ length (48 ∷ (var_int n ++ a ∷ b ∷ rest))
four n a b rest = let v = some_bytes n in let l = length-append (var_int n) (a ∷ b ∷ rest) in omega (arith, v, l)

publish_len : (p : Publish) → 4 ≤ packet_len (packets.Publish p)
publish_len p = four _ _ _ _

releases_written : (limit : Option ℕ) (p : Publish) (id : ℕ) → IsWritable limit (packets.Publish p) → IsWritable limit (release_of id)
unfolding bytes_of wire_of
releases_written None p id w = refl
releases_written (Some max) p id w =
    let most = within max (packets.Publish p) _ w in
    let least = publish_len p in
    let n = release_len id in
    limited max (release_of id) (omega (arith, most, least, n))

-- ---- dup

-- four tests that lead to either are of the same kind
tests : (a b c d : Bool) (x y : Result (List ℕ) Error) (e f g : Error) (bytes : List ℕ) → cond a (cond b (cond c (cond d x (Err e)) x) (Err f)) (Err g) ≡ Ok bytes → cond a (cond b (cond c (cond d y (Err e)) y) (Err f)) (Err g) ≡ y
tests false b c d x y e f g bytes h = absurd cc
tests true false c d x y e f g bytes h = absurd cc
tests true true false d x y e f g bytes h = refl
tests true true true true x y e f g bytes h = refl
tests true true true false x y e f g bytes h = absurd cc

dup_written : (p : Publish) (bytes : List ℕ) → packet_writing (packets.Publish p) ≡ Ok bytes → packet_writing (packets.Publish (record p { dup = true })) ≡ Ok (layout (packet_row (packets.Publish p)) (written_packet (packets.Publish (record p { dup = true }))))
dup_written p bytes h =
    tests (fits publish_row (publish_packet p)) (passes is_qos (number (qos_number p.qos))) (nat_lt 0 (qos_number p.qos)) (passes not_zero (number p.pkid))
    (Ok (layout publish_row (publish_packet p))) (Ok (layout publish_row (publish_packet (record p { dup = true }))))
    PacketIdZero (InvalidQoS (qos_number p.qos)) PayloadTooLong bytes h

dup_len : (p : Publish) → packet_len (packets.Publish (record p { dup = true })) ≡ packet_len (packets.Publish p)
dup_len p = refl

again : (limit : Option ℕ) (p : Publish) → IsWritable limit (packets.Publish p) → IsWritable limit (packets.Publish (record p { dup = true }))
unfolding bytes_of wire_of
again None p w = dup_written p _ w
again (Some max) p w =
    let most = within max (packets.Publish p) _ w in
    let n = dup_len p in
    limited max (packets.Publish (record p { dup = true })) (omega (arith, most, n)) ∙ dup_written p _ (unlimited (Some max) (packets.Publish p) _ w)

pub wire : IsWire
wire = record {
  empty = λ limit. (front_found limit).nothing;
  stays = front_is;
  written = written;
  stands = stands;
  read = read;
  acks = acks;
  releases = releases_written;
  again = again;
}
