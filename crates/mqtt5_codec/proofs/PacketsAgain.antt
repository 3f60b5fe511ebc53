-- A packet that is written is read again, as its norm.
use Rattle.std.proofs.Common.{◌≡◌, ℕ, ◌/◌, ◌<◌, ◌≤◌, List, ◌++◌, Option, Some, None, option_map, Result, Ok, refl, sym, ap, ◌∙◌, arith}
use Rattle.mqtt5_base.specs.declared.error.Error.{Error}
use Rattle.mqtt5_base.specs.Grammar.{Row, Content}
use Rattle.mqtt5_base.specs.Reading.{◌>>=◌, frame_at}
use Rattle.mqtt5_base.specs.Layout.{WrittenPacket, writing}
use Rattle.mqtt5_base.specs.Sets.{IsBlockOf}
use Rattle.mqtt5_base.specs.Front.{Admits}
use Rattle.mqtt5_base.proofs.FramesAgain.{is_written, written_front, content_read}
use Rattle.mqtt5_publish.specs.declared.publish.Publish.{Publish}
use Rattle.mqtt5_publish.specs.declared.puback.PubAck.{PubAck}
use Rattle.mqtt5_publish.specs.declared.pubrec.PubRec.{PubRec}
use Rattle.mqtt5_publish.specs.declared.pubrel.PubRel.{PubRel}
use Rattle.mqtt5_publish.specs.declared.pubcomp.PubComp.{PubComp}
use Rattle.mqtt5_publish.specs.declared.ping.PingReq.{PingReq}
use Rattle.mqtt5_publish.specs.declared.ping.PingResp.{PingResp}
use Rattle.mqtt5_subscribe.specs.declared.subscribe.Subscribe.{Subscribe}
use Rattle.mqtt5_subscribe.specs.declared.suback.SubAck.{SubAck}
use Rattle.mqtt5_subscribe.specs.declared.unsubscribe.Unsubscribe.{Unsubscribe}
use Rattle.mqtt5_subscribe.specs.declared.unsuback.UnsubAck.{UnsubAck}
use Rattle.mqtt5_connect.specs.declared.connect.Connect.{Connect}
use Rattle.mqtt5_connect.specs.declared.will.LastWill.{LastWill}
use Rattle.mqtt5_connect.specs.declared.login.Login.{Login}
use Rattle.mqtt5_control.specs.declared.connack.ConnAck.{ConnAck}
use Rattle.mqtt5_control.specs.declared.disconnect.Disconnect.{Disconnect}
use Rattle.mqtt5_control.specs.declared.auth.Auth.{Auth}
use Rattle.mqtt5_base.specs.AckSets.{ack_table, ack_found}
use Rattle.mqtt5_publish.specs.Rows.{publish_table}
use Rattle.mqtt5_subscribe.specs.Rows.{subscribe_table, unsubscribe_table}
use Rattle.mqtt5_subscribe.specs.Subscribes.{subscribe_found}
use Rattle.mqtt5_subscribe.specs.Unsubscribes.{unsubscribe_found}
use Rattle.mqtt5_connect.specs.Rows.{connect_table, will_table}
use Rattle.mqtt5_control.specs.Rows.{connack_table, disconnect_table, auth_table}
use Rattle.mqtt5_connect.specs.Short.{will_block}
use Rattle.mqtt5_connect.specs.Connects.{connect_found}
use Rattle.mqtt5_control.specs.ConnAcks.{connack_found}
use Rattle.mqtt5_control.specs.Disconnects.{disconnect_found}
use Rattle.mqtt5_control.specs.Auths.{auth_found}
use Rattle.mqtt5_subscribe.proofs.PacketsAgain.{subscribe_again, subscribe_norm_twice, suback_again, suback_norm_twice, unsubscribe_again, unsubscribe_norm_twice, unsuback_again, unsuback_norm_twice}
use Rattle.mqtt5_connect.proofs.PacketsAgain.{connect_again, connect_norm_twice, will_norm_twice, login_norm_twice}
use Rattle.mqtt5_control.proofs.PacketsAgain.{connack_again, connack_norm_twice, disconnect_again, disconnect_norm_twice, auth_again, auth_norm_twice}
use Rattle.mqtt5_publish.specs.Publishes.{publish_found}
use Rattle.mqtt5_publish.proofs.AcksAgain.{puback_again, puback_norm_twice, pubrec_again, pubrec_norm_twice, pubrel_again, pubrel_norm_twice, pubcomp_again, pubcomp_norm_twice}
use Rattle.mqtt5_publish.proofs.PublishesAgain.{publish_type, publish_again, publish_norm_twice}
use Rattle.mqtt5_publish.proofs.PingsAgain.{ping_again}
use Rattle.mqtt5_codec.specs.declared.packet.Packet.{Packet}
use Rattle.mqtt5_codec.specs.declared.packet.Packet.TheVariants as packets
use Rattle.mqtt5_codec.specs.Packets.{packet_rows, packet_type, packet_row, written_packet, packet_content, IsRead, packet_writing}
use Rattle.mqtt5_codec.specs.PacketsIn.{packet_of, first_of, packet_in}
use Rattle.mqtt5_codec.specs.Norms.{norm, IsReadBack}
use Rattle.mqtt5_codec.proofs.FrameLaws.{packet_back}
use Rattle.mqtt5_codec.proofs.CodecLemmas.{packet_taken}

-- a limit that admits a length isn't under it
admitted : (limit : Option ℕ) (n : ℕ) → Admits limit n → (max : ℕ) → limit ≡ Some max → n ≤ max
admitted None n admits max e = absurd cc
admitted (Some most) n admits max e = let same : most ≡ max = cc in omega (arith, admits, same)

-- What was written is of the packet that its values and the type in its first byte give.
packet_again : (row : Row) (w : WrittenPacket) (bs : List ℕ) (q : Content) (n : Packet) → writing row w ≡ Ok bs → frame_at packet_rows bs ≡ Ok q → packet_of (w.first / 16) q ≡ n → packet_in bs ≡ Ok n
unfolding packet_in
packet_again row w bs q n h is same =
    let first : first_of bs ≡ w.first = ap first_of (sym (is_written row w bs h).bytes) in
    ap (λ (y : Result Content Error). y >>= λ c. Ok (packet_of (first_of bs / 16) c)) is ∙ ap (λ (k : ℕ). Ok (packet_of (k / 16) q)) first ∙ ap (λ p. Ok p) same

-- What is written is read back, where its values are read again as those of its norm.
abbrev ReadsAgain : Packet → Type 0
ReadsAgain p = (bs : List ℕ) → packet_writing p ≡ Ok bs → frame_at packet_rows bs ≡ content_read (packet_content (norm p))

-- reading can give a norm
norm_read : (p : Packet) → IsRead (norm p)
norm_read (packets.Connect c will login) = tt
norm_read (packets.ConnAck p) = tt
norm_read (packets.Publish p) = tt
norm_read (packets.PubAck p) = tt
norm_read (packets.PubRec p) = tt
norm_read (packets.PubRel p) = tt
norm_read (packets.PubComp p) = tt
norm_read (packets.Subscribe p) = tt
norm_read (packets.SubAck p) = ap (λ (q : SubAck). q.return_codes) (suback_norm_twice p)
norm_read (packets.Unsubscribe p) = tt
norm_read (packets.UnsubAck p) = tt
norm_read (packets.PingReq p) = tt
norm_read (packets.PingResp p) = tt
norm_read (packets.Disconnect p) = tt
norm_read (packets.Auth p) = tt

-- A packet is read back.
read_back : (p : Packet) → (written_packet p).first / 16 ≡ packet_type p → packet_type (norm p) ≡ packet_type p → ReadsAgain p → norm (norm p) ≡ norm p → IsReadBack p
read_back p first kind again once = record {
  again = λ limit bs rest h admits. let found = written_front (packet_row p) (written_packet p) limit bs rest h (admitted limit _ admits) in (
    found,
    packet_taken limit (bs ++ rest) bs rest (norm p) found (packet_again (packet_row p) (written_packet p) bs (packet_content (norm p)) (norm p) h (again bs h)
        (ap (λ k. packet_of k (packet_content (norm p))) (first ∙ sym kind) ∙ packet_back (norm p) (norm_read p))),
  );
  once = once;
}

-- A Connect is read back.
pub connect_read_back : (c : Connect) (will : Option LastWill) (login : Option Login) → c.keep_alive < 65536 → IsBlockOf connect_table (option_map connect_found c.properties) → IsBlockOf will_table (will_block will) → IsReadBack (packets.Connect c will login)
connect_read_back c will login small set will_set =
    read_back (packets.Connect c will login) refl refl (λ bs. connect_again packet_rows c will login bs refl small set will_set)
    (λ i. packets.Connect (connect_norm_twice c i) (will_norm_twice will i) (login_norm_twice login i))

-- A ConnAck is read back.
pub connack_read_back : (p : ConnAck) → IsBlockOf connack_table (option_map connack_found p.properties) → IsReadBack (packets.ConnAck p)
connack_read_back p set = read_back (packets.ConnAck p) refl refl (λ bs. connack_again packet_rows p bs refl set) (ap (λ q. packets.ConnAck q) (connack_norm_twice p))

-- A Publish is read back.
pub publish_read_back : (p : Publish) → p.pkid < 65536 → IsBlockOf publish_table (option_map publish_found p.properties) → IsReadBack (packets.Publish p)
publish_read_back p small set = read_back (packets.Publish p) (publish_type p) refl (λ bs. publish_again packet_rows p bs refl small set) (ap (λ q. packets.Publish q) (publish_norm_twice p))

-- A PubAck is read back.
pub puback_read_back : (p : PubAck) → p.pkid < 65536 → IsBlockOf ack_table (option_map ack_found p.properties) → IsReadBack (packets.PubAck p)
puback_read_back p small set = read_back (packets.PubAck p) refl refl (λ bs. puback_again packet_rows p bs refl small set) (ap (λ q. packets.PubAck q) (puback_norm_twice p))

-- A PubRec is read back.
pub pubrec_read_back : (p : PubRec) → p.pkid < 65536 → IsBlockOf ack_table (option_map ack_found p.properties) → IsReadBack (packets.PubRec p)
pubrec_read_back p small set = read_back (packets.PubRec p) refl refl (λ bs. pubrec_again packet_rows p bs refl small set) (ap (λ q. packets.PubRec q) (pubrec_norm_twice p))

-- A PubRel is read back.
pub pubrel_read_back : (p : PubRel) → p.pkid < 65536 → IsBlockOf ack_table (option_map ack_found p.properties) → IsReadBack (packets.PubRel p)
pubrel_read_back p small set = read_back (packets.PubRel p) refl refl (λ bs. pubrel_again packet_rows p bs refl small set) (ap (λ q. packets.PubRel q) (pubrel_norm_twice p))

-- A PubComp is read back.
pub pubcomp_read_back : (p : PubComp) → p.pkid < 65536 → IsBlockOf ack_table (option_map ack_found p.properties) → IsReadBack (packets.PubComp p)
pubcomp_read_back p small set = read_back (packets.PubComp p) refl refl (λ bs. pubcomp_again packet_rows p bs refl small set) (ap (λ q. packets.PubComp q) (pubcomp_norm_twice p))

-- A Subscribe is read back.
pub subscribe_read_back : (p : Subscribe) → p.pkid < 65536 → IsBlockOf subscribe_table (option_map subscribe_found p.properties) → IsReadBack (packets.Subscribe p)
subscribe_read_back p small set = read_back (packets.Subscribe p) refl refl (λ bs. subscribe_again packet_rows p bs refl small set) (ap (λ q. packets.Subscribe q) (subscribe_norm_twice p))

-- A SubAck is read back.
pub suback_read_back : (p : SubAck) → p.pkid < 65536 → IsBlockOf ack_table (option_map ack_found p.properties) → IsReadBack (packets.SubAck p)
suback_read_back p small set = read_back (packets.SubAck p) refl refl (λ bs. suback_again packet_rows p bs refl small set) (ap (λ q. packets.SubAck q) (suback_norm_twice p))

-- An Unsubscribe is read back.
pub unsubscribe_read_back : (p : Unsubscribe) → p.pkid < 65536 → IsBlockOf unsubscribe_table (option_map unsubscribe_found p.properties) → IsReadBack (packets.Unsubscribe p)
unsubscribe_read_back p small set = read_back (packets.Unsubscribe p) refl refl (λ bs. unsubscribe_again packet_rows p bs refl small set) (ap (λ q. packets.Unsubscribe q) (unsubscribe_norm_twice p))

-- An UnsubAck is read back.
pub unsuback_read_back : (p : UnsubAck) → p.pkid < 65536 → IsBlockOf ack_table (option_map ack_found p.properties) → IsReadBack (packets.UnsubAck p)
unsuback_read_back p small set = read_back (packets.UnsubAck p) refl refl (λ bs. unsuback_again packet_rows p bs refl small set) (ap (λ q. packets.UnsubAck q) (unsuback_norm_twice p))

-- A Disconnect is read back.
pub disconnect_read_back : (p : Disconnect) → IsBlockOf disconnect_table (option_map disconnect_found p.properties) → IsReadBack (packets.Disconnect p)
disconnect_read_back p set = read_back (packets.Disconnect p) refl refl (λ bs. disconnect_again packet_rows p bs refl set) (ap (λ q. packets.Disconnect q) (disconnect_norm_twice p))

-- An Auth is read back.
pub auth_read_back : (p : Auth) → IsBlockOf auth_table (option_map auth_found p.properties) → IsReadBack (packets.Auth p)
auth_read_back p set = read_back (packets.Auth p) refl refl (λ bs. auth_again packet_rows p bs refl set) (ap (λ q. packets.Auth q) (auth_norm_twice p))

-- A PingReq is read back.
pub pingreq_read_back : (p : PingReq) → IsReadBack (packets.PingReq p)
pingreq_read_back p = read_back (packets.PingReq p) refl refl (λ bs. ping_again packet_rows 192 bs refl) refl

-- A PingResp is read back.
pub pingresp_read_back : (p : PingResp) → IsReadBack (packets.PingResp p)
pingresp_read_back p = read_back (packets.PingResp p) refl refl (λ bs. ping_again packet_rows 208 bs refl) refl
