-- This file serves the logic alone: the derived `==` of packets and codecs finds equal values
-- alone.
use Rattle.std.proofs.Common.{ap, sym}
use mathlib.Core.Bool.{true≢false}
use Rattle.mqtt5_base.specs.Sound.{Sound, both, number_sound, option_sound}
use Rattle.mqtt5_publish.specs.Sound.{publish_sound, puback_sound, pubrec_sound, pubrel_sound}
use Rattle.mqtt5_publish.specs.Sound.{pubcomp_sound, pingreq_sound, pingresp_sound}
use Rattle.mqtt5_subscribe.specs.Sound.{subscribe_sound, suback_sound, unsubscribe_sound}
use Rattle.mqtt5_subscribe.specs.Sound.{unsuback_sound}
use Rattle.mqtt5_connect.specs.Sound.{connect_sound, will_sound, login_sound}
use Rattle.mqtt5_control.specs.Sound.{connack_sound, disconnect_sound, auth_sound}
use Rattle.mqtt5_codec.specs.declared.packet.Packet.TheVariants as packets
use Rattle.mqtt5_codec.specs.contracts.packet.PacketPartialEq.TheImpl as packet
use Rattle.mqtt5_codec.specs.contracts.codec.CodecPartialEq.TheImpl as codec

pub packet_sound : Sound packet.eq-value.it
packet_sound (packets.Auth x) (packets.Auth y) h = ap (λ z. packets.Auth z) (auth_sound x y h)
packet_sound (packets.Connect x v l) (packets.Connect y w m) h =
    let e =
    both (connect_sound x y) (both (option_sound will_sound v w) (option_sound login_sound l m))
    h in
    λ i. packets.Connect (e.0 i) (e.1.0 i) (e.1.1 i)
packet_sound (packets.ConnAck x) (packets.ConnAck y) h =
    ap (λ z. packets.ConnAck z) (connack_sound x y h)
packet_sound (packets.Publish x) (packets.Publish y) h =
    ap (λ z. packets.Publish z) (publish_sound x y h)
packet_sound (packets.PubAck x) (packets.PubAck y) h =
    ap (λ z. packets.PubAck z) (puback_sound x y h)
packet_sound (packets.PingReq x) (packets.PingReq y) h =
    ap (λ z. packets.PingReq z) (pingreq_sound x y h)
packet_sound (packets.PingResp x) (packets.PingResp y) h =
    ap (λ z. packets.PingResp z) (pingresp_sound x y h)
packet_sound (packets.Subscribe x) (packets.Subscribe y) h =
    ap (λ z. packets.Subscribe z) (subscribe_sound x y h)
packet_sound (packets.SubAck x) (packets.SubAck y) h =
    ap (λ z. packets.SubAck z) (suback_sound x y h)
packet_sound (packets.PubRec x) (packets.PubRec y) h =
    ap (λ z. packets.PubRec z) (pubrec_sound x y h)
packet_sound (packets.PubRel x) (packets.PubRel y) h =
    ap (λ z. packets.PubRel z) (pubrel_sound x y h)
packet_sound (packets.PubComp x) (packets.PubComp y) h =
    ap (λ z. packets.PubComp z) (pubcomp_sound x y h)
packet_sound (packets.Unsubscribe x) (packets.Unsubscribe y) h =
    ap (λ z. packets.Unsubscribe z) (unsubscribe_sound x y h)
packet_sound (packets.UnsubAck x) (packets.UnsubAck y) h =
    ap (λ z. packets.UnsubAck z) (unsuback_sound x y h)
packet_sound (packets.Disconnect x) (packets.Disconnect y) h =
    ap (λ z. packets.Disconnect z) (disconnect_sound x y h)
packet_sound x y h = absurd (true≢false (sym h))

pub codec_sound : Sound codec.eq-value.it
codec_sound x y h =
    let e =
    both (option_sound number_sound x.max_incoming_size y.max_incoming_size)
    (option_sound number_sound x.max_outgoing_size y.max_outgoing_size) h in
    λ i. record { max_incoming_size = e.0 i; max_outgoing_size = e.1 i }
