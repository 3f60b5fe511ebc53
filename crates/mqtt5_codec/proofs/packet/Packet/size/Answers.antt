use Rattle.std.proofs.Common.{refl, [], inl, inr}
use Rattle.mqtt5_codec.proofs.packet.Packet.size.Goals as goal

pub returns-in-PingReq : goal.returns-in-PingReq
returns-in-PingReq c = elim c.in-PingReq.is [ inl h ↦ rw h.1 (c.frame_size.ensures 192 [] refl) | inr h ↦ rw h.1 (c.frame_size.ensures 208 [] refl) ]
