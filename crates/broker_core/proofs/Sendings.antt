-- A client to whom a packet was written, and whose filters are these, is one to whom the packet was sent.
use Rattle.std.proofs.Common.{◌≡◌, ℕ, Bool, List, ◌++◌, length, Ok, ap, sym, ◌∙◌}
use Rattle.mqtt5_base.specs.Puts.{Writes}
use Rattle.mqtt5_base.specs.Texts.{Utf8}
use Rattle.mqtt5_codec.specs.declared.packet.Packet.{Packet}
use Rattle.mqtt5_codec.specs.Packets.{packet_writing}
use Rattle.broker_core.specs.Clients.{Client, bytes_or_none, frame, sent}

written : (p : Packet) (n : ℕ) (old new : List ℕ) → Writes length (packet_writing p) (Ok n) old new → new ≡ old ++ frame p
unfolding frame
written p n old new h = h.3 ∙ ap (λ bs. old ++ bs) (sym (ap bytes_or_none h.1))

pub written_is_sent : (b : Bool) (fs gs : List Utf8) (p q : Packet) (n : ℕ) (old new : List ℕ) → Writes length (packet_writing p) (Ok n) old new → fs ≡ gs → p ≡ q → record { is_connected = b; filters = fs; output = new } ≡ sent q (record { is_connected = b; filters = gs; output = old })
written_is_sent b fs gs p q n old new h e f =
    let g = written p n old new h ∙ ap (λ r. old ++ frame r) f in
    λ i. record { is_connected = b; filters = e i; output = g i }
