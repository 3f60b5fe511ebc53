-- What a writer did to a connection.
use Rattle.std.proofs.Common.{◌≡◌, ◌≢◌, ℕ, List, length, Result, Ok, Err, ap, sym, ◌∙◌, inl, inr}
use Rattle.mqtt5_base.specs.declared.error.Error.{Error}
use Rattle.mqtt5_base.specs.declared.error.Error.TheVariants.{OutOfMemory}
use Rattle.mqtt5_base.specs.Puts.{Writes}
use Rattle.mqtt5_codec.specs.declared.packet.Packet.{Packet}
use Rattle.mqtt5_codec.specs.Packets.{writing_under}
use Rattle.mqtt5_broker.specs.Connection.{Connection, with_bytes, written}

pub written_ok : (p : Packet) (l : Connection) (n : ℕ) (new : List ℕ) → Writes length (writing_under l.longest p) (Ok n) l.output new → record l { output = new } ≡ written p l
unfolding written
written_ok p l n new h = ap (λ (x : List ℕ). record l { output = x }) h.3 ∙ sym (ap (λ (r : Result (List ℕ) Error). with_bytes r l) h.1)

-- a packet that can't be written isn't
pub written_not : (p : Packet) (l : Connection) (e : Error) (new : List ℕ) → e ≢ OutOfMemory → Writes length (writing_under l.longest p) (Err e) l.output new → record l { output = new } ≡ written p l
unfolding written
written_not p l e new ne (same, inl h) = absurd (ne h.0)
written_not p l e new ne (same, inr h) = ap (λ (x : List ℕ). record l { output = x }) same ∙ sym (ap (λ (r : Result (List ℕ) Error). with_bytes r l) h)
