-- One packet more is taken from a stream and served.
use Rattle.std.proofs.Common.{◌≡◌, ℕ, List, [], ◌∷◌, ◌++◌, Option, None, subst, refl}
use Rattle.mqtt5_codec.specs.declared.packet.Packet.{Packet}
use Rattle.mqtt5_codec.specs.Packets.{IsFrameOf}
use Rattle.mqtt5_codec.specs.Codecs.{TakesFrame}
use Rattle.broker_core.specs.Clients.{Client, AreTaken, AreServed, refusal_of, served}

pub taken_more : (limit : Option ℕ) (ps : List Packet) (p : Packet) (old between new : List ℕ) → AreTaken limit ps old between → TakesFrame (λ frame. IsFrameOf frame p) limit between new → AreTaken limit (ps ++ p ∷ []) old new
taken_more limit [] p old between new t h = (new, subst (λ s. TakesFrame (λ frame. IsFrameOf frame p) limit s new) t h, refl)
taken_more limit (q ∷ ps) p old between new t h = (t.0, t.1, taken_more limit ps p t.0 between new t.2 h)

pub served_more : (id : ℕ) (ps : List Packet) (p : Packet) (old between new : List Client) → AreServed id ps old between → refusal_of id p between ≡ None → new ≡ served id p between → AreServed id (ps ++ p ∷ []) old new
served_more id [] p old between new t h e = subst (λ cs. (refusal_of id p cs ≡ None) × (new ≡ served id p cs)) t (h, e)
served_more id (q ∷ ps) p old between new t h e = (t.0, served_more id ps p (served id q old) between new t.1 h e)
