-- The packets of a stream of bytes, which is cut a byte at a time (MQTT 5.0 sections 2.1 and 4.2).
use Rattle.std.specs.Prelude.{ℕ, List, [], ◌∷◌, ◌++◌, Option, Result, Ok, Err}
use Rattle.mqtt5_base.specs.declared.error.Error.{Error}
use Rattle.mqtt5_base.specs.Front.{Front, Bad, More, Whole}
use Rattle.mqtt5_base.specs.FrontAt.{front}
use Rattle.mqtt5_codec.specs.declared.packet.Packet.{Packet}
use Rattle.mqtt5_codec.specs.PacketsIn.{packet_in}

-- how a stream ends: with the bytes of a frame that isn't whole yet, or with a fault
pub data Ending : Type 0 where
  Holds : (held : List ℕ) → Ending
  Breaks : (fault : Error) → Ending

-- the packets of a stream, in order, up to the first fault
pub record Cut : Type 0 where
  pub packets : List Packet
  pub ending : Ending

-- nothing but an ending
abbrev pub ends_so : Ending → Cut
ends_so e = record { packets = []; ending = e }

-- one packet, and then the others
abbrev pub with_packet : Packet → Cut → Cut
with_packet p c = record { packets = p ∷ c.packets; ending = c.ending }

-- the packet of a whole frame, or its fault
abbrev pub on_frame : Result Packet Error → Cut → Cut
on_frame (Ok p) rest = with_packet p rest
on_frame (Err e) rest = ends_so (Breaks e)

-- by what stands at the front of the bytes held
abbrev pub on_front : Front → List ℕ → (List ℕ → Cut) → Cut
on_front (Bad e) held goes_on = ends_so (Breaks e)
on_front (More n) held goes_on = goes_on held
on_front (Whole frame rest) held goes_on = on_frame (packet_in frame) (goes_on rest)

-- the packets that these bytes bring, behind those that are held; under a limit on the remaining
-- length
unfoldable pub cut_up : Option ℕ → List ℕ → List ℕ → Cut
cut_up limit [] held = ends_so (Holds held)
cut_up limit (b ∷ bytes) held =
    on_front (front limit (held ++ b ∷ [])) (held ++ b ∷ []) (λ left. cut_up limit bytes left)

-- one cut goes on as another where it ends
abbrev pub on_ending : Ending → (List ℕ → Cut) → Cut
on_ending (Holds held) goes_on = goes_on held
on_ending (Breaks e) goes_on = ends_so (Breaks e)

abbrev pub goes_on_as : Cut → (List ℕ → Cut) → Cut
goes_on_as c goes_on = record {
  packets = c.packets ++ (on_ending c.ending goes_on).packets;
  ending = (on_ending c.ending goes_on).ending;
}
