-- What is shown of a stream of frames.
use Rattle.std.specs.Prelude.{◌≡◌, ℕ, Bool, true, false, List, [], ◌∷◌, ◌++◌, Option, Some, None}
use Rattle.std.specs.Prelude.{Result, Ok, Err}
use Rattle.std.specs.Io.KnownBytes.{Consumes}
use Rattle.mqtt5_base.specs.Front.{NeedsMore}
use Rattle.mqtt5_base.specs.FrontAt.{front}
use Rattle.mqtt5_codec.specs.declared.packet.Packet.{Packet}
use Rattle.mqtt5_codec.specs.Codecs.{TakesFrame, Decodes}
use Rattle.mqtt5_codec.specs.Packets.{IsFrameOf}
use Rattle.mqtt5_show.specs.declared.ending.Stop.{Stop}
use Rattle.mqtt5_show.specs.declared.ending.Stop.TheVariants as stops

-- The whole frames at the front of a stream were taken out, and the packet of each was shown, in
-- order (MQTT 5.0 section 2.1).
abbrev pub ShowsAll : {S : Type 0} → (S → Packet → S → Type 0) → Option ℕ → List ℕ → S → List Packet
    → List ℕ → S → Type 0
ShowsAll shows limit old s [] new t = (new ≡ old) × (t ≡ s)
ShowsAll {S} shows limit old s (p ∷ ps) new t =
    (rest : List ℕ) × (next : S) × TakesFrame (λ frame. IsFrameOf frame p) limit old rest
    × shows s p next × ShowsAll shows limit rest next ps new t

-- one packet was shown, or the frame at the front needs more bytes, or it has a fault (2.1, 4.13.1)
abbrev pub ShowsOne : {S : Type 0} → (S → Packet → S → Type 0) → Option ℕ → Result Bool Stop
    → List ℕ → S → List ℕ → S → Type 0
ShowsOne shows limit (Ok true) old s new t =
    (p : Packet) × Decodes (Ok (Some p)) limit old new × shows s p t
ShowsOne shows limit (Ok false) old s new t = Decodes (Ok None) limit old new × (t ≡ s)
ShowsOne shows limit (Err (stops.Fault e)) old s new t = Decodes (Err e) limit old new × (t ≡ s)
ShowsOne shows limit (Err stop) old s new t = Unit {0}

-- all whole frames were shown, up to one that needs more bytes, or to one that has a fault (2.1,
-- 4.13.1)
abbrev pub ShowsFrames : {S : Type 0} → (S → Packet → S → Type 0) → Option ℕ → Result Unit Stop
    → List ℕ → S → List ℕ → S → Type 0
ShowsFrames shows limit (Ok done) old s new t =
    (ps : List Packet) × ShowsAll shows limit old s ps new t × NeedsMore (front limit new)
ShowsFrames shows limit (Err (stops.Fault e)) old s new t =
    (ps : List Packet) × (rest : List ℕ) × ShowsAll shows limit old s ps rest t
    × Decodes (Err e) limit rest new
ShowsFrames shows limit (Err stop) old s new t = Unit {0}
