-- The whole frames at the front of what a reader has (MQTT 5.0 section 2.1).
use Rattle.std.specs.Prelude.{ℕ, zero, suc, List, length, Option}
use Rattle.mqtt5_base.specs.declared.error.Error.{Error}
use Rattle.mqtt5_base.specs.Front.{Front, Bad, More, Whole}
use Rattle.mqtt5_base.specs.FrontAt.{front}

-- whole frames, each with the bytes after it; then bytes that wait for more, or that can't be a
-- frame
pub data Frames : Type 0 where
  Waits : Frames
  Breaks : Error → Frames
  Takes : (frame rest : List ℕ) (others : Frames) → Frames

-- by the front
abbrev pub cut_by : Front → (List ℕ → Frames) → Frames
cut_by (Bad e) go_on = Breaks e
cut_by (More n) go_on = Waits
cut_by (Whole frame rest) go_on = Takes frame rest (go_on rest)

-- so many frames at most
abbrev pub frames_in : ℕ → Option ℕ → List ℕ → Frames
frames_in zero limit bytes = Waits
frames_in (suc n) limit bytes = cut_by (front limit bytes) (frames_in n limit)

-- all: each takes a byte at least
unfoldable pub frames : Option ℕ → List ℕ → Frames
frames limit bytes = frames_in (suc (length bytes)) limit bytes

-- how many they are
abbrev pub count : Frames → ℕ
count Waits = 0
count (Breaks e) = 0
count (Takes frame rest others) = suc (count others)
