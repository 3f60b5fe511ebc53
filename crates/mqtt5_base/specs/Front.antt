-- What stands at the front of a stream of frames, under a limit on the remaining length (MQTT 5.0
-- section 2.1).
use Rattle.std.specs.Prelude.{◌≡◌, ℕ, ◌-◌, ◌<◌, ◌≤◌, List, [], ◌∷◌, ◌++◌, length, Option, Some}
use Rattle.std.specs.Prelude.{None}
use Rattle.mqtt5_base.specs.declared.error.Error.{Error}
use Rattle.mqtt5_base.specs.declared.error.Error.TheVariants.{MalformedRemainingLength}
use Rattle.mqtt5_base.specs.declared.error.Error.TheVariants.{PayloadSizeLimitExceeded}
use Rattle.mqtt5_base.specs.declared.error.Error.TheVariants.{InsufficientBytes}
use Rattle.mqtt5_base.specs.VarInt.{VarInt}
use Rattle.mqtt5_base.specs.Faults.{GoOn}
use Rattle.mqtt5_base.specs.Frames.{IsWhole}

-- nothing that is read, so many bytes more are needed, or a whole frame and the bytes after it
pub data Front : Type 0 where
  Bad : Error → Front
  More : ℕ → Front
  Whole : (frame rest : List ℕ) → Front

-- more bytes are needed
abbrev pub NeedsMore : Front → Type 0
NeedsMore f = (n : ℕ) × (f ≡ More n)

-- a limit, if there is one, admits a remaining length (2.1.4)
abbrev pub Admits : Option ℕ → ℕ → Type 0
Admits None n = Unit {0}
Admits (Some max) n = n ≤ max

-- Which front each stream has under a limit: of no byte, of four bytes of the remaining length that
-- each say that another follows, of a remaining length over the limit, also before the frame is
-- whole, of a first byte and at most three bytes that each say that another follows, of a body that
-- is cut short, and of a whole frame and what follows it (2.1.4).
pub record IsFound (limit : Option ℕ) (f : List ℕ → Front) : Type 0 where
  pub nothing : f [] ≡ More 2
  pub overlong : (first : ℕ) (len rest : List ℕ) → GoOn len → length len ≡ 4
      → f (first ∷ (len ++ rest)) ≡ Bad MalformedRemainingLength
  pub over : (first n max : ℕ) (len rest : List ℕ) → limit ≡ Some max → VarInt len n → max < n
      → f (first ∷ (len ++ rest)) ≡ Bad (PayloadSizeLimitExceeded n max)
  pub unfinished : (first : ℕ) (len : List ℕ) → GoOn len → length len < 4 → f (first ∷ len) ≡ More 1
  pub missing : (first n : ℕ) (len body : List ℕ) → VarInt len n → Admits limit n → length body < n
      → f (first ∷ (len ++ body)) ≡ More (n - length body)
  pub found : (first : ℕ) (frame body rest : List ℕ) → IsWhole frame first body
      → Admits limit (length body) → f (frame ++ rest) ≡ Whole frame rest

-- What is decided of a stream stays so when bytes come, and a frame is whole with its last byte.
pub record IsFront (f : List ℕ → Front) : Type 0 where
  pub bad : (s more : List ℕ) (e : Error) → f s ≡ Bad e → f (s ++ more) ≡ Bad e
  pub whole : (s more frame rest : List ℕ) → f s ≡ Whole frame rest
      → f (s ++ more) ≡ Whole frame (rest ++ more)
  -- the parts are the stream, and the first a frame
  pub parts : (s frame rest : List ℕ) → f s ≡ Whole frame rest → s ≡ frame ++ rest
  pub shape : (s frame rest : List ℕ) → f s ≡ Whole frame rest
      → (first : ℕ) × (body : List ℕ) × IsWhole frame first body
  pub shorter : (s frame rest : List ℕ) → f s ≡ Whole frame rest → length rest < length s
  pub tight : (s : List ℕ) (b n : ℕ) (frame rest : List ℕ) → f s ≡ More n
      → f (s ++ b ∷ []) ≡ Whole frame rest → rest ≡ []
  -- a stream that needs n bytes isn't whole before n more
  pub wants : (s more : List ℕ) (n : ℕ) (frame rest : List ℕ) → f s ≡ More n
      → f (s ++ more) ≡ Whole frame rest → n ≤ length more

-- the front that an error of `check` tells of
abbrev pub front_of_error : Error → Front
front_of_error (InsufficientBytes n) = More n
front_of_error e = Bad e
