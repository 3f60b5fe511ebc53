-- How a message is shown.
use Rattle.std.specs.Prelude.{◌≡◌, ℕ, ◌+◌, ◌/◌, ◌%◌, Bool, nat_lt, nat_eq, not, ◌&&◌, ◌||◌, cond}
use Rattle.std.specs.Prelude.{List, [], ◌∷◌, ◌++◌}
use Rattle.mqtt5_publish.specs.declared.publish.Publish.{Publish}

-- a hexadecimal digit
abbrev pub digit : ℕ → ℕ
digit n = cond (nat_lt n 10) (48 + n) (87 + n)

-- A byte stands as it is where it prints in ASCII and is no backslash, and in a text also where it
-- is beyond ASCII.
abbrev pub is_plain : Bool → ℕ → Bool
is_plain is_text b =
    (not (nat_lt b 32) && nat_lt b 127 && not (nat_eq b 92)) || (is_text && not (nat_lt b 128))

-- else it is a backslash, an x and two digits
abbrev pub shown_byte : Bool → ℕ → List ℕ
shown_byte is_text b =
    cond (is_plain is_text b) (b ∷ []) (92 ∷ 120 ∷ digit (b / 16) ∷ digit (b % 16) ∷ [])

abbrev pub escaped : Bool → List ℕ → List ℕ
escaped is_text [] = []
escaped is_text (b ∷ bytes) = shown_byte is_text b ++ escaped is_text bytes

-- what stands before the payload: the topic and a space, or nothing
abbrev pub before : Bool → List ℕ → List ℕ
before with_topic topic = cond with_topic (topic ++ 32 ∷ []) []

-- the message and a newline
abbrev pub raw : Bool → Bool → Publish → List ℕ
raw with_topic with_newline p =
    before with_topic p.topic ++ p.payload ++ cond with_newline (10 ∷ []) []

-- the line of a message, in which topic and payload are escaped, each as a text or not
abbrev pub IsLine : Bool → Publish → List ℕ → Type 0
IsLine with_topic p line =
    (topic_is : Bool) × (payload_is : Bool)
    × (line
    ≡ before with_topic (escaped topic_is p.topic) ++ escaped payload_is p.payload ++ 10 ∷ [])
