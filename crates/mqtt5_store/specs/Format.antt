-- A stored session as bytes: a head of 26 bytes, and frames of MQTT 5.0. Numbers stand with the
-- high byte first.
use Rattle.std.specs.Prelude.{◌≡◌, ℕ, zero, suc, ◌-◌, Bool, true, false, not, List, [], ◌∷◌, ◌++◌}
use Rattle.std.specs.Prelude.{length, take, drop, Option, Some, None, Result, Ok, Err, ◌==◌, nat_lt}
use Rattle.std.specs.Prelude.{map, is_some, option_map, if◌then◌else◌}
use Rattle.std.specs.Int.{w16, w32, w64, to_be_bytes, from_be_bytes}
use Rattle.mqtt5_base.specs.declared.error.Error.{Error}
use Rattle.mqtt5_base.specs.Front.{Front, Bad, More, Whole}
use Rattle.mqtt5_base.specs.FrontAt.{front}
use Rattle.mqtt5_publish.specs.declared.publish.Publish.{Publish}
use Rattle.mqtt5_publish.specs.Norms.{publish_norm}
use Rattle.mqtt5_codec.specs.declared.packet.Packet.{Packet}
use Rattle.mqtt5_codec.specs.declared.packet.Packet.TheVariants as packets
use Rattle.mqtt5_codec.specs.Norms.{norm}
use Rattle.mqtt5_codec.specs.PacketsIn.{packet_in}
use Rattle.mqtt5_session.specs.declared.parts.Numbers.{Numbers}
use Rattle.mqtt5_session.specs.declared.parts.PartsError.{PartsError}
use Rattle.mqtt5_session.specs.Session.{Core}
use Rattle.mqtt5_session.specs.Parts.{stored_core, core_of_parts}
use Rattle.mqtt5_store.specs.declared.error.StoreError.{StoreError}
use Rattle.mqtt5_store.specs.declared.error.StoreError.TheVariants as store
use Rattle.mqtt5_store.specs.declared.head.Head.{Head}
use Rattle.mqtt5_store.specs.Errors.{fault_of, fault_of_parts}

-- one after the other, to the first error
infixl 10 ◌>>=◌
abbrev pub ◌>>=◌ : {A B : Type 0} → Result A StoreError → (A → Result B StoreError)
    → Result B StoreError
(Ok x) >>= f = f x
(Err e) >>= f = Err e

-- ---- the head

-- the first four bytes, the text MQ5S, as a number; and the version of this format
abbrev pub magic : ℕ
magic = 1_297_167_699

abbrev pub version : ℕ
version = 1

-- a flag as a number, and whether it is set
abbrev pub flag : Bool → ℕ
flag true = 1
flag false = 0

abbrev pub is_set : ℕ → Bool
is_set n = not (n == 0)

-- the head's bytes: the text, the version, the limit, the current maximum, the last id, the maximum
-- of topic aliases, whether the user sends the acks, whether a publish waits, and how many frames
-- follow beside that one's
abbrev pub head_bytes : Numbers → Bool → ℕ → List ℕ
head_bytes n waits count =
    to_be_bytes w32 magic
    ++ (to_be_bytes w16 version
    ++ (to_be_bytes w16 n.limit
    ++ (to_be_bytes w16 n.current
    ++ (to_be_bytes w16 n.last
    ++ (to_be_bytes w16 n.alias_max
    ++ (to_be_bytes w16 (flag n.manual_acks)
    ++ (to_be_bytes w16 (flag waits)
    ++ to_be_bytes w64 count)))))))

-- its numbers
abbrev pub head_for : Numbers → Bool → ℕ → Head
head_for n waits count = record {
  magic = magic;
  version = version;
  limit = n.limit;
  current = n.current;
  last = n.last;
  alias_max = n.alias_max;
  manual_acks = flag n.manual_acks;
  waits = flag waits;
  count = count;
}

-- a number of two bytes at the front
abbrev pub word : List ℕ → ℕ
word bs = from_be_bytes w16 (take 2 bs)

-- the numbers in the bytes of a head
abbrev pub head_of : List ℕ → Head
head_of bs = record {
  magic = from_be_bytes w32 (take 4 bs);
  version = word (drop 4 bs);
  limit = word (drop 2 (drop 4 bs));
  current = word (drop 2 (drop 2 (drop 4 bs)));
  last = word (drop 2 (drop 2 (drop 2 (drop 4 bs))));
  alias_max = word (drop 2 (drop 2 (drop 2 (drop 2 (drop 4 bs)))));
  manual_acks = word (drop 2 (drop 2 (drop 2 (drop 2 (drop 2 (drop 4 bs))))));
  waits = word (drop 2 (drop 2 (drop 2 (drop 2 (drop 2 (drop 2 (drop 4 bs)))))));
  count =
      from_be_bytes w64
      (take 8
      (drop 2 (drop 2 (drop 2 (drop 2 (drop 2 (drop 2 (drop 2 (drop 4 bs)))))))));
}

-- a head of this format, before these bytes
abbrev pub head_before : Head → List ℕ → Result (Head × List ℕ) StoreError
head_before h rest =
    if h.magic == magic
    then (if h.version == version then Ok (h, rest) else Err (store.Version h.version))
    else Err store.Foreign

-- the head at the front of bytes, and the bytes after it
unfoldable pub head_at : List ℕ → Result (Head × List ℕ) StoreError
head_at bs =
    if nat_lt (length bs) 26 then Err (store.Cut (26 - length bs))
    else head_before (head_of (take 26 bs)) (drop 26 bs)

-- ---- the frames

-- the packet of a whole frame, before these bytes; or its fault (4.13.1)
abbrev pub of_frame : Result Packet Error → List ℕ → Result (Packet × List ℕ) StoreError
of_frame (Ok p) rest = Ok (p, rest)
of_frame (Err e) rest = Err (fault_of e)

abbrev pub of_front : Front → Result (Packet × List ℕ) StoreError
of_front (Bad e) = Err (fault_of e)
of_front (More n) = Err (store.Cut n)
of_front (Whole frame rest) = of_frame (packet_in frame) rest

-- the packet at the front of bytes, and the bytes after it (2.1)
unfoldable pub packet_at : List ℕ → Result (Packet × List ℕ) StoreError
packet_at bs = of_front (front None bs)

-- so many more packets, after those
abbrev pub packets_at : ℕ → List Packet → List ℕ → Result (List Packet × List ℕ) StoreError
packets_at zero ps bs = Ok (ps, bs)
packets_at (suc n) ps bs = packet_at bs >>= λ x. packets_at n (ps ++ x.0 ∷ []) x.1

-- the publish that waits is the first, where one does
abbrev pub as_waiting : Packet → List ℕ → Result (Option Publish × List ℕ) StoreError
as_waiting (packets.Publish p) rest = Ok (Some p, rest)
as_waiting other rest = Err store.NotStored

abbrev pub waiting_at : Bool → List ℕ → Result (Option Publish × List ℕ) StoreError
waiting_at true bs = packet_at bs >>= λ x. as_waiting x.0 x.1
waiting_at false bs = Ok (None, bs)

-- ---- the session

-- the numbers of a head
abbrev pub numbers_in : Head → Numbers
numbers_in h = record {
  limit = h.limit;
  current = h.current;
  last = h.last;
  alias_max = h.alias_max;
  manual_acks = is_set h.manual_acks;
}

-- the core that is made of parts, before these bytes; or their fault
abbrev pub core_before : Result Core PartsError → List ℕ → Result (Core × List ℕ) StoreError
core_before (Ok c) rest = Ok (c, rest)
core_before (Err e) rest = Err (fault_of_parts e)

-- the core at the front of bytes, and the bytes after it; or the first fault
abbrev pub core_at : List ℕ → Result (Core × List ℕ) StoreError
core_at bs =
    head_at bs
    >>= λ h. waiting_at (is_set h.0.waits) h.1
    >>= λ w. packets_at h.0.count [] w.1
    >>= λ ps. core_before (core_of_parts (numbers_in h.0) w.0 ps.0) ps.1

-- these bytes, whatever follows, are read as this core is stored, and what follows is left
abbrev pub IsStored : List ℕ → Core → Type 0
IsStored bytes c = (rest : List ℕ) → core_at (bytes ++ rest) ≡ Ok (stored_core c, rest)

-- these bytes, whatever follows, are read as this packet, and what follows is left
abbrev pub IsPacket : List ℕ → Packet → Type 0
IsPacket bytes p = (rest : List ℕ) → packet_at (bytes ++ rest) ≡ Ok (p, rest)

-- so these, as what was written of these packets (2.2.2.1)
abbrev pub ArePackets : List ℕ → List Packet → Type 0
ArePackets bytes ps =
    (before : List Packet) (rest : List ℕ)
    → packets_at (length ps) before (bytes ++ rest) ≡ Ok (before ++ map norm ps, rest)

-- so these, as the publish that waits
abbrev pub IsWaiting : List ℕ → Option Publish → Type 0
IsWaiting bytes w =
    (rest : List ℕ)
    → waiting_at (is_some w) (bytes ++ rest) ≡ Ok (option_map publish_norm w, rest)

-- bytes of which that is said were appended
abbrev pub Appends : (List ℕ → Type 0) → List ℕ → List ℕ → Type 0
Appends IsSaid old new = (bytes : List ℕ) × (new ≡ old ++ bytes) × IsSaid bytes
