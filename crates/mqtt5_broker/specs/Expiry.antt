-- Messages that expire (MQTT 5.0 section 3.3.2.3.3). While the broker has one, its Message Expiry
-- Interval stands for a second of the clock that moments are of: below 2147483647 for the one at which
-- the message expires, and 2147483647 for none. From 2147483648 on it stands for the interval of a will
-- that isn't published yet, since it begins only then (3.1.3.2.4).
use Rattle.std.specs.Prelude.{ℕ, ◌+◌, ◌-◌, ◌/◌, min, nat_lt, Bool, true, false, ◌&&◌, ◌||◌, Option}
use Rattle.std.specs.Prelude.{Some, None}
use Rattle.std.specs.Prelude.{option_map, if◌then◌else◌}
use Rattle.mqtt5_publish.specs.declared.publish.PublishProperties.{PublishProperties}
use Rattle.mqtt5_codec.specs.declared.packet.Packet.{Packet}
use Rattle.mqtt5_codec.specs.declared.packet.Packet.TheVariants as packets

-- the second of a moment
abbrev pub second_of : ℕ → ℕ
second_of at = at / 1000

-- the one at which a message expires that came at a moment with an interval
abbrev pub expiry_second : ℕ → ℕ → ℕ
expiry_second at interval = min (second_of at + interval) 2147483647

-- what is left at a moment, of the second at which one expires
abbrev pub seconds_left : ℕ → ℕ → ℕ
seconds_left at second = second - second_of at

-- that of a will that isn't published yet
abbrev pub uncounted : ℕ → ℕ
uncounted interval = 2147483648 + min interval 2147483647

-- and once it is, at a moment, unless it waits still; one whose lifetime has begun keeps its second
abbrev pub begun : Bool → ℕ → ℕ → ℕ
begun waits at interval =
    if waits || nat_lt interval 2147483648 then interval
    else expiry_second at (interval - 2147483648)

-- whether one has expired, once the whole second is over
abbrev pub is_over : ℕ → Option ℕ → Bool
is_over at None = false
is_over at (Some second) = nat_lt second (second_of at) && nat_lt second 2147483647

-- ---- packets

-- the interval of a packet that comes at a moment, and of one that is sent at a moment
abbrev pub converted : Bool → ℕ → ℕ → ℕ
converted true at interval = expiry_second at interval
converted false at second = seconds_left at second

abbrev pub with_interval : Bool → ℕ → PublishProperties → PublishProperties
with_interval comes at set = record set {
  message_expiry_interval = option_map (converted comes at) set.message_expiry_interval;
}

abbrev pub with_expiry : Bool → ℕ → Packet → Packet
with_expiry comes at (packets.Publish p) =
    packets.Publish (record p { properties = option_map (with_interval comes at) p.properties })
with_expiry comes at other = other

-- a packet that comes, as the broker has it
abbrev pub dated : ℕ → Packet → Packet
dated at x = with_expiry true at x

-- one of the broker's, as it is sent
abbrev pub counted : ℕ → Packet → Packet
counted at x = with_expiry false at x
