-- The Connect that the words of a client ask for (MQTT 5.0 section 3.1).
use Rattle.std.specs.Prelude.{◌≡◌, ◌<◌, ℕ, Bool, true, false, not, codes, List, [], Option, None}
use Rattle.std.specs.Prelude.{Some, option_map, unwrap_or}
use Rattle.std.specs.Str.Parse.{IsNumeral, digits_value, without_leading_plus}
use Rattle.clap.specs.declared.parser.matches.Found.{Found}
use Rattle.clap.specs.Matches.{first_value, one_text}
use Rattle.mqtt5_base.specs.declared.quality.QoS.{QoS}
use Rattle.mqtt5_base.specs.declared.quality.QoS.TheVariants as quality
use Rattle.mqtt5_connect.specs.declared.connect.ConnectProperties.{ConnectProperties}
use Rattle.mqtt5_connect.specs.declared.login.Login.{Login}
use Rattle.mqtt5_connect.specs.declared.will.LastWill.{LastWill}
use Rattle.mqtt5_connect.specs.Connects.{no_connect_properties, login_of}
use Rattle.mqtt5_codec.specs.declared.packet.Packet.{Packet}
use Rattle.mqtt5_codec.specs.declared.packet.Packet.TheVariants as packets

-- the value of an option; without one it is empty
abbrev pub value_in : Found → List ℕ → List ℕ
value_in words option = unwrap_or (first_value words option) []

-- whether a flag is given
abbrev pub IsFlag : Option (List ℕ) → Bool → Type 0
IsFlag None is_given = is_given ≡ false
IsFlag (Some word) is_given =
    (word ≡ codes "true" → is_given ≡ true) × (word ≡ codes "false" → is_given ≡ false)

-- the quality of service that an option names; without one it is 0 (4.3)
abbrev pub IsQuality : Option (List ℕ) → QoS → Type 0
IsQuality None qos = qos ≡ quality.AtMostOnce
IsQuality (Some word) qos =
    (word ≡ codes "0" → qos ≡ quality.AtMostOnce) × (word ≡ codes "1" → qos ≡ quality.AtLeastOnce)
    × (word ≡ codes "2" → qos ≡ quality.ExactlyOnce)

-- For how many seconds the broker keeps the session: as many as an option says; without one for
-- ever where the session is gone on with, and else no longer than the connection (3.1.2.11.2).
abbrev pub IsExpiry : Option (List ℕ) → Bool → Option ℕ → Type 0
IsExpiry None true seconds = seconds ≡ Some 4_294_967_295
IsExpiry None false seconds = seconds ≡ None
IsExpiry (Some word) goes_on seconds =
    IsNumeral 10 (without_leading_plus word)
    → digits_value 10 (without_leading_plus word) < 4_294_967_296
    → seconds ≡ Some (digits_value 10 (without_leading_plus word))

-- The keep alive in seconds: as an option says, and without one 0, so that no ping is due
-- (3.1.2.10).
abbrev pub IsKeepAlive : Option (List ℕ) → ℕ → Type 0
IsKeepAlive None seconds = seconds ≡ 0
IsKeepAlive (Some word) seconds =
    IsNumeral 10 (without_leading_plus word)
    → digits_value 10 (without_leading_plus word) < 65_536
    → seconds ≡ digits_value 10 (without_leading_plus word)

-- the properties that say it, and nothing else
abbrev pub expiring : ℕ → ConnectProperties
expiring seconds = record no_connect_properties { session_expiry_interval = Some seconds }

-- the will of the words, which is there where its topic is (3.1.2.5)
abbrev pub IsWill : Found → Option (List ℕ) → Option LastWill → Type 0
IsWill words None will = will ≡ None
IsWill words (Some topic) None = ⊥
IsWill words (Some topic) (Some will) =
    (will.topic ≡ topic) × (will.message ≡ value_in words (codes "will-payload"))
    × IsQuality (first_value words (codes "will-qos")) will.qos
    × IsFlag (one_text words (codes "will-retain")) will.retain
    × (will.properties ≡ None)

-- a login, which is there where a name or a password is (3.1.2.8, 3.1.2.9)
abbrev pub login_in : List ℕ → List ℕ → Option Login
login_in [] [] = None
login_in username password = Some (login_of username password)

-- all is what the words say
abbrev pub IsConnect : Found → Packet → Type 0
IsConnect words (packets.Connect connect will login) =
    IsKeepAlive (one_text words (codes "keep-alive")) connect.keep_alive
    × (connect.client_id.bytes ≡ value_in words (codes "id"))
    × IsFlag (one_text words (codes "keep")) (not connect.clean_start)
    × ((seconds : Option ℕ)
    × IsExpiry (one_text words (codes "expiry")) (not connect.clean_start) seconds
    × (connect.properties ≡ option_map expiring seconds))
    × IsWill words (first_value words (codes "will-topic")) will
    × (login ≡ login_in (value_in words (codes "username")) (value_in words (codes "password")))
IsConnect words packet = ⊥
