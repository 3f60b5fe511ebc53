-- What a call leaves of a handle's broker, what it writes to C's places, and the number that it
-- answers.
use Rattle.std.specs.Prelude.{◌≡◌, ◌⊎◌, ℕ, Bool, not, nat_lt, ◌&&◌, List, [], ◌++◌, length, min}
use Rattle.std.specs.Prelude.{take, drop, replicate, Option, None, Some, IsSome, option_map}
use Rattle.std.specs.Prelude.{⊤, if◌then◌else◌}
use Rattle.std.specs.Str.{is_utf8}
use Rattle.mqtt5_base.specs.Topics.{is_valid_filter}
use Rattle.mqtt5_control.specs.declared.connack.ConnectReturnCode.{ConnectReturnCode}
use Rattle.mqtt5_control.specs.declared.connack.ConnectReturnCode.TheVariants as codes
use Rattle.mqtt5_broker.specs.declared.asking.Asks.{Asks}
use Rattle.mqtt5_broker.specs.declared.asking.Asks.TheVariants as asks
use Rattle.mqtt5_broker.specs.Broker.{Broker, no_bounds}
use Rattle.mqtt5_broker.specs.Connection.{closed, connection_at}
use Rattle.mqtt5_broker_c.specs.Numbers.{done, no_broker, bad_argument, out_of_memory}

-- the number of a call that is done, or that there is no broker for
abbrev pub done_of : Option Broker → ℕ
done_of None = no_broker
done_of (Some b) = done

-- It is done: the broker changed so. Without a broker there is still none.
abbrev pub Does : (Broker → Broker) → Option Broker → ℕ → Option Broker → Type 0
Does changes before code after = (code ≡ done_of before) × (after ≡ option_map changes before)

-- nothing is changed
abbrev pub Looks : Option Broker → ℕ → Option Broker → Type 0
Looks before code after = (code ≡ done_of before) × (after ≡ before)

-- memory was refused to a broker, and there still is one, of which nothing is said
abbrev pub IsRefused : Option Broker → ℕ → Option Broker → Type 0
IsRefused before code after = (code ≡ out_of_memory) × IsSome before × IsSome after

-- it is done, or memory was refused
abbrev pub DoesOrIsRefused : (Broker → Broker) → Option Broker → ℕ → Option Broker → Type 0
DoesOrIsRefused changes before code after =
    Does changes before code after ⊎ IsRefused before code after

-- memory was refused to a broker, which changed so
abbrev pub IsLeft : (Broker → Broker) → Option Broker → ℕ → Option Broker → Type 0
IsLeft changes before code after =
    (code ≡ out_of_memory) × IsSome before × (after ≡ option_map changes before)

-- it is done, or memory was refused and the broker changed otherwise
abbrev pub DoesOrLeaves : (Broker → Broker) → (Broker → Broker) → Option Broker → ℕ → Option Broker
    → Type 0
DoesOrLeaves changes otherwise before code after =
    Does changes before code after ⊎ IsLeft otherwise before code after

-- what is at a place of C's after a call: what the broker tells, or else what was there
abbrev pub told : {A : Type 0} → (Broker → A) → Option Broker → A → A
told tells None was = was
told tells (Some b) was = tells b

-- how many of these bytes a buffer has room for
abbrev pub fitting : List ℕ → List ℕ → ℕ
fitting bytes buffer = min (length bytes) (length buffer)

-- a buffer with these bytes over its beginning, as many as fit
abbrev pub over : List ℕ → List ℕ → List ℕ
over bytes buffer = take (fitting bytes buffer) bytes ++ drop (fitting bytes buffer) buffer

-- whether a connection of this number would begin
abbrev pub may_begin : ℕ → Broker → Bool
may_begin c b =
    nat_lt c (length b.connections) && not (connection_at c b.connections).is_open

-- a broker with no client, for so many connections
abbrev pub fresh : ℕ → ℕ → ℕ → ℕ → ℕ → ℕ → ℕ → Broker
fresh connections longest ids wait alias_max keep_alive_max first_name = record {
  sessions = record { clients = []; retained = [] };
  groups = [];
  members = [];
  connections = replicate connections closed;
  rights = [];
  limit = ids;
  longest = longest;
  wait = wait;
  alias_max = alias_max;
  keep_alive_max = keep_alive_max;
  bounds = no_bounds;
  moment = 0;
  next_name = first_name;
  dropped = 0;
}

-- ---- who wants to connect

-- the broker as it was
abbrev pub unchanged : Broker → Broker
unchanged b = b

-- as a number
abbrev pub asks_number : Asks → ℕ
asks_number asks.Nobody = 0
asks_number asks.Unnamed = 1
asks_number (asks.Named login) = 2

-- the name and the password, or nothing
abbrev pub user_in : Asks → List ℕ
user_in (asks.Named login) = login.username.bytes
user_in other = []

abbrev pub password_in : Asks → List ℕ
password_in (asks.Named login) = login.password.bytes
password_in other = []

-- why one is turned away that said who it is, or didn't (3.2.2.2)
abbrev pub code_for : Bool → ConnectReturnCode
code_for named = if named then codes.BadUserNamePassword else codes.NotAuthorized

-- ---- users

-- whether there is a user of this number
abbrev pub has_user : ℕ → Broker → Bool
has_user u b = nat_lt u (length b.rights)

-- whether bytes are a topic filter (4.7), and there is a user of this number
abbrev pub takes_filter : ℕ → List ℕ → Broker → Bool
takes_filter u f b = is_utf8 f && is_valid_filter f && has_user u b

-- the number of a call that takes some arguments alone
abbrev pub done_if : (Broker → Bool) → Option Broker → ℕ
done_if takes None = no_broker
done_if takes (Some b) = if takes b then done else bad_argument

-- It is done where the arguments are taken, and else nothing changes; or memory was refused.
abbrev pub DoesIf : (Broker → Bool) → (Broker → Broker) → Option Broker → ℕ → Option Broker → Type 0
DoesIf takes changes before code after =
    ((code ≡ done_if takes before)
    × (after ≡ option_map (λ (b : Broker). if takes b then changes b else b) before))
    ⊎ IsLeft unchanged before code after

-- ---- the numbers of clients

-- a number that is told, if there is one
abbrev pub given : Bool → ℕ → Option ℕ
given some number = if some then Some number else None

-- something holds of a handle's broker, if it has one
abbrev pub HoldsOf : (Broker → Type 0) → Option Broker → Type 0
HoldsOf Holds None = ⊤
HoldsOf Holds (Some b) = Holds b
