-- What each later Connect says: a login and a will (MQTT 5.0 section 3.1.3).
use Rattle.std.specs.Prelude.{◌≡◌, ◌<◌, ◌⊎◌, ℕ, Bool, List, [], Option, Some, None, IsSome, IfSome}
use Rattle.std.specs.Str.{IsUtf8}
use Rattle.mqtt5_base.specs.Views.{qos_number}
use Rattle.mqtt5_base.specs.declared.quality.QoS.{QoS}
use Rattle.mqtt5_base.specs.declared.property.Property.{Property}
use Rattle.mqtt5_connect.specs.declared.will.LastWill.{LastWill}
use Rattle.mqtt5_connect.specs.declared.will.LastWillProperties.{LastWillProperties}
use Rattle.mqtt5_connect.specs.Connects.{login_of, will_found}
use Rattle.mqtt5_connect.specs.Rows.{will_table}
use Rattle.mqtt5_base.specs.Texts.{text_of}
use Rattle.mqtt5_options.specs.Options.{Settings, defaults}
use Rattle.mqtt5_holder.specs.declared.holder.Holder.{Holder}
use Rattle.mqtt5_properties.specs.Gathering.{IsSet}
use Rattle.mqtt5_c.specs.Asked.{IsDeclined}
use Rattle.mqtt5_c.specs.Topics.{IsTopic}
use Rattle.mqtt5_c.specs.Numbers.{no_client, out_of_memory}

-- the settings with this user name and this password (3.1.3.5, 3.1.3.6)
abbrev pub with_login : List ℕ → List ℕ → Settings → Settings
with_login user_name password s = record s { credentials = Some (login_of user_name password) }

-- the settings with this will (3.1.2.5)
abbrev pub with_will : LastWill → Settings → Settings
with_will will s = record s { last_will = Some will }

-- what can't be the topic of a will (4.7), or a QoS above 2 (3.1.2.6)
abbrev pub IsBadWill : List ℕ → ℕ → Type 0
IsBadWill topic quality = ¬ (IsTopic topic) ⊎ (2 < quality)

-- a will of this topic, payload, QoS and retain, without properties (3.1.3.3, 3.1.3.4)
abbrev pub IsWill : List ℕ → List ℕ → ℕ → Bool → LastWill → Type 0
IsWill topic payload quality retain will =
    IsTopic topic × (q : QoS) × (qos_number q ≡ quality)
    × (will
    ≡ record { topic = topic; message = payload; qos = q; retain = retain; properties = None })

-- without a client nothing is set, and the answer is 200; else it is set, or memory is refused, and
-- all is as before
abbrev pub Sets : (Settings → Settings) → Option Holder → ℕ → Option Holder → Type 0
Sets settles None code after = (code ≡ no_client) × (after ≡ None)
Sets settles (Some old) code after =
    ((code ≡ 0) × (after ≡ Some (record old { settings = settles old.settings })))
    ⊎ ((code ≡ out_of_memory) × (after ≡ Some old))

-- A call is declined, and the handle is as before; or name and password are UTF-8, and the login is
-- set.
pub data LoginSet (user_name password : List ℕ) (before : Option Holder) (code : ℕ)
    (after : Option Holder) : Type 0 where
  Declined : IsDeclined (¬ (IsUtf8 user_name) ⊎ ¬ (IsUtf8 password)) code → after ≡ before
      → LoginSet user_name password before code after
  Put : IsUtf8 user_name → IsUtf8 password → Sets (with_login user_name password) before code after
      → LoginSet user_name password before code after

-- A call is declined, and the handle is as before; or such a will is set, with these properties
-- (3.1.3.2).
pub data WillSet (Bad : Type 0) (Is : LastWill → Type 0) (properties : List Property)
    (before : Option Holder) (code : ℕ) (after : Option Holder) : Type 0 where
  Declined : IsDeclined Bad code → after ≡ before → WillSet Bad Is properties before code after
  Put : (will : LastWill) → (set : Option LastWillProperties) → Is will
      → IsSet will_found will_table properties set
      → Sets (with_will (record will { properties = set })) before code after
      → WillSet Bad Is properties before code after

-- login, will and both lists are those of a new client; or memory is refused, and all is as before
abbrev pub Forgot : Holder → ℕ → Holder → Type 0
Forgot old code new =
    ((code ≡ 0)
    × (new
    ≡ record old {
      settings = defaults (text_of []) (text_of []) 0;
      properties = [];
      filters = [];
    }))
    ⊎ ((code ≡ out_of_memory) × (new ≡ old))

-- the same of a handle, which is answered by 200 without a client
abbrev pub Forgets : Option Holder → ℕ → Option Holder → Type 0
Forgets None code after = (code ≡ no_client) × (after ≡ None)
Forgets (Some old) code after = IsSome after × IfSome after (λ new. Forgot old code new)
