-- What a Connect, its will and its login are read as after they were written (MQTT 5.0 sections
-- 2.2.2.1 and 3.1).
use Rattle.std.specs.Prelude.{Option, Some, None, option_map, if◌then◌else◌}
use Rattle.mqtt5_base.specs.Grammar.{all_empty}
use Rattle.mqtt5_base.specs.Tidy.{tidy}
use Rattle.mqtt5_connect.specs.declared.connect.Connect.{Connect}
use Rattle.mqtt5_connect.specs.declared.will.LastWill.{LastWill}
use Rattle.mqtt5_connect.specs.declared.login.Login.{Login}
use Rattle.mqtt5_connect.specs.Connects.{connect_found, will_found, login_values}

-- an empty property set is none (2.2.2.1)
abbrev pub connect_norm : Connect → Connect
connect_norm c = record c { properties = tidy connect_found c.properties }

-- the same of a will
abbrev pub will_norm : Option LastWill → Option LastWill
will_norm will =
    option_map (λ (w : LastWill). record w { properties = tidy will_found w.properties }) will

-- a login of two empty texts is none
abbrev pub login_norm : Option Login → Option Login
login_norm None = None
login_norm (Some l) = if all_empty (login_values l) then None else Some l
