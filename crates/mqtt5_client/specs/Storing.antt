-- A client whose session outlived its process (MQTT 5.0 section 4.1).
use Rattle.std.specs.Prelude.{◌≡◌, false, []}
use Rattle.mqtt5_codec.specs.Codecs.{no_limits}
use Rattle.mqtt5_session.specs.Session.{Core}
use Rattle.mqtt5_session.specs.Parts.{session_of}
use Rattle.mqtt5_client.specs.declared.client.Client.{Client}

-- one with a session of this core in which nothing happened, and else as a new one
abbrev pub IsLoaded : Core → Client → Type 0
IsLoaded core c =
    (c.state ≡ session_of core) × (c.codec ≡ no_limits) × (c.input.items ≡ [])
    × (c.output.items ≡ []) × (c.disconnected ≡ false)
