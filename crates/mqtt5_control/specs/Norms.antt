-- What ConnAck, Disconnect and Auth are read as after they were written (MQTT 5.0 section 2.2.2.1).
use Rattle.mqtt5_base.specs.Tidy.{tidy}
use Rattle.mqtt5_control.specs.declared.connack.ConnAck.{ConnAck}
use Rattle.mqtt5_control.specs.declared.disconnect.Disconnect.{Disconnect}
use Rattle.mqtt5_control.specs.declared.auth.Auth.{Auth}
use Rattle.mqtt5_control.specs.ConnAcks.{connack_found}
use Rattle.mqtt5_control.specs.Disconnects.{disconnect_found}
use Rattle.mqtt5_control.specs.Auths.{auth_found}

-- an empty property set is none
abbrev pub connack_norm : ConnAck → ConnAck
connack_norm a = record a { properties = tidy connack_found a.properties }

-- the same of a Disconnect
abbrev pub disconnect_norm : Disconnect → Disconnect
disconnect_norm d = record d { properties = tidy disconnect_found d.properties }

-- the same of an Auth
abbrev pub auth_norm : Auth → Auth
auth_norm a = record a { properties = tidy auth_found a.properties }
