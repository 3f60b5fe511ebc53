-- A handle as C holds it: it says truly whether it has a broker.
use Rattle.std.specs.Prelude.{◌≡◌, is_some}
use Rattle.mqtt5_broker_c.specs.declared.handle.Handle.{Handle}

abbrev pub IsKept : Handle → Type 0
IsKept h = h.live ≡ is_some h.broker_ptr.value
