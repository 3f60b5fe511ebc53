-- A handle as C holds it: it says truly whether it has a client, and that client can go on.
use Rattle.std.specs.Prelude.{◌≡◌, is_some, IfSome}
use Rattle.mqtt5_client.specs.Client.{IsReady}
use Rattle.mqtt5_c.specs.declared.handle.Handle.{Handle}

abbrev pub IsKept : Handle → Type 0
IsKept h = (h.live ≡ is_some h.client_ptr.value) × IfSome h.client_ptr.value (λ x. IsReady x.client)
