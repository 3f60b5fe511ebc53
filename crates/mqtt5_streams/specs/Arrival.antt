-- What is done once all bytes have arrived (MQTT 5.0 sections 4.3 and 4.4).
use Rattle.std.specs.Prelude.{◌≡◌, ℕ, false, List, [], Ok}
use Rattle.std.specs.FinSet as set
use Rattle.mqtt5_codec.specs.declared.codec.Codec.{Codec}
use Rattle.mqtt5_progress.specs.Progress.{IsIdle}
use Rattle.mqtt5_streams.specs.declared.event.ByteEvent.{ByteEvent}
use Rattle.mqtt5_streams.specs.ByteWorld.{ByteWorld, clear, start_bytes, run_bytes}

-- a run without a fault, after which no byte is on its way
pub record AllArrived (codec : Codec) (limit : ℕ) (es : List ByteEvent) (w : ByteWorld) :
    Type 0 where
  pub reached : run_bytes codec es (start_bytes limit) ≡ Ok w
  pub up : w.up.stream ≡ []
  pub down : w.down.stream ≡ []

-- no reader keeps a byte, the session keeps nothing to send, and the broker waits for no release
pub record SettledBytes (w : ByteWorld) : Type 0 where
  pub up : w.up ≡ clear
  pub down : w.down ≡ clear
  pub core : IsIdle w.session.core
  pub ids : (id : ℕ) → set.contains w.broker.ids id ≡ false
