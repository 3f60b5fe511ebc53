-- A session as bytes, and the client that is made of them in a handle (MQTT 5.0 section 4.1).
use Rattle.std.specs.Prelude.{◌≡◌, ◌⊎◌, ℕ, ◌+◌, List, [], Option, Some, None, Ok}
use Rattle.mqtt5_inflight.specs.declared.error.StateError.{StateError}
use Rattle.mqtt5_session.specs.Session.{Core}
use Rattle.mqtt5_session.specs.Parts.{stored_core}
use Rattle.mqtt5_store.specs.declared.error.StoreError.{StoreError}
use Rattle.mqtt5_store.specs.declared.error.StoreError.TheVariants as store
use Rattle.mqtt5_store.specs.Answers.{IsFault}
use Rattle.mqtt5_store.specs.Format.{IsStored, core_at}
use Rattle.mqtt5_store.specs.Saving.{NotSaved}
use Rattle.mqtt5_client.specs.declared.client.Client.{Client}
use Rattle.mqtt5_client.specs.Numbers.{error_number}
use Rattle.mqtt5_client.specs.Storing.{IsLoaded}
use Rattle.mqtt5_holder.specs.declared.holder.Holder.{Holder}
use Rattle.mqtt5_c.specs.Calls.{HasNothing}
use Rattle.mqtt5_c.specs.Numbers.{fault_code, out_of_memory}
use Rattle.mqtt5_c.specs.Told.{TellsBytes}

-- Bytes that are read as the client's session is stored are copied where they fit, and it is told
-- how many they are; or why it isn't saved is answered, and nothing is told.
unfoldable pub Saves : Client → List ℕ → ℕ → ℕ → List ℕ → ℕ → Type 0
Saves c old count code new told =
    ((bytes : List ℕ)
    × IsStored bytes c.state.core
    × (c.state.events ≡ [])
    × TellsBytes (Some bytes) old count code new told)
    ⊎ ((e : StateError)
    × NotSaved e c.state
    × (code ≡ fault_code e)
    × (new ≡ old)
    × (told ≡ count))

-- why bytes aren't a session; of a frame that can't be read 100 + n of En
abbrev pub store_code : StoreError → ℕ
store_code store.Foreign = 205
store_code (store.Version version) = 206
store_code (store.Cut missing) = 207
store_code (store.Frame e) = 100 + error_number e
store_code store.BadNumbers = 208
store_code store.NotStored = 209
store_code (store.OutOfRange id) = 210
store_code (store.Twice id) = 211
store_code store.OutOfMemory = out_of_memory

-- one of the session at the front of these bytes, which else is as a new one
unfoldable pub IsLoadedOf : List ℕ → Holder → Type 0
IsLoadedOf bytes h =
    ((rest : List ℕ) × (core_at bytes ≡ Ok (h.client.state.core, rest)))
    × IsLoaded h.client.state.core h.client × HasNothing h

-- there is such a client; or the number is that of the bytes' first fault or of want of memory, and
-- there is none
abbrev pub Loads : List ℕ → ℕ → Option Holder → Type 0
Loads bytes code (Some h) = (code ≡ 0) × IsLoadedOf bytes h
Loads bytes code None = (e : StoreError) × (code ≡ store_code e) × IsFault e (core_at bytes)

-- there is a client whose session is the one that was saved; or memory was refused
abbrev pub LoadsBack : Core → ℕ → Option Holder → Type 0
LoadsBack core code (Some h) = (code ≡ 0) × (h.client.state.core ≡ stored_core core)
LoadsBack core code None = code ≡ out_of_memory
