-- Why bytes aren't a session, by what a lower layer answered.
use Rattle.mqtt5_base.specs.declared.error.Error.{Error}
use Rattle.mqtt5_base.specs.declared.error.Error.TheVariants as errors
use Rattle.mqtt5_session.specs.declared.parts.PartsError.{PartsError}
use Rattle.mqtt5_session.specs.declared.parts.PartsError.TheVariants as parts
use Rattle.mqtt5_store.specs.declared.error.StoreError.{StoreError}
use Rattle.mqtt5_store.specs.declared.error.StoreError.TheVariants as store

-- what the fault of a frame is
abbrev pub fault_of : Error → StoreError
fault_of (errors.InsufficientBytes n) = store.Cut n
fault_of errors.OutOfMemory = store.OutOfMemory
fault_of e = store.Frame e

-- what the fault of parts is
abbrev pub fault_of_parts : PartsError → StoreError
fault_of_parts parts.BadNumbers = store.BadNumbers
fault_of_parts parts.NotStored = store.NotStored
fault_of_parts (parts.OutOfRange id) = store.OutOfRange id
fault_of_parts (parts.Twice id) = store.Twice id
fault_of_parts parts.OutOfMemory = store.OutOfMemory
