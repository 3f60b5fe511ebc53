-- Faults as numbers: En is n of an error of reading or writing, Sn is n of a session's fault; what
-- is never answered is 0.
pub use Rattle.mqtt5_base.specs.Numbers.{error_number}
pub use Rattle.mqtt5_inflight.specs.Numbers.{state_error_number}
