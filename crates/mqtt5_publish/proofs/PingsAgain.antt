-- A ping that is written is read again.
use Rattle.std.proofs.Common.{◌≡◌, ℕ, ◌/◌, false, List, [], Some, Ok, refl}
use Rattle.mqtt5_base.specs.Grammar.{entry_of}
use Rattle.mqtt5_base.specs.Frames.{Rows}
use Rattle.mqtt5_base.specs.Reading.{frame_at}
use Rattle.mqtt5_base.specs.Layout.{plainly, writing}
use Rattle.mqtt5_base.proofs.FramesAgain.{content_read, written_again}
use Rattle.mqtt5_publish.specs.Rows.{ping_row}

-- A ping of either type that was written is read again as no values.
pub ping_again : (rows : Rows) (first : ℕ) (bs : List ℕ) → entry_of rows (first / 16) ≡ Some ping_row → writing ping_row (plainly first []) ≡ Ok bs → frame_at rows bs ≡ content_read ([], [])
ping_again rows first bs among h =
    written_again rows ping_row (plainly first []) false ([], []) bs h
    (record { brief = refl; among = among; whole = refl; suits = tt; parts = tt; kept = refl })
