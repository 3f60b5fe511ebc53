use Rattle.std.proofs.Common.{◌≡◌, ◌++◌, take}
use Rattle.mqtt5_talk.specs.Shown.{escaped}
use Rattle.mqtt5_talk.proofs.show.escape.Given as goal

abbrev pub invariant-loop-byte : goal.invariant-loop-byte
invariant-loop-byte l = l.line.items ≡ l.fn.line.items ++ escaped l.is_text (take l.byte-index l.bytes)
