-- The messages that lines make.
use Rattle.std.specs.Prelude.{◌≡◌, ◌≢◌, ℕ, false, List, [], Option, Some, None, IfSome}
use Rattle.std.specs.Io.KnownBytes.{IsAtEnd}
use Rattle.std.specs.Io.BufRead.{first_piece, DropsThrough}
use Rattle.std.specs.Io.Buffered.{reader_remaining}
use Rattle.mqtt5_publish.specs.declared.publish.Publish.{Publish}
use Rattle.mqtt5_talk.specs.declared.source.Heading.{Heading}
use Rattle.mqtt5_talk.specs.declared.source.LineSource.{LineSource}

-- the message of a payload
abbrev pub message_of : Heading → List ℕ → Publish
message_of h payload = record {
  dup = false;
  qos = h.qos;
  retain = h.retain;
  topic = h.topic.now;
  pkid = 0;
  payload = payload;
  properties = None;
}

-- what a source of lines has yet to read, where that is known
abbrev pub unread : {R : Type 0} → (R → Option (List ℕ)) → LineSource R → Option (List ℕ)
unread remaining lines = reader_remaining remaining lines.reader

-- something is left, and what comes of it up to the next newline is a message's payload; or nothing
-- is left
abbrev pub GivesLine : Heading → (unread left : Option (List ℕ)) → Option Publish → Type 0
GivesLine h unread left None = IsAtEnd unread
GivesLine h unread left (Some p) =
    (payload : List ℕ) × (p ≡ message_of h payload)
    × IfSome unread (λ bytes. (bytes ≢ []) × (payload ≡ first_piece 10 bytes))
    × DropsThrough unread left 10
