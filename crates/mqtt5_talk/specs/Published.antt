-- What is said of messages that are to be published (MQTT 5.0 section 3.3).
use Rattle.std.specs.Prelude.{◌≡◌, List, [], ◌∷◌, ◌++◌, Option, Some, None}
use Rattle.mqtt5_publish.specs.declared.publish.Publish.{Publish}
use Rattle.mqtt5_inflight.specs.declared.event.Request.TheVariants as requests
use Rattle.mqtt5_talk.specs.declared.capabilities.Capabilities.{Capabilities}
use Rattle.mqtt5_talk.specs.declared.capabilities.Forbidden.{Forbidden}
use Rattle.mqtt5_talk.specs.Capabilities.{forbidden_message}
use Rattle.mqtt5_talk.specs.Conversation.{Saying, Asks}

-- a message, unless something forbids it
abbrev pub asks_unless : Option Forbidden → Publish → List Saying
asks_unless None p = Asks (requests.Publish p) ∷ []
asks_unless (Some why) p = []

-- a message, unless the ConnAck forbids it (3.2.2.3)
abbrev pub asks_of : Capabilities → Publish → List Saying
asks_of c p = asks_unless (forbidden_message c p) p

-- messages, in order
abbrev pub asks_of_all : Capabilities → List Publish → List Saying
asks_of_all c [] = []
asks_of_all c (p ∷ ps) = asks_of c p ++ asks_of_all c ps

-- these messages came out of a source, in order
abbrev pub GivesAll : {S : Type 0} → (S → Option Publish → S → Type 0) → S → List Publish → S
    → Type 0
GivesAll gives s [] t = t ≡ s
GivesAll {S} gives s (p ∷ ps) t = (next : S) × gives s (Some p) next × GivesAll gives next ps t

-- they did, and maybe more after them
abbrev pub Gave : {S : Type 0} → (S → Option Publish → S → Type 0) → S → List Publish → Type 0
Gave {S} gives s ps = (t : S) × GivesAll gives s ps t

-- they did, and then there was none
abbrev pub GivesOut : {S : Type 0} → (S → Option Publish → S → Type 0) → S → List Publish → S
    → Type 0
GivesOut {S} gives s ps t = (last : S) × GivesAll gives s ps last × gives last None t
