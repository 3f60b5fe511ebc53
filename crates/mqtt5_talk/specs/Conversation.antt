-- A talk with a broker: turns and requests of a client, one after another, between which the user
-- takes events out (MQTT 5.0 section 4.2).
use Rattle.std.specs.Prelude.{◌≡◌, ◌⊎◌, ℕ, Bool, true, false, List, [], ◌∷◌, ◌++◌, drop, Option}
use Rattle.std.specs.Prelude.{Ok}
use Rattle.std.specs.Io.KnownBytes.{Appends, Consumes}
use Rattle.mqtt5_codec.specs.declared.packet.Packet.{Packet}
use Rattle.mqtt5_codec.specs.Packets.{writing_under}
use Rattle.mqtt5_inflight.specs.declared.event.Request.{Request}
use Rattle.mqtt5_inflight.specs.declared.event.Request.TheVariants as requests
use Rattle.mqtt5_inflight.specs.declared.error.StateError.{StateError}
use Rattle.mqtt5_drive.specs.Run.{piece}
use Rattle.mqtt5_client.specs.declared.client.Client.{Client}
use Rattle.mqtt5_client.specs.Client.{asking, Runs, codec_since}
use Rattle.mqtt5_client.specs.Asked.{NotAsked}
use Rattle.mqtt5_pipe.specs.declared.error.PipeError.{PipeError}
use Rattle.mqtt5_pipe.specs.Pipe.{StopsBy}

-- what the user says: a Connect (3.1), or a request of the session
pub data Saying : Type 0 where
  Opens : (connect : Packet) → Saying
  Asks : (request : Request) → Saying

-- what a turn leaves over these bytes of the broker: a run of the client, or a fault of one; the
-- limit on packets is that of the ConnAcks that came (3.2.2.3.6)
abbrev pub Heard : Client → ℕ → List ℕ → List ℕ → Client → Type 0
Heard p at bytes sent q =
    (Runs p (piece at bytes ∷ []) sent q
    ⊎ ((fault : PipeError) × StopsBy fault p (piece at bytes ∷ []) sent q))
    × (q.codec ≡ codec_since p q)

-- what a request leaves: a run of the client, or it isn't taken, and nothing is to be sent for it
abbrev pub Requested : Client → ℕ → Request → Client → Type 0
Requested p at request q =
    (Runs p (asking at request ∷ []) [] q
    ⊎ ((e : StateError) × NotAsked p.disconnected e p.codec request at p.state q.state
    × (q.output.items ≡ p.output.items) × (q.disconnected ≡ p.disconnected)))
    × (q.input.items ≡ p.input.items) × (q.codec ≡ p.codec)

-- From the client p: this was said, these bytes came and these were sent, and a client is left. All
-- that is sent is what the session answers to what was said and to what came, and the Connect.
pub data Conversation (p : Client) : List Saying → List ℕ → List ℕ → Client → Type 0 where
  -- nothing yet
  Begins : Conversation p [] [] [] p
  -- a turn
  Hears : (said : List Saying) (came sent bytes more : List ℕ) (q r : Client) (at : ℕ)
      → Conversation p said came sent q → Heard q at bytes more r
      → Conversation p said (came ++ bytes) (sent ++ more) r
  -- a request
  Requests : (said : List Saying) (came sent : List ℕ) (q r : Client) (at : ℕ) (request : Request)
      → Conversation p said came sent q → Requested q at request r
      → Conversation p (said ++ Asks request ∷ []) came sent r
  -- the front of the output is written
  Writes : (said : List Saying) (came sent more : List ℕ) (q r : Client)
      → Conversation p said came sent q → q.output.items ≡ more ++ r.output.items
      → r ≡ record q { output = r.output }
      → Conversation p said came (sent ++ more) r
  -- the Connect's bytes are put at the end of the output; a Disconnect of a connection before is no
  -- longer remembered
  Puts : (said : List Saying) (came sent bytes : List ℕ) (q r : Client) (connect : Packet)
      → Conversation p said came sent q → writing_under q.codec.max_outgoing_size connect ≡ Ok bytes
      → r.output.items ≡ q.output.items ++ bytes
      → r ≡ record q { output = r.output; disconnected = false }
      → Conversation p (said ++ Opens connect ∷ []) came sent r
  -- the oldest event is taken out
  Takes : (said : List Saying) (came sent : List ℕ) (q : Client)
      → Conversation p said came sent q
      → Conversation p said came sent
      (record q { state = record q.state { events = drop 1 q.state.events } })

-- what was said, and in all words also the PingReqs that keep the connection alive, where there are
-- any (3.1.2.10)
pub data WithPings (pings : Bool) : (said words : List Saying) → Type 0 where
  -- nothing more
  Ends : WithPings pings [] []
  -- this was said
  Says : (word : Saying) (said words : List Saying) → WithPings pings said words
      → WithPings pings (word ∷ said) (word ∷ words)
  -- a ping
  Pings : (said words : List Saying) → pings ≡ true → WithPings pings said words
      → WithPings pings said (Asks requests.PingReq ∷ words)

-- A talk over a reader, of which is known what was left before and after, and a writer, of which is
-- known what it held. With `pings` there may be PingReqs beside what was said.
pub record Talked (pings : Bool) (unread left held written : Option (List ℕ)) (p : Client)
    (said : List Saying) (q : Client) : Type 0 where
  pub words : List Saying
  pub came : List ℕ
  pub sent : List ℕ
  pub all : WithPings pings said words
  pub consumed : Consumes unread left came
  pub appended : Appends held written sent
  pub talks : Conversation p words came sent q

-- a talk in which nothing was read
pub record SendsOnly (held written : Option (List ℕ)) (p : Client) (said : List Saying)
    (q : Client) : Type 0 where
  pub sent : List ℕ
  pub appended : Appends held written sent
  pub talks : Conversation p said [] sent q
