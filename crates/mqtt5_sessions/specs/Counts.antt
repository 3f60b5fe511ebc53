-- How much is kept for a client, which a broker bounds (MQTT 5.0 sections 3.8.4 and 4.1).
use Rattle.std.specs.Prelude.{ℕ, ◌+◌, min, List, [], ◌∷◌, length, slice_index_or}
use Rattle.mqtt5_base.specs.Layout.{layout}
use Rattle.mqtt5_publish.specs.declared.publish.Publish.{Publish}
use Rattle.mqtt5_publish.specs.Rows.{publish_row}
use Rattle.mqtt5_publish.specs.Publishes.{publish_packet}
use Rattle.mqtt5_router.specs.Kept.{Kept}
use Rattle.mqtt5_sessions.specs.declared.counts.Counts.{Counts}
use Rattle.mqtt5_sessions.specs.Sessions.{Sessions, new_state}

-- how many bytes the frame of a publish has (2.1)
abbrev pub size_of : Publish → ℕ
size_of p = min (length (layout publish_row (publish_packet p))) 18446744073709551615

-- those of all these, behind so many
abbrev pub sizes_after : ℕ → List Publish → ℕ
sizes_after n [] = n
sizes_after n (p ∷ ps) = sizes_after (min (n + size_of p) 18446744073709551615) ps

abbrev pub counts_of : Kept → Counts
counts_of k = record {
  subscriptions = length k.subscriptions;
  queued = length k.queue;
  bytes = sizes_after 0 k.queue;
}

-- of the client of a number: nothing, if it isn't there
abbrev pub counts : ℕ → Sessions → Counts
counts i s = counts_of (slice_index_or s.clients i (new_state 0)).kept
