-- This file serves the logic alone: under which marks of topic filters the clients of a broker stand.
use Rattle.std.specs.Prelude.{◌≡◌, ℕ, true, List, [], map, slice_index_or}
use Rattle.mqtt5_base.specs.Texts.{Utf8}
use Rattle.mqtt5_base.specs.Grammar.{is_among}
use Rattle.mqtt5_topic_index.specs.Marks.{mark_of}
use Rattle.mqtt5_topic_index.specs.declared.index.TopicIndex.{TopicIndex}
use Rattle.mqtt5_topic_index.specs.Index.{Stands}
use Rattle.mqtt5_subscribe.specs.declared.filter.Filter.{Filter}
use Rattle.mqtt5_codec.specs.declared.packet.Packet.{Packet}
use Rattle.mqtt5_codec.specs.declared.packet.Packet.TheVariants as packets
use Rattle.mqtt5_network.specs.declared.subscription.Subscription.{Subscription}
use Rattle.mqtt5_network.specs.Subscriptions.{pattern_in, pattern_of}
use Rattle.mqtt5_network.specs.Asking.{share_of}
use Rattle.mqtt5_sessions.specs.Sessions.{ClientState, new_state}

-- of a topic filter: that of what topics are matched with (4.8.2)
abbrev pub path_mark : Utf8 → ℕ
path_mark f = mark_of (pattern_in (share_of f) f).bytes

-- of subscriptions
abbrev pub mark_in : Subscription → ℕ
mark_in s = mark_of (pattern_of s).bytes

abbrev pub marks_in : List Subscription → List ℕ
marks_in ss = map mark_in ss

-- of the client at a place: none, if it isn't there
abbrev pub marks_at : ℕ → List ClientState → List ℕ
marks_at i cs = marks_in (slice_index_or cs i (new_state 0)).kept.subscriptions

-- of those that a packet asks for, or takes out
abbrev pub marks_asked : Packet → List ℕ
marks_asked (packets.Subscribe p) = map (λ (f : Filter). path_mark f.path) p.filters
marks_asked (packets.Unsubscribe p) = map path_mark p.filters
marks_asked other = []

-- of those that it asks for
abbrev pub marks_wanted : Packet → List ℕ
marks_wanted (packets.Subscribe p) = map (λ (f : Filter). path_mark f.path) p.filters
marks_wanted other = []

-- each client stands under the marks of its subscriptions
abbrev pub IsIndexed : TopicIndex → List ClientState → Type 0
IsIndexed x cs = (i m : ℕ) → is_among (marks_at i cs) m ≡ true → Stands x m i
