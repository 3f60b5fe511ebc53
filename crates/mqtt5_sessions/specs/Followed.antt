-- This file serves the logic alone: that what a broker notes of its clients beside them is so.
use Rattle.std.specs.Prelude.{◌≡◌, ℕ, true, List}
use Rattle.std.specs.Ordering.{nat_cmp}
use Rattle.std.specs.BTreeSet.{BTreeSet, contains}
use Rattle.mqtt5_topic_index.specs.declared.index.TopicIndex.{TopicIndex}
use Rattle.mqtt5_sessions.specs.Sessions.{ClientState}
use Rattle.mqtt5_sessions.specs.Indexed.{IsIndexed}
use Rattle.mqtt5_sessions.specs.Waiting.{waits_at}

-- each client for which something waits is among these, and maybe others
abbrev pub IsNoted : BTreeSet ℕ → List ClientState → Type 0
IsNoted w cs = (i : ℕ) → waits_at i cs ≡ true → contains nat_cmp w i ≡ true

-- and each stands under the marks of its subscriptions
abbrev pub IsFollowed : TopicIndex → BTreeSet ℕ → List ClientState → Type 0
IsFollowed x w cs = IsIndexed x cs × IsNoted w cs
