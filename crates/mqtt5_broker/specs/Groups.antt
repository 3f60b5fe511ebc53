-- The shared subscriptions of a broker: who takes part in each, and whose turn it is (MQTT 5.0 section
-- 4.8.2).
use Rattle.std.specs.Prelude.{ℕ, ◌+◌, ◌==◌, nat_eq, Bool, true, false, not, List, [], ◌∷◌, ◌++◌, length}
use Rattle.std.specs.Prelude.{map, filter, take, drop, Option, Some, None, is_some, slice_index_or}
use Rattle.std.specs.Prelude.{slice_set, if◌then◌else◌}
use Rattle.std.specs.List.{list_any, position}
use Rattle.std.specs.Str.{is_utf8}
use Rattle.std.specs.Cmp.Lexicographic.{pointwise}
use Rattle.mqtt5_base.specs.Texts.{Utf8, text_of}
use Rattle.mqtt5_base.specs.Topics.{topic_matches}
use Rattle.mqtt5_subscribe.specs.declared.filter.Filter.{Filter}
use Rattle.mqtt5_codec.specs.declared.packet.Packet.{Packet}
use Rattle.mqtt5_codec.specs.declared.packet.Packet.TheVariants as packets
use Rattle.mqtt5_network.specs.declared.subscription.Share.{Share}
use Rattle.mqtt5_network.specs.Asking.{share_of}
use Rattle.mqtt5_sessions.specs.Sessions.{Sessions, is_here, turns}

-- by its topic filter, and the part of that which topics are matched with: the numbers of the clients
-- that have the subscription, of which it is the first one's turn
pub record Group : Type 0 where
  pub topic_filter : Utf8
  pub pattern : Utf8
  pub members : List ℕ

-- ---- one

abbrev pub is_group : Utf8 → Group → Bool
is_group f g = pointwise nat_eq g.topic_filter.bytes f.bytes

abbrev pub has_members : Group → Bool
has_members g = not (length g.members == 0)

abbrev pub has_member : ℕ → List ℕ → Bool
has_member i ms = list_any (λ m. m == i) ms

-- without a client
abbrev pub without_member : ℕ → Group → Group
without_member i g = record g { members = filter (λ m. not (m == i)) g.members }

-- with a client, behind the others
abbrev pub with_member : ℕ → Group → Group
with_member i g = if has_member i g.members then g else record g { members = g.members ++ i ∷ [] }

-- how many stand between the first and the next one that is connected, if there is one
abbrev pub next_here : Sessions → List ℕ → Option ℕ
next_here s ms = position (λ i. is_here i s) (drop 1 ms)

-- from that one on, and then the others
abbrev pub from_next : Option ℕ → List ℕ → List ℕ
from_next None ms = ms
from_next (Some n) ms = drop (n + 1) ms ++ take (n + 1) ms

abbrev pub rotated : Sessions → Group → Group
rotated s g = record g { members = from_next (next_here s g.members) g.members }

-- the turn is given to its first client, or taken from it
abbrev pub turns_of : List ℕ → Utf8 → Bool → Sessions → Sessions
turns_of [] f on s = s
turns_of (i ∷ ms) f on s = turns i f on s

abbrev pub turns_first : Bool → Group → Sessions → Sessions
turns_first on g s = turns_of g.members g.topic_filter on s

-- ---- all

-- to the first of each
abbrev pub gives_all : List Group → Sessions → Sessions
gives_all [] s = s
gives_all (g ∷ gs) s = gives_all gs (turns_first true g s)

-- those whose filter matches a topic (4.7)
abbrev pub meets : List ℕ → Group → Bool
meets t g = topic_matches t g.pattern.bytes

-- to the first of each of these, or from it
abbrev pub turns_met : Bool → List ℕ → List Group → Sessions → Sessions
turns_met on t [] s = s
turns_met on t (g ∷ gs) s = turns_met on t gs (if meets t g then turns_first on g s else s)

abbrev pub rotates : List ℕ → Sessions → List Group → List Group
rotates t s gs = map (λ (g : Group). if meets t g then rotated s g else g) gs

-- ---- a publish: the turn goes to the next one that is connected, before it comes

abbrev pub rotated_for : List ℕ → List Group → Sessions → List Group
rotated_for t gs s = rotates t (turns_met false t gs s) gs

abbrev pub turned_for : List ℕ → List Group → Sessions → Sessions
turned_for t gs s = turns_met true t (rotated_for t gs s) (turns_met false t gs s)

abbrev pub groups_turned : List ℕ → List Group → Sessions → List Group
groups_turned t gs s = if is_utf8 t then rotated_for t gs s else gs

abbrev pub sessions_turned : List ℕ → List Group → Sessions → Sessions
sessions_turned t gs s = if is_utf8 t then turned_for t gs s else s

abbrev pub groups_before : Packet → List Group → Sessions → List Group
groups_before (packets.Publish p) gs s = groups_turned p.topic gs s
groups_before other gs s = gs

abbrev pub sessions_before : Packet → List Group → Sessions → Sessions
sessions_before (packets.Publish p) gs s = sessions_turned p.topic gs s
sessions_before other gs s = s

-- ---- a Subscribe and an Unsubscribe

abbrev pub no_group : Group
no_group = record { topic_filter = text_of []; pattern = text_of []; members = [] }

abbrev pub group_at : ℕ → List Group → Group
group_at k gs = slice_index_or gs k no_group

-- a client has a shared subscription now
abbrev pub joined : Option ℕ → ℕ → Utf8 → Share → List Group → List Group
joined None i f h gs =
    gs ++ record { topic_filter = f; pattern = h.topic_filter; members = i ∷ [] } ∷ []
joined (Some k) i f h gs = slice_set gs k (with_member i (group_at k gs))

abbrev pub joins_by : Option Share → ℕ → Utf8 → List Group → List Group
joins_by None i f gs = gs
joins_by (Some h) i f gs = joined (position (is_group f) gs) i f h gs

abbrev pub joins_all : ℕ → List Filter → List Group → List Group
joins_all i [] gs = gs
joins_all i (f ∷ fs) gs = joins_all i fs (joins_by (share_of f.path) i f.path gs)

-- it has those of these filters no more, and nobody is left in none
abbrev pub is_among : List Utf8 → Utf8 → Bool
is_among fs f = list_any (λ (x : Utf8). pointwise nat_eq x.bytes f.bytes) fs

abbrev pub parts_from : ℕ → List Utf8 → List Group → List Group
parts_from i fs gs =
    filter has_members
    (map (λ (g : Group). if is_among fs g.topic_filter then without_member i g else g) gs)

abbrev pub asks_shared : List Filter → Bool
asks_shared fs = list_any (λ (f : Filter). is_some (share_of f.path)) fs

abbrev pub ends_shared : List Utf8 → Bool
ends_shared fs = list_any (λ (f : Utf8). is_some (share_of f)) fs

-- whether a packet changes who takes part
abbrev pub regroups : Packet → Bool
regroups (packets.Subscribe p) = asks_shared p.filters
regroups (packets.Unsubscribe p) = ends_shared p.filters
regroups other = false

abbrev pub regrouped : ℕ → Packet → List Group → List Group
regrouped i (packets.Subscribe p) gs = joins_all i p.filters gs
regrouped i (packets.Unsubscribe p) gs = parts_from i p.filters gs
regrouped i other gs = gs

-- whether a packet names a topic filter
abbrev pub names : Packet → Utf8 → Bool
names (packets.Subscribe p) f = list_any (λ (x : Filter). pointwise nat_eq x.path.bytes f.bytes) p.filters
names (packets.Unsubscribe p) f = is_among p.filters f
names other f = false

-- of groups those that pass a test, as they are once they change
abbrev pub picked : (Group → Bool) → (Group → Group) → List Group → List Group
picked q change [] = []
picked q change (g ∷ gs) = if q g then change g ∷ picked q change gs else picked q change gs

-- the groups of the filters that it names
abbrev pub named_in : Packet → List Group → List Group
named_in x gs = picked (λ (g : Group). names x g.topic_filter) (λ (g : Group). g) gs

-- where it is answered, as it is where there is such a client
abbrev pub regrouped_if : Bool → ℕ → Packet → List Group → List Group
regrouped_if answered i x gs = if answered then regrouped i x gs else gs

-- once it has come
abbrev pub groups_after : Bool → ℕ → Packet → List Group → List Group
groups_after answered i x gs = if regroups x then regrouped_if answered i x gs else gs

-- then the first clients of the groups that it names have the turns
abbrev pub gives_if : Bool → List Group → Sessions → Sessions
gives_if answered gs s = if answered then gives_all gs s else s

abbrev pub sessions_after : Bool → ℕ → Packet → List Group → Sessions → Sessions
sessions_after answered i x gs s =
    if regroups x then gives_if answered (named_in x (regrouped i x gs)) s else s

-- ---- a session that ends

abbrev pub groups_without : ℕ → List Group → List Group
groups_without i gs = filter has_members (map (without_member i) gs)

-- the groups in which it was, without it
abbrev pub left_in : ℕ → List Group → List Group
left_in i gs = picked (λ (g : Group). has_member i g.members) (without_member i) gs

-- the first clients of these have the turns
abbrev pub sessions_without : ℕ → List Group → Sessions → Sessions
sessions_without i gs s = gives_all (left_in i gs) s
