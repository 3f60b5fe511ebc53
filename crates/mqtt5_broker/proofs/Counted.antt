-- A packet brings no more filters of shared subscriptions than there may be, or than there were.
use Rattle.std.proofs.Common.{◌≡◌, ◌≤◌, ℕ, suc, ◌+◌, ◌-◌, Bool, true, false, List, [], ◌∷◌, ◌++◌, Option, Some, None, is_some, refl, sym, subst, ap, ◌∙◌, get_or, cond, not, length, map, ◌&&◌, ◌||◌, if◌then◌else◌, arith, nat_lt}
use Rattle.std.specs.Prelude.{⊤, filter, max}
use Rattle.std.specs.List.{list_any, list_all, position}
use Rattle.std.specs.Str.{is_utf8}
use Rattle.std.proofs.Math.Nat.{le_trans, le-max_left, max_comm, sub-add-eq-max}
use Rattle.std.proofs.lemmas.Bool.{ltb-false}
use Rattle.std.proofs.lemmas.Option.{none-some}
use Rattle.std.proofs.lemmas.List.{length-append, length-map, length-set}
use Rattle.std.proofs.lemmas.List.Folds.{list_any-append}
use Rattle.mqtt5_base.specs.Texts.{Utf8, text_of}
use Rattle.mqtt5_subscribe.specs.declared.filter.Filter.{Filter}
use Rattle.mqtt5_subscribe.specs.declared.subscribe.Subscribe.{Subscribe}
use Rattle.mqtt5_subscribe.specs.declared.unsubscribe.Unsubscribe.{Unsubscribe}
use Rattle.mqtt5_control.specs.declared.disconnect.DisconnectReasonCode.{DisconnectReasonCode}
use Rattle.mqtt5_control.specs.declared.disconnect.DisconnectReasonCode.TheVariants as reasons
use Rattle.mqtt5_codec.specs.declared.packet.Packet.{Packet}
use Rattle.mqtt5_codec.specs.declared.packet.Packet.TheVariants as packets
use Rattle.mqtt5_network.specs.declared.subscription.Share.{Share}
use Rattle.mqtt5_network.specs.Asking.{share_of}
use Rattle.mqtt5_sessions.specs.Sessions.{Sessions, leaves, loses}
use Rattle.mqtt5_sessions.specs.Bringing.{overfills}
use Rattle.mqtt5_broker.specs.Groups.{Group, is_group, has_members, without_member, with_member, rotated, meets, turns_met, rotated_for, groups_turned, no_group, joined, joins_by, joins_all, is_among, parts_from, asks_shared, ends_shared, groups_after, groups_without}
use Rattle.mqtt5_broker.specs.Rights.{may_subscribe, may_do, part_of}
use Rattle.mqtt5_broker.specs.Judging.{client_fault, first_of}
use Rattle.mqtt5_broker.specs.Broker.{Broker, stays_at, owner_at, on_member, away, gone, expiring, sessions_dated, forgets, loses_client, leaves_client, refuses}
use Rattle.mqtt5_broker.specs.Bounds.{is_new_share, shares_too_much, bring_too_much, brings_too_much, asks_too_much, quota_fault}
use Rattle.mqtt5_broker.specs.Serving.{answers, comes_to_session, arrives_from, denies, brings, goes, disconnects, kind_of, serves_as, serves_by, fault_of, serves}
use Rattle.mqtt5_broker.specs.declared.serving.Kind.{Kind}
use Rattle.mqtt5_broker.specs.declared.serving.Kind.TheVariants as kinds
use Rattle.mqtt5_broker.proofs.Sharing.{true_false, or_left, or_right, any_set, none_there}

-- how many of these filters nobody has
abbrev new : List Group → List Filter → ℕ
new gs fs = length (filter (is_new_share gs) fs)

shorter : {X : Type 0} (p : X → Bool) (xs : List X) → length (filter p xs) ≤ length xs
shorter p [] = omega arith
shorter p (x ∷ xs) = by (p x) (shorter p xs)
  where
    by : (v : Bool) → length (filter p xs) ≤ length xs → length (cond v (x ∷ filter p xs) (filter p xs)) ≤ suc (length xs)
    by true rest = omega (arith, rest)
    by false rest = omega (arith, rest)

first_counted : {X : Type 0} (p : X → Bool) (x : X) (xs : List X) → length (filter p (x ∷ xs)) ≡ cond (p x) 1 0 + length (filter p xs)
first_counted p x xs = by (p x)
  where
    by : (v : Bool) → length (cond v (x ∷ filter p xs) (filter p xs)) ≡ cond v 1 0 + length (filter p xs)
    by true = omega arith
    by false = omega arith

all_pass : {X : Type 0} (p : X → Bool) (xs : List X) → list_all p xs ≡ true → filter p xs ≡ xs
all_pass p [] e = refl
all_pass p (x ∷ xs) e = by (p x) refl (λ k. all_pass p xs k)
  where
    by : (v : Bool) → p x ≡ v → (list_all p xs ≡ true → filter p xs ≡ xs) → cond v (x ∷ filter p xs) (filter p xs) ≡ x ∷ xs
    by true h rest = ap (λ ys. x ∷ ys) (rest (sym (ap (λ v. v && list_all p xs) h) ∙ e))
    by false h rest = absurd (true_false (sym (sym (ap (λ v. v && list_all p xs) h) ∙ e)))

-- ---- where more are had, fewer are new

clash : (shared before now : Bool) → (before ≡ true → now ≡ true) → (shared && not before) ≡ false → (shared && not now) ≡ true → ⊥
clash false before now more e d = true_false (sym d)
clash true false now more e d = true_false e
clash true true true more e d = true_false (sym d)
clash true true false more e d = true_false (sym (more refl))

fewer_new : (gs hs : List Group) → ((f : Utf8) → list_any (is_group f) gs ≡ true → list_any (is_group f) hs ≡ true) → (fs : List Filter) → new hs fs ≤ new gs fs
fewer_new gs hs more [] = omega arith
fewer_new gs hs more (f ∷ fs) = by (is_new_share gs f) refl (is_new_share hs f) refl (fewer_new gs hs more fs)
  where
    by : (v : Bool) → is_new_share gs f ≡ v → (w : Bool) → is_new_share hs f ≡ w → new hs fs ≤ new gs fs
        → length (cond w (f ∷ filter (is_new_share hs) fs) (filter (is_new_share hs) fs)) ≤ length (cond v (f ∷ filter (is_new_share gs) fs) (filter (is_new_share gs) fs))
    by true e true d rest = omega (arith, rest)
    by true e false d rest = omega (arith, rest)
    by false e true d rest = absurd (clash (is_some (share_of f.path)) (list_any (is_group f.path) gs) (list_any (is_group f.path) hs) (more f.path) e d)
    by false e false d rest = rest

joined_more : (o : Option Share) (i : ℕ) (h : Utf8) (gs : List Group) (f : Utf8) → list_any (is_group f) gs ≡ true → list_any (is_group f) (joins_by o i h gs) ≡ true
joined_more None i h gs f e = e
joined_more (Some share) i h gs f e = by (position (is_group h) gs)
  where
    one : Group
    one = record { topic_filter = h; pattern = share.topic_filter; members = i ∷ [] }

    by : (k : Option ℕ) → list_any (is_group f) (joined k i h share gs) ≡ true
    by None = list_any-append (is_group f) gs (one ∷ []) ∙ ap (λ v. v || list_any (is_group f) (one ∷ [])) e
    by (Some n) = any_set i f n gs ∙ e

-- ---- a Subscribe

one_more : (f : Filter) (i : ℕ) (gs : List Group) → length (joins_by (share_of f.path) i f.path gs) ≤ length gs + cond (is_new_share gs f) 1 0
one_more f i gs = by (share_of f.path)
  where
    by : (o : Option Share) → length (joins_by o i f.path gs) ≤ length gs + cond (is_some o && not (list_any (is_group f.path) gs)) 1 0
    by None = omega arith
    by (Some share) = at (position (is_group f.path) gs) refl
      where
        one : Group
        one = record { topic_filter = f.path; pattern = share.topic_filter; members = i ∷ [] }

        at : (k : Option ℕ) → position (is_group f.path) gs ≡ k → length (joined k i f.path share gs) ≤ length gs + cond (not (list_any (is_group f.path) gs)) 1 0
        at None e = subst (λ v. length (gs ++ one ∷ []) ≤ length gs + cond (not v) 1 0) (sym (none_there f.path gs e)) (omega (arith, length-append gs (one ∷ [])))
        at (Some n) e = omega (arith, length-set gs n (with_member i (get_or gs n no_group)))

grown : (i : ℕ) (fs : List Filter) (gs : List Group) → length (joins_all i fs gs) ≤ length gs + new gs fs
grown i [] gs = omega arith
grown i (f ∷ fs) gs =
    let next : List Group = joins_by (share_of f.path) i f.path gs in
    omega (arith, grown i fs next, one_more f i gs, fewer_new gs next (joined_more (share_of f.path) i f.path gs) fs, first_counted (is_new_share gs) f fs)

-- as many as may be at most, or as were
abbrev AtMost : ℕ → List Group → List Group → Type 0
AtMost most gs hs = length hs ≤ max (length gs) most

less_at_most : (most : ℕ) (gs hs : List Group) → length hs ≤ length gs → AtMost most gs hs
less_at_most most gs hs h = le_trans h (le-max_left (length gs) most)

joined_at_most : (most i : ℕ) (fs : List Filter) (gs : List Group) → shares_too_much most fs gs ≡ false → AtMost most gs (joins_all i fs gs)
joined_at_most most i fs gs e =
    subst (λ n. length (joins_all i fs gs) ≤ n) (sub-add-eq-max most (length gs) ∙ max_comm most (length gs)) (omega (arith, grown i fs gs, ltb-false (most - length gs) (new gs fs) e))

subscribed_at_most : (most i : ℕ) (answered : Bool) (s : Subscribe) (gs : List Group) → shares_too_much most s.filters gs ≡ false → AtMost most gs (groups_after answered i (packets.Subscribe s) gs)
subscribed_at_most most i answered s gs e = by (asks_shared s.filters) answered
  where
    same : AtMost most gs gs
    same = less_at_most most gs gs (omega arith)

    by : (v a : Bool) → AtMost most gs (cond v (cond a (joins_all i s.filters gs) gs) gs)
    by true true = joined_at_most most i s.filters gs e
    by true false = same
    by false a = same

-- ---- other packets, and sessions that end

turned_length : (t : List ℕ) (gs : List Group) (s : Sessions) → length (groups_turned t gs s) ≤ length gs
turned_length t gs s = by (is_utf8 t)
  where
    turned : List Group
    turned = rotated_for t gs s

    by : (v : Bool) → length (cond v turned gs) ≤ length gs
    by true = omega (arith, length-map gs (λ (g : Group). if meets t g then rotated (turns_met false t gs s) g else g))
    by false = omega arith

parted_length : (i : ℕ) (fs : List Utf8) (gs : List Group) → length (parts_from i fs gs) ≤ length gs
parted_length i fs gs =
    omega (
      arith,
      shorter has_members (map (λ (g : Group). if is_among fs g.topic_filter then without_member i g else g) gs),
      length-map gs (λ (g : Group). if is_among fs g.topic_filter then without_member i g else g),
    )

left_length : (i : ℕ) (gs : List Group) → length (groups_without i gs) ≤ length gs
left_length i gs = omega (arith, shorter has_members (map (without_member i) gs), length-map gs (without_member i))

unsubscribed_length : (i : ℕ) (answered : Bool) (u : Unsubscribe) (gs : List Group) → length (groups_after answered i (packets.Unsubscribe u) gs) ≤ length gs
unsubscribed_length i answered u gs = by (ends_shared u.filters) answered
  where
    by : (v a : Bool) → length (cond v (cond a (parts_from i u.filters gs) gs) gs) ≤ length gs
    by true true = parted_length i u.filters gs
    by true false = omega arith
    by false a = omega arith

-- ---- what a packet does

abbrev Holds : Broker → Broker → Type 0
Holds b t = AtMost b.bounds.shared b.groups t.groups

-- what a Subscribe doesn't ask for
abbrev IsInBounds : Packet → Broker → Type 0
IsInBounds (packets.Subscribe s) b = shares_too_much b.bounds.shared s.filters b.groups ≡ false
IsInBounds other b = ⊤

comes_holds : (i : ℕ) (x : Packet) (b : Broker) → IsInBounds x b → Holds b (comes_to_session i x b)
comes_holds i (packets.Publish p) b h = less_at_most b.bounds.shared b.groups (groups_turned p.topic b.groups b.sessions) (turned_length p.topic b.groups b.sessions)
comes_holds i (packets.Subscribe s) b h = subscribed_at_most b.bounds.shared i (answers i (packets.Subscribe s) b) s b.groups h
comes_holds i (packets.Unsubscribe u) b h =
    let gs : List Group = groups_after (answers i (packets.Unsubscribe u) b) i (packets.Unsubscribe u) b.groups in
    less_at_most b.bounds.shared b.groups gs (unsubscribed_length i (answers i (packets.Unsubscribe u) b) u b.groups)
comes_holds i other b h = less_at_most b.bounds.shared b.groups b.groups (omega arith)

arrives_holds : (c i : ℕ) (x : Packet) (b : Broker) → IsInBounds x b → Holds b (arrives_from c i x b)
unfolding arrives_from
arrives_holds c i x b h = comes_holds i x b h

same_holds : (b : Broker) → Holds b b
same_holds b = less_at_most b.bounds.shared b.groups b.groups (omega arith)

denies_holds : (user : Option ℕ) (c i : ℕ) (x : Packet) (b : Broker) → ((s : Subscribe) → x ≡ packets.Subscribe s → shares_too_much b.bounds.shared (part_of user b.rights s).filters b.groups ≡ false) → Holds b (denies user c i x b)
unfolding denies
denies_holds user c i (packets.Publish p) b h = same_holds b
denies_holds user c i (packets.Subscribe s) b h = comes_holds i (packets.Subscribe (part_of user b.rights s)) b (h s refl)
denies_holds user c i other b h = same_holds b

-- a Subscribe of which all is allowed is that part of it
part_holds : (user : Option ℕ) (x : Packet) (b : Broker) → may_do user b.rights x ≡ true → ((s : Subscribe) → x ≡ packets.Subscribe s → shares_too_much b.bounds.shared (part_of user b.rights s).filters b.groups ≡ false) → IsInBounds x b
part_holds user (packets.Subscribe s) b e h = subst (λ fs. shares_too_much b.bounds.shared fs b.groups ≡ false) (all_pass (may_subscribe user b.rights) s.filters e) (h s refl)
part_holds user other b e h = tt

brings_holds : (c i : ℕ) (x : Packet) (b : Broker) → ((s : Subscribe) → x ≡ packets.Subscribe s → shares_too_much b.bounds.shared (part_of (owner_at i b.members) b.rights s).filters b.groups ≡ false) → Holds b (brings c i x b)
unfolding brings
brings_holds c i x b h = by (may_do user b.rights x) refl
  where
    user : Option ℕ
    user = owner_at i b.members

    by : (v : Bool) → may_do user b.rights x ≡ v → Holds b (cond v (arrives_from c i x b) (denies user c i x b))
    by true e = arrives_holds c i x b (part_holds user x b e h)
    by false e = denies_holds user c i x b h

forgets_holds : (i : ℕ) (b : Broker) → Holds b (forgets i b)
unfolding forgets
forgets_holds i b = less_at_most b.bounds.shared b.groups (groups_without i b.groups) (left_length i b.groups)

loses_holds : (i : ℕ) (b : Broker) → Holds b (loses_client i b)
unfolding loses_client
loses_holds i b = by (stays_at i b.members)
  where
    by : (v : Bool) → Holds b (cond v (record b { sessions = loses i (sessions_dated false i b); members = on_member i (away b.moment) b.members }) (forgets i b))
    by true = same_holds b
    by false = forgets_holds i b

leaves_holds : (i : ℕ) (b : Broker) → Holds b (leaves_client i b)
unfolding leaves_client
leaves_holds i b = by (stays_at i b.members)
  where
    left : Broker
    left = record b { sessions = leaves i b.sessions }

    by : (v : Bool) → Holds b (cond v (record left { members = on_member i (gone b.moment) b.members }) (forgets i left))
    by true = same_holds b
    by false = forgets_holds i left

refuses_holds : (c i : ℕ) (reason : DisconnectReasonCode) (b : Broker) → Holds b (refuses c i reason b)
unfolding refuses
refuses_holds c i reason b = loses_holds i b

goes_holds : (reason : DisconnectReasonCode) (i : ℕ) (b : Broker) → Holds b (goes reason i b)
goes_holds reasons.NormalDisconnection i b = leaves_holds i b
goes_holds other i b = loses_holds i b

disconnects_holds : (c i : ℕ) (reason : DisconnectReasonCode) (expiry : Option ℕ) (b : Broker) → Holds b (disconnects c i reason expiry b)
unfolding disconnects
disconnects_holds c i reason expiry b = goes_holds reason i (record b { members = on_member i (expiring expiry) b.members })

-- ---- a packet that is served

serves_as_holds : (k : Kind) (c i : ℕ) (x : Packet) (b : Broker) → ((s : Subscribe) → x ≡ packets.Subscribe s → shares_too_much b.bounds.shared (part_of (owner_at i b.members) b.rights s).filters b.groups ≡ false) → Holds b (serves_as k c i x b)
serves_as_holds kinds.Ping c i x b h = same_holds b
serves_as_holds (kinds.Goodbye reason expiry) c i x b h = disconnects_holds c i reason expiry b
serves_as_holds kinds.Message c i x b h = brings_holds c i x b h

-- of a Subscribe that isn't refused
first_none : (o p : Option DisconnectReasonCode) → first_of o p ≡ None → p ≡ None
first_none None p e = e
first_none (Some r) p e = absurd (none-some r (sym e))

quota_none : (v : Bool) → cond v (Some reasons.QuotaExceeded) None ≡ None → v ≡ false
quota_none true e = absurd (none-some reasons.QuotaExceeded (sym e))
quota_none false e = refl

in_bounds : (i : ℕ) (x : Packet) (b : Broker) → fault_of i x b ≡ None → (s : Subscribe) → x ≡ packets.Subscribe s → shares_too_much b.bounds.shared (part_of (owner_at i b.members) b.rights s).filters b.groups ≡ false
unfolding fault_of
in_bounds i x b e s is =
    let user : Option ℕ = owner_at i b.members in
    let fs : List Filter = (part_of user b.rights s).filters in
    let quota : quota_fault i x b ≡ None = first_none (client_fault (stays_at i b.members) x) (quota_fault i x b) e in
    let brings_none : brings_too_much i x b ≡ false = or_right (text_of []) (asks_too_much x b && may_do user b.rights x) (brings_too_much i x b) (quota_none ((asks_too_much x b && may_do user b.rights x) || brings_too_much i x b) quota) in
    let its_own : brings_too_much i (packets.Subscribe s) b ≡ false = subst (λ y. brings_too_much i y b ≡ false) is brings_none in
    or_left (text_of []) (shares_too_much b.bounds.shared fs b.groups) (overfills b.bounds.queued i fs b.sessions) (or_right (text_of []) (nat_lt b.bounds.subscriptions (length s.filters)) (bring_too_much i fs b) its_own)

serves_by_holds : (o : Option DisconnectReasonCode) (c i : ℕ) (x : Packet) (b : Broker) → fault_of i x b ≡ o → Holds b (serves_by o c i x b)
serves_by_holds (Some reason) c i x b e = refuses_holds c i reason b
serves_by_holds None c i x b e = serves_as_holds (kind_of x) c i x b (in_bounds i x b e)

pub serves_holds : (c i : ℕ) (x : Packet) (b : Broker) → length (serves c i x b).groups ≤ max (length b.groups) b.bounds.shared
unfolding serves
serves_holds c i x b = serves_by_holds (fault_of i x b) c i x b refl
