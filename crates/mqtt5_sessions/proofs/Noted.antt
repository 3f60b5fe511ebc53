-- Each client for which something waits is noted, and stands in the index, whatever happens.
use Rattle.std.proofs.Common.{◌≡◌, ℕ, zero, suc, ◌<◌, ◌==◌, Bool, true, false, ◌&&◌, List, [], ◌∷◌, ◌++◌, length, drop, None, Some, refl, sym, ap, subst, ◌∙◌, slice_index_or}
use Rattle.std.proofs.Math.ListN.{set}
use Rattle.std.specs.Ordering.{nat_cmp}
use Rattle.std.specs.BTreeSet.{BTreeSet, contains}
use Rattle.std.proofs.lemmas.Bool.{eqb-true, eqb-false}
use Rattle.std.proofs.lemmas.List.{get_or-set_same, get_or-set_other}
use Rattle.mqtt5_base.specs.Grammar.{is_among}
use Rattle.mqtt5_publish.specs.declared.publish.Publish.{Publish}
use Rattle.mqtt5_codec.specs.declared.packet.Packet.{Packet}
use Rattle.mqtt5_topic_index.specs.declared.index.TopicIndex.{TopicIndex}
use Rattle.mqtt5_topic_index.specs.Index.{Stands}
use Rattle.mqtt5_network.specs.Connection.{is_sending}
use Rattle.mqtt5_network.specs.Asking.{is_ack}
use Rattle.mqtt5_network.specs.Client.{comes_to, passes_on}
use Rattle.mqtt5_router.specs.Kept.{without_events, without_first, kept_of, alone, after_packet}
use Rattle.mqtt5_sessions.specs.Sessions.{ClientState, new_state, passes_here, sent_here, to_client, here_in}
use Rattle.mqtt5_sessions.specs.Expiry.{first_expiry}
use Rattle.mqtt5_sessions.specs.Shedding.{without_firsts}
use Rattle.mqtt5_sessions.specs.Indexed.{marks_in}
use Rattle.mqtt5_sessions.specs.Waiting.{has_some, waits, waits_at, IsFirst}
use Rattle.mqtt5_sessions.specs.Followed.{IsNoted, IsFollowed}
use Rattle.mqtt5_sessions.proofs.Delivered.{at_new}
use Rattle.mqtt5_sessions.proofs.Indexed.{indexed_pushed, indexed_set, indexed_marks, indexed_none}

-- ---- those that wait are found among those that are noted

unnoted : (w test : ℕ → Bool) → ((i : ℕ) → test i ≡ true → w i ≡ true) → (j : ℕ) → w j ≡ false → test j ≡ false
unnoted w test noted j absent = by (test j) refl
  where
    by : (b : Bool) → test j ≡ b → test j ≡ false
    by true is = let no : false ≡ true = sym absent ∙ noted j is in absurd cc
    by false is = is

module _ (w test : ℕ → Bool) (noted : (i : ℕ) → test i ≡ true → w i ≡ true) (from : ℕ) where
  pub first_waits : (i : ℕ) → IsFirst w from (Some i) → test i ≡ true → IsFirst test from (Some i)
  first_waits i first is = (first.0, is, λ j past before. unnoted w test noted j (first.2 j past before))

  pub none_waits : IsFirst w from None → IsFirst test from None
  none_waits none = λ j past. unnoted w test noted j (none j past)

-- one that doesn't wait may be taken out
pub still_noted : (w v test : ℕ → Bool) → ((i : ℕ) → test i ≡ true → w i ≡ true) → (i : ℕ) → test i ≡ false → ((n : ℕ) → (n ≡ i → ⊥) → w n ≡ true → v n ≡ true)
    → (j : ℕ) → test j ≡ true → v j ≡ true
still_noted w v test noted i isnt others j is = others j other (noted j is)
  where
    other : j ≡ i → ⊥
    other same = let no : false ≡ true = sym isnt ∙ ap test (sym same) ∙ is in cc

-- ---- one client

-- a packet of it puts nothing into its queue
pub heard_waits : (c : ClientState) (x : Packet) → waits (record c { kept = without_events (kept_of (after_packet c.kept x)) }) ≡ waits c
heard_waits c x = by (is_sending x) (is_ack x)
  where
    by : (a b : Bool) → (c.here && has_some (comes_to a b (alone c.kept) x).queue) ≡ (c.here && has_some c.kept.queue)
    by true b = refl
    by false true = refl
    by false false = refl

-- once the first of its queue is passed on
pub passed_waits : (c : ClientState) → waits (record c { kept = passes_here c.here c.kept }) ≡ true → waits c ≡ true
passed_waits c = by c.here
  where
    taken : (ps : List Publish) → c.kept.queue ≡ ps → has_some (passes_on (alone c.kept) ps).queue ≡ true → has_some c.kept.queue ≡ true
    taken [] is h = h
    taken (p ∷ ps) is h = ap has_some is

    by : (b : Bool) → (b && has_some (passes_here b c.kept).queue) ≡ true → (b && has_some c.kept.queue) ≡ true
    by true h = taken c.kept.queue refl h
    by false h = h

-- once it is taken out
pub expired_waits : (c : ClientState) → waits (record c { kept = without_first c.kept }) ≡ true → waits c ≡ true
expired_waits c = by c.here c.kept.queue
  where
    by : (b : Bool) (ps : List Publish) → (b && has_some (drop 1 ps)) ≡ true → (b && has_some ps) ≡ true
    by true [] h = h
    by true (p ∷ ps) h = refl
    by false ps h = h

pub shed_waits : (n : ℕ) (c : ClientState) → waits (without_firsts n c) ≡ true → waits c ≡ true
shed_waits zero c h = h
shed_waits (suc n) c h = expired_waits c (shed_waits n (record c { kept = without_first c.kept }) h)

-- one that isn't connected
pub away_waits : (c d : ClientState) → waits d ≡ false → waits d ≡ true → waits c ≡ true
away_waits c d isnt is = let no : false ≡ true = sym isnt ∙ is in absurd cc

pub nothing_waits : (c : ClientState) → c.kept.queue ≡ [] → waits c ≡ false
nothing_waits c none = by c.here
  where
    by : (b : Bool) → (b && has_some c.kept.queue) ≡ false
    by true = ap has_some none
    by false = refl

-- what is sent where nothing waits
pub unsent : (c : ClientState) → waits c ≡ false → sent_here c.here c.kept ≡ []
unsent c = by c.here
  where
    none : (ps : List Publish) → has_some ps ≡ false → (passes_on (alone c.kept) ps).down ≡ []
    none [] h = refl
    none (p ∷ ps) h = absurd cc

    by : (b : Bool) → (b && has_some c.kept.queue) ≡ false → sent_here b c.kept ≡ []
    by true h = none c.kept.queue h
    by false h = refl

-- ---- all

waits_pushed : (i l : ℕ) (cs : List ClientState) → waits_at i (cs ++ new_state l ∷ []) ≡ waits_at i cs
waits_pushed zero l [] = refl
waits_pushed (suc i) l [] = refl
waits_pushed zero l (c ∷ cs) = refl
waits_pushed (suc i) l (c ∷ cs) = waits_pushed i l cs

-- what is passed on to a client for which nothing waits
pub passed_none : (i : ℕ) (cs : List ClientState) → waits_at i cs ≡ false → to_client i (λ (c : ClientState). sent_here c.here c.kept) cs ≡ []
passed_none i [] none = refl
passed_none zero (c ∷ cs) none = unsent c none
passed_none (suc i) (c ∷ cs) none = passed_none i cs none

-- nothing that is in the queue of one that is connected expires there
pub expiry_none : (i : ℕ) (cs : List ClientState) → here_in i cs ≡ true → waits_at i cs ≡ false → first_expiry (slice_index_or cs i (new_state 0)).kept.queue ≡ None
expiry_none i [] here none = absurd cc
expiry_none zero (c ∷ cs) here none = by c.here c.kept.queue here none
  where
    by : (b : Bool) (ps : List Publish) → b ≡ true → (b && has_some ps) ≡ false → first_expiry ps ≡ None
    by true [] is h = refl
    by true (p ∷ ps) is h = absurd cc
    by false ps is h = absurd cc
expiry_none (suc i) (c ∷ cs) here none = expiry_none i cs here none

module _ (x : TopicIndex) (w : BTreeSet ℕ) (cs : List ClientState) (followed : IsFollowed x w cs) where
  -- where more are noted
  pub followed_more : (v : BTreeSet ℕ) → ((n : ℕ) → contains nat_cmp w n ≡ true → contains nat_cmp v n ≡ true) → IsFollowed x v cs
  followed_more v more = (followed.0, λ i h. more i (followed.1 i h))

  -- where one more comes to be known
  pub followed_pushed : (l : ℕ) (ds : List ClientState) → ds ≡ cs ++ new_state l ∷ [] → IsFollowed x w ds
  followed_pushed l ds is = (indexed_pushed x cs followed.0 l ds is, λ i h. followed.1 i (sym (ap (waits_at i) is ∙ waits_pushed i l cs) ∙ h))

  module _ (i : ℕ) (c d : ClientState) (below : i < length cs) (is : c ≡ slice_index_or cs i c) where
    noted_set : (v : BTreeSet ℕ) → ((n : ℕ) → contains nat_cmp w n ≡ true → contains nat_cmp v n ≡ true) → (waits d ≡ true → contains nat_cmp v i ≡ true) → IsNoted v (set cs i d)
    noted_set v more own = λ j. by j (j == i) refl
      where
        by : (j : ℕ) (b : Bool) → (j == i) ≡ b → waits_at j (set cs i d) ≡ true → contains nat_cmp v j ≡ true
        by j true at h =
            let same : j ≡ i = eqb-true j i at in
            let there : waits_at j (set cs i d) ≡ waits d = ap (λ k. waits_at k (set cs i d)) same ∙ ap waits (get_or-set_same cs i d (new_state 0) below) in
            subst (λ k. contains nat_cmp v k ≡ true) (sym same) (own (sym there ∙ h))
        by j false at h =
            let there : waits_at j (set cs i d) ≡ waits_at j cs = ap waits (get_or-set_other cs i j d (new_state 0) (eqb-false j i at)) in
            more j (followed.1 j (sym there ∙ h))

    -- one that waited before is noted
    noted_before : (waits d ≡ true → waits c ≡ true) → waits d ≡ true → contains nat_cmp w i ≡ true
    noted_before before h = followed.1 i (sym (ap waits (at_new i cs c below is)) ∙ before h)

    -- where one changes, and waits only if it did
    pub followed_set : (y : TopicIndex) → ((m n : ℕ) → (n ≡ i → ⊥) → Stands x m n → Stands y m n)
        → (((m : ℕ) → is_among (marks_in c.kept.subscriptions) m ≡ true → Stands x m i) → (m : ℕ) → is_among (marks_in d.kept.subscriptions) m ≡ true → Stands y m i)
        → (waits d ≡ true → waits c ≡ true) → IsFollowed y w (set cs i d)
    followed_set y others own before = (indexed_set x cs followed.0 i c d below is y others own, noted_set w (λ n there. there) (noted_before before))

    -- where it has the marks that it had
    pub followed_marks : marks_in d.kept.subscriptions ≡ marks_in c.kept.subscriptions → (waits d ≡ true → waits c ≡ true) → IsFollowed x w (set cs i d)
    followed_marks same before = (indexed_marks x cs followed.0 i c d below is same, noted_set w (λ n there. there) (noted_before before))

    -- where it has the subscriptions that it had
    pub followed_kept : d.kept.subscriptions ≡ c.kept.subscriptions → (waits d ≡ true → waits c ≡ true) → IsFollowed x w (set cs i d)
    followed_kept same before = followed_marks (ap marks_in same) before

    -- and is noted
    pub followed_noted : d.kept.subscriptions ≡ c.kept.subscriptions → (v : BTreeSet ℕ) → ((n : ℕ) → contains nat_cmp w n ≡ true → contains nat_cmp v n ≡ true) → contains nat_cmp v i ≡ true
        → IsFollowed x v (set cs i d)
    followed_noted same v more there = (indexed_marks x cs followed.0 i c d below is (ap marks_in same), noted_set v more (λ h. there))

    -- where it has no subscription any more, and isn't connected
    pub followed_none : d.kept.subscriptions ≡ [] → waits d ≡ false → (y : TopicIndex) → ((m n : ℕ) → (n ≡ i → ⊥) → Stands x m n → Stands y m n) → IsFollowed y w (set cs i d)
    followed_none none isnt y others = (indexed_none x cs followed.0 i c d below is none y others, noted_set w (λ n there. there) (λ h. absurd (no (sym isnt ∙ h))))
      where
        no : false ≡ true → ⊥
        no e = cc
