-- Two sessions of one core, but for topics of aliases that are set anew before they are used, say the same to any calls.
use Rattle.std.proofs.Common.{◌≡◌, ℕ, Bool, true, false, cond, List, [], ◌∷◌, ◌==◌, Option, Some, None, refl, sym, ap, ◌∙◌, subst, length, nat_eq}
use Rattle.std.specs.Prelude.{is_some, ◌||◌}
use Rattle.std.specs.List.{list_any}
use Rattle.std.specs.Ordering.{nat_cmp, eq_by_cmp}
use Rattle.std.specs.Cmp.{nat_cmp_total, unsigned_tied}
use Rattle.std.specs.FinMap.{get, insert, get-insert}
use Rattle.mqtt5_publish.specs.declared.publish.Publish.{Publish}
use Rattle.mqtt5_codec.specs.declared.packet.Packet.{Packet}
use Rattle.mqtt5_codec.specs.declared.packet.Packet.TheVariants as packets
use Rattle.mqtt5_inflight.specs.declared.event.Request.{Request}
use Rattle.mqtt5_inflight.specs.Aliases.{alias_of}
use Rattle.mqtt5_session.specs.Session.{Topics, Core, Session}
use Rattle.mqtt5_session.specs.Packets.{topic_under, topics_with}
use Rattle.mqtt5_session.specs.Parts.{without_aliases}
use Rattle.mqtt5_session.specs.Resuming.{with_dup}
use Rattle.mqtt5_world.specs.declared.calls.Call.{Call}
use Rattle.mqtt5_world.specs.declared.calls.Call.TheVariants as calls
use Rattle.mqtt5_world.specs.Twins.{Answered, reply_of, after_call, replies_of, SameReply, SameReplies}
use Rattle.mqtt5_world.proofs.Alike.{any_call}
use Rattle.mqtt5_crash.specs.Restart.{UsesKnown, known_after, SetsAliasesFirst}
use Rattle.mqtt5_crash.proofs.Topics.{with_topics, request_under, packet_under, IsPublish, publish_taken}

-- the same topics of these aliases
abbrev pub Agree : List ℕ → Topics → Topics → Type 0
Agree known a b = (q : ℕ) → list_any (nat_eq q) known ≡ true → get a q ≡ get b q

pub record Near (known : List ℕ) (s t : Session) : Type 0 where
  pub core : with_dup (without_aliases s.core) ≡ with_dup (without_aliases t.core)
  pub topics : Agree known s.core.aliases t.core.aliases

-- ---- calls that are no publish of the broker's

-- the topics decide nothing, and stay
abbrev pub Blind : Call → Type 0
Blind call = (a : Topics) (s : Session) → (reply_of (with_topics a s) call ≡ reply_of s call) × ((after_call (with_topics a s) call).core ≡ record (after_call s call).core { aliases = a })

pub topics_stay : (call : Call) → Blind call → (s : Session) → (after_call s call).core.aliases ≡ s.core.aliases
topics_stay call blind s = ap (λ c. c.aliases) (blind s.core.aliases s).1

core_near : (known : List ℕ) (s t : Session) → Near known s t → with_dup (with_topics t.core.aliases s).core ≡ with_dup t.core
core_near known s t near = ap (λ (c : Core). record c { aliases = t.core.aliases }) near.core

pub other_call : (call : Call) (known : List ℕ) (s t : Session) → Blind call → Near known s t → SameReply call (reply_of s call) (reply_of t call) × Near known (after_call s call) (after_call t call)
other_call call known s t blind near =
    let a = t.core.aliases in
    let h = any_call call (with_topics a s) t (core_near known s t near) in
    let b = blind a s in (
      subst (λ r. SameReply call r (reply_of t call)) b.0 h.0,
      record {
        core = sym (ap (λ c. without_aliases (with_dup c)) b.1) ∙ ap without_aliases h.1;
        topics = λ q k. ap (λ m. get m q) (topics_stay call blind s) ∙ near.topics q k ∙ sym (ap (λ m. get m q) (topics_stay call blind t));
      },
    )

pub request_blind : (r : Request) (at : ℕ) → Blind (calls.Outgoing r at)
request_blind r at a s = (ap (λ x. Answered x.0) (request_under a s r at), ap (λ x. x.1.core) (request_under a s r at))

pub packet_blind : (x : Packet) (at : ℕ) → (IsPublish x → ⊥) → Blind (calls.Incoming x at)
packet_blind x at other a s = (ap (λ y. Answered y.0) (packet_under a s x at other), ap (λ y. y.1.core) (packet_under a s x at other))

-- ---- a publish of the broker's

known_topic : (o : Option ℕ) (topic : List ℕ) (known : List ℕ) (a b : Topics) → Agree known a b → UsesKnown known o topic → is_some (topic_under o topic b) ≡ is_some (topic_under o topic a)
known_topic None topic known a b agree uses = refl
known_topic (Some alias) topic known a b agree uses = by (length topic == 0) uses
  where
    by : (z : Bool) → (z ≡ true → list_any (nat_eq alias) known ≡ true) → is_some (cond z (get b alias) (Some topic)) ≡ is_some (cond z (get a alias) (Some topic))
    by true u = ap is_some (sym (agree alias (u refl)))
    by false u = refl

either_same : (b : Bool) (a : Topics) → cond b a a ≡ a
either_same true a = refl
either_same false a = refl

set_topics : (o : Option ℕ) (topic : List ℕ) (known : List ℕ) (a b : Topics) → Agree known a b → Agree (known_after known o topic) (cond (is_some (topic_under o topic a)) (topics_with o topic a) a) (cond (is_some (topic_under o topic b)) (topics_with o topic b) b)
set_topics None topic known a b agree q k = agree q k
set_topics (Some alias) topic known a b agree q k = by (length topic == 0) k
  where
    new : (t : Bool) → eq_by_cmp nat_cmp q alias ≡ t → list_any (nat_eq q) (alias ∷ known) ≡ true → cond t (Some topic) (get a q) ≡ cond t (Some topic) (get b q)
    new true e l = refl
    new false e l = agree q (subst (λ t. (t || list_any (nat_eq q) known) ≡ true) (sym (unsigned_tied q alias) ∙ e) l)

    by : (z : Bool) → list_any (nat_eq q) (cond z known (alias ∷ known)) ≡ true → get (cond (is_some (cond z (get a alias) (Some topic))) (cond z a (insert a alias topic)) a) q ≡ get (cond (is_some (cond z (get b alias) (Some topic))) (cond z b (insert b alias topic)) b) q
    by true l = ap (λ m. get m q) (either_same (is_some (get a alias)) a) ∙ agree q l ∙ sym (ap (λ m. get m q) (either_same (is_some (get b alias)) b))
    by false l = get-insert nat_cmp_total a alias topic q ∙ new (eq_by_cmp nat_cmp q alias) refl l ∙ sym (get-insert nat_cmp_total b alias topic q)

publish_call : (p : Publish) (at : ℕ) (known : List ℕ) (s t : Session) → UsesKnown known (alias_of p) p.topic → Near known s t → SameReply (calls.Incoming (packets.Publish p) at) (reply_of s (calls.Incoming (packets.Publish p) at)) (reply_of t (calls.Incoming (packets.Publish p) at)) × Near (known_after known (alias_of p) p.topic) (after_call s (calls.Incoming (packets.Publish p) at)) (after_call t (calls.Incoming (packets.Publish p) at))
publish_call p at known s t uses near =
    let call = calls.Incoming (packets.Publish p) at in
    let a = t.core.aliases in
    let r = publish_taken a s p at (known_topic (alias_of p) p.topic known s.core.aliases a near.topics uses) in
    let h = any_call call (with_topics a s) t (core_near known s t near) in
    let mine = ap (λ c. c.aliases) (publish_taken s.core.aliases s p at refl).1 in
    let its = ap (λ c. c.aliases) (publish_taken a t p at refl).1 in (
      sym (ap Answered r.0) ∙ h.0,
      record {
        core = sym (ap (λ c. without_aliases (with_dup c)) r.1) ∙ ap without_aliases h.1;
        topics = λ q k. ap (λ m. get m q) mine ∙ set_topics (alias_of p) p.topic known s.core.aliases a near.topics q k ∙ sym (ap (λ m. get m q) its);
      },
    )

-- ---- any calls

pub near_replies : (cs : List Call) (known : List ℕ) (s t : Session) → SetsAliasesFirst known cs → Near known s t → SameReplies cs (replies_of cs s) (replies_of cs t)
near_replies [] known s t sets near = tt {0}
near_replies (calls.Incoming (packets.Publish p) at ∷ rest) known s t sets near =
    let h = publish_call p at known s t sets.0 near in (h.0, near_replies rest (known_after known (alias_of p) p.topic) _ _ sets.1 h.1)
near_replies (calls.Incoming x at ∷ rest) known s t sets near =
    let h = other_call (calls.Incoming x at) known s t (packet_blind x at (λ i. absurd i)) near in (h.0, near_replies rest known _ _ sets h.1)
near_replies (calls.Outgoing r at ∷ rest) known s t sets near =
    let h = other_call (calls.Outgoing r at) known s t (request_blind r at) near in (h.0, near_replies rest known _ _ sets h.1)
near_replies (calls.Clean ∷ rest) known s t sets near =
    let h = other_call calls.Clean known s t (λ a s. (refl, refl)) near in (h.0, near_replies rest known _ _ sets h.1)
near_replies (calls.ProtocolError ∷ rest) known s t sets near =
    let h = other_call calls.ProtocolError known s t (λ a s. (refl, refl)) near in (h.0, near_replies rest known _ _ sets h.1)
