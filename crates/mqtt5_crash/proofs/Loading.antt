-- A loaded session has the core of the one that was saved, but for topics of aliases and dup of what awaits an ack; and so has
-- it once it is resumed.
use Rattle.std.proofs.Common.{◌≡◌, ℕ, List, [], ◌∷◌, Option, Some, None, Result, Ok, Err, refl, sym, ap, ◌∙◌, subst}
use Rattle.std.proofs.lemmas.Bool.{false≢true}
use Rattle.std.specs.Prelude.{option_map}
use Rattle.std.specs.FinMap as map
use Rattle.std.specs.List.{filter_map}
use Rattle.mqtt5_control.specs.declared.connack.ConnAck.{ConnAck}
use Rattle.mqtt5_codec.specs.declared.packet.Packet.{Packet}
use Rattle.mqtt5_codec.specs.declared.packet.Packet.TheVariants as packets
use Rattle.mqtt5_inflight.specs.declared.slot.Slot.{Slot}
use Rattle.mqtt5_inflight.specs.declared.slot.Slot.TheVariants.{Sent, Released}
use Rattle.mqtt5_inflight.specs.declared.error.StateError.{StateError}
use Rattle.mqtt5_inflight.specs.declared.error.StateError.TheVariants as errors
use Rattle.mqtt5_inflight.specs.InUse.{InUse}
use Rattle.mqtt5_inflight.specs.Unacked.{alias_again, by_id, slot_again, in_use_again}
use Rattle.mqtt5_inflight.specs.Resent.{packet_for, packets_of}
use Rattle.mqtt5_inflight.proofs.Exports.{again_twice, by_id_again}
use Rattle.mqtt5_session.specs.Session.{Topics, Core, Session}
use Rattle.mqtt5_session.specs.Resuming.{on_clean, with_dup, resume_of}
use Rattle.mqtt5_session.specs.Again.{sent_unless}
use Rattle.mqtt5_session.specs.Parts.{stored_core, core_norm, without_aliases}
use Rattle.mqtt5_session.proofs.Exports.{Sound, inc_sound, marked_sound}
use Rattle.mqtt5_world.specs.declared.calls.Call.{Call}
use Rattle.mqtt5_world.specs.declared.calls.Call.TheVariants as calls
use Rattle.mqtt5_world.specs.Twins.{replies_of, taken_up, aliases_over, SameReplies}
use Rattle.mqtt5_world.proofs.Alike.{core_kept, given_alike, in_one_piece}
use Rattle.mqtt5_crash.specs.Restart.{IsTidySession, SetsAliasesFirst, after_connack, loaded_session, sent_by}
use Rattle.mqtt5_crash.proofs.Near.{Agree, Near, near_replies, other_call, packet_blind}

dup_twice : (c : Core) → with_dup (with_dup c) ≡ with_dup c
dup_twice c = ap (λ h. record c { in_use = h }) (again_twice c.in_use)

-- ---- a core that is stored whole

-- one without topics of aliases, as of a client that grants the broker none (3.1.2.11.5), in which no publish has an empty
-- property set
pub record IsWhole (c : Core) : Type 0 where
  pub aliases : c.aliases ≡ map.empty
  pub tidy : core_norm c ≡ c

-- it has dup of what awaits an ack then, and all else stays
pub whole_core : (c : Core) → IsWhole c → with_dup (stored_core c) ≡ with_dup c
whole_core c is =
    ap (λ d. with_dup (without_aliases (with_dup d))) is.tidy
    ∙ ap (λ a. record (with_dup (with_dup c)) { aliases = a }) (sym is.aliases)
    ∙ dup_twice c

pub tidy_sound : (c : Core) → core_norm c ≡ c → Sound c → Sound (stored_core c)
tidy_sound c tidy i = marked_sound (core_norm c) (subst Sound (sym tidy) i)

-- ---- loaded

none_known : (a b : Topics) → Agree [] a b
none_known a b q k = absurd (false≢true k)

loaded_near : (s : Session) → IsTidySession s → Near [] (loaded_session s) s
loaded_near s tidy = record {
  core = ap (λ d. with_dup (without_aliases (without_aliases (with_dup d)))) tidy ∙ ap without_aliases (dup_twice s.core);
  topics = none_known (stored_core s.core).aliases s.core.aliases;
}

taken_near : (s t : Session) (at : ℕ) → Sound s.core → Sound t.core → Near [] s t → Near [] (taken_up s at) (taken_up t at)
taken_near s t at i j near = record {
  core = ap without_aliases (core_kept s at i) ∙ near.core ∙ sym (ap without_aliases (core_kept t at j));
  topics = none_known (taken_up s at).core.aliases (taken_up t at).core.aliases;
}

pub loaded_replies : (s : Session) (at : ℕ) (later : List Call) → Sound s.core → IsTidySession s → SetsAliasesFirst [] later → SameReplies later (replies_of later (loaded_session s)) (replies_of later (taken_up s at))
loaded_replies s at later i tidy first =
    near_replies later [] (loaded_session s) (taken_up s at) first (record {
      core = (loaded_near s tidy).core ∙ sym (ap without_aliases (core_kept s at i));
      topics = none_known (stored_core s.core).aliases (taken_up s at).core.aliases;
    })

-- ---- what a resume sends

abbrev over_in : Core → List ℕ
over_in c = by_id (alias_again c.alias_max) c.limit c.in_use

abbrev packets_in : Core → List Packet
packets_in c = packets_of c.limit c.in_use

over_again : (max id : ℕ) (x : Option Slot) → alias_again max id (option_map slot_again x) ≡ alias_again max id x
over_again max id None = refl
over_again max id (Some Released) = refl
over_again max id (Some (Sent p)) = refl

over_same : (c d : Core) → with_dup c ≡ with_dup d → over_in c ≡ over_in d
over_same c d e =
    sym (by_id_again (alias_again c.alias_max) (over_again c.alias_max) c.limit c.in_use)
    ∙ ap over_in e
    ∙ by_id_again (alias_again d.alias_max) (over_again d.alias_max) d.limit d.in_use

packets_same : (c d : Core) → with_dup c ≡ with_dup d → packets_in c ≡ packets_in d
packets_same c d e =
    ap (filter_map packet_for) (given_alike c.limit c.in_use)
    ∙ ap packets_in e
    ∙ sym (ap (filter_map packet_for) (given_alike d.limit d.in_use))

abbrev unless_over : List ℕ → ℕ → List Packet → Result (List Packet) StateError
unless_over [] max ps = Ok ps
unless_over (alias ∷ others) max ps = Err (errors.InvalidAlias alias max)

sent_in : (xs : List ℕ) (ps : List Packet) (m : InUse) (s : Session) (at : ℕ) → sent_by (sent_unless xs ps m s at) ≡ unless_over xs s.core.alias_max ps
sent_in [] ps m s at = refl
sent_in (x ∷ xs) ps m s at = refl

sent_is : (s : Session) (at : ℕ) → Sound s.core → sent_by (resume_of s at) ≡ unless_over (over_in s.core) s.core.alias_max (packets_in s.core)
sent_is s at i = ap sent_by (in_one_piece s at i) ∙ sent_in (aliases_over s) (packets_of s.core.limit s.core.in_use) (in_use_again s.core.in_use) (on_clean s) at

-- it depends on the core alone, but for topics of aliases and dup
pub sent_same : (s t : Session) (at : ℕ) → Sound s.core → Sound t.core → with_dup (without_aliases s.core) ≡ with_dup (without_aliases t.core) → sent_by (resume_of s at) ≡ sent_by (resume_of t at)
sent_same s t at i j e =
    sent_is s at i
    ∙ ap (λ xs. unless_over xs s.core.alias_max (packets_in s.core)) (over_same (without_aliases s.core) (without_aliases t.core) e)
    ∙ ap (λ ps. unless_over (over_in t.core) s.core.alias_max ps) (packets_same (without_aliases s.core) (without_aliases t.core) e)
    ∙ ap (λ c. unless_over (over_in t.core) c.alias_max (packets_in t.core)) e
    ∙ sym (sent_is t at j)

-- ---- both take a ConnAck, and are resumed

acked_near : (s : Session) (at : ℕ) (ack : ConnAck) → IsTidySession s → Near [] (after_connack (loaded_session s) ack at) (after_connack s ack at)
acked_near s at ack tidy = (other_call (calls.Incoming (packets.ConnAck ack) at) [] (loaded_session s) s (packet_blind (packets.ConnAck ack) at (λ i. absurd i)) (loaded_near s tidy)).1

loaded_sound : (s : Session) (at : ℕ) (ack : ConnAck) → Sound s.core → IsTidySession s → Sound (after_connack (loaded_session s) ack at).core
loaded_sound s at ack i tidy = inc_sound (loaded_session s) (packets.ConnAck ack) at (tidy_sound s.core tidy i)

pub resumed_replies : (s : Session) (at : ℕ) (ack : ConnAck) (later : List Call) → Sound s.core → IsTidySession s → SetsAliasesFirst [] later → SameReplies later (replies_of later (taken_up (after_connack (loaded_session s) ack at) at)) (replies_of later (taken_up (after_connack s ack at) at))
resumed_replies s at ack later i tidy first =
    let a = after_connack (loaded_session s) ack at in
    let b = after_connack s ack at in
    near_replies later [] (taken_up a at) (taken_up b at) first
    (taken_near a b at (loaded_sound s at ack i tidy) (inc_sound s (packets.ConnAck ack) at i) (acked_near s at ack tidy))

pub resumed_sent : (s : Session) (at : ℕ) (ack : ConnAck) → Sound s.core → IsTidySession s → sent_by (resume_of (after_connack (loaded_session s) ack at) at) ≡ sent_by (resume_of (after_connack s ack at) at)
resumed_sent s at ack i tidy =
    sent_same (after_connack (loaded_session s) ack at) (after_connack s ack at) at
    (loaded_sound s at ack i tidy) (inc_sound s (packets.ConnAck ack) at i) (acked_near s at ack tidy).core
