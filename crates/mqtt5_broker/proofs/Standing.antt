-- A client has one connection at most, whatever is called.
use Rattle.std.proofs.Common.{◌≡◌, ◌≢◌, ◌<◌, ℕ, zero, suc, ◌+◌, Bool, true, false, List, [], ◌∷◌, ◌++◌, Option, Some, None, refl, sym, subst, ap, ◌∙◌, get_or, set, slice_set, if◌then◌else◌, not, length, replicate, ◌==◌, cond, nat_lt, Result, Ok, Err, ◌⊎◌, inl, inr, get_or-set_same, arith}
use lib.Dec.{T}
use Rattle.std.specs.Prelude.{option_map, is_none, unwrap_or, map}
use Rattle.std.specs.List.{position_or_len}
use Rattle.std.specs.Option.{option_to_list}
use Rattle.std.proofs.lemmas.Bool.{eqb-true, eq-eqb, leb-false, lt-leb}
use Rattle.std.proofs.lemmas.Option.{none-some}
use Rattle.std.proofs.lemmas.List.{get_or-set_other}
use Rattle.std.proofs.lemmas.List.Quantifiers.{position-Some}
use Rattle.std.proofs.Math.Numerals.{one-add}
use Rattle.mqtt5_base.specs.declared.error.Error.{Error}
use Rattle.mqtt5_codec.specs.declared.packet.Packet.{Packet}
use Rattle.mqtt5_codec.specs.declared.packet.Packet.TheVariants as packets
use Rattle.mqtt5_codec.specs.Packets.{writing_under}
use Rattle.mqtt5_connect.specs.declared.connect.Connect.{Connect}
use Rattle.mqtt5_connect.specs.declared.will.LastWill.{LastWill}
use Rattle.mqtt5_control.specs.declared.connack.ConnectReturnCode.{ConnectReturnCode}
use Rattle.mqtt5_control.specs.declared.connack.ConnectReturnCode.TheVariants as return_codes
use Rattle.mqtt5_control.specs.declared.disconnect.DisconnectReasonCode.{DisconnectReasonCode}
use Rattle.mqtt5_control.specs.declared.disconnect.DisconnectReasonCode.TheVariants as reasons
use Rattle.mqtt5_sessions.specs.Sessions.{leaves, replies, passes, passed}
use Rattle.mqtt5_sessions.specs.Counts.{counts}
use Rattle.mqtt5_broker.specs.declared.member.Member.{Member}
use Rattle.mqtt5_broker.specs.declared.serving.Kind.{Kind}
use Rattle.mqtt5_broker.specs.declared.serving.Kind.TheVariants as kinds
use Rattle.mqtt5_broker.specs.Moments.{has_come}
use Rattle.mqtt5_broker.specs.Cut.{Cut, Ending, Holds, Breaks, cut_up}
use Rattle.mqtt5_broker.specs.Connection.{Connection, closed, opened, shut, told, heard, taken_by, learned, learned_topic, with_bytes, written, written_all, emptied, holding, with_sent, connection_at, with_connection, is_client, is_of, connection_of}
use Rattle.mqtt5_broker.specs.Broker.{Broker, at_moment, on_connection, on_member, away, gone, expiring, undue, member_at, has_ended, will_is_due, forgets, loses_client, leaves_client, publishes_will, stays_at, refuses, dismisses, dismisses_of, numbers, number_in, free_number, is_named, number_of, assigned_name, number_after, user_at, owner_at}
use Rattle.mqtt5_broker.specs.Rights.{may_do, denial, suback_for, part_of}
use Rattle.mqtt5_broker.specs.Groups.{sessions_before}
use Rattle.mqtt5_broker.specs.Bounds.{has_room, exceeds, ends_of, ends_over, sheds_of, trims, trims_at}
use Rattle.mqtt5_broker.specs.Aliases.{alias_used, unaliased, named}
use Rattle.mqtt5_broker.specs.Serving.{kind_of, comes_to_session, arrives_from, denies, brings, goes, disconnects, serves_as, serves_by, fault_of, serves, rejects_by, longest_of, silence_of, member_of, welcome, comes_in, displaced, displaces, starts_anew, begins, returns, enters, turns_away, enters_if_room, assigns_by, assigns, is_its, admits_as, admits, entry_fault, connects_by, connects, begins_with, takes_under, takes_by, takes_of, takes, first_is_over, passes_of, passes_on, passes_at}
use Rattle.mqtt5_broker.specs.Expiry.{dated, counted}
use Rattle.mqtt5_broker.specs.Receiving.{takes_all, reason_for, ends_with, receives_now, receives, opens_now, opens, closes_of, closes_now, closes}
use Rattle.mqtt5_broker.specs.Clock.{for_each, silences, silences_all, expires, ticks, ends_now, shuts_down}
use Rattle.mqtt5_broker.specs.Standing.{client_at, IsHere, Stands, IsStanding}

-- ---- what isn't

true_false : true ≡ false → ⊥
true_false e = subst T e tt

-- ---- the clients of connections, of which one is replaced

client_after : (c d : ℕ) (ls : List Connection) (new : Connection) → (client_at c (set ls d new) ≡ client_at c ls) ⊎ ((c ≡ d) × (client_at c (set ls d new) ≡ new.client))
client_after c d [] new = inl refl
client_after zero zero (x ∷ ls) new = inr (refl, refl)
client_after zero (suc d) (x ∷ ls) new = inl refl
client_after (suc c) zero (x ∷ ls) new = inl refl
client_after (suc c) (suc d) (x ∷ ls) new = lift (client_after c d ls new)
  where
    lift : (client_at c (set ls d new) ≡ client_at c ls) ⊎ ((c ≡ d) × (client_at c (set ls d new) ≡ new.client)) → (client_at c (set ls d new) ≡ client_at c ls) ⊎ ((suc c ≡ suc d) × (client_at c (set ls d new) ≡ new.client))
    lift (inl e) = inl e
    lift (inr e) = inr (ap suc e.0, e.1)

-- where a client has one, that is there
client_same : (d i : ℕ) (ls : List Connection) (new : Connection) → client_at d ls ≡ Some i → client_at d (set ls d new) ≡ new.client
client_same d i [] new e = absurd (none-some i e)
client_same zero i (x ∷ ls) new e = refl
client_same (suc d) i (x ∷ ls) new e = client_same d i ls new e

-- no connection is that of a client
abbrev Free : ℕ → List Connection → Type 0
Free i ls = (c : ℕ) → client_at c ls ≡ Some i → ⊥

-- a connection gets no client that it didn't have
abbrev Lets : (Connection → Connection) → Type 0
Lets f = (l : Connection) (i : ℕ) → (f l).client ≡ Some i → l.client ≡ Some i

less : (d : ℕ) (f : Connection → Connection) (ls : List Connection) → Lets f → (c i : ℕ) → client_at c (with_connection d f ls) ≡ Some i → client_at c ls ≡ Some i
less d f ls h c i e = by (client_after c d ls (f (connection_at d ls)))
  where
    by : (client_at c (with_connection d f ls) ≡ client_at c ls) ⊎ ((c ≡ d) × (client_at c (with_connection d f ls) ≡ (f (connection_at d ls)).client)) → client_at c ls ≡ Some i
    by (inl q) = sym q ∙ e
    by (inr q) = ap (λ (j : ℕ). client_at j ls) q.0 ∙ h (connection_at d ls) i (sym q.1 ∙ e)

fewer : (ls ks : List Connection) (ms : List (Option Member)) → ((c i : ℕ) → client_at c ks ≡ Some i → client_at c ls ≡ Some i) → Stands ls ms → Stands ks ms
fewer ls ks ms h s = record {
  one = λ c d i e q. s.one c d i (h c i e) (h d i q);
  here = λ c i e. s.here c i (h c i e);
}

-- ---- functions of connections

shut_lets : (f : Connection → Connection) → ((l : Connection) → (f l).client ≡ None) → Lets f
shut_lets f h l i e = absurd (none-some i (sym (h l) ∙ e))

bytes_client : (r : Result (List ℕ) Error) (l : Connection) → (with_bytes r l).client ≡ l.client
bytes_client (Ok bytes) l = refl
bytes_client (Err e) l = refl

written_client : (p : Packet) (l : Connection) → (written p l).client ≡ l.client
unfolding written
written_client p l = bytes_client (writing_under l.longest p) l

all_client : (ps : List Packet) (l : Connection) → (written_all ps l).client ≡ l.client
all_client [] l = refl
all_client (p ∷ ps) l = all_client ps (written p l) ∙ written_client p l

all_lets : (ps : List Packet) → Lets (written_all ps)
all_lets ps l i e = sym (all_client ps l) ∙ e

holding_client : (v : Bool) (bytes : List ℕ) (l : Connection) → (if v then record l { held = bytes } else l).client ≡ l.client
holding_client true bytes l = refl
holding_client false bytes l = refl

-- ---- one changes, and others may

pub on_less : (d : ℕ) (f : Connection → Connection) (b : Broker) → Lets f → IsStanding b → IsStanding (on_connection d f b)
on_less d f b h s = fewer b.connections (with_connection d f b.connections) b.members (less d f b.connections h) s

-- where its client has none then, it is free
free_after : (d i : ℕ) (f : Connection → Connection) (ls : List Connection) (ms : List (Option Member)) → ((l : Connection) → (f l).client ≡ None) → Stands ls ms → client_at d ls ≡ Some i → Free i (with_connection d f ls)
free_after d i f ls ms h s e c q =
    let was : client_at c ls ≡ Some i = less d f ls (shut_lets f h) c i q in
    let same : c ≡ d = s.one c d i was e in
    none-some i (sym (client_same d i ls (f (connection_at d ls)) e ∙ h (connection_at d ls)) ∙ subst (λ (j : ℕ). client_at j (with_connection d f ls) ≡ Some i) same q)

-- clients, of which one changes
abbrev Others : ℕ → List (Option Member) → List (Option Member) → Type 0
Others i ms ns = (j : ℕ) → j ≢ i → member_at j ns ≡ member_at j ms

other_set : (i : ℕ) (ms : List (Option Member)) (m : Option Member) → Others i ms (set ms i m)
other_set i ms m j ne = get_or-set_other ms i j m None ne

members_change : (i : ℕ) (ls : List Connection) (ms ns : List (Option Member)) → Others i ms ns → Free i ls → Stands ls ms → Stands ls ns
members_change i ls ms ns h free s = record {
  one = s.one;
  here = λ c j e. subst IsHere (sym (h j (λ same. free c (e ∙ ap Some same)))) (s.here c j e);
}

-- a broker with the same connections, of whose clients one changed
pub record Changes (i : ℕ) (b x : Broker) : Type 0 where
  pub connections : x.connections ≡ b.connections
  pub others : Others i b.members x.members

changes_none : (i : ℕ) (b x : Broker) → x.connections ≡ b.connections → x.members ≡ b.members → Changes i b x
changes_none i b x e q = record { connections = e; others = λ j ne. ap (member_at j) q }

changes_more : (i : ℕ) (b x y : Broker) → Changes i b x → Changes i x y → Changes i b y
changes_more i b x y h k = record { connections = k.connections ∙ h.connections; others = λ j ne. k.others j ne ∙ h.others j ne }

changes_if : (v : Bool) (i : ℕ) (b x y : Broker) → Changes i b x → Changes i b y → Changes i b (if v then x else y)
changes_if true i b x y h k = h
changes_if false i b x y h k = k

forgets_changes : (i : ℕ) (b : Broker) → Changes i b (forgets i b)
unfolding forgets
forgets_changes i b = record { connections = refl; others = other_set i b.members None }

loses_changes : (i : ℕ) (b : Broker) → Changes i b (loses_client i b)
unfolding loses_client
loses_changes i b = changes_if (stays_at i b.members) i b _ _ (record { connections = refl; others = other_set i b.members (option_map (away b.moment) (member_at i b.members)) }) (forgets_changes i b)

abbrev left_sessions : ℕ → Broker → Broker
left_sessions i b = record b { sessions = leaves i b.sessions }

leaves_changes : (i : ℕ) (b : Broker) → Changes i b (leaves_client i b)
unfolding leaves_client
leaves_changes i b =
    changes_if (stays_at i b.members) i b _ _ (record { connections = refl; others = other_set i b.members (option_map (gone b.moment) (member_at i b.members)) })
    (changes_more i b (left_sessions i b) (forgets i (left_sessions i b)) (changes_none i b (left_sessions i b) refl refl) (forgets_changes i (left_sessions i b)))

goes_changes : (reason : DisconnectReasonCode) (i : ℕ) (b : Broker) → Changes i b (goes reason i b)
goes_changes reasons.NormalDisconnection i b = leaves_changes i b
goes_changes other i b = loses_changes i b

-- the connection of that client has none then
ends_standing : (d i : ℕ) (f : Connection → Connection) (b x : Broker) → ((l : Connection) → (f l).client ≡ None) → client_at d b.connections ≡ Some i → Changes i b x → IsStanding b → IsStanding (on_connection d f x)
ends_standing d i f b x h e k s =
    let ls : List Connection = with_connection d f b.connections in
    let fewer_ones : Stands ls b.members = fewer b.connections ls b.members (less d f b.connections (shut_lets f h)) s in
    let changed : Stands ls x.members = members_change i ls b.members x.members k.others (free_after d i f b.connections b.members h s e) fewer_ones in
    subst (λ (ks : List Connection). Stands (with_connection d f ks) x.members) (sym k.connections) changed

-- ---- ends

refuses_standing : (d i : ℕ) (reason : DisconnectReasonCode) (b : Broker) → client_at d b.connections ≡ Some i → IsStanding b → IsStanding (refuses d i reason b)
unfolding refuses
refuses_standing d i reason b e s = ends_standing d i (told reason) b (loses_client i b) (λ l. refl) e (loses_changes i b) s

dismisses_of_standing : (o : Option ℕ) (d : ℕ) (reason : DisconnectReasonCode) (b : Broker) → client_at d b.connections ≡ o → IsStanding b → IsStanding (dismisses_of o d reason b)
dismisses_of_standing None d reason b e s = on_less d shut b (shut_lets shut (λ l. refl)) s
dismisses_of_standing (Some i) d reason b e s = refuses_standing d i reason b e s

pub if_standing : (v : Bool) (x y : Broker) → IsStanding x → IsStanding y → IsStanding (if v then x else y)
if_standing true x y s r = s
if_standing false x y s r = r

dismisses_standing : (d : ℕ) (reason : DisconnectReasonCode) (b : Broker) → IsStanding b → IsStanding (dismisses d reason b)
unfolding dismisses
dismisses_standing d reason b s = if_standing (connection_at d b.connections).is_open _ _ (dismisses_of_standing (connection_at d b.connections).client d reason b refl s) s

-- ---- a client that is connected

arrives_standing : (d i : ℕ) (x : Packet) (b : Broker) → IsStanding b → IsStanding (arrives_from d i x b)
unfolding arrives_from
arrives_standing d i x b s = on_less d (written_all (map (counted b.moment) (replies i x (sessions_before x b.groups b.sessions)))) (comes_to_session i x b) (all_lets (map (counted b.moment) (replies i x (sessions_before x b.groups b.sessions)))) (record { one = s.one; here = s.here })

denies_standing : (user : Option ℕ) (d i : ℕ) (x : Packet) (b : Broker) → IsStanding b → IsStanding (denies user d i x b)
unfolding denies
denies_standing user d i (packets.Publish p) b s = on_less d (written_all (option_to_list (denial p.qos p.pkid))) b (all_lets (option_to_list (denial p.qos p.pkid))) s
denies_standing user d i (packets.Subscribe p) b s =
    on_less d (written (suback_for user b.rights p)) (comes_to_session i (packets.Subscribe (part_of user b.rights p)) b)
    (λ l j h. sym (written_client (suback_for user b.rights p) l) ∙ h) (record { one = s.one; here = s.here })
denies_standing user d i other b s = s

brings_standing : (d i : ℕ) (x : Packet) (b : Broker) → IsStanding b → IsStanding (brings d i x b)
unfolding brings
brings_standing d i x b s = if_standing (may_do (owner_at i b.members) b.rights x) _ _ (arrives_standing d i x b s) (denies_standing (owner_at i b.members) d i x b s)

disconnects_standing : (d i : ℕ) (reason : DisconnectReasonCode) (expiry : Option ℕ) (b : Broker) → client_at d b.connections ≡ Some i → IsStanding b → IsStanding (disconnects d i reason expiry b)
unfolding disconnects
disconnects_standing d i reason expiry b e s =
    let known : Broker = record b { members = on_member i (expiring expiry) b.members } in
    ends_standing d i shut b (goes reason i known) (λ l. refl) e
    (changes_more i b known (goes reason i known) (record { connections = refl; others = other_set i b.members (option_map (expiring expiry) (member_at i b.members)) }) (goes_changes reason i known)) s

as_standing : (kind : Kind) (d i : ℕ) (x : Packet) (b : Broker) → client_at d b.connections ≡ Some i → IsStanding b → IsStanding (serves_as kind d i x b)
as_standing kinds.Ping d i x b e s = on_less d (written (packets.PingResp (record {}))) b (λ l j h. sym (written_client (packets.PingResp (record {})) l) ∙ h) s
as_standing (kinds.Goodbye reason expiry) d i x b e s = disconnects_standing d i reason expiry b e s
as_standing kinds.Message d i x b e s = brings_standing d i x b s

by_standing : (fault : Option DisconnectReasonCode) (d i : ℕ) (x : Packet) (b : Broker) → client_at d b.connections ≡ Some i → IsStanding b → IsStanding (serves_by fault d i x b)
by_standing (Some reason) d i x b e s = refuses_standing d i reason b e s
by_standing None d i x b e s = as_standing (kind_of x) d i x b e s

serves_standing : (d i : ℕ) (x : Packet) (b : Broker) → client_at d b.connections ≡ Some i → IsStanding b → IsStanding (serves d i x b)
unfolding serves
serves_standing d i x b e s = by_standing (fault_of i x b) d i x b e s

-- ---- the connection of a client

of_client : (i : ℕ) (o : Option ℕ) → is_client i o ≡ true → o ≡ Some i
of_client i None e = absurd (true_false (sym e))
of_client i (Some n) e = ap Some (eqb-true n i e)

client_of : (i : ℕ) (o : Option ℕ) → o ≡ Some i → is_client i o ≡ true
client_of i o e = ap (is_client i) e ∙ eq-eqb i i refl

none_free : (i : ℕ) (ls : List Connection) → nat_lt (position_or_len (is_of i) ls) (length ls) ≡ false → Free i ls
none_free i [] h c e = none-some i e
none_free i (x ∷ ls) h c e = by (none_free i ls) (is_of i x) refl h c e
  where
    by : (nat_lt (position_or_len (is_of i) ls) (length ls) ≡ false → Free i ls) → (v : Bool) → is_of i x ≡ v → nat_lt (cond (not v) (1 + position_or_len (is_of i) ls) 0) (length (x ∷ ls)) ≡ false → (c : ℕ) → client_at c (x ∷ ls) ≡ Some i → ⊥
    by rest true q h c e = absurd (omega (arith, leb-false 1 (suc (length ls)) h))
    by rest false q h zero e = true_false (sym (client_of i x.client e) ∙ q)
    by rest false q h (suc c) e =
        let p : ℕ = position_or_len (is_of i) ls in
        let more : nat_lt (suc p) (length (x ∷ ls)) ≡ false = subst (λ (n : ℕ). nat_lt n (length (x ∷ ls)) ≡ false) (one-add p) h in
        let past : suc (length ls) < suc (suc p) = leb-false (suc (suc p)) (suc (length ls)) more in
        rest (lt-leb (suc p) (length ls) (omega (arith, past))) c e

position_free : (i : ℕ) (ls : List Connection) → connection_of i ls ≡ None → Free i ls
position_free i ls e = none_free i ls (by (nat_lt (position_or_len (is_of i) ls) (length ls)) e)
  where
    by : (v : Bool) → cond v (Some (position_or_len (is_of i) ls)) None ≡ None → v ≡ false
    by true q = absurd (none-some (position_or_len (is_of i) ls) (sym q))
    by false q = refl

position_client : (i d : ℕ) (ls : List Connection) → connection_of i ls ≡ Some d → client_at d ls ≡ Some i
position_client i d ls e = of_client i (client_at d ls) (position-Some (is_of i) ls d closed e).1

-- ---- a Connect

-- a client comes, which has no connection
module _ (d i : ℕ) (f : Connection → Connection) (ls : List Connection) (ms : List (Option Member)) (h : (l : Connection) → (f l).client ≡ Some i) (free : Free i ls) (is : IsHere (member_at i ms)) (s : Stands ls ms) where
  abbrev new : Connection
  new = f (connection_at d ls)

  abbrev after : List Connection
  after = with_connection d f ls

  abbrev After : ℕ → Type 0
  After c = (client_at c after ≡ client_at c ls) ⊎ ((c ≡ d) × (client_at c after ≡ new.client))

  its : (c j : ℕ) → client_at c after ≡ Some j → client_at c after ≡ new.client → i ≡ j
  its c j p q = ap (λ (o : Option ℕ). unwrap_or o 0) (sym (h (connection_at d ls)) ∙ sym q ∙ p)

  by_one : (c e j : ℕ) → client_at c after ≡ Some j → client_at e after ≡ Some j → After c → After e → c ≡ e
  by_one c e j p q (inl x) (inl y) = s.one c e j (sym x ∙ p) (sym y ∙ q)
  by_one c e j p q (inl x) (inr y) = absurd (free c (sym x ∙ p ∙ ap Some (sym (its e j q y.1))))
  by_one c e j p q (inr x) (inl y) = absurd (free e (sym y ∙ q ∙ ap Some (sym (its c j p x.1))))
  by_one c e j p q (inr x) (inr y) = x.0 ∙ sym y.0

  by_here : (c j : ℕ) → client_at c after ≡ Some j → After c → IsHere (member_at j ms)
  by_here c j p (inl x) = s.here c j (sym x ∙ p)
  by_here c j p (inr x) = subst (λ (n : ℕ). IsHere (member_at n ms)) (its c j p x.1) is

  client_comes : Stands after ms
  client_comes = record {
    one = λ c e j p q. by_one c e j p q (client_after c d ls new) (client_after e d ls new);
    here = λ c j p. by_here c j p (client_after c d ls new);
  }

comes_standing : (d i : ℕ) (present given : Bool) (q : Connect) (will : Option LastWill) (b : Broker) → Free i b.connections → IsHere (member_at i b.members) → IsStanding b → IsStanding (comes_in d i present given q will b)
unfolding comes_in
comes_standing d i present given q will b free is s =
    client_comes d i (λ (l : Connection). written_all (welcome i present given q b) (taken_by i (longest_of q.properties) (silence_of b.keep_alive_max q) b.moment l)) b.connections b.members
    (λ l. all_client (welcome i present given q b) (taken_by i (longest_of q.properties) (silence_of b.keep_alive_max q) b.moment l)) free is s

-- one that it has is told
pub record Freed (i : ℕ) (b x : Broker) : Type 0 where
  pub free : Free i x.connections
  pub standing : IsStanding x
  pub members : x.members ≡ b.members

displaced_frees : (o : Option ℕ) (i : ℕ) (b : Broker) → connection_of i b.connections ≡ o → IsStanding b → Freed i b (displaced o b)
displaced_frees None i b e s = record { free = position_free i b.connections e; standing = s; members = refl }
displaced_frees (Some d) i b e s = record {
  free = free_after d i (told reasons.SessionTakenOver) b.connections b.members (λ l. refl) s (position_client i d b.connections e);
  standing = on_less d (told reasons.SessionTakenOver) b (shut_lets (told reasons.SessionTakenOver) (λ l. refl)) s;
  members = refl;
}

displaces_frees : (i : ℕ) (b : Broker) → IsStanding b → Freed i b (displaces i b)
unfolding displaces
displaces_frees i b s = displaced_frees (connection_of i b.connections) i b refl s

begins_standing : (d i : ℕ) (present anew : Bool) (q : Connect) (will : Option LastWill) (b : Broker) → i < length b.members → Free i b.connections → IsStanding b → IsStanding (comes_in d i present false q will (begins i anew q will b))
unfolding begins
begins_standing d i present anew q will b lt free s =
    comes_standing d i present false q will _ free
    (subst IsHere (sym (get_or-set_same b.members i (Some (member_of (owner_at i b.members) q will)) None lt)) refl)
    (members_change i b.connections b.members (slice_set b.members i (Some (member_of (owner_at i b.members) q will))) (other_set i b.members (Some (member_of (owner_at i b.members) q will))) free s)

returns_standing : (d i : ℕ) (q : Connect) (will : Option LastWill) (b : Broker) → i < length b.members → IsStanding b → IsStanding (returns d i q will b)
returns_standing d i q will b lt s =
    let freed : Freed i b (displaces i b) = displaces_frees i b s in
    begins_standing d i (not (starts_anew i q b)) (starts_anew i q b) q will (displaces i b) (subst (λ (ms : List (Option Member)). i < length ms) (sym freed.members) lt) freed.free freed.standing

-- one more client
past_none : (ms : List (Option Member)) → member_at (length ms) ms ≡ None
past_none [] = refl
past_none (m ∷ ms) = past_none ms

pushed : (m : Member) (ms : List (Option Member)) → member_at (length ms) (ms ++ Some m ∷ []) ≡ Some m
pushed m [] = refl
pushed m (x ∷ ms) = pushed m ms

pushed_others : (m : Member) (ms : List (Option Member)) → Others (length ms) ms (ms ++ Some m ∷ [])
pushed_others m [] zero ne = absurd (ne refl)
pushed_others m [] (suc j) ne = refl
pushed_others m (x ∷ ms) zero ne = refl
pushed_others m (x ∷ ms) (suc j) ne = pushed_others m ms j (λ e. ne (ap suc e))

-- a client that isn't known has no connection
unknown_free : (i : ℕ) (b : Broker) → member_at i b.members ≡ None → IsStanding b → Free i b.connections
unknown_free i b e s c q = subst IsHere e (s.here c i q)

pub nobody : (m : Option Member) → is_none m ≡ true → m ≡ None
nobody None e = refl
nobody (Some m) e = absurd (true_false (sym e))

numbers_standing : (o user : Option ℕ) (d : ℕ) (given : Bool) (q : Connect) (will : Option LastWill) (b : Broker) → free_number b.members ≡ o → IsStanding b → IsStanding (comes_in d (number_in o b) false given q will (numbers (member_of user q will) o b))
numbers_standing None user d given q will b e s =
    let free : Free (length b.members) b.connections = unknown_free (length b.members) b (past_none b.members) s in
    comes_standing d (length b.members) false given q will _ free
    (subst IsHere (sym (pushed (member_of user q will) b.members)) refl)
    (members_change (length b.members) b.connections b.members (b.members ++ Some (member_of user q will) ∷ []) (pushed_others (member_of user q will) b.members) free s)
numbers_standing (Some i) user d given q will b e s =
    let found = position-Some is_none b.members i None e in
    let free : Free i b.connections = unknown_free i b (nobody (member_at i b.members) found.1) s in
    comes_standing d i false given q will _ free
    (subst IsHere (sym (get_or-set_same b.members i (Some (member_of user q will)) None found.0)) refl)
    (members_change i b.connections b.members (slice_set b.members i (Some (member_of user q will))) (other_set i b.members (Some (member_of user q will))) free s)

enters_standing : (d : ℕ) (given : Bool) (q : Connect) (will : Option LastWill) (b : Broker) → IsStanding b → IsStanding (enters d given q will b)
unfolding enters
enters_standing d given q will b s = numbers_standing (free_number b.members) (user_at d b) d given q will b refl s

pub turns_standing : (d : ℕ) (answer : Packet) (b : Broker) → IsStanding b → IsStanding (turns_away d answer b)
turns_standing d answer b s = on_less d (λ (l : Connection). shut (written answer l)) b (shut_lets (λ (l : Connection). shut (written answer l)) (λ l. refl)) s

room_standing : (d : ℕ) (given : Bool) (q : Connect) (will : Option LastWill) (b : Broker) → IsStanding b → IsStanding (enters_if_room d given q will b)
room_standing d given q will b s = if_standing (has_room b) _ _ (enters_standing d given q will b s) (turns_standing d (rejects_by q return_codes.QuotaExceeded) b s)

assigns_by_standing : (o : Option ℕ) (d : ℕ) (q : Connect) (will : Option LastWill) (b : Broker) → IsStanding b → IsStanding (assigns_by o d q will b)
assigns_by_standing (Some i) d q will b s = turns_standing d (rejects_by q return_codes.ServerBusy) b s
assigns_by_standing None d q will b s = room_standing d true q will b s

assigns_standing : (d : ℕ) (q : Connect) (will : Option LastWill) (b : Broker) → IsStanding b → IsStanding (assigns d q will b)
unfolding assigns
assigns_standing d q will b s = assigns_by_standing (number_of (assigned_name b.next_name) b.members) d (record q { client_id = assigned_name b.next_name }) will (record b { next_name = number_after b.next_name }) (record { one = s.one; here = s.here })

admits_as_standing : (o : Option ℕ) (d : ℕ) (q : Connect) (will : Option LastWill) (b : Broker) → number_of q.client_id b.members ≡ o → IsStanding b → IsStanding (admits_as o d q will b)
admits_as_standing (Some i) d q will b e s =
    if_standing (is_its d i b) _ _ (returns_standing d i q will b (position-Some (is_named q.client_id) b.members i None e).0 s) (turns_standing d (rejects_by q return_codes.ClientIdentifierNotValid) b s)
admits_as_standing None d q will b e s = room_standing d false q will b s

admits_standing : (d : ℕ) (q : Connect) (will : Option LastWill) (b : Broker) → IsStanding b → IsStanding (admits d q will b)
unfolding admits
admits_standing d q will b s = if_standing (length q.client_id.bytes == 0) _ _ (assigns_standing d q will b s) (admits_as_standing (number_of q.client_id b.members) d q will b refl s)

connects_by_standing : (o : Option ConnectReturnCode) (d : ℕ) (q : Connect) (will : Option LastWill) (b : Broker) → IsStanding b → IsStanding (connects_by o d q will b)
connects_by_standing (Some code) d q will b s = turns_standing d (rejects_by q code) b s
connects_by_standing None d q will b s = admits_standing d q will b s

connects_standing : (d : ℕ) (q : Connect) (will : Option LastWill) (b : Broker) → IsStanding b → IsStanding (connects d q will b)
unfolding connects
connects_standing d q will b s = connects_by_standing (entry_fault d q will b) d q will b s

-- ---- any packet, and bytes

begins_with_standing : (d : ℕ) (x : Packet) (b : Broker) → IsStanding b → IsStanding (begins_with d x b)
begins_with_standing d (packets.Connect q will login) b s = connects_standing d q will b s
begins_with_standing d other b s = on_less d shut b (shut_lets shut (λ l. refl)) s

-- one that is heard has the same client, and one that learns an alias
pub heard_client : (d at : ℕ) (ls : List Connection) → client_at d (with_connection d (heard at) ls) ≡ client_at d ls
heard_client d at ls = by (client_after d d ls (heard at (connection_at d ls)))
  where
    by : (client_at d (with_connection d (heard at) ls) ≡ client_at d ls) ⊎ ((d ≡ d) × (client_at d (with_connection d (heard at) ls) ≡ client_at d ls)) → client_at d (with_connection d (heard at) ls) ≡ client_at d ls
    by (inl e) = e
    by (inr e) = e.1

pub learned_client : (d a : ℕ) (t : List ℕ) (ls : List Connection) → client_at d (with_connection d (learned a t) ls) ≡ client_at d ls
learned_client d a t ls = by (client_after d d ls (learned a t (connection_at d ls)))
  where
    by : (client_at d (with_connection d (learned a t) ls) ≡ client_at d ls) ⊎ ((d ≡ d) × (client_at d (with_connection d (learned a t) ls) ≡ client_at d ls)) → client_at d (with_connection d (learned a t) ls) ≡ client_at d ls
    by (inl e) = e
    by (inr e) = e.1

under_standing : (a d i : ℕ) (x : Packet) (b : Broker) → client_at d b.connections ≡ Some i → IsStanding b → IsStanding (takes_under a d i x b)
under_standing a d i (packets.Publish p) b e s =
    if_standing (length p.topic == 0) _ _ (serves_standing d i (packets.Publish (named (learned_topic a (connection_at d b.connections)) p)) b e s)
    (serves_standing d i (packets.Publish (unaliased p)) (on_connection d (learned a p.topic) b) (learned_client d a p.topic b.connections ∙ e) (on_less d (learned a p.topic) b (λ l j h. h) s))
under_standing a d i other b e s = serves_standing d i other b e s

alias_standing : (o : Option ℕ) (d i : ℕ) (x : Packet) (b : Broker) → client_at d b.connections ≡ Some i → IsStanding b → IsStanding (takes_by o d i x b)
alias_standing None d i x b e s = serves_standing d i x b e s
alias_standing (Some a) d i x b e s = under_standing a d i x b e s

of_standing : (o : Option ℕ) (d : ℕ) (x : Packet) (b : Broker) → client_at d b.connections ≡ o → IsStanding b → IsStanding (takes_of o d x b)
of_standing None d x b e s = begins_with_standing d x b s
of_standing (Some i) d x b e s = alias_standing (alias_used b.alias_max x) d i (dated b.moment x) b e s

pub takes_standing : (d : ℕ) (x : Packet) (b : Broker) → IsStanding b → IsStanding (takes d x b)
unfolding takes
takes_standing d x b s =
    if_standing (connection_at d b.connections).is_open _ _
    (of_standing (connection_at d b.connections).client d x (on_connection d (heard b.moment) b) (heard_client d b.moment b.connections) (on_less d (heard b.moment) b (λ l i h. h) s)) s

takes_all_standing : (d : ℕ) (xs : List Packet) (b : Broker) → IsStanding b → IsStanding (takes_all d xs b)
takes_all_standing d [] b s = s
takes_all_standing d (x ∷ xs) b s = takes_all_standing d xs (takes d x b) (takes_standing d x b s)

ending_standing : (d : ℕ) (ending : Ending) (b : Broker) → IsStanding b → IsStanding (ends_with d ending b)
ending_standing d (Holds held) b s = on_less d (holding held) b (λ l i h. sym (holding_client l.is_open held l) ∙ h) s
ending_standing d (Breaks e) b s = dismisses_standing d (reason_for e) b s

moment_standing : (at : ℕ) (b : Broker) → IsStanding b → IsStanding (at_moment at b)
moment_standing at b s = record { one = s.one; here = s.here }

now_standing : (d : ℕ) (bytes : List ℕ) (b : Broker) → IsStanding b → IsStanding (receives_now d bytes b)
unfolding receives_now
now_standing d bytes b s =
    let r : Cut = cut_up (Some b.longest) ((connection_at d b.connections).held ++ bytes) [] in
    let empty : Broker = on_connection d emptied b in
    if_standing (connection_at d b.connections).is_open _ _
    (ending_standing d r.ending (takes_all d r.packets empty) (takes_all_standing d r.packets empty (on_less d emptied b (λ l i h. h) s))) s

pub receives_standing : (at d : ℕ) (bytes : List ℕ) (b : Broker) → IsStanding b → IsStanding (receives at d bytes b)
receives_standing at d bytes b s = now_standing d bytes (at_moment at b) (moment_standing at b s)

passes_of_standing : (o : Option ℕ) (d : ℕ) (b : Broker) → IsStanding b → IsStanding (passes_of o d b)
passes_of_standing None d b s = s
passes_of_standing (Some i) d b s =
    if_standing (first_is_over i b) _ _ (record { one = s.one; here = s.here })
    (on_less d (written_all (map (counted b.moment) (passed i b.sessions))) (record b { sessions = passes i b.sessions }) (all_lets (map (counted b.moment) (passed i b.sessions))) (record { one = s.one; here = s.here }))

passes_on_standing : (d : ℕ) (b : Broker) → IsStanding b → IsStanding (passes_on d b)
unfolding passes_on
passes_on_standing d b s = passes_of_standing (connection_at d b.connections).client d b s

pub passes_standing : (at d : ℕ) (b : Broker) → IsStanding b → IsStanding (passes_at at d b)
passes_standing at d b s = passes_on_standing d (at_moment at b) (moment_standing at b s)

-- ---- connections

pub sent_standing : (d n : ℕ) (b : Broker) → IsStanding b → IsStanding (on_connection d (with_sent n) b)
sent_standing d n b s = on_less d (with_sent n) b (λ l i h. h) s

opens_now_standing : (d : ℕ) (b : Broker) → IsStanding b → IsStanding (opens_now d b)
opens_now_standing d b s = if_standing (connection_at d b.connections).is_open _ _ s (on_less d (λ (l : Connection). opened b.wait b.moment) b (shut_lets (λ (l : Connection). opened b.wait b.moment) (λ l. refl)) s)

pub opens_standing : (at d : ℕ) (b : Broker) → IsStanding b → IsStanding (opens at d b)
opens_standing at d b s = opens_now_standing d (at_moment at b) (moment_standing at b s)

closes_of_standing : (o : Option ℕ) (d : ℕ) (b : Broker) → client_at d b.connections ≡ o → IsStanding b → IsStanding (closes_of o d b)
closes_of_standing None d b e s = on_less d (λ (l : Connection). closed) b (shut_lets (λ (l : Connection). closed) (λ l. refl)) s
closes_of_standing (Some i) d b e s = ends_standing d i (λ (l : Connection). closed) b (loses_client i b) (λ l. refl) e (loses_changes i b) s

closes_now_standing : (d : ℕ) (b : Broker) → IsStanding b → IsStanding (closes_now d b)
unfolding closes_now
closes_now_standing d b s = closes_of_standing (connection_at d b.connections).client d b refl s

pub closes_standing : (at d : ℕ) (b : Broker) → IsStanding b → IsStanding (closes at d b)
closes_standing at d b s = closes_now_standing d (at_moment at b) (moment_standing at b s)

-- ---- what is due

each_standing : (n : ℕ) (f : ℕ → Broker → Broker) → ((i : ℕ) (b : Broker) → IsStanding b → IsStanding (f i b)) → (b : Broker) → IsStanding b → IsStanding (for_each n f b)
each_standing zero f h b s = s
each_standing (suc n) f h b s = h n (for_each n f b) (each_standing n f h b s)

silences_standing : (d : ℕ) (b : Broker) → IsStanding b → IsStanding (silences d b)
unfolding silences
silences_standing d b s = if_standing (has_come (connection_at d b.connections).deadline b.moment) _ _ (dismisses_standing d reasons.KeepAliveTimeout b s) s

-- a client whose session should have ended has no connection
here_stays : (now : ℕ) (m : Option Member) → IsHere m → has_ended now m ≡ true → ⊥
here_stays now None h e = elim h [ ]
here_stays now (Some m) h e = true_false (sym e ∙ ap (λ (o : Option ℕ). has_come o now) h)

forgets_standing : (i : ℕ) (b : Broker) → Free i b.connections → IsStanding b → IsStanding (forgets i b)
unfolding forgets
forgets_standing i b free s = members_change i b.connections b.members (set b.members i None) (other_set i b.members None) free s

undue_here : (i j : ℕ) (ms : List (Option Member)) → IsHere (get_or ms j None) → IsHere (get_or (set ms i (option_map undue (get_or ms i None))) j None)
undue_here i j [] h = h
undue_here zero zero (None ∷ ms) h = elim h [ ]
undue_here zero zero (Some m ∷ ms) h = h
undue_here zero (suc j) (m ∷ ms) h = h
undue_here (suc i) zero (m ∷ ms) h = h
undue_here (suc i) (suc j) (m ∷ ms) h = undue_here i j ms h

publishes_standing : (i : ℕ) (b : Broker) → IsStanding b → IsStanding (publishes_will i b)
unfolding publishes_will
publishes_standing i b s = record { one = s.one; here = λ c j e. undue_here i j b.members (s.here c j e) }

expires_by : (v : Bool) (i : ℕ) (b x : Broker) → has_ended b.moment (member_at i b.members) ≡ v → IsStanding b → IsStanding x → IsStanding (if v then forgets i b else x)
expires_by true i b x e s r = forgets_standing i b (λ c q. here_stays b.moment (member_at i b.members) (s.here c i q) e) s
expires_by false i b x e s r = r

expires_standing : (i : ℕ) (b : Broker) → IsStanding b → IsStanding (expires i b)
unfolding expires
expires_standing i b s =
    expires_by (has_ended b.moment (member_at i b.members)) i b _ refl s
    (if_standing (will_is_due b.moment (member_at i b.members)) _ _ (publishes_standing i b s) s)

pub ticks_standing : (at : ℕ) (b : Broker) → IsStanding b → IsStanding (ticks at b)
ticks_standing at b s =
    let now : Broker = at_moment at b in
    let heard_all : Broker = silences_all now in
    each_standing (length heard_all.members) expires expires_standing heard_all (each_standing (length now.connections) silences silences_standing now (moment_standing at b s))

ends_now_standing : (d : ℕ) (b : Broker) → IsStanding b → IsStanding (ends_now d b)
unfolding ends_now
ends_now_standing d b s = dismisses_standing d reasons.ServerShuttingDown b s

pub shuts_down_standing : (at : ℕ) (b : Broker) → IsStanding b → IsStanding (shuts_down at b)
shuts_down_standing at b s = each_standing (length b.connections) ends_now ends_now_standing (at_moment at b) (moment_standing at b s)

-- ---- what may be kept

ends_of_standing : (o : Option ℕ) (i : ℕ) (b : Broker) → connection_of i b.connections ≡ o → IsStanding b → IsStanding (ends_of o (forgets i b))
ends_of_standing None i b e s = forgets_standing i b (position_free i b.connections e) s
ends_of_standing (Some d) i b e s = ends_standing d i (told reasons.QuotaExceeded) b (forgets i b) (λ l. refl) (position_client i d b.connections e) (forgets_changes i b) s

ends_over_standing : (i : ℕ) (b : Broker) → IsStanding b → IsStanding (ends_over i b)
ends_over_standing i b s = if_standing (exceeds (counts i b.sessions) b.bounds) _ _ (ends_of_standing (connection_of i b.connections) i b refl s) s

trims_standing : (i : ℕ) (b : Broker) → IsStanding b → IsStanding (trims i b)
unfolding trims
trims_standing i b s = if_standing (exceeds (counts i b.sessions) b.bounds) _ _ (ends_over_standing i (sheds_of i b) (record { one = s.one; here = s.here })) s

pub trims_at_standing : (at : ℕ) (b : Broker) → IsStanding b → IsStanding (trims_at at b)
trims_at_standing at b s = each_standing (length b.members) trims trims_standing (at_moment at b) (moment_standing at b s)

-- ---- a new broker

closed_client : (n c : ℕ) → client_at c (replicate n closed) ≡ None
closed_client zero c = refl
closed_client (suc n) zero = refl
closed_client (suc n) (suc c) = closed_client n c

pub new_standing : (n : ℕ) (ms : List (Option Member)) → Stands (replicate n closed) ms
new_standing n ms = record {
  one = λ c d i e q. absurd (none-some i (sym (closed_client n c) ∙ e));
  here = λ c i e. absurd (none-some i (sym (closed_client n c) ∙ e));
}
