-- What packets leave as it is: the limit, the moment, and that no bytes are held on a connection of which none are.
use Rattle.std.proofs.Common.{◌≡◌, ℕ, zero, suc, Bool, true, false, List, [], ◌∷◌, Option, Some, None, refl, subst, ap, ◌∙◌, get_or, set, if◌then◌else◌, not, length, ◌==◌, Result, Ok, Err}
use Rattle.std.specs.Prelude.{map}
use Rattle.std.specs.Option.{option_to_list}
use Rattle.mqtt5_base.specs.declared.error.Error.{Error}
use Rattle.mqtt5_codec.specs.declared.packet.Packet.{Packet}
use Rattle.mqtt5_codec.specs.declared.packet.Packet.TheVariants as packets
use Rattle.mqtt5_codec.specs.Packets.{writing_under}
use Rattle.mqtt5_connect.specs.declared.connect.Connect.{Connect}
use Rattle.mqtt5_connect.specs.declared.will.LastWill.{LastWill}
use Rattle.mqtt5_control.specs.declared.connack.ConnectReturnCode.{ConnectReturnCode}
use Rattle.mqtt5_control.specs.declared.connack.ConnectReturnCode.TheVariants as return_codes
use Rattle.mqtt5_control.specs.declared.disconnect.DisconnectReasonCode.{DisconnectReasonCode}
use Rattle.mqtt5_control.specs.declared.disconnect.DisconnectReasonCode.TheVariants as reasons
use Rattle.mqtt5_sessions.specs.Sessions.{replies}
use Rattle.mqtt5_broker.specs.declared.member.Member.{Member}
use Rattle.mqtt5_broker.specs.declared.serving.Kind.{Kind}
use Rattle.mqtt5_broker.specs.declared.serving.Kind.TheVariants as kinds
use Rattle.mqtt5_broker.specs.Connection.{Connection, closed, shut, told, heard, taken_by, learned, learned_topic, with_bytes, written, written_all, connection_at, connection_of}
use Rattle.mqtt5_broker.specs.Broker.{Broker, on_connection, on_member, expiring, forgets, loses_client, leaves_client, stays_at, refuses, dismisses, dismisses_of, numbers, number_in, free_number, number_of, assigned_name, number_after, user_at, owner_at}
use Rattle.mqtt5_broker.specs.Rights.{may_do, denial, suback_for}
use Rattle.mqtt5_broker.specs.Groups.{sessions_before}
use Rattle.mqtt5_broker.specs.Bounds.{has_room}
use Rattle.mqtt5_broker.specs.Aliases.{alias_used, unaliased, named}
use Rattle.mqtt5_broker.specs.Expiry.{dated, counted}
use Rattle.mqtt5_broker.specs.Serving.{kind_of, arrives_from, denies, brings, goes, disconnects, serves_as, serves_by, fault_of, serves, rejects_by, longest_of, silence_of, member_of, welcome, comes_in, displaced, displaces, starts_anew, begins, enters, turns_away, enters_if_room, assigns_by, assigns, is_its, admits_as, admits, entry_fault, connects_by, connects, begins_with, takes_under, takes_by, takes_of, takes}
use Rattle.mqtt5_broker.specs.Receiving.{takes_all}

-- ---- connections

-- of the connection at a place, after another was put at some place
pub at_changed : (Q : Connection → Type 0) (c d : ℕ) (ls : List Connection) (new : Connection) → Q (get_or ls c closed) → (c ≡ d → Q new) → Q (get_or (set ls d new) c closed)
at_changed Q c d [] new q h = q
at_changed Q zero zero (x ∷ xs) new q h = h refl
at_changed Q zero (suc d) (x ∷ xs) new q h = q
at_changed Q (suc c) zero (x ∷ xs) new q h = q
at_changed Q (suc c) (suc d) (x ∷ xs) new q h = at_changed Q c d xs new q (λ e. h (ap suc e))

-- what is written leaves what is held, and whether more is taken
with_bytes_held : (r : Result (List ℕ) Error) (l : Connection) → (with_bytes r l).held ≡ l.held
with_bytes_held (Ok bytes) l = refl
with_bytes_held (Err e) l = refl

pub written_held : (p : Packet) (l : Connection) → (written p l).held ≡ l.held
unfolding written
written_held p l = with_bytes_held (writing_under l.longest p) l

pub all_held : (ps : List Packet) (l : Connection) → (written_all ps l).held ≡ l.held
all_held [] l = refl
all_held (p ∷ ps) l = all_held ps (written p l) ∙ written_held p l

-- ---- a broker

-- no bytes are held on a connection, and the limit and the moment are these
pub record Keeps (c n at : ℕ) (b : Broker) : Type 0 where
  pub held : (connection_at c b.connections).held ≡ []
  pub longest : b.longest ≡ n
  pub moment : b.moment ≡ at

module _ (c n at : ℕ) where
  pub on_keeps : (d : ℕ) (f : Connection → Connection) (b : Broker) → ((l : Connection) → l.held ≡ [] → (f l).held ≡ []) → Keeps c n at b → Keeps c n at (on_connection d f b)
  on_keeps d f b h k = record {
    held = at_changed (λ (l : Connection). l.held ≡ []) c d b.connections (f (connection_at d b.connections)) k.held (λ e. h (connection_at d b.connections) (subst (λ (j : ℕ). (connection_at j b.connections).held ≡ []) e k.held));
    longest = k.longest;
    moment = k.moment;
  }

  if_keeps : (v : Bool) (x y : Broker) → Keeps c n at x → Keeps c n at y → Keeps c n at (if v then x else y)
  if_keeps true x y k m = k
  if_keeps false x y k m = m

  forgets_keeps : (i : ℕ) (b : Broker) → Keeps c n at b → Keeps c n at (forgets i b)
  unfolding forgets
  forgets_keeps i b k = record { held = k.held; longest = k.longest; moment = k.moment }

  loses_keeps : (i : ℕ) (b : Broker) → Keeps c n at b → Keeps c n at (loses_client i b)
  unfolding loses_client
  loses_keeps i b k = if_keeps (stays_at i b.members) _ _ (record { held = k.held; longest = k.longest; moment = k.moment }) (forgets_keeps i b k)

  leaves_keeps : (i : ℕ) (b : Broker) → Keeps c n at b → Keeps c n at (leaves_client i b)
  unfolding leaves_client
  leaves_keeps i b k = if_keeps (stays_at i b.members) _ _ (record { held = k.held; longest = k.longest; moment = k.moment }) (forgets_keeps i _ (record { held = k.held; longest = k.longest; moment = k.moment }))

  refuses_keeps : (d i : ℕ) (reason : DisconnectReasonCode) (b : Broker) → Keeps c n at b → Keeps c n at (refuses d i reason b)
  unfolding refuses
  refuses_keeps d i reason b k = on_keeps d (told reason) (loses_client i b) (λ l h. refl) (loses_keeps i b k)

  dismisses_of_keeps : (o : Option ℕ) (d : ℕ) (reason : DisconnectReasonCode) (b : Broker) → Keeps c n at b → Keeps c n at (dismisses_of o d reason b)
  dismisses_of_keeps None d reason b k = on_keeps d shut b (λ l h. refl) k
  dismisses_of_keeps (Some i) d reason b k = refuses_keeps d i reason b k

  pub dismisses_keeps : (d : ℕ) (reason : DisconnectReasonCode) (b : Broker) → Keeps c n at b → Keeps c n at (dismisses d reason b)
  unfolding dismisses
  dismisses_keeps d reason b k = if_keeps (connection_at d b.connections).is_open _ _ (dismisses_of_keeps (connection_at d b.connections).client d reason b k) k

  -- ---- a client that is connected

  arrives_keeps : (d i : ℕ) (x : Packet) (b : Broker) → Keeps c n at b → Keeps c n at (arrives_from d i x b)
  unfolding arrives_from
  arrives_keeps d i x b k = on_keeps d (written_all (map (counted b.moment) (replies i x (sessions_before x b.groups b.sessions)))) _ (λ l h. all_held (map (counted b.moment) (replies i x (sessions_before x b.groups b.sessions))) l ∙ h) (record { held = k.held; longest = k.longest; moment = k.moment })

  denies_keeps : (user : Option ℕ) (d i : ℕ) (x : Packet) (b : Broker) → Keeps c n at b → Keeps c n at (denies user d i x b)
  unfolding denies
  denies_keeps user d i (packets.Publish p) b k = on_keeps d (written_all (option_to_list (denial p.qos p.pkid))) b (λ l h. all_held (option_to_list (denial p.qos p.pkid)) l ∙ h) k
  denies_keeps user d i (packets.Subscribe p) b k = on_keeps d (written (suback_for user b.rights p)) _ (λ l h. written_held (suback_for user b.rights p) l ∙ h) (record { held = k.held; longest = k.longest; moment = k.moment })
  denies_keeps user d i other b k = k

  brings_keeps : (d i : ℕ) (x : Packet) (b : Broker) → Keeps c n at b → Keeps c n at (brings d i x b)
  unfolding brings
  brings_keeps d i x b k = if_keeps (may_do (owner_at i b.members) b.rights x) _ _ (arrives_keeps d i x b k) (denies_keeps (owner_at i b.members) d i x b k)

  goes_keeps : (reason : DisconnectReasonCode) (i : ℕ) (b : Broker) → Keeps c n at b → Keeps c n at (goes reason i b)
  goes_keeps reasons.NormalDisconnection i b k = leaves_keeps i b k
  goes_keeps other i b k = loses_keeps i b k

  disconnects_keeps : (d i : ℕ) (reason : DisconnectReasonCode) (expiry : Option ℕ) (b : Broker) → Keeps c n at b → Keeps c n at (disconnects d i reason expiry b)
  unfolding disconnects
  disconnects_keeps d i reason expiry b k =
      let known : Broker = record b { members = on_member i (expiring expiry) b.members } in
      on_keeps d shut (goes reason i known) (λ l h. refl) (goes_keeps reason i known (record { held = k.held; longest = k.longest; moment = k.moment }))

  as_keeps : (kind : Kind) (d i : ℕ) (x : Packet) (b : Broker) → Keeps c n at b → Keeps c n at (serves_as kind d i x b)
  as_keeps kinds.Ping d i x b k = on_keeps d (written (packets.PingResp (record {}))) b (λ l h. written_held (packets.PingResp (record {})) l ∙ h) k
  as_keeps (kinds.Goodbye reason expiry) d i x b k = disconnects_keeps d i reason expiry b k
  as_keeps kinds.Message d i x b k = brings_keeps d i x b k

  by_keeps : (fault : Option DisconnectReasonCode) (d i : ℕ) (x : Packet) (b : Broker) → Keeps c n at b → Keeps c n at (serves_by fault d i x b)
  by_keeps (Some reason) d i x b k = refuses_keeps d i reason b k
  by_keeps None d i x b k = as_keeps (kind_of x) d i x b k

  serves_keeps : (d i : ℕ) (x : Packet) (b : Broker) → Keeps c n at b → Keeps c n at (serves d i x b)
  unfolding serves
  serves_keeps d i x b k = by_keeps (fault_of i x b) d i x b k

  -- ---- a Connect

  comes_keeps : (d i : ℕ) (present given : Bool) (q : Connect) (will : Option LastWill) (b : Broker) → Keeps c n at b → Keeps c n at (comes_in d i present given q will b)
  unfolding comes_in
  comes_keeps d i present given q will b k =
      on_keeps d (λ (l : Connection). written_all (welcome i present given q b) (taken_by i (longest_of q.properties) (silence_of b.keep_alive_max q) b.moment l)) _
      (λ l h. all_held (welcome i present given q b) (taken_by i (longest_of q.properties) (silence_of b.keep_alive_max q) b.moment l) ∙ h) (record { held = k.held; longest = k.longest; moment = k.moment })

  displaced_keeps : (o : Option ℕ) (b : Broker) → Keeps c n at b → Keeps c n at (displaced o b)
  displaced_keeps None b k = k
  displaced_keeps (Some d) b k = on_keeps d (told reasons.SessionTakenOver) b (λ l h. refl) k

  displaces_keeps : (i : ℕ) (b : Broker) → Keeps c n at b → Keeps c n at (displaces i b)
  unfolding displaces
  displaces_keeps i b k = displaced_keeps (connection_of i b.connections) b k

  begins_keeps : (i : ℕ) (anew : Bool) (q : Connect) (will : Option LastWill) (b : Broker) → Keeps c n at b → Keeps c n at (begins i anew q will b)
  unfolding begins
  begins_keeps i anew q will b k = record { held = k.held; longest = k.longest; moment = k.moment }

  numbers_keeps : (m : Member) (o : Option ℕ) (b : Broker) → Keeps c n at b → Keeps c n at (numbers m o b)
  numbers_keeps m None b k = record { held = k.held; longest = k.longest; moment = k.moment }
  numbers_keeps m (Some i) b k = record { held = k.held; longest = k.longest; moment = k.moment }

  enters_keeps : (d : ℕ) (given : Bool) (q : Connect) (will : Option LastWill) (b : Broker) → Keeps c n at b → Keeps c n at (enters d given q will b)
  unfolding enters
  enters_keeps d given q will b k = comes_keeps d (number_in (free_number b.members) b) false given q will _ (numbers_keeps (member_of (user_at d b) q will) (free_number b.members) b k)

  turns_keeps : (d : ℕ) (answer : Packet) (b : Broker) → Keeps c n at b → Keeps c n at (turns_away d answer b)
  turns_keeps d answer b k = on_keeps d (λ (l : Connection). shut (written answer l)) b (λ l h. refl) k

  room_keeps : (d : ℕ) (given : Bool) (q : Connect) (will : Option LastWill) (b : Broker) → Keeps c n at b → Keeps c n at (enters_if_room d given q will b)
  room_keeps d given q will b k = if_keeps (has_room b) _ _ (enters_keeps d given q will b k) (turns_keeps d (rejects_by q return_codes.QuotaExceeded) b k)

  assigns_by_keeps : (o : Option ℕ) (d : ℕ) (q : Connect) (will : Option LastWill) (b : Broker) → Keeps c n at b → Keeps c n at (assigns_by o d q will b)
  assigns_by_keeps (Some i) d q will b k = turns_keeps d (rejects_by q return_codes.ServerBusy) b k
  assigns_by_keeps None d q will b k = room_keeps d true q will b k

  assigns_keeps : (d : ℕ) (q : Connect) (will : Option LastWill) (b : Broker) → Keeps c n at b → Keeps c n at (assigns d q will b)
  unfolding assigns
  assigns_keeps d q will b k = assigns_by_keeps (number_of (assigned_name b.next_name) b.members) d (record q { client_id = assigned_name b.next_name }) will (record b { next_name = number_after b.next_name }) (record { held = k.held; longest = k.longest; moment = k.moment })

  admits_as_keeps : (o : Option ℕ) (d : ℕ) (q : Connect) (will : Option LastWill) (b : Broker) → Keeps c n at b → Keeps c n at (admits_as o d q will b)
  admits_as_keeps (Some i) d q will b k =
      if_keeps (is_its d i b) _ _ (comes_keeps d i (not (starts_anew i q b)) false q will (begins i (starts_anew i q b) q will (displaces i b)) (begins_keeps i (starts_anew i q b) q will (displaces i b) (displaces_keeps i b k)))
      (turns_keeps d (rejects_by q return_codes.ClientIdentifierNotValid) b k)
  admits_as_keeps None d q will b k = room_keeps d false q will b k

  admits_keeps : (d : ℕ) (q : Connect) (will : Option LastWill) (b : Broker) → Keeps c n at b → Keeps c n at (admits d q will b)
  unfolding admits
  admits_keeps d q will b k = if_keeps (length q.client_id.bytes == 0) _ _ (assigns_keeps d q will b k) (admits_as_keeps (number_of q.client_id b.members) d q will b k)

  connects_by_keeps : (o : Option ConnectReturnCode) (d : ℕ) (q : Connect) (will : Option LastWill) (b : Broker) → Keeps c n at b → Keeps c n at (connects_by o d q will b)
  connects_by_keeps (Some code) d q will b k = turns_keeps d (rejects_by q code) b k
  connects_by_keeps None d q will b k = admits_keeps d q will b k

  connects_keeps : (d : ℕ) (q : Connect) (will : Option LastWill) (b : Broker) → Keeps c n at b → Keeps c n at (connects d q will b)
  unfolding connects
  connects_keeps d q will b k = connects_by_keeps (entry_fault d q will b) d q will b k

  -- ---- any packet

  begins_with_keeps : (d : ℕ) (x : Packet) (b : Broker) → Keeps c n at b → Keeps c n at (begins_with d x b)
  begins_with_keeps d (packets.Connect q will login) b k = connects_keeps d q will b k
  begins_with_keeps d other b k = on_keeps d shut b (λ l h. refl) k

  under_keeps : (a d i : ℕ) (x : Packet) (b : Broker) → Keeps c n at b → Keeps c n at (takes_under a d i x b)
  under_keeps a d i (packets.Publish p) b k =
      if_keeps (length p.topic == 0) _ _ (serves_keeps d i (packets.Publish (named (learned_topic a (connection_at d b.connections)) p)) b k)
      (serves_keeps d i (packets.Publish (unaliased p)) (on_connection d (learned a p.topic) b) (on_keeps d (learned a p.topic) b (λ l h. h) k))
  under_keeps a d i other b k = serves_keeps d i other b k

  alias_keeps : (o : Option ℕ) (d i : ℕ) (x : Packet) (b : Broker) → Keeps c n at b → Keeps c n at (takes_by o d i x b)
  alias_keeps None d i x b k = serves_keeps d i x b k
  alias_keeps (Some a) d i x b k = under_keeps a d i x b k

  of_keeps : (o : Option ℕ) (d : ℕ) (x : Packet) (b : Broker) → Keeps c n at b → Keeps c n at (takes_of o d x b)
  of_keeps None d x b k = begins_with_keeps d x b k
  of_keeps (Some i) d x b k = alias_keeps (alias_used b.alias_max x) d i (dated b.moment x) b k

  pub takes_keeps : (d : ℕ) (x : Packet) (b : Broker) → Keeps c n at b → Keeps c n at (takes d x b)
  unfolding takes
  takes_keeps d x b k = if_keeps (connection_at d b.connections).is_open _ _ (of_keeps (connection_at d b.connections).client d x (on_connection d (heard b.moment) b) (on_keeps d (heard b.moment) b (λ l h. h) k)) k

  pub all_keeps : (d : ℕ) (xs : List Packet) (b : Broker) → Keeps c n at b → Keeps c n at (takes_all d xs b)
  all_keeps d [] b k = k
  all_keeps d (x ∷ xs) b k = all_keeps d xs (takes d x b) (takes_keeps d x b k)
