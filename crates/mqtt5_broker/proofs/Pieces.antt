-- Bytes that come in any pieces are the same as the whole.
use Rattle.std.proofs.Common.{◌≡◌, ◌≢◌, ◌<◌, ℕ, zero, suc, Bool, true, false, List, [], ◌∷◌, ◌++◌, Option, Some, None, refl, sym, ap, ◌∙◌, length, get_or, set, get_or-set_same, append_assoc, arith, if◌then◌else◌, max, Result, Ok, Err}
use Rattle.std.proofs.lemmas.List.{append-nil, set-get_or}
use Rattle.mqtt5_base.specs.Front.{Front, Bad, More, Whole, NeedsMore, IsFound, IsFront}
use Rattle.mqtt5_base.specs.FrontAt.{front}
use Rattle.mqtt5_base.specs.declared.error.Error.{Error}
use Rattle.mqtt5_codec.specs.declared.packet.Packet.{Packet}
use Rattle.mqtt5_codec.specs.PacketsIn.{packet_in}
use Rattle.mqtt5_broker.specs.Cut.{Cut, Ending, Holds, Breaks, on_frame, on_front, cut_up, goes_on_as}
use Rattle.mqtt5_broker.specs.Connection.{Connection, closed, shut, told, heard, emptied, holding, connection_at, with_connection}
use Rattle.mqtt5_broker.specs.Broker.{Broker, at_moment, on_connection, forgets, loses_client, stays_at, refuses, dismisses, dismisses_of}
use Rattle.mqtt5_broker.specs.Serving.{takes, takes_of}
use Rattle.mqtt5_broker.specs.Receiving.{takes_all, reason_for, ends_with, comes_of, receives_now, receives}
use Rattle.mqtt5_broker.proofs.Cutting.{pieces, regroup}
use Rattle.mqtt5_control.specs.declared.disconnect.DisconnectReasonCode.{DisconnectReasonCode}
use Rattle.mqtt5_broker.proofs.Keeping.{at_changed, Keeps, dismisses_keeps, all_keeps}

-- ---- a connection of which nothing is taken

pub closed_takes : (c : ℕ) (x : Packet) (b : Broker) → (connection_at c b.connections).is_open ≡ false → takes c x b ≡ b
unfolding takes
closed_takes c x b e = ap (λ (v : Bool). if v then takes_of (connection_at c b.connections).client c x (on_connection c (heard b.moment) b) else b) e

pub closed_all : (c : ℕ) (xs : List Packet) (b : Broker) → (connection_at c b.connections).is_open ≡ false → takes_all c xs b ≡ b
closed_all c [] b e = refl
closed_all c (x ∷ xs) b e = ap (takes_all c xs) (closed_takes c x b e) ∙ closed_all c xs b e

pub holding_closed : (bytes : List ℕ) (l : Connection) → l.is_open ≡ false → holding bytes l ≡ l
holding_closed bytes l e = ap (λ (v : Bool). if v then record l { held = bytes } else l) e

closed_dismisses : (c : ℕ) (reason : DisconnectReasonCode) (b : Broker) → (connection_at c b.connections).is_open ≡ false → dismisses c reason b ≡ b
unfolding dismisses
closed_dismisses c reason b e = ap (λ (v : Bool). if v then dismisses_of (connection_at c b.connections).client c reason b else b) e

pub closed_ends : (c : ℕ) (ending : Ending) (b : Broker) → (connection_at c b.connections).is_open ≡ false → ends_with c ending b ≡ b
closed_ends c (Holds held) b e =
    let same : set b.connections c (holding held (connection_at c b.connections)) ≡ b.connections = ap (set b.connections c) (holding_closed held (connection_at c b.connections) e) ∙ set-get_or b.connections c closed in
    ap (λ (ls : List Connection). record b { connections = ls }) same
closed_ends c (Breaks fault) b e = closed_dismisses c (reason_for fault) b e

pub closed_receives : (c : ℕ) (bytes : List ℕ) (b : Broker) → (connection_at c b.connections).is_open ≡ false → receives_now c bytes b ≡ b
unfolding receives_now
closed_receives c bytes b e = ap (λ (v : Bool). if v then comes_of c (cut_up (Some b.longest) ((connection_at c b.connections).held ++ bytes) []) (on_connection c emptied b) else b) e

-- ---- one of which bytes are taken

pub open_receives : (c : ℕ) (bytes : List ℕ) (b : Broker) → (connection_at c b.connections).is_open ≡ true → receives_now c bytes b ≡ comes_of c (cut_up (Some b.longest) ((connection_at c b.connections).held ++ bytes) []) (on_connection c emptied b)
unfolding receives_now
open_receives c bytes b e = ap (λ (v : Bool). if v then comes_of c (cut_up (Some b.longest) ((connection_at c b.connections).held ++ bytes) []) (on_connection c emptied b) else b) e

pub open_within : (c : ℕ) (ls : List Connection) → (get_or ls c closed).is_open ≡ true → c < length ls
open_within c [] e = absurd (cc e)
open_within zero (x ∷ xs) e = omega arith
open_within (suc c) (x ∷ xs) e = omega (arith, open_within c xs e)

pub holding_open : (bytes : List ℕ) (l : Connection) → l.is_open ≡ true → holding bytes l ≡ record l { held = bytes }
holding_open bytes l e = ap (λ (v : Bool). if v then record l { held = bytes } else l) e

pub set_twice : (ls : List Connection) (c : ℕ) (x y : Connection) → set (set ls c x) c y ≡ set ls c y
set_twice [] c x y = refl
set_twice (z ∷ zs) zero x y = refl
set_twice (z ∷ zs) (suc c) x y = ap (λ (ws : List Connection). z ∷ ws) (set_twice zs c x y)

-- ---- a fault

-- after it nothing is taken of the connection
pub shut_at_self : (c : ℕ) (f : Connection → Connection) (ls : List Connection) → ((l : Connection) → (f l).is_open ≡ false) → (get_or (set ls c (f (get_or ls c closed))) c closed).is_open ≡ false
shut_at_self c f [] h = refl
shut_at_self zero f (x ∷ xs) h = h x
shut_at_self (suc c) f (x ∷ xs) h = shut_at_self c f xs h

if_connections : (v : Bool) (x y : Broker) (ls : List Connection) → x.connections ≡ ls → y.connections ≡ ls → (if v then x else y).connections ≡ ls
if_connections true x y ls e f = e
if_connections false x y ls e f = f

loses_connections : (i : ℕ) (b : Broker) → (loses_client i b).connections ≡ b.connections
unfolding loses_client forgets
loses_connections i b = if_connections (stays_at i b.members) _ _ b.connections refl refl

refuses_connections : (c i : ℕ) (reason : DisconnectReasonCode) (b : Broker) → (refuses c i reason b).connections ≡ with_connection c (told reason) b.connections
unfolding refuses
refuses_connections c i reason b = ap (with_connection c (told reason)) (loses_connections i b)

of_closed : (o : Option ℕ) (c : ℕ) (reason : DisconnectReasonCode) (b : Broker) → (connection_at c (dismisses_of o c reason b).connections).is_open ≡ false
of_closed None c reason b = shut_at_self c shut b.connections (λ l. refl)
of_closed (Some i) c reason b = ap (λ (ls : List Connection). (connection_at c ls).is_open) (refuses_connections c i reason b) ∙ shut_at_self c (told reason) b.connections (λ l. refl)

by_closed : (v : Bool) (c : ℕ) (reason : DisconnectReasonCode) (b : Broker) → (connection_at c b.connections).is_open ≡ v → (connection_at c (dismisses c reason b).connections).is_open ≡ false
unfolding dismisses
by_closed true c reason b is = ap (λ (v : Bool). (connection_at c (if v then dismisses_of (connection_at c b.connections).client c reason b else b).connections).is_open) is ∙ of_closed (connection_at c b.connections).client c reason b
by_closed false c reason b is = ap (λ (x : Broker). (connection_at c x.connections).is_open) (closed_dismisses c reason b is) ∙ is

pub dismissed_closed : (c : ℕ) (reason : DisconnectReasonCode) (b : Broker) → (connection_at c (dismisses c reason b).connections).is_open ≡ false
dismissed_closed c reason b = by_closed (connection_at c b.connections).is_open c reason b refl

-- and the others are as they were
at_other : (c d : ℕ) (f : Connection → Connection) (ls : List Connection) → d ≢ c → connection_at d (with_connection c f ls) ≡ connection_at d ls
at_other c d f ls ne = at_changed (λ (l : Connection). l ≡ connection_at d ls) d c ls (f (connection_at c ls)) refl (λ e. absurd (ne e))

of_others : (o : Option ℕ) (c d : ℕ) (reason : DisconnectReasonCode) (b : Broker) → d ≢ c → connection_at d (dismisses_of o c reason b).connections ≡ connection_at d b.connections
of_others None c d reason b ne = at_other c d shut b.connections ne
of_others (Some i) c d reason b ne = ap (connection_at d) (refuses_connections c i reason b) ∙ at_other c d (told reason) b.connections ne

by_others : (v : Bool) (c d : ℕ) (reason : DisconnectReasonCode) (b : Broker) → d ≢ c → connection_at d (if v then dismisses_of (connection_at c b.connections).client c reason b else b).connections ≡ connection_at d b.connections
by_others true c d reason b ne = of_others (connection_at c b.connections).client c d reason b ne
by_others false c d reason b ne = refl

pub others_stay : (c d : ℕ) (reason : DisconnectReasonCode) (b : Broker) → d ≢ c → connection_at d (dismisses c reason b).connections ≡ connection_at d b.connections
unfolding dismisses
others_stay c d reason b ne = by_others (connection_at c b.connections).is_open c d reason b ne

-- ---- two pieces

all_append : (c : ℕ) (xs ys : List Packet) (b : Broker) → takes_all c (xs ++ ys) b ≡ takes_all c ys (takes_all c xs b)
all_append c [] ys b = refl
all_append c (x ∷ xs) ys b = all_append c xs ys (takes c x b)

-- where a stream ends with bytes, these need more
abbrev EndsMore : Option ℕ → Ending → Type 0
EndsMore limit (Holds held) = NeedsMore (front limit held)
EndsMore limit (Breaks e) = Unit {0}

module _ (n at : ℕ) (found : IsFound (Some n) (front (Some n))) (stays : IsFront (front (Some n))) where
  abbrev limit : Option ℕ
  limit = Some n

  frame_more : (r : Result Packet Error) (rest : Cut) → EndsMore limit rest.ending → EndsMore limit (on_frame r rest).ending
  frame_more (Ok p) rest h = h
  frame_more (Err e) rest h = tt

  front_more : (f : Front) (held : List ℕ) (k : List ℕ → Cut) → ((m : ℕ) → f ≡ More m → EndsMore limit (k held).ending) → ((frame rest : List ℕ) → f ≡ Whole frame rest → EndsMore limit (k rest).ending) → EndsMore limit (on_front f held k).ending
  front_more (Bad e) held k more whole = tt
  front_more (More m) held k more whole = more m refl
  front_more (Whole frame rest) held k more whole = frame_more (packet_in frame) (k rest) (whole frame rest refl)

  ends_more : (bytes held : List ℕ) → NeedsMore (front limit held) → EndsMore limit (cut_up limit bytes held).ending
  unfolding cut_up
  ends_more [] held h = h
  ends_more (b ∷ bytes) held h =
      front_more (front limit (held ++ b ∷ [])) (held ++ b ∷ []) (λ left. cut_up limit bytes left)
      (λ m is. ends_more bytes (held ++ b ∷ []) (m, is))
      (λ frame rest is. ends_more bytes rest (2, ap (front limit) (stays.tight held b h.0 frame rest h.1 is) ∙ found.nothing))

  module _ (c : ℕ) (ys : List ℕ) where
    -- what is held then is taken up again
    held_again : (left : List ℕ) (b : Broker) → NeedsMore (front limit left) → Keeps c n at b → (connection_at c b.connections).is_open ≡ true
        → comes_of c (cut_up limit ys left) b ≡ receives_now c ys (on_connection c (holding left) b)
    held_again left b more k e =
        let l : Connection = connection_at c b.connections in
        let within : c < length b.connections = open_within c b.connections e in
        let there : connection_at c (on_connection c (holding left) b).connections ≡ record l { held = left } = get_or-set_same b.connections c (holding left l) closed within ∙ holding_open left l e in
        let is_open : (connection_at c (on_connection c (holding left) b).connections).is_open ≡ true = ap (λ (x : Connection). x.is_open) there ∙ e in
        let is_held : (connection_at c (on_connection c (holding left) b).connections).held ≡ left = ap (λ (x : Connection). x.held) there in
        let empty : emptied (connection_at c (on_connection c (holding left) b).connections) ≡ l = ap emptied there ∙ ap (λ (h : List ℕ). record l { held = h }) (sym k.held) in
        let back : set (set b.connections c (holding left l)) c (emptied (connection_at c (on_connection c (holding left) b).connections)) ≡ b.connections = set_twice b.connections c (holding left l) _ ∙ ap (set b.connections c) empty ∙ set-get_or b.connections c closed in
        ap (λ (r : Cut). comes_of c r b) (regroup limit found stays ys left more.0 more.1)
        ∙ ap (λ (x : Broker). comes_of c (cut_up limit (left ++ ys) []) x) (sym (ap (λ (ls : List Connection). record b { connections = ls }) back))
        ∙ ap (λ (h : List ℕ). comes_of c (cut_up limit (h ++ ys) []) (on_connection c emptied (on_connection c (holding left) b))) (sym is_held)
        ∙ ap (λ (m : ℕ). comes_of c (cut_up (Some m) ((connection_at c (on_connection c (holding left) b).connections).held ++ ys) []) (on_connection c emptied (on_connection c (holding left) b))) (sym k.longest)
        ∙ sym (open_receives c ys (on_connection c (holding left) b) is_open)

    held_on : (v : Bool) (left : List ℕ) (b : Broker) → NeedsMore (front limit left) → Keeps c n at b → (connection_at c b.connections).is_open ≡ v
        → comes_of c (cut_up limit ys left) b ≡ receives_now c ys (on_connection c (holding left) b)
    held_on true left b more k e = held_again left b more k e
    held_on false left b more k e =
        ap (ends_with c (cut_up limit ys left).ending) (closed_all c (cut_up limit ys left).packets b e)
        ∙ closed_ends c (cut_up limit ys left).ending b e
        ∙ sym (ap (receives_now c ys) (closed_ends c (Holds left) b e) ∙ closed_receives c ys b e)

    goes_on : (ps : List Packet) (ending : Ending) (b : Broker) → EndsMore limit ending → Keeps c n at b
        → comes_of c (goes_on_as (record { packets = ps; ending = ending }) (λ left. cut_up limit ys left)) b ≡ receives_now c ys (comes_of c (record { packets = ps; ending = ending }) b)
    goes_on ps (Holds left) b more k =
        ap (ends_with c (cut_up limit ys left).ending) (all_append c ps (cut_up limit ys left).packets b)
        ∙ held_on (connection_at c (takes_all c ps b).connections).is_open left (takes_all c ps b) more (all_keeps c n at c ps b k) refl
    goes_on ps (Breaks e) b more k =
        ap (λ (qs : List Packet). ends_with c (Breaks e) (takes_all c qs b)) (append-nil ps)
        ∙ sym (closed_receives c ys (ends_with c (Breaks e) (takes_all c ps b)) (dismissed_closed c (reason_for e) (takes_all c ps b)))

emptied_at : (c : ℕ) (ls : List Connection) → (get_or (set ls c (emptied (get_or ls c closed))) c closed).held ≡ []
emptied_at c [] = refl
emptied_at zero (z ∷ zs) = refl
emptied_at (suc c) (z ∷ zs) = emptied_at c zs

emptied_keeps : (c : ℕ) (b : Broker) → Keeps c b.longest b.moment (on_connection c emptied b)
emptied_keeps c b = record { held = emptied_at c b.connections; longest = refl; moment = refl }

module _ (c : ℕ) (xs ys : List ℕ) (b : Broker) (found : IsFound (Some b.longest) (front (Some b.longest))) (stays : IsFront (front (Some b.longest))) where
  by_open : (v : Bool) → (connection_at c b.connections).is_open ≡ v → receives_now c (xs ++ ys) b ≡ receives_now c ys (receives_now c xs b)
  by_open false e = closed_receives c (xs ++ ys) b e ∙ sym (ap (receives_now c ys) (closed_receives c xs b e) ∙ closed_receives c ys b e)
  by_open true e =
      let h : List ℕ = (connection_at c b.connections).held in
      let n : Option ℕ = Some b.longest in
      open_receives c (xs ++ ys) b e
      ∙ ap (λ (s : List ℕ). comes_of c (cut_up n s []) (on_connection c emptied b)) (sym (append_assoc h xs ys))
      ∙ ap (λ (r : Cut). comes_of c r (on_connection c emptied b)) (pieces n (h ++ xs) ys [])
      ∙ goes_on b.longest b.moment found stays c ys (cut_up n (h ++ xs) []).packets (cut_up n (h ++ xs) []).ending (on_connection c emptied b) (ends_more b.longest b.moment found stays (h ++ xs) [] (2, found.nothing)) (emptied_keeps c b)
      ∙ sym (ap (receives_now c ys) (open_receives c xs b e))

  now_same : receives_now c (xs ++ ys) b ≡ receives_now c ys (receives_now c xs b)
  now_same = by_open (connection_at c b.connections).is_open refl

-- ---- at a moment

ends_keeps : (c n at : ℕ) (ending : Ending) (b : Broker) → Keeps c n at b → (ends_with c ending b).moment ≡ at
ends_keeps c n at (Holds held) b k = k.moment
ends_keeps c n at (Breaks e) b k = (dismisses_keeps c n at c (reason_for e) b k).moment

comes_moment : (c n at : ℕ) (r : Cut) (b : Broker) → Keeps c n at b → (comes_of c r b).moment ≡ at
comes_moment c n at r b k = ends_keeps c n at r.ending (takes_all c r.packets b) (all_keeps c n at c r.packets b k)

moment_stays : (v : Bool) (c : ℕ) (bytes : List ℕ) (b : Broker) → (connection_at c b.connections).is_open ≡ v → (receives_now c bytes b).moment ≡ b.moment
moment_stays false c bytes b e = ap (λ (x : Broker). x.moment) (closed_receives c bytes b e)
moment_stays true c bytes b e =
    ap (λ (x : Broker). x.moment) (open_receives c bytes b e)
    ∙ comes_moment c b.longest b.moment (cut_up (Some b.longest) ((connection_at c b.connections).held ++ bytes) []) (on_connection c emptied b) (emptied_keeps c b)

max_twice : (a m : ℕ) → max a (max a m) ≡ max a m
max_twice a m = omega arith

at_same : (at : ℕ) (b : Broker) (x : Broker) → x.moment ≡ max at b.moment → at_moment at x ≡ x
at_same at b x e = ap (λ (m : ℕ). record x { moment = m }) (ap (max at) e ∙ max_twice at b.moment ∙ sym e)

pub same : (at c : ℕ) (xs ys : List ℕ) (b : Broker) → IsFound (Some b.longest) (front (Some b.longest)) → IsFront (front (Some b.longest)) → receives at c (xs ++ ys) b ≡ receives at c ys (receives at c xs b)
same at c xs ys b found stays =
    now_same c xs ys (at_moment at b) found stays
    ∙ sym (ap (receives_now c ys) (at_same at b (receives_now c xs (at_moment at b)) (moment_stays (connection_at c b.connections).is_open c xs (at_moment at b) refl)))
