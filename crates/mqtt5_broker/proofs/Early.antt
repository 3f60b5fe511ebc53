-- Before the next moment nothing is due.
use Rattle.std.proofs.Common.{◌≡◌, ◌<◌, ◌≤◌, ℕ, zero, suc, Bool, false, List, [], ◌∷◌, length, Option, Some, None, refl, ap, ◌∙◌, min, max, leb, arith, if◌then◌else◌}
use Rattle.std.proofs.lemmas.Bool.{leb-false, lt-leb}
use Rattle.std.proofs.Math.Nat.{min-le_left, min-le_right}
use Rattle.mqtt5_control.specs.declared.disconnect.DisconnectReasonCode.TheVariants as reasons
use Rattle.mqtt5_broker.specs.declared.member.Member.{Member}
use Rattle.mqtt5_broker.specs.Moments.{has_come, earlier}
use Rattle.mqtt5_broker.specs.Connection.{Connection, connection_at}
use Rattle.mqtt5_broker.specs.Broker.{Broker, at_moment, member_at, has_ended, will_is_due, forgets, publishes_will, dismisses}
use Rattle.mqtt5_broker.specs.Clock.{for_each, silences, expires, silences_all, expires_all, ticks, first_silence, first_of_client, first_expiry, next_moment}

-- ---- moments that haven't come

abbrev Ahead : Option ℕ → ℕ → Type 0
Ahead at now = has_come at now ≡ false

below : (m n now : ℕ) → min m n ≤ m → now < min m n → leb m now ≡ false
below m n now le lt = lt-leb m now (omega (arith, le, lt))

below_other : (m n now : ℕ) → min m n ≤ n → now < min m n → leb n now ≡ false
below_other m n now le lt = lt-leb n now (omega (arith, le, lt))

both : (a b : Option ℕ) (now : ℕ) → Ahead (earlier a b) now → Ahead a now × Ahead b now
both None b now e = (refl, e)
both (Some m) None now e = (e, refl)
both (Some m) (Some n) now e =
    let lt : now < min m n = leb-false (min m n) now e in
    (below m n now (min-le_left m n) lt, below_other m n now (min-le_right m n) lt)

connections_ahead : (ls : List Connection) (at : Option ℕ) (now : ℕ) → Ahead (first_silence ls at) now → Ahead at now × ((i : ℕ) → Ahead (connection_at i ls).deadline now)
connections_ahead [] at now e = (e, λ i. refl)
connections_ahead (l ∷ ls) at now e =
    let more = connections_ahead ls (earlier at l.deadline) now e in
    let here : Ahead at now × Ahead l.deadline now = both at l.deadline now more.0 in
    (here.0, at_place here.1 more.1)
  where
    at_place : Ahead l.deadline now → ((i : ℕ) → Ahead (connection_at i ls).deadline now) → (i : ℕ) → Ahead (connection_at i (l ∷ ls)).deadline now
    at_place h k zero = h
    at_place h k (suc i) = k i

abbrev Stays : Option Member → ℕ → Type 0
Stays m now = (has_ended now m ≡ false) × (will_is_due now m ≡ false)

member_ahead : (m : Option Member) (at : Option ℕ) (now : ℕ) → Ahead (first_of_client m at) now → Ahead at now × Stays m now
member_ahead None at now e = (e, (refl, refl))
member_ahead (Some m) at now e =
    let last : Ahead (earlier at m.ends) now × Ahead m.due now = both (earlier at m.ends) m.due now e in
    let first : Ahead at now × Ahead m.ends now = both at m.ends now last.0 in
    (first.0, (first.1, last.1))

members_ahead : (ms : List (Option Member)) (at : Option ℕ) (now : ℕ) → Ahead (first_expiry ms at) now → Ahead at now × ((i : ℕ) → Stays (member_at i ms) now)
members_ahead [] at now e = (e, λ i. (refl, refl))
members_ahead (m ∷ ms) at now e =
    let more = members_ahead ms (first_of_client m at) now e in
    let here : Ahead at now × Stays m now = member_ahead m at now more.0 in
    (here.0, at_place here.1 more.1)
  where
    at_place : Stays m now → ((i : ℕ) → Stays (member_at i ms) now) → (i : ℕ) → Stays (member_at i (m ∷ ms)) now
    at_place h k zero = h
    at_place h k (suc i) = k i

-- ---- nothing happens

each_stays : (n : ℕ) (f : ℕ → Broker → Broker) (b : Broker) → ((i : ℕ) → f i b ≡ b) → for_each n f b ≡ b
each_stays zero f b h = refl
each_stays (suc n) f b h = ap (f n) (each_stays n f b h) ∙ h n

not_silent : (c : ℕ) (b : Broker) → Ahead (connection_at c b.connections).deadline b.moment → silences c b ≡ b
unfolding silences
not_silent c b e = ap (λ (v : Bool). if v then dismisses c reasons.KeepAliveTimeout b else b) e

not_expired : (i : ℕ) (b : Broker) → Stays (member_at i b.members) b.moment → expires i b ≡ b
unfolding expires
not_expired i b e =
    ap (λ (v : Bool). if v then forgets i b else if will_is_due b.moment (member_at i b.members) then publishes_will i b else b) e.0
    ∙ ap (λ (v : Bool). if v then publishes_will i b else b) e.1

pub nothing_due : (at : ℕ) (b : Broker) → Ahead (next_moment b) (max at b.moment) → ticks at b ≡ at_moment at b
nothing_due at b e =
    let members = members_ahead b.members (first_silence b.connections None) (max at b.moment) e in
    let connections = connections_ahead b.connections None (max at b.moment) members.0 in
    let now : Broker = at_moment at b in
    let quiet : silences_all now ≡ now = each_stays (length b.connections) silences now (λ c. not_silent c now (connections.1 c)) in
    ap expires_all quiet ∙ each_stays (length b.members) expires now (λ i. not_expired i now (members.1 i))
