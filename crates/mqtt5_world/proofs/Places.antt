-- What one event does at one id, and that it does nothing at the others.
use Rattle.std.proofs.Common.{◌≡◌, ◌≢◌, ℕ, Bool, true, false, cond, ◌&&◌, ◌==◌, List, [], ◌∷◌, ◌++◌, filter, Option, Some, None, refl, sym, ap, ◌∙◌, subst, ⊎_elim, append-nil, eq-eqb, ne_eqb}
use Rattle.std.proofs.lemmas.Bool.{cases_eq}
use Rattle.std.proofs.lemmas.List.Elements.{filter-append}
use Rattle.std.specs.Prelude.{not, ◌||◌}
use Rattle.std.specs.Ordering.{nat_cmp, eq_by_cmp}
use Rattle.std.specs.Cmp.{nat_cmp_total, unsigned_tied}
use Rattle.std.specs.FinMap as map
use Rattle.std.specs.FinSet as set
use Rattle.mqtt5_publish.specs.declared.publish.Publish.{Publish}
use Rattle.mqtt5_codec.specs.declared.packet.Packet.{Packet}
use Rattle.mqtt5_codec.specs.declared.packet.Packet.TheVariants as packets
use Rattle.mqtt5_inflight.specs.declared.slot.Slot.{Slot}
use Rattle.mqtt5_inflight.specs.InUse.{InUse}
use Rattle.mqtt5_inflight.proofs.Exports.{get_insert_same, get_insert_other}
use Rattle.mqtt5_world.specs.World.{World}
use Rattle.mqtt5_world.specs.Delivery.{is_acked, is_token_up, is_token_down, Token}

-- ---- ids in use, and ids of the broker

tied_same : (k : ℕ) → eq_by_cmp nat_cmp k k ≡ true
tied_same k = unsigned_tied k k ∙ eq-eqb k k refl

tied_other : (j k : ℕ) → j ≢ k → eq_by_cmp nat_cmp j k ≡ false
tied_other j k ne = unsigned_tied j k ∙ ne_eqb j k ne

get_remove_same : (h : InUse) (k : ℕ) → map.get (map.remove h k) k ≡ None
get_remove_same h k = map.get-remove nat_cmp_total h k k ∙ ap (λ b. cond b None (map.get h k)) (tied_same k)

pub get_remove_other : (h : InUse) (k j : ℕ) → j ≢ k → map.get (map.remove h k) j ≡ map.get h j
get_remove_other h k j ne = map.get-remove nat_cmp_total h k j ∙ ap (λ b. cond b None (map.get h j)) (tied_other j k ne)

abbrev Ids : Type 0
Ids = set.FinSet nat_cmp

with_same : (s : Ids) (k : ℕ) → set.contains (set.insert s k) k ≡ true
with_same s k = set.contains-insert nat_cmp_total s k k ∙ ap (λ b. b || set.contains s k) (tied_same k)

with_other : (s : Ids) (k j : ℕ) → j ≢ k → set.contains (set.insert s k) j ≡ set.contains s j
with_other s k j ne = set.contains-insert nat_cmp_total s k j ∙ ap (λ b. b || set.contains s j) (tied_other j k ne)

without_same : (s : Ids) (k : ℕ) → set.contains (set.remove s k) k ≡ false
without_same s k = set.contains-remove nat_cmp_total s k k ∙ ap (λ b. not b && set.contains s k) (tied_same k)

without_other : (s : Ids) (k j : ℕ) → j ≢ k → set.contains (set.remove s k) j ≡ set.contains s j
without_other s k j ne = set.contains-remove nat_cmp_total s k j ∙ ap (λ b. not b && set.contains s j) (tied_other j k ne)

-- ---- the packets of an id

-- a packet that is a token of k and of no other id
abbrev pub IsTokenOf : (ℕ → Packet → Bool) → ℕ → Packet → Type 0
IsTokenOf t k x = (j : ℕ) → t j x ≡ (k == j)

pub token_here : (t : ℕ → Packet → Bool) (k : ℕ) (x : Packet) → IsTokenOf t k x → t k x ≡ true
token_here t k x own = own k ∙ eq-eqb k k refl

pub token_other : (t : ℕ → Packet → Bool) (k : ℕ) (x : Packet) → IsTokenOf t k x → (j : ℕ) → j ≢ k → t j x ≡ false
token_other t k x own j ne = own j ∙ ne_eqb k j (λ e. ne (sym e))

-- in front
pub front_here : (t : ℕ → Packet → Bool) (j : ℕ) (x : Packet) (xs : List Packet) → t j x ≡ true → filter (t j) (x ∷ xs) ≡ x ∷ filter (t j) xs
front_here t j x xs e = ap (λ b. cond b (x ∷ filter (t j) xs) (filter (t j) xs)) e

pub front_none : (t : ℕ → Packet → Bool) (j : ℕ) (x : Packet) (xs : List Packet) → t j x ≡ false → filter (t j) (x ∷ xs) ≡ filter (t j) xs
front_none t j x xs e = ap (λ b. cond b (x ∷ filter (t j) xs) (filter (t j) xs)) e

-- at the end
back_here : (t : ℕ → Packet → Bool) (j : ℕ) (x : Packet) (xs : List Packet) → t j x ≡ true → filter (t j) (xs ++ x ∷ []) ≡ filter (t j) xs ++ x ∷ []
back_here t j x xs e = filter-append (t j) xs (x ∷ []) ∙ ap (λ l. filter (t j) xs ++ l) (front_here t j x [] e)

pub back_none : (t : ℕ → Packet → Bool) (j : ℕ) (x : Packet) (xs : List Packet) → t j x ≡ false → filter (t j) (xs ++ x ∷ []) ≡ filter (t j) xs
back_none t j x xs e = filter-append (t j) xs (x ∷ []) ∙ ap (λ l. filter (t j) xs ++ l) (front_none t j x [] e) ∙ append-nil _

pub publish_token : (p : Publish) → is_acked p.qos ≡ true → IsTokenOf is_token_up p.pkid (packets.Publish p)
publish_token p e = λ j. ap (λ b. b && (p.pkid == j)) e

-- ---- what stands at an id

-- what tokens are about
pub record View : Type 0 where
  pub in_use : InUse
  pub ids : Ids
  pub up : List Packet
  pub down : List Packet

abbrev pub view_of : World → View
view_of w = record { in_use = w.session.core.in_use; ids = w.broker.ids; up = w.up; down = w.down }

pub record Place : Type 0 where
  pub slot : Option Slot
  pub has : Bool
  pub up : List Packet
  pub down : List Packet

abbrev pub place : View → ℕ → Place
place v id = record { slot = map.get v.in_use id; has = set.contains v.ids id; up = filter (is_token_up id) v.up; down = filter (is_token_down id) v.down }

abbrev pub TokenAt : ℕ → Place → Type 0
TokenAt id p = Token id p.slot p.has p.up p.down

-- v becomes w: at k a becomes b, and elsewhere nothing changes
pub record Turn (v w : View) (k : ℕ) (a b : Place) : Type 0 where
  pub before : place v k ≡ a
  pub after : place w k ≡ b
  pub elsewhere : (j : ℕ) → j ≢ k → place w j ≡ place v j

-- what is said of each id is said after a turn
pub turned : (P : ℕ → Place → Type 0) {v w : View} {k : ℕ} {a b : Place} → Turn v w k a b → P k b → ((id : ℕ) → P id (place v id)) → (id : ℕ) → P id (place w id)
turned P {v = v} {w = w} {k = k} t here all id = ⊎_elim
    (λ (e : id ≡ k). subst (λ j. P j (place w j)) (sym e) (subst (P k) (sym t.after) here))
    (λ (ne : id ≢ k). subst (P id) (sym (t.elsewhere id ne)) (all id))
    (cases_eq id k)

-- one turn after another
pub then_turn : {u v w : View} {k : ℕ} {a b c : Place} → Turn u v k a b → Turn v w k b c → Turn u w k a c
then_turn s t = record { before = s.before; after = t.after; elsewhere = λ j ne. t.elsewhere j ne ∙ s.elsewhere j ne }

-- ---- turns of one part

pub set_slot : {v : View} {k : ℕ} {a : Place} (x : Slot) → place v k ≡ a → Turn v (record v { in_use = map.insert v.in_use k x }) k a (record a { slot = Some x })
set_slot {v = v} {k = k} x e =
    record {
      before = e;
      after = λ i. record (e i) { slot = get_insert_same v.in_use k x i };
      elsewhere = λ j ne i. record (place v j) { slot = get_insert_other v.in_use k x j ne i };
    }

pub unset_slot : {v : View} {k : ℕ} {a : Place} → place v k ≡ a → Turn v (record v { in_use = map.remove v.in_use k }) k a (record a { slot = None })
unset_slot {v = v} {k = k} e =
    record {
      before = e;
      after = λ i. record (e i) { slot = get_remove_same v.in_use k i };
      elsewhere = λ j ne i. record (place v j) { slot = get_remove_other v.in_use k j ne i };
    }

pub add_id : {v : View} {k : ℕ} {a : Place} → place v k ≡ a → Turn v (record v { ids = set.insert v.ids k }) k a (record a { has = true })
add_id {v = v} {k = k} e =
    record {
      before = e;
      after = λ i. record (e i) { has = with_same v.ids k i };
      elsewhere = λ j ne i. record (place v j) { has = with_other v.ids k j ne i };
    }

pub take_id : {v : View} {k : ℕ} {a : Place} → place v k ≡ a → Turn v (record v { ids = set.remove v.ids k }) k a (record a { has = false })
take_id {v = v} {k = k} e =
    record {
      before = e;
      after = λ i. record (e i) { has = without_same v.ids k i };
      elsewhere = λ j ne i. record (place v j) { has = without_other v.ids k j ne i };
    }

pub push_up : {v : View} {k : ℕ} {a : Place} (x : Packet) → IsTokenOf is_token_up k x → place v k ≡ a → Turn v (record v { up = v.up ++ x ∷ [] }) k a (record a { up = a.up ++ x ∷ [] })
push_up {v = v} {k = k} x t e =
    record {
      before = e;
      after = λ i. record (e i) { up = (back_here is_token_up k x v.up (token_here is_token_up k x t) ∙ ap (λ (p : Place). p.up ++ x ∷ []) e) i };
      elsewhere = λ j ne i. record (place v j) { up = back_none is_token_up j x v.up (token_other is_token_up k x t j ne) i };
    }

pub push_down : {v : View} {k : ℕ} {a : Place} (x : Packet) → IsTokenOf is_token_down k x → place v k ≡ a → Turn v (record v { down = v.down ++ x ∷ [] }) k a (record a { down = a.down ++ x ∷ [] })
push_down {v = v} {k = k} x t e =
    record {
      before = e;
      after = λ i. record (e i) { down = (back_here is_token_down k x v.down (token_here is_token_down k x t) ∙ ap (λ (p : Place). p.down ++ x ∷ []) e) i };
      elsewhere = λ j ne i. record (place v j) { down = back_none is_token_down j x v.down (token_other is_token_down k x t j ne) i };
    }

same_tail : (x y : Packet) (xs ys : List Packet) → x ∷ xs ≡ y ∷ ys → xs ≡ ys
same_tail x y xs ys e = cc

-- the tokens of an id in a way whose first packet goes
tail_here : (t : ℕ → Packet → Bool) (k : ℕ) (x : Packet) (way rest us : List Packet) → IsTokenOf t k x → way ≡ x ∷ rest → filter (t k) way ≡ x ∷ us → filter (t k) rest ≡ us
tail_here t k x way rest us own w e = same_tail x x _ _ (sym (ap (filter (t k)) w ∙ front_here t k x rest (token_here t k x own)) ∙ e)

tail_other : (t : ℕ → Packet → Bool) (k : ℕ) (x : Packet) (way rest : List Packet) → IsTokenOf t k x → way ≡ x ∷ rest → (j : ℕ) → j ≢ k → filter (t j) rest ≡ filter (t j) way
tail_other t k x way rest own w j ne = sym (ap (filter (t j)) w ∙ front_none t j x rest (token_other t k x own j ne))

pub pop_up : {v : View} {k : ℕ} {s : Option Slot} {b : Bool} {us ds : List Packet} (x : Packet) (rest : List Packet) → IsTokenOf is_token_up k x → v.up ≡ x ∷ rest → place v k ≡ record { slot = s; has = b; up = x ∷ us; down = ds } → Turn v (record v { up = rest }) k (record { slot = s; has = b; up = x ∷ us; down = ds }) (record { slot = s; has = b; up = us; down = ds })
pop_up {v = v} {k = k} {us = us} x rest t u e =
    record {
      before = e;
      after = λ i. record (e i) { up = tail_here is_token_up k x v.up rest us t u (ap (λ (p : Place). p.up) e) i };
      elsewhere = λ j ne i. record (place v j) { up = tail_other is_token_up k x v.up rest t u j ne i };
    }

pub pop_down : {v : View} {k : ℕ} {s : Option Slot} {b : Bool} {us ds : List Packet} (x : Packet) (rest : List Packet) → IsTokenOf is_token_down k x → v.down ≡ x ∷ rest → place v k ≡ record { slot = s; has = b; up = us; down = x ∷ ds } → Turn v (record v { down = rest }) k (record { slot = s; has = b; up = us; down = x ∷ ds }) (record { slot = s; has = b; up = us; down = ds })
pop_down {v = v} {k = k} {ds = ds} x rest t d e =
    record {
      before = e;
      after = λ i. record (e i) { down = tail_here is_token_down k x v.down rest ds t d (ap (λ (p : Place). p.down) e) i };
      elsewhere = λ j ne i. record (place v j) { down = tail_other is_token_down k x v.down rest t d j ne i };
    }

-- the same list up, written another way
pub more_up : {v w : View} {k : ℕ} {a b : Place} {xs : List Packet} → xs ≡ w.up → Turn v w k a b → Turn v (record w { up = xs }) k a b
more_up {v = v} {w = w} {k = k} {a = a} {b = b} e t = subst (λ us. Turn v (record w { up = us }) k a b) (sym e) t
