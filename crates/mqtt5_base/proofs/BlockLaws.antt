-- A property block is read exactly where its items stand, and a fault where that is the first.
use Rattle.std.proofs.Common.{◌≡◌, ℕ, zero, suc, ◌<◌, ◌≤◌, true, false, cond, ltb, eqb, List, [], ◌∷◌, ◌++◌, length, take, drop, Option, Some, None, Result, Ok, Err, ◌⊎◌, inl, inr, refl, sym, ap, ◌∙◌, append_assoc, arith, length-append, length-take}
use Rattle.std.proofs.lemmas.List.{take_at, drop_at, take-append-drop}
use Rattle.std.specs.Int.{w8}
use Rattle.mqtt5_base.specs.declared.error.Error.{Error}
use Rattle.mqtt5_base.specs.declared.error.Error.TheVariants.{InvalidPropertyType, BoundaryCrossed}
use Rattle.mqtt5_base.specs.VarInt.{VarInt}
use Rattle.mqtt5_base.specs.Grammar.{Kind, Atom, Entry, Found, allows, kinds, entry_of}
use Rattle.mqtt5_base.specs.Fields.{IsKind, Takes, IsProperty, Items, IsSet, IsBlock}
use Rattle.mqtt5_base.specs.Faults.{NumberFault, KindFault, ItemFault, FaultAfter, BlockFault}
use Rattle.mqtt5_base.specs.Reading.{◌>>=◌, number_at, none_of, with_item, atom_of_kind, property_at, item_at, items_within, block_at}
use Rattle.mqtt5_base.specs.Laws.{Reads}
use Rattle.mqtt5_base.proofs.ReadsLemmas.{same_ok, reads_ok, reads_err, reads_like, reads_values, reads_then, reads_map, reads_seen, seen, reads_guard, reads_long}
use Rattle.mqtt5_base.proofs.KindLaws.{number_reads, kind_reads, var_int_reads, long_enough}
use Rattle.mqtt5_base.proofs.SetLemmas.{adds, adds_props}

-- A byte is read.
pub byte_reads : (bs : List ℕ) → Reads (number_at w8 bs) (λ x. bs ≡ x.0 ∷ x.1) (NumberFault w8 bs)
byte_reads [] = record { value = λ y. (λ e. absurd cc, λ p. absurd cc); fault = (number_reads w8 []).fault }
byte_reads (b ∷ bs) = record {
  value = λ y. (λ e. ap (λ (x : ℕ × List ℕ). x.0 ∷ x.1) (same_ok (b, bs) y (sym again ∙ e)), λ p. again ∙ ap (λ x. Ok x) (parts y p));
  fault = (number_reads w8 (b ∷ bs)).fault;
}
  where
    again : number_at w8 (b ∷ bs) ≡ Ok (b, bs)
    again = grind arith

    head_or : List ℕ → ℕ
    head_or [] = b
    head_or (x ∷ xs) = x

    parts : (y : ℕ × List ℕ) → b ∷ bs ≡ y.0 ∷ y.1 → (b, bs) ≡ y
    parts y p = λ i. (ap head_or p i, ap (drop 1) p i)

-- ---- items

-- an unknown kind
abbrev no_kind : Option Kind
no_kind = None

-- a known kind
abbrev a_kind : Kind → Option Kind
a_kind k = Some k

-- a value of a kind that may be unknown
property_reads : (o : Option Kind) (id : ℕ) (bs : List ℕ)
    → Reads (atom_of_kind o id bs) (λ x. Takes (λ front. (k : Kind) × (o ≡ Some k) × IsKind k front x.0) bs x.1) (λ e. ((o ≡ None) × (e ≡ InvalidPropertyType id)) ⊎ ((k : Kind) × (o ≡ Some k) × KindFault k bs e))
property_reads None id bs = reads_like (reads_err (InvalidPropertyType id)) (λ y. (λ f. absurd f, λ q. absurd (none q.2.0 q.2.1))) (λ e. ((λ f. inl (refl, f)), from e))
  where
    none : (k : Kind) → no_kind ≡ a_kind k → ⊥
    none k e = absurd cc

    from : (e : Error) → ((no_kind ≡ None) × (e ≡ InvalidPropertyType id)) ⊎ ((k : Kind) × (no_kind ≡ Some k) × KindFault k bs e) → e ≡ InvalidPropertyType id
    from e (inl f) = f.1
    from e (inr f) = absurd (none f.0 f.1)
property_reads (Some k) id bs = reads_like (kind_reads k bs) (λ y. (λ p. (p.0, p.1, (k, refl, p.2)), λ q. (q.0, q.1, rw (same k q.2.0 q.2.1) q.2.2))) (λ e. ((λ f. inr (k, refl, f)), from e))
  where
    none : a_kind k ≡ no_kind → ⊥
    none e = absurd cc

    same : (k l : Kind) → a_kind k ≡ a_kind l → k ≡ l
    same k l e = cc

    from : (e : Error) → ((a_kind k ≡ None) × (e ≡ InvalidPropertyType id)) ⊎ ((l : Kind) × (a_kind k ≡ Some l) × KindFault l bs e) → KindFault k bs e
    from e (inl f) = absurd (none f.0)
    from e (inr f) = rw (same k f.0 f.1) f.2

-- one item, and what it makes of those found
abbrev IsItem : List Entry → Found → List ℕ → Found → List ℕ → Type 0
IsItem table found bs next after = (id : ℕ) × (body : List ℕ) × (bs ≡ id ∷ body) × ((allows table id ≡ true) × ((a : Atom) × Takes (λ front. IsProperty id front a) body after × (next ≡ with_item table id a found)))

-- the fault of one item
abbrev NoItem : List Entry → List ℕ → Error → Type 0
NoItem table bs e = NumberFault w8 bs e ⊎ ((id : ℕ) × (body : List ℕ) × (bs ≡ id ∷ body) × ItemFault table id body e)

-- One item is read.
item_reads : (table : List Entry) (found : Found) (bs : List ℕ) → Reads (item_at table found bs) (λ y. IsItem table found bs y.0 y.1) (NoItem table bs)
unfolding item_at property_at
item_reads table found bs = reads_then (λ id. cond (allows table id.0) (seen (λ a. with_item table id.0 a found) (property_at id.0 id.1)) (Err (InvalidPropertyType id.0))) (λ id body. bs ≡ id ∷ body)
    (λ id body y. (allows table id ≡ true) × ((a : Atom) × Takes (λ front. IsProperty id front a) body y.1 × (y.0 ≡ with_item table id a found))) (λ id body. ItemFault table id body) (byte_reads bs)
    (λ id body _. reads_guard (allows table id) (InvalidPropertyType id) (reads_seen (λ a. with_item table id a found) (λ a after. Takes (λ front. IsProperty id front a) body after) (property_reads (entry_of kinds id) id body)))

-- items, and what they make of those found
abbrev AddsItems : List Entry → Found → List ℕ → Found → Type 0
AddsItems table found bs y = (items : List (ℕ × Atom)) × Items table bs items × (y ≡ adds table found items)

-- the first item that can't be read
abbrev NoItems : List Entry → List ℕ → Error → Type 0
NoItems table bs e = (items : List (ℕ × Atom)) × FaultAfter table bs items e

-- bytes that are there aren't none
pub some_bytes : (b : ℕ) (bs : List ℕ) → eqb (length (b ∷ bs)) 0 ≡ false
some_bytes b bs = grind arith

-- an item takes a byte at least
item_takes : (table : List Entry) (found : Found) (bs : List ℕ) (next : Found) (after : List ℕ) → IsItem table found bs next after → length after < length bs
item_takes table found bs next after h = omega (arith, ap length h.2, ap length h.3.1.1.1, length-append h.3.1.1.0 after)

-- no bytes are no items, and no fault
no_items : (table : List Entry) (found : Found) → Reads (Ok found) (AddsItems table found []) (NoItems table [])
no_items table found = reads_like (reads_ok found) (λ y. (λ e. ([], refl, e), λ p. nothing y p.0 p.1 p.2)) (λ e. (λ f. absurd f, λ f. none e f.0 f.1))
  where
    nothing : (y : Found) (items : List (ℕ × Atom)) → Items table [] items → y ≡ adds table found items → y ≡ found
    nothing y [] h e = e
    nothing y (i ∷ items) h e = absurd cc

    none : (e : Error) (items : List (ℕ × Atom)) → FaultAfter table [] items e → ⊥
    none e [] f = absurd cc
    none e (i ∷ items) f = absurd cc

-- Items are read to the end.
items_read : (n : ℕ) (table : List Entry) (found : Found) (bs : List ℕ) → length bs ≤ n → Reads (items_within n table found bs) (AddsItems table found bs) (NoItems table bs)
unfolding items_within
items_read zero table found [] le = no_items table found
items_read zero table found (b ∷ bs) le = absurd (omega arith)
items_read (suc n) table found [] le = no_items table found
items_read (suc n) table found (b ∷ bs) le =
    rw (some_bytes b bs) (reads_like (reads_then (λ i. items_within n table i.0 i.1) (IsItem table found (b ∷ bs)) (λ next after y. AddsItems table next after y) (λ next after. NoItems table after) (item_reads table found (b ∷ bs))
    (λ next after h. let shorter : length after ≤ n = omega (arith, item_takes table found (b ∷ bs) next after h, le) in items_read n table next after shorter)) (λ y. (to y, λ q. from y q.0 q.1 q.2)) (λ e. (wrong e, λ f. first e f.0 f.1)))
  where
    to : (y : Found) → (next : Found) × (after : List ℕ) × IsItem table found (b ∷ bs) next after × AddsItems table next after y → AddsItems table found (b ∷ bs) y
    to y p = let i = p.2 in let a = i.3.1 in ((i.0, a.0) ∷ p.3.0, (i.1, p.1, i.2, i.3.0, a.1, p.3.1), p.3.2 ∙ ap (λ (f : Found). adds table f p.3.0) a.2)

    from : (y : Found) (items : List (ℕ × Atom)) → Items table (b ∷ bs) items → y ≡ adds table found items → (next : Found) × (after : List ℕ) × IsItem table found (b ∷ bs) next after × AddsItems table next after y
    from y [] h e = absurd cc
    from y (i ∷ items) h e = (with_item table i.0 i.1 found, h.1, (i.0, h.0, h.2, (h.3, (i.1, h.4, refl))), (items, h.5, e))

    wrong : (e : Error) → NoItem table (b ∷ bs) e ⊎ ((next : Found) × (after : List ℕ) × IsItem table found (b ∷ bs) next after × NoItems table after e) → NoItems table (b ∷ bs) e
    wrong e (inl (inl f)) = absurd (omega (arith, f.0))
    wrong e (inl (inr f)) = ([], f)
    wrong e (inr f) = let i = f.2 in let a = i.3.1 in ((i.0, a.0) ∷ f.3.0, (i.1, f.1, i.2, i.3.0, a.1, f.3.1))

    first : (e : Error) (items : List (ℕ × Atom)) → FaultAfter table (b ∷ bs) items e → NoItem table (b ∷ bs) e ⊎ ((next : Found) × (after : List ℕ) × IsItem table found (b ∷ bs) next after × NoItems table after e)
    first e [] f = inl (inr f)
    first e (i ∷ items) f = inr (with_item table i.0 i.1 found, f.1, (i.0, f.0, f.2, (f.3, (i.1, f.4, refl))), (items, f.5))

-- ---- blocks

-- so many bytes are the set's, and these are after them
abbrev IsBody : List Entry → ℕ → List ℕ → Option Found → List ℕ → Type 0
IsBody table n mid p after = (here : List ℕ) × (mid ≡ here ++ after) × (length here ≡ n) × IsSet table here p

-- there are fewer bytes, or a fault is within them
abbrev NoBody : List Entry → ℕ → List ℕ → Error → Type 0
NoBody table n mid e = ((length mid < n) × (e ≡ BoundaryCrossed n)) ⊎ ((items : List (ℕ × Atom)) × (here rest : List ℕ) × (mid ≡ here ++ rest) × (length here ≡ n) × FaultAfter table here items e)

-- a set and the bytes after it
abbrev set_with : Option Found → List ℕ → Option Found × List ℕ
set_with p after = (p, after)

-- how a set of so many bytes is read
abbrev body_at : List Entry → ℕ → List ℕ → Result (Option Found × List ℕ) Error
body_at table n mid = cond (eqb n 0) (Ok (None, mid)) (cond (ltb (length mid) n) (Err (BoundaryCrossed n)) (items_within n table (none_of table) (take n mid) >>= λ found. Ok (Some found, drop n mid)))

-- A set of so many bytes is read.
body_reads : (table : List Entry) (n : ℕ) (mid : List ℕ) → Reads (body_at table n mid) (λ y. IsBody table n mid y.0 y.1) (NoBody table n mid)
body_reads table zero mid = reads_like (reads_ok (None, mid)) (λ y. (λ e. rw e ([], refl, refl, refl), λ q. from y.0 y.1 q.0 q.1 q.2 q.3)) (λ e. ((λ f. absurd f), none e))
  where
    from : (p : Option Found) (after here : List ℕ) → mid ≡ here ++ after → length here ≡ 0 → IsSet table here p → set_with p after ≡ (None, mid)
    from None after [] e len s = λ i. (None, sym e i)
    from (Some found) after [] e len s = absurd (omega (arith, s.0))
    from p after (b ∷ bs) e len s = absurd (omega arith)

    by_items : (e : Error) (items : List (ℕ × Atom)) (here : List ℕ) → length here ≡ 0 → FaultAfter table here items e → ⊥
    by_items e [] here len f = absurd (omega (arith, ap length f.2))
    by_items e (i ∷ items) here len f = absurd (omega (arith, ap length f.2))

    none : (e : Error) → NoBody table 0 mid e → ⊥
    none e (inl f) = absurd (omega (arith, f.0))
    none e (inr f) = by_items e f.0 f.1 f.4 f.5
body_reads table (suc m) mid = rw some (reads_like (reads_long (length mid) (suc m) (BoundaryCrossed (suc m)) (reads_map (λ found. (Some found, drop (suc m) mid)) (items_read (suc m) table (none_of table) (take (suc m) mid) (omega (arith, length-take (suc m) mid)))))
    (λ y. (to y, λ q. from y.0 y.1 q.0 q.1 q.2 q.3)) (λ e. (wrong e, first e)))
  where
    some : eqb (suc m) 0 ≡ false
    some = grind arith

    to : (y : Option Found × List ℕ) → (suc m ≤ length mid) × ((found : Found) × AddsItems table (none_of table) (take (suc m) mid) found × (y ≡ (Some found, drop (suc m) mid))) → IsBody table (suc m) mid y.0 y.1
    to y p =
        let long : length (take (suc m) mid) ≡ suc m = long_enough mid (suc m) p.0 in
        let set = p.1.1 in
        rw p.1.2 (take (suc m) mid, sym (take-append-drop (suc m) mid), long, (omega (arith, long), set.0, set.1, set.2 ∙ adds_props table set.0))

    from : (p : Option Found) (after here : List ℕ) → mid ≡ here ++ after → length here ≡ suc m → IsSet table here p → (suc m ≤ length mid) × ((found : Found) × AddsItems table (none_of table) (take (suc m) mid) found × (set_with p after ≡ (Some found, drop (suc m) mid)))
    from None after here e len s = absurd (omega (arith, s))
    from (Some found) after here e len s =
        let shown : take (suc m) mid ≡ here = ap (take (suc m)) e ∙ take_at here after (suc m) len in
        let left : drop (suc m) mid ≡ after = ap (drop (suc m)) e ∙ drop_at here after (suc m) len in
        (omega (arith, ap length e, length-append here after), (found, rw shown (s.1, s.2, s.3 ∙ sym (adds_props table s.1)), λ i. (Some found, sym left i)))

    wrong : (e : Error) → ((length mid < suc m) × (e ≡ BoundaryCrossed (suc m))) ⊎ ((suc m ≤ length mid) × NoItems table (take (suc m) mid) e) → NoBody table (suc m) mid e
    wrong e (inl f) = inl f
    wrong e (inr f) = inr (f.1.0, take (suc m) mid, drop (suc m) mid, sym (take-append-drop (suc m) mid), long_enough mid (suc m) f.0, f.1.1)

    first : (e : Error) → NoBody table (suc m) mid e → ((length mid < suc m) × (e ≡ BoundaryCrossed (suc m))) ⊎ ((suc m ≤ length mid) × NoItems table (take (suc m) mid) e)
    first e (inl f) = inl f
    first e (inr f) =
        let shown : take (suc m) mid ≡ f.1 = ap (take (suc m)) f.3 ∙ take_at f.1 f.2 (suc m) f.4 in
        inr (omega (arith, f.4, ap length f.3, length-append f.1 f.2), (f.0, rw shown f.5))

-- Property blocks are read.
pub block_reads : (table : List Entry) (bs : List ℕ) → Reads (block_at table bs) (λ x. Takes (λ front. IsBlock table front x.0) bs x.1) (BlockFault table bs)
unfolding block_at
block_reads table bs = reads_values (reads_then (λ n. body_at table n.0 n.1) (λ n mid. Takes (λ front. VarInt front n) bs mid) (λ n mid y. IsBody table n mid y.0 y.1) (λ n mid. NoBody table n mid) (var_int_reads bs) (λ n mid _. body_reads table n mid))
    (λ y. (to y, from y))
  where
    to : (y : Option Found × List ℕ) → (n : ℕ) × (mid : List ℕ) × Takes (λ front. VarInt front n) bs mid × IsBody table n mid y.0 y.1 → Takes (λ front. IsBlock table front y.0) bs y.1
    to y p =
        let t = p.2 in
        let b = p.3 in
        (t.0 ++ b.0, t.1 ∙ ap (λ r. t.0 ++ r) b.1 ∙ sym (append_assoc t.0 b.0 y.1), (t.0, b.0, refl, (t.2.0, t.2.1, b.2 ∙ t.2.2), b.3))

    from : (y : Option Found × List ℕ) → Takes (λ front. IsBlock table front y.0) bs y.1 → (n : ℕ) × (mid : List ℕ) × Takes (λ front. VarInt front n) bs mid × IsBody table n mid y.0 y.1
    from y q = let h = q.2 in (length h.1, h.1 ++ y.1, (h.0, q.1 ∙ ap (λ r. r ++ y.1) h.2 ∙ append_assoc h.0 h.1 y.1, h.3), (h.1, refl, refl, h.4))
