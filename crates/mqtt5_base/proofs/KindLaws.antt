-- One value is read exactly where its bytes stand for it, and a fault where that is the first.
use Rattle.std.proofs.Common.{◌≡◌, ℕ, ◌<◌, ◌≤◌, true, false, cond, ltb, List, ◌++◌, length, take, drop, Ok, Err, ◌⊎◌, inl, inr, refl, sym, ap, ◌∙◌, append_assoc, arith, length-append, length-take}
use Rattle.std.specs.Int.{Width, w8, w16, w32, byte_len, from_be_bytes}
use Rattle.std.specs.Str.{is_utf8}
use Rattle.std.proofs.lemmas.List.{take_at, drop_at, take-append-drop}
use Rattle.mqtt5_base.specs.declared.error.Error.{Error}
use Rattle.mqtt5_base.specs.declared.error.Error.TheVariants.{MalformedPacket, MalformedRemainingLength, BoundaryCrossed, TopicNotUtf8}
use Rattle.mqtt5_base.specs.VarInt.{VarInt}
use Rattle.mqtt5_base.specs.Lengths.{Length, Overlong, Unfinished, Finished, length_at}
use Rattle.mqtt5_base.specs.Grammar.{Kind, u8, u16, u32, varint, bytes, text, pair, number, content, couple}
use Rattle.mqtt5_base.specs.Fields.{IsNumber, IsContent, IsText, IsKind, Takes}
use Rattle.mqtt5_base.specs.Faults.{NumberFault, VarIntFault, ContentFault, TextFault, KindFault}
use Rattle.mqtt5_base.specs.Reading.{number_at, bytes_at, text_at, by_length, var_int_at, atom_at}
use Rattle.mqtt5_base.specs.Laws.{Reads}
use Rattle.mqtt5_base.proofs.VarIntLemmas.{finished, unfinished, unfinished_of, overlong, overlong_of, var_int_finds}
use Rattle.mqtt5_base.proofs.ReadsLemmas.{reads_ok, reads_err, reads_like, reads_values, reads_then, reads_seen, reads_as, seen, reads_if, reads_enough}

-- so many bytes are taken where there are so many
pub long_enough : (bs : List ℕ) (n : ℕ) → n ≤ length bs → length (take n bs) ≡ n
long_enough bs n le = omega (arith, length-take n bs)

-- a front is taken from before the bytes after it
pub cut_at : (front after : List ℕ) (n : ℕ) → length front ≡ n → (take n (front ++ after) ≡ front) × (drop n (front ++ after) ≡ after)
cut_at front after n e = (take_at front after n e, drop_at front after n e)

-- Numbers of so many bytes are read.
pub number_reads : (w : Width) (bs : List ℕ) → Reads (number_at w bs) (λ x. Takes (λ front. IsNumber w front x.0) bs x.1) (NumberFault w bs)
number_reads w bs = reads_values (reads_enough (length bs) (byte_len w) (from_be_bytes w (take (byte_len w) bs), drop (byte_len w) bs) MalformedPacket) (λ y. (to y, from y))
  where
    to : (y : ℕ × List ℕ) → (byte_len w ≤ length bs) × (y ≡ (from_be_bytes w (take (byte_len w) bs), drop (byte_len w) bs)) → Takes (λ front. IsNumber w front y.0) bs y.1
    to y p = rw p.1 (take (byte_len w) bs, sym (take-append-drop (byte_len w) bs), (long_enough bs (byte_len w) p.0, refl))

    from : (y : ℕ × List ℕ) → Takes (λ front. IsNumber w front y.0) bs y.1 → (byte_len w ≤ length bs) × (y ≡ (from_be_bytes w (take (byte_len w) bs), drop (byte_len w) bs))
    from y q = let c = cut_at q.0 y.1 (byte_len w) q.2.0 in rw q.1 (omega (arith, length-append q.0 y.1, q.2.0), λ i. ((q.2.1 ∙ ap (from_be_bytes w) (sym c.0)) i, sym c.1 i))

-- Binary data is read.
pub content_reads : (bs : List ℕ) → Reads (bytes_at bs) (λ x. Takes (λ front. IsContent front x.0) bs x.1) (ContentFault bs)
unfolding bytes_at
content_reads bs = reads_values (reads_then (λ n. cond (ltb (length n.1) n.0) (Err (BoundaryCrossed n.0)) (Ok (take n.0 n.1, drop n.0 n.1))) (λ n mid. Takes (λ front. IsNumber w16 front n) bs mid)
    (λ n mid y. (n ≤ length mid) × (y ≡ (take n mid, drop n mid))) (λ n mid e. (length mid < n) × (e ≡ BoundaryCrossed n)) (number_reads w16 bs) (λ n mid _. reads_enough (length mid) n (take n mid, drop n mid) (BoundaryCrossed n)))
    (λ y. (to y, from y))
  where
    to : (y : List ℕ × List ℕ) → (n : ℕ) × (mid : List ℕ) × Takes (λ front. IsNumber w16 front n) bs mid × ((n ≤ length mid) × (y ≡ (take n mid, drop n mid))) → Takes (λ front. IsContent front y.0) bs y.1
    to y p =
        let two = p.2.0 in
        let n = p.0 in
        let mid = p.1 in
        rw p.3.1 (two ++ take n mid, p.2.1 ∙ ap (λ r. two ++ r) (sym (take-append-drop n mid)) ∙ sym (append_assoc two (take n mid) (drop n mid)), (two, (p.2.2.0, long_enough mid n p.3.0 ∙ p.2.2.1), refl))

    from : (y : List ℕ × List ℕ) → Takes (λ front. IsContent front y.0) bs y.1 → (n : ℕ) × (mid : List ℕ) × Takes (λ front. IsNumber w16 front n) bs mid × ((n ≤ length mid) × (y ≡ (take n mid, drop n mid)))
    from y q =
        let two = q.2.0 in
        let c = cut_at y.0 y.1 (length y.0) refl in
        (length y.0, y.0 ++ y.1, (two, q.1 ∙ ap (λ r. r ++ y.1) q.2.2 ∙ append_assoc two y.0 y.1, q.2.1), (omega (arith, length-append y.0 y.1), λ i. (sym c.0 i, sym c.1 i)))

-- Strings are read.
pub text_reads : (bs : List ℕ) → Reads (text_at bs) (λ x. Takes (λ front. IsText front x.0) bs x.1) (TextFault bs)
unfolding text_at
text_reads bs = reads_values (reads_then (λ t. cond (is_utf8 t.0) (Ok t) (Err TopicNotUtf8)) (λ c after. Takes (λ front. IsContent front c) bs after) (λ c after y. (is_utf8 c ≡ true) × (y ≡ (c, after))) (λ c after e. (is_utf8 c ≡ false) × (e ≡ TopicNotUtf8))
    (content_reads bs) (λ c after _. reads_if (is_utf8 c) (c, after) TopicNotUtf8))
    (λ y. (λ p. rw p.3.1 (p.2.0, p.2.1, (p.2.2, p.3.0)), λ q. (y.0, y.1, (q.0, q.1, q.2.0), (q.2.1, refl))))

-- Variable byte integers are read.
pub var_int_reads : (bs : List ℕ) → Reads (var_int_at bs) (λ x. Takes (λ front. VarInt front x.0) bs x.1) (VarIntFault bs)
unfolding var_int_at
var_int_reads bs = by_case (length_at 4 bs) refl
  where
    finds : (n : ℕ) (after : List ℕ) → (t : Takes (λ front. VarInt front n) bs after) → length_at 4 bs ≡ Finished (length t.0) n
    finds n after t = rw t.1 (var_int_finds t.0 after n t.2)

    by_fault : (e : Error) → VarIntFault bs e → ((length_at 4 bs ≡ Unfinished) × (e ≡ MalformedPacket)) ⊎ ((length_at 4 bs ≡ Overlong) × (e ≡ MalformedRemainingLength))
    by_fault e (inl f) = inl (unfinished_of 4 bs f.1 f.0, f.2)
    by_fault e (inr f) = inr (rw f.2 (overlong_of 4 f.0 f.1 f.4 f.3), f.5)

    by_case : (l : Length) → length_at 4 bs ≡ l → Reads (by_length l bs) (λ x. Takes (λ front. VarInt front x.0) bs x.1) (VarIntFault bs)
    by_case Overlong e = reads_like (reads_err MalformedRemainingLength) (λ y. (λ f. absurd f, λ t. let h = finds y.0 y.1 t in absurd cc)) (λ d. (to d, λ f. from d (by_fault d f)))
      where
        to : (d : Error) → d ≡ MalformedRemainingLength → VarIntFault bs d
        to d same = let h = overlong 4 bs e in inr (h.0, h.1, h.2, h.3, h.4, same)

        from : (d : Error) → ((length_at 4 bs ≡ Unfinished) × (d ≡ MalformedPacket)) ⊎ ((length_at 4 bs ≡ Overlong) × (d ≡ MalformedRemainingLength)) → d ≡ MalformedRemainingLength
        from d (inl f) = absurd cc
        from d (inr f) = f.1
    by_case Unfinished e = reads_like (reads_err MalformedPacket) (λ y. (λ f. absurd f, λ t. let h = finds y.0 y.1 t in absurd cc)) (λ d. (to d, λ f. from d (by_fault d f)))
      where
        to : (d : Error) → d ≡ MalformedPacket → VarIntFault bs d
        to d same = let h = unfinished 4 bs e in inl (h.0, h.1, same)

        from : (d : Error) → ((length_at 4 bs ≡ Unfinished) × (d ≡ MalformedPacket)) ⊎ ((length_at 4 bs ≡ Overlong) × (d ≡ MalformedRemainingLength)) → d ≡ MalformedPacket
        from d (inl f) = f.1
        from d (inr f) = absurd cc
    by_case (Finished count n) e = reads_like (reads_ok (n, drop count bs)) (λ y. (to y, from y)) (λ d. (λ f. absurd f, λ f. none d (by_fault d f)))
      where
        to : (y : ℕ × List ℕ) → y ≡ (n, drop count bs) → Takes (λ front. VarInt front y.0) bs y.1
        to y same = let h = finished 4 bs count n e in
            let left : drop count bs ≡ h.1 = ap (drop count) h.2 ∙ drop_at h.0 h.1 count h.3 in
            rw (same, left) (h.0, h.2, (omega (arith, h.3, h.4), h.5, h.6))

        from : (y : ℕ × List ℕ) → Takes (λ front. VarInt front y.0) bs y.1 → y ≡ (n, drop count bs)
        from y t =
            let h : Finished count n ≡ Finished (length t.0) y.0 = sym e ∙ finds y.0 y.1 t in
            let same : count ≡ length t.0 = cc in
            let value : n ≡ y.0 = cc in
            let left : drop count bs ≡ y.1 = ap (drop count) t.1 ∙ drop_at t.0 y.1 count (sym same) in
            λ i. (sym value i, sym left i)

        none : (d : Error) → ((length_at 4 bs ≡ Unfinished) × (d ≡ MalformedPacket)) ⊎ ((length_at 4 bs ≡ Overlong) × (d ≡ MalformedRemainingLength)) → ⊥
        none d (inl f) = absurd cc
        none d (inr f) = absurd cc

-- Values of each kind are read.
pub kind_reads : (k : Kind) (bs : List ℕ) → Reads (atom_at k bs) (λ x. Takes (λ front. IsKind k front x.0) bs x.1) (KindFault k bs)
kind_reads u8 bs = reads_as (λ n. number n) (IsNumber w8) bs (number_reads w8 bs)
kind_reads u16 bs = reads_as (λ n. number n) (IsNumber w16) bs (number_reads w16 bs)
kind_reads u32 bs = reads_as (λ n. number n) (IsNumber w32) bs (number_reads w32 bs)
kind_reads varint bs = reads_as (λ n. number n) VarInt bs (var_int_reads bs)
kind_reads bytes bs = reads_as (λ c. content c) IsContent bs (content_reads bs)
kind_reads text bs = reads_as (λ c. content c) IsText bs (text_reads bs)
kind_reads pair bs = reads_values (reads_then (λ key. seen (λ v. couple key.0 v) (text_at key.1)) (λ key mid. Takes (λ front. IsText front key) bs mid) (λ key mid y. (v : List ℕ) × Takes (λ front. IsText front v) mid y.1 × (y.0 ≡ couple key v)) (λ key mid. TextFault mid)
    (text_reads bs) (λ key mid _. reads_seen (λ v. couple key v) (λ v after. Takes (λ front. IsText front v) mid after) (text_reads mid)))
    (λ y. (
      λ p. let first = p.2.0 in let second = p.3.1.0 in (first ++ second, p.2.1 ∙ ap (λ r. first ++ r) p.3.1.1 ∙ sym (append_assoc first second y.1), (first, second, p.0, p.3.0, refl, p.2.2, p.3.1.2, p.3.2)),
      λ q. let k = q.2 in (k.2, k.1 ++ y.1, (k.0, q.1 ∙ ap (λ r. r ++ y.1) k.4 ∙ append_assoc k.0 k.1 y.1, k.5), (k.3, (k.1, refl, k.6), k.7)),
    ))
