-- A frame is read exactly where its type's row stands, and a fault where that is the first.
use Rattle.std.proofs.Common.{◌≡◌, ℕ, ◌/◌, true, false, List, [], length, Option, Some, None, ◌⊎◌, inl, inr, refl}
use Rattle.mqtt5_base.specs.declared.error.Error.{Error}
use Rattle.mqtt5_base.specs.declared.error.Error.TheVariants.{InvalidPacketType, PayloadRequired}
use Rattle.mqtt5_base.specs.Grammar.{Row, Content, entry_of}
use Rattle.mqtt5_base.specs.Fields.{IsRow}
use Rattle.mqtt5_base.specs.Faults.{RowFault}
use Rattle.mqtt5_base.specs.Frames.{Rows, lacks_body, IsFrame, FrameFault}
use Rattle.mqtt5_base.specs.Reading.{values_in, row_values, frame_values}
use Rattle.mqtt5_base.specs.Laws.{Reads, IsGrammar}
use Rattle.mqtt5_base.proofs.ReadsLemmas.{reads_err, reads_like, reads_values, reads_map, reads_unless, reads_one}
use Rattle.mqtt5_base.proofs.KindLaws.{number_reads, content_reads, text_reads, var_int_reads, kind_reads}
use Rattle.mqtt5_base.proofs.SetLemmas.{adds_props, props_more}
use Rattle.mqtt5_base.proofs.BlockLaws.{block_reads}
use Rattle.mqtt5_base.proofs.StepLaws.{judged_reads}
use Rattle.mqtt5_base.proofs.PartLaws.{part_reads, row_reads}

-- no row
abbrev no_row : Option Row
no_row = None

-- a row
abbrev a_row : Row → Option Row
a_row r = Some r

-- the values of a row that may be missing
abbrev IsOf : Option Row → ℕ → List ℕ → Content → Type 0
IsOf o first body p = (row : Row) × (o ≡ Some row) × (lacks_body row body ≡ false) × (rest : List ℕ) × IsRow row first (length body) body p rest

-- the first fault under a row that may be missing
abbrev NotOf : Option Row → ℕ → List ℕ → Error → Type 0
NotOf o first body e =
    ((o ≡ None) × (e ≡ InvalidPacketType (first / 16)))
    ⊎ ((row : Row) × (o ≡ Some row) × (((lacks_body row body ≡ true) × (e ≡ PayloadRequired)) ⊎ ((lacks_body row body ≡ false) × RowFault row first (length body) body e)))

-- The row is read, where there is one.
row_of_reads : (o : Option Row) (first : ℕ) (body : List ℕ) → Reads (row_values o first body) (IsOf o first body) (NotOf o first body)
row_of_reads None first body = reads_like (reads_err (InvalidPacketType (first / 16))) (λ y. (λ f. absurd f, λ q. absurd (none q.0 q.1))) (λ e. ((λ f. inl (refl, f)), from e))
  where
    none : (r : Row) → no_row ≡ a_row r → ⊥
    none r e = absurd cc

    from : (e : Error) → NotOf None first body e → e ≡ InvalidPacketType (first / 16)
    from e (inl f) = f.1
    from e (inr f) = absurd (none f.0 f.1)
row_of_reads (Some row) first body = reads_like (reads_unless (lacks_body row body) PayloadRequired (reads_map (λ r. r.0) (row_reads row first (length body) body)))
    (λ y. (λ p. (row, refl, p.0, p.1.0.1, rw p.1.2 p.1.1), λ q. let s = same row q.0 q.1 in rw s (q.2, ((y, q.3), q.4, refl)))) (λ e. ((λ f. inr (row, refl, f)), from e))
  where
    none : a_row row ≡ no_row → ⊥
    none e = absurd cc

    same : (r s : Row) → a_row r ≡ a_row s → r ≡ s
    same r s e = cc

    from : (e : Error) → NotOf (Some row) first body e → ((lacks_body row body ≡ true) × (e ≡ PayloadRequired)) ⊎ ((lacks_body row body ≡ false) × RowFault row first (length body) body e)
    from e (inl f) = absurd (none f.0)
    from e (inr f) = rw (same row f.0 f.1) f.2

-- The values of a row are read.
pub values_read : (row : Row) (first len : ℕ) (body : List ℕ) → Reads (values_in row first len body) (λ p. (rest : List ℕ) × IsRow row first len body p rest) (RowFault row first len body)
values_read row first len body = reads_values (reads_map (λ r. r.0) (row_reads row first len body)) (λ p. (λ h. (h.0.1, rw h.2 h.1), λ h. ((p, h.0), h.1, refl)))

-- Frames are read.
pub frame_reads : (rows : Rows) (first : ℕ) (body : List ℕ) → Reads (frame_values rows first body) (IsFrame rows first body) (FrameFault rows first body)
unfolding frame_values
frame_reads rows first body = row_of_reads (entry_of rows (first / 16)) first body

-- All that the grammar promises.
pub grammar : IsGrammar
grammar = record {
  numbers = number_reads;
  binary = content_reads;
  texts = text_reads;
  lengths = var_int_reads;
  kinds = kind_reads;
  blocks = block_reads;
  no_items = λ table. adds_props table [];
  one_more = props_more;
  judgements = judged_reads;
  parts = part_reads;
  rows = row_reads;
  values = values_read;
  frames = frame_reads;
  one = λ rows first body. reads_one (frame_values rows first body) (frame_reads rows first body);
}
