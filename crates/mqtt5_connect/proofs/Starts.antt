-- A Connect up to its flags, and the rest of its row.
use Rattle.std.proofs.Common.{◌≡◌, ◌≤◌, eqb, ℕ, true, Bool, List, [], ◌∷◌, length, get_or, drop, Result, Ok, Err, refl, ap, ◌∙◌, arith}
use Rattle.std.specs.Int.{w8}
use Rattle.std.specs.Str.{bytes_eq}
use Rattle.mqtt5_base.specs.declared.error.Error.{Error}
use Rattle.mqtt5_base.specs.Grammar.{u16, text, number, content, Value, plain, one, block, Step, there, Group, Content, Known, with_value, cut_in, read, bit_of}
use Rattle.mqtt5_base.specs.Reading.{◌>>=◌, number_at, text_at, field_at, read_steps, parts_at, values_in}
use Rattle.mqtt5_base.proofs.KindsAgain.{text_again}
use Rattle.mqtt5_connect.specs.Rows.{protocol, connect_table, connect_fields, connect_parts, connect_row}
use Rattle.mqtt5_connect.specs.Reading.{known_flags, groups_at, after_flags, name_at}
use Rattle.mqtt5_connect.proofs.PacketsAgain.{protocol_is}

-- what a row keeps and its groups, and the bytes after them
abbrev with_rest : List Value → List Group → List ℕ → Result (Content × List ℕ) Error
with_rest kept gs bs = Ok ((kept, gs), bs)

-- the end of a row, as it is read after its steps
abbrev as_row : Result (Known × List ℕ) Error → Result Content Error
as_row r = (r >>= λ k. parts_at connect_parts k.0.values k.1 >>= λ g. with_rest k.0.kept g.0 g.1) >>= λ c. Ok c.0

-- what a row keeps, and the bytes after it
abbrev kept_alone : Known → List ℕ → Result (List Value × List ℕ) Error
kept_alone k bs = Ok (k.kept, bs)

-- what a row keeps, and its groups
abbrev content_of : List Value → List Group → Result Content Error
content_of kept gs = Ok (kept, gs)

-- the same from the values of the fields alone, under the flags
abbrev as_halves : ℕ → Result (Known × List ℕ) Error → Result Content Error
as_halves flags r = (r >>= λ k. kept_alone k.0 k.1) >>= λ v. groups_at flags v.1 >>= λ g. content_of v.0 g.0

-- what is known before the fields
abbrev known_before : ℕ → ℕ → List ℕ → ℕ → ℕ → Known
known_before first len name level flags = record { first = first; length = len; values = plain (content name) ∷ plain (number level) ∷ plain (number flags) ∷ []; kept = [] }

-- the same, and clean start
abbrev with_clean : Known → Known
with_clean k = with_value k (plain (cut_in k (bit_of (read 2) 2)))

-- a field that was read or not, and the steps after it
abbrev then_steps : List Step → Known → Result (Value × List ℕ) Error → Result (Known × List ℕ) Error
then_steps steps k x = x >>= λ v. read_steps steps (with_value k v.0) v.1

-- values with the groups that were read
with_groups : (kept : List Value) (y : Result (List Group × List ℕ) Error) → ((y >>= λ g. with_rest kept g.0 g.1) >>= λ c. Ok c.0) ≡ (y >>= λ g. content_of kept g.0)
with_groups kept (Ok g) = refl
with_groups kept (Err e) = refl

-- the rest of the row uses the flags alone
rest_again : (first len : ℕ) (name : List ℕ) (level flags : ℕ) (bs : List ℕ) → as_row (read_steps connect_fields (known_before first len name level flags) bs) ≡ after_flags flags bs
rest_again first len name level flags bs = from_keep_alive (field_at (one u16) bs)
  where
    from_id : (v w : Value) (x : Result (Value × List ℕ) Error)
        → as_row (then_steps [] (with_value (with_value (with_clean (known_before first len name level flags)) v) w) x) ≡ as_halves flags (then_steps [] (with_value (with_value (with_clean (known_flags flags)) v) w) x)
    from_id v w (Ok u) = with_groups (plain (cut_in (known_flags flags) (bit_of (read 2) 2)) ∷ v ∷ w ∷ u.0 ∷ []) (groups_at flags u.1)
    from_id v w (Err e) = refl

    from_block : (v : Value) (x : Result (Value × List ℕ) Error)
        → as_row (then_steps (there (one text) ∷ []) (with_value (with_clean (known_before first len name level flags)) v) x) ≡ as_halves flags (then_steps (there (one text) ∷ []) (with_value (with_clean (known_flags flags)) v) x)
    from_block v (Ok w) = from_id v w.0 (field_at (one text) w.1)
    from_block v (Err e) = refl

    from_keep_alive : (x : Result (Value × List ℕ) Error)
        → as_row (then_steps (there (block connect_table) ∷ there (one text) ∷ []) (with_clean (known_before first len name level flags)) x) ≡ as_halves flags (then_steps (there (block connect_table) ∷ there (one text) ∷ []) (with_clean (known_flags flags)) x)
    from_keep_alive (Ok v) = from_block v.0 (field_at (block connect_table) v.1)
    from_keep_alive (Err e) = refl

-- Behind a name, a level and flags that are read and judged, the rest of the row is read.
pub connect_rest : (first len : ℕ) (bs name b1 : List ℕ) (level : ℕ) (b2 : List ℕ) (flags : ℕ) (b3 : List ℕ) → text_at bs ≡ Ok (name, b1) → number_at w8 b1 ≡ Ok (level, b2) → bytes_eq name protocol ≡ true → eqb level 5 ≡ true → number_at w8 b2 ≡ Ok (flags, b3)
    → values_in connect_row first len bs ≡ after_flags flags b3
connect_rest first len bs name b1 level b2 flags b3 h1 h2 h3 h4 h5 = rw (h1, h2, h3, h4, h5) (rest_again first len name level flags b3)

-- what is told of a name
abbrev told : Bool → List ℕ → Result (Bool × List ℕ) Error
told named bs = Ok (named, bs)

-- the same, where the name was only told
pub connect_named : (first len : ℕ) (bs b1 : List ℕ) (level : ℕ) (b2 : List ℕ) (flags : ℕ) (b3 : List ℕ) → name_at bs ≡ Ok (true, b1) → number_at w8 b1 ≡ Ok (level, b2) → eqb level 5 ≡ true → number_at w8 b2 ≡ Ok (flags, b3)
    → values_in connect_row first len bs ≡ after_flags flags b3
connect_named first len bs b1 level b2 flags b3 named h2 h4 h5 = by_text (text_at bs) refl named
  where
    by_text : (r : Result (List ℕ × List ℕ) Error) → text_at bs ≡ r → (r >>= λ t. told (bytes_eq t.0 protocol) t.1) ≡ Ok (true, b1) → values_in connect_row first len bs ≡ after_flags flags b3
    by_text (Err e) is h = absurd cc
    by_text (Ok t) is h =
        let both : (bytes_eq t.0 protocol, t.1) ≡ (true, b1) = cc in
        let spelled : bytes_eq t.0 protocol ≡ true = ap (λ (p : Bool × List ℕ). p.0) both in
        let behind : t.1 ≡ b1 = ap (λ (p : Bool × List ℕ). p.1) both in
        connect_rest first len bs t.0 b1 level b2 flags b3 (is ∙ ap (λ b. Ok (t.0, b)) behind) h2 spelled h4 h5

-- the name at the front
pub name_there : (bs : List ℕ) → 6 ≤ length bs → get_or bs 0 0 ≡ 0 → get_or bs 1 0 ≡ 4 → get_or bs 2 0 ≡ 77 → get_or bs 3 0 ≡ 81 → get_or bs 4 0 ≡ 84 → get_or bs 5 0 ≡ 84
    → name_at bs ≡ Ok (true, drop 6 bs)
name_there (a ∷ b ∷ c ∷ d ∷ e ∷ f ∷ bs) some h0 h1 h2 h3 h4 h5 =
    let here : text_at (0 ∷ 4 ∷ 77 ∷ 81 ∷ 84 ∷ 84 ∷ bs) ≡ Ok (protocol, bs) = text_again protocol bs (omega arith) protocol_is in
    rw (h0, h1, h2, h3, h4, h5, here) refl
name_there (a ∷ b ∷ c ∷ d ∷ e ∷ []) some h0 h1 h2 h3 h4 h5 = absurd (omega arith)
name_there (a ∷ b ∷ c ∷ d ∷ []) some h0 h1 h2 h3 h4 h5 = absurd (omega arith)
name_there (a ∷ b ∷ c ∷ []) some h0 h1 h2 h3 h4 h5 = absurd (omega arith)
name_there (a ∷ b ∷ []) some h0 h1 h2 h3 h4 h5 = absurd (omega arith)
name_there (a ∷ []) some h0 h1 h2 h3 h4 h5 = absurd (omega arith)
name_there [] some h0 h1 h2 h3 h4 h5 = absurd (omega arith)
