-- What an ack's row writes.
use Rattle.std.proofs.Common.{◌&&◌, ◌≡◌, ℕ, Bool, true, false, not, cond, eqb, List, [], ◌∷◌, ◌++◌, Option, is_none, ap, ◌∙◌}
use Rattle.std.proofs.lemmas.List.{append-nil}
use Rattle.std.specs.Int.{w16, to_be_bytes}
use Rattle.mqtt5_base.specs.Grammar.{Entry, Found, Test}
use Rattle.mqtt5_base.specs.Layout.{block_bytes, body_bytes}
use Rattle.mqtt5_publish.specs.Rows.{ack_row}
use Rattle.mqtt5_publish.specs.Acks.{ack_packet}
use Rattle.mqtt5_publish.specs.AckBody.{ack_body}

-- the body is the identifier, and where it isn't short the code and the block
pub ack_written : (codes : Test) (table : List Entry) (first id code : ℕ) (p : Option Found) → body_bytes (ack_row codes table) (ack_packet first id code p) ≡ ack_body table id code p
ack_written codes table first id code p = by_test (eqb code 0) (is_none p) (to_be_bytes w16 id) (block_bytes table p)
  where
    by_test : (b c : Bool) (two block : List ℕ) → (two ++ (cond (not (b && (c && true))) (code ∷ []) [] ++ (cond (not (b && (c && true))) block [] ++ []))) ++ [] ≡ two ++ cond (b && c) [] (code ∷ block)
    by_test true true two block = append-nil (two ++ [])
    by_test true false two block = append-nil (two ++ (code ∷ (block ++ []))) ∙ ap (λ (b : List ℕ). two ++ (code ∷ b)) (append-nil block)
    by_test false c two block = append-nil (two ++ (code ∷ (block ++ []))) ∙ ap (λ (b : List ℕ). two ++ (code ∷ b)) (append-nil block)
