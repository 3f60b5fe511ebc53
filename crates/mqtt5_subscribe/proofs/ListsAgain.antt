-- A packet with a list that is written is read again.
use Rattle.std.proofs.Common.{◌≡◌, ℕ, ◌/◌, ◌<◌, true, false, List, [], ◌∷◌, ◌++◌, length, map, Option, Some, None, option_map, Ok, refl, sym, ap, ◌∙◌, arith, length-append}
use Rattle.mqtt5_base.specs.declared.error.Error.{Error}
use Rattle.mqtt5_base.specs.Grammar.{number, Entry, Found, Value, plain, properties, Field, Step, more, several, Known, Content, entry_of}
use Rattle.mqtt5_base.specs.Fields.{repeated}
use Rattle.mqtt5_base.specs.Frames.{Rows}
use Rattle.mqtt5_base.specs.Reading.{frame_at}
use Rattle.mqtt5_base.specs.Layout.{Written, listed, written_bytes, listed_bytes, all_kept, writing}
use Rattle.mqtt5_base.specs.Sets.{IsBlockOf, apart}
use Rattle.mqtt5_base.specs.Tidy.{tidy}
use Rattle.mqtt5_base.proofs.BlocksAgain.{tidy_found, tidy_values}
use Rattle.mqtt5_base.proofs.StepsAgain.{Suits, known_again}
use Rattle.mqtt5_base.proofs.PartsAgain.{IsOwn, AreOwn, kept_again, all_again}
use Rattle.mqtt5_base.proofs.FramesAgain.{has_body, body_of, IsReadable, content_read, written_again}
use Rattle.mqtt5_subscribe.specs.Rows.{listed_row}
use Rattle.mqtt5_subscribe.specs.Lists.{listed_packet}

-- ---- items

-- an item has a byte, and is read again as its values, whatever follows
pub record IsItem (steps : List Step) (w : Written) : Type 0 where
  pub some : 0 < length (written_bytes steps 0 w)
  pub own : (rest : List ℕ) → IsOwn steps 0 w rest
  pub kept : kept_again steps 0 w ≡ w.kept

-- items are read again, where each is
are_own : {A : Type 0} (steps : List Step) (written : A → Written) → ((x : A) → IsItem steps (written x)) → (xs : List A) → AreOwn steps (map written xs)
are_own steps written is [] = tt
are_own steps written is (x ∷ xs) = ((is x).some, (is x).own (listed_bytes steps (map written xs)), are_own steps written is xs)

-- they are read as their values
are_kept : {A : Type 0} (steps : List Step) (written : A → Written) → ((x : A) → IsItem steps (written x)) → (xs : List A) → all_again steps (map written xs) ≡ all_kept (map written xs)
are_kept steps written is [] = refl
are_kept steps written is (x ∷ xs) = λ i. (is x).kept i ∷ are_kept steps written is xs i

-- ---- the row

-- an item at least, where a list without items is wrong
abbrev pub wanted : Option Error → List Step
wanted None = []
wanted (Some w) = more w ∷ []

-- whether a list may have no items changes nothing of what is known
known_ended : (lack : Option Error) (w r : Known) → known_again false (wanted lack) w r [] [] ≡ r
known_ended None w r = refl
known_ended (Some e) w r = refl

-- where an item is wanted, a list with one has a byte
wanted_suits : (lack : Option Error) (steps : List Step) (ws : List Written) (w r : Known) → AreOwn steps ws → Suits false (listed ws ∷ []) (wanted lack) w r [] [] (listed_bytes steps ws ++ [])
wanted_suits None steps ws w r own = tt
wanted_suits (Some e) steps [] w r own = (λ h. absurd cc, tt)
wanted_suits (Some e) steps (x ∷ ws) w r own =
    let item = written_bytes steps 0 x in
    let others = listed_bytes steps ws in
    (λ _. omega (arith, own.0, length-append item others, length-append (item ++ others) []), tt)

-- the values of a packet as they are read again
abbrev pub listed_content : ℕ → Option Found → List (List Value) → Content
listed_content id p items = (plain (number id) ∷ properties p ∷ [], several items ∷ [])

-- the row of a packet with a list reads it
listed_readable : (rows : Rows) (table : List Entry) (lack : Option Error) (first : Field) (others : List Step) (byte id : ℕ) (p : Option Found) (ws : List Written) → entry_of rows (byte / 16) ≡ Some (listed_row table (wanted lack) first others)
    → apart [] table ≡ true → id < 65536 → IsBlockOf table p → AreOwn (repeated first others) ws → all_again (repeated first others) ws ≡ all_kept ws
    → IsReadable rows (listed_row table (wanted lack) first others) (listed_packet byte id p ws) false (listed_content id (tidy_found p) (all_kept ws))
listed_readable rows table lack first others byte id p ws among once small set own kept = record {
  brief = refl;
  among = among;
  whole = has_body (listed_row table (wanted lack) first others) (body_of false (listed_row table (wanted lack) first others) (listed_packet byte id p ws)) (omega arith);
  suits = (refl, λ _. small, (refl, λ _. (once, set), wanted_suits lack (repeated first others) ws _ _ own));
  parts = ((refl, own, ap (λ items. several items) (sym kept)), tt);
  kept = ap (λ k. k.kept) (known_ended lack _ _);
}

-- A packet with a list that was written is read again as its values, of a tidy set.
pub listed_again : {P A : Type 0} (found : P → Found) (written : A → Written) (rows : Rows) (table : List Entry) (lack : Option Error) (first : Field) (others : List Step) (byte id : ℕ) (p : Option P) (xs : List A) (bs : List ℕ)
    → entry_of rows (byte / 16) ≡ Some (listed_row table (wanted lack) first others) → apart [] table ≡ true → id < 65536 → IsBlockOf table (option_map found p) → ((x : A) → IsItem (repeated first others) (written x))
    → writing (listed_row table (wanted lack) first others) (listed_packet byte id (option_map found p) (map written xs)) ≡ Ok bs → frame_at rows bs ≡ content_read (listed_content id (option_map found (tidy found p)) (all_kept (map written xs)))
listed_again found written rows table lack first others byte id p xs bs among once small set is h =
    let steps = repeated first others in
    let ws = map written xs in
    written_again rows (listed_row table (wanted lack) first others) (listed_packet byte id (option_map found p) ws) false (listed_content id (tidy_found (option_map found p)) (all_kept ws)) bs h
    (listed_readable rows table lack first others byte id (option_map found p) ws among once small set (are_own steps written is xs) (are_kept steps written is xs))
    ∙ ap (λ (s : Option Found). content_read (listed_content id s (all_kept ws))) (tidy_values found p)
