-- The head that is written is read again.
use Rattle.std.proofs.Common.{◌≡◌, ℕ, ◌<◌, ◌^◌, Bool, true, false, List, ◌++◌, length, Ok, Err, ◌-◌, le-ltb, refl, ap, ◌∙◌, arith, take, drop, cond}
use Rattle.std.proofs.lemmas.Nat.{from_be_bytes-to_be_bytes_2, from_be_bytes-to_be_bytes_4, from_be_bytes-to_be_bytes_8}
use Rattle.mqtt5_session.specs.declared.parts.Numbers.{Numbers}
use Rattle.mqtt5_store.specs.declared.error.StoreError.TheVariants as store
use Rattle.mqtt5_store.specs.Format.{flag, is_set, head_bytes, head_for, head_of, head_at, head_before, numbers_in}

flag_small : (b : Bool) → flag b < 2 ^ 16
flag_small true = omega arith
flag_small false = omega arith

pub flag_again : (b : Bool) → is_set (flag b) ≡ b
flag_again true = refl
flag_again false = refl

pub numbers_again : (n : Numbers) (waits : Bool) (count : ℕ) → numbers_in (head_for n waits count) ≡ n
numbers_again n waits count i = record { limit = n.limit; current = n.current; last = n.last; alias_max = n.alias_max; manual_acks = flag_again n.manual_acks i }

words_again : (n : Numbers) (waits : Bool) (count : ℕ) → n.limit < 2 ^ 16 → n.current < 2 ^ 16 → n.last < 2 ^ 16 → n.alias_max < 2 ^ 16 → count < 2 ^ 64 → head_of (head_bytes n waits count) ≡ head_for n waits count
words_again n waits count a b c d e i = record {
  magic = from_be_bytes-to_be_bytes_4 1297167699 (omega arith) i;
  version = from_be_bytes-to_be_bytes_2 1 (omega arith) i;
  limit = from_be_bytes-to_be_bytes_2 n.limit a i;
  current = from_be_bytes-to_be_bytes_2 n.current b i;
  last = from_be_bytes-to_be_bytes_2 n.last c i;
  alias_max = from_be_bytes-to_be_bytes_2 n.alias_max d i;
  manual_acks = from_be_bytes-to_be_bytes_2 (flag n.manual_acks) (flag_small n.manual_acks) i;
  waits = from_be_bytes-to_be_bytes_2 (flag waits) (flag_small waits) i;
  count = from_be_bytes-to_be_bytes_8 count e i;
}

pub head_again : (n : Numbers) (waits : Bool) (count : ℕ) → n.limit < 2 ^ 16 → n.current < 2 ^ 16 → n.last < 2 ^ 16 → n.alias_max < 2 ^ 16 → count < 2 ^ 64 → (rest : List ℕ) → head_at (head_bytes n waits count ++ rest) ≡ Ok (head_for n waits count, rest)
unfolding head_at
head_again n waits count a b c d e rest =
    let bs = head_bytes n waits count ++ rest in
    ap (λ t. cond t (Err (store.Cut (26 - length bs))) (head_before (head_of (take 26 bs)) (drop 26 bs))) (le-ltb (length bs) 26 (omega arith))
    ∙ ap (λ h. head_before h rest) (words_again n waits count a b c d e)
