-- How many bytes publishes have, and which of a queue are let go.
use Rattle.std.proofs.Common.{◌≡◌, ℕ, zero, suc, ◌+◌, ◌-◌, ◌<◌, ◌≤◌, Bool, ◌&&◌, true, false, cond, List, [], ◌∷◌, length, get_or, drop, slice_index_or, refl, sym, ap, ◌∙◌, arith, inl, inr, add-zero}
use Rattle.std.specs.Prelude.{min}
use Rattle.std.proofs.Math.Nat.{min-eq_left, min-eq_right, min-le_right, le-min}
use Rattle.std.proofs.lemmas.Bool.{cases_lt}
use Rattle.std.proofs.lemmas.List.{drop_more, at_drop_more}
use Rattle.mqtt5_publish.specs.declared.publish.Publish.{Publish}
use Rattle.mqtt5_sessions.specs.Counts.{size_of, sizes_after}
use Rattle.std.proofs.Math.ListN.{set}
use Rattle.mqtt5_router.specs.Kept.{without_first}
use Rattle.mqtt5_sessions.specs.declared.coming.Coming.{Coming}
use Rattle.mqtt5_sessions.specs.Coming.{delivered}
use Rattle.mqtt5_sessions.specs.Sessions.{ClientState, Sessions, new_state, with_client}
use Rattle.mqtt5_sessions.specs.Shedding.{is_over, may_go, surplus, surplus_of, without_firsts, taken_out, sheds}
use Rattle.mqtt5_sessions.proofs.Delivered.{at_new, with_to, with_same, with_twice, changes_none, nothing_of}

-- ---- bytes

-- the most that are told
abbrev greatest : ℕ
greatest = 18446744073709551615

-- all of them
abbrev total : List Publish → ℕ
total [] = 0
total (p ∷ ps) = size_of p + total ps

grows : (n : ℕ) (ps : List Publish) → n ≤ greatest → n ≤ sizes_after n ps
grows n [] le = omega arith
grows n (p ∷ ps) le =
    let up : n ≤ min (n + size_of p) greatest = le-min (omega arith) le in
    let more = grows (min (n + size_of p) greatest) ps (min-le_right (n + size_of p) greatest) in
    omega arith

-- where there aren't more, each is told
sum_whole : (n : ℕ) (ps : List Publish) → n + total ps ≤ greatest → sizes_after n ps ≡ n + total ps
sum_whole n [] le = sym (add-zero n)
sum_whole n (p ∷ ps) le =
    let here : min (n + size_of p) greatest ≡ n + size_of p = min-eq_left (omega arith) in
    let rest = sum_whole (n + size_of p) ps (omega arith) in
    ap (λ m. sizes_after m ps) here ∙ rest ∙ omega arith

sum_part : (n : ℕ) (ps : List Publish) → n ≤ greatest → sizes_after n ps < greatest → sizes_after n ps ≡ n + total ps
sum_part n [] le lt = sym (add-zero n)
sum_part n (p ∷ ps) le lt =
    let up = grows (min (n + size_of p) greatest) ps (min-le_right (n + size_of p) greatest) in
    elim (cases_lt greatest (n + size_of p)) [
      | inl over ↦ let full : min (n + size_of p) greatest ≡ greatest = min-eq_right (omega arith) in absurd (omega arith)
      | inr fits ↦
          let here : min (n + size_of p) greatest ≡ n + size_of p = min-eq_left fits in
          let rest = sum_part (min (n + size_of p) greatest) ps (min-le_right (n + size_of p) greatest) lt in
          omega arith
    ]

-- without the first
first_of_sum : (p : Publish) (ps : List Publish) → sizes_after 0 (p ∷ ps) < greatest → sizes_after 0 (p ∷ ps) ≡ size_of p + sizes_after 0 ps
first_of_sum p ps lt =
    let all = sum_part 0 (p ∷ ps) (omega arith) lt in
    let rest = sum_whole 0 ps (omega arith) in
    omega arith

pub behind_part : (ps : List Publish) (i : ℕ) (p : Publish) → i < length ps → sizes_after 0 (drop i ps) < greatest → sizes_after 0 (drop i ps) ≡ size_of (get_or ps i p) + sizes_after 0 (drop (i + 1) ps)
behind_part ps i p below lt =
    let is = at_drop_more (sizes_after 0) ps i p below in
    is ∙ first_of_sum (get_or ps i p) (drop (i + 1) ps) (omega arith)

-- ---- how many are let go

-- one more
pub surplus_more : (any : Bool) (most bytes : ℕ) (ps : List Publish) (i : ℕ) (p : Publish) → i < length ps
    → (is_over most bytes (drop i ps) && may_go any (get_or ps i p).qos) ≡ true
    → surplus any most bytes (drop i ps) ≡ 1 + surplus any most bytes (drop (i + 1) ps)
surplus_more any most bytes ps i p below h =
    at_drop_more (surplus any most bytes) ps i p below
    ∙ ap (λ b. cond b (1 + surplus any most bytes (drop (i + 1) ps)) 0)
    (ap (λ (qs : List Publish). is_over most bytes qs && may_go any (get_or ps i p).qos) (sym (drop_more ps i p below)) ∙ h)

-- no more
pub surplus_ends : (any : Bool) (most bytes : ℕ) (ps : List Publish) (i : ℕ) (p : Publish) → i < length ps
    → (is_over most bytes (drop i ps) && may_go any (get_or ps i p).qos) ≡ false
    → surplus any most bytes (drop i ps) ≡ 0
surplus_ends any most bytes ps i p below h =
    at_drop_more (surplus any most bytes) ps i p below
    ∙ ap (λ b. cond b (1 + surplus any most bytes (drop (i + 1) ps)) 0)
    (ap (λ (qs : List Publish). is_over most bytes qs && may_go any (get_or ps i p).qos) (sym (drop_more ps i p below)) ∙ h)

-- where no more waits than may, none is
pub none_over : (any : Bool) (most bytes : ℕ) (ps : List Publish) → is_over most bytes ps ≡ false → surplus any most bytes ps ≡ 0
none_over any most bytes [] h = refl
none_over any most bytes (p ∷ ps) h = ap (λ b. cond (b && may_go any p.qos) (1 + surplus any most bytes ps) 0) h

-- ---- they are

-- the first of so many
pub first_taken : (n : ℕ) (c d : ClientState) → 0 < n → d ≡ record c { kept = without_first c.kept } → without_firsts (n - 1) d ≡ without_firsts n c
first_taken zero c d some is = absurd (omega arith)
first_taken (suc n) c d some is =
    let one : suc n - 1 ≡ n = omega arith in
    (λ j. without_firsts (one j) (is j))

-- one by one
taken_all : (n i : ℕ) (cs : List ClientState) (kept : List Publish) → record { clients = with_client i (without_firsts n) cs; retained = kept } ≡ taken_out n i (record { clients = cs; retained = kept })
taken_all zero i cs kept = λ j. record { clients = with_same i (without_firsts zero) cs (λ c. refl) j; retained = kept }
taken_all (suc n) i cs kept =
    (λ j. record { clients = sym (with_twice i (without_firsts n) out cs) j; retained = kept })
    ∙ taken_all n i (with_client i out cs) kept
    ∙ ap (taken_out n i) (changes_none i out (λ c. []) (record { clients = cs; retained = kept }) (nothing_of i cs))
  where
    out : ClientState → ClientState
    out c = record c { kept = without_first c.kept }

queue_past : (i : ℕ) (cs : List ClientState) → length cs ≤ i → (slice_index_or cs i (new_state 0)).kept.queue ≡ []
queue_past i [] past = refl
queue_past zero (c ∷ cs) past = absurd (omega arith)
queue_past (suc i) (c ∷ cs) past = queue_past i cs (omega arith)

module _ (any : Bool) (most bytes i : ℕ) (cs : List ClientState) (kept : List Publish) (s : Sessions) (seen : record { clients = cs; retained = kept } ≡ s) where
  -- of a client that isn't there
  pub none_shed : length cs ≤ i → 0 ≡ surplus_of any most bytes i s
  none_shed past = ap (surplus any most bytes) (sym (queue_past i cs past)) ∙ ap (surplus_of any most bytes i) seen

  pub sheds_past : (es : List Coming) → es ≡ [] → length cs ≤ i → record { clients = delivered es cs; retained = kept } ≡ sheds any most bytes i s
  sheds_past es none past = ap (λ es. record { clients = delivered es cs; retained = kept }) none ∙ seen ∙ ap (λ n. taken_out n i s) (none_shed past)

  -- of one that is
  pub some_shed : (c : ClientState) (n : ℕ) → i < length cs → c ≡ slice_index_or cs i c → n ≡ surplus any most bytes c.kept.queue → n ≡ surplus_of any most bytes i s
  some_shed c n below is count =
      count ∙ ap (λ (x : ClientState). surplus any most bytes x.kept.queue) (at_new i cs c below is) ∙ ap (surplus_of any most bytes i) seen

  pub sheds_of : (c d : ClientState) (n : ℕ) (es : List Coming) → es ≡ [] → i < length cs → c ≡ slice_index_or cs i c → n ≡ surplus any most bytes c.kept.queue → d ≡ without_firsts n c
      → record { clients = delivered es (set cs i d); retained = kept } ≡ sheds any most bytes i s
  sheds_of c d n es none below is count new =
      (λ j. record { clients = delivered (none j) (with_to i (without_firsts n) cs c d below is new j); retained = kept })
      ∙ taken_all n i cs kept
      ∙ (λ j. taken_out (some_shed c n below is count j) i (seen j))
