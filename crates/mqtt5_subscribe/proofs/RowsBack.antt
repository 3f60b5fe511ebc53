-- What the rows of Subscribe, SubAck, Unsubscribe and UnsubAck give comes back from the packets that are made of it.
use Rattle.std.proofs.Common.{◌≡◌, ℕ, ◌/◌, ◌%◌, Bool, true, false, cond, eqb, List, [], ◌∷◌, map, Option, Some, None, option_map, refl, sym, ap, ◌∙◌}
use Rattle.mqtt5_base.specs.declared.error.Error.{Error}
use Rattle.mqtt5_base.specs.declared.error.Error.TheVariants.{EmptySubscription, InvalidSubscribeReasonCode, MalformedPacket}
use Rattle.mqtt5_base.specs.Grammar.{u8, u16, text, Atom, number, number_of, Entry, Found, Test, passes, is_among, Value, plain, properties, Field, one, checked, Step, several, Known, Content, number_in}
use Rattle.mqtt5_base.specs.Fields.{props, Fields, Kept, Repeats, repeated, IsRow}
use Rattle.mqtt5_base.specs.FromValues.{found_in}
use Rattle.mqtt5_base.specs.Layout.{Written, content_of_packet, all_kept}
use Rattle.mqtt5_base.proofs.SetShapes.{ComeBack, numbers_again, pairs_again, set_again}
use Rattle.mqtt5_base.proofs.FieldShapes.{one_back, checked_back, properties_back, among_each, qos_again}
use Rattle.mqtt5_base.specs.AckSets.{ack_table}
use Rattle.mqtt5_base.specs.AckSets.{ack_found}
use Rattle.mqtt5_base.specs.FromValues.{ack_set}
use Rattle.mqtt5_base.proofs.Bits.{bit_of_mod}
use Rattle.mqtt5_base.proofs.AckSets.{ack_set_again}
use Rattle.mqtt5_subscribe.proofs.ListsAgain.{wanted}
use Rattle.mqtt5_subscribe.specs.declared.suback.SubscribeReasonCode.{SubscribeReasonCode}
use Rattle.mqtt5_subscribe.specs.Rows.{listed_row, option_steps, subscribe_table, subscribe_row, suback_codes, suback_row, unsubscribe_table, unsubscribe_row, unsuback_codes, unsuback_row}
use Rattle.mqtt5_subscribe.specs.FromValues.{items_in, rule_of, filter_of, subscribe_set, subscribe_of, suback_reason, suback_reason_in, suback_of, path_of, unsubscribe_set, unsubscribe_of, unsuback_reason, unsuback_reason_in, unsuback_of}
use Rattle.mqtt5_subscribe.specs.Subscribes.{rule_number, filter_written, subscribe_found, subscribe_packet}
use Rattle.mqtt5_subscribe.specs.SubAcks.{suback_code, suback_item, suback_packet, suback_settled}
use Rattle.mqtt5_subscribe.specs.Unsubscribes.{path_written, unsubscribe_found, unsubscribe_packet}
use Rattle.mqtt5_subscribe.specs.UnsubAcks.{unsuback_code, unsuback_item, unsuback_packet}

-- ---- packets with a list

-- whether a list may have no items changes nothing of what is known
ended : (lack : Option Error) (known : Known) (body : List ℕ) (out : Known) (rest : List ℕ) → Fields (wanted lack) known body out rest → out ≡ known
ended None known body out rest h = h.0
ended (Some w) known body out rest h = h.1.0

-- the values of an item that was read come back
abbrev pub Again : {A : Type 0} → Field → List Step → (A → Written) → (List Value → A) → Type 0
Again first others written made = (bs after : List ℕ) (vs : List Value) → Kept (repeated first others) 0 bs vs after → (written (made vs)).kept ≡ vs

-- the items that were read come back
items_again : {A : Type 0} (first : Field) (others : List Step) (written : A → Written) (made : List Value → A) → Again first others written made
    → (body : List ℕ) (all : List (List Value)) → Repeats (repeated first others) body all → all_kept (map written (map made all)) ≡ all
items_again first others written made again body [] h = refl
items_again first others written made again body (vs ∷ all) h = λ i. again body h.0 vs h.2 i ∷ items_again first others written made again h.0 all h.3 i

-- the values of a packet
abbrev packet_content : Atom → Option Found → List (List Value) → Content
packet_content id p all = (plain id ∷ properties p ∷ [], several all ∷ [])

-- What the row of such a packet gives comes back, where properties and items do.
listed_comes_back : {P A : Type 0} (table : List Entry) (lack : Option Error) (first : Field) (others : List Step) (found : P → Found) (set : Found → P) (written : A → Written) (made : List Value → A)
    → ((items : List (ℕ × Atom)) → ComeBack items → found (set (props table items)) ≡ props table items) → Again first others written made
    → (byte len : ℕ) (body : List ℕ) (c : Content) (rest : List ℕ) → IsRow (listed_row table (wanted lack) first others) byte len body c rest
    → packet_content (number (number_in c.0 0)) (option_map found (option_map set (found_in c.0 1))) (all_kept (map written (map made (items_in c.1)))) ≡ c
listed_comes_back table lack first others found set written made set_back again byte len body c rest h =
    let f = h.2 in
    let id = one_back u16 body f.0 f.1 f.2 in
    let b = f.3 in
    let p = properties_back table f.1 b.0 b.1 b.2 in
    let end = ended lack _ _ _ _ b.3 in
    let q = h.4 in
    let all = q.2.0 in
    let content : Content = packet_content id.0 p.0 all in
    let kept : h.0.kept ≡ content.0 = ap (λ k. k.kept) end ∙ (λ i. id.1 i ∷ p.1 i ∷ []) in
    let groups : h.3 ≡ content.1 = q.5 ∙ (λ i. q.2.2 i ∷ q.4.0 i) in
    let is : c ≡ content = h.5 ∙ (λ i. (kept i, groups i)) in
    let items = items_again first others written made again h.1 all q.2.1 in
    let sets = set_again table found set set_back p.0 p.2 in
    ap (λ (z : Content). packet_content (number (number_in z.0 0)) (option_map found (option_map set (found_in z.0 1))) (all_kept (map written (map made (items_in z.1))))) is
    ∙ (λ i. packet_content (id.2 i) (sets i) (items i))
    ∙ sym is

-- ---- Subscribe

-- the properties of a Subscribe
subscribe_set_again : (items : List (ℕ × Atom)) → ComeBack items → subscribe_found (subscribe_set (props subscribe_table items)) ≡ props subscribe_table items
subscribe_set_again items l = λ i. numbers_again _ (l 11) i ∷ pairs_again _ (l 38) i ∷ []

-- a retain handling option
rule_again : (n : ℕ) → is_among (0 ∷ 1 ∷ 2 ∷ []) n ≡ true → rule_number (rule_of n) ≡ n
rule_again n h = among_each (λ m. rule_number (rule_of m) ≡ m) (0 ∷ 1 ∷ 2 ∷ []) (refl, (refl, (refl, tt))) n h

-- the values of a filter
abbrev filter_kept : Atom → ℕ → ℕ → ℕ → ℕ → List Value
filter_kept path qos nolocal preserve rule = plain path ∷ plain (number qos) ∷ plain (number nolocal) ∷ plain (number preserve) ∷ plain (number rule) ∷ []

-- a filter comes back
filter_again : Again (one text) option_steps filter_written filter_of
filter_again bs after vs h =
    let s = h.1 in
    let path = one_back text bs s.0 s.1 s.2 in
    let r = s.3 in
    let n = number_of r.0 in
    let rule = rule_again (n / 16 % 4) (r.3.0 refl) in
    let qos = qos_again (n / 1 % 4) (r.3.1.0 refl) in
    let found : List Value = filter_kept path.0 (n / 1 % 4) (n / 4 % 2) (n / 8 % 2) (n / 16 % 4) in
    let is : vs ≡ found = h.2 ∙ ap (λ k. k.kept) r.3.1.1.0 ∙ (λ i. path.1 i ∷ plain (number (n / 1 % 4)) ∷ plain (number (n / 4 % 2)) ∷ plain (number (n / 8 % 2)) ∷ plain (number (n / 16 % 4)) ∷ []) in
    let nolocal = bit_of_mod (n / 4) in
    let preserve = bit_of_mod (n / 8) in
    ap (λ z. (filter_written (filter_of z)).kept) is ∙ (λ i. filter_kept (path.2 i) (qos i) (sym nolocal i) (sym preserve i) (rule i)) ∙ sym is

-- What the row of a Subscribe gives comes back.
pub subscribe_row_again : (first len : ℕ) (body : List ℕ) (c : Content) (rest : List ℕ) → IsRow subscribe_row first len body c rest → content_of_packet (subscribe_packet (subscribe_of c)) ≡ c
subscribe_row_again first len body c rest h = listed_comes_back subscribe_table (Some EmptySubscription) (one text) option_steps subscribe_found subscribe_set filter_written filter_of subscribe_set_again filter_again first len body c rest h

-- ---- SubAck and UnsubAck

-- a reason code comes back, where each does
code_again : (codes : Test) (back : ℕ → ℕ) → ((n : ℕ) → passes codes (number n) ≡ true → back n ≡ n)
    → (bs after : List ℕ) (vs : List Value) → Kept (repeated (checked u8 codes InvalidSubscribeReasonCode) []) 0 bs vs after → (plain (number (back (number_in vs 0))) ∷ []) ≡ vs
code_again codes back each bs after vs h =
    let s = h.1 in
    let code = checked_back u8 codes InvalidSubscribeReasonCode bs s.0 s.1 s.2 in
    let is : vs ≡ plain code.0 ∷ [] = h.2 ∙ ap (λ k. k.kept) s.3.0 ∙ (λ i. code.1 i ∷ []) in
    let same = ap number (each (number_of code.0) (ap (passes codes) code.2 ∙ code.3)) ∙ code.2 in
    ap (λ z. plain (number (back (number_in z 0))) ∷ []) is ∙ (λ i. plain (same i) ∷ []) ∙ sym is

-- the reason of a SubAck
suback_code_again : (n : ℕ) → passes suback_codes (number n) ≡ true → suback_code (suback_reason n) ≡ n
suback_code_again n h =
    among_each (λ m. suback_code (suback_reason m) ≡ m) (0 ∷ 1 ∷ 2 ∷ 128 ∷ 131 ∷ 135 ∷ 143 ∷ 145 ∷ 151 ∷ 158 ∷ 161 ∷ 162 ∷ []) (refl, (refl, (refl, (refl, (refl, (refl, (refl, (refl, (refl, (refl, (refl, (refl, tt)))))))))))) n h

-- the reason of an UnsubAck
unsuback_code_again : (n : ℕ) → passes unsuback_codes (number n) ≡ true → unsuback_code (unsuback_reason n) ≡ n
unsuback_code_again n h = among_each (λ m. unsuback_code (unsuback_reason m) ≡ m) (0 ∷ 17 ∷ 128 ∷ 131 ∷ 135 ∷ 143 ∷ 145 ∷ []) (refl, (refl, (refl, (refl, (refl, (refl, (refl, tt))))))) n h

-- What the row of a SubAck gives comes back.
pub suback_row_again : (first len : ℕ) (body : List ℕ) (c : Content) (rest : List ℕ) → IsRow suback_row first len body c rest → content_of_packet (suback_packet (suback_of c)) ≡ c
suback_row_again first len body c rest h =
    listed_comes_back ack_table (Some MalformedPacket) (checked u8 suback_codes InvalidSubscribeReasonCode) [] ack_found ack_set suback_item suback_reason_in ack_set_again (code_again suback_codes (λ n. suback_code (suback_reason n)) suback_code_again) first len body c rest h

-- What the row of an UnsubAck gives comes back.
pub unsuback_row_again : (first len : ℕ) (body : List ℕ) (c : Content) (rest : List ℕ) → IsRow unsuback_row first len body c rest → content_of_packet (unsuback_packet (unsuback_of c)) ≡ c
unsuback_row_again first len body c rest h =
    listed_comes_back ack_table (Some MalformedPacket) (checked u8 unsuback_codes InvalidSubscribeReasonCode) [] ack_found ack_set unsuback_item unsuback_reason_in ack_set_again (code_again unsuback_codes (λ n. unsuback_code (unsuback_reason n)) unsuback_code_again) first len body c rest h

-- ---- Unsubscribe

-- the properties of an Unsubscribe
unsubscribe_set_again : (items : List (ℕ × Atom)) → ComeBack items → unsubscribe_found (unsubscribe_set (props unsubscribe_table items)) ≡ props unsubscribe_table items
unsubscribe_set_again items l = λ i. pairs_again _ (l 38) i ∷ []

-- a filter comes back
path_again : Again (one text) [] path_written path_of
path_again bs after vs h =
    let s = h.1 in
    let path = one_back text bs s.0 s.1 s.2 in
    let is : vs ≡ plain path.0 ∷ [] = h.2 ∙ ap (λ k. k.kept) s.3.0 ∙ (λ i. path.1 i ∷ []) in
    ap (λ z. (path_written (path_of z)).kept) is ∙ (λ i. plain (path.2 i) ∷ []) ∙ sym is

-- What the row of an Unsubscribe gives comes back.
pub unsubscribe_row_again : (first len : ℕ) (body : List ℕ) (c : Content) (rest : List ℕ) → IsRow unsubscribe_row first len body c rest → content_of_packet (unsubscribe_packet (unsubscribe_of c)) ≡ c
unsubscribe_row_again first len body c rest h = listed_comes_back unsubscribe_table None (one text) [] unsubscribe_found unsubscribe_set path_written path_of unsubscribe_set_again path_again first len body c rest h

-- ---- what a SubAck is made of has no failure

-- one of two reasons that are read again as themselves
either : (b : Bool) (r s : SubscribeReasonCode) → suback_settled r ≡ r → suback_settled s ≡ s → suback_settled (cond b r s) ≡ cond b r s
either true r s h k = h
either false r s h k = k

-- the reason of a code is read again as itself
reason_settled : (n : ℕ) → suback_settled (suback_reason n) ≡ suback_reason n
reason_settled n =
    either (eqb n 128) _ _ refl (either (eqb n 131) _ _ refl (either (eqb n 135) _ _ refl (either (eqb n 143) _ _ refl (either (eqb n 145) _ _ refl
    (either (eqb n 151) _ _ refl (either (eqb n 158) _ _ refl (either (eqb n 161) _ _ refl (either (eqb n 162) _ _ refl refl))))))))

-- the same of each of a list
all_reasons_settled : (all : List (List Value)) → map suback_settled (map suback_reason_in all) ≡ map suback_reason_in all
all_reasons_settled [] = refl
all_reasons_settled (vs ∷ all) = λ i. reason_settled (number_in vs 0) i ∷ all_reasons_settled all i

-- A SubAck that is made of values has no failure.
pub suback_of_settled : (c : Content) → map suback_settled (suback_of c).return_codes ≡ (suback_of c).return_codes
suback_of_settled c = all_reasons_settled (items_in c.1)
