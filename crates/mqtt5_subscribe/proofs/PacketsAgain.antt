-- Subscribe, SubAck, Unsubscribe and UnsubAck that are written are read again, as their norms.
use Rattle.std.proofs.Common.{◌≡◌, ℕ, ◌/◌, ◌%◌, ◌<◌, ◌≤◌, Bool, true, cond, List, [], ◌∷◌, map, Some, None, option_map, Result, Ok, Err, refl, ap, ◌∙◌, arith, rules}
use Rattle.mqtt5_base.specs.declared.error.Error.TheVariants.{EmptySubscription, InvalidSubscribeReasonCode, MalformedPacket}
use Rattle.mqtt5_base.specs.declared.error.Error.{Error}
use Rattle.mqtt5_base.specs.Texts.{Utf8}
use Rattle.mqtt5_base.specs.Grammar.{u8, text, number, is_among, Test, passes, plain, one, checked, entry_of}
use Rattle.mqtt5_base.specs.Fields.{repeated}
use Rattle.mqtt5_base.specs.Frames.{Rows}
use Rattle.mqtt5_base.specs.Reading.{frame_at}
use Rattle.mqtt5_base.specs.Views.{qos_number, bit}
use Rattle.mqtt5_base.specs.Layout.{just, content_of_packet, all_kept, writing}
use Rattle.mqtt5_base.specs.Sets.{IsBlockOf}
use Rattle.mqtt5_base.specs.Tidy.{tidy}
use Rattle.mqtt5_base.proofs.ViewsBack.{bit_small, qos_small}
use Rattle.mqtt5_base.proofs.BlocksAgain.{tidy_twice}
use Rattle.mqtt5_base.proofs.FramesAgain.{content_read}
use Rattle.mqtt5_base.specs.AckSets.{ack_table}
use Rattle.mqtt5_base.specs.AckSets.{ack_found}
use Rattle.mqtt5_subscribe.specs.declared.filter.RetainForwardRule.{RetainForwardRule}
use Rattle.mqtt5_subscribe.specs.declared.filter.RetainForwardRule.TheVariants.{OnEverySubscribe, OnNewSubscribe, Never}
use Rattle.mqtt5_subscribe.specs.declared.filter.Filter.{Filter}
use Rattle.mqtt5_subscribe.specs.declared.subscribe.Subscribe.{Subscribe}
use Rattle.mqtt5_subscribe.specs.declared.suback.SubscribeReasonCode.{SubscribeReasonCode}
use Rattle.mqtt5_subscribe.specs.declared.suback.SubAck.{SubAck}
use Rattle.mqtt5_subscribe.specs.declared.unsubscribe.Unsubscribe.{Unsubscribe}
use Rattle.mqtt5_subscribe.specs.declared.unsuback.UnsubAck.{UnsubAck}
use Rattle.mqtt5_subscribe.specs.Rows.{option_steps, subscribe_table, subscribe_row, suback_codes, suback_row, unsubscribe_table, unsubscribe_row, unsuback_codes, unsuback_row}
use Rattle.mqtt5_subscribe.specs.Subscribes.{rule_number, filter_options, filter_written, subscribe_found, subscribe_packet}
use Rattle.mqtt5_subscribe.specs.SubAcks.{suback_code, suback_item, suback_settled, suback_packet}
use Rattle.mqtt5_subscribe.specs.Unsubscribes.{path_written, unsubscribe_found, unsubscribe_packet}
use Rattle.mqtt5_subscribe.specs.UnsubAcks.{unsuback_code, unsuback_item, unsuback_packet}
use Rattle.mqtt5_subscribe.specs.Norms.{subscribe_norm, suback_norm, unsubscribe_norm, unsuback_norm}
use Rattle.mqtt5_subscribe.proofs.Codes.{suback_known, unsuback_known}
use Rattle.mqtt5_subscribe.proofs.PacketsBack.{all_settled_twice}
use Rattle.mqtt5_subscribe.proofs.ListsAgain.{IsItem, listed_content, listed_again}

-- ---- Subscribe

-- a retain handling option is 2 at most
rule_small : (r : RetainForwardRule) → rule_number r ≤ 2
rule_small OnEverySubscribe = omega arith
rule_small OnNewSubscribe = omega arith
rule_small Never = omega arith

-- a number of 2 at most is one of three
small_known : (n : ℕ) → n ≤ 2 → is_among (0 ∷ 1 ∷ 2 ∷ []) n ≡ true
small_known n le = search (rules, arith)

-- two judgements that are passed
both_passed : (a b : Bool) (r : Result (List ℕ) Error) (e d : Error) → a ≡ true → b ≡ true → cond a (cond b r (Err e)) (Err d) ≡ r
both_passed a b r e d h k = rw (h, k) refl

-- a filter is read again
filter_item : (f : Filter) → IsItem (repeated (one text) option_steps) (filter_written f)
filter_item f =
    let o = filter_options f in
    let q = qos_small f.qos in
    let a = bit_small f.nolocal in
    let b = bit_small f.preserve_retain in
    let r = rule_small f.retain_forward_rule in
    let qos : qos_number f.qos ≡ o / 1 % 4 = omega (arith, q, a, b, r) in
    let nolocal : bit f.nolocal ≡ o / 4 % 2 = omega (arith, q, a, b, r) in
    let preserve : bit f.preserve_retain ≡ o / 8 % 2 = omega (arith, q, a, b, r) in
    let rule : rule_number f.retain_forward_rule ≡ o / 16 % 4 = omega (arith, q, a, b, r) in
    record {
      some = omega arith;
      own = λ rest. record {
        passes = both_passed _ _ _ _ _ (small_known (o / 16 % 4) (omega (arith, rule, r))) (small_known (o / 1 % 4) (omega (arith, qos, q)));
        suits = (
          refl,
          λ _. f.path.is_text,
          (
            tt,
            (
              λ _. (refl, refl),
              (
                λ _. (refl, refl),
                (ap (λ n. plain (number n)) qos, (ap (λ n. plain (number n)) nolocal, (ap (λ n. plain (number n)) preserve, (ap (λ n. plain (number n)) rule, tt)))),
              ),
            ),
          ),
        );
      };
      kept = refl;
    }

-- A Subscribe that was written is read again as its norm's values.
pub subscribe_again : (rows : Rows) (p : Subscribe) (bs : List ℕ) → entry_of rows 8 ≡ Some subscribe_row → p.pkid < 65536 → IsBlockOf subscribe_table (option_map subscribe_found p.properties)
    → writing subscribe_row (subscribe_packet p) ≡ Ok bs → frame_at rows bs ≡ content_read (content_of_packet (subscribe_packet (subscribe_norm p)))
subscribe_again rows p bs among small set h = listed_again subscribe_found filter_written rows subscribe_table (Some EmptySubscription) (one text) option_steps 130 p.pkid p.properties p.filters bs among refl small set filter_item h

-- The norm's norm is itself.
pub subscribe_norm_twice : (p : Subscribe) → subscribe_norm (subscribe_norm p) ≡ subscribe_norm p
subscribe_norm_twice p = λ i. record { pkid = p.pkid; filters = p.filters; properties = tidy_twice subscribe_found p.properties i }

-- ---- SubAck and UnsubAck

-- a reason code is read again
code_item : (codes : Test) (n : ℕ) → passes codes (number n) ≡ true → IsItem (repeated (checked u8 codes InvalidSubscribeReasonCode) []) (just (plain (number n) ∷ []))
code_item codes n known = record {
  some = rw known (omega arith);
  own = λ rest. record { passes = rw known refl; suits = (refl, λ _. tt, tt) };
  kept = refl;
}

-- a reason has the code of the one that is read again
settled_code : (r : SubscribeReasonCode) → suback_code r ≡ suback_code (suback_settled r)
settled_code = search rules

-- the same of each of a list
settled_codes : (rs : List SubscribeReasonCode) → all_kept (map suback_item rs) ≡ all_kept (map suback_item (map suback_settled rs))
settled_codes [] = refl
settled_codes (r ∷ rs) = λ i. (plain (number (settled_code r i)) ∷ []) ∷ settled_codes rs i

-- A SubAck that was written is read again as its norm's values.
pub suback_again : (rows : Rows) (p : SubAck) (bs : List ℕ) → entry_of rows 9 ≡ Some suback_row → p.pkid < 65536 → IsBlockOf ack_table (option_map ack_found p.properties)
    → writing suback_row (suback_packet p) ≡ Ok bs → frame_at rows bs ≡ content_read (content_of_packet (suback_packet (suback_norm p)))
suback_again rows p bs among small set h =
    listed_again ack_found suback_item rows ack_table (Some MalformedPacket) (checked u8 suback_codes InvalidSubscribeReasonCode) [] 144 p.pkid p.properties p.return_codes bs among refl small set (λ r. code_item suback_codes (suback_code r) (suback_known r)) h
    ∙ ap (λ items. content_read (listed_content p.pkid (option_map ack_found (tidy ack_found p.properties)) items)) (settled_codes p.return_codes)

-- The norm's norm is itself.
pub suback_norm_twice : (p : SubAck) → suback_norm (suback_norm p) ≡ suback_norm p
suback_norm_twice p = λ i. record { pkid = p.pkid; return_codes = all_settled_twice p.return_codes i; properties = tidy_twice ack_found p.properties i }

-- An UnsubAck that was written is read again as its norm's values.
pub unsuback_again : (rows : Rows) (p : UnsubAck) (bs : List ℕ) → entry_of rows 11 ≡ Some unsuback_row → p.pkid < 65536 → IsBlockOf ack_table (option_map ack_found p.properties)
    → writing unsuback_row (unsuback_packet p) ≡ Ok bs → frame_at rows bs ≡ content_read (content_of_packet (unsuback_packet (unsuback_norm p)))
unsuback_again rows p bs among small set h =
    listed_again ack_found unsuback_item rows ack_table (Some MalformedPacket) (checked u8 unsuback_codes InvalidSubscribeReasonCode) [] 176 p.pkid p.properties p.reasons bs among refl small set (λ r. code_item unsuback_codes (unsuback_code r) (unsuback_known r)) h

-- The norm's norm is itself.
pub unsuback_norm_twice : (p : UnsubAck) → unsuback_norm (unsuback_norm p) ≡ unsuback_norm p
unsuback_norm_twice p = λ i. record { pkid = p.pkid; reasons = p.reasons; properties = tidy_twice ack_found p.properties i }

-- ---- Unsubscribe

-- a filter is read again
path_item : (t : Utf8) → IsItem (repeated (one text) []) (path_written t)
path_item t = record { some = omega arith; own = λ rest. record { passes = refl; suits = (refl, λ _. t.is_text, tt) }; kept = refl }

-- An Unsubscribe that was written is read again as its norm's values.
pub unsubscribe_again : (rows : Rows) (p : Unsubscribe) (bs : List ℕ) → entry_of rows 10 ≡ Some unsubscribe_row → p.pkid < 65536 → IsBlockOf unsubscribe_table (option_map unsubscribe_found p.properties)
    → writing unsubscribe_row (unsubscribe_packet p) ≡ Ok bs → frame_at rows bs ≡ content_read (content_of_packet (unsubscribe_packet (unsubscribe_norm p)))
unsubscribe_again rows p bs among small set h = listed_again unsubscribe_found path_written rows unsubscribe_table None (one text) [] 162 p.pkid p.properties p.filters bs among refl small set path_item h

-- The norm's norm is itself.
pub unsubscribe_norm_twice : (p : Unsubscribe) → unsubscribe_norm (unsubscribe_norm p) ≡ unsubscribe_norm p
unsubscribe_norm_twice p = λ i. record { pkid = p.pkid; filters = p.filters; properties = tidy_twice unsubscribe_found p.properties i }
