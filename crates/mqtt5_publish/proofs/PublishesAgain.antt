-- A Publish that is written is read again, as its norm.
use Rattle.std.proofs.Common.{◌≡◌, ℕ, ◌/◌, ◌%◌, ◌<◌, false, cond, eqb, ltb, List, [], ◌∷◌, Option, Some, option_map, Ok, refl, ap, ◌∙◌, arith}
use Rattle.mqtt5_base.specs.declared.quality.QoS.{QoS}
use Rattle.mqtt5_base.specs.declared.quality.QoS.TheVariants.{AtMostOnce, AtLeastOnce, ExactlyOnce}
use Rattle.mqtt5_base.specs.Grammar.{number, content, Found, Value, plain, properties, entry_of}
use Rattle.mqtt5_base.specs.Views.{bit, qos_number}
use Rattle.mqtt5_base.specs.Frames.{Rows}
use Rattle.mqtt5_base.specs.Reading.{frame_at}
use Rattle.mqtt5_base.specs.Layout.{writing, content_of_packet}
use Rattle.mqtt5_base.specs.Sets.{IsBlockOf}
use Rattle.mqtt5_base.proofs.ViewsBack.{bit_small, qos_small}
use Rattle.mqtt5_base.proofs.BlocksAgain.{tidy_found, tidy_values, tidy_twice}
use Rattle.mqtt5_base.proofs.FramesAgain.{has_body, body_of, IsReadable, content_read, written_again}
use Rattle.mqtt5_publish.specs.Rows.{publish_row, publish_table}
use Rattle.mqtt5_publish.specs.declared.publish.Publish.{Publish}
use Rattle.mqtt5_publish.specs.Publishes.{publish_found, publish_first, publish_packet}
use Rattle.mqtt5_publish.specs.Norms.{publish_norm}

-- the high half of the first byte is the type
pub publish_type : (p : Publish) → publish_first p / 16 ≡ 3
publish_type p = omega (arith, bit_small p.dup, qos_small p.qos, bit_small p.retain)

-- the norm's identifier: QoS 0 has none
abbrev norm_id : QoS → ℕ → ℕ
norm_id q id = cond (eqb (qos_number q) 0) 0 id

-- an identifier that is read is the norm's
id_read : (q : QoS) (id : ℕ) → cond (ltb 0 (qos_number q)) (plain (number id)) (plain (number 0)) ≡ plain (number (norm_id q id))
id_read AtMostOnce id = refl
id_read AtLeastOnce id = refl
id_read ExactlyOnce id = refl

-- the values with that identifier and set
abbrev with_both : Publish → Value → Option Found → List Value
with_both p id set =
    plain (number (bit p.dup)) ∷ plain (number (qos_number p.qos)) ∷ plain (number (bit p.retain)) ∷ plain (content p.topic) ∷ id ∷ properties set ∷ plain (content p.payload) ∷ []

-- the row of a Publish reads it
publish_readable : (rows : Rows) (p : Publish) → entry_of rows 3 ≡ Some publish_row → p.pkid < 65536 → IsBlockOf publish_table (option_map publish_found p.properties)
    → IsReadable rows publish_row (publish_packet p) false (content_of_packet (publish_packet (publish_norm p)))
publish_readable rows p among small set =
    let dup : bit p.dup ≡ publish_first p / 8 % 2 = omega (arith, bit_small p.dup, qos_small p.qos, bit_small p.retain) in
    let qos : qos_number p.qos ≡ publish_first p / 2 % 4 = omega (arith, bit_small p.dup, qos_small p.qos, bit_small p.retain) in
    let retain : bit p.retain ≡ publish_first p / 1 % 2 = omega (arith, bit_small p.dup, qos_small p.qos, bit_small p.retain) in
    record {
      brief = refl;
      among = ap (entry_of rows) (publish_type p) ∙ among;
      whole = has_body publish_row (body_of false publish_row (publish_packet p)) (omega arith);
      suits = (
        ap (λ n. plain (number n)) dup,
        (
          ap (λ n. plain (number n)) qos,
          (
            ap (λ n. plain (number n)) retain,
            (
              λ _. (refl, refl),
              (refl, λ _. tt, (refl, λ _. small, (refl, λ _. (refl, set), (refl, λ _. refl, tt)))),
            ),
          ),
        ),
      );
      parts = tt;
      kept = ap (λ (v : Value). with_both p v (tidy_found (option_map publish_found p.properties))) (id_read p.qos p.pkid)
          ∙ ap (with_both p (plain (number (norm_id p.qos p.pkid)))) (tidy_values publish_found p.properties);
    }

-- A Publish that was written is read again as its norm's values.
pub publish_again : (rows : Rows) (p : Publish) (bs : List ℕ) → entry_of rows 3 ≡ Some publish_row → p.pkid < 65536 → IsBlockOf publish_table (option_map publish_found p.properties)
    → writing publish_row (publish_packet p) ≡ Ok bs → frame_at rows bs ≡ content_read (content_of_packet (publish_packet (publish_norm p)))
publish_again rows p bs among small set h = written_again rows publish_row (publish_packet p) false (content_of_packet (publish_packet (publish_norm p))) bs h (publish_readable rows p among small set)

-- the norm's identifier is itself its norm
norm_id_twice : (q : QoS) (id : ℕ) → norm_id q (norm_id q id) ≡ norm_id q id
norm_id_twice AtMostOnce id = refl
norm_id_twice AtLeastOnce id = refl
norm_id_twice ExactlyOnce id = refl

-- The norm's norm is itself.
pub publish_norm_twice : (p : Publish) → publish_norm (publish_norm p) ≡ publish_norm p
publish_norm_twice p =
    λ i. record { dup = p.dup; qos = p.qos; retain = p.retain; topic = p.topic; pkid = norm_id_twice p.qos p.pkid i; payload = p.payload; properties = tidy_twice publish_found p.properties i }
