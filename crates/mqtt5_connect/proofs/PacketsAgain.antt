-- A Connect that is written with its will and its login is read again, as its norm.
use Rattle.std.proofs.Common.{◌≡◌, ℕ, zero, suc, ◌/◌, ◌%◌, ◌<◌, Bool, true, false, cond, eqb, ltb, List, [], ◌∷◌, length, Option, Some, None, option_map, Ok, refl, sym, ap, ◌∙◌, arith, rules}
use Rattle.std.specs.Prelude.{slice_index}
use Rattle.std.specs.Str.{is_utf8}
use Rattle.std.proofs.lemmas.Str.{is_utf8-from_IsUtf8, IsUtf8-from_ascii}
use Rattle.mqtt5_base.specs.declared.quality.QoS.{QoS}
use Rattle.mqtt5_base.specs.Grammar.{number, content, Found, passes, is_qos, Value, plain, properties, optional, all_empty, unless_empty, entry_of}
use Rattle.mqtt5_base.specs.Views.{qos_number, bit}
use Rattle.mqtt5_base.specs.Frames.{Rows}
use Rattle.mqtt5_base.specs.Reading.{frame_at}
use Rattle.mqtt5_base.specs.Layout.{just, group_of, writing, content_of_packet}
use Rattle.mqtt5_base.specs.Sets.{IsBlockOf}
use Rattle.mqtt5_base.proofs.BlockLaws.{some_bytes}
use Rattle.mqtt5_base.proofs.BlocksAgain.{tidy_found, tidy_values, tidy_twice}
use Rattle.mqtt5_base.proofs.PartsAgain.{IsOwn, PartIs}
use Rattle.mqtt5_base.proofs.FramesAgain.{has_body, body_of, IsReadable, content_read, written_again}
use Rattle.mqtt5_connect.specs.declared.connect.Connect.{Connect}
use Rattle.mqtt5_connect.specs.declared.will.LastWill.{LastWill}
use Rattle.mqtt5_connect.specs.declared.login.Login.{Login}
use Rattle.mqtt5_connect.specs.Rows.{protocol, connect_table, will_table, will_steps, will_part, login_part, connect_row}
use Rattle.mqtt5_connect.specs.Short.{will_block}
use Rattle.mqtt5_connect.specs.Connects.{connect_found, will_found, connect_values, will_values, login_values, connect_flags, will_group, login_group, connect_packet}
use Rattle.mqtt5_connect.specs.Norms.{connect_norm, will_norm, login_norm}
use Rattle.mqtt5_connect.proofs.Flags.{AreFlags, flags_found}

-- the values of the row's steps, with these flags
abbrev with_flags : ℕ → List Value → List Value
with_flags n vs = plain (content protocol) ∷ plain (number 5) ∷ plain (number n) ∷ vs

-- "MQTT" is ASCII
protocol_small : (i : ℕ) → slice_index protocol i < 128
protocol_small zero = omega arith
protocol_small (suc zero) = omega arith
protocol_small (suc (suc zero)) = omega arith
protocol_small (suc (suc (suc zero))) = omega arith
protocol_small (suc (suc (suc (suc i)))) = omega arith

-- and so UTF-8
pub protocol_is : is_utf8 protocol ≡ true
protocol_is = is_utf8-from_IsUtf8 protocol (IsUtf8-from_ascii protocol protocol_small)

-- ---- the will

-- a QoS is one
qos_known : (q : QoS) → passes is_qos (number (qos_number q)) ≡ true
qos_known = search rules

-- the values of a will with those properties
abbrev will_with : LastWill → Option Found → List Value
will_with w p = properties p ∷ plain (content w.topic) ∷ plain (content w.message) ∷ plain (number (qos_number w.qos)) ∷ plain (number (bit w.retain)) ∷ []

-- a will suits its steps
will_own : (n : ℕ) (w : LastWill) (rest : List ℕ) → n / 8 % 4 ≡ qos_number w.qos → n / 32 % 2 ≡ bit w.retain → IsBlockOf will_table (option_map will_found w.properties) → IsOwn will_steps n (just (will_values w)) rest
will_own n w rest q r set = record {
  passes = rw (q, qos_known w.qos) refl;
  suits = (
    refl,
    λ _. (refl, set),
    (refl, λ _. tt, (refl, λ _. tt, (λ _. (refl, refl), (ap (λ m. plain (number m)) (sym q), (ap (λ m. plain (number m)) (sym r), tt))))),
  );
}

-- The will is read again.
will_is : (c : Connect) (will : Option LastWill) (login : Option Login) (n : ℕ) (vs us : List Value) (rest : List ℕ) → AreFlags n c will login → IsBlockOf will_table (will_block will)
    → PartIs (will_part 2) (with_flags n vs) (with_flags n us) (will_group will) (group_of (will_group (will_norm will))) rest
will_is c None login n vs us rest f set =
    let off : n / 4 % 2 ≡ 0 = f.will_is in
    let none : n / 8 % 8 ≡ 0 = f.of_will in
    (rw off refl, [], rw none refl, refl)
will_is c (Some w) login n vs us rest f set =
    let on : n / 4 % 2 ≡ 1 = f.will_is in
    (refl, rw on refl, will_own n w rest f.qos f.retain set, ap (λ (p : Option Found). optional (Some (will_with w p))) (sym (tidy_values will_found w.properties)))

-- ---- the login

-- a text whose flag says whether it is empty is read again
text_again : (m : ℕ) (t : List ℕ) → m ≡ cond (eqb (length t) 0) 0 1 → cond (ltb 0 m) (plain (content t)) (plain (content [])) ≡ plain (content t)
text_again m [] h = rw h refl
text_again m (x ∷ t) h = let one : m ≡ 1 = h ∙ ap (λ b. cond b 0 1) (some_bytes x t) in rw one refl

-- a login's values, unless each is empty
login_read : (l : Login) → group_of (login_group (login_norm (Some l))) ≡ optional (unless_empty (login_values l))
login_read l = by_test (all_empty (login_values l))
  where
    by_test : (b : Bool) → group_of (login_group (cond b None (Some l))) ≡ optional (cond b None (Some (login_values l)))
    by_test true = refl
    by_test false = refl

-- The login is read again.
login_is : (c : Connect) (will : Option LastWill) (login : Option Login) (n : ℕ) (vs us : List Value) (rest : List ℕ) → AreFlags n c will login
    → PartIs (login_part 2) (with_flags n vs) (with_flags n us) (login_group login) (group_of (login_group (login_norm login))) rest
login_is c will None n vs us rest f =
    let no_username : n / 128 % 2 ≡ 0 = f.username in
    let no_password : n / 64 % 2 ≡ 0 = f.password in
    (plain (content []) ∷ plain (content []) ∷ [], rw (no_username, no_password) refl, refl)
login_is c will (Some l) n vs us rest f =
    let username = text_again (n / 128 % 2) l.username.bytes f.username in
    let password = text_again (n / 64 % 2) l.password.bytes f.password in (
      refl,
      record { passes = refl; suits = (refl, λ _. l.username.is_text, (refl, λ _. l.password.is_text, tt)) },
      login_read l ∙ (λ i. optional (unless_empty (sym username i ∷ sym password i ∷ []))),
    )

-- ---- the row

-- the values of a Connect with those properties
abbrev connect_with : Connect → Option Found → List Value
connect_with c p = plain (number (bit c.clean_start)) ∷ plain (number c.keep_alive) ∷ properties p ∷ plain (content c.client_id.bytes) ∷ []

-- the row of a Connect reads it
connect_readable : (rows : Rows) (c : Connect) (will : Option LastWill) (login : Option Login) → entry_of rows 1 ≡ Some connect_row → c.keep_alive < 65536 → IsBlockOf connect_table (option_map connect_found c.properties) → IsBlockOf will_table (will_block will)
    → IsReadable rows connect_row (connect_packet c will login) false (content_of_packet (connect_packet (connect_norm c) (will_norm will) (login_norm login)))
connect_readable rows c will login among small set will_set =
    let n = connect_flags c will login in
    let f = flags_found c will login in
    let written = connect_values c in
    let read = connect_with c (tidy_found (option_map connect_found c.properties)) in
    record {
      brief = refl;
      among = among;
      whole = has_body connect_row (body_of false connect_row (connect_packet c will login)) (omega arith);
      suits = (
        protocol_is,
        (
          tt,
          (
            λ _. (refl, refl),
            (λ _. (refl, refl), (tt, (ap (λ m. plain (number m)) (sym f.clean), (refl, λ _. small, (refl, λ _. (refl, set), (refl, λ _. c.client_id.is_text, tt)))))),
          ),
        ),
      );
      parts = (will_is c will login n written read _ f will_set, (login_is c will login n written read _ f, tt));
      kept = ap (connect_with c) (tidy_values connect_found c.properties);
    }

-- A Connect that was written with its will and its login is read again as the values of its norm.
pub connect_again : (rows : Rows) (c : Connect) (will : Option LastWill) (login : Option Login) (bs : List ℕ) → entry_of rows 1 ≡ Some connect_row → c.keep_alive < 65536 → IsBlockOf connect_table (option_map connect_found c.properties) → IsBlockOf will_table (will_block will)
    → writing connect_row (connect_packet c will login) ≡ Ok bs → frame_at rows bs ≡ content_read (content_of_packet (connect_packet (connect_norm c) (will_norm will) (login_norm login)))
connect_again rows c will login bs among small set will_set h =
    written_again rows connect_row (connect_packet c will login) false (content_of_packet (connect_packet (connect_norm c) (will_norm will) (login_norm login))) bs h (connect_readable rows c will login among small set will_set)

-- ---- norms

-- The norm's norm is itself.
pub connect_norm_twice : (c : Connect) → connect_norm (connect_norm c) ≡ connect_norm c
connect_norm_twice c = λ i. record { keep_alive = c.keep_alive; client_id = c.client_id; clean_start = c.clean_start; properties = tidy_twice connect_found c.properties i }

-- So is a will's.
pub will_norm_twice : (will : Option LastWill) → will_norm (will_norm will) ≡ will_norm will
will_norm_twice None = refl
will_norm_twice (Some w) = ap (λ v. Some v) (λ i. record { topic = w.topic; message = w.message; qos = w.qos; retain = w.retain; properties = tidy_twice will_found w.properties i })

-- So is a login's.
pub login_norm_twice : (login : Option Login) → login_norm (login_norm login) ≡ login_norm login
login_norm_twice None = refl
login_norm_twice (Some l) = by_test (all_empty (login_values l)) refl
  where
    by_test : (b : Bool) → all_empty (login_values l) ≡ b → login_norm (cond b None (Some l)) ≡ cond b None (Some l)
    by_test true e = refl
    by_test false e = rw e refl
