-- Each of the connect flags is found again in their sum.
use Rattle.std.proofs.Common.{◌≡◌, ℕ, ◌+◌, ◌*◌, ◌/◌, ◌%◌, ◌≤◌, Bool, true, false, cond, eqb, length, Option, Some, None, arith}
use Rattle.mqtt5_base.specs.Texts.{Utf8}
use Rattle.mqtt5_base.specs.Views.{qos_number, bit}
use Rattle.mqtt5_base.proofs.ViewsBack.{bit_small, qos_small}
use Rattle.mqtt5_connect.specs.declared.connect.Connect.{Connect}
use Rattle.mqtt5_connect.specs.declared.will.LastWill.{LastWill}
use Rattle.mqtt5_connect.specs.declared.login.Login.{Login}
use Rattle.mqtt5_connect.specs.Connects.{text_flag, connect_flags}

-- a will, its QoS and its retain
abbrev pub will_bit : Option LastWill → ℕ
will_bit None = 0
will_bit (Some w) = 1

abbrev pub qos_bits : Option LastWill → ℕ
qos_bits None = 0
qos_bits (Some w) = qos_number w.qos

abbrev pub retain_bit : Option LastWill → ℕ
retain_bit None = 0
retain_bit (Some w) = bit w.retain

-- a text that isn't empty
abbrev pub text_bit : Utf8 → ℕ
text_bit t = cond (eqb (length t.bytes) 0) 0 1

abbrev pub username_bit : Option Login → ℕ
username_bit None = 0
username_bit (Some l) = text_bit l.username

abbrev pub password_bit : Option Login → ℕ
password_bit None = 0
password_bit (Some l) = text_bit l.password

-- ---- each is small

will_small : (will : Option LastWill) → will_bit will ≤ 1
will_small None = omega arith
will_small (Some w) = omega arith

qos_bits_small : (will : Option LastWill) → qos_bits will ≤ 2
qos_bits_small None = omega arith
qos_bits_small (Some w) = qos_small w.qos

retain_small : (will : Option LastWill) → retain_bit will ≤ 1
retain_small None = omega arith
retain_small (Some w) = bit_small w.retain

text_small : (t : Utf8) → text_bit t ≤ 1
text_small t = by_test (eqb (length t.bytes) 0)
  where
    by_test : (b : Bool) → cond b 0 1 ≤ 1
    by_test true = omega arith
    by_test false = omega arith

username_small : (login : Option Login) → username_bit login ≤ 1
username_small None = omega arith
username_small (Some l) = text_small l.username

password_small : (login : Option Login) → password_bit login ≤ 1
password_small None = omega arith
password_small (Some l) = text_small l.password

-- ---- the sum

-- a text's flag is its worth or nothing
flag_worth : (worth : ℕ) (t : Utf8) → text_flag worth t ≡ worth * text_bit t
flag_worth worth t = by_test (eqb (length t.bytes) 0)
  where
    by_test : (b : Bool) → cond b 0 worth ≡ worth * cond b 0 1
    by_test true = omega arith
    by_test false = omega arith

-- the flags by their worth
flags_sum : (c : Connect) (will : Option LastWill) (login : Option Login)
    → connect_flags c will login ≡ 2 * bit c.clean_start + (4 * will_bit will + 8 * qos_bits will + 32 * retain_bit will) + (128 * username_bit login + 64 * password_bit login)
flags_sum c None None = omega arith
flags_sum c (Some w) None = omega arith
flags_sum c None (Some l) = omega (arith, flag_worth 128 l.username, flag_worth 64 l.password)
flags_sum c (Some w) (Some l) = omega (arith, flag_worth 128 l.username, flag_worth 64 l.password)

-- which flags are set
pub record AreFlags (n : ℕ) (c : Connect) (will : Option LastWill) (login : Option Login) : Type 0 where
  pub clean : n / 2 % 2 ≡ bit c.clean_start
  pub will_is : n / 4 % 2 ≡ will_bit will
  pub qos : n / 8 % 4 ≡ qos_bits will
  pub of_will : n / 8 % 8 ≡ qos_bits will + 4 * retain_bit will
  pub retain : n / 32 % 2 ≡ retain_bit will
  pub username : n / 128 % 2 ≡ username_bit login
  pub password : n / 64 % 2 ≡ password_bit login

-- Each flag is found in the sum.
pub flags_found : (c : Connect) (will : Option LastWill) (login : Option Login) → AreFlags (connect_flags c will login) c will login
flags_found c will login =
    let sum = flags_sum c will login in
    let a = bit_small c.clean_start in
    let b = will_small will in
    let q = qos_bits_small will in
    let r = retain_small will in
    let u = username_small login in
    let p = password_small login in
    record {
      clean = omega arith;
      will_is = omega arith;
      qos = omega arith;
      of_will = omega arith;
      retain = omega arith;
      username = omega arith;
      password = omega arith;
    }
