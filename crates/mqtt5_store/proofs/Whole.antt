-- A session that is written is read again.
use Rattle.std.proofs.Common.{◌≡◌, ℕ, Bool, List, [], ◌++◌, length, map, Option, Result, Ok, sym, ap, ◌∙◌, append_assoc}
use Rattle.std.specs.Prelude.{is_some, option_map}
use Rattle.std.specs.FinSet.{from_list}
use Rattle.mqtt5_publish.specs.declared.publish.Publish.{Publish}
use Rattle.mqtt5_publish.specs.Norms.{publish_norm}
use Rattle.mqtt5_codec.specs.declared.packet.Packet.{Packet}
use Rattle.mqtt5_codec.specs.Norms.{norm}
use Rattle.mqtt5_session.specs.declared.parts.Numbers.{Numbers}
use Rattle.mqtt5_session.specs.Session.{Core}
use Rattle.mqtt5_session.specs.Parts.{IsCore, core_norm, numbers_of, stored_packets, core_of_parts}
use Rattle.mqtt5_session.proofs.FromParts.{made_again}
use Rattle.mqtt5_session.proofs.Norms.{stored_read, norm_is_core}
use Rattle.mqtt5_store.specs.declared.error.StoreError.{StoreError}
use Rattle.mqtt5_store.specs.declared.head.Head.{Head}
use Rattle.mqtt5_store.specs.Format.{◌>>=◌, is_set, head_bytes, head_for, head_at, packets_at, waiting_at, numbers_in, core_before, core_at, IsStored, IsWaiting, ArePackets}
use Rattle.mqtt5_store.proofs.HeadAgain.{flag_again, numbers_again}

after_packets : Head → Option Publish → List Packet × List ℕ → Result (Core × List ℕ) StoreError
after_packets h w ps = core_before (core_of_parts (numbers_in h) w ps.0) ps.1

after_waiting : Head → Option Publish × List ℕ → Result (Core × List ℕ) StoreError
after_waiting h w = packets_at h.count [] w.1 >>= λ ps. core_before (core_of_parts (numbers_in h) w.0 ps.0) ps.1

after_head : Head × List ℕ → Result (Core × List ℕ) StoreError
after_head h = waiting_at (is_set h.0.waits) h.1 >>= λ w. packets_at h.0.count [] w.1 >>= λ ps. core_before (core_of_parts (numbers_in h.0) w.0 ps.0) ps.1

pub whole : (c : Core) (ids : List ℕ) (n : Numbers) (b : Bool) (count : ℕ) (w : Option Publish) (ps : List Packet) (wb pb : List ℕ) → IsCore c → from_list ids ≡ c.incoming
    → n ≡ numbers_of c → b ≡ is_some w → count ≡ length ps → w ≡ c.waiting → ps ≡ stored_packets c ids
    → ((rest : List ℕ) → head_at (head_bytes n b count ++ rest) ≡ Ok (head_for n b count, rest)) → IsWaiting wb w → ArePackets pb ps → IsStored (head_bytes n b count ++ (wb ++ pb)) c
unfolding after_packets after_waiting after_head
whole c ids n b count w ps wb pb is same en eb ec ew ep head waits are rest =
    ap (λ r. r >>= after_head) (ap head_at (append_assoc (head_bytes n b count) (wb ++ pb) rest) ∙ head ((wb ++ pb) ++ rest))
    ∙ ap (λ t. waiting_at t ((wb ++ pb) ++ rest) >>= after_waiting h) (flag_again b ∙ eb)
    ∙ ap (λ bs. waiting_at (is_some w) bs >>= after_waiting h) (append_assoc wb pb rest)
    ∙ ap (λ r. r >>= after_waiting h) (waits (pb ++ rest))
    ∙ ap (λ k. packets_at k [] (pb ++ rest) >>= after_packets h (option_map publish_norm w)) ec
    ∙ ap (λ r. r >>= after_packets h (option_map publish_norm w)) (are [] rest)
    ∙ ap (λ m. core_before (core_of_parts m (option_map publish_norm w) (map norm ps)) rest) (numbers_again n b count ∙ en)
    ∙ ap (λ v. core_before (core_of_parts (numbers_of c) (option_map publish_norm v) (map norm ps)) rest) ew
    ∙ ap (λ l. core_before (core_of_parts (numbers_of c) (option_map publish_norm c.waiting) l) rest) (ap (map norm) ep ∙ stored_read c ids)
    ∙ ap (λ r. core_before r rest) (made_again (core_norm c) ids (norm_is_core c is) same)
  where
    h : Head
    h = head_for n b count

-- what was read, part by part
pub read_whole : (b0 b1 b2 b3 : List ℕ) (h : Head) (waits : Bool) (n : Numbers) (w : Option Publish) (ps : List Packet) → head_at b0 ≡ Ok (h, b1) → waits ≡ is_set h.waits → n ≡ numbers_in h → waiting_at waits b1 ≡ Ok (w, b2) → packets_at h.count [] b2 ≡ Ok (ps, b3) → core_at b0 ≡ core_before (core_of_parts n w ps) b3
unfolding after_packets after_waiting after_head
read_whole b0 b1 b2 b3 h waits n w ps eh ef en ew ep =
    ap (λ r. r >>= after_head) eh
    ∙ ap (λ t. waiting_at t b1 >>= after_waiting h) (sym ef)
    ∙ ap (λ r. r >>= after_waiting h) ew
    ∙ ap (λ r. r >>= after_packets h w) ep
    ∙ ap (λ m. core_before (core_of_parts m w ps) b3) (sym en)
