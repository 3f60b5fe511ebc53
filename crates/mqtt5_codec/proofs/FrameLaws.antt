-- Of every whole frame exactly one of a packet and a fault holds, and reading answers it.
use Rattle.std.proofs.Common.{◌≡◌, ℕ, ◌/◌, Bool, true, false, cond, eqb, List, [], ◌∷◌, length, Option, Some, None, refl, sym, ap, subst, ◌∙◌}
use Rattle.std.proofs.lemmas.Bool.{eqb-true}
use Rattle.mqtt5_base.specs.declared.error.Error.{Error}
use Rattle.mqtt5_base.specs.Grammar.{Row, Content, entry_of}
use Rattle.mqtt5_base.specs.Fields.{IsRow}
use Rattle.mqtt5_base.specs.Frames.{Rows, IsWhole, IsFrame, FrameFault}
use Rattle.mqtt5_base.specs.Reading.{frame_at}
use Rattle.mqtt5_base.specs.Laws.{Reads}
use Rattle.mqtt5_base.proofs.ReadsLemmas.{reads_like, reads_map, reads_one}
use Rattle.mqtt5_base.proofs.FrameLaws.{frame_reads}
use Rattle.mqtt5_base.proofs.HeaderLemmas.{one_whole, frame_at_whole}
use Rattle.mqtt5_publish.proofs.PacketsBack.{publish_back, puback_back, pubrec_back, pubrel_back, pubcomp_back}
use Rattle.mqtt5_publish.proofs.RowsBack.{publish_row_again, puback_row_again, pubrec_row_again, pubrel_row_again, pubcomp_row_again, ping_row_again}
use Rattle.mqtt5_subscribe.proofs.PacketsBack.{subscribe_back, suback_back, unsubscribe_back, unsuback_back}
use Rattle.mqtt5_subscribe.proofs.RowsBack.{subscribe_row_again, suback_row_again, suback_of_settled, unsubscribe_row_again, unsuback_row_again}
use Rattle.mqtt5_connect.proofs.PacketsBack.{connect_back, will_back, login_back}
use Rattle.mqtt5_connect.proofs.RowsBack.{connect_row_again}
use Rattle.mqtt5_control.proofs.PacketsBack.{connack_back, disconnect_back, auth_back}
use Rattle.mqtt5_control.proofs.RowsBack.{connack_row_again, disconnect_row_again, auth_row_again}
use Rattle.mqtt5_codec.specs.declared.packet.Packet.{Packet}
use Rattle.mqtt5_codec.specs.declared.packet.Packet.TheVariants as packets
use Rattle.mqtt5_codec.specs.Packets.{packet_rows, packet_type, packet_content, IsRead, IsFrameOf, IsFaultOf}
use Rattle.mqtt5_codec.specs.PacketsIn.{packet_of, first_of, packet_in}
use Rattle.mqtt5_codec.specs.Laws.{IsFrames}
use Rattle.mqtt5_codec.proofs.FrameLemmas.{first_of_whole}

-- A packet that reading can give comes back from its type and its values.
pub packet_back : (p : Packet) → IsRead p → packet_of (packet_type p) (packet_content p) ≡ p
packet_back (packets.Connect c will login) h = λ i. packets.Connect (connect_back c will login i) (will_back c will login i) (login_back c will login i)
packet_back (packets.ConnAck p) h = ap (λ q. packets.ConnAck q) (connack_back p)
packet_back (packets.Publish p) h = ap (λ q. packets.Publish q) (publish_back p)
packet_back (packets.PubAck p) h = ap (λ q. packets.PubAck q) (puback_back p)
packet_back (packets.PubRec p) h = ap (λ q. packets.PubRec q) (pubrec_back p)
packet_back (packets.PubRel p) h = ap (λ q. packets.PubRel q) (pubrel_back p)
packet_back (packets.PubComp p) h = ap (λ q. packets.PubComp q) (pubcomp_back p)
packet_back (packets.Subscribe p) h = ap (λ q. packets.Subscribe q) (subscribe_back p)
packet_back (packets.SubAck p) h = ap (λ q. packets.SubAck q) (suback_back p h)
packet_back (packets.Unsubscribe p) h = ap (λ q. packets.Unsubscribe q) (unsubscribe_back p)
packet_back (packets.UnsubAck p) h = ap (λ q. packets.UnsubAck q) (unsuback_back p)
packet_back (packets.PingReq p) h = refl
packet_back (packets.PingResp p) h = refl
packet_back (packets.Disconnect p) h = ap (λ q. packets.Disconnect q) (disconnect_back p)
packet_back (packets.Auth p) h = ap (λ q. packets.Auth q) (auth_back p)

-- ---- the rows

-- each row of a table has the property, under its type
abbrev EachRow : (ℕ → Row → Type 0) → Rows → Type 0
EachRow P [] = Unit {0}
EachRow P (r ∷ rows) = P r.0 r.1 × EachRow P rows

-- a row
abbrev a_row : Row → Option Row
a_row r = Some r

-- no row
abbrev no_row : Option Row
no_row = None

-- a row that is found is the row
row_or : Row → Option Row → Row
row_or d None = d
row_or d (Some r) = r

-- a row that is found is that row
same_row : (r s : Row) → a_row r ≡ a_row s → r ≡ s
unfolding row_or
same_row r s e = ap (row_or r) e

-- a row of a type that is in a table has the property of each
row_each : (P : ℕ → Row → Type 0) (rows : Rows) → EachRow P rows → (kind : ℕ) (row : Row) → entry_of rows kind ≡ Some row → P kind row
row_each P [] all kind row e = absurd (none e)
  where
    none : no_row ≡ a_row row → ⊥
    none e = absurd cc
row_each P (r ∷ rows) all kind row e = by_test (eqb kind r.0) refl (row_each P rows all.1 kind row) e
  where
    by_test : (b : Bool) → eqb kind r.0 ≡ b → (entry_of rows kind ≡ Some row → P kind row) → cond b (Some r.1) (entry_of rows kind) ≡ Some row → P kind row
    by_test true same others e = subst (λ k. P k row) (sym (eqb-true kind r.0 same)) (subst (λ s. P r.0 s) (same_row r.1 row e) all.0)
    by_test false same others e = others e

-- the values that a row gives come back from the packet that is made of them, and it has the type
abbrev ComesBack : ℕ → Row → Type 0
ComesBack kind row = (first len : ℕ) (body : List ℕ) (c : Content) (rest : List ℕ) → IsRow row first len body c rest → (packet_type (packet_of kind c) ≡ kind) × (packet_content (packet_of kind c) ≡ c) × IsRead (packet_of kind c)

-- the values of each row come back
rows_again : EachRow ComesBack packet_rows
rows_again = (
  λ first len body c rest h. (refl, connect_row_again first len body c rest h, tt),
  (
    λ first len body c rest h. (refl, connack_row_again first len body c rest h, tt),
    (
      λ first len body c rest h. (refl, publish_row_again first len body c rest h, tt),
      (
        λ first len body c rest h. (refl, puback_row_again first len body c rest h, tt),
        (
          λ first len body c rest h. (refl, pubrec_row_again first len body c rest h, tt),
          (
            λ first len body c rest h. (refl, pubrel_row_again first len body c rest h, tt),
            (
              λ first len body c rest h. (refl, pubcomp_row_again first len body c rest h, tt),
              (
                λ first len body c rest h. (refl, subscribe_row_again first len body c rest h, tt),
                (
                  λ first len body c rest h. (refl, suback_row_again first len body c rest h, suback_of_settled c),
                  (
                    λ first len body c rest h. (refl, unsubscribe_row_again first len body c rest h, tt),
                    (
                      λ first len body c rest h. (refl, unsuback_row_again first len body c rest h, tt),
                      (
                        λ first len body c rest h. (refl, ping_row_again first len body c rest h, tt),
                        (
                          λ first len body c rest h. (refl, ping_row_again first len body c rest h, tt),
                          (
                            λ first len body c rest h. (refl, disconnect_row_again first len body c rest h, tt),
                            (
                              λ first len body c rest h. (refl, auth_row_again first len body c rest h, tt),
                              tt,
                            ),
                          ),
                        ),
                      ),
                    ),
                  ),
                ),
              ),
            ),
          ),
        ),
      ),
    ),
  ),
)

-- The values of a frame come back from the packet that is made of them.
pub content_again : (first : ℕ) (body : List ℕ) (c : Content) → IsFrame packet_rows first body c → (packet_type (packet_of (first / 16) c) ≡ first / 16) × (packet_content (packet_of (first / 16) c) ≡ c) × IsRead (packet_of (first / 16) c)
content_again first body c h = row_each ComesBack packet_rows rows_again (first / 16) h.0 h.1 first (length body) body c h.3 h.4

-- ---- whole frames

-- Whole frames are read.
pub frames_read : (frame : List ℕ) (first : ℕ) (body : List ℕ) → IsWhole frame first body → Reads (packet_in frame) (IsFrameOf frame) (IsFaultOf frame)
unfolding packet_in IsFrameOf IsFaultOf
frames_read frame first body w = reads_like (reads_map (λ c. packet_of (first_of frame / 16) c) whole)
    (λ p. (λ h. to p h.0 h.1 h.2, from p)) (λ e. (λ f. (first, body, w, f), fault e))
  where
    whole : Reads (frame_at packet_rows frame) (IsFrame packet_rows first body) (FrameFault packet_rows first body)
    whole = rw (frame_at_whole packet_rows frame first body w) (frame_reads packet_rows first body)

    high : first_of frame / 16 ≡ first / 16
    high = ap (λ n. n / 16) (first_of_whole frame first body w)

    to : (p : Packet) (c : Content) → IsFrame packet_rows first body c → p ≡ packet_of (first_of frame / 16) c → IsFrameOf frame p
    to p c h e =
        let again = content_again first body c h in
        let same : p ≡ packet_of (first / 16) c = e ∙ ap (λ n. packet_of n c) high in
        (first, body, w, sym (ap packet_type same ∙ again.0), subst IsRead (sym same) again.2, subst (λ d. IsFrame packet_rows first body d) (sym (ap packet_content same ∙ again.1)) h)

    from : (p : Packet) → IsFrameOf frame p → (c : Content) × IsFrame packet_rows first body c × (p ≡ packet_of (first_of frame / 16) c)
    from p h =
        let one = one_whole frame h.0 first h.1 body h.2 w in (
          packet_content p,
          subst (λ f. IsFrame packet_rows f body (packet_content p)) one.0 (subst (λ b. IsFrame packet_rows h.0 b (packet_content p)) one.1 h.5),
          sym (packet_back p h.4) ∙ ap (λ n. packet_of n (packet_content p)) (sym h.3 ∙ ap (λ n. n / 16) one.0 ∙ sym high),
        )

    fault : (e : Error) → IsFaultOf frame e → FrameFault packet_rows first body e
    fault e h =
        let one = one_whole frame h.0 first h.1 body h.2 w in
        subst (λ f. FrameFault packet_rows f body e) one.0 (subst (λ b. FrameFault packet_rows h.0 b e) one.1 h.3)

-- All that is promised of whole frames.
pub frames : IsFrames
frames = record { reads = frames_read; one = λ frame first body w. reads_one (packet_in frame) (frames_read frame first body w) }
