use Rattle.mqtt5_codec.proofs.CodecLemmas.{decoded}
use Rattle.mqtt5_codec.proofs.codec.Codec.decode.Goals as goal

pub returns-clause-decodes : goal.returns-clause-decodes
returns-clause-decodes c =
    let h = rw c.as_slice.ensures at c.in-Ok.ensures in
    let front = rw c.frame_length.ensures at c.in_ok-frame.ensures.front in
    let left = rw c.frame_length.ensures at c.in_ok-frame.ensures.rest.0 in
    decoded _ _ _ _ c.in-Ok.header c.read_frame.result h.0 h.1 left (rw front at c.read_frame.ensures)
