use Rattle.std.proofs.lemmas.Result.{err_from_is_err_and}
use Rattle.mqtt5_codec.proofs.CodecLemmas.{reads_fault}
use Rattle.mqtt5_codec.proofs.packet.Packet.read.Goals as goal

pub returns-in_err-packet-clause-reads : goal.returns-in_err-packet-clause-reads
returns-in_err-packet-clause-reads c =
    let p = err_from_is_err_and c.from_residual-in_err-packet.result c.from_residual-in_err-packet.ensures.1 in
    let h = rw c.as_slice.ensures at c.in_ok-check.ensures in
    rw (p.1, p.2) (reads_fault _ _ _ _ _ _ h.0 c.in_err-packet.ensures.decodes)
