use Rattle.mqtt5_store.proofs.FramesAgain.{packet_written}
use Rattle.mqtt5_store.proofs.frames.put_packet.Goals as goal

pub returns-clause-ok : goal.returns-clause-ok
returns-clause-ok c = let h = c.in_ok-write.ensures in (h.0, h.3, packet_written c.frame_laws.ensures c.args.packet.now h.0 c.reads_back.ensures h.1)
