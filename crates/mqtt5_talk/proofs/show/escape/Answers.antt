use Rattle.mqtt5_talk.proofs.Showing.{escaped_more}
use Rattle.mqtt5_talk.proofs.show.escape.Goals as goal

pub loop-byte-preserved : goal.loop-byte-preserved
loop-byte-preserved c =
    escaped_more c.is_text-is_text.result c.args.line.now.items c.loop-byte.line.items c.escape_byte.new.line.items c.args.bytes.now c.loop-byte.byte-index
    c.loop-byte-test.true c.loop-byte.invariant c.in_ok-escape_byte.ensures
