use Rattle.mqtt5_store.proofs.Whole.{read_whole}
use Rattle.mqtt5_store.proofs.store.take_session.Goals as goal

pub returns-in-Ok-clause-loads : goal.returns-in-Ok-clause-loads
returns-in-Ok-clause-loads c =
    rw (read_whole c.args.stream.now.items c.read_head.new.stream.items c.read_waiting.new.stream.items c.read_packets.new.stream.items c.in_ok-head.head c.is_waiting.result c.numbers.result c.in_ok-waiting.waiting c.in-Ok.packets.items c.in_ok-head.ensures c.is_waiting.ensures c.numbers.ensures c.in_ok-waiting.ensures c.in-Ok.ensures)
    (c.make.ensures.loads c.read_packets.new.stream.items)
