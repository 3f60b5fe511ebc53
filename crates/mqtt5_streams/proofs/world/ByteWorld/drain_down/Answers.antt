use Rattle.std.proofs.lemmas.Result.{err_from_is_err_and}
use Rattle.mqtt5_streams.specs.ByteWorld.{drain_down}
use Rattle.mqtt5_streams.proofs.Played.{down_on, down_stops, down_waits, down_fails}
use Rattle.mqtt5_streams.proofs.world.ByteWorld.drain_down.Goals as goal

pub returns-in_err-packet : goal.returns-in_err-packet
returns-in_err-packet c =
    let p = err_from_is_err_and c.from_residual.result c.from_residual.ensures.1 in
    rw (p.1, p.2) (down_fails c.args.codec.now (drain_down c.args.codec.now c.args.self.now) c.loop-packet.self c.next_down.new.self c.next_down.new.self.down.buffer _ c.loop-packet.invariant c.in_err-packet.ensures.decodes)

pub loop-packet-preserved : goal.loop-packet-preserved
loop-packet-preserved c =
    down_on c.args.codec.now (drain_down c.args.codec.now c.args.self.now) c.loop-packet.self c.next_down.new.self c.take.new.self c.in-Some.packet c.loop-packet.invariant c.next_down.ensures.read (rw c.in-Some.is at c.in_ok-packet.ensures.decodes) c.in_ok-take.ensures.does c.in_ok-take.ensures.down

pub returns-in_err-take : goal.returns-in_err-take
returns-in_err-take c =
    let p = err_from_is_err_and c.from_residual-in_err-take.result c.from_residual-in_err-take.ensures.1 in
    rw (p.1, p.2) (down_stops c.args.codec.now (drain_down c.args.codec.now c.args.self.now) c.loop-packet.self c.next_down.new.self c.take.new.self c.take.new.self c.in-Some.packet _ c.loop-packet.invariant c.next_down.ensures.read (rw c.in-Some.is at c.in_ok-packet.ensures.decodes) c.in_err-take.ensures.does)

pub returns : goal.returns
returns c = down_waits c.args.codec.now (drain_down c.args.codec.now c.args.self.now) c.loop-packet.self c.next_down.new.self c.loop-packet.invariant c.next_down.ensures.read (rw c.in_default.is at c.in_ok-packet.ensures.decodes)
