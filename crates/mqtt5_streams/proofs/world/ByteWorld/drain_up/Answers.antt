use Rattle.std.proofs.lemmas.Result.{err_from_is_err_and}
use Rattle.mqtt5_streams.specs.ByteWorld.{drain_up}
use Rattle.mqtt5_streams.proofs.Played.{up_on, up_stops, up_waits, up_fails}
use Rattle.mqtt5_streams.proofs.world.ByteWorld.drain_up.Goals as goal

pub returns-in_err-packet : goal.returns-in_err-packet
returns-in_err-packet c =
    let p = err_from_is_err_and c.from_residual.result c.from_residual.ensures.1 in
    rw (p.1, p.2) (up_fails (drain_up c.args.self.now) c.loop-packet.self c.next_up.new.self c.next_up.new.self.up.buffer _ c.loop-packet.invariant c.in_err-packet.ensures.decodes)

pub loop-packet-preserved : goal.loop-packet-preserved
loop-packet-preserved c =
    up_on (drain_up c.args.self.now) c.loop-packet.self c.next_up.new.self c.arrive.new.self c.in-Some.packet c.loop-packet.invariant c.next_up.ensures.read (rw c.in-Some.is at c.in_ok-packet.ensures.decodes) c.in_ok-arrive.ensures.does c.in_ok-arrive.ensures.up

pub returns-in_err-arrive : goal.returns-in_err-arrive
returns-in_err-arrive c =
    let p = err_from_is_err_and c.from_residual-in_err-arrive.result c.from_residual-in_err-arrive.ensures.1 in
    rw (p.1, p.2) (up_stops (drain_up c.args.self.now) c.loop-packet.self c.next_up.new.self c.arrive.new.self c.arrive.new.self c.in-Some.packet _ c.loop-packet.invariant c.next_up.ensures.read (rw c.in-Some.is at c.in_ok-packet.ensures.decodes) c.in_err-arrive.ensures.does)

pub returns : goal.returns
returns c = up_waits (drain_up c.args.self.now) c.loop-packet.self c.next_up.new.self c.loop-packet.invariant c.next_up.ensures.read (rw c.in_default.is at c.in_ok-packet.ensures.decodes)
