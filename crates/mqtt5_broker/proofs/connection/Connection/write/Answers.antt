use Rattle.mqtt5_broker.proofs.Written.{written_ok, written_not}
use Rattle.mqtt5_broker.proofs.connection.Connection.write.Goals as goal

pub returns-in_default-clause-ok : goal.returns-in_default-clause-ok
returns-in_default-clause-ok c =
    rw (← c.self.view_is) (written_ok c.args.packet.now (record { is_open = c.self.inside.is_open; client = c.self.inside.client; user = c.self.inside.user; longest = c.self.inside.longest; held = c.self.inside.held.items; output = c.self.inside.output.items; silence = c.self.inside.silence; deadline = c.self.inside.deadline; aliases = c.self.inside.aliases }) c.in_default.field-0 c.write.new.buffer.items c.in_default.ensures)

pub returns-clause-ok : goal.returns-clause-ok
returns-clause-ok c =
    rw (← c.self.view_is) (written_not c.args.packet.now (record { is_open = c.self.inside.is_open; client = c.self.inside.client; user = c.self.inside.user; longest = c.self.inside.longest; held = c.self.inside.held.items; output = c.self.inside.output.items; silence = c.self.inside.silence; deadline = c.self.inside.deadline; aliases = c.self.inside.aliases }) c.in-Err.error c.write.new.buffer.items c.in_ok-unless_memory.ensures c.in-Err.ensures)
