use Rattle.std.proofs.Common.{refl}
use Rattle.broker_core.proofs.Sendings.{written_is_sent}
use Rattle.broker_core.proofs.client.Client.send.Goals as goal

pub returns-clause-ok : goal.returns-clause-ok
returns-clause-ok c = rw (← c.self.view_is) (written_is_sent _ _ _ c.args.packet.now _ _ _ _ c.in_ok-write.ensures refl refl)
