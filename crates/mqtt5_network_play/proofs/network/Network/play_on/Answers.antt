use Rattle.std.proofs.Common.{ap, arith, length}
use Rattle.mqtt5_network.specs.Network.{Network}
use Rattle.mqtt5_network_play.proofs.Stepped.{rest_kept}
use Rattle.mqtt5_network_play.proofs.network.Network.play_on.Goals as goal

pub returns-then-len-handed-clause-before : goal.returns-then-len-handed-clause-before
returns-then-len-handed-clause-before c = rest_kept c.args.self.now c.play.new.self c.args.event.now c.in_ok-play.ensures.ok (omega (arith, ap (λ (n : Network). length n.handed) c.self.view_is, ap (λ (n : Network). length n.handed) c.self-2.view_is, c.len.ensures, c.len-handed.ensures, c.if-len-handed.true)) c.requires
