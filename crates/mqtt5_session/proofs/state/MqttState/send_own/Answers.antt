use Rattle.std.proofs.Common.{ℕ, ◌+◌, ap, ◌∙◌}
use Rattle.mqtt5_inflight.specs.declared.event.Request.TheVariants as requests
use Rattle.mqtt5_session.specs.Ledger.{number_owed}
use Rattle.mqtt5_session.specs.Replies.{in_full}
use Rattle.mqtt5_session.proofs.Owed.{adds_of, out_adds}
use Rattle.mqtt5_session.proofs.Once.{sends_keeps, out_keeps}
use Rattle.mqtt5_session.proofs.Short.{accepted_full}
use Rattle.mqtt5_session.proofs.state.MqttState.send_own.Goals as goal

pub returns-clause-ledger : goal.returns-clause-ledger
returns-clause-ledger c =
    adds_of (in_full c.own_out.result c.own_out.new.self) c.args.self.now c.own_out.new.self _ _ (out_adds c.args.self.now (requests.Publish c.args.publish) c.args.at) c.own_out.ensures
    ∙ ap (λ (n : ℕ). number_owed c.args.self.now.core + n) (accepted_full c.own_out.result c.own_out.new.self _)

pub returns-clause-once : goal.returns-clause-once
returns-clause-once c = λ id. sends_keeps id (in_full c.own_out.result c.own_out.new.self) c.args.self.now c.own_out.new.self _ (out_keeps c.args.self.now (requests.Publish c.args.publish) c.args.at) c.own_out.ensures
