use Rattle.std.proofs.Common.{ℕ, ◌+◌, ap, ◌∙◌}
use Rattle.mqtt5_inflight.specs.declared.event.Request.TheVariants as requests
use Rattle.mqtt5_session.specs.Ledger.{number_owed}
use Rattle.mqtt5_session.specs.Replies.{in_full}
use Rattle.mqtt5_session.proofs.Owed.{adds_of, out_adds}
use Rattle.mqtt5_session.proofs.Once.{sends_keeps, out_keeps}
use Rattle.mqtt5_session.proofs.Short.{accepted_full}
use Rattle.mqtt5_session.proofs.state.MqttState.send_copy.Goals as goal

pub returns-clause-ledger : goal.returns-clause-ledger
returns-clause-ledger c =
    adds_of (in_full c.copy_out.result c.copy_out.new.self) c.args.self.now c.copy_out.new.self _ _ (out_adds c.args.self.now (requests.Publish c.args.publish.now) c.args.at) c.copy_out.ensures
    ∙ ap (λ (n : ℕ). number_owed c.args.self.now.core + n) (accepted_full c.copy_out.result c.copy_out.new.self _)

pub returns-clause-once : goal.returns-clause-once
returns-clause-once c = λ id. sends_keeps id (in_full c.copy_out.result c.copy_out.new.self) c.args.self.now c.copy_out.new.self _ (out_keeps c.args.self.now (requests.Publish c.args.publish.now) c.args.at) c.copy_out.ensures
