use Rattle.std.proofs.Common.{ℕ, ◌+◌, sym, ap, ◌∙◌}
use Rattle.mqtt5_session.specs.Ledger.{number_owed}
use Rattle.mqtt5_session.specs.Once.{kept_id}
use Rattle.mqtt5_session.specs.Replies.{in_full}
use Rattle.mqtt5_session.proofs.Owed.{takes_of, inc_takes}
use Rattle.mqtt5_session.proofs.Once.{once_of, inc_counts}
use Rattle.mqtt5_session.proofs.Short.{accepted_full}
use Rattle.mqtt5_session.proofs.state.MqttState.hear_packet.Goals as goal

pub returns-clause-ledger : goal.returns-clause-ledger
returns-clause-ledger c =
    sym (ap (λ (n : ℕ). number_owed c.hear_in_short.new.self.core + n) (accepted_full c.hear_in_short.result c.hear_in_short.new.self _))
    ∙ takes_of (in_full c.hear_in_short.result c.hear_in_short.new.self) c.args.self.now c.hear_in_short.new.self _ _ (inc_takes c.args.self.now c.args.packet c.args.at) c.hear_in_short.ensures

pub returns-clause-once : goal.returns-clause-once
returns-clause-once c = λ id.
    sym (ap (λ (n : ℕ). kept_id id c.hear_in_short.new.self.core + n) (accepted_full c.hear_in_short.result c.hear_in_short.new.self _))
    ∙ once_of id (in_full c.hear_in_short.result c.hear_in_short.new.self) c.args.self.now c.hear_in_short.new.self c.args.packet _ (inc_counts id c.args.self.now c.args.packet c.args.at) c.hear_in_short.ensures
