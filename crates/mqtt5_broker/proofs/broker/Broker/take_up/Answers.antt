use Rattle.std.proofs.Common.{◌≡◌, ◌∙◌, false, Some}
use Rattle.std.proofs.lemmas.Result.{IfOk-weaker}
use Rattle.mqtt5_sessions.specs.Sessions.{sent_again}
use Rattle.mqtt5_broker.proofs.Dated.{sent_the_same}
use Rattle.mqtt5_broker.proofs.broker.Broker.take_up.Goals as goal

pub returns-clause-sent : goal.returns-clause-sent
returns-clause-sent c =
    IfOk-weaker c.come_now.result
    (λ way. way.items ≡ sent_again c.args.client (Some c.args.receive_max) c.date_will-before.new.self.sessions)
    (λ way. way.items ≡ sent_again c.args.client (Some c.args.receive_max) c.args.self.now.sessions)
    (λ way h. h ∙ sent_the_same c.args.client false (Some c.args.receive_max) c.args.self.now c.date_will-before.new.self c.date_will-before.ensures.dated)
    c.come_now.ensures.sent
