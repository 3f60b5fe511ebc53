use Rattle.std.proofs.Common.{◌≡◌, ◌+◌, ap, ◌∙◌, arith, length}
use Rattle.std.specs.FinMap.{len, len-empty}
use Rattle.std.specs.Ordering.{nat_cmp}
use Rattle.mqtt5_session.specs.Ledger.{number_owed, one_of}
use Rattle.mqtt5_session.proofs.state.MqttState.clean.Goals as goal

pub returns-clause-ledger : goal.returns-clause-ledger
returns-clause-ledger c =
    let none : len c.clear.new.self.in_use ≡ 0 = ap (λ m. len m.in_use) c.clear.ensures ∙ len-empty nat_cmp _ in
    let old : len c.self.inside.slots.in_use + one_of c.self.inside.waiting ≡ number_owed c.args.self.now.core = ap (λ s. number_owed s.core) c.self.view_is in
    let count : length c.in_ok-requests.requests.items ≡ len c.self.inside.slots.in_use = c.in_ok-requests.ensures.count in
    omega (arith, none, old, count)
