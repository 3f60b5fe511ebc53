use Rattle.std.proofs.Common.{ap, sym, ◌∙◌, arith}
use Rattle.std.specs.FinMap.{get-empty}
use Rattle.std.specs.Ordering.{nat_cmp}
use Rattle.std.proofs.lemmas.List.{get_or_past}
use Rattle.mqtt5_broker.specs.Connection.{closed, or_no_byte, learned_topic}
use Rattle.mqtt5_broker.proofs.connections.topic_at.Goals as goal

pub returns-then-connection-connections : goal.returns-then-connection-connections
returns-then-connection-connections c =
    let past = get_or_past c.args.connections.now c.args.connection closed (omega (arith, c.if-connection-connections.true)) in
    c.new.ensures ∙ sym (ap (learned_topic c.args.alias) past ∙ ap or_no_byte (get-empty nat_cmp c.args.alias))
