use Rattle.mqtt5_world.proofs.Alike.{runs_alike}
use Rattle.mqtt5_world.proofs.twins.twin.Goals as goal

pub returns-clause-alike : goal.returns-clause-alike
returns-clause-alike c =
    runs_alike c.args.before.now c.args.after.now c.args.limit c.args.manual c.in_ok-state.state c.both-twin.result c.in_ok-state.ensures.ok c.both-twin.ensures.plain c.both-twin.ensures.resumed
