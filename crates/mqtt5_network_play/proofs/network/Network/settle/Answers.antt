use Rattle.mqtt5_network_play.proofs.Stepped.{reached_next, one_step, step_lowers}
use Rattle.mqtt5_network_play.proofs.network.Network.settle.Goals as goal

pub loop-event-smaller : goal.loop-event-smaller
loop-event-smaller c =
    let reached = c.loop-event.invariant.reached in
    step_lowers c.loop-event.self c.play_on.new.self c.in-Some.event reached c.in-Some.ensures.step (c.in-Some.ensures.moves reached) c.in_ok-from.ensures.ok

pub loop-event-preserved : goal.loop-event-preserved
loop-event-preserved c = record {
  reached = reached_next c.loop-event.self c.play_on.new.self c.in-Some.event c.loop-event.invariant.reached c.in_ok-from.ensures.ok;
  steps = one_step c.args.self.now c.loop-event.self c.play_on.new.self c.in-Some.event c.loop-event.invariant.steps c.in-Some.ensures.step c.in_ok-from.ensures.ok;
  before = c.in_ok-from.ensures.before;
}
