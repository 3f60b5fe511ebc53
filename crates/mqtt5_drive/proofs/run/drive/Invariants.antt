use Rattle.std.proofs.Common.{◌≡◌, drop}
use Rattle.mqtt5_base.specs.Front.{NeedsMore}
use Rattle.mqtt5_base.specs.FrontAt.{front}
use Rattle.mqtt5_drive.specs.Ways.{LeadsTo}
use Rattle.mqtt5_drive.specs.Run.{run, turns}
use Rattle.mqtt5_drive.proofs.run.drive.Given as goal

abbrev pub invariant-loop-step : goal.invariant-loop-step
invariant-loop-step l = record {
  codec : l.codec ≡ l.fn.codec;
  more : NeedsMore (front l.fn.codec.max_incoming_size l.input.items);
  leads : LeadsTo l.fn.state l.fn.output.items (run l.fn.codec (turns l.steps) l.fn.state l.fn.input.items) l.state l.output.items (run l.fn.codec (turns (drop l.step-index l.steps)) l.state l.input.items);
}
