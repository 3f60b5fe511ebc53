use Rattle.std.proofs.Common.{◌∙◌, ap}
use Rattle.mqtt5_codec.specs.declared.codec.Codec.{Codec}
use Rattle.mqtt5_show.proofs.Showing.{shows_one_more}
use Rattle.mqtt5_show.proofs.capture.Capture.show_frames.Goals as goal

pub loop-preserved : goal.loop-preserved
loop-preserved g c = record {
  codec = c.in_ok-show_frame.ensures.codec ∙ c.loop.invariant.codec;
  digits = c.in_ok-show_frame.ensures.digits ∙ c.loop.invariant.digits;
  shown = shows_one_more g.S.Screen.shows _ _ _ _ _ _ _ _ c.loop.invariant.shown.0 c.in_ok-show_frame.field-0
      (ap (λ (x : Codec). x.max_incoming_size) c.loop.invariant.codec) c.if-branch.true c.loop.invariant.shown.1 c.in_ok-show_frame.ensures.shown;
}
