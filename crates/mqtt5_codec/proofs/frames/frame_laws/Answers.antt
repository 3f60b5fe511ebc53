use Rattle.mqtt5_codec.proofs.FrameLaws.{frames}
use Rattle.mqtt5_codec.proofs.frames.frame_laws.Goals as goal

pub returns : goal.returns
returns c = frames
