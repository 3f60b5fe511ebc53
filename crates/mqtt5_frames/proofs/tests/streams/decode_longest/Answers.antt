use Rattle.mqtt5_frames.proofs.Longest.{longest_awaited, none_reserves}
use Rattle.mqtt5_frames.proofs.tests.streams.decode_longest.Goals as goal

-- more bytes are needed, whatever is refused of memory
pub returns-clause-answer : goal.returns-clause-answer
returns-clause-answer c = longest_awaited _ _ _ c.requires c.decode.ensures.decodes

pub returns-clause-unchanged : goal.returns-clause-unchanged
returns-clause-unchanged c = none_reserves _ _ _ (longest_awaited _ _ _ c.requires c.decode.ensures.decodes) c.decode.ensures.reserves
