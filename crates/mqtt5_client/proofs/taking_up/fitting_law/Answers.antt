use Rattle.mqtt5_client.proofs.TakingUp.{fitting_resumes}
use Rattle.mqtt5_client.proofs.taking_up.fitting_law.Goals as goal

pub returns : goal.returns
returns c = fitting_resumes
