use Rattle.std.proofs.Common.{length}
use Rattle.mqtt5_scripts.proofs.printing.write_hex.Given as goal

abbrev pub decreases-loop-rest : goal.decreases-loop-rest
decreases-loop-rest g l = length l.rest
