use Rattle.mqtt5_base.proofs.VarIntLemmas.{var_int_stands, var_int_shortest}
use Rattle.mqtt5_base.proofs.laws.shortest_form.Goals as goal

pub returns : goal.returns
returns c = record { stands = var_int_stands; shortest = var_int_shortest }
