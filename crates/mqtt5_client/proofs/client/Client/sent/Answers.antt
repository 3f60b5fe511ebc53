use Rattle.std.proofs.Common.{refl}
use Rattle.std.proofs.lemmas.List.{drop_min}
use Rattle.mqtt5_client.proofs.Joined.{took_runs}
use Rattle.mqtt5_client.proofs.client.Client.sent.Goals as goal

pub returns-clause-run : goal.returns-clause-run
returns-clause-run c = λ ready. took_runs c.args.self.now _ c.args.count refl refl refl (rw (c.advance.ensures.items, c.min.ensures, c.len.ensures.value) (drop_min c.args.count c.args.self.now.output.items)) refl ready
