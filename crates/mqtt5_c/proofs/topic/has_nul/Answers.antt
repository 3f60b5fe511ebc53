use Rattle.std.proofs.Common.{arith}
use Rattle.std.proofs.lemmas.Str.Pattern.{contains_char}
use Rattle.mqtt5_base.proofs.Wildcards.{byte_is}
use Rattle.mqtt5_c.proofs.topic.has_nul.Goals as goal

pub returns : goal.returns
returns c =
    let p = contains_char 0 c.args.text.now c.contains.result c.contains.ensures.cases (omega arith) in
    byte_is 0 c.args.text.now c.contains.result p.0 p.1
