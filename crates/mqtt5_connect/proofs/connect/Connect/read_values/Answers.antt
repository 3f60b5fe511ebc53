use Rattle.std.proofs.Common.{rules, ◌≡◌, eqb, true, drop, Ok}
use Rattle.mqtt5_connect.specs.Reading.{name_at}
use Rattle.mqtt5_connect.proofs.Starts.{connect_named}
use Rattle.mqtt5_connect.proofs.connect.Connect.read_values.Goals as goal

pub returns : goal.returns
returns c =
    let five : eqb c.in_ok-level.level 5 ≡ true = search rules in
    let start : name_at (drop c.args.header.fixed_header_len c.args.bytes) ≡ Ok (true, c.takes_name.new.stream) = search rules in
    let rest = connect_named c.args.header.byte1 c.args.header.remaining_len (drop c.args.header.fixed_header_len c.args.bytes) _ _ _ _ _ start c.in_ok-level.ensures.read five c.in_ok-flags.ensures.read in
    rw rest c.read_after_flags.ensures
