-- The properties of an ack are what is made again of their values, and the values come back.
use Rattle.std.proofs.Common.{◌≡◌, ℕ, List, [], ◌∷◌}
use Rattle.mqtt5_base.specs.declared.ack_properties.AckProperties.{AckProperties}
use Rattle.mqtt5_base.specs.AckSets.{ack_table, ack_found}
use Rattle.mqtt5_base.specs.Grammar.{Atom}
use Rattle.mqtt5_base.specs.Fields.{props}
use Rattle.mqtt5_base.specs.FromValues.{ack_set}
use Rattle.mqtt5_base.proofs.ViewsBack.{texts_back, pairs_back}
use Rattle.mqtt5_base.proofs.SetShapes.{ComeBack, texts_again, pairs_again}

-- The properties are those of their values.
pub ack_set_back : (s : AckProperties) → ack_set (ack_found s) ≡ s
ack_set_back s = λ i. record { reason_string = texts_back s.reason_string i; user_properties = pairs_back s.user_properties i }

-- Their values come back.
pub ack_set_again : (items : List (ℕ × Atom)) → ComeBack items → ack_found (ack_set (props ack_table items)) ≡ props ack_table items
ack_set_again items l = λ i. texts_again _ (l 31) i ∷ pairs_again _ (l 38) i ∷ []
