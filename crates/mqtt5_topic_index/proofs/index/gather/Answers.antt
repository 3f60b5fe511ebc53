use Rattle.std.proofs.Common.{inr, ap, ◌∙◌, nat_cmp}
use Rattle.std.specs.BTreeSet.{keys_between}
use Rattle.std.specs.declared.ops.Bound.TheVariants.{Included}
use Rattle.mqtt5_base.specs.Grammar.{is_among}
use Rattle.mqtt5_topic_index.specs.Index.{entry}
use Rattle.mqtt5_topic_index.proofs.Ranges.{in_range}
use Rattle.mqtt5_topic_index.proofs.index.gather.Goals as goal

pub loop-one-init : goal.loop-one-init
loop-one-init c =
    let es = c.args.entries.now in
    let m = c.args.mark in
    let is =
    c.into_iter-one-iterator.ensures.into_iter_gives
    ∙ c.range-one-items.ensures.between c.new.ensures.exhausted
    ∙ (λ j. keys_between nat_cmp (Included ((c.new.ensures.start ∙ c.entry.ensures) j)) (Included ((c.new.ensures.end ∙ c.entry-2.ensures) j)) es) in
    record {
      kept = λ n there. there;
      rest = λ n small there. inr (ap (λ r. is_among r (entry m n)) is ∙ in_range es m n small there);
    }
