use Rattle.std.proofs.Common.{◌+◌, ◌-◌, ◌==◌, cond, drop, slice_index_or, sym, ap, ◌∙◌, arith}
use Rattle.mqtt5_topic_index.specs.Marks.{mark_from, reach}
use Rattle.mqtt5_topic_index.proofs.Walking.{filter_ended, filter_past, filter_wild, filter_goes_on}
use Rattle.mqtt5_topic_index.proofs.marks.mark_of.Goals as goal

pub returns-then-i-topic_filter : goal.returns-then-i-topic_filter
returns-then-i-topic_filter c =
    c.mixed.ensures
    ∙ sym (filter_ended c.args.topic_filter.now c.loop-i.i c.loop-i.start c.loop-i.mark (omega (arith, c.loop-i-test.true, c.reach-i-end.ensures)) c.if-i-topic_filter.true)
    ∙ c.loop-i.invariant

pub returns-then-is_wild : goal.returns-then-is_wild
returns-then-is_wild c =
    sym (filter_wild c.args.topic_filter.now c.loop-i.i c.loop-i.start c.loop-i.mark 0 (omega (arith, c.loop-i-test.true, c.reach-i-end.ensures)) c.if-i-topic_filter.false (sym c.is_wild.ensures ∙ c.if-is_wild.true))
    ∙ c.loop-i.invariant

pub loop-i-preserved : goal.loop-i-preserved
loop-i-preserved c =
    let f = c.args.topic_filter.now in
    let i = c.loop-i.i in
    let s = c.loop-i.start in
    let b = slice_index_or f i 0 in
    let start = c.start_behind-start.ensures ∙ ap (λ m. cond (b == 47) m s) c.mixed-mark.ensures in
    (λ j. mark_from (reach - (i + 1)) (start j) (c.mixed-mark.ensures j) (drop (i + 1) f))
    ∙ sym (filter_goes_on f i s c.loop-i.mark 0 (omega (arith, c.loop-i-test.true, c.reach-i-end.ensures)) c.if-i-topic_filter.false (sym c.is_wild.ensures ∙ c.if-is_wild.false))
    ∙ c.loop-i.invariant

pub returns : goal.returns
returns c = sym (filter_past c.args.topic_filter.now c.loop-i.i c.loop-i.start c.loop-i.mark (omega (arith, c.loop-i-test.false, c.reach-i-end.ensures))) ∙ c.loop-i.invariant
