use Rattle.std.proofs.Common.{◌≡◌, true, inl, inr, [], ◌∷◌, sym, subst, arith, ◌-◌, ◌+◌, drop}
use Rattle.mqtt5_base.specs.Grammar.{is_among}
use Rattle.mqtt5_topic_index.specs.Marks.{mark_of, reach}
use Rattle.mqtt5_topic_index.specs.Gathering.{marks_from}
use Rattle.mqtt5_topic_index.proofs.Marking.{marked}
use Rattle.mqtt5_topic_index.proofs.Walking.{topic_ended, topic_past, topic_goes_on}
use Rattle.mqtt5_topic_index.proofs.index.TopicIndex.find.Goals as goal

pub returns-then-i-topic : goal.returns-then-i-topic
returns-then-i-topic c =
    let t = c.args.topic.now in
    let i = c.loop-i.i in
    λ f n hits there. elim (c.loop-i.invariant (mark_of f) n there.0 (marked t f hits) there.1) [
      | inl found ↦ c.in_ok-gather-2.ensures.kept n found
      | inr left ↦
          let last = topic_ended t i c.loop-i.mark (mark_of f) (omega (arith, c.loop-i-test.true, c.reach-i-end.ensures)) c.if-i-topic.true left in
          c.in_ok-gather-2.ensures.all (mark_of f) n there.0 (subst (λ m. is_among (m ∷ []) (mark_of f) ≡ true) (sym c.mixed.ensures) last) there.1
    ]

pub loop-i-preserved : goal.loop-i-preserved
loop-i-preserved c =
    let t = c.args.topic.now in
    let i = c.loop-i.i in
    λ m n small marked there. elim (c.loop-i.invariant m n small marked there) [
      | inl found ↦ inl (c.in_ok-mark.ensures.kept n found)
      | inr left ↦ elim (topic_goes_on t i c.loop-i.mark 0 m (omega (arith, c.loop-i-test.true, c.reach-i-end.ensures)) c.if-i-topic.false left) [
        | inl now ↦ inl (c.in_ok-mark.ensures.all m n small now there)
        | inr later ↦ inr (subst (λ k. is_among (marks_from (reach - (i + 1)) k (drop (i + 1) t)) m ≡ true) (sym c.in_ok-mark.ensures.mark) later)
      ]
    ]

pub returns : goal.returns
returns c =
    let t = c.args.topic.now in
    let i = c.loop-i.i in
    λ f n hits there. elim (c.loop-i.invariant (mark_of f) n there.0 (marked t f hits) there.1) [
      | inl found ↦ found
      | inr left ↦ absurd (topic_past t i c.loop-i.mark (mark_of f) (omega (arith, c.loop-i-test.false, c.reach-i-end.ensures)) left)
    ]
