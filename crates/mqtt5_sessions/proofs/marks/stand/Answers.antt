use Rattle.std.proofs.Common.{inl, inr, sym, subst}
use Rattle.mqtt5_topic_index.specs.Index.{Stands}
use Rattle.mqtt5_sessions.proofs.Indexed.{next_mark}
use Rattle.mqtt5_sessions.proofs.marks.stand.Goals as goal

pub loop-mark-preserved : goal.loop-mark-preserved
loop-mark-preserved c =
    let i = c.loop-mark.mark-index in
    let n = c.args.client in
    record {
      others = λ m n there. c.insert.ensures.others m n (c.loop-mark.invariant.others m n there);
      there =
          λ m h.
          elim (c.loop-mark.invariant.there m h) [
            | inl stood ↦ inl (c.insert.ensures.others m n stood)
            | inr left ↦
                elim (next_mark c.args.marks.now i 0 m c.loop-mark-test.true left) [
                  | inl e ↦ inl (subst (λ m. Stands c.insert.new.self m n) (sym e) c.in_ok-insert.ensures.there)
                  | inr rest ↦ inr rest
                ]
          ];
    }
