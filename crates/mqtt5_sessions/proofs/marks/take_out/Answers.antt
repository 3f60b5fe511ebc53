use Rattle.std.proofs.Common.{◌≡◌, true, false, inl, inr, sym, ap, ◌∙◌, subst}
use Rattle.mqtt5_base.specs.Grammar.{is_among}
use Rattle.mqtt5_topic_index.specs.Index.{Stands}
use Rattle.mqtt5_sessions.proofs.Indexed.{next_mark, mark_at}
use Rattle.mqtt5_sessions.proofs.marks.take_out.Goals as goal

pub loop-mark-preserved : goal.loop-mark-preserved
loop-mark-preserved c =
    let ms = c.args.marks.now in
    let i = c.loop-mark.mark-index in
    let n = c.args.client in
    let within = c.loop-mark-test.true in
    record {
      gone =
          λ m h stands.
          elim (next_mark ms i 0 m within (c.loop-mark.invariant.gone m h (c.remove.ensures.only m n stands))) [
            | inl e ↦ absurd (c.remove.ensures.gone (subst (λ m. Stands c.remove.new.self m n) e stands))
            | inr rest ↦ rest
          ];
      others =
          λ m k other stood.
          c.remove.ensures.others m k
          (λ at is. (let no : false ≡ true = sym (other is) ∙ ap (is_among ms) at ∙ mark_at ms i 0 within in cc))
          (c.loop-mark.invariant.others m k other stood);
    }
