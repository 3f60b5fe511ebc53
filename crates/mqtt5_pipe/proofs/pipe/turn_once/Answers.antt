use Rattle.std.proofs.Common.{[], ◌∷◌, Result, refl, sym, subst, ◌∙◌}
use Rattle.std.proofs.lemmas.Result.{on_ok_weaker, IfErr-weaker, err_from_is_err_and}
use Rattle.std.proofs.KnownBytes.{Appends-nil, Consumes-nil, Consumes-kept}
use Rattle.mqtt5_drive.specs.Run.{piece}
use Rattle.mqtt5_client.specs.declared.client.Client.{Client}
use Rattle.mqtt5_client.specs.Client.{Fed}
use Rattle.mqtt5_pipe.specs.declared.error.PipeError.{PipeError}
use Rattle.mqtt5_pipe.specs.Pipe.{Leaves}
use Rattle.mqtt5_pipe.proofs.Joined.{at_start}
use Rattle.mqtt5_pipe.proofs.Written.{wrote}
use Rattle.mqtt5_pipe.proofs.pipe.turn_once.Goals as goal

pub returns-in-Err-clause-carried : goal.returns-in-Err-clause-carried
returns-in-Err-clause-carried g c =
    ([], [], Consumes-kept _ _ _ [] (Consumes-nil _) c.in-Err.ensures.err, Appends-nil _, at_start c.args.client.now c.args.at _ c.in-Err.ensures.kept c.requires.ready, tt)

pub returns-in_err-join_faults-clause-carried : goal.returns-in_err-join_faults-clause-carried
returns-in_err-join_faults-clause-carried g c =
    let (came, consumed, grown, count) = c.in-Ok.ensures.bytes in
    let (sent, appended, split) = c.write_out-written.ensures.written in
    let old = c.args.client.now in
    let mid : Client = c.take_input-taken.new.self in
    let new : Client = record mid { output = c.write_out-written.new.output } in
    let fed : Fed old came (record old { input = c.read_input.new.input }) = record { ready = c.requires.ready; grown = grown; same = refl } in
    let p = err_from_is_err_and c.from_residual.result c.from_residual.ensures.1 in (
      came,
      sent,
      consumed,
      appended,
      rw (p.1, p.2) (subst (λ (r : Result Unit PipeError). Leaves r old (piece c.args.at came ∷ []) sent new) (sym c.join_faults.ensures ∙ c.in_err-join_faults.was)
          (wrote old mid new (piece c.args.at came ∷ []) sent refl refl refl refl split c.take_input-taken.result c.write_out-written.result (on_ok_weaker c.take_input-taken.result (λ h. h old came fed) c.take_input-taken.ensures.ok)
          (IfErr-weaker c.take_input-taken.result _ _ (λ e h. h old came fed) c.take_input-taken.ensures.err) c.write_out-written.ensures.whole)),
      rw p.1 tt,
    )

pub returns-clause-carried : goal.returns-clause-carried
returns-clause-carried g c =
    let (came, consumed, grown, count) = c.in-Ok.ensures.bytes in
    let (sent, appended, split) = c.write_out-written.ensures.written in
    let old = c.args.client.now in
    let mid : Client = c.take_input-taken.new.self in
    let new : Client = record mid { output = c.write_out-written.new.output } in
    let fed : Fed old came (record old { input = c.read_input.new.input }) = record { ready = c.requires.ready; grown = grown; same = refl } in (
      came,
      sent,
      consumed,
      appended,
      subst (λ (r : Result Unit PipeError). Leaves r old (piece c.args.at came ∷ []) sent new) (sym c.join_faults.ensures ∙ c.in_ok-join_faults.was)
          (wrote old mid new (piece c.args.at came ∷ []) sent refl refl refl refl split c.take_input-taken.result c.write_out-written.result (on_ok_weaker c.take_input-taken.result (λ h. h old came fed) c.take_input-taken.ensures.ok)
          (IfErr-weaker c.take_input-taken.result _ _ (λ e h. h old came fed) c.take_input-taken.ensures.err) c.write_out-written.ensures.whole),
      count,
    )
