use Rattle.std.proofs.Common.{[], ◌∷◌, inl, inr, refl, sym}
use Rattle.std.proofs.lemmas.Result.{err_from_is_err_and}
use Rattle.mqtt5_talk.specs.Conversation.{Opens, Begins, Puts, Writes}
use Rattle.mqtt5_talk.proofs.Talking.{then_talked, silent, no_talk, on_ok_also}
use Rattle.mqtt5_talk.proofs.opening.open.Goals as goal

pub returns-then-not-is_empty-clause-talked : goal.returns-then-not-is_empty-clause-talked
returns-then-not-is_empty-clause-talked g c = ([], no_talk _ _ _, inl refl, tt)

pub returns-in_err-write-clause-talked : goal.returns-in_err-write-clause-talked
returns-in_err-write-clause-talked g c =
    let p = err_from_is_err_and c.from_residual.result c.from_residual.ensures.1 in
    let w = c.in_err-write.ensures in ([], silent _ _ _ _ _ (Writes [] [] [] [] _ _ Begins (sym w.0) refl), inl refl, rw p.1 tt)

pub returns-clause-talked : goal.returns-clause-talked
returns-clause-talked g c =
    let (bytes, written, answer, grown) = c.in_ok-write.ensures in (
      Opens c.args.connect.now ∷ [],
      then_talked _ _ _ _ _ _ _ _ _ _ [] (silent _ _ _ _ _ (Puts [] [] [] bytes _ _ c.args.connect.now Begins written grown refl)) c.start_in_words.ensures.talked,
      inr refl,
      on_ok_also c.start_in_words.result _ refl,
    )
