use Rattle.std.proofs.Common.{◌≡◌, ◌∙◌, ap, ◌++◌, refl, inl, List, ℕ}
use Rattle.std.proofs.lemmas.Result.{on_ok_weaker, IfErr-weaker}
use Rattle.mqtt5_drive.proofs.Ways.{leads_same, leads_on, stops_on, passes_here}
use Rattle.mqtt5_drive.proofs.Settles.{fronts_of}
use Rattle.mqtt5_drive.proofs.Taking.{extends, asked_ok, asked_err}
use Rattle.mqtt5_drive.proofs.run.take_step.Goals as goal

pub returns-in_default-clause-err : goal.returns-in_default-clause-err
returns-in_default-clause-err c = λ rest. inl (refl, passes_here _ _ _)

pub returns-in-Ok-clause-ok : goal.returns-in-Ok-clause-ok
returns-in-Ok-clause-ok c =
    let grown : c.extend_from_slice.new.self.items ≡ c.args.input.now.items ++ c.in-Bytes.piece = c.in-Ok.ensures.ok ∙ ap (λ (x : List ℕ). c.args.input.now.items ++ x) c.as_slice.ensures in
    rw c.in-Bytes.is (on_ok_weaker c.take_held.result (λ h rest. leads_on (leads_same _ _ _ _ (extends (fronts_of c.front_laws.ensures.found c.front_laws.ensures.stays) _ _ rest _ _ _ _ c.requires grown)) (h rest)) c.take_held.ensures.ok)

pub returns-in-Ok-clause-err : goal.returns-in-Ok-clause-err
returns-in-Ok-clause-err c =
    let grown : c.extend_from_slice.new.self.items ≡ c.args.input.now.items ++ c.in-Bytes.piece = c.in-Ok.ensures.ok ∙ ap (λ (x : List ℕ). c.args.input.now.items ++ x) c.as_slice.ensures in
    rw c.in-Bytes.is (IfErr-weaker c.take_held.result _ _ (λ e h rest. stops_on e (leads_same _ _ _ _ (extends (fronts_of c.front_laws.ensures.found c.front_laws.ensures.stays) _ _ rest _ _ _ _ c.requires grown)) (h rest)) c.take_held.ensures.err)

pub returns-in-Request-clause-ok : goal.returns-in-Request-clause-ok
returns-in-Request-clause-ok c = rw c.in-Request.is (asked_ok c.send_request.result _ _ _ _ _ _ _ _ c.send_request.ensures)

pub returns-in-Request-clause-err : goal.returns-in-Request-clause-err
returns-in-Request-clause-err c = rw c.in-Request.is (asked_err c.send_request.result _ _ _ _ c.args.input.now.items _ _ _ c.send_request.ensures)
