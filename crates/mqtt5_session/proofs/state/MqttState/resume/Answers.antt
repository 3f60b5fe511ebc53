use Rattle.std.proofs.Common.{◌≡◌, Result, Ok, Err, refl, sym, ap, ◌∙◌, subst}
use Rattle.std.specs.Prelude.{OnErr, OnOk}
use Rattle.mqtt5_session.specs.Session.{Core}
use Rattle.mqtt5_session.specs.Resuming.{with_dup, Resumes}
use Rattle.mqtt5_session.specs.Ledger.{number_owed}
use Rattle.mqtt5_session.specs.Once.{kept_id}
use Rattle.mqtt5_session.proofs.Resume.{resumes}
use Rattle.mqtt5_session.proofs.Keeps.{owed_marked}
use Rattle.mqtt5_session.proofs.state.MqttState.resume.Goals as goal

-- what is the same of a core that is marked is kept
kept : {A E X : Type 0} (f : Core → X) → (r : Result A E) (old new : Core) → f (with_dup old) ≡ f old → OnOk r (new ≡ with_dup old) → OnErr r (new ≡ old) → f new ≡ f old
kept f (Ok x) old new same ok err = ap f ok ∙ same
kept f (Err e) old new same ok err = ap f err

pub returns-clause-sends : goal.returns-clause-sends
returns-clause-sends c = subst (Resumes c.send_again.result c.args.self.now c.send_again.new.self) (sym (resumes c.args.self.now c.args.at c.send_again.ensures.within)) c.send_again.ensures.sends

pub returns-clause-ledger : goal.returns-clause-ledger
returns-clause-ledger c = kept number_owed c.send_again.result c.args.self.now.core _ (owed_marked c.args.self.now.core) c.send_again.ensures.core c.send_again.ensures.kept

pub returns-clause-once : goal.returns-clause-once
returns-clause-once c = λ id. kept (kept_id id) c.send_again.result c.args.self.now.core _ refl c.send_again.ensures.core c.send_again.ensures.kept
