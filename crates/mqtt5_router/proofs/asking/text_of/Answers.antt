use Rattle.std.proofs.Common.{◌≡◌, IfOk, ◌∙◌, subst}
use Rattle.std.specs.Str.{is_utf8}
use Rattle.std.proofs.lemmas.Bool.{false_from_ne_true}
use Rattle.std.proofs.lemmas.Str.{IsUtf8-from_is_utf8}
use Rattle.mqtt5_base.specs.Texts.{Utf8, text_of}
use Rattle.mqtt5_router.proofs.Made.{text_none}
use Rattle.mqtt5_router.proofs.asking.text_of.Goals as goal

pub returns-in-Ok : goal.returns-in-Ok
returns-in-Ok c = subst (λ bs. IfOk c.made_text.result (λ (t : Utf8). t ≡ text_of bs)) c.in-Ok.ensures.cases.0 c.made_text.ensures

pub returns-in-Err : goal.returns-in-Err
returns-in-Err c =
    let bytes = c.args.bytes.now in
    let none = text_none bytes (false_from_ne_true (is_utf8 bytes) (λ h. c.in-Err.ensures.cases.0 (IsUtf8-from_is_utf8 bytes h))) in
    subst (λ (u : Utf8). IfOk c.made_text-in-Err.result (λ (t : Utf8). t ≡ u)) none c.made_text-in-Err.ensures
