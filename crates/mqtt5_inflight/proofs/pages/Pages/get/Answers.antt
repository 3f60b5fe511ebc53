use Rattle.std.proofs.Common.{arith, sym, ap, ◌∙◌, ◌%◌}
use Rattle.std.specs.FinMap.{get}
use Rattle.mqtt5_inflight.specs.Paged.{place_in}
use Rattle.mqtt5_inflight.proofs.PlacesOf.{get_place}
use Rattle.mqtt5_inflight.proofs.pages.Pages.get.Goals as goal

pub returns-in_err-page : goal.returns-in_err-page
returns-in_err-page c =
    c.from_residual.ensures ∙ ap (λ o. place_in o (c.args.id % 64)) c.in_err-page.ensures.value
    ∙ sym (get_place c.self.inside.pages c.args.id (omega arith)) ∙ ap (λ m. get m c.args.id) c.self.view_is

pub returns : goal.returns
returns c =
    c.get-2.ensures ∙ ap (λ o. place_in o (c.args.id % 64)) c.in_ok-page.ensures.value
    ∙ sym (get_place c.self.inside.pages c.args.id (omega arith)) ∙ ap (λ m. get m c.args.id) c.self.view_is
