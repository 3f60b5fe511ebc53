use Rattle.std.proofs.Common.{arith, sym, ap, ◌∙◌}
use Rattle.std.specs.FinMap.{get, insert}
use Rattle.mqtt5_inflight.proofs.PlacesOf.{get_place, same_places, sets_insert}
use Rattle.mqtt5_inflight.proofs.pages.Pages.insert.Goals as goal

pub put-requires : goal.put-requires
put-requires c = sym (get_place c.self.inside.pages c.args.id (omega arith)) ∙ ap (λ m. get m c.args.id) c.self.view_is ∙ c.requires

pub returns-then-put-clause-ok : goal.returns-then-put-clause-ok
returns-then-put-clause-ok c =
    sets_insert c.self.inside.pages c.put.new.pages c.args.id c.args.place (omega arith) (c.put.ensures.put c.if-put.true)
    ∙ ap (λ m. insert m c.args.id c.args.place) c.self.view_is

pub returns-clause-ok : goal.returns-clause-ok
returns-clause-ok c =
    sets_insert c.put.new.pages c.add_page.new.pages c.args.id c.args.place (omega arith) c.in_ok-add_page.ensures.ok
    ∙ ap (λ m. insert m c.args.id c.args.place) (same_places c.self.inside.pages c.put.new.pages (c.put.ensures.same c.if-put.false) ∙ c.self.view_is)
