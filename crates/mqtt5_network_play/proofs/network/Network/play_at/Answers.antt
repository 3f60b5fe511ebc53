use Rattle.std.proofs.Common.{List, ◌++◌, slice_index_or, ap, ◌∙◌}
use Rattle.mqtt5_publish.specs.declared.publish.Publish.{Publish}
use Rattle.mqtt5_network.specs.Place.{Place, gets_at, copies_in}
use Rattle.mqtt5_network.specs.Network.{Network, changed, routes}
use Rattle.mqtt5_network_play.proofs.Placed.{happens_at}
use Rattle.mqtt5_network_play.proofs.network.Network.play_at.Goals as goal

pub returns-clause-ok : goal.returns-clause-ok
returns-clause-ok c =
    let i = c.args.client in
    let e = c.args.event.now in
    let p : Place = c.index.result.now in
    let copies : List Publish = c.in_ok-copies.copies.items in
    let new : List Publish = c.in_ok-new.new.items in
    let put = c.self-2.view_is ∙ c.in_ok-put.ensures ∙ ap (λ (n : Network). record n { places = changed i (gets_at copies) n.places }) c.in_ok-new.ensures.changed in
    let places =
    c.in_ok-route.ensures
    ∙ ap (λ (xs : List Publish). routes i xs c.self-2.inside.places.items) c.as_slice-2.ensures.value
    ∙ ap (λ (n : Network). routes i new n.places) put in
    let ended = ap (λ (n : Network). n.ended) put in
    let handed = c.in_ok-append.ensures ∙ ap (λ (n : Network). n.handed ++ new) put in
    (λ j. record { places = places j; ended = ended j; handed = handed j })
    ∙ happens_at c.args.self.now i e p copies new c.requires
    (c.index.ensures ∙ ap (λ (n : Network). slice_index_or n.places i p) c.self.view_is)
    (c.in_ok-copies.ensures ∙ ap (λ (xs : List Publish). copies_in xs p e) c.as_slice.ensures.value ∙ ap (λ (n : Network). copies_in n.handed p e) c.self.view_is)
    c.in_ok-new.ensures.new
