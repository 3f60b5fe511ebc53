use Rattle.std.proofs.Common.{List, false, refl, ap, ◌∙◌, arith, sym, subst}
use Rattle.std.specs.Option.{option_to_list}
use Rattle.mqtt5_publish.specs.declared.publish.Publish.{Publish}
use Rattle.mqtt5_network.specs.Retained.{retained_after}
use Rattle.mqtt5_network.specs.Place.{message_of, lost_message, waiting}
use Rattle.mqtt5_sessions.specs.Sessions.{ClientState, of_client, loses}
use Rattle.mqtt5_sessions.specs.Coming.{coming_of_will}
use Rattle.mqtt5_sessions.proofs.Delivered.{settled, seen_past, seen_will, lost_of}
use Rattle.mqtt5_sessions.specs.Indexed.{IsIndexed}
use Rattle.mqtt5_sessions.specs.Waiting.{waits}
use Rattle.mqtt5_sessions.proofs.Noted.{followed_kept, away_waits}
use Rattle.mqtt5_sessions.proofs.sessions.Sessions.lose.Goals as goal

pub returns-then-client-len-clause-ok : goal.returns-then-client-len-clause-ok
returns-then-client-len-clause-ok c =
    let i = c.args.client in
    let cs : List ClientState = c.deliver_all.new.clients.items in
    let kept : List Publish = c.self.inside.retained.items in
    let none = c.in_ok-deliver_all.ensures.none in
    let seen = settled c.self.inside.coming.items c.deliver_all.new.coming.items c.self.inside.clients.items cs kept c.args.self.now none c.in_ok-deliver_all.ensures.same c.self.view_is in
    seen_past i (λ (x : ClientState). record x { here = false; will = waiting x.will }) (λ (x : ClientState). lost_message x.will) cs kept c.deliver_all.new.coming.items none (omega (arith, c.if-client-len.true, c.len.ensures)) ∙ ap (λ s. loses i s) seen

pub returns-clause-ok : goal.returns-clause-ok
returns-clause-ok c =
    let i = c.args.client in
    let cs : List ClientState = c.deliver_all.new.clients.items in
    let kept : List Publish = c.self.inside.retained.items in
    let none = c.in_ok-deliver_all.ensures.none in
    let seen = settled c.self.inside.coming.items c.deliver_all.new.coming.items c.self.inside.clients.items cs kept c.args.self.now none c.in_ok-deliver_all.ensures.same c.self.view_is in
    let x : ClientState = c.index_mut.result.now in
    seen_will i (λ (x : ClientState). record x { here = false; will = waiting x.will }) (λ (x : ClientState). lost_message x.will) cs kept x c.lose-handed.new.self c.lose-handed.result c.in_ok-made.made.items c.hand_on.new.coming.items c.hand_on.new.retained.items
    (omega (arith, c.if-client-len.false, c.len.ensures)) c.index_mut.ensures.value c.lose-handed.ensures.left c.lose-handed.ensures.published (λ x. refl)
    (c.in_ok-made.ensures ∙ ap (λ cs. coming_of_will i cs (of_client i (λ (x : ClientState). message_of x.will) cs)) c.as_slice.ensures.value)
    (λ p e. lost_of x.will p e)
    c.hand_on.ensures.coming
    (c.hand_on.ensures.retained ∙ ap (λ ps. retained_after ps (option_to_list c.lose-handed.result)) c.reserve.ensures.items)
    ∙ ap (λ s. loses i s) seen

pub invariant_of-self : goal.invariant_of-self
invariant_of-self c = c.deliver_all.ensures.followed c.self.inside.index c.self.invariant

pub invariant_of-self-then-client-len : goal.invariant_of-self-then-client-len
invariant_of-self-then-client-len c = c.deliver_all.ensures.followed c.self.inside.index c.self.invariant

pub of_will-requires-clause-indexed : goal.of_will-requires-clause-indexed
of_will-requires-clause-indexed c = subst (IsIndexed c.self.inside.index) (sym c.as_slice.ensures.value) (c.deliver_all.ensures.followed c.self.inside.index c.self.invariant).0

pub invariant_of-self-in_err-made : goal.invariant_of-self-in_err-made
invariant_of-self-in_err-made c = c.deliver_all.ensures.followed c.self.inside.index c.self.invariant

pub invariant_of-self-in_err-reserve : goal.invariant_of-self-in_err-reserve
invariant_of-self-in_err-reserve c = c.deliver_all.ensures.followed c.self.inside.index c.self.invariant

pub invariant_of-self-2 : goal.invariant_of-self-2
invariant_of-self-2 c =
    let followed = c.deliver_all.ensures.followed c.self.inside.index c.self.invariant in
    followed_kept c.self.inside.index c.deliver_all.new.noted c.deliver_all.new.clients.items followed c.args.client c.index_mut.result.now c.lose-handed.new.self (omega (arith, c.if-client-len.false, c.len.ensures)) c.index_mut.ensures.value
    (ap (λ (x : ClientState). x.kept.subscriptions) c.lose-handed.ensures.left) (away_waits c.index_mut.result.now c.lose-handed.new.self (ap waits c.lose-handed.ensures.left))
