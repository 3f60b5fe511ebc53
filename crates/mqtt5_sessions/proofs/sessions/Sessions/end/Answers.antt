use Rattle.std.proofs.Common.{◌≡◌, ◌<◌, length, List, [], false, refl, sym, ap, ◌∙◌, arith, subst}
use Rattle.std.specs.Option.{option_to_list}
use Rattle.std.specs.Prelude.{None}
use Rattle.std.proofs.Math.ListN.{set}
use Rattle.mqtt5_publish.specs.declared.publish.Publish.{Publish}
use Rattle.mqtt5_network.specs.Retained.{retained_after}
use Rattle.mqtt5_network.specs.Place.{message_of}
use Rattle.mqtt5_router.specs.Kept.{Kept, new_kept}
use Rattle.mqtt5_sessions.specs.Sessions.{ClientState, of_client, ends}
use Rattle.mqtt5_sessions.specs.Coming.{delivered, coming_of_will}
use Rattle.mqtt5_sessions.proofs.Delivered.{settled, seen_past, seen_will, seen_renewed, set_below, at_set, at_same, set_again}
use Rattle.mqtt5_network.specs.declared.subscription.Subscription.{Subscription}
use Rattle.mqtt5_sessions.specs.Indexed.{IsIndexed}
use Rattle.mqtt5_sessions.specs.Waiting.{waits}
use Rattle.mqtt5_sessions.specs.Followed.{IsFollowed}
use Rattle.mqtt5_sessions.proofs.Indexed.{indexed_none}
use Rattle.mqtt5_sessions.proofs.Noted.{followed_none, nothing_waits}
use Rattle.mqtt5_sessions.proofs.sessions.Sessions.end.Goals as goal

-- its session is renewed, and then it is away without a will
abbrev renewed : ClientState → ClientState
renewed x = record x { kept = new_kept x.kept.sender.core.limit [] }

abbrev away : ClientState → ClientState
away x = record x { here = false; will = None }

abbrev changed : ClientState → ClientState
changed x = record { kept = new_kept x.kept.sender.core.limit []; here = false; will = None }

abbrev message : ClientState → List Publish
message x = message_of x.will

pub returns-then-client-len-clause-ok : goal.returns-then-client-len-clause-ok
returns-then-client-len-clause-ok c =
    let i = c.args.client in
    let cs : List ClientState = c.deliver_all.new.clients.items in
    let kept : List Publish = c.self.inside.retained.items in
    let none = c.in_ok-deliver_all.ensures.none in
    let seen = settled c.self.inside.coming.items c.deliver_all.new.coming.items c.self.inside.clients.items cs kept c.args.self.now none c.in_ok-deliver_all.ensures.same c.self.view_is in
    seen_past i changed message cs kept c.deliver_all.new.coming.items none (omega (arith, c.if-client-len.true, c.len.ensures)) ∙ ap (λ s. ends i s) seen

pub returns-in-Ok-clause-ok : goal.returns-in-Ok-clause-ok
returns-in-Ok-clause-ok c =
    let i = c.args.client in
    let cs : List ClientState = c.deliver_all.new.clients.items in
    let kept : List Publish = c.self.inside.retained.items in
    let none = c.in_ok-deliver_all.ensures.none in
    let seen = settled c.self.inside.coming.items c.deliver_all.new.coming.items c.self.inside.clients.items cs kept c.args.self.now none c.in_ok-deliver_all.ensures.same c.self.view_is in
    let below : i < length cs = omega (arith, c.if-client-len.false, c.len.ensures) in
    let x : ClientState = c.index_mut.result.now in
    let d : ClientState = c.swap-kept.new.self in
    let ds : List ClientState = set cs i d in
    let y : ClientState = c.index_mut-in-Ok.result.now in
    let new = c.swap-kept.ensures.now ∙ ap (λ k. record x { kept = k }) (c.in_ok-renewed.ensures.ok ∙ ap (λ (y : ClientState). new_kept y.kept.sender.core.limit []) (at_same i cs x c.index.result.now below c.index_mut.ensures.value c.index.ensures)) in
    seen_will i away message ds kept y c.end-handed.new.self c.end-handed.result c.in-Ok.made.items c.hand_on.new.coming.items c.hand_on.new.retained.items
    (set_below i cs x d below) c.index_mut-in-Ok.ensures.value c.end-handed.ensures.left c.end-handed.ensures.published (λ x. refl)
    (c.in-Ok.ensures ∙ ap (λ cs. coming_of_will i cs (of_client i (λ (x : ClientState). message_of x.will) cs)) c.as_slice.ensures.value)
    (λ p e. sym e)
    c.hand_on.ensures.coming
    (c.hand_on.ensures.retained ∙ ap (λ ps. retained_after ps (option_to_list c.end-handed.result)) c.reserve.ensures.items)
    ∙ seen_renewed i away renewed message cs ds kept x d below c.index_mut.ensures.value new refl (λ y. refl)
    ∙ ap (λ s. ends i s) seen

pub returns-in-Err-clause-left : goal.returns-in-Err-clause-left
returns-in-Err-clause-left c =
    let i = c.args.client in
    let cs : List ClientState = c.deliver_all.new.clients.items in
    let kept : List Publish = c.self.inside.retained.items in
    let none = c.in_ok-deliver_all.ensures.none in
    let seen = settled c.self.inside.coming.items c.deliver_all.new.coming.items c.self.inside.clients.items cs kept c.args.self.now none c.in_ok-deliver_all.ensures.same c.self.view_is in
    let below : i < length cs = omega (arith, c.if-client-len.false, c.len.ensures) in
    let x : ClientState = c.index_mut.result.now in
    let d : ClientState = c.swap-kept.new.self in
    let y : ClientState = c.index_mut-in-Err.result.now in
    let back =
    c.swap.ensures.now
    ∙ ap (λ (y : ClientState). record y { kept = c.swap-kept.result }) (c.index_mut-in-Err.ensures.value ∙ at_set i cs d y below ∙ c.swap-kept.ensures.now)
    ∙ ap (λ k. record x { kept = k }) c.swap-kept.ensures.before in
    let again = set_again i cs x d c.swap.new.self below c.index_mut.ensures.value back in
    (λ j. record { clients = delivered (none j) (again j); retained = c.reserve.ensures.items j }) ∙ seen

pub invariant_of-self : goal.invariant_of-self
invariant_of-self c = c.deliver_all.ensures.followed c.self.inside.index c.self.invariant

pub invariant_of-self-then-client-len : goal.invariant_of-self-then-client-len
invariant_of-self-then-client-len c = c.deliver_all.ensures.followed c.self.inside.index c.self.invariant

pub invariant_of-self-in_err-reserve : goal.invariant_of-self-in_err-reserve
invariant_of-self-in_err-reserve c = c.deliver_all.ensures.followed c.self.inside.index c.self.invariant

pub invariant_of-self-in_err-renewed : goal.invariant_of-self-in_err-renewed
invariant_of-self-in_err-renewed c = c.deliver_all.ensures.followed c.self.inside.index c.self.invariant

abbrev subscriptions : ClientState → List Subscription
subscriptions x = x.kept.subscriptions

pub of_will-requires-clause-indexed : goal.of_will-requires-clause-indexed
of_will-requires-clause-indexed c =
    let i = c.args.client in
    let cs : List ClientState = c.deliver_all.new.clients.items in
    let x = c.self.inside.index in
    let followed = c.deliver_all.ensures.followed c.self.inside.index c.self.invariant in
    let below : i < length cs = omega (arith, c.if-client-len.false, c.len.ensures) in
    let x0 : ClientState = c.index_mut.result.now in
    let d : ClientState = c.swap-kept.new.self in
    let none = ap subscriptions c.swap-kept.ensures.now ∙ ap (λ (k : Kept). k.subscriptions) c.in_ok-renewed.ensures.ok in
    let indexed : IsIndexed x (set cs i d) = indexed_none x cs followed.0 i x0 d below c.index_mut.ensures.value none x (λ m n other there. there) in
    subst (IsIndexed x) (sym c.as_slice.ensures.value) indexed

abbrev queue : ClientState → List Publish
queue x = x.kept.queue

pub invariant_of-self-in-Ok : goal.invariant_of-self-in-Ok
invariant_of-self-in-Ok c =
    let i = c.args.client in
    let cs : List ClientState = c.deliver_all.new.clients.items in
    let x = c.self.inside.index in
    let w = c.deliver_all.new.noted in
    let followed = c.deliver_all.ensures.followed c.self.inside.index c.self.invariant in
    let below : i < length cs = omega (arith, c.if-client-len.false, c.len.ensures) in
    let x0 : ClientState = c.index_mut.result.now in
    let d : ClientState = c.swap-kept.new.self in
    let none = ap subscriptions c.swap-kept.ensures.now ∙ ap (λ (k : Kept). k.subscriptions) c.in_ok-renewed.ensures.ok in
    let isnt : waits d ≡ false = nothing_waits d (ap queue c.swap-kept.ensures.now ∙ ap (λ (k : Kept). k.queue) c.in_ok-renewed.ensures.ok) in
    let after : IsFollowed x w (set cs i d) = followed_none x w cs followed i x0 d below c.index_mut.ensures.value none isnt x (λ m n other there. there) in
    let y : ClientState = c.index_mut-in-Ok.result.now in
    let none' = ap subscriptions c.end-handed.ensures.left ∙ ap subscriptions (c.index_mut-in-Ok.ensures.value ∙ at_set i cs d y below) ∙ none in
    followed_none x w (set cs i d) after i y c.end-handed.new.self (set_below i cs x0 d below) c.index_mut-in-Ok.ensures.value none' (ap waits c.end-handed.ensures.left) c.leave.new.index c.leave.ensures.others

pub invariant_of-self-in-Err : goal.invariant_of-self-in-Err
invariant_of-self-in-Err c =
    let i = c.args.client in
    let cs : List ClientState = c.deliver_all.new.clients.items in
    let followed = c.deliver_all.ensures.followed c.self.inside.index c.self.invariant in
    let below : i < length cs = omega (arith, c.if-client-len.false, c.len.ensures) in
    let x : ClientState = c.index_mut.result.now in
    let d : ClientState = c.swap-kept.new.self in
    let y : ClientState = c.index_mut-in-Err.result.now in
    let back =
    c.swap.ensures.now
    ∙ ap (λ (y : ClientState). record y { kept = c.swap-kept.result }) (c.index_mut-in-Err.ensures.value ∙ at_set i cs d y below ∙ c.swap-kept.ensures.now)
    ∙ ap (λ k. record x { kept = k }) c.swap-kept.ensures.before in
    let again = set_again i cs x d c.swap.new.self below c.index_mut.ensures.value back in
    subst (IsFollowed c.self.inside.index c.deliver_all.new.noted) (sym again) followed
