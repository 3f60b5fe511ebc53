use Rattle.std.proofs.Common.{List, sym, ap, ◌∙◌, arith, subst}
use Rattle.std.specs.Option.{option_to_list}
use Rattle.mqtt5_publish.specs.declared.publish.Publish.{Publish}
use Rattle.mqtt5_network.specs.Retained.{retained_after, copies_for}
use Rattle.mqtt5_router.specs.Kept.{without_events, kept_of, after_packet}
use Rattle.mqtt5_sessions.specs.Sessions.{ClientState, gets, arrives, replies}
use Rattle.mqtt5_sessions.specs.Coming.{coming_for}
use Rattle.mqtt5_sessions.proofs.Delivered.{settled, seen_past, seen_publish, seen_other, sent_to, sent_past}
use Rattle.mqtt5_sessions.specs.Indexed.{IsIndexed}
use Rattle.mqtt5_sessions.proofs.Noted.{followed_set}
use Rattle.mqtt5_sessions.proofs.sessions.Sessions.arrive.Goals as goal

pub returns-then-client-len-clause-ok : goal.returns-then-client-len-clause-ok
returns-then-client-len-clause-ok c =
    let i = c.args.client in
    let cs : List ClientState = c.deliver_all.new.clients.items in
    let kept : List Publish = c.self.inside.retained.items in
    let none = c.in_ok-deliver_all.ensures.none in
    let seen = settled c.self.inside.coming.items c.deliver_all.new.coming.items c.self.inside.clients.items cs kept c.args.self.now none c.in_ok-deliver_all.ensures.same c.self.view_is in
    let y = c.args.packet in
    seen_past i (λ (x : ClientState). gets (copies_for kept x.kept.subscriptions y) (record x { kept = without_events (kept_of (after_packet x.kept y)) })) (λ (x : ClientState). (after_packet x.kept y).receiver.handed) cs kept c.deliver_all.new.coming.items none (omega (arith, c.if-client-len.true, c.len.ensures)) ∙ ap (λ s. arrives i y s) seen

pub returns-then-client-len-clause-reply : goal.returns-then-client-len-clause-reply
returns-then-client-len-clause-reply c =
    let i = c.args.client in
    let cs : List ClientState = c.deliver_all.new.clients.items in
    let kept : List Publish = c.self.inside.retained.items in
    let none = c.in_ok-deliver_all.ensures.none in
    let seen = settled c.self.inside.coming.items c.deliver_all.new.coming.items c.self.inside.clients.items cs kept c.args.self.now none c.in_ok-deliver_all.ensures.same c.self.view_is in
    sent_past i (λ (x : ClientState). (after_packet x.kept c.args.packet).down) cs (omega (arith, c.if-client-len.true, c.len.ensures)) ∙ ap (λ s. replies i c.args.packet s) seen

pub returns-then-publishes-clause-ok : goal.returns-then-publishes-clause-ok
returns-then-publishes-clause-ok c =
    let i = c.args.client in
    let cs : List ClientState = c.deliver_all.new.clients.items in
    let kept : List Publish = c.self.inside.retained.items in
    let none = c.in_ok-deliver_all.ensures.none in
    let seen = settled c.self.inside.coming.items c.deliver_all.new.coming.items c.self.inside.clients.items cs kept c.args.self.now none c.in_ok-deliver_all.ensures.same c.self.view_is in
    let y = c.args.packet in
    let x : ClientState = c.index_mut.result.now in
    let o = c.in_ok-arrived.arrived.handed in
    let made = c.in_ok-made.made.items in
    seen_publish i cs kept x c.arrive.new.client y o made c.hand_on.new.coming.items c.hand_on.new.retained.items (sym c.is_publish-publishes.ensures ∙ c.if-publishes.true)
    (omega (arith, c.if-client-len.false, c.len.ensures)) c.index_mut.ensures.value c.in_ok-arrived.ensures.kept c.in_ok-arrived.ensures.handed
    (c.in_ok-made.ensures ∙ (λ j. coming_for i (c.as_slice-2.ensures.value j) (c.as_slice.ensures.value j) y))
    c.hand_on.ensures.coming
    (c.hand_on.ensures.retained ∙ ap (λ ps. retained_after ps (option_to_list o)) c.reserve.ensures.items)
    ∙ ap (λ s. arrives i y s) seen

pub returns-then-publishes-clause-reply : goal.returns-then-publishes-clause-reply
returns-then-publishes-clause-reply c =
    let i = c.args.client in
    let cs : List ClientState = c.deliver_all.new.clients.items in
    let kept : List Publish = c.self.inside.retained.items in
    let none = c.in_ok-deliver_all.ensures.none in
    let seen = settled c.self.inside.coming.items c.deliver_all.new.coming.items c.self.inside.clients.items cs kept c.args.self.now none c.in_ok-deliver_all.ensures.same c.self.view_is in
    c.in_ok-arrived.ensures.reply
    ∙ sent_to i (λ (x : ClientState). (after_packet x.kept c.args.packet).down) cs c.index_mut.result.now (omega (arith, c.if-client-len.false, c.len.ensures)) c.index_mut.ensures.value
    ∙ ap (λ s. replies i c.args.packet s) seen

pub returns-clause-ok : goal.returns-clause-ok
returns-clause-ok c =
    let i = c.args.client in
    let cs : List ClientState = c.deliver_all.new.clients.items in
    let kept : List Publish = c.self.inside.retained.items in
    let none = c.in_ok-deliver_all.ensures.none in
    let seen = settled c.self.inside.coming.items c.deliver_all.new.coming.items c.self.inside.clients.items cs kept c.args.self.now none c.in_ok-deliver_all.ensures.same c.self.view_is in
    let y = c.args.packet in
    let x : ClientState = c.index_mut.result.now in
    let made = c.in_ok-made.made.items in
    seen_other i cs kept x c.arrive.new.client y made c.reserve.new.self.items (sym c.is_publish-publishes.ensures ∙ c.if-publishes.false)
    (omega (arith, c.if-client-len.false, c.len.ensures)) c.index_mut.ensures.value c.in_ok-arrived.ensures.kept
    (c.in_ok-made.ensures ∙ (λ j. coming_for i (c.as_slice-2.ensures.value j) (c.as_slice.ensures.value j) y))
    c.reserve.ensures.items
    ∙ ap (λ s. arrives i y s) seen

pub returns-clause-reply : goal.returns-clause-reply
returns-clause-reply c =
    let i = c.args.client in
    let cs : List ClientState = c.deliver_all.new.clients.items in
    let kept : List Publish = c.self.inside.retained.items in
    let none = c.in_ok-deliver_all.ensures.none in
    let seen = settled c.self.inside.coming.items c.deliver_all.new.coming.items c.self.inside.clients.items cs kept c.args.self.now none c.in_ok-deliver_all.ensures.same c.self.view_is in
    c.in_ok-arrived.ensures.reply
    ∙ sent_to i (λ (x : ClientState). (after_packet x.kept c.args.packet).down) cs c.index_mut.result.now (omega (arith, c.if-client-len.false, c.len.ensures)) c.index_mut.ensures.value
    ∙ ap (λ s. replies i c.args.packet s) seen

pub invariant_of-self : goal.invariant_of-self
invariant_of-self c = c.deliver_all.ensures.followed c.self.inside.index c.self.invariant

pub invariant_of-self-then-client-len : goal.invariant_of-self-then-client-len
invariant_of-self-then-client-len c = c.deliver_all.ensures.followed c.self.inside.index c.self.invariant

pub of_packet-requires-clause-indexed : goal.of_packet-requires-clause-indexed
of_packet-requires-clause-indexed c = subst (IsIndexed c.self.inside.index) (sym c.as_slice.ensures.value) (c.deliver_all.ensures.followed c.self.inside.index c.self.invariant).0

pub invariant_of-self-in_err-made : goal.invariant_of-self-in_err-made
invariant_of-self-in_err-made c = c.deliver_all.ensures.followed c.self.inside.index c.self.invariant

pub invariant_of-self-in_err-reserve : goal.invariant_of-self-in_err-reserve
invariant_of-self-in_err-reserve c = c.deliver_all.ensures.followed c.self.inside.index c.self.invariant

pub invariant_of-self-in_err-arrived : goal.invariant_of-self-in_err-arrived
invariant_of-self-in_err-arrived c =
    let followed = c.deliver_all.ensures.followed c.self.inside.index c.self.invariant in
    followed_set c.self.inside.index c.deliver_all.new.noted c.deliver_all.new.clients.items followed c.args.client c.index_mut.result.now c.arrive.new.client (omega (arith, c.if-client-len.false, c.len.ensures)) c.index_mut.ensures.value
    c.arrive.new.index c.arrive.ensures.others c.arrive.ensures.own (λ h. sym c.arrive.ensures.waits ∙ h)

pub invariant_of-self-then-publishes : goal.invariant_of-self-then-publishes
invariant_of-self-then-publishes c =
    let followed = c.deliver_all.ensures.followed c.self.inside.index c.self.invariant in
    followed_set c.self.inside.index c.deliver_all.new.noted c.deliver_all.new.clients.items followed c.args.client c.index_mut.result.now c.arrive.new.client (omega (arith, c.if-client-len.false, c.len.ensures)) c.index_mut.ensures.value
    c.arrive.new.index c.arrive.ensures.others c.arrive.ensures.own (λ h. sym c.arrive.ensures.waits ∙ h)

pub invariant_of-self-2 : goal.invariant_of-self-2
invariant_of-self-2 c =
    let followed = c.deliver_all.ensures.followed c.self.inside.index c.self.invariant in
    followed_set c.self.inside.index c.deliver_all.new.noted c.deliver_all.new.clients.items followed c.args.client c.index_mut.result.now c.arrive.new.client (omega (arith, c.if-client-len.false, c.len.ensures)) c.index_mut.ensures.value
    c.arrive.new.index c.arrive.ensures.others c.arrive.ensures.own (λ h. sym c.arrive.ensures.waits ∙ h)
