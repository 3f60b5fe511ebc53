use Rattle.std.proofs.Common.{List, true, refl, ap, ◌∙◌, arith, sym, subst}
use Rattle.std.specs.Option.{option_to_list}
use Rattle.mqtt5_session.specs.Resuming.{resume_of}
use Rattle.mqtt5_network.specs.Connection.{connected, sent_in}
use Rattle.mqtt5_publish.specs.declared.publish.Publish.{Publish}
use Rattle.mqtt5_network.specs.Retained.{retained_after}
use Rattle.mqtt5_network.specs.Place.{message_of, replaced_message}
use Rattle.mqtt5_sessions.specs.Sessions.{ClientState, of_client, taken_up, comes, sent_again}
use Rattle.mqtt5_sessions.specs.Coming.{coming_of_will}
use Rattle.mqtt5_sessions.proofs.Delivered.{settled, seen_past, seen_will, replaced_of, sent_to, sent_past}
use Rattle.mqtt5_sessions.specs.Indexed.{IsIndexed}
use Rattle.mqtt5_sessions.proofs.Noted.{followed_more, followed_noted}
use Rattle.mqtt5_sessions.proofs.sessions.Sessions.come.Goals as goal

pub returns-then-client-len-clause-ok : goal.returns-then-client-len-clause-ok
returns-then-client-len-clause-ok c =
    let i = c.args.client in
    let cs : List ClientState = c.deliver_all.new.clients.items in
    let kept : List Publish = c.self.inside.retained.items in
    let none = c.in_ok-deliver_all.ensures.none in
    let seen = settled c.self.inside.coming.items c.deliver_all.new.coming.items c.self.inside.clients.items cs kept c.args.self.now none c.in_ok-deliver_all.ensures.same c.self.view_is in
    seen_past i (λ (x : ClientState). record { kept = taken_up c.args.receive_max x.kept; here = true; will = c.args.will }) (λ (x : ClientState). replaced_message x.here x.will) cs kept c.deliver_all.new.coming.items none (omega (arith, c.if-client-len.true, c.len.ensures)) ∙ ap (λ s. comes i c.args.receive_max c.args.will s) seen

pub returns-then-client-len-clause-sent : goal.returns-then-client-len-clause-sent
returns-then-client-len-clause-sent c =
    let i = c.args.client in
    let cs : List ClientState = c.deliver_all.new.clients.items in
    let kept : List Publish = c.self.inside.retained.items in
    let none = c.in_ok-deliver_all.ensures.none in
    let seen = settled c.self.inside.coming.items c.deliver_all.new.coming.items c.self.inside.clients.items cs kept c.args.self.now none c.in_ok-deliver_all.ensures.same c.self.view_is in
    c.new.ensures.items ∙ sent_past i (λ (x : ClientState). sent_in (resume_of (connected c.args.receive_max x.kept.sender) 0)) cs (omega (arith, c.if-client-len.true, c.len.ensures)) ∙ ap (λ s. sent_again i c.args.receive_max s) seen

pub returns-clause-ok : goal.returns-clause-ok
returns-clause-ok c =
    let i = c.args.client in
    let cs : List ClientState = c.deliver_all.new.clients.items in
    let kept : List Publish = c.self.inside.retained.items in
    let none = c.in_ok-deliver_all.ensures.none in
    let seen = settled c.self.inside.coming.items c.deliver_all.new.coming.items c.self.inside.clients.items cs kept c.args.self.now none c.in_ok-deliver_all.ensures.same c.self.view_is in
    let x : ClientState = c.index_mut.result.now in
    seen_will i (λ (x : ClientState). record { kept = taken_up c.args.receive_max x.kept; here = true; will = c.args.will }) (λ (x : ClientState). replaced_message x.here x.will) cs kept x c.come.new.self c.in_ok-way.handed c.in_ok-made.made.items c.hand_on.new.coming.items c.hand_on.new.retained.items
    (omega (arith, c.if-client-len.false, c.len.ensures)) c.index_mut.ensures.value c.in_ok-way.ensures.kept c.in_ok-way.ensures.published (λ x. refl)
    (c.in_ok-made.ensures ∙ ap (λ cs. coming_of_will i cs (of_client i (λ (x : ClientState). message_of x.will) cs)) c.as_slice.ensures.value)
    (λ p e. replaced_of x.here x.will p e)
    c.hand_on.ensures.coming
    (c.hand_on.ensures.retained ∙ ap (λ ps. retained_after ps (option_to_list c.in_ok-way.handed)) c.reserve.ensures.items)
    ∙ ap (λ s. comes i c.args.receive_max c.args.will s) seen

pub returns-clause-sent : goal.returns-clause-sent
returns-clause-sent c =
    let i = c.args.client in
    let cs : List ClientState = c.deliver_all.new.clients.items in
    let kept : List Publish = c.self.inside.retained.items in
    let none = c.in_ok-deliver_all.ensures.none in
    let seen = settled c.self.inside.coming.items c.deliver_all.new.coming.items c.self.inside.clients.items cs kept c.args.self.now none c.in_ok-deliver_all.ensures.same c.self.view_is in
    c.in_ok-way.ensures.sent
    ∙ sent_to i (λ (x : ClientState). sent_in (resume_of (connected c.args.receive_max x.kept.sender) 0)) cs c.index_mut.result.now (omega (arith, c.if-client-len.false, c.len.ensures)) c.index_mut.ensures.value
    ∙ ap (λ s. sent_again i c.args.receive_max s) seen

pub invariant_of-self : goal.invariant_of-self
invariant_of-self c = c.deliver_all.ensures.followed c.self.inside.index c.self.invariant

pub invariant_of-self-then-client-len : goal.invariant_of-self-then-client-len
invariant_of-self-then-client-len c = c.deliver_all.ensures.followed c.self.inside.index c.self.invariant

pub of_will-requires-clause-indexed : goal.of_will-requires-clause-indexed
of_will-requires-clause-indexed c = subst (IsIndexed c.self.inside.index) (sym c.as_slice.ensures.value) (c.deliver_all.ensures.followed c.self.inside.index c.self.invariant).0

pub invariant_of-self-in_err-made : goal.invariant_of-self-in_err-made
invariant_of-self-in_err-made c = c.deliver_all.ensures.followed c.self.inside.index c.self.invariant

pub invariant_of-self-in_err-reserve : goal.invariant_of-self-in_err-reserve
invariant_of-self-in_err-reserve c = c.deliver_all.ensures.followed c.self.inside.index c.self.invariant

pub invariant_of-self-in_err-note : goal.invariant_of-self-in_err-note
invariant_of-self-in_err-note c =
    let followed = c.deliver_all.ensures.followed c.self.inside.index c.self.invariant in
    followed_more c.self.inside.index c.deliver_all.new.noted c.deliver_all.new.clients.items followed c.note.new.noted c.note.ensures.others

pub invariant_of-self-in_err-way : goal.invariant_of-self-in_err-way
invariant_of-self-in_err-way c =
    let followed = c.deliver_all.ensures.followed c.self.inside.index c.self.invariant in
    followed_noted c.self.inside.index c.deliver_all.new.noted c.deliver_all.new.clients.items followed c.args.client c.index_mut.result.now c.come.new.self (omega (arith, c.if-client-len.false, c.len.ensures)) c.index_mut.ensures.value
    c.in_err-way.ensures.left c.note.new.noted c.note.ensures.others c.in_ok-note.ensures.there

pub invariant_of-self-2 : goal.invariant_of-self-2
invariant_of-self-2 c =
    let followed = c.deliver_all.ensures.followed c.self.inside.index c.self.invariant in
    followed_noted c.self.inside.index c.deliver_all.new.noted c.deliver_all.new.clients.items followed c.args.client c.index_mut.result.now c.come.new.self (omega (arith, c.if-client-len.false, c.len.ensures)) c.index_mut.ensures.value
    (ap (λ (x : ClientState). x.kept.subscriptions) c.in_ok-way.ensures.kept) c.note.new.noted c.note.ensures.others c.in_ok-note.ensures.there
