use Rattle.std.proofs.Common.{◌≡◌, [], ◌∷◌, ◌++◌, refl}
use Rattle.std.proofs.lemmas.List.Elements.{All-nil, All-push}
use Rattle.std.proofs.lemmas.Result.{err_from_is_err_and}
use Rattle.std.specs.Prelude.{None}
use Rattle.mqtt5_talk.specs.Capabilities.{forbidden_message}
use Rattle.mqtt5_talk.proofs.Sending.{gives_more, more_asked}
use Rattle.mqtt5_talk.proofs.Talking.{no_talk, then_silent, silent_told, on_ok_also}
use Rattle.mqtt5_talk.proofs.publishing.publish_each.Goals as goal

pub loop-init : goal.loop-init
loop-init g c = record { ready = c.requires.ready; sent = ([], no_talk _ _ _, refl, All-nil (λ m. forbidden_message c.args.capabilities m ≡ None)) }

pub returns-in_err-make_room-clause-talked : goal.returns-in_err-make_room-clause-talked
returns-in_err-make_room-clause-talked g c =
    let (ms, talked, gives, all) = c.loop.invariant.sent in
    let p = err_from_is_err_and c.from_residual.result c.from_residual.ensures.1 in
    (ms, then_silent _ _ _ _ _ _ _ _ _ _ talked c.make_room.ensures.talked, (_, gives), rw p.1 tt)

pub returns-in_err-message-clause-talked : goal.returns-in_err-message-clause-talked
returns-in_err-message-clause-talked g c =
    let (ms, talked, gives, all) = c.loop.invariant.sent in
    let p = err_from_is_err_and c.from_residual-in_err-message.result c.from_residual-in_err-message.ensures.1 in
    (ms, then_silent _ _ _ _ _ _ _ _ _ _ talked c.make_room.ensures.talked, (_, gives), rw p.1 tt)

pub returns-in_default-clause-talked : goal.returns-in_default-clause-talked
returns-in_default-clause-talked g c =
    let (ms, talked, gives, all) = c.loop.invariant.sent in
    let room = then_silent _ _ _ _ _ _ _ _ _ _ talked c.make_room.ensures.talked in
    (ms, then_silent _ _ _ _ _ _ _ _ _ _ room c.await_acks.ensures.talked, (_, gives), on_ok_also c.await_acks.result _ ((_, gives, rw (c.in_default.is) at c.in_ok-message.ensures), all))

pub returns-in_err-hand_allowed-clause-talked : goal.returns-in_err-hand_allowed-clause-talked
returns-in_err-hand_allowed-clause-talked g c =
    let (ms, talked, gives, all) = c.loop.invariant.sent in
    let room = then_silent _ _ _ _ _ _ _ _ _ _ talked c.make_room.ensures.talked in
    let p = err_from_is_err_and c.from_residual-in_err-hand_allowed.result c.from_residual-in_err-hand_allowed.ensures.1 in
    (ms ++ c.in-Some.message ∷ [], more_asked _ _ _ _ _ _ _ _ c.args.capabilities ms c.in-Some.message room (silent_told _ _ _ _ c.hand_allowed.ensures.said), (_, gives_more g.S.Source.gives _ _ _ ms c.in-Some.message gives (rw (c.in-Some.is) at c.in_ok-message.ensures)), rw p.1 tt)

pub loop-preserved : goal.loop-preserved
loop-preserved g c =
    let (ms, talked, gives, all) = c.loop.invariant.sent in
    let room = then_silent _ _ _ _ _ _ _ _ _ _ talked c.make_room.ensures.talked in
    record {
      ready = c.hand_allowed.ensures.ready;
      sent = (
        ms ++ c.in-Some.message ∷ [],
        more_asked _ _ _ _ _ _ _ _ c.args.capabilities ms c.in-Some.message room (silent_told _ _ _ _ c.hand_allowed.ensures.said),
        gives_more g.S.Source.gives _ _ _ ms c.in-Some.message gives (rw (c.in-Some.is) at c.in_ok-message.ensures),
        All-push (λ m. forbidden_message c.args.capabilities m ≡ None) ms c.in-Some.message all c.in_ok-hand_allowed.ensures.allowed,
      );
    }
