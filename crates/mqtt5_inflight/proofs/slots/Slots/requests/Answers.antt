use Rattle.std.proofs.Common.{◌≡◌, length, [], ◌++◌, sym, ap, ◌∙◌, subst, arith, append-nil}
use Rattle.std.proofs.lemmas.List.{length-append, nil_from_length}
use Rattle.std.specs.FinMap.{len}
use Rattle.mqtt5_inflight.specs.InUse.{IsWithin}
use Rattle.mqtt5_inflight.specs.Unacked.{by_id, publish_again, release_again, requests_of}
use Rattle.mqtt5_inflight.proofs.Within.{fits}
use Rattle.mqtt5_inflight.proofs.Counts.{requests_len}
use Rattle.mqtt5_inflight.proofs.slots.Slots.requests.Goals as goal

-- there are as many publishes as ids in use, so no release is left
pub returns-then-len-clause-items : goal.returns-then-len-clause-items
returns-then-len-clause-items c =
    let s = c.args.self.now in
    let sent = by_id publish_again s.limit s.in_use in
    let kept = by_id release_again s.limit s.in_use in
    let items : c.push_sent.new.requests.items ≡ sent = c.in_ok-push_sent.ensures ∙ ap (λ l. l ++ sent) c.in_ok-requests.ensures.items in
    let all : length (requests_of s.limit s.in_use) ≡ len s.in_use = requests_len s.limit s.in_use (fits s.limit s.in_use (subst (λ m. IsWithin m.limit m.in_use) c.self.view_is c.self.invariant)) in
    let count = ap length items in
    let parts = length-append sent kept in
    let mine = ap (λ m. len m.in_use) c.self.view_is in
    let none : kept ≡ [] = nil_from_length kept (omega arith) in
    items ∙ sym (append-nil sent) ∙ ap (λ l. sent ++ l) (sym none)

pub returns-clause-items : goal.returns-clause-items
returns-clause-items c =
    let s = c.args.self.now in
    c.in_ok-push_released.ensures
    ∙ ap (λ l. l ++ by_id release_again s.limit s.in_use) (c.in_ok-push_sent.ensures ∙ ap (λ l. l ++ by_id publish_again s.limit s.in_use) c.in_ok-requests.ensures.items)

pub returns-clause-count : goal.returns-clause-count
returns-clause-count c =
    let s = c.args.self.now in
    ap length (returns-clause-items c) ∙ requests_len s.limit s.in_use (fits s.limit s.in_use (subst (λ m. IsWithin m.limit m.in_use) c.self.view_is c.self.invariant))
