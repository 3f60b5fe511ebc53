use Rattle.std.proofs.Common.{sym, ◌∙◌, subst}
use Rattle.std.specs.Ordering.{nat_cmp}
use Rattle.std.specs.BTreeSet.{contains}
use Rattle.mqtt5_sessions.specs.Waiting.{waits_at, IsFirst}
use Rattle.mqtt5_sessions.proofs.Noted.{first_waits, none_waits, still_noted}
use Rattle.mqtt5_sessions.proofs.waiting.next_waiting.Goals as goal

pub returns-then-waits_at-clause-next : goal.returns-then-waits_at-clause-next
returns-then-waits_at-clause-next c =
    let w = contains nat_cmp c.loop-next.noted in
    first_waits w (λ i. waits_at i c.args.clients.now) c.loop-next.invariant.all c.args.from c.in-Some.number
    (subst (IsFirst w c.args.from) c.in-Some.is c.loop-next.invariant.next) (sym c.waits_at.ensures ∙ c.if-waits_at.true)

pub loop-next-preserved : goal.loop-next-preserved
loop-next-preserved c = record {
  all = still_noted (contains nat_cmp c.loop-next.noted) (contains nat_cmp c.take_out.new.noted) (λ i. waits_at i c.args.clients.now) c.loop-next.invariant.all c.in-Some.number
      (sym c.waits_at.ensures ∙ c.if-waits_at.false) c.take_out.ensures.others;
  next = c.first_from-next-in-Some.ensures;
}

pub returns-clause-next : goal.returns-clause-next
returns-clause-next c =
    let w = contains nat_cmp c.loop-next.noted in
    none_waits w (λ i. waits_at i c.args.clients.now) c.loop-next.invariant.all c.args.from (subst (IsFirst w c.args.from) c.in_default.is c.loop-next.invariant.next)
