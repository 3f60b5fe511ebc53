use Rattle.std.proofs.Common.{◌≡◌, ◌∙◌, ◌<◌, ◌≤◌, All, ℕ, inl, sym, subst, List, length, get_or}
use Rattle.std.specs.Prelude.{None, Some, Contains}
use Rattle.std.proofs.lemmas.List.{take_all}
use Rattle.std.proofs.lemmas.List.Elements.{All-more}
use Rattle.mqtt5_subscribe.specs.declared.filter.Filter.{Filter}
use Rattle.mqtt5_talk.specs.Capabilities.{forbidden_filter}
use Rattle.mqtt5_talk.proofs.capabilities.Capabilities.check_filters.Goals as goal

pub returns-in-Some-clause-forbidden : goal.returns-in-Some-clause-forbidden
returns-in-Some-clause-forbidden c =
    let path = c.as_str.ensures in (
    inl (
      c.filter-item.result,
      subst (λ (fs : List Filter). Contains fs c.filter-item.result) c.as_slice-filter-items.ensures (c.loop-filter.filter-index, c.loop-filter-test.true, sym c.filter-item.is),
      subst (λ (bytes : List ℕ). forbidden_filter c.args.self bytes ≡ Some c.in-Some.why) path (sym c.in-Some.ensures),
    )
    )

pub loop-filter-preserved : goal.loop-filter-preserved
loop-filter-preserved c =
    let none = subst (λ (bytes : List ℕ). forbidden_filter c.args.self bytes ≡ None) c.as_str.ensures (sym c.forbidden_filter.ensures ∙ c.in_default.is) in
    let placed = subst (λ (f : Filter). forbidden_filter c.args.self f.path.bytes ≡ None) c.filter-item.is none in
    let within = subst (λ (fs : List Filter). forbidden_filter c.args.self (get_or fs c.loop-filter.filter-index c.filter-item.result).path.bytes ≡ None) c.as_slice-filter-items.ensures placed in
    let below = subst (λ (fs : List Filter). c.loop-filter.filter-index < length fs) c.as_slice-filter-items.ensures c.loop-filter-test.true in
    All-more (λ f. forbidden_filter c.args.self f.path.bytes ≡ None) c.args.subscribe.now.filters c.loop-filter.filter-index c.filter-item.result below c.loop-filter.invariant within

pub returns-clause-permitted : goal.returns-clause-permitted
returns-clause-permitted c =
    let filters = c.args.subscribe.now.filters in
    let past = subst (λ (fs : List Filter). length fs ≤ c.loop-filter.filter-index) c.as_slice-filter-items.ensures c.loop-filter-test.false in
    subst (λ (fs : List Filter). All (λ f. forbidden_filter c.args.self f.path.bytes ≡ None) fs) (take_all c.loop-filter.filter-index filters past) c.loop-filter.invariant
