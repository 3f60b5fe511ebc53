-- How far a request for subscriptions is worked through, filter by filter: what is left to do of it,
-- from the nth filter on, gives of what there is now what all of it gives of what there was before.
use Rattle.std.proofs.Common.{◌≡◌, ℕ, List, ◌++◌, drop, Option}
use Rattle.mqtt5_base.specs.Texts.{Utf8}
use Rattle.mqtt5_subscribe.specs.declared.filter.Filter.{Filter}
use Rattle.mqtt5_subscribe.specs.declared.unsuback.UnsubAckReason.{UnsubAckReason}
use Rattle.mqtt5_network.specs.declared.subscription.Subscription.{Subscription}
use Rattle.mqtt5_network.specs.Asking.{subscribed_all, unsubscribed_all, reasons_of}

-- those that are taken in
abbrev pub TakenIn : Option ℕ → List Filter → ℕ → List Subscription → List Subscription → Type 0
TakenIn k fs n before now = subscribed_all k (drop n fs) now ≡ subscribed_all k fs before

-- those that are taken out
abbrev pub TakenOut : List Utf8 → ℕ → List Subscription → List Subscription → Type 0
TakenOut fs n before now = unsubscribed_all (drop n fs) now ≡ unsubscribed_all fs before

-- the reasons of these, behind those that there are now
abbrev pub Answered : List Utf8 → ℕ → List Subscription → List UnsubAckReason → List Subscription
    → Type 0
Answered fs n before reasons now = reasons ++ reasons_of (drop n fs) now ≡ reasons_of fs before
