-- What goes to a client, and that what a receiver hands on only grows.
use Rattle.std.proofs.Common.{◌≡◌, ℕ, ◌≤◌, Bool, true, false, cond, List, [], ◌∷◌, ◌++◌, length, Option, None, Some, refl, sym, ap, ◌∙◌, arith, append-nil, length-append, length-drop, drop}
use Rattle.std.specs.Prelude.{option_map}
use Rattle.std.specs.FinSet as set
use Rattle.std.specs.List.{AllByRecursion, filter_map, cons_option}
use Rattle.mqtt5_base.specs.declared.quality.QoS.{QoS}
use Rattle.mqtt5_base.specs.declared.quality.QoS.TheVariants.{AtMostOnce, AtLeastOnce, ExactlyOnce}
use Rattle.mqtt5_publish.specs.declared.publish.Publish.{Publish}
use Rattle.mqtt5_publish.specs.declared.publish.PublishProperties.{PublishProperties}
use Rattle.mqtt5_codec.specs.declared.packet.Packet.{Packet}
use Rattle.mqtt5_codec.specs.declared.packet.Packet.TheVariants as packets
use Rattle.mqtt5_inflight.specs.Aliases.{alias_of, alias_in}
use Rattle.mqtt5_world.specs.Broker.{Broker, serve, serve_publish}
use Rattle.mqtt5_network.specs.Forwarded.{passed_on, with_identifiers}
use Rattle.mqtt5_network.specs.declared.subscription.Subscription.{Subscription}
use Rattle.mqtt5_network.specs.Subscriptions.{granted_for, holding, identifiers_of, forwarded_under, forwarded_to}

pub no_alias : (ns : List ℕ) (o : Option PublishProperties) → alias_in (with_identifiers ns (option_map passed_on o)) ≡ None
no_alias [] None = refl
no_alias [] (Some set) = refl
no_alias (n ∷ ns) None = refl
no_alias (n ∷ ns) (Some set) = refl

-- ---- what goes to a client

-- it has no topic alias, and its id is still to be given
pub record IsForwarded (p : Publish) : Type 0 where
  pub plain : alias_of p ≡ None
  pub unnumbered : p.pkid ≡ 0

pub all_both : (xs ys : List Publish) → AllByRecursion IsForwarded xs → AllByRecursion IsForwarded ys → AllByRecursion IsForwarded (xs ++ ys)
all_both [] ys all more = more
all_both (x ∷ xs) ys all more = (all.0, all_both xs ys all.1 more)

pub all_dropped : (xs : List Publish) → AllByRecursion IsForwarded xs → AllByRecursion IsForwarded (drop 1 xs)
all_dropped [] all = tt
all_dropped (x ∷ xs) all = all.1

-- so is all that is forwarded
module _ (own : Bool) (ss : List Subscription) where
  pub all_forwarded : (ps : List Publish) → AllByRecursion IsForwarded (filter_map (forwarded_to own ss) ps)
  all_forwarded [] = tt
  all_forwarded (p ∷ ps) = by (granted_for own ss p) (all_forwarded ps)
    where
      by : (o : Option QoS) → AllByRecursion IsForwarded (filter_map (forwarded_to own ss) ps) → AllByRecursion IsForwarded (cons_option (option_map (λ q. forwarded_under (holding own ss p) q p) o) (filter_map (forwarded_to own ss) ps))
      by None all = all
      by (Some q) all = (record { plain = no_alias (identifiers_of (holding own ss p)) p.properties; unnumbered = refl }, all)

-- ---- what a receiver hands on

-- it only grows, by one at most
pub record Grows (old new : List Publish) : Type 0 where
  pub more : List Publish
  pub grown : new ≡ old ++ more
  pub few : length more ≤ 1

-- what is new is one at most
pub new_few : (old new : List Publish) → Grows old new → length (drop (length old) new) ≤ 1
new_few old new g =
    let a = ap length g.grown in
    let b = length-append old g.more in
    let c = length-drop (length old) new in
    omega (arith, a, b, c, g.few)

pub none_new : (ps : List Publish) → length (drop (length ps) ps) ≤ 0
none_new ps = let a = length-drop (length ps) ps in omega (arith, a)

pub same : (old new : List Publish) → new ≡ old → Grows old new
same old new e = record { more = []; grown = e ∙ sym (append-nil old); few = omega arith }

pub one_more : (ps : List Publish) (p : Publish) → Grows ps (ps ++ p ∷ [])
one_more ps p = record { more = p ∷ []; grown = refl; few = omega arith }

pub publish_grows : (q : QoS) (b : Broker) (p : Publish) → Grows b.handed (serve_publish q b p).1.handed
publish_grows AtMostOnce b p = one_more b.handed p
publish_grows AtLeastOnce b p = one_more b.handed p
publish_grows ExactlyOnce b p = by (set.contains b.ids p.pkid)
  where
    by : (c : Bool) → Grows b.handed (cond c b.handed (b.handed ++ p ∷ []))
    by true = same b.handed b.handed refl
    by false = one_more b.handed p

pub serve_grows : (b : Broker) (x : Packet) → Grows b.handed (serve b x).1.handed
serve_grows b (packets.Publish p) = publish_grows p.qos b p
serve_grows b (packets.PubRel p) = same b.handed b.handed refl
serve_grows b other = same b.handed b.handed refl
