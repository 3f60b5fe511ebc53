-- Publishes on their way into the queues of clients, and the clients once they are there.
use Rattle.std.proofs.Common.{◌≡◌, ℕ, zero, suc, ◌<◌, ◌≤◌, ◌==◌, cond, Bool, true, false, List, [], ◌∷◌, ◌++◌, length, map, Option, Some, None, refl, sym, ap, ◌∙◌, arith, append-nil, append_assoc, slice_index_or}
use Rattle.std.specs.Prelude.{option_map}
use Rattle.std.specs.List.{filter_map}
use Rattle.std.specs.FinSet as set_of
use Rattle.std.specs.Option.{option_to_list}
use Rattle.std.proofs.Math.ListN.{set}
use Rattle.std.proofs.Math.Dec.{eqb-suc-suc, eqb-suc-zero, eqb-zero-suc}
use Rattle.std.proofs.lemmas.Bool.{eqb-true}
use Rattle.std.proofs.lemmas.List.{nil_from_length}
use Rattle.mqtt5_base.specs.declared.quality.QoS.{QoS}
use Rattle.mqtt5_base.specs.declared.quality.QoS.TheVariants.{AtMostOnce, AtLeastOnce, ExactlyOnce}
use Rattle.mqtt5_publish.specs.declared.publish.Publish.{Publish}
use Rattle.mqtt5_publish.specs.declared.publish.PublishProperties.{PublishProperties}
use Rattle.mqtt5_codec.specs.declared.packet.Packet.{Packet}
use Rattle.mqtt5_codec.specs.declared.packet.Packet.TheVariants as packets
use Rattle.mqtt5_world.specs.Broker.{serve_publish}
use Rattle.mqtt5_session.specs.Resuming.{resume_of}
use Rattle.mqtt5_network.specs.Connection.{connected, sent_in}
use Rattle.mqtt5_network.specs.Subscriptions.{forwarded_to}
use Rattle.mqtt5_network.specs.Retained.{retained_after, copies_for}
use Rattle.mqtt5_network.specs.declared.event.Will.{Will}
use Rattle.mqtt5_network.specs.Place.{message_of, lost_message, due_message, replaced_message, expiring_in, expiring}
use Rattle.mqtt5_router.specs.Kept.{Kept, without_events, kept_of, alone, after_packet}
use Rattle.mqtt5_sessions.specs.declared.coming.Coming.{Coming}
use Rattle.mqtt5_sessions.specs.Sessions.{ClientState, Sessions, new_state, gets, queues, queues_all, with_client, of_client, to_client, changes, here_in, with_dated_will, dates, sent_again, arrives}
use Rattle.mqtt5_sessions.specs.Coming.{delivered, coming_to, coming_from, coming_of, coming_of_will, is_publish, coming_for, chosen}
use Rattle.mqtt5_sessions.specs.Expiry.{expiry_in, expiry_of, first_expiry, expiry_of_will, will_expiry}

-- ---- the client at a place

pub with_at : (i : ℕ) (f : ClientState → ClientState) (cs : List ClientState) (c : ClientState) → i < length cs → with_client i f cs ≡ set cs i (f (slice_index_or cs i c))
with_at i f [] c below = absurd (omega arith)
with_at zero f (d ∷ cs) c below = refl
with_at (suc i) f (d ∷ cs) c below = ap (λ xs. d ∷ xs) (with_at i f cs c (omega arith))

-- as it is seen
pub with_to : (i : ℕ) (f : ClientState → ClientState) (cs : List ClientState) (c d : ClientState) → i < length cs → c ≡ slice_index_or cs i c → d ≡ f c → set cs i d ≡ with_client i f cs
with_to i f cs c d below is new = ap (set cs i) (new ∙ ap f is) ∙ sym (with_at i f cs c below)

pub with_past : (i : ℕ) (f : ClientState → ClientState) (cs : List ClientState) → length cs ≤ i → with_client i f cs ≡ cs
with_past i f [] past = refl
with_past zero f (c ∷ cs) past = absurd (omega arith)
with_past (suc i) f (c ∷ cs) past = ap (λ xs. c ∷ xs) (with_past i f cs (omega arith))

with_long : (i : ℕ) (f : ClientState → ClientState) (cs : List ClientState) → length (with_client i f cs) ≡ length cs
with_long i f [] = refl
with_long zero f (c ∷ cs) = refl
with_long (suc i) f (c ∷ cs) = ap suc (with_long i f cs)

pub with_twice : (i : ℕ) (f g : ClientState → ClientState) (cs : List ClientState) → with_client i f (with_client i g cs) ≡ with_client i (λ c. f (g c)) cs
with_twice i f g [] = refl
with_twice zero f g (c ∷ cs) = refl
with_twice (suc i) f g (c ∷ cs) = ap (λ xs. c ∷ xs) (with_twice i f g cs)

with_other : (i : ℕ) (f g : ClientState → ClientState) (cs : List ClientState) → ((c : ClientState) → f c ≡ g c) → with_client i f cs ≡ with_client i g cs
with_other i f g [] same = refl
with_other zero f g (c ∷ cs) same = ap (λ d. d ∷ cs) (same c)
with_other (suc i) f g (c ∷ cs) same = ap (λ xs. c ∷ xs) (with_other i f g cs same)

pub with_same : (i : ℕ) (f : ClientState → ClientState) (cs : List ClientState) → ((c : ClientState) → f c ≡ c) → with_client i f cs ≡ cs
with_same i f [] same = refl
with_same zero f (c ∷ cs) same = ap (λ d. d ∷ cs) (same c)
with_same (suc i) f (c ∷ cs) same = ap (λ xs. c ∷ xs) (with_same i f cs same)

pub of_client_at : (i : ℕ) (m : ClientState → List Publish) (cs : List ClientState) (c : ClientState) → i < length cs → c ≡ slice_index_or cs i c → of_client i m cs ≡ m c
of_client_at i m cs c below is = by i cs below ∙ ap m (sym is)
  where
    by : (i : ℕ) (cs : List ClientState) → i < length cs → of_client i m cs ≡ m (slice_index_or cs i c)
    by i [] below = absurd (omega arith)
    by zero (d ∷ cs) below = refl
    by (suc i) (d ∷ cs) below = by i cs (omega arith)

pub of_client_past : (i : ℕ) (m : ClientState → List Publish) (cs : List ClientState) → length cs ≤ i → of_client i m cs ≡ []
of_client_past i m [] past = refl
of_client_past zero m (c ∷ cs) past = absurd (omega arith)
of_client_past (suc i) m (c ∷ cs) past = of_client_past i m cs (omega arith)

-- the one that is there, and not another in the place of none
pub at_new : (i : ℕ) (cs : List ClientState) (c : ClientState) → i < length cs → c ≡ slice_index_or cs i c → c ≡ slice_index_or cs i (new_state 0)
at_new i cs c below is = is ∙ by i cs below
  where
    by : (i : ℕ) (cs : List ClientState) → i < length cs → slice_index_or cs i c ≡ slice_index_or cs i (new_state 0)
    by i [] below = absurd (omega arith)
    by zero (d ∷ cs) below = refl
    by (suc i) (d ∷ cs) below = by i cs (omega arith)

-- ---- deliveries

pub gets_none : (c : ClientState) → gets [] c ≡ c
gets_none c = λ j. record c { kept = record c.kept { queue = append-nil c.kept.queue j } }

pub delivered_long : (es : List Coming) (cs : List ClientState) → length (delivered es cs) ≡ length cs
delivered_long [] cs = refl
delivered_long (e ∷ es) cs = delivered_long es (with_client e.client (gets (e.publish ∷ [])) cs) ∙ with_long e.client (gets (e.publish ∷ [])) cs

delivered_both : (es fs : List Coming) (cs : List ClientState) → delivered (es ++ fs) cs ≡ delivered fs (delivered es cs)
delivered_both [] fs cs = refl
delivered_both (e ∷ es) fs cs = delivered_both es fs (with_client e.client (gets (e.publish ∷ [])) cs)

-- all to one client
pub delivered_to : (i : ℕ) (ps : List Publish) (cs : List ClientState) → delivered (coming_to i ps) cs ≡ with_client i (gets ps) cs
delivered_to i [] cs = sym (with_same i (gets []) cs gets_none)
delivered_to i (p ∷ ps) cs =
    delivered_to i ps (with_client i (gets (p ∷ [])) cs)
    ∙ with_twice i (gets ps) (gets (p ∷ [])) cs
    ∙ with_other i (λ c. gets ps (gets (p ∷ []) c)) (gets (p ∷ ps)) cs (λ c j. record c { kept = record c.kept { queue = append_assoc c.kept.queue (p ∷ []) ps j } })

-- whether one is connected doesn't change
here_gets : (i j : ℕ) (ps : List Publish) (cs : List ClientState) → here_in i (with_client j (gets ps) cs) ≡ here_in i cs
here_gets i j ps [] = refl
here_gets zero zero ps (c ∷ cs) = refl
here_gets zero (suc j) ps (c ∷ cs) = refl
here_gets (suc i) zero ps (c ∷ cs) = refl
here_gets (suc i) (suc j) ps (c ∷ cs) = here_gets i j ps cs

pub here_delivered : (i : ℕ) (es : List Coming) (cs : List ClientState) → here_in i (delivered es cs) ≡ here_in i cs
here_delivered i [] cs = refl
here_delivered i (e ∷ es) cs = here_delivered i es (with_client e.client (gets (e.publish ∷ [])) cs) ∙ here_gets i e.client (e.publish ∷ []) cs

pub here_at : (i : ℕ) (cs : List ClientState) (c : ClientState) → i < length cs → c ≡ slice_index_or cs i c → c.here ≡ here_in i cs
here_at i cs c below is = ap (λ (x : ClientState). x.here) is ∙ by i cs below
  where
    by : (i : ℕ) (cs : List ClientState) → i < length cs → (slice_index_or cs i c).here ≡ here_in i cs
    by i [] below = absurd (omega arith)
    by zero (d ∷ cs) below = refl
    by (suc i) (d ∷ cs) below = by i cs (omega arith)

pub here_past : (i : ℕ) (cs : List ClientState) → length cs ≤ i → here_in i cs ≡ false
here_past i [] past = refl
here_past zero (c ∷ cs) past = absurd (omega arith)
here_past (suc i) (c ∷ cs) past = here_past i cs (omega arith)

-- a change of one meanwhile that looks at no queue
module _ (g : ClientState → ClientState) (same : (ps : List Publish) (c : ClientState) → gets ps (g c) ≡ g (gets ps c)) where
  change_gets : (i j : ℕ) (ps : List Publish) (cs : List ClientState) → with_client j (gets ps) (with_client i g cs) ≡ with_client i g (with_client j (gets ps) cs)
  change_gets i j ps [] = refl
  change_gets zero zero ps (c ∷ cs) = ap (λ d. d ∷ cs) (same ps c)
  change_gets zero (suc j) ps (c ∷ cs) = refl
  change_gets (suc i) zero ps (c ∷ cs) = refl
  change_gets (suc i) (suc j) ps (c ∷ cs) = ap (λ xs. c ∷ xs) (change_gets i j ps cs)

  pub change_delivered : (i : ℕ) (es : List Coming) (cs : List ClientState) → delivered es (with_client i g cs) ≡ with_client i g (delivered es cs)
  change_delivered i [] cs = refl
  change_delivered i (e ∷ es) cs = ap (delivered es) (change_gets i e.client (e.publish ∷ []) cs) ∙ change_delivered i es (with_client e.client (gets (e.publish ∷ [])) cs)

-- the will of one
pub will_past : (i : ℕ) (cs : List ClientState) → length cs ≤ i → (slice_index_or cs i (new_state 0)).will ≡ None
will_past i [] past = refl
will_past zero (c ∷ cs) past = absurd (omega arith)
will_past (suc i) (c ∷ cs) past = will_past i cs (omega arith)

-- it doesn't change
will_gets : (i j : ℕ) (ps : List Publish) (d : ClientState) (cs : List ClientState) → (slice_index_or (with_client j (gets ps) cs) i d).will ≡ (slice_index_or cs i d).will
will_gets i j ps d [] = refl
will_gets zero zero ps d (c ∷ cs) = refl
will_gets zero (suc j) ps d (c ∷ cs) = refl
will_gets (suc i) zero ps d (c ∷ cs) = refl
will_gets (suc i) (suc j) ps d (c ∷ cs) = will_gets i j ps d cs

pub will_delivered : (i : ℕ) (d : ClientState) (es : List Coming) (cs : List ClientState) → (slice_index_or (delivered es cs) i d).will ≡ (slice_index_or cs i d).will
will_delivered i d [] cs = refl
will_delivered i d (e ∷ es) cs = will_delivered i d es (with_client e.client (gets (e.publish ∷ [])) cs) ∙ will_gets i e.client (e.publish ∷ []) d cs

-- one of them, as it is done
pub deliver_past : (cs : List ClientState) (i : ℕ) (p : Publish) → length cs ≤ i → cs ≡ with_client i (gets (p ∷ [])) cs
deliver_past cs i p past = sym (with_past i (gets (p ∷ [])) cs past)

pub deliver_to : (cs : List ClientState) (i : ℕ) (p : Publish) (ps : List Publish) (c d : ClientState) → i < length cs → c ≡ slice_index_or cs i c → ps ≡ p ∷ [] → d ≡ gets ps c → set cs i d ≡ with_client i (gets (p ∷ [])) cs
deliver_to cs i p ps c d below is one new = with_to i (gets (p ∷ [])) cs c d below is (new ∙ ap (λ ps. gets ps c) one)

-- the first of those that come
pub delivers_next : (es : List Coming) (fs : List Coming) (e : Coming) (cs ds : List ClientState) → es ≡ e ∷ fs → ds ≡ with_client e.client (gets (e.publish ∷ [])) cs → delivered fs ds ≡ delivered es cs
delivers_next es fs e cs ds is new = ap (delivered fs) new ∙ ap (λ es. delivered es cs) (sym is)

-- ---- what is forwarded of a publish

abbrev shifted : Coming → Coming
shifted e = record e { client = suc e.client }

delivered_shifted : (es : List Coming) (c : ClientState) (cs : List ClientState) → delivered (map shifted es) (c ∷ cs) ≡ c ∷ delivered es cs
delivered_shifted [] c cs = refl
delivered_shifted (e ∷ es) c cs = delivered_shifted es c (with_client e.client (gets (e.publish ∷ [])) cs)

to_shifted : (k : ℕ) (ps : List Publish) (es : List Coming) (fs : List Coming) → fs ≡ map shifted es → coming_to (suc k) ps ++ fs ≡ map shifted (coming_to k ps ++ es)
to_shifted k [] es fs is = is
to_shifted k (p ∷ ps) es fs is = ap (λ xs. record { client = suc k; publish = p } ∷ xs) (to_shifted k ps es fs is)

from_shifted : (k : ℕ) (own : ℕ → Bool) (p : Publish) (cs : List ClientState) → coming_from (suc k) own p cs ≡ map shifted (coming_from k (λ j. own (suc j)) p cs)
from_shifted k own p [] = refl
from_shifted k own p (c ∷ cs) =
    to_shifted k (option_to_list (forwarded_to (own (suc k)) c.kept.subscriptions p)) (coming_from (suc k) (λ j. own (suc j)) p cs) (coming_from (suc (suc k)) own p cs)
    (from_shifted (suc k) own p cs)

one_of : (f : Publish → Option Publish) (x : Publish) → filter_map f (x ∷ []) ≡ option_to_list (f x)
one_of f x = by (f x)
  where
    by : (o : Option Publish) → filter_map (λ (y : Publish). o) (x ∷ []) ≡ option_to_list o
    by None = refl
    by (Some p) = refl

-- into each queue
abbrev queued : (ℕ → Bool) → Publish → List ClientState → List ClientState
queued own p [] = []
queued own p (c ∷ cs) = queues (own 0) (p ∷ []) c ∷ queued (λ j. own (suc j)) p cs

delivered_from : (own : ℕ → Bool) (p : Publish) (cs : List ClientState) → delivered (coming_from 0 own p cs) cs ≡ queued own p cs
delivered_from own p [] = refl
delivered_from own p (c ∷ cs) =
    let ps : List Publish = option_to_list (forwarded_to (own 0) c.kept.subscriptions p) in
    let more : ℕ → Bool = λ j. own (suc j) in
    delivered_both (coming_to 0 ps) (coming_from 1 own p cs) (c ∷ cs)
    ∙ ap (delivered (coming_from 1 own p cs)) (delivered_to 0 ps (c ∷ cs))
    ∙ ap (λ es. delivered es (gets ps c ∷ cs)) (from_shifted 0 own p cs)
    ∙ delivered_shifted (coming_from 0 more p cs) (gets ps c) cs
    ∙ (λ j. gets (sym (one_of (forwarded_to (own 0) c.kept.subscriptions) p) j) c ∷ delivered_from more p cs j)

queued_others : (own : ℕ → Bool) (p : Publish) → ((k : ℕ) → own k ≡ false) → (cs : List ClientState) → queued own p cs ≡ map (queues false (p ∷ [])) cs
queued_others own p none [] = refl
queued_others own p none (c ∷ cs) = λ j. queues (none 0 j) (p ∷ []) c ∷ queued_others (λ k. own (suc k)) p (λ k. none (suc k)) cs j

queued_all : (own : ℕ → Bool) (i : ℕ) (p : Publish) → ((k : ℕ) → own k ≡ (k == i)) → (cs : List ClientState) → queued own p cs ≡ queues_all i (p ∷ []) cs
queued_all own i p same [] = refl
queued_all own zero p same (c ∷ cs) = λ j. queues (same 0 j) (p ∷ []) c ∷ queued_others (λ k. own (suc k)) p (λ k. same (suc k) ∙ eqb-suc-zero k) cs j
queued_all own (suc i) p same (c ∷ cs) =
    λ j. queues ((same 0 ∙ eqb-zero-suc i) j) (p ∷ []) c ∷ queued_all (λ k. own (suc k)) i p (λ k. same (suc k) ∙ eqb-suc-suc k i) cs j

delivered_all : (i : ℕ) (p : Publish) (cs : List ClientState) → delivered (coming_of i p cs) cs ≡ queues_all i (p ∷ []) cs
delivered_all i p cs = delivered_from (λ k. k == i) p cs ∙ queued_all (λ k. k == i) i p (λ k. refl) cs

-- where a client changes, but for its subscriptions
from_kept : (k : ℕ) (own : ℕ → Bool) (p : Publish) (i : ℕ) (g : ClientState → ClientState) (cs : List ClientState) → ((c : ClientState) → (g c).kept.subscriptions ≡ c.kept.subscriptions)
    → coming_from k own p cs ≡ coming_from k own p (with_client i g cs)
from_kept k own p i g [] same = refl
from_kept k own p zero g (c ∷ cs) same = ap (λ ss. coming_to k (option_to_list (forwarded_to (own k) ss p)) ++ coming_from (suc k) own p cs) (sym (same c))
from_kept k own p (suc i) g (c ∷ cs) same = ap (λ es. coming_to k (option_to_list (forwarded_to (own k) c.kept.subscriptions p)) ++ es) (from_kept (suc k) own p i g cs same)

-- ---- an event

pub none_queued : (i : ℕ) (cs : List ClientState) → queues_all i [] cs ≡ cs
none_queued i [] = refl
none_queued zero (c ∷ cs) = λ j. gets_none c j ∷ none_others cs j
  where
    none_others : (cs : List ClientState) → map (queues false []) cs ≡ cs
    none_others [] = refl
    none_others (c ∷ cs) = λ j. gets_none c j ∷ none_others cs j
none_queued (suc i) (c ∷ cs) = λ j. gets_none c j ∷ none_queued i cs j

module _ (i : ℕ) (g : ClientState → ClientState) (m : ClientState → List Publish) (s : Sessions) where
  -- in which nothing is handed on
  pub changes_none : of_client i m s.clients ≡ [] → record { clients = with_client i g s.clients; retained = s.retained } ≡ changes i g m s
  changes_none none =
      let a = none_queued i (with_client i g s.clients) in
      (λ j. record { clients = sym a j; retained = s.retained })
      ∙ (λ j. record { clients = queues_all i (sym none j) (with_client i g s.clients); retained = retained_after s.retained (sym none j) })

  -- in which a publish is
  changes_some : (p : Publish) → of_client i m s.clients ≡ p ∷ [] → ((c : ClientState) → (g c).kept.subscriptions ≡ c.kept.subscriptions)
      → record { clients = delivered (coming_of i p s.clients) (with_client i g s.clients); retained = retained_after s.retained (p ∷ []) } ≡ changes i g m s
  changes_some p one same =
      let a : delivered (coming_of i p s.clients) (with_client i g s.clients) ≡ queues_all i (p ∷ []) (with_client i g s.clients) =
      ap (λ es. delivered es (with_client i g s.clients)) (from_kept 0 (λ k. k == i) p i g s.clients same)
      ∙ delivered_all i p (with_client i g s.clients) in
      (λ j. record { clients = a j; retained = retained_after s.retained (p ∷ []) })
      ∙ (λ j. record { clients = queues_all i (sym one j) (with_client i g s.clients); retained = retained_after s.retained (sym one j) })

  -- of a client that isn't there
  pub changes_past : length s.clients ≤ i → s ≡ changes i g m s
  changes_past past = (λ j. record { clients = sym (with_past i g s.clients past) j; retained = s.retained }) ∙ changes_none (of_client_past i m s.clients past)

  -- as it is done
  pub commits : (c d : ClientState) (o : Option Publish) (es : List Coming) → i < length s.clients → c ≡ slice_index_or s.clients i c → d ≡ g c → option_to_list o ≡ m c
      → ((c : ClientState) → (g c).kept.subscriptions ≡ c.kept.subscriptions) → ((p : Publish) → p ∷ [] ≡ m c → es ≡ coming_of i p s.clients)
      → record { clients = delivered (chosen es o) (set s.clients i d); retained = retained_after s.retained (option_to_list o) } ≡ changes i g m s
  commits c d None es below is new handed same made =
      (λ j. record { clients = with_to i g s.clients c d below is new j; retained = s.retained })
      ∙ changes_none (of_client_at i m s.clients c below is ∙ sym handed)
  commits c d (Some p) es below is new handed same made =
      (λ j. record { clients = delivered (made p handed j) (with_to i g s.clients c d below is new j); retained = retained_after s.retained (p ∷ []) })
      ∙ changes_some p (of_client_at i m s.clients c below is ∙ sym handed) same

  -- and where publishes come for the client itself
  pub commits_to : (f : ClientState → ClientState) (ps : ClientState → List Publish) (c d : ClientState) (qs : List Publish) → i < length s.clients → c ≡ slice_index_or s.clients i c → d ≡ f c → [] ≡ m c
      → qs ≡ ps c → ((c : ClientState) → gets (ps c) (f c) ≡ g c)
      → record { clients = delivered (coming_to i qs) (set s.clients i d); retained = s.retained } ≡ changes i g m s
  commits_to f ps c d qs below is new none brought all =
      let a : delivered (coming_to i qs) (set s.clients i d) ≡ with_client i g s.clients =
      ap (λ cs. delivered (coming_to i qs) cs) (with_to i f s.clients c d below is new)
      ∙ delivered_to i qs (with_client i f s.clients)
      ∙ with_twice i (gets qs) f s.clients
      ∙ with_at i (λ x. gets qs (f x)) s.clients c below
      ∙ ap (λ x. set s.clients i (gets qs (f x))) (sym is)
      ∙ ap (λ ps. set s.clients i (gets ps (f c))) brought
      ∙ ap (set s.clients i) (all c)
      ∙ ap (λ x. set s.clients i (g x)) is
      ∙ sym (with_at i g s.clients c below) in
      (λ j. record { clients = a j; retained = s.retained })
      ∙ changes_none (of_client_at i m s.clients c below is ∙ sym none)

-- ---- wills

pub lost_of : (w : Option Will) (p : Publish) → p ∷ [] ≡ lost_message w → message_of w ≡ p ∷ []
lost_of None p e = absurd cc
lost_of (Some w) p e = by w.delayed e
  where
    by : (b : Bool) → p ∷ [] ≡ cond b [] (w.publish ∷ []) → w.publish ∷ [] ≡ p ∷ []
    by true e = absurd cc
    by false e = sym e

pub due_of : (here : Bool) (w : Option Will) (p : Publish) → p ∷ [] ≡ due_message here w → message_of w ≡ p ∷ []
due_of true w p e = absurd cc
due_of false w p e = sym e

pub replaced_of : (here : Bool) (w : Option Will) (p : Publish) → p ∷ [] ≡ replaced_message here w → message_of w ≡ p ∷ []
replaced_of true w p e = lost_of w p e
replaced_of false w p e = absurd cc

-- what was made of a will is what comes of it, where it is published
pub will_made : (i : ℕ) (cs : List ClientState) (c : ClientState) (es : List Coming) (m : ClientState → List Publish) → i < length cs → c ≡ slice_index_or cs i c
    → es ≡ coming_of_will i cs (of_client i (λ (c : ClientState). message_of c.will) cs)
    → ((p : Publish) → p ∷ [] ≡ m c → message_of c.will ≡ p ∷ [])
    → (p : Publish) → p ∷ [] ≡ m c → es ≡ coming_of i p cs
will_made i cs c es m below is made given p e =
    made ∙ ap (coming_of_will i cs) (of_client_at i (λ (c : ClientState). message_of c.will) cs c below is ∙ given p e)

-- ---- packets

abbrev heard : Packet → ClientState → ClientState
heard x c = record c { kept = without_events (kept_of (after_packet c.kept x)) }

publish_is : (q : QoS) (k : Kept) (p x : Publish) → x ∷ [] ≡ (serve_publish q (alone k).receiver p).1.handed → x ≡ p
publish_is AtMostOnce k p x e = ap (λ ps. slice_index_or ps 0 p) e
publish_is AtLeastOnce k p x e = ap (λ ps. slice_index_or ps 0 p) e
publish_is ExactlyOnce k p x e = by (set_of.contains k.ids p.pkid) e
  where
    by : (had : Bool) → x ∷ [] ≡ cond had [] (p ∷ []) → x ≡ p
    by true e = absurd cc
    by false e = ap (λ ps. slice_index_or ps 0 p) e

other_made : (i : ℕ) (kept : List Publish) (cs : List ClientState) (x : Packet) → is_publish x ≡ false
    → coming_for i kept cs x ≡ coming_to i (of_client i (λ (c : ClientState). copies_for kept c.kept.subscriptions x) cs)
other_made i kept cs (packets.Publish p) h = absurd cc
other_made i kept cs other h = refl

none_handed : (k : Kept) (x : Packet) → is_publish x ≡ false → [] ≡ (after_packet k x).receiver.handed
none_handed k (packets.Publish p) h = absurd cc
none_handed k other h = refl

module _ (i : ℕ) (s : Sessions) (c d : ClientState) where
  pub publish_arrives : (x : Packet) (o : Option Publish) (es : List Coming) → is_publish x ≡ true → i < length s.clients → c ≡ slice_index_or s.clients i c → d ≡ heard x c
      → option_to_list o ≡ (after_packet c.kept x).receiver.handed → es ≡ coming_for i s.retained s.clients x
      → record { clients = delivered (chosen es o) (set s.clients i d); retained = retained_after s.retained (option_to_list o) } ≡ arrives i x s
  publish_arrives (packets.Publish p) o es h below is new handed made =
      commits i (λ (c : ClientState). gets [] (heard (packets.Publish p) c)) (λ (c : ClientState). (after_packet c.kept (packets.Publish p)).receiver.handed) s c d o es below is
      (new ∙ sym (gets_none (heard (packets.Publish p) c))) handed (λ c. refl)
      (λ q e. made ∙ ap (λ x. coming_of i x s.clients) (sym (publish_is p.qos c.kept p q e)))
  publish_arrives other o es h below is new handed made = absurd cc

  pub other_arrives : (x : Packet) (es : List Coming) → is_publish x ≡ false → i < length s.clients → c ≡ slice_index_or s.clients i c → d ≡ heard x c
      → es ≡ coming_for i s.retained s.clients x
      → record { clients = delivered es (set s.clients i d); retained = s.retained } ≡ arrives i x s
  other_arrives x es h below is new made =
      let ps : ClientState → List Publish = λ (c : ClientState). copies_for s.retained c.kept.subscriptions x in
      ap (λ es. record { clients = delivered es (set s.clients i d); retained = s.retained }) (made ∙ other_made i s.retained s.clients x h)
      ∙ commits_to i (λ (c : ClientState). gets (ps c) (heard x c)) (λ (c : ClientState). (after_packet c.kept x).receiver.handed) s (heard x) ps c d (of_client i ps s.clients) below is new
      (none_handed c.kept x h) (of_client_at i ps s.clients c below is) (λ c. refl)

-- ---- what is sent

sent_at : (i : ℕ) (f : ClientState → List Packet) (cs : List ClientState) (c : ClientState) → i < length cs → to_client i f cs ≡ f (slice_index_or cs i c)
sent_at i f [] c below = absurd (omega arith)
sent_at zero f (d ∷ cs) c below = refl
sent_at (suc i) f (d ∷ cs) c below = sent_at i f cs c (omega arith)

pub sent_to : (i : ℕ) (f : ClientState → List Packet) (cs : List ClientState) (c : ClientState) → i < length cs → c ≡ slice_index_or cs i c → f c ≡ to_client i f cs
sent_to i f cs c below is = ap f is ∙ sym (sent_at i f cs c below)

pub sent_past : (i : ℕ) (f : ClientState → List Packet) (cs : List ClientState) → length cs ≤ i → [] ≡ to_client i f cs
sent_past i f [] past = refl
sent_past zero f (c ∷ cs) past = absurd (omega arith)
sent_past (suc i) f (c ∷ cs) past = sent_past i f cs (omega arith)

-- ---- as it is seen

-- once nothing is on its way
pub settled : (es fs : List Coming) (cs ds : List ClientState) (kept : List Publish) (s : Sessions) → fs ≡ [] → delivered fs ds ≡ delivered es cs → record { clients = delivered es cs; retained = kept } ≡ s → record { clients = ds; retained = kept } ≡ s
settled es fs cs ds kept s none same seen =
    ap (λ (cs : List ClientState). record { clients = cs; retained = kept }) (ap (λ fs. delivered fs ds) (sym none) ∙ same) ∙ seen

module _ (i : ℕ) (g : ClientState → ClientState) (m : ClientState → List Publish) (cs : List ClientState) (kept : List Publish) where
  -- of a client that isn't there
  pub seen_past : (es : List Coming) → es ≡ [] → length cs ≤ i → record { clients = delivered es cs; retained = kept } ≡ changes i g m (record { clients = cs; retained = kept })
  seen_past es none past =
      ap (λ es. record { clients = delivered es cs; retained = kept }) none ∙ changes_past i g m (record { clients = cs; retained = kept }) past

  -- though publishes are on their way
  pub seen_past_all : (es : List Coming) → length cs ≤ i → record { clients = delivered es cs; retained = kept } ≡ changes i g m (record { clients = delivered es cs; retained = kept })
  seen_past_all es past = changes_past i g m (record { clients = delivered es cs; retained = kept }) (let l = delivered_long es cs in omega (arith, l, past))

  -- where nothing is handed on
  pub seen_none : (c d : ClientState) (es : List Coming) → es ≡ [] → i < length cs → c ≡ slice_index_or cs i c → d ≡ g c → [] ≡ m c
      → record { clients = delivered es (set cs i d); retained = kept } ≡ changes i g m (record { clients = cs; retained = kept })
  seen_none c d es none below is new nothing =
      (λ j. record { clients = delivered (none j) (with_to i g cs c d below is new j); retained = kept })
      ∙ changes_none i g m (record { clients = cs; retained = kept }) (of_client_at i m cs c below is ∙ sym nothing)

  -- where the client's will may be
  pub seen_will : (c d : ClientState) (o : Option Publish) (made es : List Coming) (left : List Publish) → i < length cs → c ≡ slice_index_or cs i c → d ≡ g c → option_to_list o ≡ m c
      → ((c : ClientState) → (g c).kept.subscriptions ≡ c.kept.subscriptions)
      → made ≡ coming_of_will i cs (of_client i (λ (c : ClientState). message_of c.will) cs) → ((p : Publish) → p ∷ [] ≡ m c → message_of c.will ≡ p ∷ [])
      → es ≡ chosen made o → left ≡ retained_after kept (option_to_list o)
      → record { clients = delivered es (set cs i d); retained = left } ≡ changes i g m (record { clients = cs; retained = kept })
  seen_will c d o made es left below is new handed same will given comes stays =
      (λ j. record { clients = delivered (comes j) (set cs i d); retained = stays j })
      ∙ commits i g m (record { clients = cs; retained = kept }) c d o made below is new handed same (will_made i cs c made m below is will given)

-- what is made of a will
pub will_some : (i : ℕ) (cs : List ClientState) (c : ClientState) (p : Publish) → i < length cs → c ≡ slice_index_or cs i c → message_of c.will ≡ p ∷ []
    → coming_of i p cs ≡ coming_of_will i cs (of_client i (λ (c : ClientState). message_of c.will) cs)
will_some i cs c p below is will = sym (ap (coming_of_will i cs) (of_client_at i (λ (c : ClientState). message_of c.will) cs c below is ∙ will))

pub will_none : (i : ℕ) (cs : List ClientState) (c : ClientState) → i < length cs → c ≡ slice_index_or cs i c → message_of c.will ≡ []
    → [] ≡ coming_of_will i cs (of_client i (λ (c : ClientState). message_of c.will) cs)
will_none i cs c below is will = sym (ap (coming_of_will i cs) (of_client_at i (λ (c : ClientState). message_of c.will) cs c below is ∙ will))

-- what is made of another packet
not_publish : (x : Packet) → ((p : Publish) → x ≡ packets.Publish p → ⊥) → is_publish x ≡ false
not_publish (packets.Publish p) not = absurd (not p refl)
not_publish other not = refl

pub other_is : (i : ℕ) (kept : List Publish) (cs : List ClientState) (x : Packet) (c : ClientState) (qs : List Publish) → ((p : Publish) → x ≡ packets.Publish p → ⊥) → i < length cs → c ≡ slice_index_or cs i c
    → qs ≡ copies_for kept c.kept.subscriptions x → coming_to i qs ≡ coming_for i kept cs x
other_is i kept cs x c qs not below is copies =
    let ps : ClientState → List Publish = λ (c : ClientState). copies_for kept c.kept.subscriptions x in
    ap (coming_to i) (copies ∙ sym (of_client_at i ps cs c below is)) ∙ sym (other_made i kept cs x (not_publish x not))

-- a packet, as it is seen
module _ (i : ℕ) (cs : List ClientState) (kept : List Publish) (c d : ClientState) (x : Packet) where
  pub seen_publish : (o : Option Publish) (made es : List Coming) (left : List Publish) → is_publish x ≡ true → i < length cs → c ≡ slice_index_or cs i c → d ≡ heard x c
      → option_to_list o ≡ (after_packet c.kept x).receiver.handed → made ≡ coming_for i kept cs x → es ≡ chosen made o → left ≡ retained_after kept (option_to_list o)
      → record { clients = delivered es (set cs i d); retained = left } ≡ arrives i x (record { clients = cs; retained = kept })
  seen_publish o made es left h below is new handed prepared comes stays =
      (λ j. record { clients = delivered (comes j) (set cs i d); retained = stays j })
      ∙ publish_arrives i (record { clients = cs; retained = kept }) c d x o made h below is new handed prepared

  pub seen_other : (made : List Coming) (left : List Publish) → is_publish x ≡ false → i < length cs → c ≡ slice_index_or cs i c → d ≡ heard x c → made ≡ coming_for i kept cs x → left ≡ kept
      → record { clients = delivered made (set cs i d); retained = left } ≡ arrives i x (record { clients = cs; retained = kept })
  seen_other made left h below is new prepared stays =
      (λ j. record { clients = delivered made (set cs i d); retained = stays j })
      ∙ other_arrives i (record { clients = cs; retained = kept }) c d x made h below is new prepared

-- a session that ends
of_client_with : (i : ℕ) (h : ClientState → ClientState) (m : ClientState → List Publish) (cs : List ClientState) → ((c : ClientState) → m (h c) ≡ m c) → of_client i m (with_client i h cs) ≡ of_client i m cs
of_client_with i h m [] same = refl
of_client_with zero h m (c ∷ cs) same = same c
of_client_with (suc i) h m (c ∷ cs) same = of_client_with i h m cs same

-- where it is renewed first
pub seen_renewed : (i : ℕ) (g h : ClientState → ClientState) (m : ClientState → List Publish) (cs ds : List ClientState) (kept : List Publish) (c d : ClientState) → i < length cs → c ≡ slice_index_or cs i c → d ≡ h c
    → ds ≡ set cs i d → ((c : ClientState) → m (h c) ≡ m c)
    → changes i g m (record { clients = ds; retained = kept }) ≡ changes i (λ c. g (h c)) m (record { clients = cs; retained = kept })
seen_renewed i g h m cs ds kept c d below is new at same =
    let a : ds ≡ with_client i h cs = at ∙ with_to i h cs c d below is new in
    let b : of_client i m ds ≡ of_client i m cs = ap (of_client i m) a ∙ of_client_with i h m cs same in
    let e : with_client i g ds ≡ with_client i (λ c. g (h c)) cs = ap (with_client i g) a ∙ with_twice i g h cs in
    λ j. record { clients = queues_all i (b j) (e j); retained = retained_after kept (b j) }

-- the place that was set
pub set_below : (i : ℕ) (cs : List ClientState) (c d : ClientState) → i < length cs → i < length (set cs i d)
set_below i cs c d below = let e = ap (λ (cs : List ClientState). length cs) (sym (with_at i (λ y. d) cs c below)) ∙ with_long i (λ y. d) cs in omega (arith, below, e)

pub at_set : (i : ℕ) (cs : List ClientState) (d y : ClientState) → i < length cs → slice_index_or (set cs i d) i y ≡ d
at_set i [] d y below = absurd (omega arith)
at_set zero (c ∷ cs) d y below = refl
at_set (suc i) (c ∷ cs) d y below = at_set i cs d y (omega arith)

pub at_same : (i : ℕ) (cs : List ClientState) (x y : ClientState) → i < length cs → x ≡ slice_index_or cs i x → y ≡ slice_index_or cs i y → y ≡ x
at_same i cs x y below is there = there ∙ by i cs below ∙ sym is
  where
    by : (i : ℕ) (cs : List ClientState) → i < length cs → slice_index_or cs i y ≡ slice_index_or cs i x
    by i [] below = absurd (omega arith)
    by zero (c ∷ cs) below = refl
    by (suc i) (c ∷ cs) below = by i cs (omega arith)

-- and is what it was again
pub set_again : (i : ℕ) (cs : List ClientState) (c d e : ClientState) → i < length cs → c ≡ slice_index_or cs i c → e ≡ c → set (set cs i d) i e ≡ cs
set_again i cs c d e below is back =
    ap (set (set cs i d) i) back
    ∙ sym (with_at i (λ y. c) (set cs i d) c (set_below i cs c d below))
    ∙ ap (with_client i (λ y. c)) (sym (with_at i (λ y. d) cs c below))
    ∙ with_twice i (λ y. c) (λ y. d) cs
    ∙ with_at i (λ y. c) cs c below
    ∙ ap (set cs i) is
    ∙ sym (with_at i (λ y. y) cs c below)
    ∙ with_same i (λ y. y) cs (λ y. refl)

-- ---- changes that look at no queue

pub nothing_of : (i : ℕ) (cs : List ClientState) → of_client i (λ c. []) cs ≡ []
nothing_of i [] = refl
nothing_of zero (c ∷ cs) = refl
nothing_of (suc i) (c ∷ cs) = nothing_of i cs

-- of a client, though publishes are on their way to it
pub seen_changed : (g : ClientState → ClientState) → ((ps : List Publish) (c : ClientState) → gets ps (g c) ≡ g (gets ps c))
    → (i : ℕ) (es : List Coming) (cs : List ClientState) (kept : List Publish) (s : Sessions) (c d : ClientState) → i < length cs → c ≡ slice_index_or cs i c → d ≡ g c
    → record { clients = delivered es cs; retained = kept } ≡ s → record { clients = delivered es (set cs i d); retained = kept } ≡ changes i g (λ c. []) s
seen_changed g same i es cs kept s c d below is new seen =
    (λ j. record { clients = delivered es (with_to i g cs c d below is new j); retained = kept })
    ∙ (λ j. record { clients = change_delivered g same i es cs j; retained = kept })
    ∙ changes_none i g (λ c. []) (record { clients = delivered es cs; retained = kept }) (nothing_of i (delivered es cs))
    ∙ ap (changes i g (λ c. [])) seen

-- of one that isn't there
pub seen_unchanged : (g : ClientState → ClientState) (i : ℕ) (es : List Coming) (cs : List ClientState) (kept : List Publish) (s : Sessions) → length cs ≤ i
    → record { clients = delivered es cs; retained = kept } ≡ s → s ≡ changes i g (λ c. []) s
seen_unchanged g i es cs kept s past seen =
    sym seen ∙ seen_past_all i g (λ c. []) cs kept es past ∙ ap (changes i g (λ c. [])) seen

-- ---- the interval of a will

interval_back : (n : Option ℕ) (o : Option PublishProperties) → option_map (expiring_in (expiry_in o)) (option_map (expiring_in n) o) ≡ o
interval_back n None = refl
interval_back n (Some set) = refl

will_back : (n : Option ℕ) (w : Option Will) → option_map (expiring (expiry_of_will w)) (option_map (expiring n) w) ≡ w
will_back n None = refl
will_back n (Some w) = λ j. Some (record w { publish = record w.publish { properties = interval_back n w.publish.properties j } })

with_back : (i : ℕ) (n : Option ℕ) (d : ClientState) (cs : List ClientState) → with_client i (with_dated_will (expiry_of_will (slice_index_or cs i d).will)) (with_client i (with_dated_will n) cs) ≡ cs
with_back i n d [] = refl
with_back zero n d (c ∷ cs) = λ j. record c { will = will_back n c.will j } ∷ cs
with_back (suc i) n d (c ∷ cs) = ap (λ xs. c ∷ xs) (with_back i n d cs)

-- another one, and then the one before
pub dated_back : (i : ℕ) (n : Option ℕ) (s : Sessions) → dates i (will_expiry i s) (dates i n s) ≡ s
dated_back i n s =
    let t : Sessions = record s { clients = with_client i (with_dated_will n) s.clients } in
    let m : Option ℕ = will_expiry i s in
    ap (dates i m) (sym (changes_none i (with_dated_will n) (λ c. []) s (nothing_of i s.clients)))
    ∙ sym (changes_none i (with_dated_will m) (λ c. []) t (nothing_of i t.clients))
    ∙ (λ j. record s { clients = with_back i n (new_state 0) s.clients j })

-- what is sent again doesn't look at it
to_client_with : (i : ℕ) (f : ClientState → List Packet) (g : ClientState → ClientState) (cs : List ClientState) → ((c : ClientState) → f (g c) ≡ f c) → to_client i f (with_client i g cs) ≡ to_client i f cs
to_client_with i f g [] same = refl
to_client_with zero f g (c ∷ cs) same = same c
to_client_with (suc i) f g (c ∷ cs) same = to_client_with i f g cs same

pub sent_dated : (i : ℕ) (n m : Option ℕ) (s : Sessions) → sent_again i m (dates i n s) ≡ sent_again i m s
sent_dated i n m s =
    ap (sent_again i m) (sym (changes_none i (with_dated_will n) (λ c. []) s (nothing_of i s.clients)))
    ∙ to_client_with i (λ (c : ClientState). sent_in (resume_of (connected m c.kept.sender) 0)) (with_dated_will n) s.clients (λ c. refl)

-- ---- the first of a queue

pub expiry_of_none : (ps : List Publish) → (length ps == 0) ≡ true → None ≡ first_expiry ps
expiry_of_none ps h = sym (ap first_expiry (nil_from_length ps (eqb-true (length ps) 0 h)))

pub expiry_of_first : (ps : List Publish) (x : Publish) → (length ps == 0) ≡ false → x ≡ slice_index_or ps 0 x → first_expiry ps ≡ expiry_of x
expiry_of_first [] x h is = absurd cc
expiry_of_first (p ∷ ps) x h is = ap expiry_of (sym is)
