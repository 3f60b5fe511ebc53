-- The next step of a network finds something to do, and steps come to rest.
use Rattle.std.proofs.Common.{◌≡◌, ℕ, zero, suc, ◌+◌, ◌-◌, ◌<◌, ◌≤◌, ◌==◌, true, false, List, [], ◌∷◌, ◌++◌, length, take, Some, None, refl, sym, ap, ◌∙◌, subst, arith, slice_index_or, length-append}
use Rattle.std.specs.Prelude.{Bool}
use Rattle.std.proofs.lemmas.Bool.{eqb-true}
use Rattle.std.proofs.lemmas.List.{take_all, nil_from_length}
use Rattle.std.specs.List.{All}
use Rattle.std.proofs.lemmas.List.Elements.{All-more}
use Rattle.mqtt5_publish.specs.declared.publish.Publish.{Publish}
use Rattle.mqtt5_codec.specs.declared.packet.Packet.{Packet}
use Rattle.mqtt5_progress.specs.Progress.{found}
use Rattle.mqtt5_network.specs.declared.event.ClientEvent.{ClientEvent}
use Rattle.mqtt5_network.specs.declared.event.ClientEvent.TheVariants as events
use Rattle.mqtt5_network.specs.declared.event.NetworkEvent.{NetworkEvent}
use Rattle.mqtt5_network.specs.Client.{passes_on}
use Rattle.mqtt5_network.specs.Place.{Place, becomes_with, passes, AtRest}
use Rattle.mqtt5_network.specs.Network.{Network, Profile, start_network, changed, routes, handed_by, happens_in, run_network, IsReached}
use Rattle.mqtt5_network.specs.Steps.{IsStep, Steps, work_left, client_moves, at_place, moves}
use Rattle.mqtt5_network.proofs.Joined.{joined, place_of}
use Rattle.mqtt5_network.proofs.Places.{IsPlace, here_of}
use Rattle.mqtt5_network.proofs.Stepping.{passes_moves, network_lowers}
use Rattle.mqtt5_network_play.specs.Plays.{next_for, next_at, next_of, RestsHere, RestsBefore}
use Rattle.mqtt5_network_play.specs.Reports.{TakesSteps}
use Rattle.mqtt5_network_play.proofs.Placed.{none_routed}

-- ---- the next step of a client

not_none : {A : Type 0} (x : A) (xs : List A) → (length (x ∷ xs) == 0) ≡ true → ⊥
not_none x xs h = let e = eqb-true (length (x ∷ xs)) 0 h in omega (arith, e)

pub next_up : (us ds : List Packet) (ps : List Publish) → (length us == 0) ≡ false → next_for us ds ps ≡ Some events.Up
next_up [] ds ps h = absurd cc
next_up (x ∷ us) ds ps h = refl

pub next_down : (us ds : List Packet) (ps : List Publish) → (length us == 0) ≡ true → (length ds == 0) ≡ false → next_for us ds ps ≡ Some events.Down
next_down (x ∷ us) ds ps h k = absurd (not_none x us h)
next_down [] [] ps h k = absurd cc
next_down [] (x ∷ ds) ps h k = refl

pub next_pass : (us ds : List Packet) (ps : List Publish) → (length us == 0) ≡ true → (length ds == 0) ≡ true → (length ps == 0) ≡ false → next_for us ds ps ≡ Some events.PassOn
next_pass (x ∷ us) ds ps h k l = absurd (not_none x us h)
next_pass [] (x ∷ ds) ps h k l = absurd (not_none x ds k)
next_pass [] [] [] h k l = absurd cc
next_pass [] [] (p ∷ ps) h k l = refl

pub next_none : (us ds : List Packet) (ps : List Publish) → (length us == 0) ≡ true → (length ds == 0) ≡ true → (length ps == 0) ≡ true → next_for us ds ps ≡ None
next_none (x ∷ us) ds ps h k l = absurd (not_none x us h)
next_none [] (x ∷ ds) ps h k l = absurd (not_none x ds k)
next_none [] [] (p ∷ ps) h k l = absurd (not_none p ps l)
next_none [] [] [] h k l = refl

pub away_none : (p : Place) → p.here ≡ false → next_of p ≡ None
away_none p h = ap (λ b. next_at b p.client.up p.client.down p.client.queue) h

pub here_next : (p : Place) → p.here ≡ true → next_of p ≡ next_for p.client.up p.client.down p.client.queue
here_next p h = ap (λ b. next_at b p.client.up p.client.down p.client.queue) h

none_next : (p : Place) → next_of p ≡ None → RestsHere p
none_next p n here = by p.client.up p.client.down p.client.queue refl refl refl (sym (here_next p here) ∙ n)
  where
    by : (us ds : List Packet) (ps : List Publish) → p.client.up ≡ us → p.client.down ≡ ds → p.client.queue ≡ ps → next_for p.client.up p.client.down p.client.queue ≡ None → AtRest p
    by (x ∷ us) ds ps u d l n = absurd (let z : next_for (x ∷ us) p.client.down p.client.queue ≡ None = subst (λ us. next_for us p.client.down p.client.queue ≡ None) u n in cc)
    by [] (x ∷ ds) ps u d l n = absurd (let z : next_for [] (x ∷ ds) p.client.queue ≡ None = subst (λ ds. next_for [] ds p.client.queue ≡ None) d (subst (λ us. next_for us p.client.down p.client.queue ≡ None) u n) in cc)
    by [] [] (x ∷ ps) u d l n = absurd (let z : next_for [] [] (x ∷ ps) ≡ None = subst (λ ps. next_for [] [] ps ≡ None) l (subst (λ ds. next_for [] ds p.client.queue ≡ None) d (subst (λ us. next_for us p.client.down p.client.queue ≡ None) u n)) in cc)
    by [] [] [] u d l n = record { here = here; up = u; down = d; queue = l }

-- where there is one, it is here, and not at rest
is_here : (p : Place) (e : ClientEvent) → next_of p ≡ Some e → p.here ≡ true
is_here p e h = by p.here refl
  where
    by : (b : Bool) → p.here ≡ b → p.here ≡ true
    by true i = i
    by false i = absurd (let z : None ≡ Some e = sym (away_none p i) ∙ h in cc)

some_next : (p : Place) (e : ClientEvent) → next_of p ≡ Some e → RestsHere p → ⊥
some_next p e h rest =
    let here = is_here p e h in
    let r = rest here in
    let n : next_for p.client.up p.client.down p.client.queue ≡ Some e = sym (here_next p here) ∙ h in
    let a : next_for [] [] [] ≡ Some e = subst (λ ps. next_for [] [] ps ≡ Some e) r.queue (subst (λ ds. next_for [] ds p.client.queue ≡ Some e) r.down (subst (λ us. next_for us p.client.down p.client.queue ≡ Some e) r.up n)) in
    cc

pub next_is_step : (p : Place) (e : ClientEvent) → next_of p ≡ Some e → IsStep e
next_is_step p e h = by p.client.up p.client.down p.client.queue (sym (here_next p (is_here p e h)) ∙ h)
  where
    by : (us ds : List Packet) (ps : List Publish) → next_for us ds ps ≡ Some e → IsStep e
    by (x ∷ us) ds ps h = let k : events.Up ≡ e = cc in subst IsStep k (tt {0})
    by [] (x ∷ ds) ps h = let k : events.Down ≡ e = cc in subst IsStep k (tt {0})
    by [] [] (p ∷ ps) h = let k : events.PassOn ≡ e = cc in subst IsStep k (tt {0})
    by [] [] [] h = absurd cc

module _ (handed : List Publish) (p : Place) (i : IsPlace handed p) (can : 0 < p.client.sender.core.limit) where
  next_found : (e : ClientEvent) → next_of p ≡ Some e → client_moves e p ≡ 1
  next_found e h = by p.client.up p.client.down p.client.queue refl refl refl (sym (here_next p here) ∙ h)
    where
      here : p.here ≡ true
      here = is_here p e h

      by : (us ds : List Packet) (ps : List Publish) → p.client.up ≡ us → p.client.down ≡ ds → p.client.queue ≡ ps → next_for p.client.up p.client.down p.client.queue ≡ Some e → client_moves e p ≡ 1
      by (x ∷ us) ds ps u d l n =
          let z : next_for (x ∷ us) p.client.down p.client.queue ≡ Some e = subst (λ us. next_for us p.client.down p.client.queue ≡ Some e) u n in
          let k : events.Up ≡ e = cc in
          subst (λ e. client_moves e p ≡ 1) k (ap found u)
      by [] (x ∷ ds) ps u d l n =
          let z : next_for [] (x ∷ ds) p.client.queue ≡ Some e = subst (λ ds. next_for [] ds p.client.queue ≡ Some e) d (subst (λ us. next_for us p.client.down p.client.queue ≡ Some e) u n) in
          let k : events.Down ≡ e = cc in
          subst (λ e. client_moves e p ≡ 1) k (ap found d)
      by [] [] (x ∷ rest) u d l n =
          let z : next_for [] [] (x ∷ rest) ≡ Some e = subst (λ ps. next_for [] [] ps ≡ Some e) l (subst (λ ds. next_for [] ds p.client.queue ≡ Some e) d (subst (λ us. next_for us p.client.down p.client.queue ≡ Some e) u n)) in
          let k : events.PassOn ≡ e = cc in
          subst (λ e. client_moves e p ≡ 1) k
          (ap (λ b. length p.client.queue - length (passes b p.client).queue) here
          ∙ ap (λ xs. length p.client.queue - length (passes_on p.client xs).queue) l
          ∙ passes_moves handed p.client (here_of handed p i here) can x rest l u d)
      by [] [] [] u d l n = absurd (let z : next_for [] [] [] ≡ Some e = subst (λ ps. next_for [] [] ps ≡ Some e) l (subst (λ ds. next_for [] ds p.client.queue ≡ Some e) d (subst (λ us. next_for us p.client.down p.client.queue ≡ Some e) u n)) in cc)

-- ---- the next step of a network

at_place_of : (i : ℕ) (f : Place → ℕ) (ps : List Place) (p : Place) → i < length ps → at_place i f ps ≡ f (slice_index_or ps i p)
at_place_of i f [] p below = absurd (omega arith)
at_place_of zero f (q ∷ ps) p below = refl
at_place_of (suc i) f (q ∷ ps) p below = at_place_of i f ps p (omega arith)

-- by what the code sees of the client at a place
module _ (n : Network) (i : ℕ) (x : Place) (ps : List Place) (places : ps ≡ n.places) (below : i < length ps) (is : x ≡ slice_index_or ps i x) where
  there : i < length n.places
  there = subst (λ ps. i < length ps) places below

  at : x ≡ slice_index_or n.places i x
  at = is ∙ ap (λ ps. slice_index_or ps i x) places

  pub moves_at : (what : ClientEvent) → 0 < x.client.sender.core.limit → Some what ≡ next_of x → IsReached n → moves n (record { client = i; what = what }) ≡ 1
  moves_at what can h r =
      at_place_of i (client_moves what) n.places x there
      ∙ ap (client_moves what) (sym at)
      ∙ next_found n.handed x (place_of n x (joined n r) (i, there, sym at)) can what (sym h)

  pub busy_at : (what : ClientEvent) → Some what ≡ next_of x → All RestsHere n.places → ⊥
  busy_at what h rest = some_next x what (sym h) (subst RestsHere (sym at) (rest i x there))

  pub rest_at : None ≡ next_of x → All RestsHere (take i n.places) → All RestsHere (take (i + 1) n.places)
  rest_at h rest = All-more RestsHere n.places i x there rest (subst RestsHere at (none_next x (sym h)))

pub rest_all : (n : Network) (i : ℕ) (ps : List Place) → ps ≡ n.places → length ps ≤ i → All RestsHere (take i n.places) → All RestsHere n.places
rest_all n i ps places past rest = subst (All RestsHere) (take_all i n.places (subst (λ ps. length ps ≤ i) places past)) rest

-- ---- the clients before a place

take_before : (i k : ℕ) (f : Place → Place) (ps : List Place) → k ≤ i → take k (changed i f ps) ≡ take k ps
take_before i zero f ps le = refl
take_before i (suc k) f [] le = refl
take_before zero (suc k) f (p ∷ ps) le = absurd (omega arith)
take_before (suc i) (suc k) f (p ∷ ps) le = ap (λ xs. p ∷ xs) (take_before i k f ps (omega arith))

none_more : (ps qs : List Publish) → length (ps ++ qs) ≡ length ps → qs ≡ []
none_more ps qs h = nil_from_length qs (let l = length-append ps qs in omega (arith, l, h))

-- they stay at rest where nothing is handed on
pub rest_kept : (n m : Network) (e : NetworkEvent) → m ≡ happens_in n e → length m.handed ≡ length n.handed → RestsBefore e.client n → RestsBefore e.client m
rest_kept n m e same long rest =
    let f : Place → Place = becomes_with n.handed e.what in
    let handed : handed_by n e ≡ [] = none_more n.handed (handed_by n e) (ap (λ (x : Network). length x.handed) (sym same) ∙ long) in
    let places : take e.client (happens_in n e).places ≡ take e.client n.places =
    ap (λ xs. take e.client (routes e.client xs (changed e.client f n.places))) handed
    ∙ ap (take e.client) (none_routed e.client (changed e.client f n.places))
    ∙ take_before e.client e.client f n.places (omega arith) in
    subst (RestsBefore e.client) (sym same) (subst (All RestsHere) (sym places) rest)

-- ---- runs

run_append : (es fs : List NetworkEvent) (n : Network) → run_network (es ++ fs) n ≡ run_network fs (run_network es n)
run_append [] fs n = refl
run_append (e ∷ es) fs n = run_append es fs (happens_in n e)

pub reached_by : (ps : List Profile) (es : List NetworkEvent) (n : Network) → n ≡ run_network es (start_network ps) → IsReached n
reached_by ps es n same = record { profiles = ps; events = es; reached = same }

pub run_on : (ps : List Profile) (es : List NetworkEvent) (m : Network) → (t : TakesSteps (run_network es (start_network ps)) m) → m ≡ run_network (es ++ t.more) (start_network ps)
run_on ps es m t = t.same ∙ sym (run_append es t.more (start_network ps))

pub reached_next : (n m : Network) (e : NetworkEvent) → IsReached n → m ≡ happens_in n e → IsReached m
reached_next n m e r same = record {
  profiles = r.profiles;
  events = r.events ++ e ∷ [];
  reached = same ∙ ap (λ n. happens_in n e) r.reached ∙ sym (run_append r.events (e ∷ []) (start_network r.profiles));
}

steps_more : (es : List NetworkEvent) (e : NetworkEvent) → Steps es → IsStep e.what → Steps (es ++ e ∷ [])
steps_more [] e h s = (s, tt {0})
steps_more (f ∷ es) e h s = (h.0, steps_more es e h.1 s)

pub no_steps : (n : Network) → TakesSteps n n
no_steps n = record { more = []; steps = tt {0}; same = refl }

pub one_step : (old n m : Network) (e : NetworkEvent) → TakesSteps old n → IsStep e.what → m ≡ happens_in n e → TakesSteps old m
one_step old n m e t s same = record {
  more = t.more ++ e ∷ [];
  steps = steps_more t.more e t.steps s;
  same = same ∙ ap (λ n. happens_in n e) t.same ∙ sym (run_append t.more (e ∷ []) old);
}

pub step_lowers : (n m : Network) (e : NetworkEvent) → IsReached n → IsStep e.what → moves n e ≡ 1 → m ≡ happens_in n e → work_left m < work_left n
step_lowers n m e r s found same =
    let l = network_lowers n (e ∷ []) r (s, tt {0}) in
    let w = ap work_left same in
    omega (arith, l, w, found)
