-- The clients of sessions, of which one changes.
use Rattle.std.proofs.Common.{◌≡◌, ◌≢◌, ℕ, zero, suc, Bool, true, false, List, [], ◌∷◌, ◌++◌, Option, None, refl, sym, ap, ◌∙◌, length, map, Result, Ok, Err, ◌⊎◌, inl, inr, arith}
use Rattle.mqtt5_inflight.specs.declared.error.StateError.{StateError}
use Rattle.mqtt5_publish.specs.declared.publish.Publish.{Publish}
use Rattle.mqtt5_codec.specs.declared.packet.Packet.{Packet}
use Rattle.mqtt5_session.specs.Session.{Session}
use Rattle.mqtt5_network.specs.declared.event.Will.{Will}
use Rattle.mqtt5_network.specs.declared.subscription.Subscription.{Subscription}
use Rattle.mqtt5_network.specs.Client.{Client, taken_for}
use Rattle.mqtt5_network.specs.Client as network_client
use Rattle.mqtt5_network.specs.Place.{lost_message, waiting, replaced_message, due_message, not_due, left_will, message_of}
use Rattle.mqtt5_router.specs.Kept.{Kept, new_kept, without_first, alone}
use Rattle.mqtt5_sessions.specs.Sessions.{Sessions, ClientState, new_state, queues, queues_all, with_client, of_client, changes, passes_here, passes, takes_out, loses, is_due, with_dated_will, dates, leaves, taken_up, comes, ends}
use Rattle.mqtt5_broker.specs.Within.{subscriptions_in, subscriptions_at}

abbrev pub subscriptions_of : ClientState → List Subscription
subscriptions_of c = c.kept.subscriptions

mapped_subscriptions : (xs : List Publish) (j : ℕ) (cs : List ClientState) → subscriptions_in j (map (queues false xs) cs) ≡ subscriptions_in j cs
mapped_subscriptions xs j [] = refl
mapped_subscriptions xs zero (c ∷ cs) = refl
mapped_subscriptions xs (suc j) (c ∷ cs) = mapped_subscriptions xs j cs

queued_subscriptions : (i : ℕ) (xs : List Publish) (j : ℕ) (cs : List ClientState) → subscriptions_in j (queues_all i xs cs) ≡ subscriptions_in j cs
queued_subscriptions i xs j [] = refl
queued_subscriptions zero xs zero (c ∷ cs) = refl
queued_subscriptions zero xs (suc j) (c ∷ cs) = mapped_subscriptions xs j cs
queued_subscriptions (suc i) xs zero (c ∷ cs) = refl
queued_subscriptions (suc i) xs (suc j) (c ∷ cs) = queued_subscriptions i xs j cs

mapped_count : (f : ClientState → ClientState) (cs : List ClientState) → length (map f cs) ≡ length cs
mapped_count f [] = refl
mapped_count f (c ∷ cs) = ap suc (mapped_count f cs)

queued_count : (i : ℕ) (xs : List Publish) (cs : List ClientState) → length (queues_all i xs cs) ≡ length cs
queued_count i xs [] = refl
queued_count zero xs (c ∷ cs) = ap suc (mapped_count (queues false xs) cs)
queued_count (suc i) xs (c ∷ cs) = ap suc (queued_count i xs cs)

with_count : (i : ℕ) (f : ClientState → ClientState) (cs : List ClientState) → length (with_client i f cs) ≡ length cs
with_count i f [] = refl
with_count zero f (c ∷ cs) = refl
with_count (suc i) f (c ∷ cs) = ap suc (with_count i f cs)

-- those of a client are as before, or it is the one that changed
abbrev pub Changed : (ClientState → ClientState) → ℕ → ℕ → List ClientState → Type 0
Changed f i j cs =
    (subscriptions_in j (with_client i f cs) ≡ subscriptions_in j cs)
    ⊎ ((j ≡ i) × (c : ClientState) × (subscriptions_in j cs ≡ subscriptions_of c) × (subscriptions_in j (with_client i f cs) ≡ subscriptions_of (f c)))

pub changed : (f : ClientState → ClientState) (i j : ℕ) (cs : List ClientState) → Changed f i j cs
changed f i j [] = inl refl
changed f zero zero (c ∷ cs) = inr (refl, c, refl, refl)
changed f zero (suc j) (c ∷ cs) = inl refl
changed f (suc i) zero (c ∷ cs) = inl refl
changed f (suc i) (suc j) (c ∷ cs) = lift (changed f i j cs)
  where
    lift : Changed f i j cs → Changed f (suc i) (suc j) (c ∷ cs)
    lift (inl e) = inl e
    lift (inr e) = inr (ap suc e.0, e.1, e.2, e.3)

suc_same : (m n : ℕ) → suc m ≡ suc n → m ≡ n
suc_same m n e = omega (arith, e)

-- where it has none then, no other changed
pub emptied_or : (f : ClientState → ClientState) → ((c : ClientState) → subscriptions_of (f c) ≡ []) → (i j : ℕ) (cs : List ClientState) → (subscriptions_in j (with_client i f cs) ≡ []) ⊎ ((j ≢ i) × (subscriptions_in j (with_client i f cs) ≡ subscriptions_in j cs))
emptied_or f h i j [] = inl refl
emptied_or f h zero zero (c ∷ cs) = inl (h c)
emptied_or f h zero (suc j) (c ∷ cs) = inr (λ e. absurd (cc e), refl)
emptied_or f h (suc i) zero (c ∷ cs) = inr (λ e. absurd (cc e), refl)
emptied_or f h (suc i) (suc j) (c ∷ cs) = lift (emptied_or f h i j cs)
  where
    lift : (subscriptions_in j (with_client i f cs) ≡ []) ⊎ ((j ≢ i) × (subscriptions_in j (with_client i f cs) ≡ subscriptions_in j cs))
        → (subscriptions_in (suc j) (with_client (suc i) f (c ∷ cs)) ≡ []) ⊎ ((suc j ≢ suc i) × (subscriptions_in (suc j) (with_client (suc i) f (c ∷ cs)) ≡ subscriptions_in (suc j) (c ∷ cs)))
    lift (inl e) = inl e
    lift (inr e) = inr (λ same. e.0 (suc_same j i same), e.1)

module _ (i : ℕ) (f : ClientState → ClientState) (new : ClientState → List Publish) (s : Sessions) where
  pub changes_count : length (changes i f new s).clients ≡ length s.clients
  changes_count = queued_count i (of_client i new s.clients) (with_client i f s.clients) ∙ with_count i f s.clients

  pub changes_subscriptions : (j : ℕ) → subscriptions_at j (changes i f new s) ≡ subscriptions_in j (with_client i f s.clients)
  changes_subscriptions j = queued_subscriptions i (of_client i new s.clients) j (with_client i f s.clients)

-- ---- sessions that have no more subscriptions than others

pub record Fewer (s t : Sessions) : Type 0 where
  pub count : length t.clients ≡ length s.clients
  pub each : (j : ℕ) → (subscriptions_at j t ≡ []) ⊎ (subscriptions_at j t ≡ subscriptions_at j s)

changes_fewer : (i : ℕ) (f : ClientState → ClientState) (new : ClientState → List Publish) (s : Sessions) → ((c : ClientState) → (subscriptions_of (f c) ≡ []) ⊎ (subscriptions_of (f c) ≡ subscriptions_of c)) → Fewer s (changes i f new s)
changes_fewer i f new s h = record {
  count = changes_count i f new s;
  each = λ j. by j (changed f i j s.clients);
}
  where
    pick : (j : ℕ) (c : ClientState) → subscriptions_at j s ≡ subscriptions_of c → subscriptions_in j (with_client i f s.clients) ≡ subscriptions_of (f c) → (subscriptions_of (f c) ≡ []) ⊎ (subscriptions_of (f c) ≡ subscriptions_of c)
        → (subscriptions_at j (changes i f new s) ≡ []) ⊎ (subscriptions_at j (changes i f new s) ≡ subscriptions_at j s)
    pick j c was is (inl q) = inl (changes_subscriptions i f new s j ∙ is ∙ q)
    pick j c was is (inr q) = inr (changes_subscriptions i f new s j ∙ is ∙ q ∙ sym was)

    by : (j : ℕ) → Changed f i j s.clients → (subscriptions_at j (changes i f new s) ≡ []) ⊎ (subscriptions_at j (changes i f new s) ≡ subscriptions_at j s)
    by j (inl e) = inr (changes_subscriptions i f new s j ∙ e)
    by j (inr e) = pick j e.1 e.2 e.3 (h e.1)

-- ---- that have the same

abbrev pub Same : Sessions → Sessions → Type 0
Same s t = (j : ℕ) → subscriptions_at j t ≡ subscriptions_at j s

changes_same : (i : ℕ) (f : ClientState → ClientState) (new : ClientState → List Publish) (s : Sessions) → ((c : ClientState) → subscriptions_of (f c) ≡ subscriptions_of c) → Same s (changes i f new s)
changes_same i f new s h j = by (changed f i j s.clients)
  where
    by : Changed f i j s.clients → subscriptions_at j (changes i f new s) ≡ subscriptions_at j s
    by (inl e) = changes_subscriptions i f new s j ∙ e
    by (inr e) = changes_subscriptions i f new s j ∙ e.3 ∙ h e.1 ∙ sym e.2

pub out_same : (i : ℕ) (s : Sessions) → Same s (takes_out i s)
out_same i s = changes_same i (λ (c : ClientState). record c { kept = without_first c.kept }) (λ c. []) s (λ c. refl)

pub loses_same : (i : ℕ) (s : Sessions) → Same s (loses i s)
loses_same i s = changes_same i (λ (c : ClientState). record c { here = false; will = waiting c.will }) (λ (c : ClientState). lost_message c.will) s (λ c. refl)

pub due_same : (i : ℕ) (s : Sessions) → Same s (is_due i s)
due_same i s = changes_same i (λ (c : ClientState). record c { will = not_due c.here c.will }) (λ (c : ClientState). due_message c.here c.will) s (λ c. refl)

pub dates_same : (i : ℕ) (n : Option ℕ) (s : Sessions) → Same s (dates i n s)
dates_same i n s = changes_same i (with_dated_will n) (λ c. []) s (λ c. refl)

pub leaves_same : (i : ℕ) (s : Sessions) → Same s (leaves i s)
leaves_same i s = changes_same i (λ (c : ClientState). record c { here = false; will = left_will c.here c.will }) (λ c. []) s (λ c. refl)

pub comes_same : (i : ℕ) (m : Option ℕ) (will : Option Will) (s : Sessions) → Same s (comes i m will s)
comes_same i m will s = changes_same i (λ (c : ClientState). record { kept = taken_up m c.kept; here = true; will = will }) (λ (c : ClientState). replaced_message c.here c.will) s (λ c. refl)

-- ---- and so no more

pub out_fewer : (i : ℕ) (s : Sessions) → Fewer s (takes_out i s)
out_fewer i s = changes_fewer i (λ (c : ClientState). record c { kept = without_first c.kept }) (λ c. []) s (λ c. inr refl)

pub loses_fewer : (i : ℕ) (s : Sessions) → Fewer s (loses i s)
loses_fewer i s = changes_fewer i (λ (c : ClientState). record c { here = false; will = waiting c.will }) (λ (c : ClientState). lost_message c.will) s (λ c. inr refl)

pub due_fewer : (i : ℕ) (s : Sessions) → Fewer s (is_due i s)
due_fewer i s = changes_fewer i (λ (c : ClientState). record c { will = not_due c.here c.will }) (λ (c : ClientState). due_message c.here c.will) s (λ c. inr refl)

pub dates_fewer : (i : ℕ) (n : Option ℕ) (s : Sessions) → Fewer s (dates i n s)
dates_fewer i n s = changes_fewer i (with_dated_will n) (λ c. []) s (λ c. inr refl)

pub leaves_fewer : (i : ℕ) (s : Sessions) → Fewer s (leaves i s)
leaves_fewer i s = changes_fewer i (λ (c : ClientState). record c { here = false; will = left_will c.here c.will }) (λ c. []) s (λ c. inr refl)

pub comes_fewer : (i : ℕ) (m : Option ℕ) (will : Option Will) (s : Sessions) → Fewer s (comes i m will s)
comes_fewer i m will s = changes_fewer i (λ (c : ClientState). record { kept = taken_up m c.kept; here = true; will = will }) (λ (c : ClientState). replaced_message c.here c.will) s (λ c. inr refl)

abbrev pub ended_state : ClientState → ClientState
ended_state c = record { kept = new_kept c.kept.sender.core.limit []; here = false; will = None }

pub ends_fewer : (i : ℕ) (s : Sessions) → Fewer s (ends i s)
ends_fewer i s = changes_fewer i ended_state (λ (c : ClientState). message_of c.will) s (λ c. inl refl)

taken_subscriptions : (c : Client) (p : Publish) (rest : List Publish) (r : Result (Option Packet) StateError) (s : Session) → (taken_for c p rest r s).subscriptions ≡ c.subscriptions
taken_subscriptions c p rest (Ok reply) s = refl
taken_subscriptions c p rest (Err e) s = refl

passed_subscriptions : (c : Client) (ps : List Publish) → (network_client.passes_on c ps).subscriptions ≡ c.subscriptions
passed_subscriptions c [] = refl
passed_subscriptions c (p ∷ rest) = taken_subscriptions c p rest _ _

here_subscriptions : (v : Bool) (k : Kept) → (passes_here v k).subscriptions ≡ k.subscriptions
here_subscriptions true k = passed_subscriptions (alone k) k.queue
here_subscriptions false k = refl

pub passes_fewer : (i : ℕ) (s : Sessions) → Fewer s (passes i s)
passes_fewer i s = changes_fewer i (λ (c : ClientState). record c { kept = passes_here c.here c.kept }) (λ c. []) s (λ c. inr (here_subscriptions c.here c.kept))

pub passes_same : (i : ℕ) (s : Sessions) → Same s (passes i s)
passes_same i s = changes_same i (λ (c : ClientState). record c { kept = passes_here c.here c.kept }) (λ c. []) s (λ c. here_subscriptions c.here c.kept)

-- ---- one client more

pub pushed_subscriptions : (limit j : ℕ) (cs : List ClientState) → subscriptions_in j (cs ++ new_state limit ∷ []) ≡ subscriptions_in j cs
pushed_subscriptions limit zero [] = refl
pushed_subscriptions limit (suc j) [] = refl
pushed_subscriptions limit zero (c ∷ cs) = refl
pushed_subscriptions limit (suc j) (c ∷ cs) = pushed_subscriptions limit j cs
