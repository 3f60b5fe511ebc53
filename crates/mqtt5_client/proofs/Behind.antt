-- A course whose output stands behind bytes that are gone.
use Rattle.std.proofs.Common.{◌≡◌, ℕ, List, ◌++◌, refl, sym, ap, subst, ◌∙◌, inl, inr, append_assoc}
use Rattle.mqtt5_inflight.specs.declared.error.StateError.{StateError}
use Rattle.mqtt5_session.specs.Session.{Session}
use Rattle.mqtt5_drive.specs.Trace.{Trace, Waits, Faults, Steps, End, finish, Passes, Stops}

module _ (gone : List ℕ) where
  -- an end behind them
  abbrev pub shifted : End → End
  shifted e = record { session = e.session; output = gone ++ e.output; ending = e.ending }

  pub finish-shifted : (s : Session) (o : List ℕ) (c : Trace) → finish s (gone ++ o) c ≡ shifted (finish s o c)
  finish-shifted s o (Waits held) = refl
  finish-shifted s o (Faults e) = refl
  finish-shifted s o (Steps t reply c) = ap (λ (u : List ℕ). finish t u c) (append_assoc gone o reply) ∙ finish-shifted t (o ++ reply) c

  pub passes-shifted : (s : Session) (o : List ℕ) (c : Trace) (t : Session) (u : List ℕ) → Passes s o c t u → Passes s (gone ++ o) c t (gone ++ u)
  passes-shifted s o (Waits held) t u h = (h.0, ap (λ (x : List ℕ). gone ++ x) h.1)
  passes-shifted s o (Faults e) t u h = (h.0, ap (λ (x : List ℕ). gone ++ x) h.1)
  passes-shifted s o (Steps next reply c) t u (inl h) = inl (h.0, ap (λ (x : List ℕ). gone ++ x) h.1)
  passes-shifted s o (Steps next reply c) t u (inr (inl h)) = inr (inl (h.0, ap (λ (x : List ℕ). gone ++ x) h.1))
  passes-shifted s o (Steps next reply c) t u (inr (inr h)) =
      inr (inr (subst (λ (x : List ℕ). Passes next x c t (gone ++ u)) (sym (append_assoc gone o reply)) (passes-shifted next (o ++ reply) c t u h)))

  pub stops-shifted : (e : StateError) (s : Session) (o : List ℕ) (c : Trace) (t : Session) (u : List ℕ) → Stops e s o c t u → Stops e s (gone ++ o) c t (gone ++ u)
  stops-shifted e s o c t u (inl h) = inl (h.0, passes-shifted s o c t u h.1)
  stops-shifted e s o c t u (inr h) = inr (finish-shifted s o c ∙ ap shifted h)
