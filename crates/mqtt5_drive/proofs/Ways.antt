-- Courses that lead to one another.
use Rattle.std.proofs.Common.{◌≡◌, ℕ, List, refl, sym, ap, subst, ◌∙◌, inl, inr}
use Rattle.mqtt5_inflight.specs.declared.error.StateError.{StateError}
use Rattle.mqtt5_session.specs.Session.{Session}
use Rattle.mqtt5_drive.specs.Ways.{LeadsTo}
use Rattle.mqtt5_drive.specs.Trace.{Trace, Waits, Faults, Steps, finish, Passes, Stops}

pub leads_same : (s : Session) (o : List ℕ) (c d : Trace) → c ≡ d → LeadsTo s o c s o d
leads_same s o c d e = record { ends = ap (finish s o) e; points = λ v w p. subst (λ (x : Trace). Passes s o x v w) (sym e) p }

pub leads_on : {s t v : Session} {o u w : List ℕ} {c d e : Trace} → LeadsTo s o c t u d → LeadsTo t u d v w e → LeadsTo s o c v w e
leads_on p q = record { ends = p.ends ∙ q.ends; points = λ x y h. p.points x y (q.points x y h) }

pub stops_on : {s t v : Session} {o u w : List ℕ} {c d : Trace} (e : StateError) → LeadsTo s o c t u d → Stops e t u d v w → Stops e s o c v w
stops_on {v = v} {w = w} e p (inl h) = inl (h.0, p.points v w h.1)
stops_on e p (inr h) = inr (p.ends ∙ h)

pub passes_here : (s : Session) (o : List ℕ) (c : Trace) → Passes s o c s o
passes_here s o (Waits held) = (refl, refl)
passes_here s o (Faults e) = (refl, refl)
passes_here s o (Steps t reply c) = inl (refl, refl)
