-- This file serves the logic alone: how an export shows what it left of a handle's client.
use Rattle.std.proofs.Common.{◌≡◌, ℕ, List, Option, None, Some, Ok, Err, is_some, subst, ap, ◌∙◌, inl, inr, refl}
use lib.Dec.{T}
use mathlib.Core.Bool.{Bool, not}
use Rattle.std.specs.Prelude.{unwrap_or, OnOk}
use Rattle.mqtt5_inflight.specs.declared.event.Request.{Request}
use Rattle.mqtt5_client.specs.declared.client.Client.{Client}
use Rattle.mqtt5_holder.specs.declared.holder.Holder.{Holder}
use Rattle.mqtt5_c.specs.Calls.{Called, LetsGo, dropped_after, with_client}
use Rattle.mqtt5_c.specs.Asked.{IsDeclined}
use Rattle.mqtt5_options.specs.Options.{Settings}
use Rattle.mqtt5_c.specs.Properties.{emptied}
use Rattle.mqtt5_c.specs.Filters.{filters_in}
use Rattle.mqtt5_c.specs.Connected.{Connects, Begins}
use Rattle.mqtt5_c.specs.Numbers.{Outcome, code_of, no_client}

pub called : {Does : Client → Outcome → Client → Type 0} {before after : Option Holder} {code : ℕ} (old : Holder) (new : Client) (outcome : Outcome)
    → Some old ≡ before → after ≡ Some (with_client old new) → code ≡ code_of outcome → Does old.client outcome new → Called Does before code after
called {Does} {before} {after} {code} old new outcome was is answered does = record {
  none = λ empty. absurd (subst (λ (b : Bool). T b) (ap is_some (was ∙ empty)) tt);
  one = λ one there.
      let same = ap (λ (o : Option Holder). unwrap_or o old) (was ∙ there) in
      (new, outcome, subst (λ (h : Holder). after ≡ Some (with_client h new)) same is, answered, subst (λ (h : Holder). Does h.client outcome new) same does);
}

pub uncalled : {Does : Client → Outcome → Client → Type 0} {before after : Option Holder} {code : ℕ}
    → None ≡ before → after ≡ None → code ≡ no_client → Called Does before code after
uncalled was is answered = record {
  none = λ empty. (answered, is);
  one = λ old there. absurd (subst (λ (b : Bool). T (not b)) (ap is_some (was ∙ there)) tt);
}

-- what is declined for one reason is declined for one of several
pub declined : {A B : Type 0} {code : ℕ} → (A → B) → IsDeclined A code → IsDeclined B code
declined f (inl bad) = inl (f bad.0, bad.1)
declined f (inr memory) = inr memory

pub begun : {settles : Settings → Settings} {before after : Option Holder} {code : ℕ} (old : Holder) (new : Client) (outcome : Outcome)
    → Some old ≡ before → after ≡ Some (record old { client = new; settings = settles old.settings }) → code ≡ code_of outcome
    → Connects (settles old.settings) old.client outcome new → Begins settles before code after
begun {settles} {before} {after} {code} old new outcome was is answered does = record {
  none = λ empty. absurd (subst (λ (b : Bool). T b) (ap is_some (was ∙ empty)) tt);
  one = λ one there.
      let same = ap (λ (o : Option Holder). unwrap_or o old) (was ∙ there) in (
        new,
        outcome,
        subst (λ (h : Holder). after ≡ Some (record h { client = new; settings = settles h.settings })) same is,
        answered,
        subst (λ (h : Holder). Connects (settles h.settings) h.client outcome new) same does,
      );
}

pub unbegun : {settles : Settings → Settings} {before after : Option Holder} {code : ℕ}
    → None ≡ before → after ≡ None → code ≡ no_client → Begins settles before code after
unbegun was is answered = record {
  none = λ empty. (answered, is);
  one = λ old there. absurd (subst (λ (b : Bool). T (not b)) (ap is_some (was ∙ there)) tt);
}

pub let_go : {Does : Client → Outcome → Client → Type 0} {gone : Client → List Request} {before after : Option Holder} {code : ℕ} (old : Holder) (new : Client) (outcome : Outcome)
    → Some old ≡ before → after ≡ Some (record old { client = new; dropped = dropped_after outcome (gone old.client) old.dropped }) → code ≡ code_of outcome
    → Does old.client outcome new → LetsGo Does gone before code after
let_go {Does} {gone} {before} {after} {code} old new outcome was is answered does = record {
  none = λ empty. absurd (subst (λ (b : Bool). T b) (ap is_some (was ∙ empty)) tt);
  one = λ one there.
      let same = ap (λ (o : Option Holder). unwrap_or o old) (was ∙ there) in (
        new,
        outcome,
        subst (λ (h : Holder). after ≡ Some (record h { client = new; dropped = dropped_after outcome (gone h.client) h.dropped })) same is,
        answered,
        subst (λ (h : Holder). Does h.client outcome new) same does,
      );
}

pub none_let_go : {Does : Client → Outcome → Client → Type 0} {gone : Client → List Request} {before after : Option Holder} {code : ℕ}
    → None ≡ before → after ≡ None → code ≡ no_client → LetsGo Does gone before code after
none_let_go was is answered = record {
  none = λ empty. (answered, is);
  one = λ old there. absurd (subst (λ (b : Bool). T (not b)) (ap is_some (was ∙ there)) tt);
}

-- an empty list of properties leaves the filters
pub same_filters : (before : Option Holder) → filters_in (emptied before) ≡ filters_in before
same_filters None = refl
same_filters (Some h) = refl

-- what holds in any case holds where a call is done
pub on_ok : {P : Type 0} (outcome : Outcome) → P → OnOk outcome P
on_ok (Ok done) p = p
on_ok (Err fault) p = tt
