-- What comes of the frames of a stream, one after the other.
use Rattle.std.proofs.Common.{◌≡◌, ℕ, List, [], Some, None, Ok, Err, Option, sym, ap, ◌∙◌, ◌⊎◌, inl, inr}
use Rattle.mqtt5_base.specs.Front.{IsFound, IsFront}
use Rattle.mqtt5_base.specs.FrontAt.{front}
use Rattle.mqtt5_base.specs.declared.error.Error.{Error}
use Rattle.mqtt5_base.specs.declared.error.Error.TheVariants.{OutOfMemory}
use Rattle.mqtt5_codec.specs.declared.packet.Packet.{Packet}
use Rattle.mqtt5_codec.specs.Codecs.{Decodes}
use Rattle.mqtt5_codec.specs.Laws.{IsFrames}
use Rattle.mqtt5_broker.specs.Cut.{Cut, Holds, Breaks, ends_so, cut_up}
use Rattle.mqtt5_broker.specs.Broker.{Broker}
use Rattle.mqtt5_broker.specs.Serving.{takes}
use Rattle.mqtt5_broker.specs.Receiving.{comes_of, ends_with}
use Rattle.mqtt5_broker.proofs.Cutting.{took, waits, breaks}

module _ (limit : Option ℕ) (found : IsFound limit (front limit)) (stays : IsFront (front limit)) (frames : IsFrames) (c : ℕ) (before : Broker) (all stream left : List ℕ) (b : Broker) (so_far : comes_of c (cut_up limit all []) before ≡ comes_of c (cut_up limit stream []) b) where
  pub one_more : (p : Packet) (after : Broker) → Decodes (Ok (Some p)) limit stream left → after ≡ takes c p b
      → comes_of c (cut_up limit all []) before ≡ comes_of c (cut_up limit left []) after
  one_more p after h e =
      so_far
      ∙ ap (λ (r : Cut). comes_of c r b) (took limit found stays frames stream left p h)
      ∙ ap (λ (x : Broker). comes_of c (cut_up limit left []) x) (sym e)

  pub no_more : Decodes (Ok None) limit stream left → comes_of c (cut_up limit all []) before ≡ ends_with c (Holds left) b
  no_more h = so_far ∙ ap (λ (r : Cut). comes_of c r b) (waits limit found stays frames stream left h)

  by_fault : (e : Error) → (e ≡ OutOfMemory) ⊎ (cut_up limit stream [] ≡ ends_so (Breaks e)) → (e ≡ OutOfMemory) ⊎ (comes_of c (cut_up limit all []) before ≡ ends_with c (Breaks e) b)
  by_fault e (inl h) = inl h
  by_fault e (inr h) = inr (so_far ∙ ap (λ (r : Cut). comes_of c r b) h)

  pub at_fault : (e : Error) → Decodes (Err e) limit stream left → (e ≡ OutOfMemory) ⊎ (comes_of c (cut_up limit all []) before ≡ ends_with c (Breaks e) b)
  at_fault e h = by_fault e (breaks limit found stays frames stream left e h)
