-- Which publishes are refused, by the tests that are made in turn.
use Rattle.std.proofs.Common.{◌≡◌, Bool, true, false, not, List, ℕ, ap, sym, ◌∙◌, ◌&&◌, Option, Some, None, if◌then◌else◌}
use Rattle.std.specs.Str.{IsUtf8, is_utf8}
use Rattle.std.proofs.lemmas.Bool.{false_from_ne_true}
use Rattle.std.proofs.lemmas.Str.{is_utf8-from_IsUtf8, IsUtf8-from_is_utf8}
use Rattle.mqtt5_publish.specs.declared.publish.Publish.{Publish}
use Rattle.broker_core.specs.declared.error.BrokerError.{BrokerError}
use Rattle.broker_core.specs.declared.error.BrokerError.TheVariants.{NotOffered, InvalidTopic}
use Rattle.broker_core.specs.Clients.{is_offered, is_topic, is_topic_text, publish_refusal}

abbrev refusal_by : Bool → Bool → Option BrokerError
refusal_by offered topic = if not offered then Some NotOffered else if topic then None else Some InvalidTopic

module _ (p : Publish) (offered : is_offered p ≡ true) where
  by_topic : (b : Bool) → is_topic p.topic ≡ b → publish_refusal p ≡ refusal_by true b
  by_topic b e = ap (λ o. refusal_by o (is_topic p.topic)) offered ∙ ap (refusal_by true) e

  of_text : (b : Bool) → IsUtf8 p.topic → is_topic_text p.topic ≡ b → is_topic p.topic ≡ b
  of_text b text e = ap (λ u. u && is_topic_text p.topic) (is_utf8-from_IsUtf8 p.topic text) ∙ e

  pub routable : IsUtf8 p.topic → is_topic_text p.topic ≡ true → publish_refusal p ≡ None
  routable text e = by_topic true (of_text true text e)

  pub no_text : (IsUtf8 p.topic → ⊥) → publish_refusal p ≡ Some InvalidTopic
  no_text none = by_topic false (ap (λ u. u && is_topic_text p.topic) (false_from_ne_true (is_utf8 p.topic) (λ t. none (IsUtf8-from_is_utf8 p.topic t))))
