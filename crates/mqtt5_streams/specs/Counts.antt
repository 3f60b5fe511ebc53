-- How often each content is handed on over streams of bytes: a content is counted as it is read,
-- after norm (MQTT 5.0 section 4.3).
use Rattle.std.specs.Prelude.{◌≡◌, ◌≢◌, ℕ, ◌+◌, ◌*◌, ◌≤◌}
use Rattle.mqtt5_base.specs.declared.quality.QoS.TheVariants.{AtMostOnce, AtLeastOnce, ExactlyOnce}
use Rattle.mqtt5_publish.specs.declared.publish.Publish.{Publish}
use Rattle.mqtt5_world.specs.Delivery.{times, stored_in, stored_without, waiting_in}
use Rattle.mqtt5_streams.specs.ByteWorld.{ByteWorld}
use Rattle.mqtt5_streams.specs.Reduction.{norms}

-- the counts of a content in a world, after so many losses
pub record Counts (c : Publish) (n : ℕ) (w : ByteWorld) : Type 0 where
  -- a content of QoS 0 or 2 is handed on at most as often as it was accepted
  pub at_most_once : c.qos ≢ AtLeastOnce → times c w.broker.handed ≤ times c (norms w.accepted)
  -- one of QoS 1 or 2 at least as often as it was accepted and is no longer stored or waiting
  pub at_least_once : c.qos ≢ AtMostOnce
      → times c (norms w.accepted)
      ≤ times c w.broker.handed + times c (norms (stored_in w.session.core))
      + times c (norms (waiting_in w.session.core))
  -- one of QoS 1 at most once more for each loss
  pub for_each_loss : c.qos ≡ AtLeastOnce
      → times c w.broker.handed ≤ (n + 1) * times c (norms w.accepted)
  -- one of QoS 2 is handed on, or waits, or is stored under an id that the broker hasn't, for each
  -- time it was accepted
  pub ledger : c.qos ≡ ExactlyOnce
      → times c w.broker.handed + times c (norms (waiting_in w.session.core))
      + times c (norms (stored_without w.broker.ids w.session.core))
      ≡ times c (norms w.accepted)
