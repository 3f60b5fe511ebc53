use Rattle.std.proofs.Common.{Option, Some, ap, refl}
use Rattle.mqtt5_publish.specs.declared.publish.PublishProperties.{PublishProperties}
use Rattle.mqtt5_pubsub.proofs.properties.WithPropertiesSource.next.Goals as goal

pub returns : goal.returns
returns g c =
    let set = λ (p : Option PublishProperties). Some (record c.in-Some.message { properties = p }) in
    (refl, (Some c.in-Some.message, rw (c.in-Some.is) at c.in_ok-message.ensures, ap set c.in_ok-message-2.ensures))
