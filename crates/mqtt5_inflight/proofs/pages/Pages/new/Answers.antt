use Rattle.mqtt5_inflight.proofs.PlacesOf.{no_pages}
use Rattle.mqtt5_inflight.proofs.pages.Pages.new.Goals as goal

pub returns : goal.returns
returns c = no_pages c.new.result c.new.ensures.empty
