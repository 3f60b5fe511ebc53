use Rattle.mqtt5_inflight.proofs.PlacesOf.{no_pages}
use Rattle.mqtt5_inflight.proofs.pages.Pages.clear.Goals as goal

pub returns : goal.returns
returns c = no_pages c.clear.new.self c.clear.ensures.empty
