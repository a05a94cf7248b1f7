use Rattle.ol_data_pages.specs.Overlays.{images_of}
use Rattle.ol_data_pages.proofs.OverlayLaws.{overlaid_kept}
use Rattle.ol_data_pages.proofs.laws.pages_are_overlaid.Goals as goal

pub returns : goal.returns
returns c config s kept d space page is area holds stands =
    overlaid_kept config s kept d space page (c.stops_are_read.ensures.added config s (images_of kept s.places) d holds) is area holds stands
