use Rattle.ol_shelf_reader.proofs.Places.{of_drive}
use Rattle.ol_shelf_reader.proofs.laws.streams_are_the_shelf.Goals as goal

pub returns-clause-blocks : goal.returns-clause-blocks
returns-clause-blocks c = of_drive
