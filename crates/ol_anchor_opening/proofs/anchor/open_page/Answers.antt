use Rattle.ol_anchor_opening.proofs.OpeningLaws.{online}
use Rattle.ol_anchor_opening.proofs.anchor.open_page.Goals as goal

pub returns-in-None-clause-ends : goal.returns-in-None-clause-ends
returns-in-None-clause-ends g c =
    online _ c.args.page.now c.in-Ok.anchor c.table_of-table.result c.requires c.in-Ok.ensures.only c.if-anchor-eq-RESTORING.false c.table_of-table.ensures.table c.table_of-table.ensures.text c.table_of-table.ensures.config c.in-None.ensures.none
    c.in-Ok.ensures.found.0
