use Rattle.ol_rollfwd.proofs.FrameLaws.{is_none, shown_put}
use Rattle.ol_rollfwd.proofs.images.load.Goals as goal

pub returns-clause-shows : goal.returns-clause-shows
returns-clause-shows c = λ config v shows.
    shown_put config c.args.pages.now c.args.space c.args.page c.requires c.put.result c.put.new.self v c.put.ensures.ok c.put.ensures.unchanged
    (is_none _ c.has.result c.has.ensures c.if-has.false) shows
