use Rattle.std.proofs.Common.{append_assoc}
use Rattle.ol_object.proofs.archive_head.put_saved.Goals as goal

pub returns-clause-front : goal.returns-clause-front
returns-clause-front c =
    rw (c.put.ensures.front, c.put-end-2.ensures.front, c.put-end.ensures.front, c.to_be_bytes.ensures, c.to_be_bytes-2.ensures) (simp append_assoc)
