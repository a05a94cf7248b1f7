use Rattle.std.proofs.Common.{refl}
use Rattle.ol_script.proofs.entry_line.put_reply.Goals as goal

pub returns-in-DamagedVolume-clause-front : goal.returns-in-DamagedVolume-clause-front
returns-in-DamagedVolume-clause-front c =
    rw (c.put_words-in-DamagedVolume.ensures.front, c.in-DamagedVolume.is, c.from-in-DamagedVolume.ensures, c.from-in-DamagedVolume-2.ensures, c.from-in-DamagedVolume-3.ensures) refl
