use Rattle.ol_turn_laws.proofs.RoomLaws.{flushed_free, free_within, logged_free, more_free, written_room}
use Rattle.ol_turn_laws.proofs.SwitchLaws.{switched_free}
use Rattle.ol_turn_laws.proofs.ring_keeps_what_is_free.Goals as goal

pub returns-clause-page : goal.returns-clause-page
returns-clause-page k = λ c m r last. written_room c m r last

pub returns-clause-flush : goal.returns-clause-flush
returns-clause-flush k = λ c m r last. flushed_free c m r last

pub returns-clause-log : goal.returns-clause-log
returns-clause-log k = λ c m r last rec small. logged_free c m r last rec small

pub returns-clause-reuse : goal.returns-clause-reuse
returns-clause-reuse k = λ c m n r backed need. more_free c m n r backed need

pub returns-clause-switch : goal.returns-clause-switch
returns-clause-switch k = λ m last can. switched_free m last can

pub returns-clause-whole : goal.returns-clause-whole
returns-clause-whole k = λ c m r some. free_within c m r some
