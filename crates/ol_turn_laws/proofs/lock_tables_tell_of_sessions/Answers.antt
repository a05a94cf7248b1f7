use Rattle.ol_turn_laws.proofs.TableLaws.{same_first_free, same_free, same_holder, same_locked, same_page_holder, table_tells}
use Rattle.ol_values.specs.Pages.{rid_of}
use Rattle.std.specs.List.{range_with_len}
use Rattle.std.specs.Prelude.{map}
use Rattle.ol_turn_laws.proofs.lock_tables_tell_of_sessions.Goals as goal

pub returns-clause-regular : goal.returns-clause-regular
returns-clause-regular c = λ m h. table_tells m h

pub returns-clause-holder : goal.returns-clause-holder
returns-clause-holder c = λ m table k own rid t. same_holder m table k own rid t

pub returns-clause-locked : goal.returns-clause-locked
returns-clause-locked c = λ m table rid t. same_locked m table rid t

pub returns-clause-page : goal.returns-clause-page
returns-clause-page c = λ m table space page t. same_free m table (map (rid_of space page) (range_with_len 0 31)) t

pub returns-clause-space : goal.returns-clause-space
returns-clause-space c = λ m table space t. same_first_free m table space t

pub returns-clause-page_holder : goal.returns-clause-page_holder
returns-clause-page_holder c = λ m table k space page t. same_page_holder m table k space page t
