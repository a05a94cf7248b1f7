-- What these histories are, computed.
use Rattle.std.specs.Prelude.{List, Some, [], codes, false, refl, take, ◌++◌, ◌∷◌, ◌≡◌}
use Rattle.ol_values.specs.declared.event.Event.TheVariants.{Commit as CommitTurn}
use Rattle.ol_values.specs.declared.event.Reply.TheVariants.{Committed}
use Rattle.ol_values.specs.declared.event.Why.TheVariants.{Full}
use Rattle.ol_values.specs.declared.history.Actor.TheVariants.{Session}
use Rattle.ol_rules.specs.Journal.{page_from}
use Rattle.ol_model.specs.History.{Carries, Steps, mended, settled, turned}
use Rattle.ol_model.specs.Lines.{First, all_well}
use Rattle.ol_model.specs.Machine.{first_free, formatted}
use Rattle.ol_model.specs.Waiting.{pages_of}
use Rattle.ol_worked.specs.Archives.{one_row}
use Rattle.ol_worked.specs.Faults.{commit_fails, entry, tape_ends}
use Rattle.ol_worked.specs.Small.{small}

pub commit_steps : Steps [] (formatted (small 20 2)) 1 commit_fails
unfolding first_free pages_of page_from
commit_steps = (refl, refl, (refl, refl, (refl, refl, (refl, refl, tt))))

pub commit_mended : mended [] (formatted (small 20 2)) commit_fails ≡ take 2 commit_fails ++ entry 3 (Session 1) 3 CommitTurn (Committed 3) ∷ []
unfolding first_free pages_of page_from
commit_mended = refl

pub commit_settles : settled [] (formatted (small 20 2)) commit_fails 9 ≡ 0
unfolding first_free pages_of page_from
commit_settles = refl

pub tape_steps : Steps [] (formatted (small 20 2)) 1 tape_ends
unfolding first_free pages_of page_from
tape_steps = (refl, refl, (refl, refl, (refl, refl, (refl, refl, (refl, refl, (refl, refl, (refl, refl, tt)))))))

pub tape_carries : Carries [] false one_row First (turned [] (formatted (small 20 2)) tape_ends)
unfolding first_free pages_of page_from
tape_carries = (refl, refl, (all_well, refl, (refl, refl, (all_well, refl, (refl, refl, (all_well, refl, (refl, refl, (all_well, refl, (refl, refl, (all_well, refl, (refl, refl, (record all_well { after = Some Full }, refl, (refl, refl, (all_well, refl, tt))))))))))))))

pub settled_before : settled [] (formatted (small 20 2)) tape_ends 4 ≡ 0
unfolding first_free pages_of page_from
settled_before = refl

pub settled_after : settled [] (formatted (small 20 2)) tape_ends 6 ≡ 3
unfolding first_free pages_of page_from
settled_after = refl
