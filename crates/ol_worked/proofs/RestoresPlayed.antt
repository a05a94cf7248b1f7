-- What these restores give, computed.
use Rattle.std.specs.Fmt.{digits}
use Rattle.std.specs.Prelude.{Err, List, Ok, Some, [], codes, refl, ℕ, ◌∷◌, ◌≡◌}
use Rattle.ol_values.specs.declared.event.Reply.TheVariants.{DamagedVolume, MissingLog}
use Rattle.ol_values.specs.Config.{config_text}
use Rattle.ol_values.specs.Text.{slots_told, text}
use Rattle.ol_rules.specs.Journal.{page_from}
use Rattle.ol_rules.specs.Plan.{plan_of, plan_to}
use Rattle.ol_rules.specs.Saveset.{places}
use Rattle.ol_rules.specs.Shelf.{objects}
use Rattle.ol_model.specs.History.{played}
use Rattle.ol_model.specs.Listing.{list_text}
use Rattle.ol_model.specs.Machine.{first_free, row_in}
use Rattle.ol_model.specs.Opening.{opened}
use Rattle.ol_model.specs.Waiting.{pages_of}
use Rattle.ol_worked.specs.Restores.{all_after, archived_again, archived_twice, archives_in, damaged_outside, end_or, last_journal, last_shelf, listed_after, log_file_lost, lost_history, machine_after, open_at_cut, plan_for, plan_or, restored_warm, row_behind_archive, salvaged_heads, spoilt, tapes_after, three_spaces, two_files_backed, two_log_pages, warm_machine, warm_shelf, whole_journal, without_log}
use Rattle.ol_worked.specs.Small.{small}

pub open_at_cut_ends : end_or (plan_for (small 20 2) (all_after (small 20 2) open_at_cut) (1 ∷ [])) ≡ Ok 5
unfolding first_free pages_of page_from places config_text played digits slots_told plan_of plan_to objects list_text opened
open_at_cut_ends = refl

pub open_at_cut_lists : listed_after (small 20 2) (all_after (small 20 2) open_at_cut) (whole_journal (machine_after (small 20 2) open_at_cut)) (plan_or (plan_for (small 20 2) (all_after (small 20 2) open_at_cut) (1 ∷ []))) ≡ codes "data1:0:0 =a\n"
unfolding first_free pages_of page_from places config_text played digits slots_told plan_of plan_to objects list_text opened
open_at_cut_lists = refl

pub row_behind_ends : end_or (plan_for (small 20 2) (all_after (small 20 2) row_behind_archive) (1 ∷ [])) ≡ Ok 6
unfolding first_free pages_of page_from places config_text played digits slots_told plan_of plan_to objects list_text opened
row_behind_ends = refl

pub row_behind_lists : listed_after (small 20 2) (all_after (small 20 2) row_behind_archive) (whole_journal (machine_after (small 20 2) row_behind_archive)) (plan_or (plan_for (small 20 2) (all_after (small 20 2) row_behind_archive) (1 ∷ []))) ≡ codes "data1:0:0 =ann\ndata1:0:1 =bob\n"
unfolding first_free pages_of page_from places config_text played digits slots_told plan_of plan_to objects list_text opened
row_behind_lists = refl

pub log_missing : end_or (plan_for (small 4 2) (without_log 2 (all_after (small 4 2) two_files_backed)) (1 ∷ [])) ≡ Err (MissingLog 13)
unfolding first_free pages_of page_from places config_text played digits slots_told plan_of plan_to objects list_text opened
log_missing = refl

pub log_not_needed : end_or (plan_for (small 4 2) (without_log 2 (all_after (small 4 2) archived_again)) (1 ∷ [])) ≡ Ok 27
unfolding first_free pages_of page_from places config_text played digits slots_told plan_of plan_to objects list_text opened
log_not_needed = refl

pub page_damaged : end_or (plan_for (small 20 2) (spoilt 1 (all_after (small 20 2) row_behind_archive)) (1 ∷ [])) ≡ Err (DamagedVolume 1 1 1)
unfolding first_free pages_of page_from places config_text played digits slots_told plan_of plan_to objects list_text opened
page_damaged = refl

pub salvaged_blocks : salvaged_heads (all_after (small 20 2) row_behind_archive) ≡ two_log_pages
unfolding first_free pages_of page_from places config_text played digits slots_told plan_of plan_to objects list_text opened
salvaged_blocks = refl

pub trailer_damaged : damaged_outside (spoilt 2 (all_after (small 20 2) row_behind_archive)) ≡ Some (1, 1, 2)
unfolding first_free pages_of page_from places config_text played digits slots_told plan_of plan_to objects list_text opened
trailer_damaged = refl

pub damaged_page_not_needed : end_or (plan_for (small 20 2) (spoilt 1 (all_after (small 20 2) archived_twice)) (1 ∷ [])) ≡ Ok 6
unfolding first_free pages_of page_from places config_text played digits slots_told plan_of plan_to objects list_text opened
damaged_page_not_needed = refl

pub other_trailer_damaged : damaged_outside (spoilt 2 (all_after (small 20 2) archived_twice)) ≡ Some (1, 1, 2)
unfolding first_free pages_of page_from places config_text played digits slots_told plan_of plan_to objects list_text opened
other_trailer_damaged = refl

pub first_end : end_or (plan_for three_spaces (tapes_after three_spaces log_file_lost) (2 ∷ [])) ≡ Ok 12
unfolding first_free pages_of page_from places config_text played digits slots_told plan_of plan_to objects list_text opened
first_end = refl

pub goes_on : text three_spaces lost_history ≡ codes "1 s1 begun 13\n2 s1 rid data1:0:4\n3 s1 committed 15\n4 s1 begun 16\n5 s1 rid data1:0:5\n6 s1 committed 18\n"
unfolding first_free pages_of page_from places config_text played digits slots_told plan_of plan_to objects list_text opened
goes_on = refl

pub last_end : end_or (plan_for three_spaces last_shelf (2 ∷ [])) ≡ Ok 18
unfolding first_free pages_of page_from places config_text played digits slots_told plan_of plan_to objects list_text opened
last_end = refl

pub void_archive_not_used : archives_in (plan_or (plan_for three_spaces last_shelf (2 ∷ []))) ≡ 1 ∷ 1 ∷ 1 ∷ []
unfolding first_free pages_of page_from places config_text played digits slots_told plan_of plan_to objects list_text opened
void_archive_not_used = refl

pub last_lists : listed_after three_spaces last_shelf last_journal (plan_or (plan_for three_spaces last_shelf (2 ∷ []))) ≡ codes "data1:0:0 =a\ndata1:0:1 =b\ndata1:0:2 =c\ndata1:0:3 =d\ndata1:0:4 =x\ndata1:0:5 =y\n"
unfolding first_free pages_of page_from places config_text played digits slots_told plan_of plan_to objects list_text opened
last_lists = refl

pub warm_ends : end_or (plan_for (small 20 2) (all_after (small 20 2) row_behind_archive) []) ≡ Ok 6
unfolding first_free pages_of page_from places config_text played digits slots_told plan_of plan_to objects list_text opened
warm_ends = refl

pub down_listed : list_text (small 20 2) warm_machine.lasting.spaces (row_in warm_machine) ≡ codes "data1 down\n"
unfolding first_free pages_of page_from places config_text played digits slots_told plan_of plan_to objects list_text opened
down_listed = refl

pub restored_warm_prints : text (small 20 2) (played 400 warm_shelf warm_machine restored_warm) ≡ codes "1 s1 begun 7\n2 s1 spacedown data1\n3 w1 up data1\n4 s1 row =ann\n5 w1 notdown data1\n"
unfolding first_free pages_of page_from places config_text played digits slots_told plan_of plan_to objects list_text opened
restored_warm_prints = refl
