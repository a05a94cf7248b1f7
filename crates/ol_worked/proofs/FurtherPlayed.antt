-- What these plays print, and what stands on their tapes, computed.
use Rattle.std.specs.Fmt.{digits}
use Rattle.std.specs.Prelude.{refl, ◌≡◌}
use Rattle.ol_values.specs.Config.{config_text}
use Rattle.ol_values.specs.Text.{slots_told}
use Rattle.ol_rules.specs.Journal.{page_from}
use Rattle.ol_rules.specs.Saveset.{places}
use Rattle.ol_model.specs.History.{played}
use Rattle.ol_model.specs.Machine.{first_free}
use Rattle.ol_model.specs.Waiting.{pages_of}
use Rattle.ol_worked.specs.Further.{log_files, log_files_prints, log_files_tape_0, taken_back, taken_back_prints, three_levels, three_levels_prints, three_levels_tape_1, two_archivers, two_archivers_prints, two_archivers_tape_1, two_archivers_tape_2, two_sessions, two_sessions_prints}
use Rattle.ol_worked.specs.Small.{printed, small, taped}

pub two_sessions_printed : printed (small 20 2) two_sessions ≡ two_sessions_prints
unfolding first_free pages_of page_from places config_text played digits slots_told
two_sessions_printed = refl

pub taken_back_printed : printed (small 20 2) taken_back ≡ taken_back_prints
unfolding first_free pages_of page_from places config_text played digits slots_told
taken_back_printed = refl

pub three_levels_printed : printed (small 20 2) three_levels ≡ three_levels_prints
unfolding first_free pages_of page_from places config_text played digits slots_told
three_levels_printed = refl

pub three_levels_taped_1 : taped (small 20 2) three_levels 1 ≡ three_levels_tape_1
unfolding first_free pages_of page_from places config_text played digits slots_told
three_levels_taped_1 = refl

pub two_archivers_printed : printed (small 20 2) two_archivers ≡ two_archivers_prints
unfolding first_free pages_of page_from places config_text played digits slots_told
two_archivers_printed = refl

pub two_archivers_taped_1 : taped (small 20 2) two_archivers 1 ≡ two_archivers_tape_1
unfolding first_free pages_of page_from places config_text played digits slots_told
two_archivers_taped_1 = refl

pub two_archivers_taped_2 : taped (small 20 2) two_archivers 2 ≡ two_archivers_tape_2
unfolding first_free pages_of page_from places config_text played digits slots_told
two_archivers_taped_2 = refl

pub log_files_printed : printed (small 4 2) log_files ≡ log_files_prints
unfolding first_free pages_of page_from places config_text played digits slots_told
log_files_printed = refl

pub log_files_taped_0 : taped (small 4 2) log_files 0 ≡ log_files_tape_0
unfolding first_free pages_of page_from places config_text played digits slots_told
log_files_taped_0 = refl
