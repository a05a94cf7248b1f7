use Rattle.ol_worked.proofs.FurtherPlayed.{log_files_printed, log_files_taped_0, taken_back_printed, three_levels_printed, three_levels_taped_1, two_archivers_printed, two_archivers_taped_1, two_archivers_taped_2, two_sessions_printed}
use Rattle.ol_worked.proofs.further.further_print.Goals as goal

pub returns-clause-two_sessions_printed : goal.returns-clause-two_sessions_printed
returns-clause-two_sessions_printed c = two_sessions_printed

pub returns-clause-taken_back_printed : goal.returns-clause-taken_back_printed
returns-clause-taken_back_printed c = taken_back_printed

pub returns-clause-three_levels_printed : goal.returns-clause-three_levels_printed
returns-clause-three_levels_printed c = three_levels_printed

pub returns-clause-three_levels_taped_1 : goal.returns-clause-three_levels_taped_1
returns-clause-three_levels_taped_1 c = three_levels_taped_1

pub returns-clause-two_archivers_printed : goal.returns-clause-two_archivers_printed
returns-clause-two_archivers_printed c = two_archivers_printed

pub returns-clause-two_archivers_taped_1 : goal.returns-clause-two_archivers_taped_1
returns-clause-two_archivers_taped_1 c = two_archivers_taped_1

pub returns-clause-two_archivers_taped_2 : goal.returns-clause-two_archivers_taped_2
returns-clause-two_archivers_taped_2 c = two_archivers_taped_2

pub returns-clause-log_files_printed : goal.returns-clause-log_files_printed
returns-clause-log_files_printed c = log_files_printed

pub returns-clause-log_files_taped_0 : goal.returns-clause-log_files_taped_0
returns-clause-log_files_taped_0 c = log_files_taped_0
