use Rattle.ol_worked.proofs.RestoresPlayed.{damaged_page_not_needed, down_listed, first_end, goes_on, last_end, last_lists, log_missing, log_not_needed, open_at_cut_ends, open_at_cut_lists, other_trailer_damaged, page_damaged, restored_warm_prints, row_behind_ends, row_behind_lists, salvaged_blocks, trailer_damaged, void_archive_not_used, warm_ends}
use Rattle.ol_worked.proofs.restores.restores_give.Goals as goal

pub returns-clause-open_at_cut_ends : goal.returns-clause-open_at_cut_ends
returns-clause-open_at_cut_ends c = open_at_cut_ends

pub returns-clause-open_at_cut_lists : goal.returns-clause-open_at_cut_lists
returns-clause-open_at_cut_lists c = open_at_cut_lists

pub returns-clause-row_behind_ends : goal.returns-clause-row_behind_ends
returns-clause-row_behind_ends c = row_behind_ends

pub returns-clause-row_behind_lists : goal.returns-clause-row_behind_lists
returns-clause-row_behind_lists c = row_behind_lists

pub returns-clause-log_missing : goal.returns-clause-log_missing
returns-clause-log_missing c = log_missing

pub returns-clause-log_not_needed : goal.returns-clause-log_not_needed
returns-clause-log_not_needed c = log_not_needed

pub returns-clause-page_damaged : goal.returns-clause-page_damaged
returns-clause-page_damaged c = page_damaged

pub returns-clause-salvaged_blocks : goal.returns-clause-salvaged_blocks
returns-clause-salvaged_blocks c = salvaged_blocks

pub returns-clause-trailer_damaged : goal.returns-clause-trailer_damaged
returns-clause-trailer_damaged c = trailer_damaged

pub returns-clause-damaged_page_not_needed : goal.returns-clause-damaged_page_not_needed
returns-clause-damaged_page_not_needed c = damaged_page_not_needed

pub returns-clause-other_trailer_damaged : goal.returns-clause-other_trailer_damaged
returns-clause-other_trailer_damaged c = other_trailer_damaged

pub returns-clause-first_end : goal.returns-clause-first_end
returns-clause-first_end c = first_end

pub returns-clause-goes_on : goal.returns-clause-goes_on
returns-clause-goes_on c = goes_on

pub returns-clause-last_end : goal.returns-clause-last_end
returns-clause-last_end c = last_end

pub returns-clause-void_archive_not_used : goal.returns-clause-void_archive_not_used
returns-clause-void_archive_not_used c = void_archive_not_used

pub returns-clause-last_lists : goal.returns-clause-last_lists
returns-clause-last_lists c = last_lists

pub returns-clause-warm_ends : goal.returns-clause-warm_ends
returns-clause-warm_ends c = warm_ends

pub returns-clause-down_listed : goal.returns-clause-down_listed
returns-clause-down_listed c = down_listed

pub returns-clause-restored_warm_prints : goal.returns-clause-restored_warm_prints
returns-clause-restored_warm_prints c = restored_warm_prints
