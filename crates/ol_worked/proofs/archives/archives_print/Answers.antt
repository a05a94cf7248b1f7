use Rattle.ol_worked.proofs.ArchivesPlayed.{changed_before_printed, changed_behind_printed, changed_over_checkpoint_printed, next_level_printed, no_page_printed, no_parent_printed, one_row_printed, open_at_cut_printed, too_many_images_printed}
use Rattle.ol_worked.proofs.archives.archives_print.Goals as goal

pub returns-clause-one_row : goal.returns-clause-one_row
returns-clause-one_row c = one_row_printed

pub returns-clause-no_page : goal.returns-clause-no_page
returns-clause-no_page c = no_page_printed

pub returns-clause-changed_before : goal.returns-clause-changed_before
returns-clause-changed_before c = changed_before_printed

pub returns-clause-changed_over_checkpoint : goal.returns-clause-changed_over_checkpoint
returns-clause-changed_over_checkpoint c = changed_over_checkpoint_printed

pub returns-clause-changed_behind : goal.returns-clause-changed_behind
returns-clause-changed_behind c = changed_behind_printed

pub returns-clause-next_level : goal.returns-clause-next_level
returns-clause-next_level c = next_level_printed

pub returns-clause-no_parent : goal.returns-clause-no_parent
returns-clause-no_parent c = no_parent_printed

pub returns-clause-open_at_cut : goal.returns-clause-open_at_cut
returns-clause-open_at_cut c = open_at_cut_printed

pub returns-clause-too_many_images : goal.returns-clause-too_many_images
returns-clause-too_many_images c = too_many_images_printed
