use Rattle.ol_worked.proofs.ArchivesTaped.{changed_before_taped, changed_before_pages_taped, changed_behind_taped, changed_behind_pages_taped, changed_behind_spaces_taped, changed_over_checkpoint_taped, changed_over_checkpoint_pages_taped, next_level_taped, next_level_pages_taped, no_page_taped, no_parent_taped, one_row_taped, one_row_pages_taped, open_at_cut_taped, open_at_cut_pages_taped, too_many_images_taped}
use Rattle.ol_worked.proofs.archives.archives_put.Goals as goal

pub returns-clause-one_row : goal.returns-clause-one_row
returns-clause-one_row c = one_row_taped

pub returns-clause-one_row_pages : goal.returns-clause-one_row_pages
returns-clause-one_row_pages c = one_row_pages_taped

pub returns-clause-no_page : goal.returns-clause-no_page
returns-clause-no_page c = no_page_taped

pub returns-clause-changed_before : goal.returns-clause-changed_before
returns-clause-changed_before c = changed_before_taped

pub returns-clause-changed_before_pages : goal.returns-clause-changed_before_pages
returns-clause-changed_before_pages c = changed_before_pages_taped

pub returns-clause-changed_over_checkpoint : goal.returns-clause-changed_over_checkpoint
returns-clause-changed_over_checkpoint c = changed_over_checkpoint_taped

pub returns-clause-changed_over_checkpoint_pages : goal.returns-clause-changed_over_checkpoint_pages
returns-clause-changed_over_checkpoint_pages c = changed_over_checkpoint_pages_taped

pub returns-clause-changed_behind : goal.returns-clause-changed_behind
returns-clause-changed_behind c = changed_behind_taped

pub returns-clause-changed_behind_pages : goal.returns-clause-changed_behind_pages
returns-clause-changed_behind_pages c = changed_behind_pages_taped

pub returns-clause-changed_behind_spaces : goal.returns-clause-changed_behind_spaces
returns-clause-changed_behind_spaces c = changed_behind_spaces_taped

pub returns-clause-next_level : goal.returns-clause-next_level
returns-clause-next_level c = next_level_taped

pub returns-clause-next_level_pages : goal.returns-clause-next_level_pages
returns-clause-next_level_pages c = next_level_pages_taped

pub returns-clause-no_parent : goal.returns-clause-no_parent
returns-clause-no_parent c = no_parent_taped

pub returns-clause-open_at_cut : goal.returns-clause-open_at_cut
returns-clause-open_at_cut c = open_at_cut_taped

pub returns-clause-open_at_cut_pages : goal.returns-clause-open_at_cut_pages
returns-clause-open_at_cut_pages c = open_at_cut_pages_taped

pub returns-clause-too_many_images : goal.returns-clause-too_many_images
returns-clause-too_many_images c = too_many_images_taped
