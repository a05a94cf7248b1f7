-- What these plays put on tape, computed.
use Rattle.std.specs.Fmt.{digits}
use Rattle.std.specs.Prelude.{refl, ◌≡◌}
use Rattle.ol_values.specs.Config.{config_text}
use Rattle.ol_values.specs.Text.{slots_told}
use Rattle.ol_rules.specs.Journal.{page_from}
use Rattle.ol_rules.specs.Saveset.{places}
use Rattle.ol_model.specs.History.{played}
use Rattle.ol_model.specs.Machine.{first_free}
use Rattle.ol_model.specs.Waiting.{pages_of}
use Rattle.ol_worked.specs.Small.{pages_on, small, spaces_on, taped}
use Rattle.ol_worked.specs.Archives.{changed_before, changed_behind, changed_over_checkpoint, next_level, no_page, no_parent, one_row, open_at_cut, too_many_images}
use Rattle.ol_worked.specs.ArchiveTapes.{ann_page, broken_tape, changed_page, no_page_tape, not_ended_tape, old_and_new_pages, old_page, one_page_tape, open_at_cut_tape, two_levels_spaces, two_levels_tape}

pub one_row_taped : taped (small 20 2) one_row 1 ≡ one_page_tape
unfolding first_free pages_of page_from places config_text played digits slots_told
one_row_taped = refl

pub one_row_pages_taped : pages_on (small 20 2) one_row 1 ≡ ann_page
unfolding first_free pages_of page_from places config_text played digits slots_told
one_row_pages_taped = refl

pub no_page_taped : taped (small 20 2) no_page 1 ≡ no_page_tape
unfolding first_free pages_of page_from places config_text played digits slots_told
no_page_taped = refl

pub changed_before_taped : taped (small 20 2) changed_before 1 ≡ one_page_tape
unfolding first_free pages_of page_from places config_text played digits slots_told
changed_before_taped = refl

pub changed_before_pages_taped : pages_on (small 20 2) changed_before 1 ≡ old_page
unfolding first_free pages_of page_from places config_text played digits slots_told
changed_before_pages_taped = refl

pub changed_over_checkpoint_taped : taped (small 20 2) changed_over_checkpoint 1 ≡ not_ended_tape
unfolding first_free pages_of page_from places config_text played digits slots_told
changed_over_checkpoint_taped = refl

pub changed_over_checkpoint_pages_taped : pages_on (small 20 2) changed_over_checkpoint 1 ≡ old_page
unfolding first_free pages_of page_from places config_text played digits slots_told
changed_over_checkpoint_pages_taped = refl

pub changed_behind_taped : taped (small 20 2) changed_behind 1 ≡ two_levels_tape
unfolding first_free pages_of page_from places config_text played digits slots_told
changed_behind_taped = refl

pub changed_behind_pages_taped : pages_on (small 20 2) changed_behind 1 ≡ old_and_new_pages
unfolding first_free pages_of page_from places config_text played digits slots_told
changed_behind_pages_taped = refl

pub changed_behind_spaces_taped : spaces_on (small 20 2) changed_behind 1 ≡ two_levels_spaces
unfolding first_free pages_of page_from places config_text played digits slots_told
changed_behind_spaces_taped = refl

pub next_level_taped : taped (small 20 2) next_level 1 ≡ two_levels_tape
unfolding first_free pages_of page_from places config_text played digits slots_told
next_level_taped = refl

pub next_level_pages_taped : pages_on (small 20 2) next_level 1 ≡ old_and_new_pages
unfolding first_free pages_of page_from places config_text played digits slots_told
next_level_pages_taped = refl

pub no_parent_taped : taped (small 20 2) no_parent 1 ≡ no_page_tape
unfolding first_free pages_of page_from places config_text played digits slots_told
no_parent_taped = refl

pub open_at_cut_taped : taped (small 20 2) open_at_cut 1 ≡ open_at_cut_tape
unfolding first_free pages_of page_from places config_text played digits slots_told
open_at_cut_taped = refl

pub open_at_cut_pages_taped : pages_on (small 20 2) open_at_cut 1 ≡ changed_page
unfolding first_free pages_of page_from places config_text played digits slots_told
open_at_cut_pages_taped = refl

pub too_many_images_taped : taped (small 20 1) too_many_images 1 ≡ broken_tape
unfolding first_free pages_of page_from places config_text played digits slots_told
too_many_images_taped = refl
