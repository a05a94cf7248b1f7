-- What these plays print, computed.
use Rattle.std.specs.Fmt.{digits}
use Rattle.std.specs.Prelude.{refl, ◌≡◌}
use Rattle.ol_values.specs.Config.{config_text}
use Rattle.ol_values.specs.Text.{slots_told}
use Rattle.ol_rules.specs.Journal.{page_from}
use Rattle.ol_model.specs.History.{played}
use Rattle.ol_model.specs.Machine.{first_free}
use Rattle.ol_model.specs.Waiting.{pages_of}
use Rattle.ol_worked.specs.Small.{printed, small}
use Rattle.ol_worked.specs.Archives.{changed_before, changed_before_prints, changed_behind, changed_behind_prints, changed_over_checkpoint, changed_over_checkpoint_prints, next_level, next_level_prints, no_page, no_page_prints, no_parent, no_parent_prints, one_row, one_row_prints, open_at_cut, open_at_cut_prints, too_many_images, too_many_images_prints}

pub one_row_printed : printed (small 20 2) one_row ≡ one_row_prints
unfolding first_free pages_of page_from config_text played digits slots_told
one_row_printed = refl

pub no_page_printed : printed (small 20 2) no_page ≡ no_page_prints
unfolding first_free pages_of page_from config_text played digits slots_told
no_page_printed = refl

pub changed_before_printed : printed (small 20 2) changed_before ≡ changed_before_prints
unfolding first_free pages_of page_from config_text played digits slots_told
changed_before_printed = refl

pub changed_over_checkpoint_printed : printed (small 20 2) changed_over_checkpoint ≡ changed_over_checkpoint_prints
unfolding first_free pages_of page_from config_text played digits slots_told
changed_over_checkpoint_printed = refl

pub changed_behind_printed : printed (small 20 2) changed_behind ≡ changed_behind_prints
unfolding first_free pages_of page_from config_text played digits slots_told
changed_behind_printed = refl

pub next_level_printed : printed (small 20 2) next_level ≡ next_level_prints
unfolding first_free pages_of page_from config_text played digits slots_told
next_level_printed = refl

pub no_parent_printed : printed (small 20 2) no_parent ≡ no_parent_prints
unfolding first_free pages_of page_from config_text played digits slots_told
no_parent_printed = refl

pub open_at_cut_printed : printed (small 20 2) open_at_cut ≡ open_at_cut_prints
unfolding first_free pages_of page_from config_text played digits slots_told
open_at_cut_printed = refl

pub too_many_images_printed : printed (small 20 1) too_many_images ≡ too_many_images_prints
unfolding first_free pages_of page_from config_text played digits slots_told
too_many_images_printed = refl
