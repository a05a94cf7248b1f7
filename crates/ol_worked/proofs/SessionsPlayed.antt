-- What these plays print, computed.
use Rattle.std.specs.Fmt.{digits}
use Rattle.std.specs.Prelude.{refl, ◌≡◌}
use Rattle.ol_values.specs.Config.{config_text}
use Rattle.ol_values.specs.Text.{slots_told}
use Rattle.ol_rules.specs.Journal.{page_from}
use Rattle.ol_model.specs.History.{played}
use Rattle.ol_model.specs.Machine.{first_free}
use Rattle.ol_model.specs.Waiting.{pages_of}
use Rattle.ol_worked.specs.Small.{printed, small}
use Rattle.ol_worked.specs.Sessions.{clean_and_switch, clean_and_switch_prints, conflict, conflict_prints, edge_rows, edge_rows_prints, full_log, full_log_prints}

pub conflict_printed : printed (small 20 2) conflict ≡ conflict_prints
unfolding first_free pages_of page_from config_text played digits slots_told
conflict_printed = refl

pub edge_rows_printed : printed (small 20 2) edge_rows ≡ edge_rows_prints
unfolding first_free pages_of page_from config_text played digits slots_told
edge_rows_printed = refl

pub full_log_printed : printed (small 4 2) full_log ≡ full_log_prints
unfolding first_free pages_of page_from config_text played digits slots_told
full_log_printed = refl

pub clean_and_switch_printed : printed (small 20 2) clean_and_switch ≡ clean_and_switch_prints
unfolding first_free pages_of page_from config_text played digits slots_told
clean_and_switch_printed = refl
