use Rattle.ol_worked.proofs.SessionsPlayed.{clean_and_switch_printed, conflict_printed, edge_rows_printed, full_log_printed}
use Rattle.ol_worked.proofs.sessions.sessions_print.Goals as goal

pub returns-clause-conflict : goal.returns-clause-conflict
returns-clause-conflict c = conflict_printed

pub returns-clause-edge_rows : goal.returns-clause-edge_rows
returns-clause-edge_rows c = edge_rows_printed

pub returns-clause-full_log : goal.returns-clause-full_log
returns-clause-full_log c = full_log_printed

pub returns-clause-clean_and_switch : goal.returns-clause-clean_and_switch
returns-clause-clean_and_switch c = clean_and_switch_printed
