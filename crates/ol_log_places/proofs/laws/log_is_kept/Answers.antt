use Rattle.ol_log_places.proofs.Journals.{put_logged, put_near, thinned_logged, thinned_near}
use Rattle.ol_log_places.proofs.laws.log_is_kept.Goals as goal

pub returns-clause-closed : goal.returns-clause-closed
returns-clause-closed a c j need upto r s thin log = thinned_logged c need r s thin j upto log

pub returns-clause-put : goal.returns-clause-put
returns-clause-put a c j need r place p next log = put_logged c r j need place p next log

pub returns-clause-closed_near : goal.returns-clause-closed_near
returns-clause-closed_near a c need upto uniq r s thin near = thinned_near c need r s thin uniq upto near

pub returns-clause-put_near : goal.returns-clause-put_near
returns-clause-put_near a c j need uniq r place p next log low = put_near c r j need place p uniq next log low
