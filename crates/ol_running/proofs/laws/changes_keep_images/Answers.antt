use Rattle.ol_running.proofs.ChangeLaws.{broken_shown, captured_shown, kept_shown, keeps_alone, none_held}
use Rattle.ol_running.proofs.laws.changes_keep_images.Goals as goal

pub returns-clause-kept : goal.returns-clause-kept
returns-clause-kept q = λ l b m n x rid s only within none. kept_shown l b m n x rid s only within none

pub returns-clause-captured : goal.returns-clause-captured
returns-clause-captured q = λ l b m n x rid k r from s only within is keeps room. captured_shown l b m n x rid k r from s only within is keeps room

pub returns-clause-none : goal.returns-clause-none
returns-clause-none q = λ l b m k r space page from s within is keeps. none_held l b m k r space page from s within is keeps

pub returns-clause-broken : goal.returns-clause-broken
returns-clause-broken q = λ l b m n x rid k r from to s only within is keeps many. broken_shown l b m n x rid k r from to s only within is keeps many

pub returns-clause-alone : goal.returns-clause-alone
returns-clause-alone q = λ l b m j k space page from_j from_k s within one two. keeps_alone l b m j k space page from_j from_k s within one two
