use Rattle.ol_model.specs.Steps.{append}
use Rattle.ol_cursor.proofs.FollowLaws.{follows_advance, follows_elsewhere, follows_start, follows_turn, may_advance, passed_is}
use Rattle.ol_cursor.proofs.StayLaws.{appended_pages, same_pages}
use Rattle.ol_cursor.proofs.laws.cursor_follows_its_archive.Goals as goal

pub returns-clause-started : goal.returns-clause-started
returns-clause-started k = λ c m a short from of_it none next left. follows_start c m a short from of_it none next left

pub returns-clause-may : goal.returns-clause-may
returns-clause-may k = λ c m a p rest f is. may_advance c m a p rest f is

pub returns-clause-advance : goal.returns-clause-advance
returns-clause-advance k = λ c m a p rest f is. follows_advance c m a p rest f is

pub returns-clause-turn : goal.returns-clause-turn
returns-clause-turn k = λ c m j a p rest whole f is. follows_turn c m j a p rest whole f is

pub returns-clause-elsewhere : goal.returns-clause-elsewhere
returns-clause-elsewhere k = λ c m n a config start records f. follows_elsewhere c m n a (same_pages m n a config start records) f

pub returns-clause-append : goal.returns-clause-append
returns-clause-append k = λ c r m a cut f. follows_elsewhere c m (append r m) a (appended_pages r m a cut) f

pub returns-clause-passed : goal.returns-clause-passed
returns-clause-passed k = λ c m a q f there. passed_is c m a q f there
