use Rattle.ol_running.proofs.TurnLaws.{may_pass, none_left_shown, none_taken_shown, take_shown}
use Rattle.ol_running.proofs.laws.taken_pages_are_the_machines.Goals as goal

pub returns-clause-taken : goal.returns-clause-taken
returns-clause-taken q = λ l b m k r v place bytes from to s is whole pages up f. take_shown l b m k r v place bytes from to s is whole pages up f

pub returns-clause-may : goal.returns-clause-may
returns-clause-may q = λ l b m k r v place bytes from s is whole pages up f. may_pass l b m k r v place bytes from s is whole pages up f

pub returns-clause-none : goal.returns-clause-none
returns-clause-none q = λ l b m k r v from s is whole pages up none. none_taken_shown l b m k r v from s is whole pages up none

pub returns-clause-done : goal.returns-clause-done
returns-clause-done q = λ l b m k r from s is whole none. none_left_shown l b m k r from s is whole none
