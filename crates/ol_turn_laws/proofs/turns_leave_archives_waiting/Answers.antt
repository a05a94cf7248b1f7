use Rattle.ol_model.specs.ArchiveTurns.{cancel_at, end_at, start_at, take_at}
use Rattle.ol_model.specs.LogTurns.{checkpoint_turn, clean_at, copy_at, done_at, pick_at, switch_turn, uncopied_at}
use Rattle.ol_turn_laws.proofs.KeptLaws.{cancel_beside, checkpoint_rests, clean_rests, copy_rests, done_rests, end_beside, pick_rests, start_beside, switch_rests, take_beside, uncopied_rests}
use Rattle.ol_turn_laws.proofs.WaitingLaws.{same_images, same_left, same_waiting, waits, waits_beside}
use Rattle.ol_turn_laws.proofs.turns_leave_archives_waiting.Goals as goal

pub returns-clause-depends : goal.returns-clause-depends
returns-clause-depends k = λ m n a c s r. same_waiting m n a c s r

pub returns-clause-left : goal.returns-clause-left
returns-clause-left k = λ m n a c s r. same_left m n a c s r

pub returns-clause-images : goal.returns-clause-images
returns-clause-images k = λ m n c s r a. same_images m n c s r a

pub returns-clause-checkpoint : goal.returns-clause-checkpoint
returns-clause-checkpoint k = λ m j. waits m (checkpoint_turn m).1 j (checkpoint_rests m)

pub returns-clause-clean : goal.returns-clause-clean
returns-clause-clean k = λ m p j. waits m (clean_at m p).1 j (clean_rests m p)

pub returns-clause-pick : goal.returns-clause-pick
returns-clause-pick k = λ m u j. waits m (pick_at m u).1 j (pick_rests m u)

pub returns-clause-copy : goal.returns-clause-copy
returns-clause-copy k = λ m p j. waits m (copy_at m p).1 j (copy_rests m p)

pub returns-clause-done : goal.returns-clause-done
returns-clause-done k = λ m p j. waits m (done_at m p).1 j (done_rests m p)

pub returns-clause-give_up : goal.returns-clause-give_up
returns-clause-give_up k = λ count m why p j. waits m (uncopied_at count m why p).1 j (uncopied_rests count m why p)

pub returns-clause-switch : goal.returns-clause-switch
returns-clause-switch k = λ m j. waits m (switch_turn m).1 j (switch_rests m)

pub returns-clause-start : goal.returns-clause-start
returns-clause-start c = λ m k level names a j from_k from_j differ. waits_beside m (start_at m k level names a).1 k j (start_beside m k level names a) from_k from_j differ

pub returns-clause-take : goal.returns-clause-take
returns-clause-take c = λ m k a j from_k from_j differ. waits_beside m (take_at m k a).1 k j (take_beside m k a) from_k from_j differ

pub returns-clause-end : goal.returns-clause-end
returns-clause-end c = λ m k a j from_k from_j differ. waits_beside m (end_at m k a).1 k j (end_beside m k a) from_k from_j differ

pub returns-clause-cancel : goal.returns-clause-cancel
returns-clause-cancel c = λ count m k why a j from_k from_j differ. waits_beside m (cancel_at count m k why a).1 k j (cancel_beside count m k why a) from_k from_j differ
