use Rattle.ol_chunks.proofs.PlaceLaws.{first_held, place_held}
use Rattle.ol_chunks.proofs.laws.chunks_are_of_their_spaces.Goals as goal

pub returns-clause-place : goal.returns-clause-place
returns-clause-place c = λ config space page place e. place_held config space page place e

pub returns-clause-physical : goal.returns-clause-physical
returns-clause-physical c = λ config is. first_held config is config.physical_space is.physical_space

pub returns-clause-logs : goal.returns-clause-logs
returns-clause-logs c = λ config is. first_held config is config.log_space is.log_space
