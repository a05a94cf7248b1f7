use Rattle.ol_chunks.proofs.PartLaws.{data_has_place, place_in_data}
use Rattle.ol_chunks.proofs.laws.data_pages_have_places.Goals as goal

pub returns-clause-place : goal.returns-clause-place
returns-clause-place c = λ config is space page place e. place_in_data config is space page place e

pub returns-clause-page : goal.returns-clause-page
returns-clause-page c = λ config is chunk page e. data_has_place config is chunk page e
