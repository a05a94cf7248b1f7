use Rattle.ol_chunks.proofs.PlaceLaws.{one_page, past_logs, past_physical, past_reserved, place_there}
use Rattle.ol_chunks.proofs.laws.places_are_apart.Goals as goal

pub returns-clause-there : goal.returns-clause-there
returns-clause-there c = λ config space page. place_there config space page

pub returns-clause-one : goal.returns-clause-one
returns-clause-one c = λ config space page other_space other place e f. one_page config space page other_space other place e f

pub returns-clause-reserved : goal.returns-clause-reserved
returns-clause-reserved c = λ config is space page place e at. past_reserved config is space page place e at

pub returns-clause-physical : goal.returns-clause-physical
returns-clause-physical c = λ config is space page place e. past_physical config is space page place e

pub returns-clause-logs : goal.returns-clause-logs
returns-clause-logs c = λ config is space page place e. past_logs config is space page place e
