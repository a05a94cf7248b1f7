use Rattle.ol_data_pages.proofs.PlaceLaws.{in_data, page_same, place_apart, place_bounds, place_inside, place_other, place_unlogged}
use Rattle.ol_data_pages.proofs.laws.places_are_of_the_data_alone.Goals as goal
use Rattle.ol_data_pages.specs.Places.{place_of}

pub returns-clause-others : goal.returns-clause-others
returns-clause-others c config is is_part e d apart same space page has =
    page_same config e d space page (λ i. same (place_of config space page).0 (place_of config space page).1 i (apart (place_of config space page).0 (place_of config space page).1 i (in_data config is space page has)))

pub returns-clause-other_page : goal.returns-clause-other_page
returns-clause-other_page c config is e d space page other_space other has has_other differ same =
    page_same config e d other_space other
    (λ i. same (place_of config other_space other).0 (place_of config other_space other).1 i (place_other config is space page other_space other has has_other differ))

pub returns-clause-inside : goal.returns-clause-inside
returns-clause-inside c config is space page chunk at has here = place_inside config is space page chunk at has here

pub returns-clause-there : goal.returns-clause-there
returns-clause-there c config is space page has = place_bounds config is space page has

pub returns-clause-apart : goal.returns-clause-apart
returns-clause-apart c config is part other space page chunk at has in_part = place_apart config is part other space page chunk at has in_part

pub returns-clause-entries : goal.returns-clause-entries
returns-clause-entries c config is space page has = place_unlogged config is space page has
