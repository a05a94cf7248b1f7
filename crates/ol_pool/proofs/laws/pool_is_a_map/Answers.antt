use Rattle.std.proofs.Common.{None, length}
use Rattle.ol_values.specs.Config.{data_pages}
use Rattle.ol_pool.proofs.ItemLaws.{each_is, page_there, space_there}
use Rattle.ol_pool.proofs.MapLaws.{clean_is, places_are}
use Rattle.ol_pool.proofs.laws.pool_is_a_map.Goals as goal

pub returns-clause-none : goal.returns-clause-none
returns-clause-none k = λ c space page. each_is (data_pages c) None 0 (length c.spaces) space page

pub returns-clause-places : goal.returns-clause-places
returns-clause-places k = λ c space page. places_are c space page

pub returns-clause-there : goal.returns-clause-there
returns-clause-there k = λ p space page some. (space_there p.spaces space page (page_there p.spaces space page some), page_there p.spaces space page some)

pub returns-clause-clean : goal.returns-clause-clean
returns-clause-clean k = λ p space page at_space at_page. clean_is p space page at_space at_page
