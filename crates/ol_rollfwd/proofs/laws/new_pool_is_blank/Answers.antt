use Rattle.std.proofs.Common.{None, ap, length, List, Option, ℕ}
use Rattle.std.specs.Prelude.{unwrap_or}
use Rattle.ol_values.specs.Config.{data_pages}
use Rattle.ol_values.specs.Image.{page_bytes}
use Rattle.ol_values.specs.Pages.{blank}
use Rattle.ol_page.proofs.Slots.{blank_page}
use Rattle.ol_pool.proofs.ItemLaws.{each_is}
use Rattle.ol_pool.proofs.MapLaws.{places_are}
use Rattle.ol_rollfwd.proofs.laws.new_pool_is_blank.Goals as goal

pub returns-clause-frames : goal.returns-clause-frames
returns-clause-frames k = λ c space page has. (places_are c space page).1 has

pub returns-clause-shows : goal.returns-clause-shows
returns-clause-shows k = λ c space page has. record {
  whole = blank_page;
  image = ap (λ (o : Option (List ℕ)). unwrap_or o (page_bytes blank)) (each_is (data_pages c) None 0 (length c.spaces) space page);
}
