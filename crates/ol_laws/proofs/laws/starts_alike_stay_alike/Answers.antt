use Rattle.std.proofs.Common.{ap}
use Rattle.ol_values.specs.Pages.{Page}
use Rattle.ol_rules.specs.Journal.{page_from}
use Rattle.ol_laws.proofs.AlikeLaws.{alike_afterwards, sound_alike}
use Rattle.ol_laws.proofs.laws.starts_alike_stay_alike.Goals as goal

pub returns-clause-state : goal.returns-clause-state
returns-clause-state c = λ up a b records h. alike_afterwards up a b records h

pub returns-clause-sound : goal.returns-clause-sound
returns-clause-sound c = λ up k a b records h is s. sound_alike up k a b records h is s

pub returns-clause-pages : goal.returns-clause-pages
returns-clause-pages c = λ up a b first records same space page is. ap (λ (p : Page). page_from p first records space page) (same space page is)
