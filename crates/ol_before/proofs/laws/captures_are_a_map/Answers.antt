use Rattle.std.specs.Prelude.{refl}
use Rattle.std.proofs.Common.{arith}
use Rattle.ol_before.proofs.MapLaws.{image_dropped, image_taken, image_with, memory_with, memory_without}
use Rattle.ol_before.proofs.OrderLaws.{with_image_length}
use Rattle.ol_before.proofs.laws.captures_are_a_map.Goals as goal

pub returns-clause-none : goal.returns-clause-none
returns-clause-none k = λ limit space page. refl

pub returns-clause-room : goal.returns-clause-room
returns-clause-room k = λ c. (refl, omega arith)

pub returns-clause-captured : goal.returns-clause-captured
returns-clause-captured k = λ i c space page. image_with i c space page

pub returns-clause-count : goal.returns-clause-count
returns-clause-count k = λ i c. with_image_length i c.held

pub returns-clause-taken : goal.returns-clause-taken
returns-clause-taken k = λ c space page at_space at_page. image_taken c space page at_space at_page

pub returns-clause-dropped : goal.returns-clause-dropped
returns-clause-dropped k = λ c space at_space at_page. image_dropped c space at_space at_page

pub returns-clause-memory : goal.returns-clause-memory
returns-clause-memory k = λ i c some. memory_with i c some

pub returns-clause-freed : goal.returns-clause-freed
returns-clause-freed k = λ test c. memory_without test c
