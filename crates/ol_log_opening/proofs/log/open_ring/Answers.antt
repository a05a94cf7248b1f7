use Rattle.std.specs.List.{AllByRecursion}
use Rattle.std.specs.Prelude.{List}
use Rattle.std.proofs.Common.{subst, sym}
use Rattle.ol_values.specs.Config.{Config}
use Rattle.ol_log_places.specs.Heads.{IsInRun}
use Rattle.ol_log_places.specs.declared.heads.Stood.{Stood}
use Rattle.ol_log_opening.proofs.log.open_ring.Goals as goal

pub next_position-requires : goal.next_position-requires
next_position-requires c = (c.args.table.now.log_file_pages, subst (λ (l : List Stood). AllByRecursion (λ (s : Stood). IsInRun c.args.table.now.log_file_pages s.head) l) (sym c.as_slice.ensures) c.requires.run)

pub new-requires-clause-run : goal.new-requires-clause-run
new-requires-clause-run c = subst (λ (t : Config). AllByRecursion (λ (s : Stood). IsInRun t.log_file_pages s.head) c.args.standing.run) (sym c.copy.ensures) c.requires.run
