use Rattle.std.proofs.Common.{List, ap, subst, sym, ℕ, ◌≡◌}
use Rattle.ol_core.specs.Core.{Takes}
use Rattle.ol_values.specs.declared.event.Event.TheVariants.{ArchiveStart}
use Rattle.ol_values.specs.declared.line.Form.{Form}
use Rattle.ol_online.specs.Playing.{names_in}
use Rattle.ol_online.proofs.LineLaws.{begun}
use Rattle.ol_online.proofs.archive.begin_archive.Goals as goal

pub returns-in-Ok-clause-begun : goal.returns-in-Ok-clause-begun
returns-in-Ok-clause-begun c config lines named reached waiting =
    let names : names_in c.args.line.now.form ≡ c.in-Archive.spaces = ap (λ (f : Form). names_in f) c.in-Archive.is in
    begun c.requires named c.by_of.ensures.actor c.by_of.ensures.line reached waiting
    (subst (λ (n : List (List ℕ)). Takes c.args.core.now c.by_of.result (ArchiveStart 0 n) c.in-Ok.field-0 c.archive_start.new.self) (sym names) c.in-Ok.ensures.ok)
