use Rattle.std.proofs.Common.{subst, sym, ℕ}
use Rattle.std.specs.Prelude.{Err, Some}
use Rattle.ol_values.specs.Config.{Config}
use Rattle.ol_ports.specs.Disk.{seen}
use Rattle.ol_reserve.specs.Pair.{there}
use Rattle.ol_reserve.specs.declared.anchor.Anchor.{Anchor}
use Rattle.ol_anchor_opening.proofs.OpeningLaws.{fault_cause, newest_of, only_opened, only_refused, opened, refused, refused_to}
use Rattle.ol_anchor_opening.specs.Opening.{HasAnchorCause, IsRead, OpensOf, ReadsTo}
use Rattle.ol_anchor_opening.specs.declared.anchor.AnchorFault.{AnchorFault}
use Rattle.ol_anchor_opening.proofs.anchor.read_anchor.Goals as goal

pub returns-in-Ok-clause-read : goal.returns-in-Ok-clause-read
returns-in-Ok-clause-read g c =
    record {
      ends = subst (λ (sizes : ℕ → ℕ). ReadsTo sizes c.open_page.result) c.in-Ok.ensures.sizes c.open_page.ensures.ends;
      why = λ tells.
          let told = c.in-Ok.ensures.ok tells in
          let opens = c.open_page.ensures.opens told.0 told.1.1.holds.anchor told.2 in
          opened _ _ told.0 c.open_page.result told.1 told.3 (subst (λ (sizes : ℕ → ℕ). OpensOf sizes told.0 c.open_page.result) c.in-Ok.ensures.sizes opens);
      only = λ tells low a newest.
          let bytes = c.in-Ok.ensures.answer tells low (Some a) newest in
          only_opened _ a c.open_page.result
          (subst (λ (sizes : ℕ → ℕ). OpensOf sizes a c.open_page.result) c.in-Ok.ensures.sizes (c.open_page.ensures.opens a newest.1.holds.anchor bytes));
    }

pub returns-in-Err-clause-read : goal.returns-in-Err-clause-read
returns-in-Err-clause-read g c =
    subst (λ (f : AnchorFault). IsRead g.D.Disk.tells (there (g.D.Disk.sizes c.args.disk.now) (seen (g.D.Disk.past c.args.disk.now))) (g.D.Disk.sizes c.args.disk.now) (Err f)) (sym c.fault_of.ensures)
    (record {
      ends = refused_to _ _ _ c.in-Err.fault c.in-Err.ensures.place c.in-Err.ensures.cause;
      why = λ tells. refused _ _ c.in-Err.fault (c.in-Err.ensures.blank tells) (c.in-Err.ensures.bad tells) (c.in-Err.ensures.first tells);
      only = λ tells low a newest. only_refused _ a c.newest.new.buf c.in-Err.fault (c.in-Err.ensures.answer tells low (Some a) newest);
    })

pub returns-in-Ok-clause-newest : goal.returns-in-Ok-clause-newest
returns-in-Ok-clause-newest g c tells =
    let told = c.in-Ok.ensures.ok tells in
    newest_of _ _ told.0 c.open_page.result told.1 told.3
    (subst (λ (sizes : ℕ → ℕ). OpensOf sizes told.0 c.open_page.result) c.in-Ok.ensures.sizes (c.open_page.ensures.opens told.0 told.1.1.holds.anchor told.2))
    (subst (λ (sizes : ℕ → ℕ). ReadsTo sizes c.open_page.result) c.in-Ok.ensures.sizes c.open_page.ensures.ends)

pub returns-in-Err-clause-cause : goal.returns-in-Err-clause-cause
returns-in-Err-clause-cause g c =
    subst (λ (f : AnchorFault). HasAnchorCause {T = Anchor × Config} (g.D.Disk.fault_counts c.args.disk.now) (g.D.Disk.fault_counts c.newest.new.disk) (Err f)) (sym c.fault_of.ensures)
    (fault_cause _ _ c.in-Err.fault c.in-Err.ensures.cause)
