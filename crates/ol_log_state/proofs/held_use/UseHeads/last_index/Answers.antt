use Rattle.std.proofs.Common.{List, ap, length, sym, ◌∙◌, ◌-◌}
use Rattle.ol_rules.specs.Ring.{LogRange}
use Rattle.std.specs.List.{slice_get}
use Rattle.ol_record.specs.declared.head.LogHead.{LogHead}
use Rattle.ol_log_state.specs.Uses.{Stored}
use Rattle.ol_log_state.proofs.UseLaws.{last_told}
use Rattle.ol_log_state.proofs.held_use.UseHeads.last_index.Goals as goal

pub returns-in-Some-clause-value : goal.returns-in-Some-clause-value
returns-in-Some-clause-value c =
    let same = c.deref.ensures.value ∙ ap (λ (s : Stored). s.held.heads) c.self.view_is in
    let found = ap (λ (l : List LogHead). slice_get l (length l - 1)) (sym same) ∙ sym c.in-Some.ensures.value in
    sym (ap (λ (p : LogRange). p.index) (last_told c.args.self.now.held c.in-Some.head.now found))
