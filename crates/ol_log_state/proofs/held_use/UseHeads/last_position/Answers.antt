use Rattle.std.proofs.Common.{List, ap, length, sym, ◌∙◌, ◌+◌, ◌-◌}
use Rattle.ol_rules.specs.Ring.{last_of_range}
use Rattle.std.specs.List.{slice_get}
use Rattle.ol_record.specs.declared.head.LogHead.{LogHead}
use Rattle.ol_log_state.specs.Uses.{Stored}
use Rattle.ol_log_state.proofs.UseLaws.{last_told}
use Rattle.ol_log_state.proofs.held_use.UseHeads.last_position.Goals as goal

pub returns-in-Some : goal.returns-in-Some
returns-in-Some c =
    let same = c.deref.ensures.value ∙ ap (λ (s : Stored). s.held.heads) c.self.view_is in
    let found = ap (λ (l : List LogHead). slice_get l (length l - 1)) (sym same) ∙ sym c.in-Some.ensures.value in
    ap (λ n. c.in-Some.head.now.first + n - 1) c.from.ensures ∙ sym (ap last_of_range (last_told c.args.self.now.held c.in-Some.head.now found))
