use Rattle.std.proofs.Common.{List, Some, ap, arith, false, refl, subst, sym, ◌∙◌, ◌≡◌}
use Rattle.std.specs.List.{AllByRecursion, position_from}
use Rattle.ol_log_state.specs.Files.{Files, ring_in, switched_files}
use Rattle.ol_log_state.specs.StoredFiles.{IsRoomy}
use Rattle.ol_log_state.specs.Uses.{HeldUse, Stored, closed_use}
use Rattle.ol_log_state.proofs.FileLaws.{closed_roomy, is_numbered, none_is_map, replaced, roomy_at}
use Rattle.ol_log_state.proofs.ListLaws.{located, missed}
use Rattle.ol_log_state.proofs.RingLaws.{switched_ring}
use Rattle.ol_log_state.proofs.log_files.LogFiles.switch.Goals as goal

pub index_mut-requires : goal.index_mut-requires
index_mut-requires c =
    let at = located (is_numbered c.self.inside.uniq) c.in-Some.i c.deref.result.now (sym c.in-Some.ensures) in
    omega (arith, at.within, c.deref.ensures.len)

pub invariant_of-self : goal.invariant_of-self
invariant_of-self c =
    let f = c.self.inside in
    let d = c.index_mut.result.now in
    let e : position_from (is_numbered f.uniq) 0 f.uses.items ≡ Some c.in-Some.i = ap (λ (l : List Stored). position_from (is_numbered f.uniq) 0 l) (sym c.deref.ensures.value) ∙ sym c.in-Some.ensures in
    let roomy = subst (IsRoomy f.area.pages) (sym c.switch.ensures) (closed_roomy f.area.pages d (roomy_at f c.in-Some.i d c.self.invariant e c.index_mut.ensures.value)) in
    (replaced f closed_use c.in-Some.i c.switch.new.self d c.self.invariant e c.index_mut.ensures.value (ap (λ (s : Stored). s.held) c.switch.ensures) refl roomy).0

pub returns-in-Some-clause-value : goal.returns-in-Some-clause-value
returns-in-Some-clause-value c =
    let f = c.self.inside in
    let d = c.index_mut.result.now in
    let e : position_from (is_numbered f.uniq) 0 f.uses.items ≡ Some c.in-Some.i = ap (λ (l : List Stored). position_from (is_numbered f.uniq) 0 l) (sym c.deref.ensures.value) ∙ sym c.in-Some.ensures in
    let roomy = subst (IsRoomy f.area.pages) (sym c.switch.ensures) (closed_roomy f.area.pages d (roomy_at f c.in-Some.i d c.self.invariant e c.index_mut.ensures.value)) in
    let uses = (replaced f closed_use c.in-Some.i c.switch.new.self d c.self.invariant e c.index_mut.ensures.value (ap (λ (s : Stored). s.held) c.switch.ensures) refl roomy).1 in
    ap (λ (l : List HeldUse). (let r : Files = record { area = f.area; uses = l; uniq = f.uniq } in r)) uses ∙ ap switched_files c.self.view_is

pub returns-in_default-clause-value : goal.returns-in_default-clause-value
returns-in_default-clause-value c =
    let f = c.self.inside in
    let test = is_numbered f.uniq in
    let none = subst (λ (l : List Stored). AllByRecursion (λ s. test s ≡ false) l) c.deref.ensures.value (missed test 0 c.deref.result.now (sym c.in_default.ensures)) in
    sym c.self.view_is ∙ ap (λ (l : List HeldUse). (let r : Files = record { area = f.area; uses = l; uniq = f.uniq } in r)) (none_is_map f.uniq closed_use f.uses.items none) ∙ ap switched_files c.self.view_is

pub returns-in-Some-clause-ring : goal.returns-in-Some-clause-ring
returns-in-Some-clause-ring c = ap ring_in (returns-in-Some-clause-value c) ∙ switched_ring c.args.self.now

pub returns-in_default-clause-ring : goal.returns-in_default-clause-ring
returns-in_default-clause-ring c = ap ring_in (returns-in_default-clause-value c) ∙ switched_ring c.args.self.now
