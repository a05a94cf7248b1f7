use Rattle.std.proofs.Common.{List, ap, arith, false, filter, not, subst, sym, ◌%◌, ◌-◌, ◌==◌, ◌∙◌, ◌≡◌}
use Rattle.std.specs.List.{AllByRecursion}
use Rattle.ol_log_state.specs.StoredFiles.{IsRoomy, IsSpare}
use Rattle.ol_log_state.specs.Uses.{Stored}
use Rattle.ol_log_state.proofs.FileLaws.{emptied_spare}
use Rattle.ol_log_state.proofs.ListLaws.{Located, all_at, all_pushed, all_removed, filter_none, filter_removed, located, missed}
use Rattle.ol_log_state.proofs.log_files.clear_file.Goals as goal

pub remove-held-requires : goal.remove-held-requires
remove-held-requires c =
    let test = (λ (s : Stored). ((s.held.uniq - 1) % c.args.files) == c.args.file) in
    let at = located test c.in-Some.i c.deref.result.now (sym c.in-Some.ensures) in
    omega (arith, at.within, c.deref.ensures.len)

pub loop-i-preserved : goal.loop-i-preserved
loop-i-preserved c =
    let test = (λ (s : Stored). ((s.held.uniq - 1) % c.args.files) == c.args.file) in
    let at = subst (λ (l : List Stored). Located test l c.in-Some.i) c.deref.ensures.value (located test c.in-Some.i c.deref.result.now (sym c.in-Some.ensures)) in
    record {
      uses = ap (λ l. filter (λ s. not (test s)) l) c.remove-held.ensures.items ∙ filter_removed (λ s. not (test s)) c.loop-i.uses.items c.in-Some.i c.remove-held.result at.within (ap not (at.passes c.remove-held.result)) ∙ c.loop-i.invariant.uses;
      total = omega (arith, c.remove-held.ensures.len, c.in-Ok.ensures.len, c.loop-i.invariant.total);
      for_uses = c.remove-held.ensures.capacity ∙ c.loop-i.invariant.for_uses;
      for_spare = omega (arith, c.loop-i.invariant.for_spare, c.push.ensures.capacity);
      spare = λ pages roomy spare. (let both = c.loop-i.invariant.spare pages roomy spare in
          let one = subst (IsRoomy pages) (sym c.remove-held.ensures.value) (all_at (IsRoomy pages) c.loop-i.uses.items c.in-Some.i c.remove-held.result at.within both.0) in
          let empty = subst (IsSpare pages) (sym c.empty.ensures) (emptied_spare pages c.uniq-uniq.result c.remove-held.result one) in (
            subst (AllByRecursion (IsRoomy pages)) (sym c.remove-held.ensures.items) (all_removed (IsRoomy pages) c.loop-i.uses.items c.in-Some.i both.0),
            subst (AllByRecursion (IsSpare pages)) (sym c.in-Ok.ensures.items) (all_pushed (IsSpare pages) c.loop-i.spare.items c.empty.new.self both.1 empty),
          ));
    }

pub returns-clause-uses : goal.returns-clause-uses
returns-clause-uses c =
    let test = (λ (s : Stored). ((s.held.uniq - 1) % c.args.files) == c.args.file) in
    let none = subst (λ (l : List Stored). AllByRecursion (λ s. test s ≡ false) l) c.deref.ensures.value (missed test 0 c.deref.result.now (sym c.in_default.ensures)) in
    sym (filter_none test c.loop-i.uses.items none) ∙ c.loop-i.invariant.uses

pub returns-clause-spare : goal.returns-clause-spare
returns-clause-spare c = λ pages roomy spare. (c.loop-i.invariant.spare pages roomy spare).1
