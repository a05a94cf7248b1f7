use Rattle.std.proofs.Common.{◌≡◌, ◌≤◌, ◌+◌, ◌*◌, ap, arith, false, inl, inr, subst, sym, true, slice_index_or, slice_set, ℕ, ◌∙◌}
use Rattle.std.proofs.lemmas.Bool.{cases_eq}
use Rattle.std.proofs.lemmas.List.{get_or-set_other, get_or-set_same, length-set}
use Rattle.std.proofs.Math.Nat.{mul-le-mul_right}
use Rattle.ol_chunks.specs.declared.table.Area.{Area}
use Rattle.ol_log_places.specs.Writes.{is_in_file}
use Rattle.ol_log_places.proofs.WriteLaws.{file_in, in_file}
use Rattle.ol_loglog.proofs.pages.note_shut.Goals as goal

pub loop-place-preserved : goal.loop-place-preserved
loop-place-preserved c =
    let t = c.args.table.now in
    let pages = ap (λ (a : Area). a.pages) c.logs-pages.ensures.value in
    let start = ap (λ n. c.args.file * n) pages in
    let old = c.loop-place.gates.items in
    let place = c.loop-place.place in
    let in_it : is_in_file t c.args.file place ≡ true = file_in t c.args.file place c.loop-place.invariant.from (omega (arith, c.loop-place-test.true, pages, start, c.loop-place.auto.place)) in
    let inside : (c.args.file + 1) * t.log_file_pages ≤ t.log_files * t.log_file_pages = mul-le-mul_right t.log_file_pages (omega (arith, c.requires.file)) in
    record {
      from = omega (arith, c.loop-place.invariant.from);
      count = length-set old place false ∙ c.loop-place.invariant.count;
      shut = λ k low lt. elim (cases_eq k place) [
        | inl same ↦ subst (λ (x : ℕ). slice_index_or (slice_set old place false) x false ≡ false) (sym same) (get_or-set_same old place false false (omega (arith, inside, c.requires.gates, c.loop-place.invariant.count, c.loop-place-test.true, pages, start)))
        | inr other ↦ get_or-set_other old place k false false other ∙ c.loop-place.invariant.shut k low (omega arith)
      ];
      others = λ k out. get_or-set_other old place k false false (λ same. let clash : false ≡ true = sym out ∙ ap (is_in_file t c.args.file) same ∙ in_it in cc) ∙ c.loop-place.invariant.others k out;
    }

pub returns-clause-shut : goal.returns-clause-shut
returns-clause-shut c k in_it =
    let pages = ap (λ (a : Area). a.pages) c.logs-pages.ensures.value in
    let start = ap (λ n. c.args.file * n) pages in
    let both = in_file c.args.table.now c.args.file k in_it in
    c.loop-place.invariant.shut k both.0 (omega (arith, both.1, c.loop-place-test.false, pages, start))
