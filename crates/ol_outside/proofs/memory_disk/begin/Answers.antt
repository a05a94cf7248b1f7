use Rattle.std.proofs.Common.{◌≡◌, ◌*◌, rules, arith, map, length, sym, ap, ◌∙◌}
use Rattle.std.proofs.lemmas.List.{length-replicate}
use Rattle.ol_outside.specs.Chunks.{lengths}
use Rattle.ol_outside.specs.KeptCalls.{kept_calls}
use Rattle.ol_outside.proofs.AgreeLaws.{agrees-begun}
use Rattle.ol_outside.proofs.memory_disk.begin.Goals as goal

pub invariant_of-result : goal.invariant_of-result
invariant_of-result c =
    let sizes = c.in_ok-from_slice.field-0.items in
    let copied : sizes ≡ c.args.sizes.now = search rules in
    let zeroes = c.in_ok-vec.ensures.items_if_clones_equal (λ y e. e) in (
      agrees-begun c.in_ok-copy.field-0 _ (kept_calls c.new.result.items) sizes 0 (c.in_ok-copy.ensures ∙ sym c.bytes.view_is) (ap kept_calls c.new.ensures.items) (omega arith) (ap lengths c.bytes.view_is ∙ c.requires ∙ ap (map (λ pages. 2048 * pages)) (sym copied)),
      ap length zeroes ∙ length-replicate (length c.args.sizes.now) 0 ∙ ap length (sym copied),
    )
