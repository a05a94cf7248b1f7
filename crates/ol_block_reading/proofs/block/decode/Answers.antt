use Rattle.std.proofs.Common.{◌≡◌, ◌∙◌, List, ap, false, subst, sym, true, ℕ}
use Rattle.ol_object.specs.Bytes.{block_bytes}
use Rattle.ol_object.specs.declared.block.Block.{Block}
use Rattle.ol_block_reading.specs.Grammar.{IsBlock}
use Rattle.ol_block_reading.specs.Testing.{head_in, keeps_rules}
use Rattle.ol_block_reading.proofs.Blocks.{Passes, block_passes, block_takes, is_cut}
use Rattle.ol_block_reading.proofs.block.decode.Goals.{then-not-has_marks-via-then-not-has_marks, then-not-has_marks-via-else-not-has_marks+then-not-keeps_rules, then-not-has_marks-via-else-not-has_marks+else-not-keeps_rules+then-not-is_sealed}
use Rattle.ol_block_reading.proofs.block.decode.Goals as goal

pub returns-then-not-has_marks-clause-none : goal.returns-then-not-has_marks-clause-none
returns-then-not-has_marks-clause-none c = λ none h p is e.
    let cut = is_cut c.args.bytes.now _ _ _ _ c.split_at.ensures.front c.split_at.ensures.back c.split_at-2.ensures.front c.split_at-2.ensures.back in
    let passes = block_passes c.args.bytes.now _ _ _ _ cut h p is e in
    elim c.then-not-has_marks.branch [
      | then-not-has_marks-via-then-not-has_marks w ↦
          let never : false ≡ true = sym w.if-not-has_marks.true ∙ c.has_marks.ensures ∙ passes.marks in
          absurd cc
      | then-not-has_marks-via-else-not-has_marks+then-not-keeps_rules w ↦
          let never : false ≡ true = sym w.if-not-keeps_rules.true ∙ w.keeps_rules.ensures ∙ ap (λ (k : Block). keeps_rules k c.split_at-2.result.1.now) c.head_of-head.ensures ∙ passes.rules in
          absurd cc
      | then-not-has_marks-via-else-not-has_marks+else-not-keeps_rules+then-not-is_sealed w ↦
          let never : false ≡ true = sym w.if-not-is_sealed.true ∙ w.is_sealed.ensures ∙ passes.sealed in
          absurd cc
    ]

pub returns-clause-found : goal.returns-clause-found
returns-clause-found c =
    let fields = c.split_at-2.result.0.now in
    let payload = c.split_at-2.result.1.now in
    let cut = is_cut c.args.bytes.now _ _ _ _ c.split_at.ensures.front c.split_at.ensures.back c.split_at-2.ensures.front c.split_at-2.ensures.back in
    let passes : Passes c.split_at.result.0.now c.split_at.result.1.now fields payload = record {
      marks = sym c.has_marks.ensures ∙ c.if-not-has_marks.false;
      rules = ap (λ (k : Block). keeps_rules k payload) (sym c.head_of-head.ensures) ∙ sym c.keeps_rules.ensures ∙ c.if-not-keeps_rules.false;
      sealed = sym c.is_sealed.ensures ∙ c.if-not-is_sealed.false;
    } in
    let is = block_takes c.args.bytes.now _ _ _ _ cut c.told-bytes c.fits-bytes passes in
    subst (λ (h : Block). IsBlock h c.copy_from_slice.new.self × (c.args.bytes.now ≡ block_bytes h c.copy_from_slice.new.self)) (sym c.head_of-head.ensures)
    (subst (λ (p : List ℕ). IsBlock (head_in fields) p × (c.args.bytes.now ≡ block_bytes (head_in fields) p)) (sym c.copy_from_slice.ensures.after) is)
