use Rattle.std.specs.Prelude.{[], false, ◌≡◌}
use Rattle.ol_values.specs.declared.record.Record.TheVariants.{Change, Commit, Rolled, Undo}
use Rattle.ol_rules.specs.Sound.{IsNewChange, IsNewUndo, afterwards, start}
use Rattle.ol_laws.proofs.SoundLaws.{open_before}
use Rattle.ol_laws.proofs.laws.record_belongs_to_open_transaction.Goals as goal

pub returns-clause-change : goal.returns-clause-change
returns-clause-change c = λ k journal more n rid before after s. open_before k journal more (Change n rid before after) n (IsNewChange k (afterwards start journal) n rid before after) s (λ m. m)

pub returns-clause-undo : goal.returns-clause-undo
returns-clause-undo c = λ k journal more n rid value s. open_before k journal more (Undo n rid value) n (IsNewUndo k rid value) s (λ m. m)

pub returns-clause-commit : goal.returns-clause-commit
returns-clause-commit c = λ k journal more n s. open_before k journal more (Commit n) n (λ t. t.undone ≡ false) s (λ m. m)

pub returns-clause-rolled : goal.returns-clause-rolled
returns-clause-rolled c = λ k journal more n s. open_before k journal more (Rolled n) n (λ t. t.pending ≡ []) s (λ m. m)
