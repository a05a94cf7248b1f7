use Rattle.ol_values.specs.declared.record.Record.TheVariants.{Change, Undo}
use Rattle.ol_model.specs.Machine.{config_of, row_in}
use Rattle.ol_model.specs.Steps.{change_row}
use Rattle.ol_turn_laws.proofs.StepLaws.{changed_row}
use Rattle.ol_free_slots.proofs.Filling.{change_config, emptied_filled, others_filled, record_filled}
use Rattle.ol_free_slots.proofs.laws.hints_stay_full.Goals as goal

pub returns-clause-change : goal.returns-clause-change
returns-clause-change c = λ h n place r m none is. record_filled h (config_of m) (config_of (change_row n place r m)) (row_in m) (row_in (change_row n place r m)) r (change_config n place r m) none (λ at. changed_row n place r m at) is

pub returns-clause-space : goal.returns-clause-space
returns-clause-space c = λ h m n space same rows is. others_filled h (config_of m) (config_of n) (row_in m) (row_in n) space same rows is

pub returns-clause-emptied : goal.returns-clause-emptied
returns-clause-emptied c = λ h n txn place rid before after m is.
    let r = Change txn rid before after in
    emptied_filled h (config_of m) (config_of (change_row n place r m)) (row_in m) (row_in (change_row n place r m)) rid after (change_config n place r m) (λ at. changed_row n place r m at) is

pub returns-clause-undone : goal.returns-clause-undone
returns-clause-undone c = λ h n txn place rid value m is.
    let r = Undo txn rid value in
    emptied_filled h (config_of m) (config_of (change_row n place r m)) (row_in m) (row_in (change_row n place r m)) rid value (change_config n place r m) (λ at. changed_row n place r m at) is
