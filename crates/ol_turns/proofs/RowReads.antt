-- A row is read beside the turns.
use Rattle.std.specs.Prelude.{Err, IfOk, IsErrOf, None, Ok, OnErr, OnOk, Option, Result, ℕ, ◌≡◌}
use Rattle.std.proofs.Common.{ap, subst, sym, ◌∙◌}
use Rattle.ol_values.specs.declared.record.Record.{Record}
use Rattle.ol_values.specs.declared.record.Rid.{Rid}
use Rattle.ol_values.specs.declared.row.Row.{Row}
use Rattle.ol_before.specs.Images.{Captures}
use Rattle.ol_model.specs.Machine.{Machine}
use Rattle.ol_ports.specs.Disk.{Past}
use Rattle.ol_engine.specs.Parts.{behind_of}
use Rattle.ol_row_turns.proofs.Changes.{loaded_shown}
use Rattle.ol_running.specs.Running.{ShowsArchives}
use Rattle.ol_storage.specs.Installation.{Installation, with_store}
use Rattle.ol_storage.specs.Storing.{IsStored}
use Rattle.ol_storage.specs.declared.storage.StorageFault.{StorageFault}
use Rattle.ol_storage.specs.declared.storage.StorageFault.TheVariants.{Failed}
use Rattle.ol_store.specs.Stores.{IsLoaded, Store}
use Rattle.ol_turns.specs.Cores.{Runs, machine_of}
use Rattle.ol_turns.specs.declared.state.State.{State}

pub row_told : (r : Result (Option Row) StorageFault) (held row : Option Row) → held ≡ row → IfOk r (λ x. x ≡ held) → IfOk r (λ x. x ≡ row)
row_told (Ok x) held row same is = is ∙ same
row_told (Err fault) held row same is = tt

-- the page comes into memory, or nothing is changed
pub read_runs : (earlier : ℕ → Record) (begun : Machine) (past now : Past) (v w : Installation) (s : State) (rid : Rid) (r : Result (Option Row) StorageFault) → now ≡ past → OnOk r (w ≡ with_store v w.store) → OnOk r (IsLoaded v.store w.store rid.space rid.page)
    → OnOk r (IsStored now w (behind_of earlier (machine_of begun s))) → OnErr r ((IsErrOf r Failed → ⊥) → w ≡ v) → s.stopped ≡ None → (IsErrOf r Failed → ⊥) → Runs earlier begun past v s → Runs earlier begun now w s
read_runs earlier begun past now v w s rid (Ok x) same step loaded stored unchanged going ok runs = record {
  steps = runs.steps;
  stopped = runs.stopped;
  told = λ none. let told = runs.told none in record {
    shown = record {
      shows = loaded_shown s.opened v w s.locks s.registers (machine_of begun s) step (ap (λ (x : Store). x.log) loaded.rest) told.shown.shows;
      archives = subst (λ (b : Captures). ShowsArchives s.archives b (machine_of begun s)) (sym (ap (λ (x : Store). x.before) loaded.rest)) told.shown.archives;
      stored = stored;
      full = told.shown.full;
      going = told.shown.going;
    };
    regular = told.regular;
    roomy = told.roomy;
  };
}
read_runs earlier begun past now v w s rid (Err fault) same step loaded stored unchanged going ok runs =
    subst (λ (x : Installation). Runs earlier begun now x s) (sym (unchanged ok)) (subst (λ (p : Past). Runs earlier begun p v s) (sym same) runs)
