-- The storage behind a read, and its faults.
use Rattle.std.specs.Prelude.{Err, IsErrOf, Ok, Result, Some, List, None, Option, is_none, nat_lt, slice_index_or, true, ℕ, ◌+◌, ◌<◌, ◌≡◌}
use Rattle.std.proofs.Common.{ap, arith, refl, subst, sym, ◌∙◌}
use Rattle.std.proofs.lemmas.Bool.{and_parts}
use Rattle.std.proofs.lemmas.Bool.Decides.{nat_tests}
use Rattle.ol_values.specs.declared.record.Record.{Record}
use Rattle.ol_values.specs.declared.record.Rid.{Rid}
use Rattle.ol_values.specs.declared.row.Row.{Row}
use Rattle.ol_values.specs.Config.{Config, has_page, has_place}
use Rattle.ol_values.specs.Pages.{rid_of}
use Rattle.ol_rules.specs.Start.{page_behind, start_page, upto}
use Rattle.ol_stand_laws.proofs.PageSlots.{slot_folded}
use Rattle.ol_model.specs.Machine.{Machine, config_of, last_of, row_in}
use Rattle.ol_pool.specs.Frames.{frame_of}
use Rattle.ol_store.specs.Stores.{IsBadAt, IsLoaded, Store}
use Rattle.ol_storage.proofs.Agreeing.{upto_all}
use Rattle.ol_storage.specs.Causes.{HasStorageCause}
use Rattle.ol_storage.specs.Installation.{Installation, with_store}
use Rattle.ol_storage.specs.declared.storage.StorageFault.{StorageFault}
use Rattle.ol_storage.specs.declared.storage.StorageFault.TheVariants.{Failed}
use Rattle.ol_txn.specs.Seats.{Seat}
use Rattle.ol_engine.proofs.Steps.{loaded_shows}
use Rattle.ol_engine.specs.Parts.{Registers, Shows, behind_of}
use Rattle.ol_free_slots.specs.declared.hints.Hints.{Hints}
use Rattle.ol_free_slots.specs.Filled.{AreFilled, AreFull}
use Rattle.ol_free_slots.specs.Slots.{HasEmpty, IsRead, rows_of}
use Rattle.ol_free_slots.proofs.Finding.{place_there}
use Rattle.ol_free_slots.proofs.Filling.{alike_filled}

-- ---- no part but the pages in memory changes

pub read_none : (v : Installation) → IsRead v v
read_none v = record { step = refl; log = refl; before = refl; config = refl; frames = λ space page bytes is. is }

pub read_more : (v w x : Installation) → IsRead v w → IsRead w x → IsRead v x
read_more v w x one two = record {
  step = two.step ∙ ap (λ (y : Installation). with_store y x.store) one.step;
  log = two.log ∙ one.log;
  before = two.before ∙ one.before;
  config = two.config ∙ one.config;
  frames = λ space page bytes is. two.frames space page bytes (one.frames space page bytes is);
}

pub read_same : (v w : Installation) → w ≡ v → IsRead v w
read_same v w same = subst (λ (x : Installation). IsRead v x) (sym same) (read_none v)

pub read_loaded : (v w : Installation) (space page : ℕ) → w ≡ with_store v w.store → IsLoaded v.store w.store space page → IsRead v w
read_loaded v w space page step is = record { step = step; log = ap (λ (s : Store). s.log) is.rest; before = ap (λ (s : Store). s.before) is.rest; config = ap (λ (s : Store). s.config) is.rest; frames = is.others }

pub read_shows : (opened : ℕ) (v w : Installation) (seats : List Seat) (registers : Registers) (m : Machine) → IsRead v w → Shows opened v seats registers m → Shows opened w seats registers m
read_shows opened v w seats registers m is shows = record { storage = loaded_shows v w m is.step is.log shows.storage; sessions = shows.sessions; since = shows.since }

-- a page that is not in memory now was not before
pub read_unframed : (v w : Installation) (space page : ℕ) → IsRead v w → frame_of w.store.pool space page ≡ None → frame_of v.store.pool space page ≡ None
read_unframed v w space page is none = go (frame_of v.store.pool space page) refl
  where
    go : (o : Option (List ℕ)) → frame_of v.store.pool space page ≡ o → frame_of v.store.pool space page ≡ None
    go None there = there
    go (Some bytes) there = absurd (let c : Some bytes ≡ None = sym (is.frames space page bytes there) ∙ none in cc)

pub read_bad : (v w : Installation) (space page chunk at : ℕ) → IsRead v w → IsBadAt w.store space page chunk at → IsBadAt v.store space page chunk at
read_bad v w space page chunk at is bad =
    let moved = subst (λ (x : Config). IsBadAt (let s : Store = record w.store { config = x } in s) space page chunk at) is.config bad in
    (moved.0, read_unframed v w space page is bad.1)

-- ---- faults

-- a fault under another answer
pub other_answer : {S T : Type 0} (e x : StorageFault) → IsErrOf {T = S} (Err e) x → IsErrOf {T = T} (Err e) x
other_answer {T = T} e x is = let same : e ≡ x = cc in ap (λ (y : StorageFault). let r : Result T StorageFault = Err y in r) same

-- its cause, where nothing had failed before
pub cause_on : {S T : Type 0} (c d : Config) (before mid now : ℕ → ℕ) (e : StorageFault) → d ≡ c → mid ≡ before → HasStorageCause {T = S} d mid now (Err e) → HasStorageCause {T = T} c before now (Err e)
cause_on {S = S} {T = T} c d before mid now e same still cause =
    let moved : HasStorageCause {T = S} c before now (Err e) = subst (λ (x : Config). HasStorageCause {T = S} x before now (Err e)) same (subst (λ (k : ℕ → ℕ). HasStorageCause {T = S} d k now (Err e)) still cause) in
    record {
      later = moved.later;
      failed = λ is. moved.failed (other_answer {S = T} {T = S} e Failed is);
      kept = λ none. moved.kept (λ is. none (other_answer {S = S} {T = T} e Failed is));
    }

-- without a fault
pub cause_none : {T : Type 0} (c : Config) (before now : ℕ → ℕ) (x : T) → now ≡ before → HasStorageCause {T = T} c before now (Ok x)
cause_none c before now x same = record {
  later = λ chunk. omega (arith, ap (λ (k : ℕ → ℕ). k chunk) same);
  failed = λ is. absurd (let c : Ok x ≡ Err Failed = is in cc);
  kept = λ none. same;
}

-- ---- the machine's rows

-- what the pages hold is what the machine's places hold
pub row_told : (earlier : ℕ → Record) (m : Machine) (rid : Rid) → has_place (config_of m) rid ≡ true → rows_of (behind_of earlier m) rid ≡ row_in m rid
row_told earlier m rid there =
    let slot : rid.slot < 31 = grind (arith, nat_tests, and_parts (has_page (config_of m) rid.space rid.page) (nat_lt rid.slot 31) there) in
    let all : upto m.work.start m.work.records (last_of m) ≡ m.work.records = upto_all m.work.start m.work.records (last_of m) (omega arith) in
    ap (λ (l : List Record). slice_index_or (page_behind m.work.start l rid.space rid.page).slots rid.slot None) all
    ∙ slot_folded (start_page m.work.start rid.space rid.page) (m.work.start.last + 1) m.work.records rid.space rid.page rid.slot slot

-- the hints are true of the machine where they are true of the pages, and the other way round
pub pages_filled : (opened : ℕ) (v : Installation) (seats : List Seat) (registers : Registers) (earlier : ℕ → Record) (m : Machine) (h : Hints) → Shows opened v seats registers m → AreFull h m → AreFilled h v.ring.config (rows_of (behind_of earlier m))
pages_filled opened v seats registers earlier m h shows is = alike_filled h (config_of m) v.ring.config (row_in m) (rows_of (behind_of earlier m)) shows.storage.config (λ at there. row_told earlier m at there) is

pub machine_filled : (opened : ℕ) (v : Installation) (seats : List Seat) (registers : Registers) (earlier : ℕ → Record) (m : Machine) (h : Hints) → Shows opened v seats registers m → AreFilled h v.ring.config (rows_of (behind_of earlier m)) → AreFull h m
machine_filled opened v seats registers earlier m h shows is =
    alike_filled h v.ring.config (config_of m) (rows_of (behind_of earlier m)) (row_in m) (sym shows.storage.config)
    (λ at there. sym (row_told earlier m at (subst (λ (x : Config). has_place x at ≡ true) shows.storage.config there))) is

-- so is a page with an empty slot
pub machine_empty : (opened : ℕ) (v : Installation) (seats : List Seat) (registers : Registers) (earlier : ℕ → Record) (m : Machine) (space page : ℕ) → Shows opened v seats registers m → has_page v.ring.config space page ≡ true → HasEmpty (rows_of (behind_of earlier m)) space page 31 → HasEmpty (row_in m) space page 31
machine_empty opened v seats registers earlier m space page shows there is =
    let place = subst (λ (x : Config). has_place x (rid_of space page is.0) ≡ true) shows.storage.config (place_there v.ring.config space page is.0 there is.1) in
    (is.0, is.1, ap (λ (o : Option Row). is_none o) (sym (row_told earlier m (rid_of space page is.0) place)) ∙ is.2)
