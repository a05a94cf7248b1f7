-- The turns of sessions that read: their replies, and what they leave beside what is shared.
use Rattle.std.specs.Prelude.{Err, IfErr, IsErrOf, List, None, Ok, Option, Result, Some, [], false, if◌then◌else◌, is_some, not, slice_index_or, sum_by, true, unwrap_or, ℕ, ◌^◌, ◌∷◌, ◌≡◌}
use Rattle.std.proofs.Common.{refl, subst, sym}
use Rattle.ol_values.specs.declared.event.Reply.{Reply}
use Rattle.ol_values.specs.declared.event.Reply.TheVariants.{BadRid, RowLocked, Slots, SpaceDown}
use Rattle.ol_values.specs.declared.event.Target.{Target}
use Rattle.ol_values.specs.declared.event.Target.TheVariants.{At as AtPlace, Reg}
use Rattle.ol_values.specs.declared.record.Record.{Record}
use Rattle.ol_values.specs.declared.record.Rid.{Rid}
use Rattle.ol_values.specs.declared.row.Row.{Row}
use Rattle.ol_values.specs.Config.{has_page, has_place, space_named}
use Rattle.ol_values.specs.Pages.{rid_of}
use Rattle.ol_rules.specs.Lasting.{is_up}
use Rattle.ol_before.specs.Images.{Captures}
use Rattle.ol_engine.specs.Parts.{Shows, behind_of}
use Rattle.ol_engine.specs.Turns.{Answers}
use Rattle.ol_model.specs.History.{is_faulted}
use Rattle.ol_model.specs.Machine.{Machine, Seat, config_of, holder, row_in, with_seat}
use Rattle.ol_model.specs.SessionTurns.{full_slots, list_at, list_turn, page_holder, place_held, place_in, place_of, read_at, read_turn, row_is, sharing, target_of}
use Rattle.ol_ports.specs.Disk.{Past}
use Rattle.ol_running.specs.Running.{ShowsArchives}
use Rattle.ol_storage.specs.Behind.{Behind}
use Rattle.ol_storage.specs.Installation.{Installation}
use Rattle.ol_storage.specs.Storing.{IsStored}
use Rattle.ol_storage.specs.declared.storage.StorageFault.{StorageFault}
use Rattle.ol_storage.specs.declared.storage.StorageFault.TheVariants.{Bad, Failed, NoMemory, Stopped}
use Rattle.ol_turn_laws.proofs.KeptLaws.{unless_keeps}
use Rattle.ol_turns.proofs.Besides.{IsBeside}
use Rattle.ol_turns.proofs.Goes.{calm_unless}
use Rattle.ol_turns.specs.Cores.{IsShown}
use Rattle.ol_turns.specs.declared.state.State.{State}

-- ---- refusals of places

abbrev Calm : Result Rid Reply → Type 0
Calm r = IfErr r (λ refusal. is_faulted refusal ≡ false)

place_calm : (m : Machine) (rid : Rid) → Calm (place_of m rid)
place_calm m rid = elim (has_place (config_of m) rid) as (λ b. Calm (if b then (if is_up m.lasting rid.space then Ok rid else Err (SpaceDown rid.space)) else Err BadRid)) [
  | true ↦ elim (is_up m.lasting rid.space) as (λ b. Calm (if b then Ok rid else Err (SpaceDown rid.space))) [ true ↦ tt | false ↦ refl ]
  | false ↦ refl
]

held_calm : (m : Machine) (o : Option Rid) → Calm (place_held m o)
held_calm m None = refl
held_calm m (Some rid) = place_calm m rid

in_calm : (m : Machine) (page slot : ℕ) (o : Option ℕ) → Calm (place_in m page slot o)
in_calm m page slot None = refl
in_calm m page slot (Some space) = place_calm m (rid_of space page slot)

pub target_calm : (m : Machine) (s : Seat) (target : Target) → Calm (target_of m s target)
target_calm m s (Reg reg) = held_calm m (slice_index_or s.registers reg None)
target_calm m s (AtPlace name page slot) = in_calm m page slot (space_named (config_of m) name)

-- ---- a read

row_calm : (m : Machine) (k : ℕ) (s : Seat) (rid : Rid) (o : Option Row) → is_faulted (row_is m k s rid o).0 ≡ false
row_calm m k s rid None = refl
row_calm m k s rid (Some row) = refl

read_at_calm : (m : Machine) (k : ℕ) (s : Seat) (place : Result Rid Reply) → Calm place → is_faulted (read_at m k s place).0 ≡ false
read_at_calm m k s (Err refusal) calm = calm
read_at_calm m k s (Ok rid) calm = calm_unless m ((is_some (holder m k false rid), RowLocked (unwrap_or (holder m k false rid) 0)) ∷ []) (row_is m k s rid (row_in m rid)) (refl, tt) (row_calm m k s rid (row_in m rid))

pub read_calm : (m : Machine) (k : ℕ) (s : Seat) (txn : Option ℕ) (target : Target) → is_faulted (read_turn m k s txn target).0 ≡ false
read_calm m k s None target = refl
read_calm m k s (Some txn) target = read_at_calm m k s (target_of m s target) (target_calm m s target)

-- what a turn that shares slots alone keeps
pub read_keeps : (P : Machine → Type 0) (m : Machine) (k : ℕ) (s : Seat) (txn : Option ℕ) (target : Target) → P m → ((t : Seat) → P (with_seat k t m)) → P (read_turn m k s txn target).1
read_keeps P m k s None target here seat = here
read_keeps P m k s (Some txn) target here seat = at (target_of m s target)
  where
    row : (rid : Rid) (o : Option Row) → P (row_is m k s rid o).1
    row rid None = here
    row rid (Some r) = seat (sharing s (rid ∷ []))

    at : (place : Result Rid Reply) → P (read_at m k s place).1
    at (Err refusal) = here
    at (Ok rid) = unless_keeps P m ((is_some (holder m k false rid), RowLocked (unwrap_or (holder m k false rid) 0)) ∷ []) (row_is m k s rid (row_in m rid)) here (row rid (row_in m rid))

-- ---- what the parts show

pub read_answers : (earlier : ℕ → Record) (past : Past) (w : Installation) (s : State) (before : Captures) (m : Machine) (r : Reply × Machine) (answered : Result Reply StorageFault)
    → Answers m (Shows s.opened w s.locks s.registers) r answered → ((IsErrOf answered Failed → ⊥) → w.store.before ≡ before) → ((IsErrOf answered Failed → ⊥) → IsStored past w (behind_of earlier m)) → behind_of earlier r.1 ≡ behind_of earlier m
    → IsBeside s.archives before s.hints m → IsBeside s.archives before s.hints r.1 → Answers m (λ k. IsShown earlier past w s k) r answered
read_answers earlier past w s before m r (Ok q) (is, shows) images stored same beside after = (
  is,
  record {
    shows = shows;
    archives = subst (λ (b : Captures). ShowsArchives s.archives b r.1) (sym (images (λ failed. absurd cc))) after.archives;
    stored = subst (λ (b : Behind). IsStored past w b) (sym same) (stored (λ failed. absurd cc));
    full = after.full;
    going = after.going;
  },
)
read_answers earlier past w s before m r (Err Failed) last images stored same beside after = last
read_answers earlier past w s before m r (Err (Bad chunk page)) last images stored same beside after = last
read_answers earlier past w s before m r (Err NoMemory) shows images stored same beside after = record {
  shows = shows;
  archives = subst (λ (b : Captures). ShowsArchives s.archives b m) (sym (images (λ failed. absurd cc))) beside.archives;
  stored = stored (λ failed. absurd cc);
  full = beside.full;
  going = beside.going;
}
read_answers earlier past w s before m r (Err Stopped) last images stored same beside after = last

-- ---- a list

list_at_calm : (m : Machine) (k : ℕ) (s : Seat) (page : ℕ) (named : Option ℕ) → is_faulted (list_at m k s page named).0 ≡ false
list_at_calm m k s page None = refl
list_at_calm m k s page (Some space) =
    calm_unless m
    ((not (has_page (config_of m) space page), BadRid) ∷ (not (is_up m.lasting space), SpaceDown space) ∷ (is_some (page_holder m k space page), RowLocked (unwrap_or (page_holder m k space page) 0)) ∷ [])
    (Slots (sum_by (λ (r : Rid). 2 ^ r.slot) (full_slots m space page)), with_seat k (sharing s (full_slots m space page)) m) (refl, (refl, (refl, tt))) refl

pub list_calm : (m : Machine) (k : ℕ) (s : Seat) (txn : Option ℕ) (name : List ℕ) (page : ℕ) → is_faulted (list_turn m k s txn name page).0 ≡ false
list_calm m k s None name page = refl
list_calm m k s (Some txn) name page = list_at_calm m k s page (space_named (config_of m) name)

pub list_keeps : (P : Machine → Type 0) (m : Machine) (k : ℕ) (s : Seat) (txn : Option ℕ) (name : List ℕ) (page : ℕ) → P m → ((t : Seat) → P (with_seat k t m)) → P (list_turn m k s txn name page).1
list_keeps P m k s None name page here seat = here
list_keeps P m k s (Some txn) name page here seat = at (space_named (config_of m) name)
  where
    at : (named : Option ℕ) → P (list_at m k s page named).1
    at None = here
    at (Some space) =
        unless_keeps P m
        ((not (has_page (config_of m) space page), BadRid) ∷ (not (is_up m.lasting space), SpaceDown space) ∷ (is_some (page_holder m k space page), RowLocked (unwrap_or (page_holder m k space page) 0)) ∷ [])
        (Slots (sum_by (λ (r : Rid). 2 ^ r.slot) (full_slots m space page)), with_seat k (sharing s (full_slots m space page)) m) here (seat (sharing s (full_slots m space page)))
