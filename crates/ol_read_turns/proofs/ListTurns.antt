-- A page is listed: what the machine's turn is.
use Rattle.std.specs.Prelude.{Bool, Err, IfErr, IfOk, List, Ok, OnErr, OnOk, Option, Result, Some, [], false, is_some, length, nat_lt, not, true, unwrap_or, ℕ, ◌-◌, ◌<◌, ◌∷◌, ◌≡◌, ◌≤◌}
use Rattle.std.proofs.Common.{ap, arith, refl, subst, sym, ◌∙◌}
use Rattle.std.proofs.lemmas.Bool.{and_parts}
use Rattle.std.proofs.lemmas.Bool.Decides.{nat_tests}
use Rattle.std.proofs.lemmas.List.{length-set}
use Rattle.std.proofs.lemmas.List.FromFn.{get_or-map-range_with_len}
use Rattle.ol_values.specs.declared.event.Reply.{Reply}
use Rattle.ol_values.specs.declared.event.Reply.TheVariants.{BadRid, RowLocked, Slots, SpaceDown}
use Rattle.ol_values.specs.declared.record.Record.{Record}
use Rattle.ol_values.specs.declared.record.Rid.{Rid}
use Rattle.ol_values.specs.declared.row.Row.{Row}
use Rattle.ol_values.specs.Config.{data_pages, has_page}
use Rattle.ol_values.specs.Pages.{rid_of}
use Rattle.ol_rules.specs.Lasting.{Lasting, SpaceState, is_up, space_up}
use Rattle.ol_rules.specs.Locks.{Holding, owed_in}
use Rattle.ol_model.specs.Answering.{unless}
use Rattle.ol_model.specs.Machine.{Machine, config_of, row_in, seat_of, with_seat}
use Rattle.ol_model.specs.SessionTurns.{full_slots, list_at, page_holder, sharing}
use Rattle.ol_model.specs.Turns.{comes_first}
use Rattle.ol_turn_laws.proofs.TableLaws.{same_page_holder}
use Rattle.ol_turn_laws.specs.Room.{Regular}
use Rattle.ol_storage.specs.Behind.{is_up as is_up_in}
use Rattle.ol_storage.specs.Installation.{Installation}
use Rattle.ol_storage.specs.declared.storage.StorageFault.{StorageFault}
use Rattle.ol_storage.specs.declared.storage.StorageFault.TheVariants.{NoMemory, Stopped}
use Rattle.ol_txn.specs.Seats.{HasTxn, IsSession, Seat, reserved_seat, table_of}
use Rattle.ol_txn.specs.Seats.{seat_of as locks_of, with_seat as with_locks}
use Rattle.ol_txn.proofs.TellingSeats.{seat_read}
use Rattle.ol_txn.specs.Telling.{held}
use Rattle.ol_engine.specs.Parts.{HasTurns, Registers, Shows, ShowsSeats, ShowsStorage, behind_of, free_of, space_in}
use Rattle.ol_engine.specs.Turns.{Answers}
use Rattle.ol_engine.proofs.Seats.{reserve_shows, sessions_told}
use Rattle.ol_free_slots.specs.Slots.{rows_of}
use Rattle.ol_free_slots.proofs.Finding.{place_there}
use Rattle.ol_free_slots.proofs.Reading.{row_told}
use Rattle.ol_read_turns.specs.PageSlots.{bits_of, full_among, is_set, page_owner}
use Rattle.ol_read_turns.specs.Sharing.{shared_all}
use Rattle.ol_read_turns.proofs.PageBits.{bits_set, full_same}
use Rattle.ol_read_turns.proofs.PageSharings.{reserved_shared, reserved_table}
use Rattle.ol_read_turns.proofs.RowTurns.{faulted}
use Rattle.ol_read_turns.proofs.Sharings.{shared_shown, shared_turns}

-- ---- the machine's turn

-- a space that the anchor has as up
pub up_told : (v : Installation) (m : Machine) (space page : ℕ) → ShowsStorage v m → has_page (config_of m) space page ≡ true → is_up_in v.anchor space ≡ true → is_up m.lasting space ≡ true
up_told v m space page shows there up =
    let within : space < length (config_of m).spaces = grind (arith, nat_tests, and_parts (nat_lt space (length (config_of m).spaces)) (nat_lt page (data_pages (config_of m) space)) there) in
    ap (λ (l : Lasting). is_up l space) (sym shows.lasting)
    ∙ ap (λ (s : SpaceState). s.up) (get_or-map-range_with_len (space_in v.anchor) 0 (length (config_of m).spaces) space space space_up within (omega arith))
    ∙ up

-- the owner of the page is the machine's
pub owner_told : (seats : List Seat) (registers : Registers) (m : Machine) (k space page : ℕ) → Regular m → ShowsSeats seats registers m → page_owner (table_of seats) k space page 31 ≡ page_holder m k space page
unfolding page_owner
owner_told seats registers m k space page regular shows = same_page_holder m (table_of seats) k space page (sessions_told seats registers m regular shows)

-- the rows are told and shared
abbrev pub listed : Machine → ℕ → List Rid → Reply × Machine
listed m k rids = (Slots (bits_of rids), with_seat k (sharing (seat_of m k) rids) m)

-- the refusal that is left where page and space are there
pub list_is : (m : Machine) (k space page : ℕ) (owner : Option ℕ) → has_page (config_of m) space page ≡ true → is_up m.lasting space ≡ true → page_holder m k space page ≡ owner
    → list_at m k (seat_of m k) page (Some space) ≡ unless m ((is_some owner, RowLocked (unwrap_or owner 0)) ∷ []) (listed m k (full_slots m space page))
list_is m k space page owner there up is =
    let turn : Bool → Bool → Option ℕ → Reply × Machine = λ b u h. unless m ((not b, BadRid) ∷ (not u, SpaceDown space) ∷ (is_some h, RowLocked (unwrap_or h 0)) ∷ []) (listed m k (full_slots m space page)) in
    ap (λ b. turn b (is_up m.lasting space) (page_holder m k space page)) there ∙ ap (λ u. turn true u (page_holder m k space page)) up ∙ ap (λ h. turn true true h) is

pub list_yields : (m : Machine) (k space page : ℕ) → has_page (config_of m) space page ≡ true → is_up m.lasting space ≡ true → comes_first (list_at m k (seat_of m k) page (Some space)).0 ≡ false
list_yields m k space page there up =
    let owner = page_holder m k space page in
    ap (λ (r : Reply × Machine). comes_first r.0) (list_is m k space page owner there up refl)
    ∙ elim (is_some owner) as (λ b. comes_first (unless m ((b, RowLocked (unwrap_or owner 0)) ∷ []) (listed m k (full_slots m space page))).0 ≡ false) [ true ↦ refl | false ↦ refl ]

-- ---- the slots that hold a row

rows_told : (earlier : ℕ → Record) (m : Machine) (space page : ℕ) → has_page (config_of m) space page ≡ true → full_among (λ rid. is_some (rows_of (behind_of earlier m) rid)) space page 31 ≡ full_among (λ rid. is_some (row_in m rid)) space page 31
rows_told earlier m space page there =
    full_same (λ rid. is_some (rows_of (behind_of earlier m) rid)) (λ rid. is_some (row_in m rid)) space page 31
    (λ slot small. ap (λ (o : Option Row). is_some o) (row_told earlier m (rid_of space page slot) (place_there (config_of m) space page slot there small)))

full_told : (m : Machine) (space page : ℕ) → full_among (λ rid. is_some (row_in m rid)) space page 31 ≡ full_slots m space page
unfolding full_among
full_told m space page = refl

pub bits_told : (earlier : ℕ → Record) (m : Machine) (space page bits : ℕ) → has_page (config_of m) space page ≡ true → bits ≡ bits_of (full_among (λ rid. is_some (rows_of (behind_of earlier m) rid)) space page 31) → bits ≡ bits_of (full_slots m space page)
bits_told earlier m space page bits there is = is ∙ ap bits_of (rows_told earlier m space page there ∙ full_told m space page)

pub set_told : (earlier : ℕ → Record) (m : Machine) (space page bits : ℕ) → has_page (config_of m) space page ≡ true → bits ≡ bits_of (full_among (λ rid. is_some (rows_of (behind_of earlier m) rid)) space page 31) → full_among (is_set bits) space page 31 ≡ full_slots m space page
set_told earlier m space page bits there is =
    let full : Rid → Bool = λ rid. is_some (rows_of (behind_of earlier m) rid) in
    full_same (is_set bits) full space page 31 (λ slot small. ap (λ n. is_set n (rid_of space page slot)) is ∙ bits_set full space page 31 slot small)
    ∙ rows_told earlier m space page there
    ∙ full_told m space page

-- ---- answers

module _ (opened : ℕ) (w : Installation) (seats now : List Seat) (k : ℕ) (rids : List Rid) (session : IsSession k) (some : HasTxn seats k) where
  abbrev mid : List Seat
  mid = with_locks seats k (reserved_seat 31 (locks_of seats k))

  some_mid : length seats ≡ 16 → HasTxn mid k
  some_mid sixteen = ap (λ (s : Seat). is_some s.holding) (seat_read seats k (reserved_seat 31 (locks_of seats k)) sixteen session) ∙ some

  joined : length seats ≡ 16 → with_locks mid k (shared_all rids (locks_of mid k)) ≡ with_locks seats k (shared_all rids (reserved_seat 31 (locks_of seats k)))
  joined sixteen = reserved_shared seats mid (with_locks mid k (shared_all rids (locks_of mid k))) k (reserved_seat 31 (locks_of seats k)) rids sixteen session refl refl

  -- the parts show the machine behind it
  pub list_shown : (registers : Registers) (m : Machine) → Shows opened w seats registers m → now ≡ with_locks seats k (shared_all rids (reserved_seat 31 (locks_of seats k))) → Shows opened w now registers (with_seat k (sharing (seat_of m k) rids) m)
  list_shown registers m shows is =
      let sixteen = shows.sessions.sixteen in
      let reserved : Shows opened w mid registers m = record { storage = shows.storage; sessions = reserve_shows seats registers m k 31 session shows.sessions; since = shows.since } in
      subst (λ (l : List Seat). Shows opened w l registers (with_seat k (sharing (seat_of m k) rids) m)) (joined sixteen ∙ sym is) (shared_shown opened w mid registers m k rids session (some_mid sixteen) reserved)

  -- room is left for what is owed
  pub list_room : length seats ≡ 16 → HasTurns opened w seats → now ≡ with_locks seats k (shared_all rids (reserved_seat 31 (locks_of seats k))) → HasTurns opened w now
  list_room sixteen turns is =
      let table : table_of mid ≡ table_of seats = reserved_table seats k 31 in
      let reserved : HasTurns opened w mid = record {
        room = turns.room;
        log = subst (λ (t : List (Option Holding)). owed_in t ≤ free_of w) (sym table) turns.log;
        records = omega (arith, ap owed_in table, turns.records);
        positions = omega (arith, ap owed_in table, turns.positions);
        at_end = turns.at_end;
        need = turns.need;
        numbers = λ i h e. turns.numbers i h (ap (λ (t : List (Option Holding)). held t i) (sym table) ∙ e);
      } in
      let long : length mid ≡ 16 = length-set seats (k - 1) (reserved_seat 31 (locks_of seats k)) ∙ sixteen in
      subst (λ (l : List Seat). HasTurns opened w l) (joined sixteen ∙ sym is) (shared_turns opened w mid k rids long session (some_mid sixteen) reserved)

-- the rows of the page were read, and their slots shared, or there was no memory for that
pub list_answer : (opened : ℕ) (w : Installation) (seats now : List Seat) (registers : Registers) (m : Machine) (k bits : ℕ) (rids full : List Rid) (r : Result Reply StorageFault) → IsSession k → HasTxn seats k → Shows opened w seats registers m → bits ≡ bits_of full → rids ≡ full
    → IfOk r (λ reply. reply ≡ Slots bits) → OnOk r (now ≡ with_locks seats k (shared_all rids (reserved_seat 31 (locks_of seats k)))) → OnErr r (now ≡ seats) → IfErr r (λ fault. fault ≡ NoMemory) → Answers m (Shows opened w now registers) (listed m k full) r
list_answer opened w seats now registers m k bits rids full (Ok reply) session some shows told same is ok kept only =
    (is ∙ ap (λ n. Slots n) told, subst (λ (l : List Rid). Shows opened w now registers (with_seat k (sharing (seat_of m k) l) m)) same (list_shown opened w seats now k rids session some registers m shows ok))
list_answer opened w seats now registers m k bits rids full (Err fault) session some shows told same is ok kept only =
    faulted m (Shows opened w now registers) (listed m k full) fault (λ e. absurd (let c : Stopped ≡ NoMemory = sym e ∙ only in cc)) refl (λ e. subst (λ (l : List Seat). Shows opened w l registers m) (sym kept) shows)

pub list_turns : (opened : ℕ) (w : Installation) (seats now : List Seat) (k : ℕ) (rids : List Rid) (r : Result Reply StorageFault) → length seats ≡ 16 → IsSession k → HasTxn seats k → HasTurns opened w seats
    → OnOk r (now ≡ with_locks seats k (shared_all rids (reserved_seat 31 (locks_of seats k)))) → OnErr r (now ≡ seats) → HasTurns opened w now
list_turns opened w seats now k rids (Ok reply) sixteen session some turns ok kept = list_room opened w seats now k rids session some sixteen turns ok
list_turns opened w seats now k rids (Err fault) sixteen session some turns ok kept = subst (λ (l : List Seat). HasTurns opened w l) (sym kept) turns
