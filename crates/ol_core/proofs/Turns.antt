-- What a turn answers and leaves, as the contract of a method says it.
use Rattle.std.specs.Option.{option_map}
use Rattle.std.specs.Prelude.{Bool, List, None, Option, Some, [], drop, false, is_none, is_some, length, nat_le, slice_set, unwrap_or, ℕ, ◌*◌, ◌++◌, ◌+◌, ◌-◌, ◌<◌, ◌∷◌, ◌≡◌, ◌≤◌}
use Rattle.std.proofs.Common.{ap, refl, subst, sym, ◌∙◌}
use Rattle.ol_values.specs.declared.event.Event.{Event}
use Rattle.ol_values.specs.declared.event.Event.TheVariants.{ArchiveEnd, ArchiveStart, ArchiveTurn, Insert as InsertTurn}
use Rattle.ol_values.specs.declared.event.Reply.{Reply}
use Rattle.ol_values.specs.declared.event.Reply.TheVariants.{AllTaken, Archived, At, NoSpace, PageIs, PagesLeft, SpaceFull, Started}
use Rattle.ol_values.specs.declared.history.Actor.{Actor}
use Rattle.ol_values.specs.declared.history.Actor.TheVariants.{Archiver, Session}
use Rattle.ol_values.specs.declared.history.By.{By}
use Rattle.ol_values.specs.declared.history.Entry.{Entry}
use Rattle.ol_values.specs.declared.record.Record.{Record}
use Rattle.ol_values.specs.declared.record.Rid.{Rid}
use Rattle.ol_values.specs.declared.row.Row.{Row}
use Rattle.ol_core.specs.Archivers.{spaces_named, start_with}
use Rattle.ol_values.specs.Config.{Config, data_pages, space_named}
use Rattle.ol_rules.specs.Journal.{row_at}
use Rattle.ol_core.specs.Machine.{Machine}
use Rattle.ol_core.specs.Sessions.{insert_at, insert_into, insert_turn}
use Rattle.ol_core.specs.Turns.{given_by, turn}
use Rattle.ol_core.specs.declared.running.Running.{Running}
use Rattle.ol_core.specs.Core.{IsKept, Seen, Takes, archive_in, entry_of, machine_in}
use Rattle.ol_core.specs.Filled.{Filled, filled_at, first_place, marked, no_marks, slot_at, used_from}
use Rattle.ol_core.proofs.Changed.{row_in}
use Rattle.ol_core.proofs.Free.{free_slot, no_slot}
use Rattle.ol_core.proofs.Places.{end_done, end_left, turn_page, turn_taken}
use Rattle.ol_core.proofs.Starts.{no_running, starts}

abbrev pub seen : Machine → List Entry → Seen
seen m h = record { machine = m; history = h }

-- a step of the machine, with its entry
takes_as : {m m' : Machine} {h h' : List Entry} {old : Seen} {by : By} {event : Event} {reply : Reply} (actor : Actor) → seen m h ≡ old → by.actor ≡ actor → turn (given_by reply) m actor event ≡ (reply, m')
    → h' ≡ h ++ entry_of (length h + 1) by event reply ∷ [] → Takes old by event reply (seen m' h')
takes_as {m = m} {m' = m'} {h = h} {h' = h'} {by = by} {event = event} {reply = reply} actor is who step told =
    subst (λ (s : Seen). Takes s by event reply (seen m' h')) is (record {
      step = sym (ap (λ (a : Actor). turn (given_by reply) m a event) who ∙ step);
      told = told;
    })

-- ---- the turns of a running archive

pub takes_all : {c : Config} {j : List Record} {txn : Option ℕ} {pages : List Filled} {next : ℕ} {arch : Option Running} {h h' : List Entry} {old : Seen} {by : By} (regs : List (Option Rid)) (a : Running)
    → arch ≡ Some a → IsKept c j txn pages next arch h → seen (machine_in c j txn regs next arch) h ≡ old → by.actor ≡ Archiver 1 → first_place (drop a.passed (used_from pages a.spaces 0)) ≡ None
    → h' ≡ h ++ entry_of (length h + 1) by ArchiveTurn AllTaken ∷ [] → Takes old by ArchiveTurn AllTaken (seen (machine_in c j txn regs next arch) h')
takes_all {c} {j} {txn} {pages} {next} {arch} {h} {h'} {old} {by} regs a some k is who none told =
    subst (λ (x : Option Running). IsKept c j txn pages next x h → seen (machine_in c j txn regs next x) h ≡ old → Takes old by ArchiveTurn AllTaken (seen (machine_in c j txn regs next x) h')) (sym some)
    (λ kept was. takes_as (Archiver 1) was who (turn_taken regs a kept none) told) k is

pub takes_page : {c : Config} {j : List Record} {txn : Option ℕ} {pages : List Filled} {next : ℕ} {arch : Option Running} {h h' : List Entry} {old : Seen} {by : By} (regs : List (Option Rid)) (a b : Running) (p : ℕ × ℕ)
    → arch ≡ Some a → IsKept c j txn pages next arch h → seen (machine_in c j txn regs next arch) h ≡ old → by.actor ≡ Archiver 1 → first_place (drop a.passed (used_from pages a.spaces 0)) ≡ Some p → archive_in b ≡ record (archive_in a) { passed = a.passed + 1 }
    → h' ≡ h ++ entry_of (length h + 1) by ArchiveTurn (PageIs p.0 p.1) ∷ [] → Takes old by ArchiveTurn (PageIs p.0 p.1) (seen (machine_in c j txn regs next (Some b)) h')
takes_page {c} {j} {txn} {pages} {next} {arch} {h} {h'} {old} {by} regs a b p some k is who first next_is told =
    subst (λ (x : Option Running). IsKept c j txn pages next x h → seen (machine_in c j txn regs next x) h ≡ old → Takes old by ArchiveTurn (PageIs p.0 p.1) (seen (machine_in c j txn regs next (Some b)) h')) (sym some)
    (λ kept was. takes_as (Archiver 1) was who (turn_page regs a b p kept first next_is) told) k is

pub takes_left : {c : Config} {j : List Record} {txn : Option ℕ} {pages : List Filled} {next : ℕ} {arch : Option Running} {h h' : List Entry} {old : Seen} {by : By} (regs : List (Option Rid)) (a : Running) (count : ℕ)
    → arch ≡ Some a → IsKept c j txn pages next arch h → seen (machine_in c j txn regs next arch) h ≡ old → by.actor ≡ Archiver 1 → length (used_from pages a.spaces 0) - a.passed ≡ count → 0 < count
    → h' ≡ h ++ entry_of (length h + 1) by ArchiveEnd (PagesLeft count) ∷ [] → Takes old by ArchiveEnd (PagesLeft count) (seen (machine_in c j txn regs next arch) h')
takes_left {c} {j} {txn} {pages} {next} {arch} {h} {h'} {old} {by} regs a count some k is who left more told =
    subst (λ (x : Option Running). IsKept c j txn pages next x h → seen (machine_in c j txn regs next x) h ≡ old → Takes old by ArchiveEnd (PagesLeft count) (seen (machine_in c j txn regs next x) h')) (sym some)
    (λ kept was. takes_as (Archiver 1) was who (end_left regs a count kept left more) told) k is

pub takes_end : {c : Config} {j : List Record} {txn : Option ℕ} {pages : List Filled} {next : ℕ} {arch : Option Running} {h h' : List Entry} {old : Seen} {by : By} (regs : List (Option Rid)) (a : Running)
    → arch ≡ Some a → IsKept c j txn pages next arch h → seen (machine_in c j txn regs next arch) h ≡ old → by.actor ≡ Archiver 1 → length (used_from pages a.spaces 0) - a.passed ≤ 0
    → h' ≡ h ++ entry_of (length h + 1) by ArchiveEnd (Archived a.number a.cut a.passed) ∷ [] → Takes old by ArchiveEnd (Archived a.number a.cut a.passed) (seen (machine_in c j txn regs next None) h')
takes_end {c} {j} {txn} {pages} {next} {arch} {h} {h'} {old} {by} regs a some k is who none told =
    subst (λ (x : Option Running). IsKept c j txn pages next x h → seen (machine_in c j txn regs next x) h ≡ old → Takes old by ArchiveEnd (Archived a.number a.cut a.passed) (seen (machine_in c j txn regs next None) h')) (sym some)
    (λ kept was. takes_as (Archiver 1) was who (end_done regs a kept none) told) k is

-- ---- an insert

-- the entry tells a copy of the row
told_copy : (h h' : List Entry) (by : By) (reply : Reply) (name : List ℕ) {row row' : Row} (reg : ℕ) → row' ≡ row → h' ≡ h ++ entry_of (length h + 1) by (InsertTurn reg name row') reply ∷ []
    → h' ≡ h ++ entry_of (length h + 1) by (InsertTurn reg name row) reply ∷ []
told_copy h h' by reply name reg q told =
    told ∙ ap (λ (x : Row). h ++ entry_of (length h + 1) by (InsertTurn reg name x) reply ∷ []) q

-- what an insert answers, where the session is in a transaction
insert_found : (c : Config) (j : List Record) {txn : Option ℕ} (next : ℕ) (arch : Option Running) (regs : List (Option Rid)) (n reg : ℕ) (name : List ℕ) (row : Row) (found : Option ℕ) → txn ≡ Some n → space_named c name ≡ found
    → insert_turn (machine_in c j txn regs next arch) 1 reg name row ≡ insert_into (machine_in c j txn regs next arch) 1 n reg row found
insert_found c j {txn} next arch regs n reg name row found some is =
    subst (λ (x : Option ℕ). insert_turn (machine_in c j x regs next arch) 1 reg name row ≡ insert_into (machine_in c j x regs next arch) 1 n reg row found) (sym some)
    (ap (insert_into (machine_in c j (Some n) regs next arch) 1 n reg row) is)

pub takes_no_space : {c : Config} {j : List Record} {txn : Option ℕ} {pages : List Filled} {next : ℕ} {arch : Option Running} {h h' : List Entry} {old : Seen} {by : By} {name : List ℕ} {row row' : Row} (regs : List (Option Rid)) (n reg : ℕ)
    → IsKept c j txn pages next arch h → seen (machine_in c j txn regs next arch) h ≡ old → by.actor ≡ Session 1 → txn ≡ Some n → space_named c name ≡ None → row' ≡ row
    → h' ≡ h ++ entry_of (length h + 1) by (InsertTurn reg name row') NoSpace ∷ [] → Takes old by (InsertTurn reg name row) NoSpace (seen (machine_in c j txn regs next arch) h')
takes_no_space {c = c} {j = j} {next = next} {arch = arch} {name = name} {row = row} regs n reg k is who some none q told =
    takes_as (Session 1) is who (insert_found c j next arch regs n reg name row None some none) (told_copy _ _ _ _ _ reg q told)

pub takes_no_room : {c : Config} {j : List Record} {txn : Option ℕ} {pages : List Filled} {next : ℕ} {arch : Option Running} {h h' : List Entry} {old : Seen} {by : By} {name : List ℕ} {row row' : Row} (regs : List (Option Rid)) (n reg space : ℕ)
    → IsKept c j txn pages next arch h → seen (machine_in c j txn regs next arch) h ≡ old → by.actor ≡ Session 1 → txn ≡ Some n → space_named c name ≡ Some space → data_pages c space * 31 ≤ (filled_at pages space).rows → row' ≡ row
    → h' ≡ h ++ entry_of (length h + 1) by (InsertTurn reg name row') (SpaceFull space) ∷ [] → Takes old by (InsertTurn reg name row) (SpaceFull space) (seen (machine_in c j txn regs next arch) h')
takes_no_room {c} {j} {txn} {pages} {next} {arch} {name = name} {row = row} regs n reg space k is who some found full q told =
    let m = machine_in c j txn regs next arch in
    takes_as (Session 1) is who
    (insert_found c j next arch regs n reg name row (Some space) some found ∙ ap (insert_at m 1 n reg row space) (no_slot c j space (filled_at pages space).rows (k.filled space).slots full))
    (told_copy _ _ _ _ _ reg q told)

pub takes_insert : {c : Config} {j j' : List Record} {txn : Option ℕ} {pages : List Filled} {next : ℕ} {arch : Option Running} {h h' : List Entry} {old : Seen} {by : By} {rid : Rid} {name : List ℕ} {row row' : Row} (regs : List (Option Rid)) (n reg space rows : ℕ)
    → IsKept c j txn pages next arch h → seen (machine_in c j txn regs next arch) h ≡ old → by.actor ≡ Session 1 → txn ≡ Some n → space_named c name ≡ Some space
    → rows ≡ (filled_at pages space).rows → rows < data_pages c space * 31 → row' ≡ row → rid ≡ slot_at space rows → j' ≡ j ++ row_in n space rows row ∷ []
    → h' ≡ h ++ entry_of (length h + 1) by (InsertTurn reg name row') (At rid) ∷ [] → Takes old by (InsertTurn reg name row) (At rid) (seen (machine_in c j' txn (slice_set regs reg (Some rid)) next arch) h')
takes_insert {c} {j} {j'} {txn} {pages} {next} {arch} {rid = rid} {name = name} {row = row} regs n reg space rows k is who some found count lt q place jis told =
    let m = machine_in c j txn regs next arch in
    let row_put : List Record → Rid → Reply × Machine = λ x r. (At r, machine_in c x txn (slice_set regs reg (Some r)) next arch) in
    let slots = subst (λ (x : ℕ). (i : ℕ) → is_none (row_at j (slot_at space i)) ≡ nat_le x i) (sym count) (k.filled space).slots in
    takes_as (Session 1) is who
    (insert_found c j next arch regs n reg name row (Some space) some found ∙ ap (insert_at m 1 n reg row space) (free_slot c j space rows slots lt)
    ∙ ap (row_put (j ++ row_in n space rows row ∷ [])) (sym place) ∙ ap (λ (x : List Record). row_put x rid) (sym jis))
    (told_copy _ _ _ _ _ reg q told)

-- ---- the start of an archive

-- of names that are all of spaces, the marks; of others none
marks_some : (found : Option (List ℕ)) (marks : List Bool) → option_map (marked no_marks) found ≡ Some marks → (spaces : List ℕ) × (found ≡ Some spaces) × (marks ≡ marked no_marks spaces)
marks_some None marks e = absurd (let f : ◌≡◌ {A = Option (List Bool)} None (Some marks) = e in cc)
marks_some (Some spaces) marks e = (spaces, refl, (let f : marked no_marks spaces ≡ marks = cc in sym f))

marks_none : (found : Option (List ℕ)) → option_map (marked no_marks) found ≡ None → found ≡ None
marks_none None e = refl
marks_none (Some spaces) e = absurd (let f : Some (marked no_marks spaces) ≡ None = e in cc)

pub takes_unnamed : {c : Config} {j : List Record} {txn : Option ℕ} {pages : List Filled} {next : ℕ} {arch : Option Running} {h h' : List Entry} {old : Seen} {by : By} {names names' : List (List ℕ)} (regs : List (Option Rid))
    → IsKept c j txn pages next arch h → seen (machine_in c j txn regs next arch) h ≡ old → by.actor ≡ Archiver 1 → is_some arch ≡ false → option_map (marked no_marks) (spaces_named c names) ≡ None → names' ≡ names
    → h' ≡ h ++ entry_of (length h + 1) by (ArchiveStart 0 names') NoSpace ∷ [] → Takes old by (ArchiveStart 0 names) NoSpace (seen (machine_in c j txn regs next arch) h')
takes_unnamed {c} {j} {txn} {pages} {next} {arch} {h} {h'} {old} {by} {names} {names'} regs k is who none unnamed p told =
    subst (λ (x : Option Running). seen (machine_in c j txn regs next x) h ≡ old → Takes old by (ArchiveStart 0 names) NoSpace (seen (machine_in c j txn regs next x) h')) (sym (no_running arch none))
    (λ was. takes_as (Archiver 1) was who (ap (start_with (machine_in c j txn regs next None) 1 0) (marks_none (spaces_named c names) unnamed))
    (told ∙ ap (λ (x : List (List ℕ)). h ++ entry_of (length h + 1) by (ArchiveStart 0 x) NoSpace ∷ []) p)) is

pub takes_start : {c : Config} {j : List Record} {txn : Option ℕ} {pages : List Filled} {next : ℕ} {arch : Option Running} {h h' : List Entry} {old : Seen} {by : By} {names names' : List (List ℕ)} (regs : List (Option Rid)) (b : Running) (count : ℕ)
    → IsKept c j txn pages next arch h → seen (machine_in c j txn regs next arch) h ≡ old → by.actor ≡ Archiver 1 → is_some arch ≡ false → option_map (marked no_marks) (spaces_named c names) ≡ Some b.spaces → names' ≡ names
    → b.number ≡ next → b.cut ≡ length j → b.low ≡ unwrap_or txn (length j + 1) → b.passed ≡ 0 → count ≡ length (used_from pages b.spaces 0)
    → h' ≡ h ++ entry_of (length h + 1) by (ArchiveStart 0 names') (Started b.number b.cut count) ∷ []
    → Takes old by (ArchiveStart 0 names) (Started b.number b.cut count) (seen (machine_in c j txn regs (next + 1) (Some b)) h')
takes_start {c} {j} {txn} {pages} {next} {arch} {h} {h'} {old} {by} {names} {names'} regs b count k is who none named p number cut low passed counted told =
    let stopped : arch ≡ None = no_running arch none in
    let kept : IsKept c j txn pages next None h = subst (λ (x : Option Running). IsKept c j txn pages next x h) stopped k in
    let was : seen (machine_in c j txn regs next None) h ≡ old = subst (λ (x : Option Running). seen (machine_in c j txn regs next x) h ≡ old) stopped is in
    let begun : ℕ → Reply × Machine = λ n. (Started b.number b.cut n, machine_in c j txn regs (next + 1) (Some b)) in
    let found = marks_some (spaces_named c names) b.spaces named in
    takes_as (Archiver 1) was who
    (starts regs names found.0 b kept found.1 (record { number = number; cut = cut; low = low; marks = found.2; passed = passed }) ∙ ap begun (sym counted))
    (told ∙ ap (λ (x : List (List ℕ)). h ++ entry_of (length h + 1) by (ArchiveStart 0 x) (Started b.number b.cut count) ∷ []) p)
