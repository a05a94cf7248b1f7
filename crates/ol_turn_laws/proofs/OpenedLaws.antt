-- What an opening leaves is roomy and regular, where what it found is in order; what a sound journal gives is.
use Rattle.std.specs.List.{enumerate_from, list_any}
use Rattle.std.specs.Prelude.{All, Bool, List, None, Option, Some, [], false, fold, if◌then◌else◌, length, map, refl, replicate, slice_index_or, suc, true, zero, ℕ, ◌++◌, ◌+◌, ◌==◌, ◌∷◌, ◌≡◌, ◌≤◌, take, ◌<◌, ◌-◌, ◌⊎◌}
use Rattle.std.proofs.Common.{ap, append_assoc, append-nil, arith, length-append, subst, sym, ◌∙◌, inl, inr}
use Rattle.std.proofs.lemmas.List.{drop_at, length-take, take-append-drop}
use Rattle.std.proofs.lemmas.List.Elements.{All-append, All-cons, All-head, All-nil, All-tail, All-drop}
use Rattle.std.proofs.lemmas.List.Sums.{fold-append}
use Rattle.ol_values.specs.declared.record.Record.{Record}
use Rattle.ol_values.specs.declared.record.Record.TheVariants.{Begin as BeginRecord, Change, Commit as CommitRecord, Rolled, Undo}
use Rattle.ol_values.specs.declared.record.Rid.{Rid}
use Rattle.ol_values.specs.declared.row.Row.{Row}
use Rattle.ol_values.specs.Config.{Config, data_pages}
use Rattle.ol_values.specs.Pages.{Page, blank}
use Rattle.ol_rules.specs.Lasting.{is_up}
use Rattle.ol_rules.specs.Sound.{Sound, afterwards, is_value, start}
use Rattle.ol_rules.specs.Start.{IsStartOf, Start, last_behind, start_page, txns_behind}
use Rattle.ol_rules.specs.Transactions.{Ascending, Txn, back, back_of, owed, txns_after, txns_from, low_at, open_at}
use Rattle.ol_model.specs.Machine.{Machine, Seat, Work, no_seat, owed_in, txns_in}
use Rattle.ol_model.specs.Opening.{Found, due_back, found, opened, pages_left, ready, redo_step, touch_or_empty, undo_step, with_downs}
use Rattle.ol_model.specs.Steps.{append, before_change, is_page_in, make_checkpoint, needs_checkpoint, touch}
use Rattle.ol_laws.proofs.BackLaws.{all_back, owed_is}
use Rattle.ol_laws.proofs.NeedLaws.{open_from_need}
use Rattle.ol_laws.proofs.SoundLaws.{fine, last_after, sound_split, txns_of}
use Rattle.ol_laws.proofs.TxnLaws.{distinct}
use Rattle.ol_turn_laws.proofs.DrawnLaws.{blank_short, page_short}
use Rattle.ol_turn_laws.proofs.LowLaws.{of_equal}
use Rattle.ol_turn_laws.proofs.RegularLaws.{Seated, Told, regular, txn_in}
use Rattle.ol_turn_laws.proofs.ValueLaws.{sound_ascending, sound_pending, sound_records}
use Rattle.ol_turn_laws.specs.Room.{HasValues, HoldsShort, IsFoundWell, LeavesShort, Regular, Roomy}

-- ---- redo

-- the same work, and the same is picked
record Stands (m n : Machine) : Type 0 where
  work : n.work ≡ m.work
  picking : n.log.picking ≡ m.log.picking

stands : (m : Machine) → Stands m m
stands m = record { work = refl; picking = refl }

stands_then : (m n o : Machine) → Stands m n → Stands n o → Stands m o
stands_then m n o a b = record { work = b.work ∙ a.work; picking = b.picking ∙ a.picking }

touch_stands : (p : ℕ × ℕ) (m : Machine) → Stands m (touch p m)
touch_stands p m =
    elim (is_page_in p m.checkpoint.touched) as (λ b. Stands m (if b then m else record m { checkpoint = record m.checkpoint { touched = m.checkpoint.touched ++ p ∷ [] } })) [
      | true ↦ stands m
      | false ↦ record { work = refl; picking = refl }
    ]

before_stands : (n : ℕ) (p : ℕ × ℕ) (m : Machine) → Stands m (before_change n p m)
before_stands n p m =
    let full : Machine = if needs_checkpoint m p then make_checkpoint m else m in
    let first : Stands m full = elim (needs_checkpoint m p) as (λ b. Stands m (if b then make_checkpoint m else m)) [ true ↦ record { work = refl; picking = refl } | false ↦ stands m ] in
    let both = stands_then m full (touch p full) first (touch_stands p full) in
    record { work = both.work; picking = both.picking }

empty_stands : (p : ℕ × ℕ) (m : Machine) → Stands m (touch_or_empty p m)
empty_stands p m =
    let emptied : Machine = record m { checkpoint = record m.checkpoint { touched = [] } } in
    let full : Machine = if needs_checkpoint m p then emptied else m in
    let first : Stands m full = elim (needs_checkpoint m p) as (λ b. Stands m (if b then emptied else m)) [ true ↦ record { work = refl; picking = refl } | false ↦ stands m ] in
    stands_then m full (touch p full) first (touch_stands p full)

redo_one : (up : Bool) (p : ℕ × ℕ) (m : Machine) → Stands m (if up then touch_or_empty p m else m)
redo_one true p m = empty_stands p m
redo_one false p m = stands m

redo_stands : (m : Machine) (r : Record) → Stands m (redo_step m r)
redo_stands m (BeginRecord n) = stands m
redo_stands m (Change n rid before after) = redo_one (is_up m.lasting rid.space) (rid.space, rid.page) m
redo_stands m (Undo n rid value) = redo_one (is_up m.lasting rid.space) (rid.space, rid.page) m
redo_stands m (CommitRecord n) = stands m
redo_stands m (Rolled n) = stands m

all_redone : (records : List Record) (m : Machine) → Stands m (fold redo_step m records)
all_redone [] m = stands m
all_redone (r ∷ records) m = stands_then m (redo_step m r) (fold redo_step (redo_step m r) records) (redo_stands m r) (all_redone records (redo_step m r))

-- ---- roll back

abbrev with_records : List Record → Work → Work
with_records more w = record w { records = w.records ++ more }

-- these records more, and the same is picked
record Goes (more : List Record) (m n : Machine) : Type 0 where
  work : n.work ≡ with_records more m.work
  picking : n.log.picking ≡ m.log.picking

append_goes : (r : Record) (m n : Machine) → Stands m n → Goes (r ∷ []) m (append r n)
append_goes r m n s = record { work = ap (λ (w : Work). with_records (r ∷ []) w) s.work; picking = s.picking }

undo_one : (up : Bool) (p : ℕ × ℕ) (r : Record) (m : Machine) → Goes (r ∷ []) m (append r (if up then before_change 0 p m else m))
undo_one true p r m = append_goes r m (before_change 0 p m) (before_stands 0 p m)
undo_one false p r m = append_goes r m m (stands m)

undo_goes : (m : Machine) (r : Record) → Goes (r ∷ []) m (undo_step m r)
undo_goes m (BeginRecord n) = append_goes (BeginRecord n) m m (stands m)
undo_goes m (Change n rid before after) = append_goes (Change n rid before after) m m (stands m)
undo_goes m (Undo n rid value) = undo_one (is_up m.lasting rid.space) (rid.space, rid.page) (Undo n rid value) m
undo_goes m (CommitRecord n) = append_goes (CommitRecord n) m m (stands m)
undo_goes m (Rolled n) = append_goes (Rolled n) m m (stands m)

all_undone : (records : List Record) (m : Machine) → Goes records m (fold undo_step m records)
all_undone [] m = record { work = ap (λ (l : List Record). record m.work { records = l }) (sym (append-nil m.work.records)); picking = refl }
all_undone (r ∷ records) m =
    let one = undo_goes m r in
    let rest = all_undone records (undo_step m r) in
    record {
      work = rest.work ∙ ap (λ (w : Work). with_records records w) one.work ∙ ap (λ (l : List Record). record m.work { records = l }) (append_assoc m.work.records (r ∷ []) records);
      picking = rest.picking ∙ one.picking;
    }

-- ---- what is left

-- the records of the roll back are short
undos_short : (n : ℕ) (pending : List (Rid × Option Row)) → All (λ (p : Rid × Option Row). is_value p.1 ≡ true) pending
    → All LeavesShort (map (λ (p : Rid × Option Row). Undo n p.0 p.1) pending)
undos_short n [] h = All-nil LeavesShort
undos_short n (p ∷ pending) h =
    All-cons LeavesShort (Undo n p.0 p.1) (map (λ (q : Rid × Option Row). Undo n q.0 q.1) pending) (All-head (λ (q : Rid × Option Row). is_value q.1 ≡ true) p pending h)
    (undos_short n pending (All-tail (λ (q : Rid × Option Row). is_value q.1 ≡ true) p pending h))

back_short : (txns : List Txn) → All HasValues txns → All LeavesShort (back txns)
back_short [] h = All-nil LeavesShort
back_short (t ∷ txns) h =
    All-append LeavesShort (back_of t) (back txns)
    (All-append LeavesShort (map (λ (p : Rid × Option Row). Undo t.number p.0 p.1) t.pending) (Rolled t.number ∷ []) (undos_short t.number t.pending (All-head HasValues t txns h))
    (All-cons LeavesShort (Rolled t.number) [] tt (All-nil LeavesShort)))
    (back_short txns (All-tail HasValues t txns h))

-- the pages of spaces that are marked down are gone
left_short : (downs : List ℕ) (l : List (List Page)) (a : ℕ) → ((j page : ℕ) → HoldsShort (slice_index_or (slice_index_or l j []) page blank)) → (j page : ℕ)
    → HoldsShort (slice_index_or (slice_index_or (map (pages_left downs) (enumerate_from a l)) j []) page blank)
left_short downs [] a h j page = blank_short
left_short downs (pages ∷ l) a h zero page =
    elim (list_any (λ d. d == a) downs) as (λ b. HoldsShort (slice_index_or (if b then [] else pages) page blank)) [ true ↦ blank_short | false ↦ h 0 page ]
left_short downs (pages ∷ l) a h (suc j) page = left_short downs l (a + 1) (λ k. h (suc k)) j page

-- the sessions of a machine that was just opened
new_seats : (txns : List Txn) → Seated (replicate 16 no_seat) txns
new_seats txns = record {
  named = λ i n is. absurd (let never : None ≡ Some n = sym (none i) ∙ is in cc);
  alone = λ i j n is_i is_j. absurd (let never : None ≡ Some n = sym (none i) ∙ is_i in cc);
  idle = λ i is. ap (λ (s : Seat). s.shares) (of_equal 16 i no_seat);
}
  where
    none : (i : ℕ) → txn_in (replicate 16 no_seat) i ≡ None
    none i = ap (λ (s : Seat). s.txn) (of_equal 16 i no_seat)

-- nothing is open behind the roll back
none_open_then : (s : Start) (records : List Record) → Ascending (txns_behind s records) → txns_behind s (records ++ back (txns_behind s records)) ≡ []
none_open_then s records order =
    ap (λ (l : List Record). txns_from [] l) (sym (append_assoc s.kept records (back (txns_behind s records))))
    ∙ fold-append txns_after [] (s.kept ++ records) (back (txns_behind s records))
    ∙ all_back (txns_behind s records) (distinct (txns_behind s records) order)

told_then : (s : Start) (records : List Record) → txns_behind s records ≡ [] → ((space page : ℕ) → HoldsShort (start_page s space page)) → All LeavesShort s.kept → All LeavesShort records → Told s records
told_then s records none pages kept short = record {
  ascending = subst (λ (l : List Txn). Ascending l) (sym none) tt;
  pending = subst (λ (l : List Txn). All HasValues l) (sym none) (All-nil HasValues);
  numbers = subst (λ (l : List Txn). All (λ (t : Txn). t.number ≤ last_behind s records) l) (sym none) (All-nil (λ (t : Txn). t.number ≤ last_behind s records));
  pages = pages;
  kept = kept;
  short = short;
}

-- ---- the opening

-- the work that an opening leaves
left_work : (c : Config) (f : Found) → Work
left_work c f = with_records (back (txns_behind f.start f.redo)) (with_downs f.downs (found c f)).work

before_ready : (c : Config) (f : Found) → Machine
before_ready c f = let m = with_downs f.downs (found c f) in fold undo_step (fold redo_step m f.redo) (due_back m)

before_work_is : (c : Config) (f : Found) → (before_ready c f).work ≡ left_work c f
unfolding before_ready left_work
before_work_is c f =
    let m : Machine = with_downs f.downs (found c f) in
    (all_undone (due_back m) (fold redo_step m f.redo)).work ∙ ap (λ (w : Work). with_records (due_back m) w) (all_redone f.redo m).work

before_picks_none : (c : Config) (f : Found) → (before_ready c f).log.picking ≡ None
unfolding before_ready
before_picks_none c f =
    let m : Machine = with_downs f.downs (found c f) in
    (all_undone (due_back m) (fold redo_step m f.redo)).picking ∙ (all_redone f.redo m).picking

ready_regular : (c : Config) (f : Found) → IsFoundWell f → Regular (ready (before_ready c f))
unfolding left_work
ready_regular c f w =
    let n = before_ready c f in
    let txns = txns_behind f.start f.redo in
    let left = left_work c f in
    let none : txns_behind left.start left.records ≡ [] = none_open_then f.start f.redo w.ascending in
    let told : Told left.start left.records =
    told_then left.start left.records none (left_short f.downs f.start.pages 0 w.pages) w.kept (All-append LeavesShort f.redo (back txns) w.redo (back_short txns w.pending)) in
    let seats : Seated left.sessions (txns_behind left.start left.records) = new_seats (txns_behind left.start left.records) in
    regular (ready n) (subst (λ (v : Work). Told v.start v.records) (sym (before_work_is c f)) told) (subst (λ (v : Work). Seated v.sessions (txns_behind v.start v.records)) (sym (before_work_is c f)) seats)
    (omega arith) (λ p is. absurd (let never : None ≡ Some p = sym (before_picks_none c f) ∙ is in cc))

ready_roomy : (c : Config) (f : Found) → IsFoundWell f → Roomy (ready (before_ready c f))
unfolding left_work
ready_roomy c f w =
    let n = before_ready c f in
    let txns = txns_behind f.start f.redo in
    let none : txns_in n ≡ [] = ap (λ (v : Work). txns_behind v.start v.records) (before_work_is c f) ∙ none_open_then f.start f.redo w.ascending in
    let due : owed_in n ≡ 0 = ap (λ (l : List Txn). owed l) none in
    let last : last_behind n.work.start n.work.records ≡ f.start.last + length (f.redo ++ back txns) = ap (λ (v : Work). last_behind v.start v.records) (before_work_is c f) in
    record {
      log = omega (arith, due);
      opened = omega (arith, due);
      positions = omega (arith, due, last, length-append f.redo (back txns), owed_is txns, w.positions);
    }

pub opened_regular : (c : Config) (f : Found) → IsFoundWell f → Roomy (opened c f) × Regular (opened c f)
unfolding opened before_ready
opened_regular c f w = (ready_roomy c f w, ready_regular c f w)

-- ---- what a sound journal gives

pub sound_found : (c : Config) (up : ℕ → Bool) (journal : List Record) (f : Found) → IsStartOf c up journal f.start → Sound c (journal ++ f.redo)
    → ((space page : ℕ) → (start_page f.start space page ≡ blank) ⊎ ((up space ≡ true) × (page < data_pages c space))) → IsFoundWell f
sound_found c up journal f is sound pages =
    let s = f.start in
    let past = take (s.first - 1) journal in
    let parts : past ++ s.kept ≡ journal = ap (λ (l : List Record). past ++ l) is.kept ∙ take-append-drop (s.first - 1) journal in
    let whole : past ++ (s.kept ++ f.redo) ≡ journal ++ f.redo = sym (append_assoc past s.kept f.redo) ∙ ap (λ (l : List Record). l ++ f.redo) parts in
    let count : length past + 1 ≤ low_at (past ++ s.kept) =
    subst (λ (l : List Record). length past + 1 ≤ low_at l) (sym parts) (omega (arith, is.need, is.first.0, is.first.1, is.last, length-take (s.first - 1) journal)) in
    let txns : txns_behind s f.redo ≡ open_at (journal ++ f.redo) =
    open_from_need c past s.kept f.redo (subst (λ (l : List Record). Sound c l) (sym whole) sound) count ∙ ap (λ (l : List Record). open_at l) whole in
    let due : owed (afterwards start (journal ++ f.redo)).txns ≡ owed (txns_behind s f.redo) = ap (λ (l : List Txn). owed l) (txns_of start (journal ++ f.redo) ∙ sym txns) in
    let short = sound_records c (journal ++ f.redo) sound in
    let old : All LeavesShort journal = sound_records c journal (sound_split c start journal f.redo sound).0 in
    record {
      ascending = subst (λ (l : List Txn). Ascending l) (sym txns) (sound_ascending c (journal ++ f.redo) sound);
      pending = subst (λ (l : List Txn). All HasValues l) (sym txns) (sound_pending c (journal ++ f.redo) sound);
      positions = omega (arith, (fine c (journal ++ f.redo) sound).low, due, last_after start (journal ++ f.redo), length-append journal f.redo, is.last);
      pages = λ space page. elim (pages space page) [
        | inl e ↦ subst (λ (p : Page). HoldsShort p) (sym e) blank_short
        | inr e ↦ subst (λ (p : Page). HoldsShort p) (sym (is.pages space page e.0 e.1)) (page_short blank 1 journal space page blank_short old)
      ];
      kept = subst (λ (l : List Record). All LeavesShort l) (sym is.kept) (All-drop LeavesShort (s.first - 1) journal old);
      redo = subst (λ (l : List Record). All LeavesShort l) (drop_at journal f.redo (length journal) refl) (All-drop LeavesShort (length journal) (journal ++ f.redo) short);
    }
