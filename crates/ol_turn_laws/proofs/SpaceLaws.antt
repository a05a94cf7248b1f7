-- Running archives share no space, through each turn.
use Rattle.std.specs.List.{list_any, position_or_len, range_with_len}
use Rattle.std.specs.Prelude.{All, Bool, List, None, Option, Some, [], false, fold, if◌then◌else◌, is_some, length, map, nat_le, nat_lt, not, refl, slice_index_or, slice_set, suc, true, unwrap_or, zero, ℕ, ◌&&◌, ◌++◌, ◌+◌, ◌-◌, ◌<◌, ◌==◌, ◌∷◌, ◌≡◌, ◌⊎◌}
use Rattle.std.proofs.Common.{ap, arith, inl, inr, subst, sym, ◌∙◌}
use Rattle.std.proofs.lemmas.Bool.{cases_Bool, lt-ltb}
use Rattle.std.proofs.lemmas.Bool.Decides.{eqb_tells}
use Rattle.std.proofs.lemmas.List.Elements.{All-head, All-tail}
use Rattle.ol_values.specs.declared.event.Event.{Event}
use Rattle.ol_values.specs.declared.event.Reply.{Reply}
use Rattle.ol_values.specs.declared.event.Reply.TheVariants.{Archiving, NoParent, SpaceDown}
use Rattle.ol_values.specs.declared.event.Why.{Why}
use Rattle.ol_values.specs.declared.history.Actor.{Actor}
use Rattle.ol_values.specs.declared.history.Entry.{Entry}
use Rattle.ol_values.specs.declared.record.Record.{Record}
use Rattle.ol_values.specs.declared.record.Record.TheVariants.{Begin as BeginRecord, Change, Commit as CommitRecord, Rolled, Undo}
use Rattle.ol_values.specs.declared.record.Rid.{Rid}
use Rattle.ol_values.specs.Blocks.{Saved}
use Rattle.ol_values.specs.Config.{Config}
use Rattle.ol_rules.specs.Lasting.{is_up}
use Rattle.ol_rules.specs.Shelf.{Shelf}
use Rattle.ol_model.specs.ArchiveTurns.{cancel_at, end_at, end_unless, end_with, first_space, keep, kept_at, saved_of, spaces_named, start_at, start_with, started, take_at, take_page, take_unless}
use Rattle.ol_model.specs.History.{state_at}
use Rattle.ol_model.specs.Machine.{Archive, Machine, archive_of, archiver_of, archives_space, config_of, formatted, has_space, last_of, low_in, with_archive, with_lasting}
use Rattle.ol_model.specs.Opening.{Found, due_back, found, opened, redo_step, touch_or_empty, undo_step, with_downs}
use Rattle.ol_model.specs.Steps.{after_change, append, before_change, change_row, is_page_in, needs_checkpoint, touch, wants_image}
use Rattle.ol_model.specs.Turns.{Given, number_of, turn}
use Rattle.ol_model.specs.Waiting.{images_held, left_of}
use Rattle.ol_turn_laws.proofs.ApartLaws.{IsFree, all_free, none_found}
use Rattle.ol_turn_laws.proofs.KeptLaws.{history_keeps}
use Rattle.ol_turn_laws.proofs.LowLaws.{of_equal}
use Rattle.ol_turn_laws.proofs.StepLaws.{unless_all}
use Rattle.ol_turn_laws.proofs.SteadyLaws.{KeptByArchiver, Steady, turn_steady, unwarmed}
use Rattle.ol_turn_laws.specs.Apart.{Apart}

-- ---- no archive takes a space more

-- the archive in a place of the list holds a space
abbrev pub Has : List (Option Archive) → ℕ → ℕ → Type 0
Has l j space = archives_space space (slice_index_or l j None) ≡ true

-- no archiver's archive takes a space more
pub record NoMore (m n : Machine) : Type 0 where
  pub less : (j space : ℕ) → Has n.archives j space → Has m.archives j space

-- where running archives share no space before, they share none after
apart_on : (m n : Machine) → NoMore m n → Apart m → Apart n
apart_on m n no_more apart = λ j k space from_j from_k there_j there_k. apart j k space from_j from_k (no_more.less (j - 1) space there_j) (no_more.less (k - 1) space there_k)

no_more : (m : Machine) → NoMore m m
no_more m = record { less = λ j space h. h }

by_archives : (l l' : List (Option Archive)) (j space : ℕ) → l' ≡ l → Has l' j space → Has l j space
by_archives l l' j space same h = ap (λ (x : List (Option Archive)). archives_space space (slice_index_or x j None)) (sym same) ∙ h

pub same_archives : (m n : Machine) → n.archives ≡ m.archives → NoMore m n
same_archives m n same = record { less = λ j space h. by_archives m.archives n.archives j space same h }

-- what holds a space after an entry is set: the new archive in its place, or what held it before
pub set_has : (l : List (Option Archive)) (i j space : ℕ) (x : Option Archive) → Has (slice_set l i x) j space → ((j ≡ i) × (archives_space space x ≡ true)) ⊎ Has l j space
set_has [] i j space x h = inr h
set_has (a ∷ l) zero zero space x h = inl (refl, h)
set_has (a ∷ l) zero (suc j) space x h = inr h
set_has (a ∷ l) (suc i) zero space x h = inr h
set_has (a ∷ l) (suc i) (suc j) space x h = elim (set_has l i j space x h) [ inl e ↦ inl (ap (λ n. suc n) e.0, e.1) | inr e ↦ inr e ]

put_away : (m n : Machine) (k : ℕ) → n.archives ≡ m.archives → NoMore m (with_archive k None n)
put_away m n k same = record {
  less = λ j space h.
      elim (set_has n.archives (k - 1) j space None h) [
        | inl e ↦ absurd (let never : false ≡ true = e.1 in cc)
        | inr e ↦ by_archives m.archives n.archives j space same e
      ];
}

-- an archive with the spaces of the one in its place
put_again : (m : Machine) (k : ℕ) (a b : Archive) → archive_of m k ≡ Some a → b.spaces ≡ a.spaces → NoMore m (with_archive k (Some b) m)
put_again m k a b is same = record {
  less = λ j space h.
      elim (set_has m.archives (k - 1) j space (Some b) h) [
        | inl e ↦
            (let there : archives_space space (Some a) ≡ true = subst (λ (l : List Saved). list_any (λ (s : Saved). s.space == space) l ≡ true) same e.1 in
            ap (λ (i : ℕ). archives_space space (slice_index_or m.archives i None)) e.0 ∙ ap (λ (o : Option Archive). archives_space space o) is ∙ there)
        | inr e ↦ e
      ];
}

-- ---- changes of rows

changed_space : (m : Machine) (n : ℕ) (p : ℕ × ℕ) (space : ℕ) (a : Option Archive) → archives_space space (after_change m n p a) ≡ archives_space space a
changed_space m n p space None = refl
changed_space m n p space (Some a) =
    elim (wants_image m p a && nat_le (config_of m).image_limit (images_held m)) as (λ b. has_space space (if b then record a { broken = Some n } else a) ≡ has_space space a) [
      | true ↦ refl
      | false ↦ refl
    ]

changed_has : (m : Machine) (n : ℕ) (p : ℕ × ℕ) (l : List (Option Archive)) (j space : ℕ) → Has (map (after_change m n p) l) j space → Has l j space
changed_has m n p [] j space h = h
changed_has m n p (a ∷ l) zero space h = sym (changed_space m n p space a) ∙ h
changed_has m n p (a ∷ l) (suc j) space h = changed_has m n p l j space h

pub before_no_more : (m : Machine) (n : ℕ) (p : ℕ × ℕ) → NoMore m (before_change n p m)
before_no_more m n p = record { less = λ j space h. changed_has m n p m.archives j space h }

pub row_no_more : (m : Machine) (n : ℕ) (rid : Rid) (r : Record) → NoMore m (change_row n rid r m)
row_no_more m n rid r = record { less = λ j space h. (before_no_more m n (rid.space, rid.page)).less j space h }

-- ---- an archive that starts

-- where an archive holds a space, some archiver is found that has it
found_before : (l : List (Option Archive)) (j space : ℕ) → Has l j space → position_or_len (archives_space space) l < length l
found_before [] j space h = absurd (let never : false ≡ true = h in cc)
found_before (a ∷ l) zero space h = rw (h) (omega arith)
found_before (a ∷ l) (suc j) space h =
    elim (cases_Bool (archives_space space a)) [
      | inl e ↦ rw (e) (omega arith)
      | inr e ↦ rw (e) (omega (arith, found_before l j space h))
    ]

-- a space that no archiver has is in no archive
free_is_in_none : (m : Machine) (j space : ℕ) → archiver_of m space ≡ None → Has m.archives j space → ⊥
free_is_in_none m j space free there =
    let before = lt-ltb (position_or_len (archives_space space) m.archives) (length m.archives) (found_before m.archives j space there) in
    let never : Some (position_or_len (archives_space space) m.archives + 1) ≡ None = rw (before) at free in absurd (cc)

one_is_free : (m : Machine) (spaces : List Saved) (space : ℕ) → All (IsFree m) spaces → list_any (λ (s : Saved). s.space == space) spaces ≡ true → archiver_of m space ≡ None
one_is_free m [] space all h = absurd (let never : false ≡ true = h in cc)
one_is_free m (s ∷ spaces) space all h =
    elim (eqb_tells s.space space) [
      | inl e ↦ subst (λ (x : ℕ). archiver_of m x ≡ None) e.1 (All-head (IsFree m) s spaces all)
      | inr e ↦ one_is_free m spaces space (All-tail (IsFree m) s spaces all) (rw (e.0) at h)
    ]

started_apart : (m : Machine) (k level : ℕ) (spaces : List Saved) → Apart m → All (IsFree m) spaces → Apart (started m k level spaces).1
started_apart m k level spaces apart free = λ i j space from_i from_j there_i there_j.
    elim (has (i - 1) space there_i) [
      | inl e ↦
          elim (has (j - 1) space there_j) [
            | inl f ↦ omega (arith, from_i, from_j, e.0, f.0)
            | inr f ↦ absurd (free_is_in_none m (j - 1) space (one_is_free m spaces space free e.1) f)
          ]
      | inr e ↦
          elim (has (j - 1) space there_j) [
            | inl f ↦ absurd (free_is_in_none m (i - 1) space (one_is_free m spaces space free f.1) e)
            | inr f ↦ apart i j space from_i from_j e f
          ]
    ]
  where
    a : Archive
    a = record { number = m.lasting.next_archive; level = level; cut = last_of m; low = low_in m; spaces = spaces; passed = 0; broken = None }

    has : (j space : ℕ) → Has (started m k level spaces).1.archives j space → ((j ≡ k - 1) × (list_any (λ (s : Saved). s.space == space) spaces ≡ true)) ⊎ Has m.archives j space
    has j space h = set_has m.archives (k - 1) j space (Some a) h

start_with_apart : (m : Machine) (k level : ℕ) (spaces : Option (List ℕ)) → Apart m → Apart (start_with m k level spaces).1
start_with_apart m k level None apart = apart
start_with_apart m k level (Some spaces) apart =
    let up : Bool × Reply = first_space (λ s. not (is_up m.lasting s)) SpaceDown spaces in
    let held : Bool × Reply = first_space (λ s. is_some (archiver_of m s)) (λ s. Archiving (unwrap_or (archiver_of m s) 0)) spaces in
    let parent : Bool × Reply = first_space (λ s. nat_lt 0 level && ((kept_at m level s).number == 0)) (λ s. NoParent s (level - 1)) spaces in
    unless_all Apart m (up ∷ held ∷ parent ∷ []) (started m k level (saved_of m level spaces)) apart
    (λ all. started_apart m k level (saved_of m level spaces) apart
    (all_free m level spaces (range_with_len 0 (length (config_of m).spaces))
    (none_found (λ s. is_some (archiver_of m s)) spaces (All-head (λ (r : Bool × Reply). r.0 ≡ false) held (parent ∷ []) (All-tail (λ (r : Bool × Reply). r.0 ≡ false) up (held ∷ parent ∷ []) all)))))

start_apart : (m : Machine) (k level : ℕ) (names : List (List ℕ)) (a : Option Archive) → Apart m → Apart (start_at m k level names a).1
start_apart m k level names (Some a) apart = apart
start_apart m k level names None apart = start_with_apart m k level (spaces_named (config_of m) names) apart

-- ---- the other turns of archivers

page_no_more : (m : Machine) (k : ℕ) (a : Archive) (pages : List (ℕ × ℕ)) → archive_of m k ≡ Some a → NoMore m (take_page m k a pages).1
page_no_more m k a [] is = no_more m
page_no_more m k a (p ∷ rest) is = put_again m k a (record a { passed = a.passed + 1 }) is refl

take_unless_no_more : (m : Machine) (k : ℕ) (a : Archive) (broken : Option ℕ) → archive_of m k ≡ Some a → NoMore m (take_unless m k a broken).1
take_unless_no_more m k a (Some entry) is = put_away m m k refl
take_unless_no_more m k a None is = page_no_more m k a (left_of m a) is

pub take_no_more : (m : Machine) (k : ℕ) (a : Option Archive) → archive_of m k ≡ a → NoMore m (take_at m k a).1
take_no_more m k None is = no_more m
take_no_more m k (Some a) is = take_unless_no_more m k a a.broken is

end_with_no_more : (m : Machine) (k : ℕ) (a : Archive) (left : ℕ) → NoMore m (end_with m k a left).1
end_with_no_more m k a zero = put_away m (with_lasting (keep a m.lasting) m) k refl
end_with_no_more m k a (suc n) = no_more m

end_unless_no_more : (m : Machine) (k : ℕ) (a : Archive) (broken : Option ℕ) → NoMore m (end_unless m k a broken).1
end_unless_no_more m k a (Some entry) = put_away m m k refl
end_unless_no_more m k a None = end_with_no_more m k a (length (left_of m a))

pub end_no_more : (m : Machine) (k : ℕ) (a : Option Archive) → NoMore m (end_at m k a).1
end_no_more m k None = no_more m
end_no_more m k (Some a) = end_unless_no_more m k a a.broken

pub cancel_no_more : (count : ℕ) (m : Machine) (k : ℕ) (why : Why) (a : Option Archive) → NoMore m (cancel_at count m k why a).1
cancel_no_more count m k why None = no_more m
cancel_no_more count m k why (Some a) = put_away m m k refl

-- ---- the turns

pub turn_apart : (shelf : Shelf) (g : Given) (m : Machine) (n : ℕ) (actor : Actor) (event : Event) → Apart m → Apart (turn shelf g m n actor event).1
turn_apart shelf g m n actor event apart = turn_steady Apart shelf g m n actor event steps by_archiver (unwarmed Apart shelf m (λ x y fixed work incarnation archives h. apart_on x y (same_archives x y archives) h) (λ w of. apart) apart) apart
  where
    k : ℕ
    k = number_of actor

    steps : Steady Apart k
    steps = record {
      rests = λ a b rests h. apart_on a b (same_archives a b rests.archives) h;
      seat = λ s a h. h;
      add = λ r a h. h;
      row = λ i rid r a h. apart_on a (change_row i rid r a) (row_no_more a i rid r) h;
    }

    by_archiver : KeptByArchiver Apart m k
    by_archiver = record {
      start = λ level names. start_apart m k level names (archive_of m k) apart;
      take = apart_on m (take_at m k (archive_of m k)).1 (take_no_more m k (archive_of m k) refl) apart;
      finish = apart_on m (end_at m k (archive_of m k)).1 (end_no_more m k (archive_of m k)) apart;
      cancel = λ count why. apart_on m (cancel_at count m k why (archive_of m k)).1 (cancel_no_more count m k why (archive_of m k)) apart;
    }

pub history_apart : (shelf : Shelf) (m : Machine) (h : List Entry) → Apart m → Apart (state_at shelf m h)
history_apart shelf m h apart = history_keeps Apart (λ e. Unit {0}) shelf (λ g n k actor event u a. turn_apart shelf g n k actor event a) h m (λ k d lt. tt) apart

-- ---- newly formatted disks and openings

pub formatted_apart : (c : Config) → Apart (formatted c)
formatted_apart c = λ j k space from_j from_k there_j there_k.
    absurd (let never : false ≡ true = sym (ap (λ (o : Option Archive). archives_space space o) (of_equal 4 (j - 1) None)) ∙ there_j in cc)

touched : (p : ℕ × ℕ) (m : Machine) → (touch_or_empty p m).archives ≡ m.archives
touched p m =
    let emptied : Machine = record m { checkpoint = record m.checkpoint { touched = [] } } in
    let ready : Machine = if needs_checkpoint m p then emptied else m in
    let first : (touch p ready).archives ≡ ready.archives =
    elim (is_page_in p ready.checkpoint.touched) as (λ b. (let t : Machine = (if b then ready else record ready { checkpoint = record ready.checkpoint { touched = ready.checkpoint.touched ++ p ∷ [] } }) in t).archives ≡ ready.archives) [
      | true ↦ refl
      | false ↦ refl
    ] in
    first ∙ elim (needs_checkpoint m p) as (λ b. (let t : Machine = (if b then emptied else m) in t).archives ≡ m.archives) [ true ↦ refl | false ↦ refl ]

redone : (up : Bool) (p : ℕ × ℕ) (m : Machine) → NoMore m (if up then touch_or_empty p m else m)
redone true p m = same_archives m (touch_or_empty p m) (touched p m)
redone false p m = no_more m

pub redo_no_more : (m : Machine) (r : Record) → NoMore m (redo_step m r)
redo_no_more m (BeginRecord n) = no_more m
redo_no_more m (Change n rid before after) = redone (is_up m.lasting rid.space) (rid.space, rid.page) m
redo_no_more m (Undo n rid value) = redone (is_up m.lasting rid.space) (rid.space, rid.page) m
redo_no_more m (CommitRecord n) = no_more m
redo_no_more m (Rolled n) = no_more m

undone : (up : Bool) (p : ℕ × ℕ) (r : Record) (m : Machine) → NoMore m (append r (if up then before_change 0 p m else m))
undone true p r m = record { less = λ j space h. (before_no_more m 0 p).less j space h }
undone false p r m = record { less = λ j space h. h }

pub undo_no_more : (m : Machine) (r : Record) → NoMore m (undo_step m r)
undo_no_more m (BeginRecord n) = record { less = λ j space h. h }
undo_no_more m (Change n rid before after) = record { less = λ j space h. h }
undo_no_more m (Undo n rid value) = undone (is_up m.lasting rid.space) (rid.space, rid.page) (Undo n rid value) m
undo_no_more m (CommitRecord n) = record { less = λ j space h. h }
undo_no_more m (Rolled n) = record { less = λ j space h. h }

all_no_more : (step : Machine → Record → Machine) → ((m : Machine) (r : Record) → NoMore m (step m r)) → (records : List Record) (m : Machine) → NoMore m (fold step m records)
all_no_more step less [] m = no_more m
all_no_more step less (r ∷ records) m = record { less = λ j space h. (less m r).less j space ((all_no_more step less records (step m r)).less j space h) }

pub opened_apart : (c : Config) (f : Found) → Apart (opened c f)
unfolding opened
opened_apart c f =
    let m : Machine = with_downs f.downs (found c f) in
    let n : Machine = fold redo_step m f.redo in
    apart_on n (fold undo_step n (due_back m)) (all_no_more undo_step undo_no_more (due_back m) n) (apart_on m n (all_no_more redo_step redo_no_more f.redo m) (formatted_apart c))
