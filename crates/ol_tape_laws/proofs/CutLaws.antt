-- What the turns of others leave of a running archive: its pages, with their images at the cut.
use Rattle.std.specs.List.{list_any, range_with_len}
use Rattle.std.specs.Prelude.{Bool, List, Option, Some, [], false, filter, flat_map, length, map, nat_lt, slice_index_or, true, ℕ, ◌++◌, ◌+◌, ◌-◌, ◌==◌, ◌||◌, ◌∷◌, ◌≡◌, ◌≤◌}
use Rattle.std.proofs.Common.{ap, arith, inl, inr, refl, subst, sym, ◌∙◌}
use Rattle.std.proofs.lemmas.Bool.{cases_Bool}
use Rattle.std.proofs.lemmas.List.{get_or-set_other, length_push, take-append-le}
use Rattle.std.proofs.lemmas.List.Concat.{flat_map-cons}
use Rattle.ol_values.specs.declared.history.Entry.{Entry}
use Rattle.ol_values.specs.declared.record.Record.{Record}
use Rattle.ol_values.specs.declared.record.Rid.{Rid}
use Rattle.ol_values.specs.Blocks.{Saved}
use Rattle.ol_values.specs.Config.{Config, data_pages}
use Rattle.ol_values.specs.Pages.{Page, blank}
use Rattle.ol_rules.specs.Journal.{page_from, stamp_from}
use Rattle.ol_rules.specs.Lasting.{is_up}
use Rattle.ol_rules.specs.Shelf.{Shelf}
use Rattle.ol_rules.specs.Start.{last_behind, upto}
use Rattle.ol_laws.proofs.JournalLaws.{same_self}
use Rattle.ol_model.specs.ArchiveTurns.{cancel_at, end_at, start_at, take_at}
use Rattle.ol_model.specs.History.{state_after}
use Rattle.ol_model.specs.Machine.{Archive, Fixed, Machine, Seat, Warming, Work, archive_of, archives_space, config_of, has_space, last_of, page_upto, stamp_upto, with_seat}
use Rattle.ol_model.specs.Steps.{append, before_change, change_row}
use Rattle.ol_model.specs.Turns.{given_by, number_of}
use Rattle.ol_model.specs.Waiting.{changed_upto, pages_of}
use Rattle.ol_model.specs.WarmTurns.{pages_drawn, with_pages}
use Rattle.ol_turn_laws.proofs.KnowsLaws.{turn_knows}
use Rattle.ol_turn_laws.proofs.KeptLaws.{Stays, before_stays, cancel_beside, end_beside, start_beside, take_beside}
use Rattle.ol_turn_laws.proofs.SteadyLaws.{KeptByArchiver, KeptByRestorer, Steady, turn_steady, unwarmed}
use Rattle.ol_turn_laws.specs.Spaces.{KnowsSpaces}
use Rattle.ol_tape_laws.specs.Runs.{IsBeside}

-- two states that are the same up to the cut of an archive, for the spaces that it has
pub record SameAtCut (a : Archive) (m n : Machine) : Type 0 where
  pub config : config_of n ≡ config_of m
  pub incarnation : n.lasting.incarnation ≡ m.lasting.incarnation
  pub last : n.work.start.last ≡ m.work.start.last
  pub records : upto n.work.start n.work.records a.cut ≡ upto m.work.start m.work.records a.cut
  pub pages : (space : ℕ) → has_space space a ≡ true → slice_index_or n.work.start.pages space [] ≡ slice_index_or m.work.start.pages space []

same_at_cut : (a : Archive) (m : Machine) → SameAtCut a m m
same_at_cut a m = record { config = refl; incarnation = refl; last = refl; records = refl; pages = λ space is. refl }

-- ---- the turns

-- the cut is not ahead, and all is as it was in state m
abbrev Since : Archive → Machine → Machine → Type 0
Since a m n = (a.cut ≤ last_of n) × SameAtCut a m n

by_work : (a : Archive) (m x y : Machine) → y.fixed ≡ x.fixed → y.work ≡ x.work → y.lasting.incarnation ≡ x.lasting.incarnation → Since a m x → Since a m y
by_work a m x y fixed work incarnation h = (
  subst (λ (w : Work). a.cut ≤ last_behind w.start w.records) (sym work) h.0,
  record {
    config = ap (λ (f : Fixed). f.config) fixed ∙ h.1.config;
    incarnation = incarnation ∙ h.1.incarnation;
    last = ap (λ (w : Work). w.start.last) work ∙ h.1.last;
    records = ap (λ (w : Work). upto w.start w.records a.cut) work ∙ h.1.records;
    pages = λ space is. ap (λ (w : Work). slice_index_or w.start.pages space []) work ∙ h.1.pages space is;
  },
)

by_stays : (a : Archive) (m x y : Machine) → Stays x y → Since a m x → Since a m y
by_stays a m x y st h = by_work a m x y st.fixed st.work st.incarnation h

by_seat : (a : Archive) (m : Machine) (k : ℕ) (s : Seat) (x : Machine) → Since a m x → Since a m (with_seat k s x)
by_seat a m k s x h =
    (h.0, record { config = h.1.config; incarnation = h.1.incarnation; last = h.1.last; records = h.1.records; pages = h.1.pages })

by_record : (a : Archive) (m : Machine) (r : Record) (x : Machine) → Since a m x → Since a m (append r x)
by_record a m r x h =
    let longer : length (x.work.records ++ r ∷ []) ≡ length x.work.records + 1 = length_push x.work.records r in
    let ahead : a.cut ≤ x.work.start.last + length (x.work.records ++ r ∷ []) = omega (arith, h.0, longer) in
    let within : a.cut - x.work.start.last ≤ length x.work.records = omega (arith, h.0) in (
      ahead,
      record {
        config = h.1.config;
        incarnation = h.1.incarnation;
        last = h.1.last;
        records = take-append-le (a.cut - x.work.start.last) x.work.records (r ∷ []) within ∙ h.1.records;
        pages = h.1.pages;
      },
    )

by_row : (a : Archive) (m : Machine) (n : ℕ) (rid : Rid) (r : Record) (x : Machine) → Since a m x → Since a m (change_row n rid r x)
by_row a m n rid r x h =
    let p : ℕ × ℕ = (rid.space, rid.page) in
    by_record a m r (before_change n p x) (by_stays a m x (before_change n p x) (before_stays n p x) h)

-- the pages of a space that the archive does not have
by_pages : (a : Archive) (m : Machine) (space : ℕ) (pages : List Page) (x : Machine) → has_space space a ≡ false → Since a m x → Since a m (with_pages space pages x)
by_pages a m space pages x apart h = (
  h.0,
  record {
    config = h.1.config;
    incarnation = h.1.incarnation;
    last = h.1.last;
    records = h.1.records;
    pages = λ other is.
        get_or-set_other x.work.start.pages space other pages []
        (λ e. (let both : true ≡ false = sym is ∙ ap (λ (s : ℕ). has_space s a) (let same : other ≡ space = omega (arith, e) in same) ∙ apart in absurd cc))
        ∙ h.1.pages other is;
  },
)

-- the space of which a warm restore is under way is none of a running archive
none_restored : (k : ℕ) (a b : Archive) (m : Machine) (w : Warming) → archive_of m k ≡ Some b → b.spaces ≡ a.spaces → KnowsSpaces m → m.warm ≡ Some w → has_space w.space a ≡ false
none_restored k a b m w own same knows under =
    elim (cases_Bool (has_space w.space a)) [
      | inl e ↦
          (let held : has_space w.space b ≡ true = ap (λ (l : List Saved). list_any (λ (s : Saved). s.space == w.space) l) same ∙ e in
          let up : is_up m.lasting w.space ≡ true = knows.archives k w.space (ap (λ (o : Option Archive). archives_space w.space o) own ∙ held) in
          absurd (let both : true ≡ false = sym up ∙ knows.warm w under in cc))
      | inr e ↦ e
    ]

-- a turn leaves all up to the cut of a running archive as it was
turn_since : (shelf : Shelf) (k : ℕ) (a b : Archive) (m : Machine) (e : Entry) → archive_of m k ≡ Some b → b.spaces ≡ a.spaces → KnowsSpaces m → a.cut ≤ last_of m → Since a m (state_after shelf m e)
turn_since shelf k a b m e own same knows cut = turn_steady (Since a m) shelf (given_by e.reply) m e.number e.actor e.event steps by_archiver by_restorer here
  where
    n : ℕ
    n = number_of e.actor

    here : Since a m m
    here = (cut, same_at_cut a m)

    steps : Steady (Since a m) n
    steps = record {
      rests = λ x y rests h. by_stays a m x y rests.stays h;
      seat = λ s x h. by_seat a m n s x h;
      add = λ r x h. by_record a m r x h;
      row = λ i rid r x h. by_row a m i rid r x h;
    }

    by_archiver : KeptByArchiver (Since a m) m n
    by_archiver = record {
      start = λ level names. by_stays a m m (start_at m n level names (archive_of m n)).1 (start_beside m n level names (archive_of m n)).stays here;
      take = by_stays a m m (take_at m n (archive_of m n)).1 (take_beside m n (archive_of m n)).stays here;
      finish = by_stays a m m (end_at m n (archive_of m n)).1 (end_beside m n (archive_of m n)).stays here;
      cancel = λ count why. by_stays a m m (cancel_at count m n why (archive_of m n)).1 (cancel_beside count m n why (archive_of m n)).stays here;
    }

    by_restorer : KeptByRestorer (Since a m) shelf m
    by_restorer =
        unwarmed (Since a m) shelf m (λ x y fixed work incarnation archives h. by_work a m x y fixed work incarnation h)
        (λ w of. by_pages a m w.space (pages_drawn shelf m w.space) m (none_restored k a b m w own same knows of) here) here

-- ---- the pages, and their images

-- the archive of archiver k, its pages with their images at the cut, and what its blocks tell besides are the same
pub record KeepsArchive (k : ℕ) (a : Archive) (m n : Machine) : Type 0 where
  pub archive : archive_of n k ≡ archive_of m k
  pub pages : pages_of n a ≡ pages_of m a
  pub images : (space page : ℕ) → has_space space a ≡ true → page_upto n a.cut space page ≡ page_upto m a.cut space page
  pub config : config_of n ≡ config_of m
  pub incarnation : n.lasting.incarnation ≡ m.lasting.incarnation
  pub stopped : n.stopped ≡ m.stopped
  pub cut : a.cut ≤ last_of n
  pub knows : KnowsSpaces n

-- the pages of a space that were changed above its base
abbrev changed_by : Config → ℕ → List Record → List Page → Saved → List (ℕ × ℕ)
changed_by c last records pages s =
    map (λ p. let r : ℕ × ℕ = (s.space, p) in r) (filter (λ p. nat_lt s.base (stamp_from (slice_index_or pages p blank).stamp (last + 1) records s.space p)) (range_with_len 0 (data_pages c s.space)))

changed_same : (a : Archive) (m n : Machine) (s : Saved) → SameAtCut a m n → has_space s.space a ≡ true → changed_upto n a.cut s ≡ changed_upto m a.cut s
changed_same a m n s same is =
    let records : List Record = upto n.work.start n.work.records a.cut in
    let pages : List Page = slice_index_or n.work.start.pages s.space [] in
    ap (λ (c : Config). changed_by c n.work.start.last records pages s) same.config
    ∙ ap (λ (l : ℕ). changed_by (config_of m) l records pages s) same.last
    ∙ ap (λ (l : List Record). changed_by (config_of m) m.work.start.last l pages s) same.records
    ∙ ap (λ (l : List Page). changed_by (config_of m) m.work.start.last (upto m.work.start m.work.records a.cut) l s) (same.pages s.space is)

images_same : (a : Archive) (m n : Machine) (space page : ℕ) → SameAtCut a m n → has_space space a ≡ true → page_upto n a.cut space page ≡ page_upto m a.cut space page
images_same a m n space page same is =
    let records : List Record = upto n.work.start n.work.records a.cut in
    let pages : List Page = slice_index_or n.work.start.pages space [] in
    ap (λ (l : ℕ). page_from (slice_index_or pages page blank) (l + 1) records space page) same.last
    ∙ ap (λ (l : List Record). page_from (slice_index_or pages page blank) (m.work.start.last + 1) l space page) same.records
    ∙ ap (λ (l : List Page). page_from (slice_index_or l page blank) (m.work.start.last + 1) (upto m.work.start m.work.records a.cut) space page) (same.pages space is)

-- each of these spaces is among the first
abbrev EachIn : List Saved → List Saved → Type 0
EachIn all [] = Unit {0}
EachIn all (s ∷ spaces) = (list_any (λ (v : Saved). v.space == s.space) all ≡ true) × EachIn all spaces

more_spaces : (x : ℕ) (s : Saved) (spaces : List Saved) → list_any (λ (v : Saved). v.space == x) spaces ≡ true → list_any (λ (v : Saved). v.space == x) (s ∷ spaces) ≡ true
more_spaces x s spaces is = elim (s.space == x) as (λ b. (b || list_any (λ (v : Saved). v.space == x) spaces) ≡ true) [ true ↦ refl | false ↦ is ]

each_in : (all spaces : List Saved) → ((x : ℕ) → list_any (λ (v : Saved). v.space == x) spaces ≡ true → list_any (λ (v : Saved). v.space == x) all ≡ true) → EachIn all spaces
each_in all [] more = tt
each_in all (s ∷ spaces) more = (
  more s.space (ap (λ (b : Bool). b || list_any (λ (v : Saved). v.space == s.space) spaces) (same_self s.space)),
  each_in all spaces (λ x is. more x (more_spaces x s spaces is)),
)

own_spaces : (a : Archive) → EachIn a.spaces a.spaces
own_spaces a = each_in a.spaces a.spaces (λ x is. is)

flat_same : (a : Archive) (m n : Machine) (spaces : List Saved) → SameAtCut a m n → EachIn a.spaces spaces → flat_map (changed_upto n a.cut) spaces ≡ flat_map (changed_upto m a.cut) spaces
flat_same a m n [] same each = refl
flat_same a m n (s ∷ spaces) same each =
    flat_map-cons (changed_upto n a.cut) s spaces
    ∙ ap (λ (l : List (ℕ × ℕ)). l ++ flat_map (changed_upto n a.cut) spaces) (changed_same a m n s same each.0)
    ∙ ap (λ (l : List (ℕ × ℕ)). changed_upto m a.cut s ++ l) (flat_same a m n spaces same each.1)
    ∙ sym (flat_map-cons (changed_upto m a.cut) s spaces)

pages_same : (a : Archive) (m n : Machine) → SameAtCut a m n → pages_of n a ≡ pages_of m a
unfolding pages_of
pages_same a m n same = flat_same a m n a.spaces same (own_spaces a)

-- what a turn of another leaves
pub beside_keeps : (shelf : Shelf) (k : ℕ) (a b : Archive) (m : Machine) (e : Entry) → IsBeside shelf k m e → archive_of m k ≡ Some b → b.spaces ≡ a.spaces → KnowsSpaces m → a.cut ≤ last_of m
    → KeepsArchive k a m (state_after shelf m e)
beside_keeps shelf k a b m e beside own same knows cut =
    let n = state_after shelf m e in
    let since = turn_since shelf k a b m e own same knows cut in
    record {
      archive = beside.running;
      pages = pages_same a m n since.1;
      images = λ space page is. images_same a m n space page since.1 is;
      config = since.1.config;
      incarnation = since.1.incarnation;
      stopped = beside.going;
      cut = since.0;
      knows = turn_knows shelf (given_by e.reply) m e.number e.actor e.event knows;
    }

-- ---- pages are of the archive's spaces

-- each of these pages is of a space of the archive
abbrev pub AreIn : Archive → List (ℕ × ℕ) → Type 0
AreIn a [] = Unit {0}
AreIn a (p ∷ rest) = (has_space p.0 a ≡ true) × AreIn a rest

in_append : (a : Archive) (x y : List (ℕ × ℕ)) → AreIn a x → AreIn a y → AreIn a (x ++ y)
in_append a [] y front behind = behind
in_append a (p ∷ x) y front behind = (front.0, in_append a x y front.1 behind)

in_space : (a : Archive) (space : ℕ) (pages : List ℕ) → has_space space a ≡ true → AreIn a (map (λ p. let r : ℕ × ℕ = (space, p) in r) pages)
in_space a space [] is = tt
in_space a space (p ∷ pages) is = (is, in_space a space pages is)

in_spaces : (a : Archive) (m : Machine) (spaces : List Saved) → EachIn a.spaces spaces → AreIn a (flat_map (changed_upto m a.cut) spaces)
in_spaces a m [] each = tt
in_spaces a m (s ∷ spaces) each =
    subst (λ (l : List (ℕ × ℕ)). AreIn a l) (sym (flat_map-cons (changed_upto m a.cut) s spaces))
    (in_append a (changed_upto m a.cut s) (flat_map (changed_upto m a.cut) spaces)
    (in_space a s.space (filter (λ p. nat_lt s.base (stamp_upto m a.cut s.space p)) (range_with_len 0 (data_pages (config_of m) s.space))) each.0) (in_spaces a m spaces each.1))

pub pages_in : (a : Archive) (m : Machine) → AreIn a (pages_of m a)
unfolding pages_of
pages_in a m = in_spaces a m a.spaces (own_spaces a)
