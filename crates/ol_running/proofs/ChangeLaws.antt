-- A change of a row: the image of its page is kept first, where an archive wants it, or one image too many breaks the archive.
use Rattle.std.specs.List.{AllByRecursion}
use Rattle.std.specs.Prelude.{Bool, drop, take, List, None, Option, Some, false, find, if◌then◌else◌, is_none, length, nat_le, nat_lt, not, refl, true, ℕ, ◌&&◌, ◌-◌, ◌<◌, ◌==◌, ◌≡◌, ◌≢◌, ◌≤◌, ◌||◌}
use Rattle.std.proofs.Common.{ap, arith, inl, inr, subst, sym, ◌∙◌}
use Rattle.std.proofs.lemmas.Bool.{le-leb, le-ltb}
use Rattle.std.proofs.lemmas.Bool.Decides.{eqb_tells, nat_tests}
use Rattle.std.proofs.lemmas.List.{get_or-set_same, length-map}
use Rattle.std.proofs.lemmas.Option.{same_Some}
use Rattle.std.proofs.Math.ListN.{get_or-map}
use Rattle.ol_values.specs.declared.record.Record.{Record}
use Rattle.ol_values.specs.declared.record.Rid.{Rid}
use Rattle.ol_values.specs.Config.{Config, data_pages}
use Rattle.ol_values.specs.Image.{page_bytes}
use Rattle.ol_values.specs.Pages.{Page}
use Rattle.ol_rules.specs.Journal.{touches}
use Rattle.ol_rules.specs.Start.{last_behind, page_behind, stamp_behind, upto}
use Rattle.ol_model.specs.Machine.{Archive, Fixed, Machine, Work, archive_of, archives_space, config_of, has_space, last_of, page_upto, stamp_in}
use Rattle.ol_model.specs.Steps.{after_change, append, before_change, change_row, is_page_in, wants_image}
use Rattle.ol_model.specs.Waiting.{images_held, left_of, pages_of, waiting_of}
use Rattle.ol_turn_laws.proofs.KeptLaws.{before_stays, other_entry}
use Rattle.ol_before.specs.Images.{Captures, Image, captured, image_of, is_of, without}
use Rattle.ol_before.proofs.MapLaws.{image_with}
use Rattle.ol_before.proofs.OrderLaws.{ascend_kept, ascend_with}
use Rattle.ol_before.proofs.ValueLaws.{not_found}
use Rattle.ol_cursor.specs.Following.{IsOf}
use Rattle.ol_cursor.specs.Order.{AscendFrom, archives, is_wanted, precedes}
use Rattle.ol_cursor.proofs.WantLaws.{image_is}
use Rattle.ol_running.specs.declared.running.Running.{Running}
use Rattle.ol_running.specs.Running.{ChangesOnly, IsArchive, IsRunning, ShowsArchives, broken_by, image_at, is_of_archive, keeps_image, keeps_of, running_of, waits, with_running}
use Rattle.ol_running.proofs.EndLaws.{image_kept}
use Rattle.ol_running.proofs.KeptLaws.{page_at_cut}
use Rattle.ol_running.proofs.OwnLaws.{Own, cut_in, own_apart, turned}
use Rattle.ol_running.proofs.ShowLaws.{left_in, waits_alone, waits_in, waits_is}
use Rattle.ol_running.proofs.StepLaws.{Same, all_stay, append_shown, cut_of, goes_on, image_appended, runs_appended, runs_elsewhere, waits_appended}
use Rattle.ol_running.proofs.TurnLaws.{archive_there}

-- ---- which archive wants the image

abbrev wants_of : Machine → ℕ × ℕ → Option Archive → Bool
wants_of m p None = false
wants_of m p (Some a) = wants_image m p a

keeps_archive : (r : Running) (m : Machine) (a : Archive) (space page : ℕ) → IsArchive r m a → page < data_pages (config_of m) space → (o : Option ℕ) → a.broken ≡ o
    → keeps_image r space page (stamp_in m space page) ≡ wants_image m (space, page) a
keeps_archive r m a space page is within None whole =
    ap (λ (o : Option ℕ). is_none o && (is_wanted r.cursor space (stamp_in m space page) && not (precedes (space, page) r.cursor.next))) (is.broken ∙ whole)
    ∙ image_is r.cursor m a space page is.follows is.behind whole within
keeps_archive r m a space page is within (Some entry) broken =
    ap (λ (o : Option ℕ). is_none o && (is_wanted r.cursor space (stamp_in m space page) && not (precedes (space, page) r.cursor.next))) (is.broken ∙ broken)
    ∙ sym (ap (λ (o : Option ℕ). is_none o && (is_page_in (space, page) (left_of m a) && nat_le (stamp_in m space page) a.cut)) broken)

keeps_is : (r : Option Running) (m : Machine) (o : Option Archive) (space page : ℕ) → IsRunning r m o → page < data_pages (config_of m) space → keeps_of r space page (stamp_in m space page) ≡ wants_of m (space, page) o
keeps_is None m None space page is within = refl
keeps_is None m (Some a) space page is within = absurd is
keeps_is (Some r) m None space page is within = absurd is
keeps_is (Some r) m (Some a) space page is within = keeps_archive r m a space page is within a.broken refl

-- what is known of the archive that wants it
record Wants (m : Machine) (a : Archive) (space page : ℕ) : Type 0 where
  whole : is_none a.broken ≡ true
  left : is_page_in (space, page) (left_of m a) ≡ true
  low : stamp_in m space page ≤ a.cut

part_one : (x y z : Bool) → (x && (y && z)) ≡ true → x ≡ true
part_one x y z all = grind (arith, nat_tests)

part_two : (x y z : Bool) → (x && (y && z)) ≡ true → y ≡ true
part_two x y z all = grind (arith, nat_tests)

part_three : (x y z : Bool) → (x && (y && z)) ≡ true → z ≡ true
part_three x y z all = grind (arith, nat_tests)

wants_parts : (m : Machine) (a : Archive) (space page : ℕ) → wants_image m (space, page) a ≡ true → Wants m a space page
wants_parts m a space page is =
    let low : nat_le (stamp_in m space page) a.cut ≡ true = part_three (is_none a.broken) (is_page_in (space, page) (left_of m a)) (nat_le (stamp_in m space page) a.cut) is in
    record {
      whole = part_one (is_none a.broken) (is_page_in (space, page) (left_of m a)) (nat_le (stamp_in m space page) a.cut) is;
      left = part_two (is_none a.broken) (is_page_in (space, page) (left_of m a)) (nat_le (stamp_in m space page) a.cut) is;
      low = grind (arith, nat_tests);
    }

-- the archive that wants the image has the page's space
keeps_in : (r : Option Running) (m : Machine) (o : Option Archive) (space page : ℕ) → IsRunning r m o → page < data_pages (config_of m) space → keeps_of r space page (stamp_in m space page) ≡ true → archives_space space o ≡ true
keeps_in None m o space page is within keeps = absurd (let never : false ≡ true = keeps in cc)
keeps_in (Some r) m None space page is within keeps = absurd is
keeps_in (Some r) m (Some a) space page is within keeps =
    left_in r m a space page is (wants_parts m a space page (sym (keeps_archive r m a space page is within a.broken refl) ∙ keeps)).left

-- at most one archive wants it
pub keeps_alone : (l : List (Option Running)) (b : Captures) (m : Machine) (j k space page : ℕ) → 1 ≤ j → 1 ≤ k → ShowsArchives l b m → page < data_pages (config_of m) space
    → keeps_of (running_of l j) space page (stamp_in m space page) ≡ true → keeps_of (running_of l k) space page (stamp_in m space page) ≡ true → j ≡ k
keeps_alone l b m j k space page from_j from_k s within one two =
    s.apart j k space from_j from_k
    (keeps_in (running_of l j) m (archive_of m j) space page (s.running j from_j) within one)
    (keeps_in (running_of l k) m (archive_of m k) space page (s.running k from_k) within two)

-- ---- the record, where none wants the image

not_later : (x left lower later touched : Bool) → lower ≡ not later → (x && (left && lower)) ≡ false → (x && ((touched || later) && left)) ≡ (x && (later && left))
not_later x left lower later touched opposite none = grind (arith, nat_tests)

opposite : (stamp cut : ℕ) → nat_le stamp cut ≡ not (nat_lt cut stamp)
opposite stamp cut = grind (arith, nat_tests)

here_is : (rid : Rid) (space page : ℕ) → ((rid.space == space) && (rid.page == page)) ≡ true → (rid.space ≡ space) × (rid.page ≡ page)
here_is rid space page same =
    let one : rid.space ≡ space = grind (arith, nat_tests) in
    let two : rid.page ≡ page = grind (arith, nat_tests) in
    (one, two)

untouched_waits : (r : Option Running) (m : Machine) (o : Option Archive) (x : Record) (space page : ℕ) → IsRunning r m o → touches space page x ≡ false
    → is_page_in (space, page) (waiting_of (append x m) o) ≡ is_page_in (space, page) (waiting_of m o)
untouched_waits r m None x space page is none = refl
untouched_waits r m (Some a) x space page is none =
    waits_appended m a x space page (cut_of r m a is)
    ∙ ap (λ (t : Bool). is_none a.broken && ((t || nat_lt a.cut (stamp_in m space page)) && is_page_in (space, page) (left_of m a))) none
    ∙ sym (waits_is m a space page)

unwanted_waits : (r : Option Running) (m : Machine) (o : Option Archive) (x : Record) (space page : ℕ) → IsRunning r m o → wants_of m (space, page) o ≡ false
    → is_page_in (space, page) (waiting_of (append x m) o) ≡ is_page_in (space, page) (waiting_of m o)
unwanted_waits r m None x space page is none = refl
unwanted_waits r m (Some a) x space page is none =
    waits_appended m a x space page (cut_of r m a is)
    ∙ not_later (is_none a.broken) (is_page_in (space, page) (left_of m a)) (nat_le (stamp_in m space page) a.cut) (nat_lt a.cut (stamp_in m space page)) (touches space page x) (opposite (stamp_in m space page) a.cut) none
    ∙ sym (waits_is m a space page)

append_kept : (l : List (Option Running)) (b : Captures) (m : Machine) (x : Record) (rid : Rid) → ShowsArchives l b m → ChangesOnly x rid → rid.page < data_pages (config_of m) rid.space
    → ((k : ℕ) → 1 ≤ k → keeps_of (running_of l k) rid.space rid.page (stamp_in m rid.space rid.page) ≡ false) → ShowsArchives l b (append x m)
append_kept l b m x rid s only within none = append_shown l b m x (λ k space page from. go k space page from ((rid.space == space) && (rid.page == page)) refl) s
  where
    go : (k space page : ℕ) → 1 ≤ k → (t : Bool) → ((rid.space == space) && (rid.page == page)) ≡ t → waits (append x m) k space page ≡ waits m k space page
    go k space page from false other = untouched_waits (running_of l k) m (archive_of m k) x space page (s.running k from) (only space page ∙ other)
    go k space page from true here =
        let same = here_is rid space page here in
        subst (λ (q : ℕ). waits (append x m) k space q ≡ waits m k space q) same.1
        (subst (λ (t : ℕ). waits (append x m) k t rid.page ≡ waits m k t rid.page) same.0
        (unwanted_waits (running_of l k) m (archive_of m k) x rid.space rid.page (s.running k from) (sym (keeps_is (running_of l k) m (archive_of m k) rid.space rid.page (s.running k from) within) ∙ none k from)))

-- ---- the record, where one wants it

abbrev pub image_of_now : Machine → Rid → Image
image_of_now m rid = record { space = rid.space; page = rid.page; bytes = page_bytes (page_upto m (last_of m) rid.space rid.page) }

not_changed : (m : Machine) (a : Archive) (space page : ℕ) → Wants m a space page → is_page_in (space, page) (waiting_of m (Some a)) ≡ false
not_changed m a space page w =
    waits_is m a space page
    ∙ ap (λ (t : Bool). is_none a.broken && (t && is_page_in (space, page) (left_of m a))) (le-ltb a.cut (stamp_in m space page) w.low)
    ∙ elim (is_none a.broken) as (λ b. (b && (false && is_page_in (space, page) (left_of m a))) ≡ false) [ true ↦ refl | false ↦ refl ]

now_waits : (m : Machine) (a : Archive) (x : Record) (space page : ℕ) → a.cut ≤ last_of m → touches space page x ≡ true → Wants m a space page → is_page_in (space, page) (waiting_of (append x m) (Some a)) ≡ true
now_waits m a x space page cut touched w =
    waits_appended m a x space page cut
    ∙ ap (λ (n : Bool). n && ((touches space page x || nat_lt a.cut (stamp_in m space page)) && is_page_in (space, page) (left_of m a))) w.whole
    ∙ ap (λ (t : Bool). (t || nat_lt a.cut (stamp_in m space page)) && is_page_in (space, page) (left_of m a)) touched
    ∙ w.left

-- no image of the page is held yet
none_yet : (l : List (Option Running)) (b : Captures) (m : Machine) (k : ℕ) (r : Running) (a : Archive) (space page : ℕ) → 1 ≤ k → ShowsArchives l b m → archive_of m k ≡ Some a → IsArchive r m a → Wants m a space page
    → image_of b.held space page ≡ None
none_yet l b m k r a space page from s at is w =
    s.images.none space page
    (λ j from_j. waits_alone l m s.running s.apart j k space page from_j from (ap (λ (o : Option Archive). archives_space space o) at ∙ left_in r m a space page is w.left) (ap (λ (o : Option Archive). is_page_in (space, page) (waiting_of m o)) at ∙ not_changed m a space page w))

append_captured : (l : List (Option Running)) (b : Captures) (m : Machine) (x : Record) (rid : Rid) (k : ℕ) (r : Running) (a : Archive) → 1 ≤ k → ShowsArchives l b m → ChangesOnly x rid → archive_of m k ≡ Some a → IsArchive r m a
    → Wants m a rid.space rid.page → ShowsArchives l (captured (image_of_now m rid) b) (append x m)
append_captured l b m x rid k r a from s only at is w =
    goes_on l l b (captured i b) m (append x m) s
    (record {
      four = s.four;
      archivers = s.archivers;
      config = refl;
      start = refl;
      running = running;
      limit_is = refl;
      ascend = ascend_with i b.held s.ascend (not_found (find (is_of rid.space rid.page) b.held) (none_yet l b m k r a rid.space rid.page from s at is w));
      images = record {
        there = λ j o space page from_j here waiting. there j o space page from_j here waiting (is_of space page i) refl;
        none = λ space page never. none space page never (is_of space page i) refl;
      };
      apart = s.apart;
    })
  where
    i : Image
    i = image_of_now m rid

    running : (j : ℕ) → 1 ≤ j → IsRunning (running_of l j) (append x m) (archive_of m j)
    running j from_j = runs_appended (running_of l j) m (archive_of m j) x (s.running j from_j)

    found : (space page : ℕ) (t : Bool) → is_of space page i ≡ t → image_of (captured i b).held space page ≡ (if t then Some i.bytes else image_of b.held space page)
    found space page t is = image_with i b space page ∙ ap (λ (t : Bool). if t then Some i.bytes else image_of b.held space page) is

    there : (j : ℕ) (o : Archive) (space page : ℕ) → 1 ≤ j → archive_of m j ≡ Some o → waits (append x m) j space page ≡ true → (t : Bool) → is_of space page i ≡ t
        → image_of (captured i b).held space page ≡ Some (image_at (append x m) o space page)
    there j o space page from_j here waiting false other =
        found space page false other
        ∙ s.images.there j o space page from_j here (sym (untouched_waits (running_of l j) m (archive_of m j) x space page (s.running j from_j) (only space page ∙ other)) ∙ waiting)
        ∙ ap (λ (bytes : List ℕ). Some bytes) (sym (image_appended m o x space page (cut_of (running_of l j) m o (subst (λ (v : Option Archive). IsRunning (running_of l j) m v) here (s.running j from_j)))))
    there j o space page from_j here waiting true same =
        let place = here_is rid space page same in
        let own : archives_space space (archive_of m k) ≡ true =
        ap (λ (v : Option Archive). archives_space space v) at ∙ ap (λ (t : ℕ). has_space t a) (sym place.0) ∙ left_in r m a rid.space rid.page is w.left in
        let one : j ≡ k = s.apart j k space from_j from (waits_in (running_of l j) (append x m) (archive_of m j) space page (running j from_j) waiting) own in
        let it : a ≡ o = same_Some a o (sym at ∙ ap (λ (t : ℕ). archive_of m t) (sym one) ∙ here) in
        found space page true same
        ∙ ap (λ (p : Page). Some (page_bytes p)) (page_at_cut m a.cut rid.space rid.page is.behind.last is.cut w.low)
        ∙ ap (λ (bytes : List ℕ). Some bytes) (sym (image_appended m a x rid.space rid.page is.cut))
        ∙ ap (λ (t : ℕ). Some (image_at (append x m) a t rid.page)) place.0
        ∙ ap (λ (q : ℕ). Some (image_at (append x m) a space q)) place.1
        ∙ ap (λ (v : Archive). Some (image_at (append x m) v space page)) it

    none : (space page : ℕ) → ((j : ℕ) → 1 ≤ j → waits (append x m) j space page ≡ false) → (t : Bool) → is_of space page i ≡ t → image_of (captured i b).held space page ≡ None
    none space page never false other =
        found space page false other
        ∙ s.images.none space page (λ j from_j. sym (untouched_waits (running_of l j) m (archive_of m j) x space page (s.running j from_j) (only space page ∙ other)) ∙ never j from_j)
    none space page never true same =
        let place = here_is rid space page same in
        let waiting : is_page_in (rid.space, rid.page) (waiting_of (append x m) (Some a)) ≡ true =
        now_waits m a x rid.space rid.page is.cut (ap (λ (t : ℕ). touches t rid.page x) place.0 ∙ ap (λ (q : ℕ). touches space q x) place.1 ∙ only space page ∙ same) w in
        let not_there : is_page_in (space, page) (waiting_of (append x m) (Some a)) ≡ false = ap (λ (v : Option Archive). is_page_in (space, page) (waiting_of (append x m) v)) (sym at) ∙ never k from in
        let there_too : is_page_in (space, page) (waiting_of (append x m) (Some a)) ≡ true =
        ap (λ (t : ℕ). is_page_in (t, page) (waiting_of (append x m) (Some a))) (sym place.0) ∙ ap (λ (q : ℕ). is_page_in (rid.space, q) (waiting_of (append x m) (Some a))) (sym place.1) ∙ waiting in
        absurd (cc (not_there, there_too))

-- ---- before the record

same_before : (n : ℕ) (p : ℕ × ℕ) (m : Machine) → Same m (before_change n p m)
same_before n p m = record {
  config = ap (λ (f : Fixed). f.config) (before_stays n p m).fixed;
  start = ap (λ (w : Work). w.start) (before_stays n p m).work;
  records = ap (λ (w : Work). w.records) (before_stays n p m).work;
}

stamp_before : (n : ℕ) (p : ℕ × ℕ) (m : Machine) (space page : ℕ) → stamp_in (before_change n p m) space page ≡ stamp_in m space page
stamp_before n p m space page = ap (λ (w : Work). stamp_behind w.start w.records space page) (before_stays n p m).work

archive_before : (n : ℕ) (p : ℕ × ℕ) (m : Machine) (k : ℕ) → archive_of (before_change n p m) k ≡ after_change m n p (archive_of m k)
archive_before n p m k = get_or-map (after_change m n p) m.archives (k - 1) None

archivers_before : (n : ℕ) (p : ℕ × ℕ) (m : Machine) → length m.archives ≡ 4 → length (before_change n p m).archives ≡ 4
archivers_before n p m four = length-map m.archives (after_change m n p) ∙ four

abbrev full : Machine → Bool
full m = nat_le (config_of m).image_limit (images_held m)

not_broken : (m : Machine) (n : ℕ) (p : ℕ × ℕ) (o : Option Archive) → (wants_of m p o && full m) ≡ false → after_change m n p o ≡ o
not_broken m n p None none = refl
not_broken m n p (Some a) none = ap (λ (b : Bool). let o : Option Archive = Some (if b then record a { broken = Some n } else a) in o) none

-- no archive breaks before the record
before_stay : (l : List (Option Running)) (b : Captures) (m : Machine) (n : ℕ) (p : ℕ × ℕ) → ShowsArchives l b m → ((k : ℕ) → 1 ≤ k → (wants_of m p (archive_of m k) && full m) ≡ false) → ShowsArchives l b (before_change n p m)
before_stay l b m n p s none =
    all_stay l b m (before_change n p m) (same_before n p m) (archivers_before n p m s.archivers) (λ k from. archive_before n p m k ∙ not_broken m n p (archive_of m k) (none k from)) s

within_before : (n : ℕ) (p : ℕ × ℕ) (m : Machine) (space page : ℕ) → page < data_pages (config_of m) space → page < data_pages (config_of (before_change n p m)) space
within_before n p m space page within = subst (λ (c : Config). page < data_pages c space) (sym (same_before n p m).config) within

stays_false : (x y : Bool) → x ≡ false → (x && y) ≡ false
stays_false x y none = grind (arith, nat_tests)

pub kept_shown : (l : List (Option Running)) (b : Captures) (m : Machine) (n : ℕ) (x : Record) (rid : Rid) → ShowsArchives l b m → ChangesOnly x rid → rid.page < data_pages (config_of m) rid.space
    → ((k : ℕ) → 1 ≤ k → keeps_of (running_of l k) rid.space rid.page (stamp_in m rid.space rid.page) ≡ false) → ShowsArchives l b (change_row n rid x m)
kept_shown l b m n x rid s only within none =
    let p : ℕ × ℕ = (rid.space, rid.page) in
    append_kept l b (before_change n p m) x rid
    (before_stay l b m n p s (λ k from. stays_false (wants_of m p (archive_of m k)) (full m) (sym (keeps_is (running_of l k) m (archive_of m k) rid.space rid.page (s.running k from) within) ∙ none k from)))
    only (within_before n p m rid.space rid.page within)
    (λ k from. ap (λ (t : ℕ). keeps_of (running_of l k) rid.space rid.page t) (stamp_before n p m rid.space rid.page) ∙ none k from)

-- ---- where one wants the image

wants_held : (r : Running) (m : Machine) (a : Archive) (space page : ℕ) → IsArchive r m a → page < data_pages (config_of m) space → keeps_image r space page (stamp_in m space page) ≡ true → Wants m a space page
wants_held r m a space page is within keeps = wants_parts m a space page (sym (keeps_archive r m a space page is within a.broken refl) ∙ keeps)

pub none_held : (l : List (Option Running)) (b : Captures) (m : Machine) (k : ℕ) (r : Running) (space page : ℕ) → 1 ≤ k → ShowsArchives l b m → page < data_pages (config_of m) space → running_of l k ≡ Some r
    → keeps_image r space page (stamp_in m space page) ≡ true → image_of b.held space page ≡ None
none_held l b m k r space page from s within is keeps = go (archive_there l b m k r from s is)
  where
    go : (a : Archive) × (archive_of m k ≡ Some a) × IsArchive r m a → image_of b.held space page ≡ None
    go (a, at, of_it) = none_yet l b m k r a space page from s at of_it (wants_held r m a space page of_it within keeps)

both_false : (x y : Bool) → y ≡ false → (x && y) ≡ false
both_false x y none = grind (arith, nat_tests)

captured_at : (l : List (Option Running)) (b : Captures) (m : Machine) (n : ℕ) (x : Record) (rid : Rid) (k : ℕ) (r : Running) (a : Archive) → 1 ≤ k → ShowsArchives l b m → ChangesOnly x rid → rid.page < data_pages (config_of m) rid.space
    → running_of l k ≡ Some r → keeps_image r rid.space rid.page (stamp_in m rid.space rid.page) ≡ true → length b.held < b.limit → archive_of m k ≡ Some a → IsArchive r m a
    → ShowsArchives l (captured (image_of_now m rid) b) (change_row n rid x m)
captured_at l b m n x rid k r a from s only within is keeps room at of_it =
    let p : ℕ × ℕ = (rid.space, rid.page) in
    let m1 : Machine = before_change n p m in
    let w : Wants m a rid.space rid.page = wants_held r m a rid.space rid.page of_it within keeps in
    let not_full : full m ≡ false = grind (arith, nat_tests, room, s.count, s.limit) in
    let s1 : ShowsArchives l b m1 = before_stay l b m n p s (λ j from_j. both_false (wants_of m p (archive_of m j)) (full m) not_full) in
    let there = archive_there l b m1 k r from s1 is in
    let same : image_of_now m1 rid ≡ image_of_now m rid = same_now (same_before n p m) in
    subst (λ (i : Image). ShowsArchives l (captured i b) (append x m1)) same
    (append_captured l b m1 x rid k r there.0 from s1 only there.1 there.2
    (wants_held r m1 there.0 rid.space rid.page there.2 (within_before n p m rid.space rid.page within)
    (ap (λ (t : ℕ). keeps_image r rid.space rid.page t) (stamp_before n p m rid.space rid.page) ∙ keeps)))
  where
    same_now : Same m (before_change n (rid.space, rid.page) m) → image_of_now (before_change n (rid.space, rid.page) m) rid ≡ image_of_now m rid
    same_now same =
        let w : (before_change n (rid.space, rid.page) m).work ≡ m.work = (before_stays n (rid.space, rid.page) m).work in
        ap (λ (w : Work). let i : Image = record { space = rid.space; page = rid.page; bytes = page_bytes (page_behind w.start (upto w.start w.records (last_behind w.start w.records)) rid.space rid.page) } in i) w

pub captured_shown : (l : List (Option Running)) (b : Captures) (m : Machine) (n : ℕ) (x : Record) (rid : Rid) (k : ℕ) (r : Running) → 1 ≤ k → ShowsArchives l b m → ChangesOnly x rid → rid.page < data_pages (config_of m) rid.space
    → running_of l k ≡ Some r → keeps_image r rid.space rid.page (stamp_in m rid.space rid.page) ≡ true → length b.held < b.limit
    → ShowsArchives l (captured (image_of_now m rid) b) (change_row n rid x m)
captured_shown l b m n x rid k r from s only within is keeps room = go (archive_there l b m k r from s is)
  where
    go : (a : Archive) × (archive_of m k ≡ Some a) × IsArchive r m a → ShowsArchives l (captured (image_of_now m rid) b) (change_row n rid x m)
    go (a, at, of_it) = captured_at l b m n x rid k r a from s only within is keeps room at of_it

-- ---- one image too many

abbrev broken_at : ℕ → Archive → Archive
broken_at n a = record a { broken = Some n }

-- it has the pages that it had
broken_pages : (m : Machine) (a : Archive) (entry : ℕ) → pages_of m (broken_at entry a) ≡ pages_of m a
unfolding pages_of
broken_pages m a entry = refl

breaks_archive : (r : Running) (m n : Machine) (entry : ℕ) (a : Archive) → Same m n → IsArchive r m a → IsArchive (broken_by entry r) n (broken_at entry a)
breaks_archive r m n entry a same is =
    let there : IsArchive r n a = runs_elsewhere (Some r) m n (Some a) same is in
    let pages : pages_of n (broken_at entry a) ≡ pages_of n a = broken_pages n a entry in
    let of_it : IsOf r.cursor (broken_at entry a) =
    record { number = there.follows.of_it.number; level = there.follows.of_it.level; cut = there.follows.of_it.cut; low = there.follows.of_it.low; spaces = there.follows.of_it.spaces; bases = there.follows.of_it.bases } in
    record {
      follows = record {
        of_it = of_it;
        left = there.follows.left ∙ ap (λ (l : List (ℕ × ℕ)). length (drop a.passed l)) (sym pages);
        ahead = subst (λ (l : List (ℕ × ℕ)). AscendFrom r.cursor.next (drop a.passed l)) (sym pages) there.follows.ahead;
        behind = subst (λ (l : List (ℕ × ℕ)). AllByRecursion (λ p. precedes p r.cursor.next ≡ true) (take a.passed l)) (sym pages) there.follows.behind;
      };
      passed = there.passed;
      broken = refl;
      behind = record { last = there.behind.last; stamps = there.behind.stamps };
      cut = there.cut;
      count = there.count;
    }

breaks : (m : Machine) (n : ℕ) (p : ℕ × ℕ) (o : Option Archive) (a : Archive) → o ≡ Some a → wants_image m p a ≡ true → full m ≡ true → after_change m n p o ≡ Some (broken_at n a)
breaks m n p o a is wants all =
    ap (λ (v : Option Archive). after_change m n p v) is
    ∙ ap (λ (b : Bool). let v : Option Archive = Some (if b && full m then record a { broken = Some n } else a) in v) wants
    ∙ ap (λ (b : Bool). let v : Option Archive = Some (if b then record a { broken = Some n } else a) in v) all

-- before the record the archive is broken, and its images are dropped
before_breaks : (l : List (Option Running)) (b : Captures) (m : Machine) (n : ℕ) (space page : ℕ) (k : ℕ) (r : Running) (a : Archive) → 1 ≤ k → k ≤ 4 → ShowsArchives l b m → page < data_pages (config_of m) space
    → running_of l k ≡ Some r → keeps_image r space page (stamp_in m space page) ≡ true → b.limit ≤ length b.held → archive_of m k ≡ Some a → IsArchive r m a
    → ShowsArchives (with_running k (Some (broken_by n r)) l) (without (is_of_archive r.cursor) b) (before_change n (space, page) m)
before_breaks l b m n space page k r a from to s within is keeps many at of_it =
    turned l b (without (is_of_archive r.cursor) b) m m1 k (Some (broken_by n r)) (Some (broken_at n a)) drops s from to own
    (record {
      running = breaks_archive r m m1 n a (same_before n p m) of_it;
      limit = refl;
      ascend = ascend_kept (λ (i : Image). not (is_of_archive r.cursor i)) b.held s.ascend;
      apart = own_apart k m m1 (Some (broken_at n a)) own (λ t there. ap (λ (o : Option Archive). archives_space t o) at ∙ there) s.apart;
      found = λ t q. image_kept (λ v. archives r.cursor v) b.held t q;
      now = λ t q. now t q (waits m k t q) refl;
      inside = λ t q drop. has t ∙ drop;
      cuts = λ v t q same there. (a, at, ap cut_in same);
    })
  where
    p : ℕ × ℕ
    p = (space, page)

    m1 : Machine
    m1 = before_change n p m

    drops : ℕ → ℕ → Bool
    drops t q = archives r.cursor t

    wants : wants_image m p a ≡ true
    wants = sym (keeps_archive r m a space page of_it within a.broken refl) ∙ keeps

    all : full m ≡ true
    all = le-leb (config_of m).image_limit (images_held m) (omega (arith, many, s.count, s.limit))

    -- another archiver's archive does not want it
    other : (j : ℕ) → 1 ≤ j → j ≢ k → (w : Bool) → wants_of m p (archive_of m j) ≡ w → (wants_of m p (archive_of m j) && full m) ≡ false
    other j from_j differ false none = stays_false (wants_of m p (archive_of m j)) (full m) none
    other j from_j differ true also =
        absurd (differ (keeps_alone l b m j k space page from_j from s within (keeps_is (running_of l j) m (archive_of m j) space page (s.running j from_j) within ∙ also) (ap (λ (o : Option Running). keeps_of o space page (stamp_in m space page)) is ∙ keeps)))

    own : Own k m m1 (Some (broken_at n a))
    own = record {
      same = same_before n p m;
      archivers = archivers_before n p m s.archivers;
      own = archive_before n p m k ∙ breaks m n p (archive_of m k) a at wants all;
      others = λ j from_j differ. archive_before n p m j ∙ not_broken m n p (archive_of m j) (other j from_j differ (wants_of m p (archive_of m j)) refl);
    }

    has : (t : ℕ) → archives_space t (archive_of m k) ≡ archives r.cursor t
    has t = ap (λ (o : Option Archive). archives_space t o) at ∙ sym (of_it.follows.of_it.spaces t)

    now : (t q : ℕ) (w : Bool) → waits m k t q ≡ w → false ≡ (not (drops t q) && waits m k t q)
    now t q false none = elim (not (drops t q)) as (λ b. false ≡ (b && false)) [ true ↦ refl | false ↦ refl ] ∙ ap (λ (w : Bool). not (drops t q) && w) (sym none)
    now t q true there =
        let drop : drops t q ≡ true = sym (has t) ∙ waits_in (running_of l k) m (archive_of m k) t q (s.running k from) there in
        ap (λ (d : Bool). not d && waits m k t q) (sym drop)

pub broken_shown : (l : List (Option Running)) (b : Captures) (m : Machine) (n : ℕ) (x : Record) (rid : Rid) (k : ℕ) (r : Running) → 1 ≤ k → k ≤ 4 → ShowsArchives l b m → ChangesOnly x rid → rid.page < data_pages (config_of m) rid.space
    → running_of l k ≡ Some r → keeps_image r rid.space rid.page (stamp_in m rid.space rid.page) ≡ true → b.limit ≤ length b.held
    → ShowsArchives (with_running k (Some (broken_by n r)) l) (without (is_of_archive r.cursor) b) (change_row n rid x m)
broken_shown l b m n x rid k r from to s only within is keeps many = go (archive_there l b m k r from s is)
  where
    p : ℕ × ℕ
    p = (rid.space, rid.page)

    broken : List (Option Running)
    broken = with_running k (Some (broken_by n r)) l

    -- none wants it any more
    at_other : (j : ℕ) → 1 ≤ j → j ≢ k → (w : Bool) → keeps_of (running_of l j) rid.space rid.page (stamp_in m rid.space rid.page) ≡ w → keeps_of (running_of l j) rid.space rid.page (stamp_in m rid.space rid.page) ≡ false
    at_other j from_j differ false none = none
    at_other j from_j differ true also =
        absurd (differ (keeps_alone l b m j k rid.space rid.page from_j from s within also (ap (λ (o : Option Running). keeps_of o rid.space rid.page (stamp_in m rid.space rid.page)) is ∙ keeps)))

    none_wants : (j : ℕ) → 1 ≤ j → keeps_of (running_of broken j) rid.space rid.page (stamp_in m rid.space rid.page) ≡ false
    none_wants j from_j =
        elim (eqb_tells j k) [
          | inl e ↦
              ap (λ (i : ℕ). keeps_of (running_of broken i) rid.space rid.page (stamp_in m rid.space rid.page)) e.1
              ∙ ap (λ (o : Option Running). keeps_of o rid.space rid.page (stamp_in m rid.space rid.page)) (get_or-set_same l (k - 1) (Some (broken_by n r)) None (omega (arith, s.four, from, to)))
          | inr e ↦
              ap (λ (o : Option Running). keeps_of o rid.space rid.page (stamp_in m rid.space rid.page)) (other_entry l k j (Some (broken_by n r)) None from_j from e.1)
              ∙ at_other j from_j e.1 (keeps_of (running_of l j) rid.space rid.page (stamp_in m rid.space rid.page)) refl
        ]

    go : (a : Archive) × (archive_of m k ≡ Some a) × IsArchive r m a → ShowsArchives broken (without (is_of_archive r.cursor) b) (change_row n rid x m)
    go (a, at, of_it) =
        append_kept broken (without (is_of_archive r.cursor) b) (before_change n p m) x rid
        (before_breaks l b m n rid.space rid.page k r a from to s within is keeps many at of_it)
        only (within_before n p m rid.space rid.page within)
        (λ j from_j. ap (λ (t : ℕ). keeps_of (running_of broken j) rid.space rid.page t) (stamp_before n p m rid.space rid.page) ∙ none_wants j from_j)
