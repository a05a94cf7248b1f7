-- As many images are held as pages wait: what else is shown gives it. No archive and no image show a machine where none runs.
use Rattle.std.specs.List.{AllByRecursion, range_with_len}
use Rattle.std.specs.Prelude.{Bool, List, None, Option, Some, [], false, filter, if◌then◌else◌, is_none, is_some, length, nat_lt, not, refl, replicate, slice_index_or, sum_by, true, ℕ, ◌&&◌, ◌+◌, ◌-◌, ◌∷◌, ◌≡◌, ◌≤◌, ◌||◌, ◌⊎◌}
use Rattle.std.proofs.Common.{ap, arith, inl, inr, subst, sym, ◌∙◌}
use Rattle.std.proofs.lemmas.Bool.Decides.{nat_tests}
use Rattle.std.proofs.lemmas.List.{length-map}
use Rattle.ol_values.specs.Config.{Config, data_pages}
use Rattle.ol_values.specs.Pages.{Page}
use Rattle.ol_rules.specs.Start.{start_page}
use Rattle.ol_model.specs.Machine.{Archive, Machine, archive_of, archives_space, config_of, formatted, has_space, stamp_in}
use Rattle.ol_model.specs.Steps.{is_page_in, same_page}
use Rattle.ol_model.specs.Waiting.{images_held, left_of, waiting, waiting_of}
use Rattle.ol_turn_laws.specs.Apart.{Apart}
use Rattle.ol_turn_laws.proofs.LowLaws.{all_blank, of_equal}
use Rattle.ol_before.specs.Images.{Ascend, Captures, Image, image_of, no_captures}
use Rattle.ol_cursor.specs.Following.{HasShortSpaces}
use Rattle.ol_cursor.specs.Order.{archives, precedes}
use Rattle.ol_cursor.proofs.WantLaws.{left_is}
use Rattle.ol_running.specs.declared.running.Running.{Running}
use Rattle.ol_running.specs.Running.{AreWaiting, IsArchive, IsRunning, ShowsArchives, none_running, running_of, waits}
use Rattle.ol_running.proofs.CountLaws.{all_together, one_alone, one_of, one_or_none, sum_same}
use Rattle.ol_running.proofs.PlaceLaws.{Sorted, from_place, in_first, in_places, kept_in, place_of, places, places_kept, places_sorted, same_members, sorted_kept}

-- ---- of one archive

third : (x y z w : Bool) → (x && ((y && z) && w)) ≡ true → y ≡ true
third x y z w all = grind (arith, nat_tests)

-- a page that is left is of one of the archive's spaces
pub left_in : (r : Running) (m : Machine) (a : Archive) (space page : ℕ) → IsArchive r m a → is_page_in (space, page) (left_of m a) ≡ true → has_space space a ≡ true
left_in r m a space page is there =
    sym (is.follows.of_it.spaces space)
    ∙ third (nat_lt page (data_pages (config_of m) space)) (archives r.cursor space) _ (not (precedes (space, page) r.cursor.next)) (left_is r.cursor m a space page is.follows is.behind ∙ there)

-- a page waits where it is left, was changed since the cut, and the archive is not broken
pub waits_is : (m : Machine) (a : Archive) (space page : ℕ)
    → is_page_in (space, page) (waiting_of m (Some a)) ≡ (is_none a.broken && (nat_lt a.cut (stamp_in m space page) && is_page_in (space, page) (left_of m a)))
waits_is m a space page =
    elim (is_none a.broken) as (λ b. is_page_in (space, page) (let l : List (ℕ × ℕ) = (if b then waiting m a else []) in l) ≡ (b && (nat_lt a.cut (stamp_in m space page) && is_page_in (space, page) (left_of m a)))) [
      | true ↦ kept_in (λ (p : ℕ × ℕ). nat_lt a.cut (stamp_in m p.0 p.1)) (space, page) (left_of m a)
      | false ↦ refl
    ]

last_part : (x y z : Bool) → (x && (y && z)) ≡ true → z ≡ true
last_part x y z all = grind (arith, nat_tests)

pub waits_in : (r : Option Running) (m : Machine) (o : Option Archive) (space page : ℕ) → IsRunning r m o → is_page_in (space, page) (waiting_of m o) ≡ true → archives_space space o ≡ true
waits_in r m None space page is there = absurd (let never : false ≡ true = there in cc)
waits_in None m (Some a) space page is there = absurd is
waits_in (Some r) m (Some a) space page is there = left_in r m a space page is (last_part (is_none a.broken) (nat_lt a.cut (stamp_in m space page)) (is_page_in (space, page) (left_of m a)) (sym (waits_is m a space page) ∙ there))

waiting_sorted : (r : Option Running) (m : Machine) (o : Option Archive) → IsRunning r m o → Sorted (waiting_of m o)
waiting_sorted r m None is = tt
waiting_sorted None m (Some a) is = absurd is
waiting_sorted (Some r) m (Some a) is =
    elim (is_none a.broken) as (λ b. Sorted (if b then waiting m a else [])) [
      | true ↦ sorted_kept (λ (p : ℕ × ℕ). nat_lt a.cut (stamp_in m p.0 p.1)) (left_of m a) (from_place (left_of m a) r.cursor.next is.follows.ahead)
      | false ↦ tt
    ]

some_waits : (m : Machine) (o : Option Archive) (space page : ℕ) → is_page_in (space, page) (waiting_of m o) ≡ true → (a : Archive) × (o ≡ Some a)
some_waits m None space page there = absurd (let never : false ≡ true = there in cc)
some_waits m (Some a) space page there = (a, refl)

-- ---- as many

-- what the number of images follows from
pub record Basis (l : List (Option Running)) (held : List Image) (m : Machine) : Type 0 where
  pub running : (k : ℕ) → 1 ≤ k → IsRunning (running_of l k) m (archive_of m k)
  pub ascend : Ascend held
  pub images : AreWaiting held m
  pub apart : Apart m

pub basis : (l : List (Option Running)) (b : Captures) (m : Machine) → ShowsArchives l b m → Basis l b.held m
basis l b m s = record { running = s.running; ascend = s.ascend; images = s.images; apart = s.apart }

-- no page of an archive's space waits for another
pub waits_alone : (l : List (Option Running)) (m : Machine) → ((k : ℕ) → 1 ≤ k → IsRunning (running_of l k) m (archive_of m k)) → Apart m
    → (j k space page : ℕ) → 1 ≤ j → 1 ≤ k → archives_space space (archive_of m k) ≡ true → waits m k space page ≡ false → waits m j space page ≡ false
waits_alone l m running apart j k space page from_j from_k has not_here = go (waits m j space page) refl
  where
    go : (b : Bool) → waits m j space page ≡ b → waits m j space page ≡ false
    go false is = is
    go true is =
        let same : j ≡ k = apart j k space from_j from_k (waits_in (running_of l j) m (archive_of m j) space page (running j from_j) is) has in
        ap (λ (i : ℕ). waits m i space page) same ∙ not_here

-- the images of an archive's spaces are those of the pages that wait for it
pub of_archiver : (l : List (Option Running)) (held : List Image) (m : Machine) → Basis l held m → (k : ℕ) → 1 ≤ k
    → places (filter (λ (i : Image). archives_space i.space (archive_of m k)) held) ≡ waiting_of m (archive_of m k)
of_archiver l held m s k from_k =
    same_members (places (filter (λ (i : Image). archives_space i.space (archive_of m k)) held)) (waiting_of m (archive_of m k))
    (subst Sorted (sym kept) (sorted_kept (λ (p : ℕ × ℕ). archives_space p.0 (archive_of m k)) (places held) (places_sorted held s.ascend)))
    (waiting_sorted (running_of l k) m (archive_of m k) (s.running k from_k))
    (λ q. ap (λ (pages : List (ℕ × ℕ)). is_page_in q pages) kept ∙ kept_in (λ (p : ℕ × ℕ). archives_space p.0 (archive_of m k)) q (places held) ∙ ap (λ (b : Bool). archives_space q.0 (archive_of m k) && b) (in_places q held) ∙ both q.0 q.1 (waits m k q.0 q.1) refl)
  where
    kept : places (filter (λ (i : Image). archives_space i.space (archive_of m k)) held) ≡ filter (λ (p : ℕ × ℕ). archives_space p.0 (archive_of m k)) (places held)
    kept = places_kept (λ s. archives_space s (archive_of m k)) held

    not_there : (space page : ℕ) → waits m k space page ≡ false → (b : Bool) → archives_space space (archive_of m k) ≡ b → (archives_space space (archive_of m k) && is_some (image_of held space page)) ≡ false
    not_there space page none false is = ap (λ (b : Bool). b && is_some (image_of held space page)) is
    not_there space page none true is =
        ap (λ (b : Bool). b && is_some (image_of held space page)) is
        ∙ ap (λ (o : Option (List ℕ)). is_some o) (s.images.none space page (λ j from_j. waits_alone l m s.running s.apart j k space page from_j from_k is none))

    both : (space page : ℕ) (b : Bool) → waits m k space page ≡ b → (archives_space space (archive_of m k) && is_some (image_of held space page)) ≡ waits m k space page
    both space page true there =
        let a = some_waits m (archive_of m k) space page there in
        ap (λ (b : Bool). b && is_some (image_of held space page)) (waits_in (running_of l k) m (archive_of m k) space page (s.running k from_k) there)
        ∙ ap (λ (o : Option (List ℕ)). is_some o) (s.images.there k a.0 space page from_k a.1 there)
        ∙ sym there
    both space page false none = not_there space page none (archives_space space (archive_of m k)) refl ∙ sym none

at_index : (m : Machine) (i : ℕ) → archive_of m (i + 1) ≡ slice_index_or m.archives i None
at_index m i = ap (λ (n : ℕ). slice_index_or m.archives n None) (let e : i + 1 - 1 ≡ i = omega arith in e)

of_index : (l : List (Option Running)) (held : List Image) (m : Machine) → Basis l held m → (i : ℕ)
    → length (waiting_of m (slice_index_or m.archives i None)) ≡ length (filter (λ (j : Image). archives_space j.space (slice_index_or m.archives i None)) held)
of_index l held m s i =
    subst (λ (o : Option Archive). length (waiting_of m o) ≡ length (filter (λ (j : Image). archives_space j.space o) held)) (at_index m i)
    (sym (ap (λ (pages : List (ℕ × ℕ)). length pages) (of_archiver l held m s (i + 1) (omega arith))) ∙ length-map (filter (λ (j : Image). archives_space j.space (archive_of m (i + 1))) held) place_of)

-- each image is of one archive's space
of_one : (l : List (Option Running)) (held : List Image) (m : Machine) → Basis l held m → (space page : ℕ) → is_some (image_of held space page) ≡ true
    → sum_by (λ o. one_of (archives_space space o)) m.archives ≡ 1
of_one l held m s space page some = go (one_or_none (λ o. is_page_in (space, page) (waiting_of m o)) refl m.archives)
  where
    has : (i : ℕ) → archives_space space (slice_index_or m.archives i None) ≡ true → archives_space space (archive_of m (i + 1)) ≡ true
    has i there = subst (λ (o : Option Archive). archives_space space o ≡ true) (sym (at_index m i)) there

    go : ((k : ℕ) × (is_page_in (space, page) (waiting_of m (slice_index_or m.archives k None)) ≡ true)) ⊎ ((k : ℕ) → is_page_in (space, page) (waiting_of m (slice_index_or m.archives k None)) ≡ false)
        → sum_by (λ o. one_of (archives_space space o)) m.archives ≡ 1
    go (inl e) =
        let there : archives_space space (slice_index_or m.archives e.0 None) ≡ true =
        subst (λ (o : Option Archive). archives_space space o ≡ true) (at_index m e.0)
        (waits_in (running_of l (e.0 + 1)) m (archive_of m (e.0 + 1)) space page (s.running (e.0 + 1) (omega arith)) (subst (λ (o : Option Archive). is_page_in (space, page) (waiting_of m o) ≡ true) (sym (at_index m e.0)) e.1)) in
        one_alone (archives_space space) refl m.archives e.0 there
        (λ j also. let same : j + 1 ≡ e.0 + 1 = s.apart (j + 1) (e.0 + 1) space (omega arith) (omega arith) (has j also) (has e.0 there) in omega (arith, same))
    go (inr never) =
        let gone : image_of held space page ≡ None = s.images.none space page (λ k from_k. never (k - 1)) in
        absurd (cc (gone, some))

or_true : (b : Bool) → (b || true) ≡ true
or_true true = refl
or_true false = refl

-- what holds of the members holds of all
each : (P : Image → Type 0) (xs : List Image) → ((i : Image) → is_page_in (place_of i) (places xs) ≡ true → P i) → AllByRecursion P xs
each P [] one = tt
each P (i ∷ xs) one = (
  one i (in_first (place_of i) (places xs)),
  each P xs (λ j there. one j (ap (λ (b : Bool). same_page (place_of j) (place_of i) || b) there ∙ or_true (same_page (place_of j) (place_of i)))),
)

pub counted : (l : List (Option Running)) (held : List Image) (m : Machine) → Basis l held m → length held ≡ images_held m
counted l held m s =
    sym (all_together (λ (o : Option Archive) (i : Image). archives_space i.space o) m.archives held (each (λ (i : Image). sum_by (λ o. one_of (archives_space i.space o)) m.archives ≡ 1) held (λ i there. of_one l held m s i.space i.page (sym (in_places (place_of i) held) ∙ there))))
    ∙ sym (sum_same (λ o. length (waiting_of m o)) (λ o. length (filter (λ (i : Image). archives_space i.space o) held)) m.archives (of_index l held m s))

-- ---- none runs

pub none_shown : (m : Machine) → m.archives ≡ replicate 4 None → HasShortSpaces (config_of m) → ((space page : ℕ) → (start_page m.work.start space page).stamp ≤ m.work.start.last)
    → ShowsArchives none_running (no_captures (config_of m).image_limit) m
none_shown m none short stamps = record {
  four = refl;
  archivers = ap (λ (l : List (Option Archive)). length l) none;
  running = s.running;
  limit = refl;
  ascend = tt;
  images = s.images;
  count = counted none_running [] m s;
  apart = s.apart;
  short = short;
  stamps = stamps;
}
  where
    none_at : (k : ℕ) → archive_of m k ≡ None
    none_at k = ap (λ (l : List (Option Archive)). slice_index_or l (k - 1) None) none ∙ of_equal 4 (k - 1) None

    s : Basis none_running [] m
    s = record {
      running = λ k from.
          subst (λ (o : Option Archive). IsRunning (running_of none_running k) m o) (sym (none_at k)) (subst (λ (r : Option Running). IsRunning r m None) (sym (of_equal 4 (k - 1) None)) tt);
      ascend = tt;
      images = record {
        there = λ k a space page from is waits. absurd (cc (none_at k, is));
        none = λ space page never. refl;
      };
      apart = λ j k space from_j from_k there_j there_k. absurd (cc (none_at j, there_j));
    }

pub none_formatted : (c : Config) → HasShortSpaces c → ShowsArchives none_running (no_captures c.image_limit) (formatted c)
none_formatted c short =
    none_shown (formatted c) refl short
    (λ space page. let blank_there : (start_page (formatted c).work.start space page).stamp ≡ 0 = ap (λ (p : Page). p.stamp) (all_blank c (range_with_len 0 (length c.spaces)) space page) in omega (arith, blank_there))
