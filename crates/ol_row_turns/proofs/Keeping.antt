-- The archives and images behind a change, and a page that came into memory with room for its image.
use Rattle.std.specs.Prelude.{Bool, List, [], None, Option, Some, false, if◌then◌else◌, length, nat_lt, slice_index_or, slice_set, suc, true, zero, ℕ, ◌∷◌, ◌+◌, ◌-◌, ◌<◌, ◌≡◌, ◌≤◌}
use Rattle.std.specs.List.{AllByRecursion, position, position_or_len}
use Rattle.std.proofs.Common.{ap, arith, refl, subst, sym, ◌∙◌}
use Rattle.std.proofs.lemmas.Bool.{and_parts}
use Rattle.std.proofs.lemmas.Bool.Decides.{nat_tests}
use Rattle.std.proofs.lemmas.List.Quantifiers.{position-Some}
use Rattle.ol_values.specs.declared.record.Record.{Record}
use Rattle.ol_values.specs.declared.record.Rid.{Rid}
use Rattle.ol_values.specs.Config.{Config, data_pages, has_page, has_place}
use Rattle.ol_values.specs.Image.{page_bytes}
use Rattle.ol_model.specs.Machine.{Machine, config_of, last_of, page_upto, stamp_in}
use Rattle.ol_model.specs.Steps.{change_row}
use Rattle.ol_before.specs.Images.{Ascend, Captures, Image, captured, image_of, without}
use Rattle.ol_running.specs.declared.running.Running.{Running}
use Rattle.ol_running.specs.Running.{AreWaiting, ChangesOnly, ShowsArchives, broken_by, is_of_archive, keeps_image, keeps_of, running_of, with_running}
use Rattle.ol_row_turns.specs.Images.{archives_behind, asked_of, broken_at, images_asked, images_behind, images_dropped, keeper}
use Rattle.ol_row_turns.specs.declared.images.Images.{Images}
use Rattle.ol_row_turns.specs.declared.images.Images.TheVariants.{Break, Capture, Stay}
use Rattle.ol_running.proofs.ChangeLaws.{broken_shown, captured_shown, image_of_now, kept_shown, none_held}

-- ---- the archive that wants an image

-- a test that fails on nothing, and on each item, fails at each index
fails_at : (l : List (Option Running)) (i : ℕ) (test : Option Running → Bool) → test None ≡ false → AllByRecursion (λ (r : Option Running). test r ≡ false) l → test (slice_index_or l i None) ≡ false
fails_at [] i test none all = none
fails_at (x ∷ l) zero test none (first, all) = first
fails_at (x ∷ l) (suc i) test none (first, all) = fails_at l i test none all

not_yet : (test : Option Running → Bool) (l : List (Option Running)) → length l ≤ position_or_len test l → AllByRecursion (λ (r : Option Running). test r ≡ false) l
not_yet test [] long = tt
not_yet test (x ∷ l) long = by_case (λ rest. not_yet test l rest) (test x) refl
  where
    by_case : (length l ≤ position_or_len test l → AllByRecursion (λ (r : Option Running). test r ≡ false) l) → (b : Bool) → test x ≡ b → (test x ≡ false) × AllByRecursion (λ (r : Option Running). test r ≡ false) l
    by_case others true e = absurd (let none : position_or_len test (x ∷ l) ≡ 0 = rw e refl in omega (arith, none, long))
    by_case others false e = (e, let one : position_or_len test (x ∷ l) ≡ 1 + position_or_len test l = rw e refl in others (omega (arith, one, long)))

not_found : (test : Option Running → Bool) (l : List (Option Running)) → position test l ≡ None → length l ≤ position_or_len test l
not_found test l is = by_case (nat_lt (position_or_len test l) (length l)) refl
  where
    by_case : (b : Bool) → nat_lt (position_or_len test l) (length l) ≡ b → length l ≤ position_or_len test l
    by_case true e = absurd (let some : position test l ≡ Some (position_or_len test l) = rw e refl in let clash : Some (position_or_len test l) ≡ None = sym some ∙ is in cc)
    by_case false e = grind (arith, nat_tests, e)

-- where no archive is found none keeps it
pub none_keeps : (l : List (Option Running)) (space page stamp k : ℕ) → keeper l space page stamp ≡ None → keeps_of (running_of l k) space page stamp ≡ false
none_keeps l space page stamp k is =
    let test : Option Running → Bool = λ (r : Option Running). keeps_of r space page stamp in
    fails_at l (k - 1) test refl (not_yet test l (not_found test l is))

-- ---- behind a change

-- a place that is there lies within its space
pub place_within : (c : Config) (rid : Rid) → has_place c rid ≡ true → rid.page < data_pages c rid.space
place_within c rid there =
    let page : has_page c rid.space rid.page ≡ true = (and_parts (has_page c rid.space rid.page) (nat_lt rid.slot 31) there).0 in
    let within : nat_lt rid.page (data_pages c rid.space) ≡ true = (and_parts (nat_lt rid.space (length c.spaces)) (nat_lt rid.page (data_pages c rid.space)) page).1 in
    grind (arith, nat_tests, within)

pub place_slot : (c : Config) (rid : Rid) → has_place c rid ≡ true → rid.slot ≤ 30
place_slot c rid there =
    let within : nat_lt rid.slot 31 ≡ true = (and_parts (has_page c rid.space rid.page) (nat_lt rid.slot 31) there).1 in
    grind (arith, nat_tests, within)

-- a machine's images and archives behind a change, where what is done is what was asked
pub changed_shown : (l : List (Option Running)) (b : Captures) (m : Machine) (n : ℕ) (x : Record) (rid : Rid) → length l ≡ 4 → ShowsArchives l b m → ChangesOnly x rid → rid.page < data_pages (config_of m) rid.space
    → ShowsArchives (archives_behind (images_asked l b rid.space rid.page (stamp_in m rid.space rid.page)) n l) (images_behind (images_asked l b rid.space rid.page (stamp_in m rid.space rid.page)) (image_of_now m rid) l b) (change_row n rid x m)
changed_shown l b m n x rid four s only within = by_keeper (keeper l rid.space rid.page stamp) refl
  where
    stamp : ℕ
    stamp = stamp_in m rid.space rid.page

    Shown : Images → Type 0
    Shown i = ShowsArchives (archives_behind i n l) (images_behind i (image_of_now m rid) l b) (change_row n rid x m)

    at : (place : ℕ) (r : Running) → slice_index_or l place None ≡ Some r → running_of l (place + 1) ≡ Some r
    at place r is = let back : place + 1 - 1 ≡ place = omega arith in ap (λ (i : ℕ). slice_index_or l i None) back ∙ is

    by_room : (place : ℕ) (r : Running) → place < 4 → slice_index_or l place None ≡ Some r → keeps_image r rid.space rid.page stamp ≡ true → (f : Bool) → nat_lt (length b.held) b.limit ≡ f → Shown (if f then Capture else Break place)
    by_room place r within_l is keeps true e = captured_shown l b m n x rid (place + 1) r (omega arith) s only within (at place r is) keeps (grind (arith, nat_tests, e))
    by_room place r within_l is keeps false e =
        let broken = broken_shown l b m n x rid (place + 1) r (omega arith) (omega (arith, within_l)) s only within (at place r is) keeps (grind (arith, nat_tests, e)) in
        let back : place + 1 - 1 ≡ place = omega arith in
        subst (λ (o : Option Running). ShowsArchives (broken_at n place o l) (images_dropped o b) (change_row n rid x m)) (sym is)
        (subst (λ (i : ℕ). ShowsArchives (slice_set l i (Some (broken_by n r))) (without (is_of_archive r.cursor) b) (change_row n rid x m)) back broken)

    by_running : (place : ℕ) → place < 4 → (o : Option Running) → slice_index_or l place None ≡ o → keeps_of o rid.space rid.page stamp ≡ true → Shown (asked_of b (image_of b.held rid.space rid.page) (Some place))
    by_running place within_l None is keeps = absurd (let c : false ≡ true = keeps in cc)
    by_running place within_l (Some r) is keeps =
        subst (λ (h : Option (List ℕ)). Shown (asked_of b h (Some place))) (sym (none_held l b m (place + 1) r rid.space rid.page (omega arith) s within (at place r is) keeps))
        (by_room place r within_l is keeps (nat_lt (length b.held) b.limit) refl)

    by_keeper : (o : Option ℕ) → keeper l rid.space rid.page stamp ≡ o → Shown (asked_of b (image_of b.held rid.space rid.page) o)
    by_keeper None e = kept_shown l b m n x rid s only within (λ k from. none_keeps l rid.space rid.page stamp k e)
    by_keeper (Some place) e = let p = position-Some (λ (r : Option Running). keeps_of r rid.space rid.page stamp) l place None e in by_running place (omega (arith, p.0, four)) (slice_index_or l place None) refl p.1

-- ---- memory that is made for an image

asked_same : (b c : Captures) (held : Option (List ℕ)) (place : Option ℕ) → c.held ≡ b.held → c.limit ≡ b.limit → asked_of c held place ≡ asked_of b held place
asked_same b c held None same limit = refl
asked_same b c (Some bytes) (Some place) same limit = refl
asked_same b c None (Some place) same limit =
    ap (λ (h : List Image). let i : Images = (if nat_lt (length h) c.limit then Capture else Break place) in i) same ∙ ap (λ (n : ℕ). let i : Images = (if nat_lt (length b.held) n then Capture else Break place) in i) limit

-- it asks the same
pub room_asks : (l : List (Option Running)) (b c : Captures) (space page stamp : ℕ) → c.held ≡ b.held → c.limit ≡ b.limit → images_asked l c space page stamp ≡ images_asked l b space page stamp
room_asks l b c space page stamp same limit =
    ap (λ (h : List Image). asked_of c (image_of h space page) (keeper l space page stamp)) same ∙ asked_same b c (image_of b.held space page) (keeper l space page stamp) same limit

-- and tells of the same machine
pub room_shown : (l : List (Option Running)) (b c : Captures) (m : Machine) → c.held ≡ b.held → c.limit ≡ b.limit → ShowsArchives l b m → ShowsArchives l c m
room_shown l b c m same limit s = record {
  four = s.four;
  archivers = s.archivers;
  running = s.running;
  limit = limit ∙ s.limit;
  ascend = subst (λ (h : List Image). Ascend h) (sym same) s.ascend;
  images = subst (λ (h : List Image). AreWaiting h m) (sym same) s.images;
  count = ap (λ (h : List Image). length h) same ∙ s.count;
  apart = s.apart;
  short = s.short;
  stamps = s.stamps;
}
