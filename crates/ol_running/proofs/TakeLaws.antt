-- What the store finds to be taken first is the first page that is left.
use Rattle.std.specs.Prelude.{Bool, List, None, Option, Some, [], false, if◌then◌else◌, is_none, length, nat_le, nat_lt, not, refl, sum, true, ℕ, ◌&&◌, ◌-◌, ◌∷◌, ◌≡◌, ◌≤◌}
use Rattle.std.proofs.Common.{ap, arith, subst, sym, ◌∙◌}
use Rattle.std.proofs.lemmas.Bool.{le-leb, ltb-false, ltb-true}
use Rattle.std.proofs.lemmas.Bool.Decides.{nat_tests}
use Rattle.std.proofs.lemmas.List.{get_or_past}
use Rattle.std.proofs.lemmas.Option.{same_Some}
use Rattle.ol_values.specs.Config.{Config, SpaceConfig, area_pages, data_pages, has_page, unnamed}
use Rattle.ol_values.specs.Image.{page_bytes}
use Rattle.ol_values.specs.Pages.{Page}
use Rattle.ol_model.specs.Machine.{Archive, Machine, archive_of, archives_space, config_of, last_of, page_upto, stamp_in}
use Rattle.ol_model.specs.Steps.{is_page_in, same_page}
use Rattle.ol_model.specs.Waiting.{left_of, waiting_of}
use Rattle.ol_before.specs.Images.{Captures, image_of}
use Rattle.ol_cursor.specs.Order.{archives, is_wanted, precedes}
use Rattle.ol_cursor.proofs.FollowLaws.{may_advance}
use Rattle.ol_cursor.proofs.WantLaws.{image_is, left_is}
use Rattle.ol_store.specs.Archives.{AreUp, IsFirstTaken, NoneLeft, captured_or_now, image_at_cut}
use Rattle.ol_store.specs.Pages.{Pages}
use Rattle.ol_running.specs.declared.running.Running.{Running}
use Rattle.ol_running.specs.Running.{IsArchive, ShowsArchives, image_at, waits}
use Rattle.ol_running.specs.Taking.{ShowsPages}
use Rattle.ol_running.proofs.KeptLaws.{page_at_cut, stamp_of_page}
use Rattle.ol_running.proofs.PlaceLaws.{Sorted, from_place, in_first, in_later, in_rest, is_same}
use Rattle.ol_running.proofs.ShowLaws.{left_in, waits_alone, waits_is}

-- ---- pages of the configuration

none_less : (n : ℕ) → 0 - n ≡ 0
none_less n = omega arith

pub page_there : (c : Config) (space page : ℕ) → nat_lt page (data_pages c space) ≡ true → has_page c space page ≡ true
page_there c space page there = go (nat_lt space (length c.spaces)) refl
  where
    none : length c.spaces ≤ space → data_pages c space ≡ 0
    none out = ap (λ (s : SpaceConfig). sum s.chunks - area_pages c space) (get_or_past c.spaces space unnamed out) ∙ none_less (area_pages c space)

    go : (b : Bool) → nat_lt space (length c.spaces) ≡ b → (nat_lt space (length c.spaces) && nat_lt page (data_pages c space)) ≡ true
    go true is = ap (λ (b : Bool). b && nat_lt page (data_pages c space)) is ∙ there
    go false is = absurd (omega (arith, ltb-true page (data_pages c space) there, none (ltb-false space (length c.spaces) is)))

first_part : (x y : Bool) → (x && y) ≡ true → x ≡ true
first_part x y both = grind (arith, nat_tests)

second_part : (x y : Bool) → (x && y) ≡ true → y ≡ true
second_part x y both = grind (arith, nat_tests)

left_there : (r : Running) (m : Machine) (a : Archive) (space page : ℕ) → IsArchive r m a → is_page_in (space, page) (left_of m a) ≡ true → has_page (config_of m) space page ≡ true
left_there r m a space page is there =
    page_there (config_of m) space page
    (first_part (nat_lt page (data_pages (config_of m) space)) _ (left_is r.cursor m a space page is.follows is.behind ∙ there))

-- ---- what is taken of a page

not_ahead : (w p : Bool) → p ≡ false → (w && not p) ≡ false → w ≡ false
not_ahead w p ahead none = grind (arith, nat_tests)

abbrev Taken : Machine → Archive → ℕ → ℕ → Bool → Option (List ℕ)
Taken m a space page left = if left then Some (image_at m a space page) else None

-- what the archive takes of a page that has not passed: its image at the cut, where it is left
pub taken_is : (l : List (Option Running)) (b : Captures) (m : Machine) (k : ℕ) (r : Running) (a : Archive) (v : Pages) → 1 ≤ k → ShowsArchives l b m → archive_of m k ≡ Some a → IsArchive r m a → a.broken ≡ None
    → ShowsPages v m → AreUp r.cursor v → (space page : ℕ) → has_page (config_of m) space page ≡ true → precedes (space, page) r.cursor.next ≡ false
    → image_at_cut r.cursor b v space page ≡ Taken m a space page (is_page_in (space, page) (left_of m a))
taken_is l b m k r a v from s at is whole pages up space page has ahead = by_space (archives r.cursor space) refl
  where
    left : Bool
    left = is_page_in (space, page) (left_of m a)

    none_held : waits m k space page ≡ false → archives r.cursor space ≡ true → image_of b.held space page ≡ None
    none_held none own =
        s.images.none space page
        (λ j from_j. waits_alone l m s.running s.apart j k space page from_j from (ap (λ (o : Option Archive). archives_space space o) at ∙ sym (is.follows.of_it.spaces space) ∙ own) none)

    waits_here : waits m k space page ≡ (nat_lt a.cut (stamp_in m space page) && left)
    waits_here =
        ap (λ (o : Option Archive). is_page_in (space, page) (waiting_of m o)) at
        ∙ waits_is m a space page
        ∙ ap (λ (o : Option ℕ). is_none o && (nat_lt a.cut (stamp_in m space page) && left)) whole

    -- by its stamp now it is wanted where it is left and was not changed since
    wanted : (is_wanted r.cursor space (stamp_in m space page) && not (precedes (space, page) r.cursor.next)) ≡ (left && nat_le (stamp_in m space page) a.cut)
    wanted =
        image_is r.cursor m a space page is.follows is.behind whole (ltb-true page (data_pages (config_of m) space) (second_part (nat_lt space (length (config_of m).spaces)) (nat_lt page (data_pages (config_of m) space)) has))
        ∙ ap (λ (o : Option ℕ). is_none o && (left && nat_le (stamp_in m space page) a.cut)) whole

    now_is : archives r.cursor space ≡ true → v.now space page ≡ page_upto m (last_of m) space page
    now_is own = pages space page (up space own)

    -- no image is held: the page as it is now, where it is wanted by its stamp
    by_stamp : archives r.cursor space ≡ true → waits m k space page ≡ false → (w : Bool) → left ≡ w
        → captured_or_now (image_of b.held space page) r.cursor v space page ≡ Taken m a space page left
    by_stamp own none false gone =
        let not_wanted : is_wanted r.cursor space (stamp_in m space page) ≡ false =
        not_ahead (is_wanted r.cursor space (stamp_in m space page)) (precedes (space, page) r.cursor.next) ahead (wanted ∙ ap (λ (b : Bool). b && nat_le (stamp_in m space page) a.cut) gone) in
        ap (λ (o : Option (List ℕ)). captured_or_now o r.cursor v space page) (none_held none own)
        ∙ ap (λ (p : Page). if is_wanted r.cursor space p.stamp then Some (page_bytes p) else None) (now_is own)
        ∙ ap (λ (n : ℕ). if is_wanted r.cursor space n then Some (page_bytes (page_upto m (last_of m) space page)) else None) (stamp_of_page m space page)
        ∙ ap (λ (b : Bool). if b then Some (page_bytes (page_upto m (last_of m) space page)) else None) not_wanted
        ∙ sym (ap (λ (b : Bool). Taken m a space page b) gone)
    by_stamp own none true there =
        let low : stamp_in m space page ≤ a.cut =
        ltb-false a.cut (stamp_in m space page) (changed (nat_lt a.cut (stamp_in m space page)) refl) in
        let is_low : nat_le (stamp_in m space page) a.cut ≡ true = le-leb (stamp_in m space page) a.cut low in
        let is_wanted_now : is_wanted r.cursor space (stamp_in m space page) ≡ true =
        first_part (is_wanted r.cursor space (stamp_in m space page)) (not (precedes (space, page) r.cursor.next)) (wanted ∙ ap (λ (b : Bool). b && nat_le (stamp_in m space page) a.cut) there ∙ is_low) in
        ap (λ (o : Option (List ℕ)). captured_or_now o r.cursor v space page) (none_held none own)
        ∙ ap (λ (p : Page). if is_wanted r.cursor space p.stamp then Some (page_bytes p) else None) (now_is own)
        ∙ ap (λ (n : ℕ). if is_wanted r.cursor space n then Some (page_bytes (page_upto m (last_of m) space page)) else None) (stamp_of_page m space page)
        ∙ ap (λ (b : Bool). if b then Some (page_bytes (page_upto m (last_of m) space page)) else None) is_wanted_now
        ∙ ap (λ (p : Page). Some (page_bytes p)) (page_at_cut m a.cut space page is.behind.last is.cut low)
        ∙ sym (ap (λ (b : Bool). Taken m a space page b) there)
      where
        changed : (c : Bool) → nat_lt a.cut (stamp_in m space page) ≡ c → nat_lt a.cut (stamp_in m space page) ≡ false
        changed false kept = kept
        changed true later = absurd (cc (ap (λ (b : Bool). b && left) later ∙ there, sym waits_here ∙ none))

    by_image : archives r.cursor space ≡ true → (w : Bool) → waits m k space page ≡ w → captured_or_now (image_of b.held space page) r.cursor v space page ≡ Taken m a space page left
    by_image own true there =
        ap (λ (o : Option (List ℕ)). captured_or_now o r.cursor v space page) (s.images.there k a space page from at there)
        ∙ sym (ap (λ (b : Bool). Taken m a space page b) (second_part (nat_lt a.cut (stamp_in m space page)) left (sym waits_here ∙ there)))
    by_image own false none = by_stamp own none left refl

    not_left : archives r.cursor space ≡ false → (w : Bool) → left ≡ w → left ≡ false
    not_left out false gone = gone
    not_left out true there = absurd (cc (is.follows.of_it.spaces space, left_in r m a space page is there, out))

    by_space : (o : Bool) → archives r.cursor space ≡ o → (if archives r.cursor space then captured_or_now (image_of b.held space page) r.cursor v space page else None) ≡ Taken m a space page left
    by_space true own = ap (λ (o : Bool). if o then captured_or_now (image_of b.held space page) r.cursor v space page else None) own ∙ by_image own (waits m k space page) refl
    by_space false out =
        ap (λ (o : Bool). if o then captured_or_now (image_of b.held space page) r.cursor v space page else None) out
        ∙ sym (ap (λ (b : Bool). Taken m a space page b) (not_left out left refl))

-- ---- the first of them

-- what is wanted of a running archive that is not broken
pub record Takes (l : List (Option Running)) (b : Captures) (m : Machine) (k : ℕ) (r : Running) (a : Archive) (v : Pages) : Type 0 where
  pub from : 1 ≤ k
  pub shows : ShowsArchives l b m
  pub at : archive_of m k ≡ Some a
  pub is : IsArchive r m a
  pub whole : a.broken ≡ None
  pub pages : ShowsPages v m
  pub up : AreUp r.cursor v

takes : (l : List (Option Running)) (b : Captures) (m : Machine) (k : ℕ) (r : Running) (a : Archive) (v : Pages) → Takes l b m k r a v → (space page : ℕ) → has_page (config_of m) space page ≡ true → precedes (space, page) r.cursor.next ≡ false
    → image_at_cut r.cursor b v space page ≡ Taken m a space page (is_page_in (space, page) (left_of m a))
takes l b m k r a v t space page has ahead = taken_is l b m k r a v t.from t.shows t.at t.is t.whole t.pages t.up space page has ahead

-- a page that is left is ahead, there, and taken
left_taken : (l : List (Option Running)) (b : Captures) (m : Machine) (k : ℕ) (r : Running) (a : Archive) (v : Pages) → Takes l b m k r a v → (p : ℕ × ℕ) (rest : List (ℕ × ℕ)) → left_of m a ≡ p ∷ rest
    → (has_page (config_of m) p.0 p.1 ≡ true) × (precedes p r.cursor.next ≡ false) × (image_at_cut r.cursor b v p.0 p.1 ≡ Some (image_at m a p.0 p.1))
left_taken l b m k r a v t p rest left =
    let there : is_page_in p (left_of m a) ≡ true = ap (λ (pages : List (ℕ × ℕ)). is_page_in p pages) left ∙ in_first p rest in
    let has : has_page (config_of m) p.0 p.1 ≡ true = left_there r m a p.0 p.1 t.is there in
    let ahead : precedes p r.cursor.next ≡ false = (may_advance r.cursor m a p rest t.is.follows left).0 in
    (has, ahead, takes l b m k r a v t p.0 p.1 has ahead ∙ ap (λ (b : Bool). Taken m a p.0 p.1 b) there)

pub first_taken : (l : List (Option Running)) (b : Captures) (m : Machine) (k : ℕ) (r : Running) (a : Archive) (v : Pages) → Takes l b m k r a v → (place : ℕ × ℕ) (bytes : List ℕ) → IsFirstTaken (config_of m) r.cursor b v place bytes
    → (rest : List (ℕ × ℕ)) × (left_of m a ≡ place ∷ rest) × (bytes ≡ image_at m a place.0 place.1)
first_taken l b m k r a v t place bytes f = by_left (is_page_in place (left_of m a)) refl
  where
    given : Some bytes ≡ Taken m a place.0 place.1 (is_page_in place (left_of m a))
    given = sym f.image ∙ takes l b m k r a v t place.0 place.1 f.there f.ahead

    first : (pages : List (ℕ × ℕ)) → left_of m a ≡ pages → is_page_in place pages ≡ true → (rest : List (ℕ × ℕ)) × (left_of m a ≡ place ∷ rest)
    first [] left there = absurd (let never : false ≡ true = there in cc)
    first (p ∷ rest) left there = go (same_page place p) refl
      where
        go : (b : Bool) → same_page place p ≡ b → (rest : List (ℕ × ℕ)) × (left_of m a ≡ place ∷ rest)
        go true same = (rest, left ∙ ap (λ (q : ℕ × ℕ). q ∷ rest) (sym (is_same place p same)))
        go false other =
            let sorted : Sorted (p ∷ rest) = subst Sorted left (from_place (left_of m a) r.cursor.next t.is.follows.ahead) in
            let before : precedes p place ≡ true = in_later p place rest sorted.0 (in_rest place p rest other there) in
            let taken = left_taken l b m k r a v t p rest left in
            let none : image_at_cut r.cursor b v p.0 p.1 ≡ None = f.first p.0 p.1 taken.0 taken.1 before in
            absurd (cc (none, taken.2))

    by_left : (w : Bool) → is_page_in place (left_of m a) ≡ w → (rest : List (ℕ × ℕ)) × (left_of m a ≡ place ∷ rest) × (bytes ≡ image_at m a place.0 place.1)
    by_left true there =
        let rest = first (left_of m a) refl there in
        (rest.0, rest.1, same_Some bytes (image_at m a place.0 place.1) (given ∙ ap (λ (b : Bool). Taken m a place.0 place.1 b) there))
    by_left false gone = absurd (let never : Some bytes ≡ None = given ∙ ap (λ (b : Bool). Taken m a place.0 place.1 b) gone in cc)

pub none_taken : (l : List (Option Running)) (b : Captures) (m : Machine) (k : ℕ) (r : Running) (a : Archive) (v : Pages) → Takes l b m k r a v → NoneLeft (config_of m) r.cursor b v → left_of m a ≡ []
none_taken l b m k r a v t none = go (left_of m a) refl
  where
    go : (pages : List (ℕ × ℕ)) → left_of m a ≡ pages → left_of m a ≡ []
    go [] left = left
    go (p ∷ rest) left =
        let taken = left_taken l b m k r a v t p rest left in
        let never : image_at_cut r.cursor b v p.0 p.1 ≡ None = none p.0 p.1 taken.0 taken.1 in
        absurd (cc (never, taken.2))
