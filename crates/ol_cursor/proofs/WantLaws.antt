-- What a cursor wants by a page's stamp at the cut is what the archive holds.
use Rattle.std.specs.List.{AllByRecursion, list_any, range_with_len}
use Rattle.std.specs.Prelude.{Bool, List, None, Option, [], false, filter, flat_map, if◌then◌else◌, is_none, not, length, map, nat_le, nat_lt, slice_index, suc, take, true, zero, ℕ, ◌&&◌, ◌+◌, ◌-◌, ◌<◌, ◌==◌, ◌∷◌, ◌||◌, ◌≡◌, ◌≤◌, ◌⊎◌, refl}
use Rattle.std.proofs.Common.{ap, arith, inl, inr, sym, ◌∙◌}
use Rattle.std.proofs.lemmas.Bool.Decides.{nat_tests}
use Rattle.std.proofs.lemmas.Bool.{lt-ltb}
use Rattle.std.proofs.lemmas.List.{length-take, take-append-drop}
use Rattle.std.proofs.lemmas.List.Folds.{list_any-append}
use Rattle.std.proofs.lemmas.Map.Views.{any-filter_same}
use Rattle.ol_values.specs.declared.record.Record.{Record}
use Rattle.ol_values.specs.Blocks.{Saved}
use Rattle.ol_values.specs.Config.{data_pages}
use Rattle.ol_rules.specs.Journal.{stamp_after, stamp_from, touches}
use Rattle.ol_rules.specs.Start.{start_page, upto}
use Rattle.ol_model.specs.Machine.{Archive, Machine, config_of, stamp_in, stamp_upto}
use Rattle.ol_model.specs.Steps.{is_page_in, same_page, wants_image}
use Rattle.ol_model.specs.Waiting.{changed_upto, left_of, pages_of}
use Rattle.ol_cursor.specs.declared.cursor.Cursor.{Cursor}
use Rattle.ol_cursor.specs.Following.{CutsBehind, Follows, IsOf}
use Rattle.ol_cursor.specs.Order.{archives, is_wanted, precedes}
use Rattle.ol_cursor.proofs.FollowLaws.{passed_is}
use Rattle.ol_cursor.proofs.PageLaws.{picked}

-- ---- a stamp at the cut is at most the cut

one_within : (stamp first most : ℕ) (r : Record) (space page : ℕ) → stamp ≤ most → first ≤ most → stamp_after space page stamp (first, r) ≤ most
one_within stamp first most r space page low here = elim (touches space page r) as (λ b. (if b then first else stamp) ≤ most) [ true ↦ here | false ↦ low ]

stamp_within : (records : List Record) (stamp first most space page : ℕ) → stamp ≤ most → first + length records ≤ most + 1 → stamp_from stamp first records space page ≤ most
stamp_within [] stamp first most space page low within = low
stamp_within (r ∷ records) stamp first most space page low within =
    stamp_within records (stamp_after space page stamp (first, r)) (first + 1) most space page (one_within stamp first most r space page low (omega (arith, within))) (omega (arith, within))

pub cut_within : (m : Machine) (a : Archive) (space page : ℕ) → CutsBehind m a → stamp_upto m a.cut space page ≤ a.cut
cut_within m a space page behind =
    stamp_within (upto m.work.start m.work.records a.cut) (start_page m.work.start space page).stamp (m.work.start.last + 1) a.cut space page
    (omega (arith, behind.last, behind.stamps space page))
    (omega (arith, behind.last, length-take (a.cut - m.work.start.last) m.work.records))

-- ---- which pages an archive has

in_range : (q : ℕ × ℕ) (space first count : ℕ) → list_any (λ k. same_page q (space, k)) (range_with_len first count) ≡ ((q.0 == space) && (nat_le first q.1 && nat_lt q.1 (first + count)))
in_range q space first zero = grind (arith, nat_tests)
in_range q space first (suc count) =
    let more = in_range q space (first + 1) count in
    ap (λ (b : Bool). same_page q (space, first) || b) more ∙ grind (arith, nat_tests)

in_map : (q : ℕ × ℕ) (space : ℕ) (numbers : List ℕ) → is_page_in q (map (λ p. let r : ℕ × ℕ = (space, p) in r) numbers) ≡ list_any (λ k. same_page q (space, k)) numbers
in_map q space [] = refl
in_map q space (n ∷ numbers) = ap (λ (b : Bool). same_page q (space, n) || b) (in_map q space numbers)

same_test : (q : ℕ × ℕ) (space : ℕ) (test : ℕ → Bool) (k : ℕ) → same_page q (space, k) ≡ true → test k ≡ test q.1
same_test q space test k same = let is : k ≡ q.1 = grind (arith, nat_tests) in ap test is

in_picked : (q : ℕ × ℕ) (space : ℕ) (test : ℕ → Bool) (count : ℕ) → is_page_in q (picked space test 0 count) ≡ (test q.1 && ((q.0 == space) && nat_lt q.1 count))
in_picked q space test count =
    in_map q space (filter test (range_with_len 0 count))
    ∙ any-filter_same (λ k. same_page q (space, k)) test (test q.1) (same_test q space test) (range_with_len 0 count)
    ∙ ap (λ (b : Bool). test q.1 && b) (in_range q space 0 count ∙ grind (arith, nat_tests))

-- one space more: where it is the page's own, its base and its pages are that space's
joined : (data_of stamp_of base_of : ℕ → ℕ) (own page space base : ℕ) (more : Bool) → base_of space ≡ base
    → ((nat_lt base (stamp_of space) && ((own == space) && nat_lt page (data_of space))) || (nat_lt page (data_of own) && (more && nat_lt (base_of own) (stamp_of own))))
    ≡ (nat_lt page (data_of own) && (((space == own) || more) && nat_lt (base_of own) (stamp_of own)))
joined data_of stamp_of base_of own page space base more is = grind (arith, nat_tests)

in_spaces : (c : Cursor) (m : Machine) (position : ℕ) (q : ℕ × ℕ) (spaces : List Saved) → AllByRecursion (λ (s : Saved). slice_index c.bases s.space ≡ s.base) spaces
    → is_page_in q (flat_map (changed_upto m position) spaces)
    ≡ (nat_lt q.1 (data_pages (config_of m) q.0) && (list_any (λ (s : Saved). s.space == q.0) spaces && nat_lt (slice_index c.bases q.0) (stamp_upto m position q.0 q.1)))
in_spaces c m position q [] bases = elim (nat_lt q.1 (data_pages (config_of m) q.0)) as (λ b. false ≡ (b && (false && nat_lt (slice_index c.bases q.0) (stamp_upto m position q.0 q.1)))) [ true ↦ refl | false ↦ refl ]
in_spaces c m position q (s ∷ spaces) bases =
    let test : ℕ → Bool = λ p. nat_lt s.base (stamp_upto m position s.space p) in
    let count = data_pages (config_of m) s.space in
    let rest = flat_map (changed_upto m position) spaces in
    list_any-append (same_page q) (changed_upto m position s) rest
    ∙ ap (λ (b : Bool). b || is_page_in q rest) (in_picked q s.space test count)
    ∙ ap (λ (b : Bool). (test q.1 && ((q.0 == s.space) && nat_lt q.1 count)) || b) (in_spaces c m position q spaces bases.1)
    ∙ joined (λ n. data_pages (config_of m) n) (λ n. stamp_upto m position n q.1) (λ n. slice_index c.bases n) q.0 q.1 s.space s.base (list_any (λ (v : Saved). v.space == q.0) spaces) bases.0

cut_passes : (there taken : Bool) (stamp cut : ℕ) → stamp ≤ cut → (there && taken) ≡ (there && (taken && nat_le stamp cut))
cut_passes there taken stamp cut within = grind (arith, nat_tests)

pub wants_is : (c : Cursor) (m : Machine) (a : Archive) (space page : ℕ) → IsOf c a → CutsBehind m a
    → (nat_lt page (data_pages (config_of m) space) && is_wanted c space (stamp_upto m a.cut space page)) ≡ is_page_in (space, page) (pages_of m a)
unfolding pages_of
wants_is c m a space page of_it behind =
    let stamp = stamp_upto m a.cut space page in
    let there = nat_lt page (data_pages (config_of m) space) in
    let above = nat_lt (slice_index c.bases space) stamp in
    sym (in_spaces c m a.cut (space, page) a.spaces of_it.bases
    ∙ ap (λ (b : Bool). there && b) (
    ap (λ (b : Bool). b && above) (sym (of_it.spaces space))
    ∙ cut_passes (archives c space) above stamp c.cut (omega (arith, cut_within m a space page behind, of_it.cut))))

-- ---- which have not passed

only_left : (whole left before : Bool) → (whole ≡ true → before ≡ not left) → (left ≡ true → whole ≡ true) → (whole && not before) ≡ left
only_left true left before there within = ap not (there refl) ∙ elim left as (λ b. not (not b) ≡ b) [ true ↦ refl | false ↦ refl ]
only_left false true before there within = within refl
only_left false false before there within = refl

grouped : (there taken open_ : Bool) → ((there && taken) && open_) ≡ (there && (taken && open_))
grouped there taken open_ = grind (arith, nat_tests)

left_within : (m : Machine) (a : Archive) (q : ℕ × ℕ) → is_page_in q (left_of m a) ≡ true → is_page_in q (pages_of m a) ≡ true
left_within m a q there =
    ap (λ (l : List (ℕ × ℕ)). is_page_in q l) (sym (take-append-drop a.passed (pages_of m a)))
    ∙ list_any-append (same_page q) (take a.passed (pages_of m a)) (left_of m a)
    ∙ ap (λ (b : Bool). is_page_in q (take a.passed (pages_of m a)) || b) there
    ∙ elim (is_page_in q (take a.passed (pages_of m a))) as (λ b. (b || true) ≡ true) [ true ↦ refl | false ↦ refl ]

pub left_is : (c : Cursor) (m : Machine) (a : Archive) (space page : ℕ) → Follows c m a → CutsBehind m a
    → (nat_lt page (data_pages (config_of m) space) && (is_wanted c space (stamp_upto m a.cut space page) && not (precedes (space, page) c.next))) ≡ is_page_in (space, page) (left_of m a)
left_is c m a space page f behind =
    let before = precedes (space, page) c.next in
    sym (grouped (nat_lt page (data_pages (config_of m) space)) (is_wanted c space (stamp_upto m a.cut space page)) (not before))
    ∙ ap (λ (b : Bool). b && not before) (wants_is c m a space page f.of_it behind)
    ∙ only_left (is_page_in (space, page) (pages_of m a)) (is_page_in (space, page) (left_of m a)) before (λ there. passed_is c m a (space, page) f there) (λ there. left_within m a (space, page) there)

-- ---- by its stamp now

-- records leave a page's stamp, or it becomes the position of one of them
kept_or : (records : List Record) (stamp first space page : ℕ) → (stamp_from stamp first records space page ≡ stamp) ⊎ (first ≤ stamp_from stamp first records space page)
kept_or [] stamp first space page = inl refl
kept_or (r ∷ records) stamp first space page = go (touches space page r) refl (kept_or records (stamp_after space page stamp (first, r)) (first + 1) space page)
  where
    after : ℕ
    after = stamp_after space page stamp (first, r)

    go : (b : Bool) → touches space page r ≡ b → (stamp_from after (first + 1) records space page ≡ after) ⊎ (first + 1 ≤ stamp_from after (first + 1) records space page)
        → (stamp_from after (first + 1) records space page ≡ stamp) ⊎ (first ≤ stamp_from after (first + 1) records space page)
    go b is (inr later) = inr (omega (arith, later))
    go true is (inl same) = let here : after ≡ first = ap (λ (b : Bool). if b then first else stamp) is in inr (omega (arith, same, here))
    go false is (inl same) = inl (same ∙ ap (λ (b : Bool). if b then first else stamp) is)

-- a page's stamp is as behind the first records, or the position of a later one
split : (records : List Record) (k stamp first space page : ℕ)
    → (stamp_from stamp first records space page ≡ stamp_from stamp first (take k records) space page) ⊎ (first + k ≤ stamp_from stamp first records space page)
split [] zero stamp first space page = inl refl
split [] (suc k) stamp first space page = inl refl
split (r ∷ records) zero stamp first space page = go (kept_or (r ∷ records) stamp first space page)
  where
    go : (stamp_from stamp first (r ∷ records) space page ≡ stamp) ⊎ (first ≤ stamp_from stamp first (r ∷ records) space page)
        → (stamp_from stamp first (r ∷ records) space page ≡ stamp) ⊎ (first + 0 ≤ stamp_from stamp first (r ∷ records) space page)
    go (inl same) = inl same
    go (inr later) = inr (omega (arith, later))
split (r ∷ records) (suc k) stamp first space page = go (split records k (stamp_after space page stamp (first, r)) (first + 1) space page)
  where
    after : ℕ
    after = stamp_after space page stamp (first, r)

    go : (stamp_from after (first + 1) records space page ≡ stamp_from after (first + 1) (take k records) space page) ⊎ (first + 1 + k ≤ stamp_from after (first + 1) records space page)
        → (stamp_from after (first + 1) records space page ≡ stamp_from after (first + 1) (take k records) space page) ⊎ (first + suc k ≤ stamp_from after (first + 1) records space page)
    go (inl same) = inl same
    go (inr later) = inr (omega (arith, later))

-- a stamp that is not above the cut is that at the cut
stamp_at_cut : (m : Machine) (a : Archive) (space page : ℕ) → CutsBehind m a → stamp_in m space page ≤ a.cut → stamp_in m space page ≡ stamp_upto m a.cut space page
stamp_at_cut m a space page behind within = go (split m.work.records (a.cut - m.work.start.last) (start_page m.work.start space page).stamp (m.work.start.last + 1) space page)
  where
    go : (stamp_in m space page ≡ stamp_upto m a.cut space page) ⊎ (m.work.start.last + 1 + (a.cut - m.work.start.last) ≤ stamp_in m space page) → stamp_in m space page ≡ stamp_upto m a.cut space page
    go (inl same) = same
    go (inr later) = absurd (omega (arith, later, within, behind.last))

le_from : {a b : ℕ} → nat_le a b ≡ true → a ≤ b
le_from {a} {b} is = grind (arith, nat_tests)

-- one test by the cut on both sides
low_stamp : (there wanted ahead left low : Bool) → there ≡ true → low ≡ true → (there && (wanted && ahead)) ≡ left → (wanted && ahead) ≡ (left && low)
low_stamp there wanted ahead left low is within same = grind (arith, nat_tests)

high_stamp : (archived above low ahead left : Bool) → low ≡ false → ((archived && (above && low)) && ahead) ≡ (left && low)
high_stamp archived above low ahead left high = grind (arith, nat_tests)

pub image_is : (c : Cursor) (m : Machine) (a : Archive) (space page : ℕ) → Follows c m a → CutsBehind m a → a.broken ≡ None → page < data_pages (config_of m) space
    → (is_wanted c space (stamp_in m space page) && not (precedes (space, page) c.next)) ≡ wants_image m (space, page) a
image_is c m a space page f behind whole within = go (nat_le (stamp_in m space page) a.cut) refl ∙ sym (ap (λ (b : Option ℕ). is_none b && (left && nat_le (stamp_in m space page) a.cut)) whole)
  where
    left : Bool
    left = is_page_in (space, page) (left_of m a)

    ahead : Bool
    ahead = not (precedes (space, page) c.next)

    go : (b : Bool) → nat_le (stamp_in m space page) a.cut ≡ b → (is_wanted c space (stamp_in m space page) && ahead) ≡ (left && nat_le (stamp_in m space page) a.cut)
    go true low =
        let same : stamp_in m space page ≡ stamp_upto m a.cut space page = stamp_at_cut m a space page behind (le_from low) in
        ap (λ (n : ℕ). is_wanted c space n && ahead) same
        ∙ low_stamp (nat_lt page (data_pages (config_of m) space)) (is_wanted c space (stamp_upto m a.cut space page)) ahead left (nat_le (stamp_in m space page) a.cut) (lt-ltb page (data_pages (config_of m) space) within) low (left_is c m a space page f behind)
    go false high =
        ap (λ (n : ℕ). (archives c space && (nat_lt (slice_index c.bases space) (stamp_in m space page) && nat_le (stamp_in m space page) n)) && ahead) f.of_it.cut
        ∙ high_stamp (archives c space) (nat_lt (slice_index c.bases space) (stamp_in m space page)) (nat_le (stamp_in m space page) a.cut) ahead left high
