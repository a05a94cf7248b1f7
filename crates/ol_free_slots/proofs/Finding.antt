-- The least free slot of a space, found page by page.
use Rattle.std.specs.List.{range_with_len}
use Rattle.std.specs.Prelude.{Bool, None, Option, Some, cond, false, find, if◌then◌else◌, is_none, is_some, length, map, nat_lt, not, suc, true, zero, ℕ, ◌%◌, ◌&&◌, ◌*◌, ◌+◌, ◌/◌, ◌<◌, ◌==◌, ◌≡◌, ◌≤◌, ◌⊎◌}
use Rattle.std.proofs.Common.{ap, arith, inl, inr, refl, subst, sym, ⊎_elim, ◌∙◌}
use Rattle.std.proofs.lemmas.Bool.{and_parts, lt-ltb, ltb-true}
use Rattle.std.proofs.lemmas.Bool.Decides.{eqb_tells}
use Rattle.std.proofs.lemmas.List.{get_or-set_other, get_or-set_same, length-set}
use Rattle.ol_values.specs.declared.record.Rid.{Rid}
use Rattle.ol_values.specs.declared.row.Row.{Row}
use Rattle.ol_values.specs.Config.{Config, data_pages, has_page, has_place}
use Rattle.ol_values.specs.Pages.{rid_of}
use Rattle.ol_rules.specs.Locks.{is_locked}
use Rattle.ol_model.specs.Machine.{Machine, config_of, first_free, row_in, slots_of}
use Rattle.ol_turn_laws.proofs.TableLaws.{same_first_free}
use Rattle.ol_turn_laws.specs.Tables.{TellsSessions}
use Rattle.ol_free_slots.specs.declared.hints.Hints.{Hints}
use Rattle.ol_free_slots.specs.declared.look.Look.{Look}
use Rattle.ol_free_slots.specs.declared.look.Look.TheVariants.{Free, Full, Locked}
use Rattle.ol_free_slots.specs.Filled.{AreFilled, HasRisenFor, hint_of, with_hint, with_look}
use Rattle.ol_free_slots.specs.Slots.{AreTaken, HasEmpty, IsLeast, IsTold, Rows, Table, free_slot, is_free}
use Rattle.ol_free_slots.proofs.Filling.{raised}

-- ---- places

pub slot_small : (c : Config) (space page slot : ℕ) → has_place c (rid_of space page slot) ≡ true → slot < 31
slot_small c space page slot there = ltb-true slot 31 (and_parts (has_page c space page) (nat_lt slot 31) there).1

both : (a b : Bool) → a ≡ true → b ≡ true → (a && b) ≡ true
both a b e f = ap (λ x. x && b) e ∙ f

pub page_there : (c : Config) (space page : ℕ) → space < length c.spaces → page < data_pages c space → has_page c space page ≡ true
page_there c space page s p = both (nat_lt space (length c.spaces)) (nat_lt page (data_pages c space)) (lt-ltb _ _ s) (lt-ltb _ _ p)

pub place_there : (c : Config) (space page slot : ℕ) → has_page c space page ≡ true → slot < 31 → has_place c (rid_of space page slot) ≡ true
place_there c space page slot p s = both (has_page c space page) (nat_lt slot 31) p (lt-ltb _ _ s)

-- ---- the first of a range

find_none : (test : Rid → Bool) (f : ℕ → Rid) (a n : ℕ) → ((i : ℕ) → a ≤ i → i < a + n → test (f i) ≡ false) → find test (map f (range_with_len a n)) ≡ None
find_none test f a zero none = refl
find_none test f a (suc n) none =
    ap (λ b. cond b (Some (f a)) (find test (map f (range_with_len (a + 1) n)))) (none a (omega arith) (omega arith))
    ∙ find_none test f (a + 1) n (λ i from to. none i (omega (arith, from)) (omega (arith, to)))

find_first : (test : Rid → Bool) (f : ℕ → Rid) (a n k : ℕ) → a ≤ k → k < a + n → test (f k) ≡ true → ((i : ℕ) → a ≤ i → i < k → test (f i) ≡ false) → find test (map f (range_with_len a n)) ≡ Some (f k)
find_first test f a zero k low high is none = absurd (omega (arith, low, high))
find_first test f a (suc n) k low high is none =
    let rest = find test (map f (range_with_len (a + 1) n)) in
    elim (eqb_tells a k) [
      | inl here ↦ ap (λ b. cond b (Some (f a)) rest) (ap (λ j. test (f j)) here.1 ∙ is) ∙ ap (λ j. Some (f j)) here.1
      | inr there ↦ ap (λ b. cond b (Some (f a)) rest) (none a (omega arith) (omega (arith, low, there.1)))
          ∙ find_first test f (a + 1) n k (omega (arith, low, there.1)) (omega (arith, high)) is (λ i from to. none i (omega (arith, from)) to)
    ]

find_alike : (one other : Rid → Bool) (f : ℕ → Rid) (a n : ℕ) → ((i : ℕ) → a ≤ i → i < a + n → one (f i) ≡ other (f i)) → find one (map f (range_with_len a n)) ≡ find other (map f (range_with_len a n))
find_alike one other f a zero same = refl
find_alike one other f a (suc n) same =
    ap (λ b. cond b (Some (f a)) (find one (map f (range_with_len (a + 1) n)))) (same a (omega arith) (omega arith))
    ∙ ap (λ r. cond (other (f a)) (Some (f a)) r) (find_alike one other f (a + 1) n (λ i from to. same i (omega (arith, from)) (omega (arith, to))))

-- ---- what was sought so far

-- no slot of a page below this one is free
pub record IsSought (c : Config) (rows : Rows) (table : Table) (space page : ℕ) : Type 0 where
  pub none : (p k : ℕ) → has_place c (rid_of space p k) ≡ true → p < page → is_free rows table (rid_of space p k) ≡ false

taken : (o : Option Row) (b : Bool) → is_some o ≡ true → (is_none o && b) ≡ false
taken (Some row) b e = refl
taken None b e = absurd (let c : false ≡ true = e in cc)

-- no slot of the pages that are known to be full is free
pub sought_first : (h : Hints) (c : Config) (rows : Rows) (table : Table) (space : ℕ) → AreFilled h c rows → IsSought c rows table space (hint_of h space)
sought_first h c rows table space is = record { none = λ p k there below. taken (rows (rid_of space p k)) (not (is_locked table (rid_of space p k))) (is.filled space p k there below) }

told_none : (rows : Rows) (table : Table) (space page : ℕ) (look : Look) → IsTold rows table space page look → free_slot look ≡ None → (k : ℕ) → k < 31 → is_free rows table (rid_of space page k) ≡ false
told_none rows table space page (Free slot) is none k small = absurd (let c : Some slot ≡ None = none in cc)
told_none rows table space page Full is none k small = is.none k small
told_none rows table space page Locked is none k small = is.none k small

-- the free slot that a look gave is the least of its page
pub look_least : (rows : Rows) (table : Table) (space page : ℕ) (look : Look) (slot : ℕ) → free_slot look ≡ Some slot → IsTold rows table space page look → IsLeast rows table space page slot
look_least rows table space page (Free least) slot is told = let same : Some least ≡ Some slot = is in subst (λ k. IsLeast rows table space page k) (let e : least ≡ slot = cc in e) told
look_least rows table space page Full slot is told = absurd (let c : None ≡ Some slot = is in cc)
look_least rows table space page Locked slot is told = absurd (let c : None ≡ Some slot = is in cc)

pub sought_more : (c : Config) (rows : Rows) (table : Table) (space page : ℕ) (look : Look) → IsTold rows table space page look → free_slot look ≡ None → IsSought c rows table space page → IsSought c rows table space (page + 1)
sought_more c rows table space page look told none is = record {
  none = λ p k there below. elim (eqb_tells p page) [
    | inl here ↦ subst (λ q. is_free rows table (rid_of space q k) ≡ false) (sym here.1) (told_none rows table space page look told none k (slot_small c space p k there))
    | inr before ↦ is.none p k there (omega (arith, below, before.1))
  ];
}

-- the hints stay true behind a look
raised_filled : (h : Hints) (c : Config) (rows : Rows) (table : Table) (space page : ℕ) → hint_of h space ≡ page → AreTaken rows table space page 31 true → AreFilled h c rows → AreFilled (with_hint h space (page + 1)) c rows
raised_filled h c rows table space page here told is = record {
  filled = λ s p k there below. ⊎_elim
      (λ own. elim (eqb_tells p page) [
        | inl last ↦ subst (λ x. is_some (rows (rid_of x p k)) ≡ true) (sym own.0) (subst (λ x. is_some (rows (rid_of space x k)) ≡ true) (sym last.1) (told.filled refl k (slot_small c s p k there)))
        | inr before ↦ is.filled s p k there (subst (λ x. p < hint_of h x) (sym own.0) (omega (arith, here, own.1, before.1)))
      ])
      (λ old. is.filled s p k there old)
      (raised h.first space s (page + 1) p below);
}

pub look_filled : (h : Hints) (c : Config) (rows : Rows) (table : Table) (space page : ℕ) (look : Look) → IsTold rows table space page look → AreFilled h c rows → AreFilled (with_look h space page look) c rows
look_filled h c rows table space page (Free slot) told is = is
look_filled h c rows table space page Locked told is = is
look_filled h c rows table space page Full told is =
    elim (eqb_tells (hint_of h space) page) [
      | inl here ↦ subst (λ b. AreFilled (if b then with_hint h space (page + 1) else h) c rows) (sym here.0) (raised_filled h c rows table space page here.1 told is)
      | inr there ↦ subst (λ b. AreFilled (if b then with_hint h space (page + 1) else h) c rows) (sym there.0) is
    ]

-- ---- how far the hints rise

-- a hint that is set is read back, and the others are as they were
hint_own : (h : Hints) (space page : ℕ) → space < length h.first → hint_of (with_hint h space page) space ≡ page
hint_own h space page inside = get_or-set_same h.first space page 0 inside

pub risen_none : (space : ℕ) (h : Hints) → HasRisenFor space h h
risen_none space h = record { least = omega arith; others = λ other apart. refl }

risen_set : (space page : ℕ) (h : Hints) → space < length h.first → hint_of h space ≡ page → HasRisenFor space h (with_hint h space (page + 1))
risen_set space page h inside here = record {
  least = omega (arith, here, hint_own h space (page + 1) inside);
  others = λ other apart. get_or-set_other h.first space other (page + 1) 0 apart;
}

pub risen_look : (space page : ℕ) (h : Hints) (look : Look) → space < length h.first → HasRisenFor space h (with_look h space page look)
risen_look space page h (Free slot) inside = risen_none space h
risen_look space page h Locked inside = risen_none space h
risen_look space page h Full inside =
    elim (eqb_tells (hint_of h space) page) [
      | inl here ↦ subst (λ b. HasRisenFor space h (if b then with_hint h space (page + 1) else h)) (sym here.0) (risen_set space page h inside here.1)
      | inr there ↦ subst (λ b. HasRisenFor space h (if b then with_hint h space (page + 1) else h)) (sym there.0) (risen_none space h)
    ]

pub risen_more : (space : ℕ) (g h i : Hints) → HasRisenFor space g h → HasRisenFor space h i → HasRisenFor space g i
risen_more space g h i one two = record { least = omega (arith, one.least, two.least); others = λ other apart. two.others other apart ∙ one.others other apart }

pub look_length : (h : Hints) (space page : ℕ) (look : Look) → length (with_look h space page look).first ≡ length h.first
look_length h space page (Free slot) = refl
look_length h space page Locked = refl
look_length h space page Full = elim (hint_of h space == page) as (λ b. length (let t : Hints = (if b then with_hint h space (page + 1) else h) in t).first ≡ length h.first) [ true ↦ length-set h.first space (page + 1) | false ↦ refl ]

-- the hint names the page that is looked at next, or one before it that is not full
abbrev pub IsEdge : Hints → Rows → ℕ → ℕ → Type 0
IsEdge h rows space page = (hint_of h space ≡ page) ⊎ ((hint_of h space < page) × HasEmpty rows space (hint_of h space) 31)

edge_on : (h : Hints) (rows : Rows) (space page : ℕ) → HasEmpty rows space page 31 → IsEdge h rows space page → IsEdge h rows space (page + 1)
edge_on h rows space page empty (inl here) = inr (omega (arith, here), subst (λ p. HasEmpty rows space p 31) (sym here) empty)
edge_on h rows space page empty (inr behind) = inr (omega (arith, behind.0), behind.1)

edge_full : (h : Hints) (rows : Rows) (space page : ℕ) → space < length h.first → IsEdge h rows space page → IsEdge (with_look h space page Full) rows space (page + 1)
edge_full h rows space page inside edge =
    elim (eqb_tells (hint_of h space) page) [
      | inl here ↦ subst (λ b. IsEdge (if b then with_hint h space (page + 1) else h) rows space (page + 1)) (sym here.0) (inl (hint_own h space (page + 1) inside))
      | inr there ↦ subst (λ b. IsEdge (if b then with_hint h space (page + 1) else h) rows space (page + 1)) (sym there.0) (⊎_elim (λ e. absurd (there.1 e)) (λ behind. inr (omega (arith, behind.0), behind.1)) edge)
    ]

pub edge_more : (h : Hints) (rows : Rows) (table : Table) (space page : ℕ) (look : Look) → space < length h.first → IsTold rows table space page look → free_slot look ≡ None → IsEdge h rows space page → IsEdge (with_look h space page look) rows space (page + 1)
edge_more h rows table space page (Free slot) inside told none edge = absurd (let c : Some slot ≡ None = none in cc)
edge_more h rows table space page Locked inside told none edge = edge_on h rows space page (told.empty refl) edge
edge_more h rows table space page Full inside told none edge = edge_full h rows space page inside edge

-- the page of the least free slot is not full
pub edge_found : (h : Hints) (rows : Rows) (table : Table) (space page slot : ℕ) → IsLeast rows table space page slot → IsEdge h rows space page → HasEmpty rows space (hint_of h space) 31
edge_found h rows table space page slot least (inl here) =
    subst (λ p. HasEmpty rows space p 31) (sym here) (slot, least.small, (and_parts (is_none (rows (rid_of space page slot))) (not (is_locked table (rid_of space page slot))) least.free).0)
edge_found h rows table space page slot least (inr behind) = behind.1

pub edge_last : (h : Hints) (c : Config) (rows : Rows) (space page : ℕ) → data_pages c space ≤ page → has_page c space (hint_of h space) ≡ true → IsEdge h rows space page → HasEmpty rows space (hint_of h space) 31
edge_last h c rows space page last there (inl here) =
    let inside : hint_of h space < data_pages c space = ltb-true (hint_of h space) (data_pages c space) (and_parts (nat_lt space (length c.spaces)) (nat_lt (hint_of h space) (data_pages c space)) there).1 in
    absurd (omega (arith, inside, here, last))
edge_last h c rows space page last there (inr behind) = behind.1

-- ---- the least free slot

-- place i of a space
abbrev place_of : ℕ → ℕ → Rid
place_of space i = rid_of space (i / 31) (i % 31)

pub free_none : (c : Config) (rows : Rows) (table : Table) (space page : ℕ) → space < length c.spaces → data_pages c space ≤ page → IsSought c rows table space page → find (is_free rows table) (slots_of c space) ≡ None
free_none c rows table space page there last is =
    find_none (is_free rows table) (place_of space) 0 (data_pages c space * 31)
    (λ i from to. let inside : i / 31 < data_pages c space = omega (arith, to) in
    is.none (i / 31) (i % 31) (place_there c space (i / 31) (i % 31) (page_there c space (i / 31) there inside) (omega arith)) (omega (arith, inside, last)))

pub free_found : (c : Config) (rows : Rows) (table : Table) (space page slot : ℕ) → space < length c.spaces → page < data_pages c space → IsSought c rows table space page → IsLeast rows table space page slot → find (is_free rows table) (slots_of c space) ≡ Some (rid_of space page slot)
free_found c rows table space page slot there within is least =
    find_first (is_free rows table) (place_of space) 0 (data_pages c space * 31) k (omega arith) (omega (arith, within, least.small)) (subst (λ (r : Rid). is_free rows table r ≡ true) (sym here) least.free)
    (λ i from to. elim (eqb_tells (i / 31) page) [
      | inl same ↦ subst (λ p. is_free rows table (rid_of space p (i % 31)) ≡ false) (sym same.1) (least.none (i % 31) (omega (arith, to, same.1)))
      | inr other ↦ (let before : i / 31 < page = omega (arith, to, other.1, least.small) in
          is.none (i / 31) (i % 31) (place_there c space (i / 31) (i % 31) (page_there c space (i / 31) there (omega (arith, before, within))) (omega arith)) before)
    ])
    ∙ ap (λ (r : Rid). Some r) here
  where
    k : ℕ
    k = page * 31 + slot

    here : place_of space k ≡ rid_of space page slot
    here =
        let of_page : (page * 31 + slot) / 31 ≡ page = omega (arith, least.small) in
        let of_slot : (page * 31 + slot) % 31 ≡ slot = omega (arith, least.small) in
        ap (λ p. rid_of space p ((page * 31 + slot) % 31)) of_page ∙ ap (λ s. rid_of space page s) of_slot

-- it is the machine's, where places hold what the machine's hold, and the table tells what its sessions hold
pub free_is : (m : Machine) (c : Config) (rows : Rows) (table : Table) (space : ℕ) → c ≡ config_of m → space < length c.spaces → ((rid : Rid) → has_place (config_of m) rid ≡ true → rows rid ≡ row_in m rid) → TellsSessions m table → find (is_free rows table) (slots_of c space) ≡ first_free m space
free_is m c rows table space same there alike tells =
    ap (λ (x : Config). find (is_free rows table) (slots_of x space)) same
    ∙ find_alike (is_free rows table) (λ r. is_none (row_in m r) && not (is_locked table r)) (place_of space) 0 (data_pages (config_of m) space * 31)
    (λ i from to. let inside : i / 31 < data_pages (config_of m) space = omega (arith, to) in
    ap (λ (o : Option Row). is_none o && not (is_locked table (place_of space i)))
    (alike (place_of space i) (place_there (config_of m) space (i / 31) (i % 31) (page_there (config_of m) space (i / 31) (subst (λ (x : Config). space < length x.spaces) same there) inside) (omega arith))))
    ∙ same_first_free m table space tells
