-- A cursor follows its archive: as that starts, as a page passes, and while its pages stay as they were.
use Rattle.std.specs.List.{AllByRecursion}
use Rattle.std.specs.Prelude.{Bool, List, None, Option, Some, [], drop, false, get_or, length, not, suc, take, true, ℕ, ◌++◌, ◌+◌, ◌<◌, ◌∷◌, ◌||◌, ◌≡◌, refl}
use Rattle.std.proofs.Common.{ap, arith, subst, sym, ◌∙◌}
use Rattle.std.proofs.lemmas.List.{drop-drop, length-drop, take-append-drop, take_more}
use Rattle.std.proofs.lemmas.List.Folds.{list_any-append}
use Rattle.std.proofs.Math.Seq.{drop-cons}
use Rattle.ol_model.specs.ArchiveTurns.{take_at, take_page, take_unless}
use Rattle.ol_model.specs.Machine.{Archive, Machine, with_archive}
use Rattle.ol_model.specs.Steps.{is_page_in, same_page}
use Rattle.ol_model.specs.Waiting.{left_of, pages_of}
use Rattle.ol_values.specs.declared.event.Reply.{Reply}
use Rattle.ol_cursor.specs.declared.cursor.Cursor.{Cursor}
use Rattle.ol_cursor.specs.Following.{Follows, HasShortSpaces, IsOf, SpacesFrom}
use Rattle.ol_cursor.specs.Order.{AscendFrom, advanced, place_behind, precedes}
use Rattle.ol_cursor.proofs.OrderLaws.{before_behind, before_more, behind_more, not_before, same_before}
use Rattle.ol_cursor.proofs.PageLaws.{pages_ascend}
use Rattle.ol_model.specs.Machine.{config_of}

-- all these places stand before this one
abbrev pub Behind : ℕ × ℕ → List (ℕ × ℕ) → Type 0
Behind next pages = AllByRecursion (λ p. precedes p next ≡ true) pages

-- ---- an archive starts

pub follows_start : (c : Cursor) (m : Machine) (a : Archive) → HasShortSpaces (config_of m) → SpacesFrom 0 a.spaces → IsOf c a → a.passed ≡ 0 → c.next ≡ (0, 0) → c.left ≡ length (pages_of m a)
    → Follows c m a
follows_start c m a short from of_it none next left =
    let all : left_of m a ≡ pages_of m a = ap (λ (n : ℕ). drop n (pages_of m a)) none in
    record {
      of_it = of_it;
      left = left ∙ ap (λ (l : List (ℕ × ℕ)). length l) (sym all);
      ahead = subst (λ (l : List (ℕ × ℕ)). AscendFrom c.next l) (sym all) (subst (λ (p : ℕ × ℕ). AscendFrom p (pages_of m a)) (sym next) (pages_ascend m a short from));
      behind = subst (λ (n : ℕ). Behind c.next (take n (pages_of m a))) (sym none) tt;
    }

-- ---- a page passes

behind_later : (pages : List (ℕ × ℕ)) (p next : ℕ × ℕ) → precedes p next ≡ false → Behind next pages → Behind (place_behind p) pages
behind_later [] p next ahead behind = tt
behind_later (q ∷ pages) p next ahead behind = (before_more q p next ahead behind.0, behind_later pages p next ahead behind.1)

behind_and : (pages : List (ℕ × ℕ)) (p next : ℕ × ℕ) → Behind next pages → precedes p next ≡ true → Behind next (pages ++ p ∷ [])
behind_and [] p next behind here = (here, tt)
behind_and (q ∷ pages) p next behind here = (behind.0, behind_and pages p next behind.1 here)

-- one page more is taken from the front
one_more : (pages : List (ℕ × ℕ)) (k : ℕ) (p : ℕ × ℕ) (rest : List (ℕ × ℕ)) → drop k pages ≡ p ∷ rest → take (k + 1) pages ≡ take k pages ++ p ∷ []
one_more pages k p rest is =
    let within : k < length pages = omega (arith, ap (λ (l : List (ℕ × ℕ)). length l) is, length-drop k pages) in
    let first : get_or pages k p ∷ drop (suc k) pages ≡ p ∷ rest = sym (drop-cons pages k p within) ∙ is in
    let here : get_or pages k p ≡ p = cc in
    take_more pages k p within ∙ ap (λ (q : ℕ × ℕ). take k pages ++ q ∷ []) here

abbrev pub passed_one : Archive → Archive
passed_one a = record a { passed = a.passed + 1 }

left_one : (m : Machine) (a : Archive) (p : ℕ × ℕ) (rest : List (ℕ × ℕ)) → left_of m a ≡ p ∷ rest → left_of m (passed_one a) ≡ rest
unfolding pages_of
left_one m a p rest is = sym (drop-drop 1 a.passed (pages_of m a)) ∙ ap (λ (l : List (ℕ × ℕ)). drop 1 l) is

taken_one : (m : Machine) (a : Archive) (p : ℕ × ℕ) (rest : List (ℕ × ℕ)) → left_of m a ≡ p ∷ rest → take (a.passed + 1) (pages_of m (passed_one a)) ≡ take a.passed (pages_of m a) ++ p ∷ []
unfolding pages_of
taken_one m a p rest is = one_more (pages_of m a) a.passed p rest is

of_passed : (c : Cursor) (a : Archive) (p : ℕ × ℕ) → IsOf c a → IsOf (advanced c p.0 p.1) (passed_one a)
of_passed c a p o = record { number = o.number; level = o.level; cut = o.cut; low = o.low; spaces = o.spaces; bases = o.bases }

pub follows_advance : (c : Cursor) (m : Machine) (a : Archive) (p : ℕ × ℕ) (rest : List (ℕ × ℕ)) → Follows c m a → left_of m a ≡ p ∷ rest → Follows (advanced c p.0 p.1) m (passed_one a)
follows_advance c m a p rest f is =
    let first : AscendFrom c.next (p ∷ rest) = subst (λ (l : List (ℕ × ℕ)). AscendFrom c.next l) is f.ahead in
    let later = left_one m a p rest is in
    record {
      of_it = of_passed c a p f.of_it;
      left = omega (arith, f.left, ap (λ (l : List (ℕ × ℕ)). length l) is, ap (λ (l : List (ℕ × ℕ)). length l) later);
      ahead = subst (λ (l : List (ℕ × ℕ)). AscendFrom (place_behind p) l) (sym later) first.1;
      behind = subst (λ (l : List (ℕ × ℕ)). Behind (place_behind p) l) (sym (taken_one m a p rest is)) (behind_and (take a.passed (pages_of m a)) p (place_behind p) (behind_later (take a.passed (pages_of m a)) p c.next first.0 f.behind) (before_behind p));
    }

-- the cursor may advance there
pub may_advance : (c : Cursor) (m : Machine) (a : Archive) (p : ℕ × ℕ) (rest : List (ℕ × ℕ)) → Follows c m a → left_of m a ≡ p ∷ rest → (precedes p c.next ≡ false) × (0 < c.left)
may_advance c m a p rest f is =
    let first : AscendFrom c.next (p ∷ rest) = subst (λ (l : List (ℕ × ℕ)). AscendFrom c.next l) is f.ahead in
    (first.0, omega (arith, f.left, ap (λ (l : List (ℕ × ℕ)). length l) is))

-- ---- the machine changes elsewhere

pub follows_elsewhere : (c : Cursor) (m n : Machine) (a : Archive) → pages_of n a ≡ pages_of m a → Follows c m a → Follows c n a
follows_elsewhere c m n a same f = record {
  of_it = f.of_it;
  left = f.left ∙ ap (λ (l : List (ℕ × ℕ)). length (drop a.passed l)) (sym same);
  ahead = subst (λ (l : List (ℕ × ℕ)). AscendFrom c.next (drop a.passed l)) (sym same) f.ahead;
  behind = subst (λ (l : List (ℕ × ℕ)). Behind c.next (take a.passed l)) (sym same) f.behind;
}

with_pages : (m : Machine) (k : ℕ) (a : Archive) (b : Option Archive) → pages_of (with_archive k b m) a ≡ pages_of m a
unfolding pages_of
with_pages m k a b = refl

pub follows_turn : (c : Cursor) (m : Machine) (k : ℕ) (a : Archive) (p : ℕ × ℕ) (rest : List (ℕ × ℕ)) → a.broken ≡ None → Follows c m a → left_of m a ≡ p ∷ rest
    → Follows (advanced c p.0 p.1) (take_at m k (Some a)).1 (passed_one a)
follows_turn c m k a p rest whole f is =
    let turn : take_at m k (Some a) ≡ take_page m k a (p ∷ rest) = ap (λ (b : Option ℕ). take_unless m k a b) whole ∙ ap (λ (l : List (ℕ × ℕ)). take_page m k a l) is in
    subst (λ (r : Reply × Machine). Follows (advanced c p.0 p.1) r.1 (passed_one a)) (sym turn)
    (follows_elsewhere (advanced c p.0 p.1) m (with_archive k (Some (passed_one a)) m) (passed_one a) (with_pages m k (passed_one a) (Some (passed_one a))) (follows_advance c m a p rest f is))

-- ---- what has passed

behind_holds : (pages : List (ℕ × ℕ)) (q next : ℕ × ℕ) → Behind next pages → is_page_in q pages ≡ true → precedes q next ≡ true
behind_holds [] q next behind there = absurd (cc)
behind_holds (p ∷ pages) q next behind there = go (same_page q p) refl (λ later. behind_holds pages q next behind.1 later)
  where
    go : (b : Bool) → same_page q p ≡ b → (is_page_in q pages ≡ true → precedes q next ≡ true) → precedes q next ≡ true
    go true same more = same_before q p next true same behind.0
    go false same more = more (ap (λ (b : Bool). b || is_page_in q pages) (sym same) ∙ there)

ahead_holds : (pages : List (ℕ × ℕ)) (q next : ℕ × ℕ) → AscendFrom next pages → is_page_in q pages ≡ true → precedes q next ≡ false
ahead_holds [] q next ahead there = absurd (cc)
ahead_holds (p ∷ pages) q next ahead there = go (same_page q p) refl (λ later. ahead_holds pages q (place_behind p) ahead.1 later)
  where
    go : (b : Bool) → same_page q p ≡ b → (is_page_in q pages ≡ true → precedes q (place_behind p) ≡ false) → precedes q next ≡ false
    go true same more = same_before q p next false same ahead.0
    go false same more = not_before q (place_behind p) next (behind_more p next ahead.0) (more (ap (λ (b : Bool). b || is_page_in q pages) (sym same) ∙ there))

pub passed_is : (c : Cursor) (m : Machine) (a : Archive) (q : ℕ × ℕ) → Follows c m a → is_page_in q (pages_of m a) ≡ true → precedes q c.next ≡ not (is_page_in q (left_of m a))
passed_is c m a q f there = go (is_page_in q (left_of m a)) refl
  where
    parts : (is_page_in q (take a.passed (pages_of m a)) || is_page_in q (left_of m a)) ≡ true
    parts =
        sym (list_any-append (same_page q) (take a.passed (pages_of m a)) (left_of m a))
        ∙ ap (λ (l : List (ℕ × ℕ)). is_page_in q l) (take-append-drop a.passed (pages_of m a))
        ∙ there

    first : (b : Bool) → is_page_in q (take a.passed (pages_of m a)) ≡ b → is_page_in q (left_of m a) ≡ false → precedes q c.next ≡ true
    first true is none = behind_holds (take a.passed (pages_of m a)) q c.next f.behind is
    first false is none = absurd (cc (sym is, none, parts))

    go : (b : Bool) → is_page_in q (left_of m a) ≡ b → precedes q c.next ≡ not b
    go true is = ahead_holds (left_of m a) q c.next f.ahead is
    go false is = first (is_page_in q (take a.passed (pages_of m a))) refl is
