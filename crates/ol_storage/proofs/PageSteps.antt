-- A page changed behind its entry, with its record or as a redo, and pages cleaned: the disk holds what is behind them.
use Rattle.std.specs.Prelude.{nat_lt, slice_index_or, take, Bool, List, Option, [], false, length, true, ℕ, ◌&&◌, ◌++◌, ◌+◌, ◌-◌, ◌<◌, ◌==◌, ◌∷◌, ◌≡◌, ◌≤◌, ◌⊎◌}
use Rattle.std.proofs.Common.{ap, arith, inl, inr, length-append, refl, subst, sym, ◌∙◌, ⊎_elim}
use Rattle.std.proofs.lemmas.Bool.Decides.{nat_tests}
use Rattle.std.proofs.lemmas.List.{get_or-append-add, length-take, take_more}
use Rattle.ol_values.specs.Config.{Config}
use Rattle.ol_values.specs.Image.{with_slot}
use Rattle.ol_values.specs.Pages.{Page}
use Rattle.ol_values.specs.declared.record.Record.{Record}
use Rattle.ol_values.specs.declared.record.Record.TheVariants.{Begin, Change, Commit, Rolled, Undo}
use Rattle.ol_values.specs.declared.record.Rid.{Rid}
use Rattle.ol_values.specs.declared.row.Row.{Row}
use Rattle.ol_rules.specs.Journal.{page_from, touches}
use Rattle.ol_rules.specs.Start.{Start, page_behind, start_page, upto}
use Rattle.ol_stand_laws.proofs.PageMoves.{change_more, other_more, undo_more}
use Rattle.ol_reserve.specs.declared.anchor.Anchor.{Anchor}
use Rattle.ol_store.proofs.ChangeLaws.{page_elsewhere, page_here}
use Rattle.ol_store.specs.Pages.{changed, with_page}
use Rattle.ol_storage.specs.Behind.{Behind, IsBehind, Moves, TouchesNone, last_of, pages_of, record_at, with_record, with_redone}
use Rattle.ol_storage.proofs.Agreeing.{Agree, saved_kept, upto_all}

-- ---- a record moves its page

-- what the page of a record is behind it
moved_here : (base : Page) (first : ℕ) (records : List Record) (r : Record) (rid : Rid) (row : Option Row) → rid.slot < 31 → Moves r rid row
    → page_from base first (records ++ r ∷ []) rid.space rid.page ≡ with_slot (page_from base first records rid.space rid.page) rid.slot row (first + length records)
moved_here base first records (Begin txn) rid row below m = absurd m
moved_here base first records (Change txn at before after) rid row below m =
    subst (λ (x : Rid). page_from base first (records ++ Change txn at before after ∷ []) x.space x.page ≡ with_slot (page_from base first records x.space x.page) x.slot row (first + length records)) m.0
    (subst (λ (x : Option Row). page_from base first (records ++ Change txn at before after ∷ []) at.space at.page ≡ with_slot (page_from base first records at.space at.page) at.slot x (first + length records)) m.1
    (change_more base first records txn at before after (subst (λ (x : Rid). x.slot < 31) (sym m.0) below)))
moved_here base first records (Undo txn at value) rid row below m =
    subst (λ (x : Rid). page_from base first (records ++ Undo txn at value ∷ []) x.space x.page ≡ with_slot (page_from base first records x.space x.page) x.slot row (first + length records)) m.0
    (subst (λ (x : Option Row). page_from base first (records ++ Undo txn at value ∷ []) at.space at.page ≡ with_slot (page_from base first records at.space at.page) at.slot x (first + length records)) m.1
    (undo_more base first records txn at value (subst (λ (x : Rid). x.slot < 31) (sym m.0) below)))
moved_here base first records (Commit txn) rid row below m = absurd m
moved_here base first records (Rolled txn) rid row below m = absurd m

other_page : (rid : Rid) (space page : ℕ) → ((rid.space ≡ space) × (rid.page ≡ page) → ⊥) → ((rid.space == space) && (rid.page == page)) ≡ false
other_page rid space page other = by_case ((rid.space == space) && (rid.page == page)) refl
  where
    by_case : (b : Bool) → ((rid.space == space) && (rid.page == page)) ≡ b → b ≡ false
    by_case false e = refl
    by_case true e = absurd (other (grind (arith, nat_tests, e), grind (arith, nat_tests, e)))

-- it changes no other page
moved_elsewhere : (r : Record) (rid : Rid) (row : Option Row) (space page : ℕ) → Moves r rid row → ((rid.space ≡ space) × (rid.page ≡ page) → ⊥) → touches space page r ≡ false
moved_elsewhere (Begin txn) rid row space page m other = absurd m
moved_elsewhere (Change txn at before after) rid row space page m other = subst (λ (x : Rid). ((x.space == space) && (x.page == page)) ≡ false) (sym m.0) (other_page rid space page other)
moved_elsewhere (Undo txn at value) rid row space page m other = subst (λ (x : Rid). ((x.space == space) && (x.page == page)) ≡ false) (sym m.0) (other_page rid space page other)
moved_elsewhere (Commit txn) rid row space page m other = absurd m
moved_elsewhere (Rolled txn) rid row space page m other = absurd m

one_or_two : (rid : Rid) (space page : ℕ) → ((rid.space ≡ space) × (rid.page ≡ page)) ⊎ ((rid.space ≡ space) × (rid.page ≡ page) → ⊥)
one_or_two rid space page = by_case ((rid.space == space) && (rid.page == page)) refl
  where
    by_case : (b : Bool) → ((rid.space == space) && (rid.page == page)) ≡ b → ((rid.space ≡ space) × (rid.page ≡ page)) ⊎ ((rid.space ≡ space) × (rid.page ≡ page) → ⊥)
    by_case true e = inl (grind (arith, nat_tests, e), grind (arith, nat_tests, e))
    by_case false e = inr (λ same. absurd (grind (arith, nat_tests, e, same.0, same.1)))

-- pages behind some records, with one more that moves a page
moved_page : (s : Start) (records : List Record) (now : ℕ → ℕ → Page) (r : Record) (rid : Rid) (row : Option Row) (stamp space page : ℕ) → rid.slot < 31 → Moves r rid row → stamp ≡ s.last + 1 + length records
    → ((x y : ℕ) → now x y ≡ page_behind s records x y) → page_behind s (records ++ r ∷ []) space page ≡ with_page now rid.space rid.page (with_slot (now rid.space rid.page) rid.slot row stamp) space page
moved_page s records now r rid row stamp space page below m is same = ⊎_elim here elsewhere (one_or_two rid space page)
  where
    here : (rid.space ≡ space) × (rid.page ≡ page) → page_behind s (records ++ r ∷ []) space page ≡ with_page now rid.space rid.page (with_slot (now rid.space rid.page) rid.slot row stamp) space page
    here at =
        subst (λ (x : ℕ). page_behind s (records ++ r ∷ []) x page ≡ with_page now rid.space rid.page (with_slot (now rid.space rid.page) rid.slot row stamp) x page) at.0
        (subst (λ (y : ℕ). page_behind s (records ++ r ∷ []) rid.space y ≡ with_page now rid.space rid.page (with_slot (now rid.space rid.page) rid.slot row stamp) rid.space y) at.1
        (moved_here (start_page s rid.space rid.page) (s.last + 1) records r rid row below m
        ∙ ap (λ (p : Page). with_slot p rid.slot row (s.last + 1 + length records)) (sym (same rid.space rid.page))
        ∙ ap (λ (n : ℕ). with_slot (now rid.space rid.page) rid.slot row n) (sym is)
        ∙ sym (page_here now rid.space rid.page (with_slot (now rid.space rid.page) rid.slot row stamp))))

    elsewhere : ((rid.space ≡ space) × (rid.page ≡ page) → ⊥) → page_behind s (records ++ r ∷ []) space page ≡ with_page now rid.space rid.page (with_slot (now rid.space rid.page) rid.slot row stamp) space page
    elsewhere other =
        other_more (start_page s space page) (s.last + 1) records r space page (moved_elsewhere r rid row space page m other)
        ∙ sym (same space page)
        ∙ sym (page_elsewhere now rid.space rid.page space page (with_slot (now rid.space rid.page) rid.slot row stamp) other)

-- ---- the pages behind a change, and behind a redo

pub changed_agree : (c : Config) (g : Behind) (a : Anchor) (r : Record) (rid : Rid) (row : Option Row) (stamp : ℕ) → IsBehind g → a.position ≤ g.reached → g.reached ≡ last_of g → rid.slot < 31 → Moves r rid row → stamp ≡ last_of g + 1
    → Agree c (changed (pages_of a g) rid row stamp) (pages_of a (with_record r g))
changed_agree c g a r rid row stamp is position all below m at = record {
  up = λ space page up. up;
  now = λ space page up.
      ap (λ (l : List Record). page_behind g.start l space page) (upto_all g.start (g.records ++ r ∷ []) (g.reached + 1) (omega (arith, all, length-append g.records (r ∷ []))))
      ∙ moved_page g.start g.records (pages_of a g).now r rid row stamp space page below m (omega (arith, at))
      (λ x y. ap (λ (l : List Record). page_behind g.start l x y) (upto_all g.start g.records g.reached (omega (arith, all))));
  saved = saved_kept g r a is position;
}

-- the record behind those up to a position
abbrev next_record : Behind → Record
next_record g = slice_index_or g.records (g.reached - g.start.last) (Commit 0)

next_is : (g : Behind) → IsBehind g → g.reached < last_of g → record_at g (g.reached + 1) ≡ next_record g
next_is g is below =
    let behind : nat_lt (g.reached + 1) g.start.first ≡ false = grind (arith, nat_tests, is.kept, is.from) in
    let place : g.reached + 1 - g.start.first ≡ length g.start.kept + (g.reached - g.start.last) = omega (arith, is.kept, is.from) in
    rw behind (rw place (get_or-append-add g.start.kept g.records (g.reached - g.start.last) (Commit 0)))

upto_more : (g : Behind) → IsBehind g → g.reached < last_of g → upto g.start g.records (g.reached + 1) ≡ upto g.start g.records g.reached ++ next_record g ∷ []
upto_more g is below =
    let place : g.reached + 1 - g.start.last ≡ g.reached - g.start.last + 1 = omega (arith, is.from) in
    ap (λ (n : ℕ). take n g.records) place ∙ take_more g.records (g.reached - g.start.last) (Commit 0) (omega (arith, is.from, below))

pub redone_agree : (c : Config) (g : Behind) (a : Anchor) (rid : Rid) (row : Option Row) (stamp : ℕ) → IsBehind g → g.reached < last_of g → rid.slot < 31 → Moves (record_at g (g.reached + 1)) rid row → stamp ≡ g.reached + 1
    → Agree c (changed (pages_of a g) rid row stamp) (pages_of a (with_redone g))
redone_agree c g a rid row stamp is below slot m at = record {
  up = λ space page up. up;
  now = λ space page up.
      ap (λ (l : List Record). page_behind g.start l space page) (upto_more g is below)
      ∙ moved_page g.start (upto g.start g.records g.reached) (pages_of a g).now (next_record g) rid row stamp space page slot (subst (λ (r : Record). Moves r rid row) (next_is g is below) m)
      (omega (arith, at, is.from, is.to, length-take (g.reached - g.start.last) g.records))
      (λ x y. refl);
  saved = refl;
}

pub passed_agree : (c : Config) (g : Behind) (a : Anchor) → IsBehind g → g.reached < last_of g → TouchesNone c a (record_at g (g.reached + 1)) → Agree c (pages_of a g) (pages_of a (with_redone g))
passed_agree c g a is below none = record {
  up = λ space page up. up;
  now = λ space page up.
      ap (λ (l : List Record). page_behind g.start l space page) (upto_more g is below)
      ∙ other_more (start_page g.start space page) (g.start.last + 1) (upto g.start g.records g.reached) (next_record g) space page (subst (λ (r : Record). touches space page r ≡ false) (next_is g is below) (none space page up.0 up.1));
  saved = refl;
}
