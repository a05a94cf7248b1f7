-- Images in memory, and the pages that they show.
use Rattle.std.specs.Prelude.{Bool, Err, IfSome, List, None, Ok, OnErr, OnOk, Option, Result, Some, [], false, if◌then◌else◌, is_some, length, nat_lt, option_map, refl, replicate, slice_index_or, slice_set, true, unwrap_or, ℕ, ◌&&◌, ◌<◌, ◌==◌, ◌^◌, ◌∷◌, ◌≡◌, ◌≤◌, ◌⊎◌}
use Rattle.std.proofs.Common.{ap, arith, inl, inr, length-set, subst, sym, ◌∙◌}
use Rattle.std.proofs.lemmas.Bool.{and_parts, eqb-true, ltb-true}
use Rattle.std.proofs.lemmas.Bool.Decides.{eqb_tells}
use Rattle.ol_values.specs.declared.record.Record.{Record}
use Rattle.ol_values.specs.declared.record.Record.TheVariants.{Begin as BeginRecord, Change, Commit as CommitRecord, Rolled, Undo}
use Rattle.ol_values.specs.declared.record.Rid.{Rid}
use Rattle.ol_values.specs.declared.row.Row.{Row}
use Rattle.ol_values.specs.Config.{Config, has_page, has_place}
use Rattle.ol_values.specs.Image.{IsPage, page_bytes, with_slot}
use Rattle.ol_values.specs.Pages.{Page, blank}
use Rattle.ol_rules.specs.Journal.{page_from, touches}
use Rattle.ol_page.proofs.Slots.{blank_bytes, with_slot_page}
use Rattle.ol_pool.specs.Frames.{Frames, HasPlace, frame_of, with_frame}
use Rattle.ol_pool.proofs.ItemLaws.{item_either, item_same, pages_stay}
use Rattle.ol_stand_laws.proofs.PageMoves.{change_moves, other_stays, undo_moves}
use Rattle.ol_rollfwd.specs.Feeding.{IsShown, KeepsFrames, Shows, fed_from, image_in, pages_after}
use Rattle.ol_rollfwd.specs.Rolls.{Roll, applied, due_place, is_due, is_passed, place_due, place_moved, row_left}

-- ---- frames

pub frames_kept : (p : Frames) (space page : ℕ) (image : List ℕ) → KeepsFrames p (with_frame p space page image)
frames_kept p space page image at_space at_page is =
    (omega (arith, is.0, length-set p.spaces space (slice_set (slice_index_or p.spaces space []) page (Some image))), omega (arith, is.1, pages_stay p.spaces space page (Some image) at_space))

-- one page is another, or is not
here_or : (at_space at_page space page : ℕ) → ((at_space ≡ space) × (at_page ≡ page)) ⊎ ((at_space ≡ space) × (at_page ≡ page) → ⊥)
here_or at_space at_page space page =
    elim (eqb_tells at_space space) [
      | inl e ↦ elim (eqb_tells at_page page) [ inl f ↦ inl (e.1, f.1) | inr f ↦ inr (λ both. f.1 both.1) ]
      | inr e ↦ inr (λ both. e.1 both.0)
    ]

-- ---- an image is put

module _ (c : Config) (p : Frames) (space page : ℕ) (there : HasPlace p space page) where
  here_is : (image : List ℕ) → image_in (with_frame p space page image) space page ≡ image
  here_is image = ap (λ (o : Option (List ℕ)). unwrap_or o (page_bytes blank)) (item_same None p.spaces space page (Some image) there.0 there.1)

  elsewhere_is : (image : List ℕ) (at_space at_page : ℕ) → ((at_space ≡ space) × (at_page ≡ page) → ⊥) → image_in (with_frame p space page image) at_space at_page ≡ image_in p at_space at_page
  elsewhere_is image at_space at_page differ =
      elim (item_either None p.spaces space page (Some image) at_space at_page) [
        | inl e ↦ absurd (differ (e.1, e.2))
        | inr e ↦ ap (λ (o : Option (List ℕ)). unwrap_or o (page_bytes blank)) e
      ]

  -- where the page becomes another, and all others stay
  pub shown_with : (v w : ℕ → ℕ → Page) → IsPage (w space page)
      → ((at_space at_page : ℕ) → has_page c at_space at_page ≡ true → ((at_space ≡ space) × (at_page ≡ page) → ⊥) → w at_space at_page ≡ v at_space at_page)
      → Shows c p v → Shows c (with_frame p space page (page_bytes (w space page))) w
  shown_with v w whole others shows at_space at_page has =
      let q = with_frame p space page (page_bytes (w space page)) in
      let base : IsShown q w space page = record { whole = whole; image = here_is (page_bytes (w space page)) } in
      elim (here_or at_space at_page space page) [
        | inl e ↦ subst (λ (s : ℕ). IsShown q w s at_page) (sym e.0) (subst (λ (g : ℕ). IsShown q w space g) (sym e.1) base)
        | inr e ↦
            (let same : w at_space at_page ≡ v at_space at_page = others at_space at_page has e in
            let old = shows at_space at_page has in
            record {
              whole = subst IsPage (sym same) old.whole;
              image = elsewhere_is (page_bytes (w space page)) at_space at_page e ∙ old.image ∙ ap page_bytes (sym same);
            })
      ]

  -- where a page that was never changed comes into memory
  pub shown_loaded : (v : ℕ → ℕ → Page) → frame_of p space page ≡ None → Shows c p v → Shows c (with_frame p space page (replicate 2048 0)) v
  shown_loaded v none shows at_space at_page has =
      let old = shows at_space at_page has in
      elim (here_or at_space at_page space page) [
        | inl e ↦
            (let was : image_in p at_space at_page ≡ page_bytes blank =
            ap (λ (s : ℕ). image_in p s at_page) e.0 ∙ ap (λ (g : ℕ). image_in p space g) e.1 ∙ ap (λ (o : Option (List ℕ)). unwrap_or o (page_bytes blank)) none in
            let now : image_in (with_frame p space page (replicate 2048 0)) at_space at_page ≡ replicate 2048 0 =
            ap (λ (s : ℕ). image_in (with_frame p space page (replicate 2048 0)) s at_page) e.0 ∙ ap (λ (g : ℕ). image_in (with_frame p space page (replicate 2048 0)) space g) e.1 ∙ here_is (replicate 2048 0) in
            record { whole = old.whole; image = now ∙ sym blank_bytes ∙ sym was ∙ old.image })
        | inr e ↦ record { whole = old.whole; image = elsewhere_is (replicate 2048 0) at_space at_page e ∙ old.image }
      ]

  -- or memory is refused
  pub shown_put : {E : Type 0} (result : Result Unit E) (q : Frames) (v : ℕ → ℕ → Page) → OnOk result (q ≡ with_frame p space page (replicate 2048 0)) → OnErr result (q ≡ p) → frame_of p space page ≡ None → Shows c p v → Shows c q v
  shown_put (Ok u) q v ok err none shows = subst (λ (f : Frames). Shows c f v) (sym ok) (shown_loaded v none shows)
  shown_put (Err e) q v ok err none shows = subst (λ (f : Frames). Shows c f v) (sym err) shows

-- a page that is not found in memory
pub is_none : (o : Option (List ℕ)) (b : Bool) → b ≡ is_some o → b ≡ false → o ≡ None
is_none None b is not = refl
is_none (Some bytes) b is not = absurd (let clash : false ≡ true = sym not ∙ is in cc)

-- an image that is in memory
pub is_there : (o : Option (List ℕ)) (image d : List ℕ) → is_some o ≡ true → unwrap_or o d ≡ image → o ≡ Some image
is_there None image d some is = absurd (let clash : false ≡ true = some in cc)
is_there (Some bytes) image d some is = ap (λ (b : List ℕ). Some b) is

-- ---- the place that a record changes

-- a record leaves something at this place
abbrev pub IsAt : Record → Rid → Type 0
IsAt (BeginRecord n) rid = ⊥
IsAt (Change n at before after) rid = at ≡ rid
IsAt (Undo n at value) rid = at ≡ rid
IsAt (CommitRecord n) rid = ⊥
IsAt (Rolled n) rid = ⊥

due_is : (s : Roll) (at rid : Rid) → due_place s at ≡ Some rid → at ≡ rid
due_is s at rid e = by (is_due s at.space && has_place s.config at) e
  where
    by : (b : Bool) → (if b then Some at else None) ≡ Some rid → at ≡ rid
    by true f = cc
    by false f = absurd (let g : None ≡ Some rid = f in cc)

place_is : (s : Roll) (r : Record) (rid : Rid) → place_due s r ≡ Some rid → IsAt r rid
place_is s (BeginRecord n) rid e = absurd (let g : None ≡ Some rid = e in cc)
place_is s (Change n at before after) rid e = due_is s at rid e
place_is s (Undo n at value) rid e = due_is s at rid e
place_is s (CommitRecord n) rid e = absurd (let g : None ≡ Some rid = e in cc)
place_is s (Rolled n) rid e = absurd (let g : None ≡ Some rid = e in cc)

pub moved_at : (s : Roll) (r : Record) (rid : Rid) → place_moved s r ≡ Some rid → IsAt r rid
moved_at s r rid e = by (is_passed s r) e
  where
    by : (b : Bool) → (if b then None else place_due s r) ≡ Some rid → IsAt r rid
    by true f = absurd (let g : None ≡ Some rid = f in cc)
    by false f = place_is s r rid f

-- what is applied is of the place that is moved
pub applied_at : (s : Roll) (r : Record) (rid : Rid) (row : Option Row) → Some (rid, row) ≡ applied s r → (place_moved s r ≡ Some rid) × (row ≡ row_left r)
applied_at s r rid row e = by (place_moved s r) e
  where
    by : (o : Option Rid) → (let p : Rid × Option Row = (rid, row) in Some p ≡ option_map (λ (at : Rid). let q : Rid × Option Row = (at, row_left r) in q) o) → (o ≡ Some rid) × (row ≡ row_left r)
    by None f = absurd (let p : Rid × Option Row = (rid, row) in let g : Some p ≡ None = f in cc)
    by (Some at) f =
        let same : (let p : Rid × Option Row = (rid, row) in p) ≡ (let q : Rid × Option Row = (at, row_left r) in q) = cc in
        (ap (λ (a : Rid). Some a) (sym (ap (λ (p : Rid × Option Row). p.0) same)), ap (λ (p : Rid × Option Row). p.1) same)

pub apart : (at rid : Rid) (space page : ℕ) → at ≡ rid → ((space ≡ rid.space) × (page ≡ rid.page) → ⊥) → ((at.space == space) && (at.page == page)) ≡ false
apart at rid space page is differ = by ((at.space == space) && (at.page == page)) refl
  where
    by : (b : Bool) → ((at.space == space) && (at.page == page)) ≡ b → b ≡ false
    by false e = refl
    by true e =
        let both = and_parts (at.space == space) (at.page == page) e in
        absurd (differ (sym (eqb-true at.space space both.0) ∙ ap (λ (r : Rid). r.space) is, sym (eqb-true at.page page both.1) ∙ ap (λ (r : Rid). r.page) is))

-- a record changes no page but that of its place
pub untouched : (r : Record) (rid : Rid) (space page : ℕ) → IsAt r rid → ((space ≡ rid.space) × (page ≡ rid.page) → ⊥) → touches space page r ≡ false
untouched (BeginRecord n) rid space page is differ = absurd is
untouched (Change n at before after) rid space page is differ = apart at rid space page is differ
untouched (Undo n at value) rid space page is differ = apart at rid space page is differ
untouched (CommitRecord n) rid space page is differ = absurd is
untouched (Rolled n) rid space page is differ = absurd is

-- the page of its place has its row and its position then
pub moves : (v : Page) (n : ℕ) (r : Record) (rid : Rid) → IsAt r rid → length v.slots ≡ 31 → rid.slot < 31 → page_from v n (r ∷ []) rid.space rid.page ≡ with_slot v rid.slot (row_left r) n
moves v n (BeginRecord m) rid is whole slot = absurd is
moves v n (Change m at before after) rid is whole slot =
    subst (λ (a : Rid). page_from v n (Change m a before after ∷ []) rid.space rid.page ≡ with_slot v rid.slot after n) (sym is) (change_moves v n m rid before after whole slot)
moves v n (Undo m at value) rid is whole slot =
    subst (λ (a : Rid). page_from v n (Undo m a value ∷ []) rid.space rid.page ≡ with_slot v rid.slot value n) (sym is) (undo_moves v n m rid value whole slot)
moves v n (CommitRecord m) rid is whole slot = absurd is
moves v n (Rolled m) rid is whole slot = absurd is

-- ---- the next record is applied

module _ (s : Roll) (r : Record) (v : ℕ → ℕ → Page) (p : Frames) (rid : Rid) (row : Option Row) where
  pub row_put : (stamp : ℕ) (q : Frames) → Some (rid, row) ≡ applied s r → stamp ≡ s.next → s.next < 2 ^ 62 → IfSome row (λ (b : Row). length b ≤ 63) → has_place s.config rid ≡ true
      → HasPlace p rid.space rid.page → is_some (frame_of p rid.space rid.page) ≡ true → Shows s.config p v
      → ((was : Page) → IsPage was → frame_of p rid.space rid.page ≡ Some (page_bytes was) → q ≡ with_frame p rid.space rid.page (page_bytes (with_slot was rid.slot row stamp)))
      → Shows s.config q (pages_after (fed_from s v) r)
  row_put stamp q moved stamp_is small fits has there some shows put =
      let at = applied_at s r rid row moved in
      let parts = and_parts (has_page s.config rid.space rid.page) (nat_lt rid.slot 31) has in
      let slot : rid.slot < 31 = ltb-true rid.slot 31 parts.1 in
      let old = shows rid.space rid.page parts.0 in
      let was = v rid.space rid.page in
      let w = pages_after (fed_from s v) r in
      let now : (space page : ℕ) → w space page ≡ page_from (v space page) s.next (r ∷ []) space page =
      λ space page. ap (λ (o : Option Rid). if is_some o then page_from (v space page) s.next (r ∷ []) space page else v space page) at.0 in
      let here : w rid.space rid.page ≡ with_slot was rid.slot row stamp =
      now rid.space rid.page ∙ moves was s.next r rid (moved_at s r rid at.0) old.whole.whole slot
      ∙ ap (λ (o : Option Row). with_slot was rid.slot o s.next) (sym at.1) ∙ ap (λ n. with_slot was rid.slot row n) (sym stamp_is) in
      let others : (space page : ℕ) → has_page s.config space page ≡ true → ((space ≡ rid.space) × (page ≡ rid.page) → ⊥) → w space page ≡ v space page =
      λ space page is differ. now space page ∙ other_stays (v space page) s.next r space page (shows space page is).whole.whole (untouched r rid space page (moved_at s r rid at.0) differ) in
      let whole : IsPage (w rid.space rid.page) = subst IsPage (sym here) (with_slot_page was rid.slot row stamp old.whole slot fits (omega (arith, stamp_is, small))) in
      let new : q ≡ with_frame p rid.space rid.page (page_bytes (w rid.space rid.page)) =
      put was old.whole (is_there (frame_of p rid.space rid.page) (page_bytes was) (page_bytes blank) some old.image)
      ∙ ap (λ (b : List ℕ). with_frame p rid.space rid.page b) (ap page_bytes (sym here)) in
      subst (λ (f : Frames). Shows s.config f w) (sym new) (shown_with s.config p rid.space rid.page there v w whole others shows)

-- what holds of a place that is known
pub some_there : (P : Rid → Type 0) (o : Option Rid) (rid : Rid) → IfSome o P → o ≡ Some rid → P rid
some_there P None rid holds is = absurd (let g : None ≡ Some rid = is in cc)
some_there P (Some at) rid holds is = subst P (let e : at ≡ rid = cc in e) holds

-- an error of one result is that of another
pub err_moved : {A B E : Type 0} (e f : E) → (let r : Result A E = Err e in r ≡ Err f) → (let r : Result B E = Err e in r ≡ Err f)
err_moved e f same = ap Err (let one : e ≡ f = cc in one)
