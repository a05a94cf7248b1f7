-- A page comes into memory, and a slot of it is changed.
use Rattle.std.proofs.Common.{◌≡◌, ℕ, ◌<◌, ◌≤◌, ◌^◌, ◌&&◌, ◌==◌, inl, inr, Bool, true, false, Some, Option, IfSome, List, length, refl, sym, ◌∙◌, ap, subst, arith, if◌then◌else◌}
use Rattle.std.proofs.lemmas.Bool.{eq-eqb, eqb-true, and_parts}
use Rattle.ol_values.specs.Config.{Config}
use Rattle.ol_values.specs.Image.{IsDataPage, page_bytes, with_slot}
use Rattle.ol_values.specs.Pages.{Page}
use Rattle.ol_values.specs.declared.record.Rid.{Rid}
use Rattle.ol_values.specs.declared.row.Row.{Row}
use Rattle.ol_page.proofs.Slots.{with_slot_page}
use Rattle.ol_ports.specs.Disk.{Past}
use Rattle.ol_physlog.specs.States.{Log}
use Rattle.ol_pool.specs.Frames.{Frames, frame_of, is_dirty}
use Rattle.ol_store.specs.Holding.{AreOnDisk}
use Rattle.ol_store.specs.Pages.{IsUp, Pages, changed, with_page}
use Rattle.ol_store.specs.Stores.{is_touched}
use Rattle.ol_store.proofs.WriteLaws.{one_or_two}

-- the page that was changed, and the others
pub page_here : (pages : ℕ → ℕ → Page) (space page : ℕ) (p : Page) → with_page pages space page p space page ≡ p
page_here pages space page p = ap (λ (b : Bool). if b then p else pages space page) (ap (λ (b : Bool). b && (page == page)) (eq-eqb space space refl) ∙ eq-eqb page page refl)

pub page_elsewhere : (pages : ℕ → ℕ → Page) (space page at_space at_page : ℕ) (p : Page) → ((space ≡ at_space) × (page ≡ at_page) → ⊥) → with_page pages space page p at_space at_page ≡ pages at_space at_page
page_elsewhere pages space page at_space at_page p differ = each ((at_space == space) && (at_page == page)) refl
  where
    each : (b : Bool) → ((at_space == space) && (at_page == page)) ≡ b → (if b then p else pages at_space at_page) ≡ pages at_space at_page
    each false out = refl
    each true same = absurd (differ (let both = and_parts (at_space == space) (at_page == page) same in (sym (eqb-true at_space space both.0), sym (eqb-true at_page page both.1))))

-- a page with another row is a data page
pub slot_set : (p : Page) (slot : ℕ) (row : Option Row) (stamp : ℕ) → IsDataPage p → slot < 31 → IfSome row (λ r. length r ≤ 63) → 0 < stamp → stamp ≤ 2 ^ 62 → IsDataPage (with_slot p slot row stamp)
slot_set p slot row stamp is lt fits some limit = record {
  page = with_slot_page p slot row stamp is.page lt fits (omega (arith, limit));
  stamp = limit;
  unchanged = λ none. absurd (omega (arith, none, some));
}

module _ (past : Past) (c : Config) (pool now : Frames) (log : Log) (written : List Bool) (v : Pages) (h : AreOnDisk past c pool log written v) where
  -- a page that is read into memory
  pub page_loaded : now.dirty ≡ pool.dirty → ((space page : ℕ) (bytes : List ℕ) → IsUp c v space page → frame_of now space page ≡ Some bytes → bytes ≡ page_bytes (v.now space page)) → AreOnDisk past c now log written v
  page_loaded same there = record {
    laid = h.laid;
    unsettled = h.unsettled;
    dirty = λ space page is. h.dirty space page (sym (dirty space page) ∙ is);
    clean = λ space page up not_dirty. h.clean space page up (sym (dirty space page) ∙ not_dirty);
    synced = λ d rest space page up not_dirty unmarked. h.synced d rest space page up (sym (dirty space page) ∙ not_dirty) unmarked;
    in_memory = there;
    untouched = h.untouched;
    pages = h.pages;
  }
    where
      dirty : (space page : ℕ) → is_dirty now space page ≡ is_dirty pool space page
      dirty space page = ap (λ (l : List (ℕ × ℕ)). is_dirty (let f : Frames = record { spaces = now.spaces; dirty = l } in f) space page) same

  module _ (rid : Rid) (row : Option Row) (stamp : ℕ) (touched : is_touched log rid.space rid.page ≡ true)
      (frames : (space page : ℕ) → ((rid.space ≡ space) × (rid.page ≡ page) → ⊥) → frame_of now space page ≡ frame_of pool space page)
      (here : frame_of now rid.space rid.page ≡ Some (page_bytes (with_slot (v.now rid.space rid.page) rid.slot row stamp)))
      (dirty : is_dirty now rid.space rid.page ≡ true) (others : (space page : ℕ) → ((rid.space ≡ space) × (rid.page ≡ page) → ⊥) → is_dirty now space page ≡ is_dirty pool space page)
      (good : IsDataPage (with_slot (v.now rid.space rid.page) rid.slot row stamp)) where
    abbrev Is : ℕ → ℕ → Type 0
    Is space page = (rid.space ≡ space) × (rid.page ≡ page)

    differ : (space page : ℕ) → is_dirty now space page ≡ false → Is space page → ⊥
    differ space page not_dirty both =
        let is : is_dirty now space page ≡ true = subst (λ (k : ℕ). is_dirty now k page ≡ true) both.0 (subst (λ (k : ℕ). is_dirty now rid.space k ≡ true) both.1 dirty) in
        let clash : true ≡ false = sym is ∙ not_dirty in cc

    same_page : (space page : ℕ) → (Is space page → ⊥) → (changed v rid row stamp).now space page ≡ v.now space page
    same_page space page other = page_elsewhere v.now rid.space rid.page space page (with_slot (v.now rid.space rid.page) rid.slot row stamp) other

    this_page : (changed v rid row stamp).now rid.space rid.page ≡ with_slot (v.now rid.space rid.page) rid.slot row stamp
    this_page = page_here v.now rid.space rid.page (with_slot (v.now rid.space rid.page) rid.slot row stamp)

    moved : (P : ℕ → ℕ → Type 0) → P rid.space rid.page → (space page : ℕ) → Is space page → P space page
    moved P p space page both = subst (λ (k : ℕ). P k page) both.0 (subst (λ (k : ℕ). P rid.space k) both.1 p)

    -- a slot of a page is changed in memory
    pub page_changed : AreOnDisk past c now log written (changed v rid row stamp)
    page_changed = record {
      laid = h.laid;
      unsettled = h.unsettled;
      dirty = λ space page is. elim (one_or_two rid.space rid.page space page) [
        | inl both ↦ moved (λ s p. is_touched log s p ≡ true) touched space page both
        | inr other ↦ h.dirty space page (sym (others space page other) ∙ is)
      ];
      clean = λ space page up not_dirty. let other = differ space page not_dirty in h.clean space page up (sym (others space page other) ∙ not_dirty) ∙ ap page_bytes (sym (same_page space page other));
      synced = λ d rest space page up not_dirty unmarked. let other = differ space page not_dirty in h.synced d rest space page up (sym (others space page other) ∙ not_dirty) unmarked ∙ ap page_bytes (sym (same_page space page other));
      in_memory = λ space page bytes up there. elim (one_or_two rid.space rid.page space page) [
        | inl both ↦ moved (λ s p. frame_of now s p ≡ Some bytes → bytes ≡ page_bytes ((changed v rid row stamp).now s p)) (λ is. some_same bytes (page_bytes (with_slot (v.now rid.space rid.page) rid.slot row stamp)) (sym is ∙ here) ∙ ap page_bytes (sym this_page)) space page both there
        | inr other ↦ h.in_memory space page bytes up (sym (frames space page other) ∙ there) ∙ ap page_bytes (sym (same_page space page other))
      ];
      untouched = λ space page up none. same_page space page (λ both. let is : is_touched log space page ≡ true = moved (λ s p. is_touched log s p ≡ true) touched space page both in let clash : true ≡ false = sym is ∙ none in cc) ∙ h.untouched space page up none;
      pages = λ space page up. elim (one_or_two rid.space rid.page space page) [
        | inl both ↦ moved (λ s p. IsDataPage ((changed v rid row stamp).now s p)) (subst IsDataPage (sym this_page) good) space page both
        | inr other ↦ subst IsDataPage (sym (same_page space page other)) (h.pages space page up)
      ];
    }
      where
        some_same : (a b : List ℕ) → Some a ≡ Some b → a ≡ b
        some_same a b same = cc
