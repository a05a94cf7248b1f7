-- What the slots of a page tell.
use Rattle.std.specs.Prelude.{Bool, None, Option, Some, false, is_none, is_some, not, true, ℕ, ◌&&◌, ◌+◌, ◌<◌, ◌≡◌, ◌⊎◌}
use Rattle.std.proofs.Common.{ap, arith, inl, inr, refl, subst, sym, ⊎_elim, ◌∙◌}
use Rattle.std.proofs.lemmas.Bool.Decides.{eqb_tells}
use Rattle.ol_values.specs.declared.record.Rid.{Rid}
use Rattle.ol_values.specs.declared.row.Row.{Row as RowValue}
use Rattle.ol_values.specs.Pages.{rid_of}
use Rattle.ol_rules.specs.Locks.{is_locked}
use Rattle.ol_free_slots.specs.declared.slots.Slot.{Slot}
use Rattle.ol_free_slots.specs.Slots.{AreTaken, IsLeast, IsTold, Rows, Table, is_free, is_free_slot, keeps_full, look_of, slot_of}

-- ---- one slot

slot_is_free : (o : Option RowValue) (locked : Bool) → is_free_slot (slot_of o locked) ≡ (is_none o && not locked)
slot_is_free (Some row) locked = refl
slot_is_free None true = refl
slot_is_free None false = refl

slot_is_row : (o : Option RowValue) (locked full : Bool) → keeps_full (slot_of o locked) full ≡ true → (full ≡ true) × (is_some o ≡ true)
slot_is_row (Some row) locked full e = (e, refl)
slot_is_row None true full e = absurd (let c : false ≡ true = e in cc)
slot_is_row None false full e = absurd (let c : false ≡ true = e in cc)

slot_is_empty : (o : Option RowValue) (locked full : Bool) → keeps_full (slot_of o locked) full ≡ false → (full ≡ false) ⊎ (is_none o ≡ true)
slot_is_empty (Some row) locked full e = inl e
slot_is_empty None true full e = inr refl
slot_is_empty None false full e = inr refl

-- the slot that was found tells whether the place is free
found_free : (rows : Rows) (table : Table) (rid : Rid) (found : Slot) (b : Bool) → found ≡ slot_of (rows rid) (is_locked table rid) → is_free_slot found ≡ b → is_free rows table rid ≡ b
found_free rows table rid found b is free = sym (slot_is_free (rows rid) (is_locked table rid)) ∙ ap is_free_slot (sym is) ∙ free

-- ---- one page

pub taken_none : (rows : Rows) (table : Table) (space page : ℕ) → AreTaken rows table space page 0 true
taken_none rows table space page = record { none = λ slot below. absurd (omega (arith, below)); filled = λ on slot below. absurd (omega (arith, below)); empty = λ off. absurd (let c : true ≡ false = off in cc) }

pub taken_more : (rows : Rows) (table : Table) (space page count : ℕ) (full : Bool) (found : Slot) → found ≡ slot_of (rows (rid_of space page count)) (is_locked table (rid_of space page count)) → is_free_slot found ≡ false → AreTaken rows table space page count full
    → AreTaken rows table space page (count + 1) (keeps_full found full)
taken_more rows table space page count full found is taken before = record {
  none = λ slot below. elim (eqb_tells slot count) [
    | inl here ↦ subst (λ k. is_free rows table (rid_of space page k) ≡ false) (sym here.1) (found_free rows table (rid_of space page count) found false is taken)
    | inr there ↦ before.none slot (omega (arith, below, there.1))
  ];
  filled = λ on slot below.
      let both = slot_is_row (rows (rid_of space page count)) (is_locked table (rid_of space page count)) full (ap (λ (s : Slot). keeps_full s full) (sym is) ∙ on) in
      elim (eqb_tells slot count) [
        | inl here ↦ subst (λ k. is_some (rows (rid_of space page k)) ≡ true) (sym here.1) both.1
        | inr there ↦ before.filled both.0 slot (omega (arith, below, there.1))
      ];
  empty = λ off. ⊎_elim
      (λ old. let e = before.empty old in (e.0, omega (arith, e.1), e.2))
      (λ here. (count, omega arith, here))
      (slot_is_empty (rows (rid_of space page count)) (is_locked table (rid_of space page count)) full (ap (λ (s : Slot). keeps_full s full) (sym is) ∙ off));
}

pub taken_least : (rows : Rows) (table : Table) (space page count : ℕ) (full : Bool) (found : Slot) → found ≡ slot_of (rows (rid_of space page count)) (is_locked table (rid_of space page count)) → is_free_slot found ≡ true → count < 31 → AreTaken rows table space page count full
    → IsLeast rows table space page count
taken_least rows table space page count full found is free small before = record { small = small; free = found_free rows table (rid_of space page count) found true is free; none = before.none }

pub taken_told : (rows : Rows) (table : Table) (space page : ℕ) (full : Bool) → AreTaken rows table space page 31 full → IsTold rows table space page (look_of full)
taken_told rows table space page true is = is
taken_told rows table space page false is = is
