-- What keeps hints true.
use Rattle.std.specs.Prelude.{Bool, List, None, Option, Some, [], false, if◌then◌else◌, is_none, is_some, min, slice_index, slice_set, suc, true, zero, ℕ, ◌&&◌, ◌<◌, ◌==◌, ◌≡◌, ◌≤◌, ◌⊎◌, ◌∷◌}
use Rattle.std.proofs.Common.{ap, arith, inl, inr, refl, subst, sym, ⊎_elim, ◌∙◌}
use Rattle.std.proofs.Math.Nat.{min-le_left, min-le_right}
use Rattle.std.proofs.lemmas.Bool.{and_parts, cases_Bool}
use Rattle.std.proofs.lemmas.Bool.Decides.{nat_tests}
use Rattle.ol_values.specs.declared.record.Record.{Record}
use Rattle.ol_values.specs.declared.record.Record.TheVariants.{Begin, Change, Commit, Rolled, Undo}
use Rattle.ol_values.specs.declared.record.Rid.{Rid}
use Rattle.ol_values.specs.declared.row.Row.{Row}
use Rattle.ol_values.specs.Config.{Config, has_place}
use Rattle.ol_values.specs.Pages.{rid_of}
use Rattle.ol_rules.specs.Journal.{row_after, same_place}
use Rattle.ol_model.specs.Machine.{Machine, config_of}
use Rattle.ol_model.specs.Steps.{change_row}
use Rattle.ol_turn_laws.proofs.KeptLaws.{before_stays}
use Rattle.ol_free_slots.specs.declared.hints.Hints.{Hints}
use Rattle.ol_free_slots.specs.Filled.{AreFilled, empties, hint_of, with_emptied}
use Rattle.ol_free_slots.specs.Slots.{Rows}

-- ---- one number of a list

-- a number that is lowered leaves none greater
lowered : (l : List ℕ) (i j p : ℕ) → slice_index (slice_set l i (min (slice_index l i) p)) j ≤ slice_index l j
lowered [] i j p = omega arith
lowered (x ∷ l) zero zero p = min-le_left x p
lowered (x ∷ l) zero (suc j) p = omega arith
lowered (x ∷ l) (suc i) zero p = omega arith
lowered (x ∷ l) (suc i) (suc j) p = lowered l i j p

-- nor is it itself greater than what it was lowered to
capped : (l : List ℕ) (i p : ℕ) → slice_index (slice_set l i (min (slice_index l i) p)) i ≤ p
capped [] i p = omega arith
capped (x ∷ l) zero p = min-le_right x p
capped (x ∷ l) (suc i) p = capped l i p

-- below a number that is set lies what lay below the old one there, or this is the one that is set
pub raised : (l : List ℕ) (i j p v : ℕ) → v < slice_index (slice_set l i p) j → ((j ≡ i) × (v < p)) ⊎ (v < slice_index l j)
raised [] i j p v below = inr below
raised (x ∷ l) zero zero p v below = inl (refl, below)
raised (x ∷ l) zero (suc j) p v below = inr below
raised (x ∷ l) (suc i) zero p v below = inr below
raised (x ∷ l) (suc i) (suc j) p v below = ⊎_elim (λ own. inl (ap (λ (n : ℕ). suc n) own.0, own.1)) (λ old. inr old) (raised l i j p v below)

-- ---- rows that stay

some_of : (o : Option Row) → is_none o ≡ false → is_some o ≡ true
some_of None e = absurd (let c : true ≡ false = e in cc)
some_of (Some row) e = refl

chosen : (b : Bool) (one other : Option Row) → is_some one ≡ true → is_some other ≡ true → is_some (if b then one else other) ≡ true
chosen true one other e f = e
chosen false one other e f = f

-- a record that empties no slot leaves a row where one is
some_after : (at : Rid) (held : Option Row) (r : Record) → empties r ≡ false → is_some held ≡ true → is_some (row_after at held r) ≡ true
some_after at held (Begin txn) none is = is
some_after at held (Change txn rid before after) none is = chosen (same_place rid at) after held (some_of after none) is
some_after at held (Undo txn rid value) none is = chosen (same_place rid at) value held (some_of value none) is
some_after at held (Commit txn) none is = is
some_after at held (Rolled txn) none is = is

-- ---- hints stay true

-- where the same is there, and places hold the same
pub alike_filled : (h : Hints) (c d : Config) (old new : Rows) → d ≡ c → ((at : Rid) → has_place c at ≡ true → new at ≡ old at) → AreFilled h c old → AreFilled h d new
alike_filled h c d old new same rows is = record {
  filled = λ space page slot there below.
      let within : has_place c (rid_of space page slot) ≡ true = subst (λ (x : Config). has_place x (rid_of space page slot) ≡ true) same there in
      ap (λ (o : Option Row). is_some o) (rows (rid_of space page slot) within) ∙ is.filled space page slot within below;
}

-- behind a record that empties no slot
pub record_filled : (h : Hints) (c d : Config) (old new : Rows) (r : Record) → d ≡ c → empties r ≡ false → ((at : Rid) → new at ≡ row_after at (old at) r) → AreFilled h c old → AreFilled h d new
record_filled h c d old new r same none rows is = record {
  filled = λ space page slot there below.
      let within : has_place c (rid_of space page slot) ≡ true = subst (λ (x : Config). has_place x (rid_of space page slot) ≡ true) same there in
      ap (λ (o : Option Row). is_some o) (rows (rid_of space page slot)) ∙ some_after (rid_of space page slot) (old (rid_of space page slot)) r none (is.filled space page slot within below);
}

kept_other : (b : Bool) (one other : Option Row) → b ≡ false → (if b then one else other) ≡ other
kept_other true one other e = absurd (let c : true ≡ false = e in cc)
kept_other false one other e = refl

-- behind a record of one slot, of which the hints were told that it was emptied
pub emptied_filled : (h : Hints) (c d : Config) (old new : Rows) (rid : Rid) (after : Option Row) → d ≡ c → ((at : Rid) → new at ≡ (if same_place rid at then after else old at)) → AreFilled h c old → AreFilled (with_emptied h rid.space rid.page) d new
emptied_filled h c d old new rid after same rows is = record {
  filled = λ space page slot there below.
      let within : has_place c (rid_of space page slot) ≡ true = subst (λ (x : Config). has_place x (rid_of space page slot) ≡ true) same there in
      let before : page < hint_of h space = omega (arith, below, lowered h.first rid.space space rid.page) in
      elim (cases_Bool (same_place rid (rid_of space page slot))) [
        | inl own ↦ absurd (own_page space page slot below own)
        | inr other ↦ ap (λ (o : Option Row). is_some o) (rows (rid_of space page slot) ∙ kept_other (same_place rid (rid_of space page slot)) after (old (rid_of space page slot)) other) ∙ is.filled space page slot within before
      ];
}
  where
    own_page : (space page slot : ℕ) → page < hint_of (with_emptied h rid.space rid.page) space → same_place rid (rid_of space page slot) ≡ true → ⊥
    own_page space page slot below own =
        let parts = and_parts (rid.space == space) ((rid.page == page) && (rid.slot == slot)) own in
        let of_space : rid.space ≡ space = grind (arith, nat_tests, parts.0) in
        let of_page : rid.page ≡ page = grind (arith, nat_tests, (and_parts (rid.page == page) (rid.slot == slot) parts.1).0) in
        let least : slice_index (with_emptied h rid.space rid.page).first rid.space ≤ rid.page = capped h.first rid.space rid.page in
        let here : page < slice_index (with_emptied h rid.space rid.page).first rid.space = subst (λ s. page < slice_index (with_emptied h rid.space rid.page).first s) (sym of_space) below in
        omega (arith, least, here, of_page)

-- where the rows of one space are others
pub others_filled : (h : Hints) (c d : Config) (old new : Rows) (space : ℕ) → d ≡ c → ((at : Rid) → (at.space ≡ space → ⊥) → new at ≡ old at) → AreFilled h c old → AreFilled (with_emptied h space 0) d new
others_filled h c d old new space same rows is = record {
  filled = λ s page slot there below.
      let within : has_place c (rid_of s page slot) ≡ true = subst (λ (x : Config). has_place x (rid_of s page slot) ≡ true) same there in
      let before : page < hint_of h s = omega (arith, below, lowered h.first space s 0) in
      let apart : s ≡ space → ⊥ = λ own. (let none : hint_of (with_emptied h space 0) space ≤ 0 = capped h.first space 0 in
      let here : page < hint_of (with_emptied h space 0) space = subst (λ x. page < hint_of (with_emptied h space 0) x) own below in omega (arith, none, here)) in
      ap (λ (o : Option Row). is_some o) (rows (rid_of s page slot) apart) ∙ is.filled s page slot within before;
}

-- a change of a row leaves the configuration
pub change_config : (n : ℕ) (place : Rid) (r : Record) (m : Machine) → config_of (change_row n place r m) ≡ config_of m
change_config n place r m = ap (λ f. f.config) (before_stays n (place.space, place.page) m).fixed
