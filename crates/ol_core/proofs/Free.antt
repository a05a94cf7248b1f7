-- The least empty slot of a space whose rows fill its slots in order.
use Rattle.std.specs.List.{range_with_len}
use Rattle.std.specs.Prelude.{Bool, List, None, Some, false, find, is_none, map, nat_le, suc, true, zero, ℕ, ◌*◌, ◌+◌, ◌<◌, ◌∷◌, ◌≡◌, ◌≤◌, refl}
use Rattle.std.proofs.Common.{ap, arith, ◌∙◌}
use Rattle.std.proofs.lemmas.Bool.Decides.{nat_tests}
use Rattle.ol_values.specs.declared.record.Record.{Record}
use Rattle.ol_values.specs.declared.record.Rid.{Rid}
use Rattle.ol_values.specs.Config.{Config, data_pages}
use Rattle.ol_rules.specs.Journal.{row_at}
use Rattle.ol_core.specs.Machine.{first_free}
use Rattle.ol_core.specs.Filled.{slot_at}

find_first : (space : ℕ) (test : Rid → Bool) (a n bound : ℕ) → ((i : ℕ) → test (slot_at space i) ≡ nat_le bound i) → a ≤ bound → bound < a + n → find test (map (slot_at space) (range_with_len a n)) ≡ Some (slot_at space bound)
find_first space test a zero bound tests le lt = absurd (omega arith)
find_first space test a (suc n) bound tests le lt = cases (nat_le bound a) refl (λ more. find_first space test (a + 1) n bound tests more (omega arith))
  where
    cases : (b : Bool) → nat_le bound a ≡ b → (a + 1 ≤ bound → find test (map (slot_at space) (range_with_len (a + 1) n)) ≡ Some (slot_at space bound))
        → find test (slot_at space a ∷ map (slot_at space) (range_with_len (a + 1) n)) ≡ Some (slot_at space bound)
    cases true e rest = let here : a ≡ bound = grind (arith, nat_tests) in rw (tests a, e) (ap (λ (i : ℕ). Some (slot_at space i)) here)
    cases false e rest = let more : a + 1 ≤ bound = grind (arith, nat_tests) in rw (tests a, e) (rest more)

find_none : (space : ℕ) (test : Rid → Bool) (a n bound : ℕ) → ((i : ℕ) → test (slot_at space i) ≡ nat_le bound i) → a + n ≤ bound → find test (map (slot_at space) (range_with_len a n)) ≡ None
find_none space test a zero bound tests le = refl
find_none space test a (suc n) bound tests le =
    let here : test (slot_at space a) ≡ false = tests a ∙ grind (arith, nat_tests) in
    rw here (find_none space test (a + 1) n bound tests (omega arith))

pub free_slot : (c : Config) (j : List Record) (space rows : ℕ) → ((i : ℕ) → is_none (row_at j (slot_at space i)) ≡ nat_le rows i) → rows < data_pages c space * 31 → first_free c j space ≡ Some (slot_at space rows)
unfolding first_free
free_slot c j space rows slots lt = find_first space (λ r. is_none (row_at j r)) 0 (data_pages c space * 31) rows slots (omega arith) (omega arith)

pub no_slot : (c : Config) (j : List Record) (space rows : ℕ) → ((i : ℕ) → is_none (row_at j (slot_at space i)) ≡ nat_le rows i) → data_pages c space * 31 ≤ rows → first_free c j space ≡ None
unfolding first_free
no_slot c j space rows slots le = find_none space (λ r. is_none (row_at j r)) 0 (data_pages c space * 31) rows slots (omega arith)
