-- The spaces of running archives stay up where an archive is put away, or lets a page pass.
use Rattle.std.specs.Prelude.{Bool, List, None, Option, Some, false, slice_index_or, true, ℕ, ◌-◌, ◌≡◌}
use Rattle.std.proofs.Common.{ap, inl, inr, subst, sym, ◌∙◌}
use Rattle.ol_pool.proofs.ListLaws.{set_either}
use Rattle.ol_reserve.specs.declared.anchor.Anchor.{Anchor}
use Rattle.ol_running.specs.declared.running.Running.{Running}
use Rattle.ol_running.specs.Running.{running_of, with_running}
use Rattle.ol_archive_turns.specs.Ending.{AreNumbered, IsNumbered}
use Rattle.ol_archive_turns.specs.Turns.{AreAllUp, runs_in}

-- an archive whose spaces are up takes the place of another
pub up_with : (a : Anchor) (l : List (Option Running)) (k : ℕ) (o : Option Running) → ((space : ℕ) → runs_in space o ≡ true → runs_in space (running_of l k) ≡ true) → AreAllUp a l → AreAllUp a (with_running k o l)
up_with a l k o less up j space has =
    elim (set_either l (k - 1) o (j - 1) None) [
      | inl new ↦ up k space (less space (ap (λ (x : Option Running). runs_in space x) (sym new.0) ∙ has))
      | inr old ↦ up j space (ap (λ (x : Option Running). runs_in space x) (sym old) ∙ has)
    ]

-- none has no spaces
pub up_none : (a : Anchor) (l : List (Option Running)) (k : ℕ) → AreAllUp a l → AreAllUp a (with_running k None l)
up_none a l k up = up_with a l k None (λ space has. absurd (let never : false ≡ true = has in cc)) up

-- one that a page has passed has the same spaces
pub up_passed : (a : Anchor) (l : List (Option Running)) (k : ℕ) (r s : Running) → running_of l k ≡ Some r → s.cursor.spaces ≡ r.cursor.spaces → AreAllUp a l → AreAllUp a (with_running k (Some s) l)
up_passed a l k r s is same =
    up_with a l k (Some s) (λ space has. ap (λ (o : Option Running). runs_in space o) is ∙ ap (λ (l : List Bool). slice_index_or l space false) (sym same) ∙ has)

-- ---- numbers

-- an archive whose numbers fit takes the place of another
pub numbered_with : (l : List (Option Running)) (k : ℕ) (o : Option Running) → IsNumbered o → AreNumbered l → AreNumbered (with_running k o l)
numbered_with l k o fits all j =
    elim (set_either l (k - 1) o (j - 1) None) [
      | inl new ↦ subst (λ (x : Option Running). IsNumbered x) (sym new.0) fits
      | inr old ↦ subst (λ (x : Option Running). IsNumbered x) (sym old) (all j)
    ]

-- those of one that is held fit
pub numbered_at : (l : List (Option Running)) (k : ℕ) (r : Running) → running_of l k ≡ Some r → AreNumbered l → IsNumbered (Some r)
numbered_at l k r is all = subst (λ (x : Option Running). IsNumbered x) is (all k)
