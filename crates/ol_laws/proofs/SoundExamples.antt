-- Journals that are sound, and such as are not. All of it computes.
use Rattle.std.specs.Prelude.{List, None, Option, Some, [], codes, false, refl, true, ℕ, ◌∷◌, ◌≡◌}
use Rattle.std.proofs.Common.{arith}
use Rattle.ol_values.specs.declared.record.Record.{Record}
use Rattle.ol_values.specs.declared.record.Record.TheVariants.{Begin, Change, Commit, Rolled, Undo}
use Rattle.ol_values.specs.declared.record.Rid.{Rid}
use Rattle.ol_values.specs.declared.row.Row.{Row}
use Rattle.ol_values.specs.Config.{Config}
use Rattle.ol_rules.specs.Effects.{effect_at}
use Rattle.ol_values.specs.Pages.{rid_of}
use Rattle.ol_rules.specs.Journal.{row_at}
use Rattle.ol_rules.specs.Sound.{Sound}
use Rattle.ol_rules.specs.Transactions.{rolled_back}

-- root with 12 data pages and data1 with 8
abbrev pub config : Config
config = record {
  spaces = record { name = codes "root"; chunks = 100 ∷ [] } ∷ record { name = codes "data1"; chunks = 8 ∷ [] } ∷ [];
  physical_space = 0;
  physical_entries = 8;
  log_space = 0;
  log_files = 3;
  log_file_pages = 20;
  image_limit = 2;
}

-- a row is inserted and committed
abbrev pub journal : List Record
journal = Begin 1 ∷ Change 1 (rid_of 1 0 0) None (Some (codes "ann")) ∷ Commit 1 ∷ []

-- ---- sound

abbrev place : Rid
place = rid_of 1 0 0

abbrev ann : Option Row
ann = Some (codes "ann")

abbrev bob : Option Row
bob = Some (codes "bob")

pub committed_is_sound : Sound config journal
committed_is_sound = (
  (refl, omega arith),
  (omega arith, omega arith),
  (
    record { held = refl; something = refl; value = refl; forward = refl; alone = refl; there = refl },
    (omega arith, omega arith),
    (
      refl,
      (omega arith, omega arith),
      tt,
    ),
  ),
)

-- the second transaction inserts another row, changes the first, and has taken that change back
abbrev pub half_undone : List Record
half_undone =
    Begin 1
    ∷ Change 1 place None ann
    ∷ Commit 1
    ∷ Begin 4
    ∷ Change 4 (rid_of 1 0 1) None bob
    ∷ Change 4 place ann bob
    ∷ Undo 4 place ann
    ∷ []

pub half_undone_is_sound : Sound config half_undone
half_undone_is_sound = (
  (refl, omega arith),
  (omega arith, omega arith),
  (
    record { held = refl; something = refl; value = refl; forward = refl; alone = refl; there = refl },
    (omega arith, omega arith),
    (
      refl,
      (omega arith, omega arith),
      (
        (refl, omega arith),
        (omega arith, omega arith),
        (
          record { held = refl; something = refl; value = refl; forward = refl; alone = refl; there = refl },
          (omega arith, omega arith),
          (
            record { held = refl; something = refl; value = refl; forward = refl; alone = refl; there = refl },
            (omega arith, omega arith),
            (
              record { newest = refl; there = refl },
              (omega arith, omega arith),
              tt,
            ),
          ),
        ),
      ),
    ),
  ),
)

pub rolled_back_is : rolled_back half_undone ≡
    Begin 1
    ∷ Change 1 place None ann
    ∷ Commit 1
    ∷ Begin 4
    ∷ Change 4 (rid_of 1 0 1) None bob
    ∷ Change 4 place ann bob
    ∷ Undo 4 place ann
    ∷ Undo 4 (rid_of 1 0 1) None
    ∷ Rolled 4
    ∷ []
rolled_back_is = refl

pub effect_is : effect_at half_undone place ≡ ann
effect_is = refl

pub row_is : row_at half_undone (rid_of 1 0 1) ≡ bob
row_is = refl

pub no_effect : effect_at half_undone (rid_of 1 0 1) ≡ None
no_effect = refl

-- ---- not sound

pub no_change_without_begin : (c : Config) (n : ℕ) (before after : Option Row) → Sound c (Change n place before after ∷ []) → ⊥
no_change_without_begin c n before after s = s.0

pub no_undo_without_begin : (c : Config) (n : ℕ) (value : Option Row) → Sound c (Undo n place value ∷ []) → ⊥
no_undo_without_begin c n value s = s.0

pub no_commit_without_begin : (c : Config) (n : ℕ) → Sound c (Commit n ∷ []) → ⊥
no_commit_without_begin c n s = s.0

pub no_rolled_without_begin : (c : Config) (n : ℕ) → Sound c (Rolled n ∷ []) → ⊥
no_rolled_without_begin c n s = s.0

pub no_second_commit : (c : Config) → Sound c (Begin 1 ∷ Commit 1 ∷ Commit 1 ∷ []) → ⊥
no_second_commit c s = s.2.2.0

pub no_begin_out_of_place : (c : Config) → Sound c (Begin 2 ∷ []) → ⊥
no_begin_out_of_place c s = omega (arith, (s.0).0)

pub no_change_of_nothing : (c : Config) → Sound c (Begin 1 ∷ Change 1 place None None ∷ []) → ⊥
no_change_of_nothing c s = absurd (let e : false ≡ true = (s.2.0).something in cc)

pub no_commit_once_undone : (c : Config) → Sound c (Begin 1 ∷ Change 1 place None ann ∷ Undo 1 place None ∷ Commit 1 ∷ []) → ⊥
no_commit_once_undone c s = absurd (let e : true ≡ false = s.2.2.2.0 in cc)

pub no_rolled_before_undo : (c : Config) → Sound c (Begin 1 ∷ Change 1 place None ann ∷ Rolled 1 ∷ []) → ⊥
no_rolled_before_undo c s = absurd (let e : (place, None) ∷ [] ≡ [] = s.2.2.0 in cc)

pub no_change_beside_another : (c : Config) → Sound c (Begin 1 ∷ Begin 2 ∷ Change 1 place None ann ∷ Change 2 place ann bob ∷ []) → ⊥
no_change_beside_another c s = absurd (let e : false ≡ true = (s.2.2.2.0).alone in cc)
