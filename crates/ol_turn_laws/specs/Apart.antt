-- Running archives that share no space.
use Rattle.std.specs.Prelude.{true, ℕ, ◌≡◌, ◌≤◌}
use Rattle.ol_model.specs.Machine.{Machine, archive_of, archives_space}

-- two archivers whose archives hold one space are one
abbrev pub Apart : Machine → Type 0
Apart m = (j k space : ℕ) → 1 ≤ j → 1 ≤ k → archives_space space (archive_of m j) ≡ true → archives_space space (archive_of m k) ≡ true → j ≡ k
