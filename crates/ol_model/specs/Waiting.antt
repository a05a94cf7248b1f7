-- The pages of running archives: those to be taken, those that have not passed, and those whose image is kept.
use Rattle.std.specs.List.{range_with_len}
use Rattle.std.specs.Prelude.{Bool, List, None, Option, Some, [], drop, filter, flat_map, if◌then◌else◌, is_none, length, map, nat_lt, sum_by, ℕ}
use Rattle.ol_values.specs.Blocks.{Saved}
use Rattle.ol_values.specs.Config.{Config, data_pages}
use Rattle.ol_model.specs.Machine.{Archive, Machine, config_of, stamp_in, stamp_upto}

-- the pages of a space that were changed above its base, as at a position
abbrev pub changed_upto : Machine → ℕ → Saved → List (ℕ × ℕ)
changed_upto m position s =
    map (λ p. let r : ℕ × ℕ = (s.space, p) in r) (filter (λ p. nat_lt s.base (stamp_upto m position s.space p)) (range_with_len 0 (data_pages (config_of m) s.space)))

-- the pages of an archive, in order of space and page
unfoldable pub pages_of : Machine → Archive → List (ℕ × ℕ)
pages_of m a = flat_map (changed_upto m a.cut) a.spaces

-- those that have not passed
abbrev pub left_of : Machine → Archive → List (ℕ × ℕ)
left_of m a = drop a.passed (pages_of m a)

-- those that have not passed and were changed since the cut: their images at the cut are kept
abbrev pub waiting : Machine → Archive → List (ℕ × ℕ)
waiting m a = filter (λ (p : ℕ × ℕ). nat_lt a.cut (stamp_in m p.0 p.1)) (left_of m a)

-- a broken archive keeps none
abbrev pub waiting_of : Machine → Option Archive → List (ℕ × ℕ)
waiting_of m None = []
waiting_of m (Some a) = if is_none a.broken then waiting m a else []

-- how many images are kept for all running archives
abbrev pub images_held : Machine → ℕ
images_held m = sum_by (λ a. length (waiting_of m a)) m.archives
