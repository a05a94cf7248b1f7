-- The pages of an archive stay where configuration, start and records do, and behind a record that follows its cut.
use Rattle.std.specs.List.{range_with_len}
use Rattle.std.specs.Prelude.{List, [], filter, flat_map, map, nat_lt, refl, ℕ, ◌-◌, ◌∷◌, ◌≡◌, ◌≤◌}
use Rattle.std.proofs.Common.{ap, arith, sym, ◌∙◌}
use Rattle.std.proofs.lemmas.List.{take-append-le}
use Rattle.ol_values.specs.declared.record.Record.{Record}
use Rattle.ol_values.specs.Blocks.{Saved}
use Rattle.ol_values.specs.Config.{Config, data_pages}
use Rattle.ol_rules.specs.Start.{Start, stamp_behind, upto}
use Rattle.ol_model.specs.Machine.{Archive, Machine, config_of, last_of}
use Rattle.ol_model.specs.Steps.{append}
use Rattle.ol_model.specs.Waiting.{pages_of}

-- the pages that these records leave above the bases of an archive's spaces
abbrev pages_by : Config → Start → List Record → Archive → List (ℕ × ℕ)
pages_by c s first a =
    flat_map (λ (v : Saved). map (λ p. let r : ℕ × ℕ = (v.space, p) in r) (filter (λ p. nat_lt v.base (stamp_behind s first v.space p)) (range_with_len 0 (data_pages c v.space)))) a.spaces

pages_are : (m : Machine) (a : Archive) → pages_of m a ≡ pages_by (config_of m) m.work.start (upto m.work.start m.work.records a.cut) a
unfolding pages_of
pages_are m a = refl

pub same_pages : (m n : Machine) (a : Archive) → config_of n ≡ config_of m → n.work.start ≡ m.work.start → n.work.records ≡ m.work.records → pages_of n a ≡ pages_of m a
same_pages m n a config start records =
    pages_are n a
    ∙ ap (λ (c : Config). pages_by c n.work.start (upto n.work.start n.work.records a.cut) a) config
    ∙ ap (λ (s : Start). pages_by (config_of m) s (upto s n.work.records a.cut) a) start
    ∙ ap (λ (l : List Record). pages_by (config_of m) m.work.start (upto m.work.start l a.cut) a) records
    ∙ sym (pages_are m a)

pub appended_pages : (r : Record) (m : Machine) (a : Archive) → a.cut ≤ last_of m → pages_of (append r m) a ≡ pages_of m a
appended_pages r m a cut =
    pages_are (append r m) a
    ∙ ap (λ (l : List Record). pages_by (config_of m) m.work.start l a) (take-append-le (a.cut - m.work.start.last) m.work.records (r ∷ []) (omega (arith, cut)))
    ∙ sym (pages_are m a)
