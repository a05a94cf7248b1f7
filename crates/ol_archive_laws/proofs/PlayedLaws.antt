-- What a play's archive puts on its drive is an archive of its journal.
use Rattle.std.proofs.Common.{◌≡◌, ℕ, ◌+◌, ◌≤◌, ◌++◌, List, [], ◌∷◌, ap, arith, length, map, refl}
use Rattle.std.specs.List.{enumerate_from, list_any}
use Rattle.std.specs.Prelude.{◌==◌}
use Rattle.ol_values.specs.declared.record.Record.{Record}
use Rattle.ol_values.specs.Blocks.{Block, Saved, SavedPage, archive_page, header_kind}
use Rattle.ol_values.specs.Config.{Config}
use Rattle.ol_rules.specs.Sound.{Sound}
use Rattle.ol_core.specs.Archivers.{saved_of}
use Rattle.ol_core.specs.Machine.{Archive, Fixed, formatted}
use Rattle.ol_core.specs.Tape.{archive_blocks, page_blocks}
use Rattle.ol_catalog.specs.Written.{Archived, blocks_of_archive, trailer_of}
use Rattle.ol_catalog.proofs.ArchiveLaws.{end_block, page_block}
use Rattle.ol_archive_laws.specs.Archives.{IsOfJournal}
use Rattle.ol_archive_laws.specs.Played.{archived_in, first_of}
use Rattle.ol_archive_laws.proofs.BegunLaws.{low_of_journal}
use Rattle.ol_archive_laws.proofs.OrderLaws.{range_ascends}

pages_are : (x : Archived) (i : ℕ) (pages : List SavedPage) → page_blocks x.incarnation x.number i pages ≡ map (page_block x) (enumerate_from i pages)
pages_are x i [] = refl
pages_are x i (p ∷ pages) = ap (λ (l : List Block). archive_page x.incarnation x.number i p ∷ l) (pages_are x (i + 1) pages)

pub played_blocks : (f : Fixed) (journal : List Record) (a : Archive) → archive_blocks f journal a ≡ blocks_of_archive (archived_in f journal a)
played_blocks f journal a =
    let x : Archived = archived_in f journal a in
    ap (λ (l : List Block). end_block x header_kind 0 ∷ (l ++ trailer_of x ∷ [])) (pages_are x 1 x.pages)

pub played_of : (c : Config) (journal : List Record) (spaces : List ℕ) → Sound c journal → 1 ≤ length (saved_of c spaces) → IsOfJournal c journal (archived_in (formatted c).fixed journal (first_of c journal spaces))
played_of c journal spaces sound some = record {
  config = refl;
  text = refl;
  pages = refl;
  some = some;
  spaces = range_ascends (λ s. let r : Saved = record { space = s; parent = 0; base = 0 } in r) (λ s. refl) (λ s. omega arith) (λ s. omega arith) (λ s. list_any (λ t. t == s) spaces) (length c.spaces) 0 (length c.spaces) (omega arith);
  cut = omega arith;
  low = low_of_journal c journal sound;
  level = omega arith;
  incarnation = omega arith;
  number = omega arith;
}
