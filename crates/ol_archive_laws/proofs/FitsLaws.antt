-- What stands on a drive is an archive object that fits the journal, whatever came behind the archive.
use Rattle.std.proofs.Common.{◌≡◌, ℕ, ◌++◌, ◌∙◌, Some, List, [], ◌∷◌, ap, arith, inr, map, refl, sym, take}
use Rattle.std.proofs.Math.Seq.{take-append_seam}
use Rattle.std.proofs.lemmas.List.{length-append, take_all}
use Rattle.ol_values.specs.declared.record.Record.{Record}
use Rattle.ol_values.specs.Blocks.{Block, SavedPage}
use Rattle.ol_values.specs.Config.{Config}
use Rattle.ol_rules.specs.Journal.{page_at}
use Rattle.ol_rules.specs.Restored.{FitsArchive, HoldsBlocks, archive_blocks_of}
use Rattle.ol_rules.specs.Saveset.{places, saveset}
use Rattle.ol_rules.specs.Shelf.{Object, Placed}
use Rattle.ol_rules.specs.Transactions.{low_at}
use Rattle.ol_model.specs.Machine.{Archive, Machine, config_of}
use Rattle.ol_catalog.specs.Streams.{drive_blocks}
use Rattle.ol_catalog.specs.Written.{Archived, IsArchived, IsOnDrive, blocks_of_archive, object_on}
use Rattle.ol_catalog.proofs.ArchiveLaws.{all_there, item_of}
use Rattle.ol_catalog.proofs.WrittenLaws.{blocks_there}
use Rattle.ol_archive_laws.specs.Archives.{archived_by}
use Rattle.ol_archive_laws.proofs.BegunLaws.{IsCutOf}

-- blocks that all stand there
all_hold : (o : Object) (l : List Placed) (blocks : List Block) → map item_of l ≡ all_there blocks → HoldsBlocks o l blocks
all_hold o [] [] e = tt
all_hold o [] (b ∷ blocks) e = absurd (cc)
all_hold o (p ∷ l) [] e = absurd (cc)
all_hold o (p ∷ l) (b ∷ blocks) e =
    let item : p.item ≡ Some b = cc in
    let rest : map item_of l ≡ all_there blocks = cc in
    (inr item, all_hold o l blocks rest)

-- the saveset of what the journal was at the cut
saved_past : (c : Config) (past journal : List Record) (m : Machine) (a : Archive) → take a.cut journal ≡ take a.cut past → saveset c past a.spaces a.cut ≡ saveset c journal a.spaces a.cut
saved_past c past journal m a same =
    ap (λ (l : List Record). map (λ (p : ℕ × ℕ). let r : SavedPage = record { space = p.0; page = p.1; image = page_at l p.0 p.1 } in r) (places c l a.spaces)) (sym same)

pub archive_fits : (past more : List Record) (m : Machine) (a : Archive) (tapes : List (List (List (List ℕ)))) (drive : ℕ) → IsCutOf past a → IsArchived (archived_by m a) → IsOnDrive tapes drive (archived_by m a)
    → (archived_by m a).pages ≡ saveset (config_of m) past a.spaces a.cut → FitsArchive (config_of m) (past ++ more) (object_on tapes drive (archived_by m a))
archive_fits past more m a tapes drive of is on pages =
    let x : Archived = archived_by m a in
    let c : Config = config_of m in
    let o : Object = object_on tapes drive x in
    let before : take a.cut (past ++ more) ≡ past = ap (λ (n : ℕ). take n (past ++ more)) of.cut ∙ take-append_seam past more in
    let whole : take a.cut past ≡ past = take_all a.cut past (omega (arith, of.cut)) in
    let same : take a.cut (past ++ more) ≡ take a.cut past = before ∙ sym whole in
    let blocks : blocks_of_archive x ≡ archive_blocks_of x.incarnation x.number x.cut x.low x.level x.head c (saveset c (past ++ more) a.spaces a.cut) =
    ap (archive_blocks_of x.incarnation x.number x.cut x.low x.level x.head c) (pages ∙ saved_past c past (past ++ more) m a same) in
    record {
      cut = omega (arith, of.cut, length-append past more);
      low = of.low ∙ ap (λ (l : List Record). low_at l) (sym before);
      text = refl;
      bases = of.bases;
      blocks = all_hold o (drive_blocks tapes drive) _ (blocks_there tapes drive x is on ∙ ap all_there blocks);
    }
