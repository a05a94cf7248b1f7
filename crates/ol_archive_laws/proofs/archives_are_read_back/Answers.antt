use Rattle.std.proofs.Common.{◌∙◌, ap, map}
use Rattle.ol_model.specs.History.{state_after}
use Rattle.ol_model.specs.Machine.{config_of}
use Rattle.ol_object.specs.Bytes.{bytes_of}
use Rattle.ol_tape_laws.proofs.RunLaws.{run_whole}
use Rattle.ol_archive_laws.specs.Archives.{archived_by}
use Rattle.ol_archive_laws.proofs.ArchivedLaws.{blocks_are, journal_is_archived}
use Rattle.ol_archive_laws.proofs.BegunLaws.{begun_behind, begun_cut, begun_of}
use Rattle.ol_archive_laws.proofs.FitsLaws.{archive_fits}
use Rattle.ol_archive_laws.proofs.archives_are_read_back.Goals as goal

pub returns-clause-there : goal.returns-clause-there
returns-clause-there c = λ on journal shelf k a m e h taken may tapes drive there.
    let n = state_after shelf m e in
    let behind = begun_behind on journal shelf k a m e taken.begins may in
    let of = begun_of on journal shelf k a m e taken.begins may in (
      there ∙ ap (map bytes_of) (run_whole shelf k a e h m taken.number taken.begins taken.steps taken.runs ∙ blocks_are n a),
      journal_is_archived (config_of n) _ (archived_by n a) behind.config behind.sound of,
      of.pages,
    )

pub returns-clause-fits : goal.returns-clause-fits
returns-clause-fits c = λ on journal more shelf k a m e tapes drive begins may there.
    let n = state_after shelf m e in
    let behind = begun_behind on journal shelf k a m e begins may in
    let of = begun_of on journal shelf k a m e begins may in
    archive_fits _ more n a tapes drive (begun_cut on journal shelf k a m e begins may) (journal_is_archived (config_of n) _ (archived_by n a) behind.config behind.sound of) there of.pages
