use Rattle.std.proofs.Common.{List, ap, subst, ℕ, ◌≡◌, ◌∙◌}
use Rattle.ol_values.specs.Blocks.{ArchiveHead, header_kind}
use Rattle.ol_values.specs.Config.{Config}
use Rattle.ol_core.specs.Machine.{Fixed, formatted}
use Rattle.ol_core.specs.Tape.{end_block, head_at}
use Rattle.ol_object.specs.Bytes.{bytes_of}
use Rattle.ol_volume.specs.Written.{Puts}
use Rattle.ol_core.specs.Core.{archive_in}
use Rattle.ol_online.specs.Blocks.{IsHead}
use Rattle.ol_online.specs.Playing.{RefusesPut}
use Rattle.ol_online.proofs.ArchiveLaws.{head_is, header_ended, header_is, header_put}
use Rattle.ol_online.proofs.archive.copy_archive.Goals as goal

pub returns-in-Err-clause-ended : goal.returns-in-Err-clause-ended
returns-in-Err-clause-ended g c lines job begun =
    let config : c.table.result.now ≡ job.config = c.table.ensures ∙ ap (λ (f : Fixed). f.config) begun.running.fixed in
    let is = ap (λ (x : Config). bytes_of (end_block (formatted x).fixed header_kind 0 (archive_in c.in-Some.archive))) config ∙ header_is lines c.args.line.now job c.args.core.now c.in-Some.archive begun c.in-Some.ensures.value in
    header_ended _ _ _ _ _ _ _ begun (subst (λ (x : List ℕ). RefusesPut c.args.writer.now x c.put_header.new.writer c.in-Err.end) is c.in-Err.ensures.ended)

pub returns-in-Ok-take_pages-clause-copied : goal.returns-in-Ok-take_pages-clause-copied
returns-in-Ok-take_pages-clause-copied g c lines job begun =
    let config : c.table.result.now ≡ job.config = c.table.ensures ∙ ap (λ (f : Fixed). f.config) begun.running.fixed in
    let is = ap (λ (x : Config). bytes_of (end_block (formatted x).fixed header_kind 0 (archive_in c.in-Some.archive))) config ∙ header_is lines c.args.line.now job c.args.core.now c.in-Some.archive begun c.in-Some.ensures.value in
    let copying = header_put _ _ _ _ _ _ begun (subst (λ (x : List ℕ). Puts c.args.writer.now x c.put_header.new.writer) is c.in-Ok.ensures.ok) in
    let is_head = ap (λ (x : Config). head_at (formatted x).fixed (archive_in c.in-Some.archive)) config ∙ head_is job 0 c.args.core.now c.in-Some.archive begun.running c.in-Some.ensures.value in
    let head = subst (λ (h : ArchiveHead). IsHead h c.in-Ok.used c.put_header.new.payload) is_head (c.in-Ok.ensures.used, c.in-Ok.ensures.bytes) in
    let p = c.in-Ok-take_pages.ensures.taken lines job c.args.writer.now copying in
    c.put_trailer.ensures.copied lines c.args.line.now job c.args.writer.now p.0 head p.1

pub returns-in-Ok-take_pages-clause-ended : goal.returns-in-Ok-take_pages-clause-ended
returns-in-Ok-take_pages-clause-ended g c lines job begun =
    let config : c.table.result.now ≡ job.config = c.table.ensures ∙ ap (λ (f : Fixed). f.config) begun.running.fixed in
    let is = ap (λ (x : Config). bytes_of (end_block (formatted x).fixed header_kind 0 (archive_in c.in-Some.archive))) config ∙ header_is lines c.args.line.now job c.args.core.now c.in-Some.archive begun c.in-Some.ensures.value in
    let copying = header_put _ _ _ _ _ _ begun (subst (λ (x : List ℕ). Puts c.args.writer.now x c.put_header.new.writer) is c.in-Ok.ensures.ok) in
    let is_head = ap (λ (x : Config). head_at (formatted x).fixed (archive_in c.in-Some.archive)) config ∙ head_is job 0 c.args.core.now c.in-Some.archive begun.running c.in-Some.ensures.value in
    let head = subst (λ (h : ArchiveHead). IsHead h c.in-Ok.used c.put_header.new.payload) is_head (c.in-Ok.ensures.used, c.in-Ok.ensures.bytes) in
    let p = c.in-Ok-take_pages.ensures.taken lines job c.args.writer.now copying in
    c.put_trailer.ensures.ended lines c.args.line.now job c.args.writer.now p.0 head p.1

pub returns-in-Err-take_pages-clause-ended : goal.returns-in-Err-take_pages-clause-ended
returns-in-Err-take_pages-clause-ended g c lines job begun =
    let config : c.table.result.now ≡ job.config = c.table.ensures ∙ ap (λ (f : Fixed). f.config) begun.running.fixed in
    let is = ap (λ (x : Config). bytes_of (end_block (formatted x).fixed header_kind 0 (archive_in c.in-Some.archive))) config ∙ header_is lines c.args.line.now job c.args.core.now c.in-Some.archive begun c.in-Some.ensures.value in
    let copying = header_put _ _ _ _ _ _ begun (subst (λ (x : List ℕ). Puts c.args.writer.now x c.put_header.new.writer) is c.in-Ok.ensures.ok) in
    c.in-Err-take_pages.ensures.ended lines job c.args.writer.now copying
