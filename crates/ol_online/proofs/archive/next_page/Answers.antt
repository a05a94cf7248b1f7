use Rattle.std.proofs.Common.{subst, ◌∙◌}
use Rattle.ol_core.specs.Core.{Takes}
use Rattle.ol_values.specs.declared.event.Event.TheVariants.{ArchiveTurn}
use Rattle.ol_values.specs.declared.event.Reply.{Reply}
use Rattle.ol_values.specs.declared.event.Reply.TheVariants.{PageIs}
use Rattle.ol_online.proofs.ArchiveLaws.{copied_by, fewer_left, page_block, paged, took, took_page, turn_of}
use Rattle.ol_online.proofs.archive.next_page.Goals as goal

pub returns-in_default : goal.returns-in_default
returns-in_default c = record {
  fewer = tt;
  taken = λ lines job w v k copying. copied_by c.in_ok-space.field-0 copying (turn_of c.requires c.by_of.ensures.actor c.by_of.ensures.line c.in_ok-space.ensures.ok) c.requires (c.by_of.ensures.actor ∙ c.requires.0) c.in_default.not-PageIs;
  err = tt;
}

pub returns-clause-taken : goal.returns-clause-taken
returns-clause-taken c lines job w v k copying =
    let takes : Takes c.args.core.now c.by_of.result ArchiveTurn (PageIs c.in-PageIs.space c.in-PageIs.page) c.archive_turn.new.self = subst (λ (r : Reply). Takes c.args.core.now c.by_of.result ArchiveTurn r c.archive_turn.new.self) c.in-PageIs.is c.in_ok-space.ensures.ok in
    let who = c.by_of.ensures.actor ∙ c.requires.0 in
    let after = took_page c.in-PageIs.space c.in-PageIs.page (took copying.running takes who) in
    paged c.in-PageIs.space c.in-PageIs.page c.encode_page.new.block copying (turn_of c.requires c.by_of.ensures.actor c.by_of.ensures.line takes) c.requires who
    (page_block job k c.archive_turn.new.self c.in-Some.archive c.in-PageIs.space c.in-PageIs.page c.encode_page.new.block after.running c.in-Some.ensures.value c.encode_page.ensures)

pub returns-clause-fewer : goal.returns-clause-fewer
returns-clause-fewer c =
    let takes : Takes c.args.core.now c.by_of.result ArchiveTurn (PageIs c.in-PageIs.space c.in-PageIs.page) c.archive_turn.new.self = subst (λ (r : Reply). Takes c.args.core.now c.by_of.result ArchiveTurn r c.archive_turn.new.self) c.in-PageIs.is c.in_ok-space.ensures.ok in
    fewer_left c.in-PageIs.space c.in-PageIs.page takes (c.by_of.ensures.actor ∙ c.requires.0)
