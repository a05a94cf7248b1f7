use Rattle.std.proofs.Common.{List, ap, arith, max, slice_index_or, subst, sym, take, ◌^◌, ◌∙◌, ◌≤◌}
use Rattle.std.specs.List.{AllByRecursion}
use Rattle.ol_record.specs.declared.head.LogHead.{LogHead}
use Rattle.ol_log_places.specs.declared.heads.Stood.{Stood}
use Rattle.ol_log_state.specs.Files.{greatest_of}
use Rattle.ol_log_state.specs.StoredFiles.{AreApart, AreTaken, IsRoomy, heads_in, is_taken, uniqs}
use Rattle.ol_log_places.specs.Heads.{IsInRun}
use Rattle.ol_log_state.specs.Uses.{Stored}
use Rattle.ol_log_state.proofs.ListLaws.{all_mapped, all_wider}
use Rattle.ol_log_state.proofs.TakenLaws.{all_front, failing_most, greatest_more, greatest_within, heads_more}
use Rattle.ol_log_state.proofs.log_files.LogFiles.new.Goals as goal

pub loop-stood-preserved : goal.loop-stood-preserved
loop-stood-preserved c =
    let run = c.args.run.now in
    let i = c.loop-stood.stood-index in
    let none : Stood = record { chunk = 0; page = 0; head = record { index = 0; uniq = 0; incarnation = 0; first = 0; count = 0; used = 0 } } in
    let more = c.in_ok-take_in.ensures c.args.uniq (heads_in (take i run)) c.loop-stood.invariant.taken in
    let longer = heads_more run i none c.loop-stood-test.true in
    record {
      taken = subst (λ (l : List LogHead). AreTaken c.args.area.pages c.args.uniq l c.take_in.new.uses.items) (sym longer) more;
      current = c.max-current.ensures ∙ ap (λ n. max n (slice_index_or run i none).head.uniq) c.loop-stood.invariant.current ∙ sym (greatest_more c.args.uniq (heads_in (take i run)) (slice_index_or run i none).head) ∙ sym (ap (greatest_of c.args.uniq) longer);
    }

pub invariant_of-result : goal.invariant_of-result
invariant_of-result c =
    let taken = c.loop-stood.invariant.taken in
    let heads = heads_in (take c.loop-stood.stood-index c.args.run.now) in
    let numbers = all_wider (λ (s : Stood). IsInRun c.args.area.pages s.head) (λ (s : Stood). s.head.uniq ≤ 2 ^ 62) (take c.loop-stood.stood-index c.args.run.now) (λ s is. is.uniq.1) (all_front (λ (s : Stood). IsInRun c.args.area.pages s.head) c.loop-stood.stood-index c.args.run.now c.requires.run) in
    let within = greatest_within heads c.args.uniq (2 ^ 62) c.requires.uniq.1 (all_mapped (λ (h : LogHead). h.uniq ≤ 2 ^ 62) (λ (s : Stood). s.head) (take c.loop-stood.stood-index c.args.run.now) numbers) in
    let items = c.in_ok-reserve.ensures.items in
    record {
      area = c.requires.area;
      uniq = (omega (arith, c.requires.uniq, within.0, c.loop-stood.invariant.current), omega (arith, within.1, c.loop-stood.invariant.current));
      roomy = subst (AllByRecursion (IsRoomy c.args.area.pages)) (sym items) taken.roomy;
      spares = c.in_ok-spare.ensures.spares;
      numbered = record {
        up_to = subst (λ (l : List Stored). AllByRecursion (λ n. n ≤ c.loop-stood.current) (uniqs l)) (sym items) (subst (λ m. AllByRecursion (λ n. n ≤ m) (uniqs c.loop-stood.uses.items)) (sym c.loop-stood.invariant.current) taken.up_to);
        apart = subst (λ (l : List Stored). AreApart (uniqs l)) (sym items) taken.apart;
        enough = omega (arith, failing_most (is_taken c.args.area.count (uniqs c.reserve.new.self.items)) c.args.area.count, c.in_ok-spare.ensures.count);
      };
      capacity = record {
        uses = omega (arith, c.in_ok-reserve.ensures.ok, c.in_ok-spare.spare.ok.0, c.in_ok-spare.ensures.count);
        spare = omega (arith, c.in_ok-spare.ensures.capacity, c.len.ensures, c.in_ok-spare.spare.ok.0, c.in_ok-spare.ensures.count);
      };
    }
