use Rattle.std.proofs.Common.{◌<◌, ◌∷◌, length, take, sym, ap, ◌∙◌, subst, arith}
use Rattle.ol_ports.specs.Disk.{bytes_after}
use Rattle.ol_outside.specs.Chunks.{lengths, ChunksHold}
use Rattle.ol_outside.specs.Images.{chosen}
use Rattle.ol_outside.specs.KeptCalls.{call_of, passes, kept_calls}
use Rattle.ol_outside.proofs.ImageLaws.{fits-lengths, lengths-redone, lengths-image_after, holds-none, holds-none-chosen, holds-redone, holds-image_after, holds-passes, holds-passes-chosen}
use Rattle.ol_outside.proofs.KeptLaws.{kept_calls-more, fits-kept}
use Rattle.ol_outside.proofs.replay.replay.Goals as goal

pub loop-call-init : goal.loop-call-init
loop-call-init c = record {
  written = holds-none c.args.written.now;
  image = subst (λ image. ChunksHold image (chosen c.args.choice c.args.written.now (kept_calls (take 0 c.args.kept.now)))) (sym c.requires.same) (holds-none-chosen c.args.choice c.args.written.now);
  written_lengths = ap lengths (sym c.requires.same) ∙ ap lengths c.requires.same;
  image_lengths = ap lengths c.requires.same;
}

pub redo-requires-clause-fits : goal.redo-requires-clause-fits
redo-requires-clause-fits c =
    let i = c.loop-call.call-index in
    let k = c.call-item.result in
    let fits = fits-kept c.args.written.now c.args.kept.now i k (omega arith) c.call-item.is c.requires.fits in
    fits-lengths c.args.written.now c.loop-call.written (call_of k.order) (sym c.loop-call.invariant.written_lengths) fits

pub redo-requires-clause-fits_image : goal.redo-requires-clause-fits_image
redo-requires-clause-fits_image c =
    let i = c.loop-call.call-index in
    let k = c.call-item.result in
    let fits = fits-kept c.args.written.now c.args.kept.now i k (omega arith) c.call-item.is c.requires.fits in
    fits-lengths c.args.written.now c.loop-call.image (call_of k.order) (sym c.loop-call.invariant.image_lengths) fits

pub loop-call-preserved : goal.loop-call-preserved
loop-call-preserved c =
    let base = c.args.written.now in
    let kept = c.args.kept.now in
    let choice = c.args.choice in
    let i = c.loop-call.call-index in
    let k = c.call-item.result in
    let call = call_of k.order in
    let calls = kept_calls (take i kept) in
    let older = passes k.passed calls in
    let written = c.loop-call.written in
    let image = c.loop-call.image in
    let inv = c.loop-call.invariant in
    let lt : i < length kept = omega arith in
    let fits = fits-kept base kept i k lt c.call-item.is c.requires.fits in
    let fits_written = fits-lengths base written call (sym inv.written_lengths) fits in
    let fits_image = fits-lengths base image call (sym inv.image_lengths) fits in
    let more = sym (kept_calls-more kept i k lt c.call-item.is) in
    let was = holds-passes base written k.passed calls inv.written in
    record {
      written = subst (λ l. ChunksHold c.redo.new.written (bytes_after base l)) more (subst (λ x. ChunksHold x (bytes_after base (call ∷ older))) (sym c.redo.ensures.written) (holds-redone base written older call fits_written was));
      image = subst (λ l. ChunksHold c.redo.new.image (chosen choice base l)) more (subst (λ x. ChunksHold x (chosen choice base (call ∷ older))) (sym c.redo.ensures.image) (holds-image_after base written image older choice call fits_image was (holds-passes-chosen choice base image k.passed calls inv.image)));
      written_lengths = ap lengths c.redo.ensures.written ∙ lengths-redone call written fits_written ∙ inv.written_lengths;
      image_lengths = ap lengths c.redo.ensures.image ∙ lengths-image_after choice call written image fits_image (inv.image_lengths ∙ sym inv.written_lengths) ∙ inv.image_lengths;
    }
