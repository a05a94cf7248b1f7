use Rattle.std.proofs.Common.{arith, length, refl, ◌<◌, ◌∙◌}
use Rattle.ol_ports.proofs.FrameLaws.{framed_none, outside_none}
use Rattle.ol_ports.proofs.StopLaws.{stops_none}
use Rattle.ol_physical_restore.proofs.LoopSteps.{more_marked, more_put, more_reads, more_stops, none_before, none_left}
use Rattle.ol_physical_restore.proofs.restore.put_images.Goals as goal

pub loop-index-init : goal.loop-index-init
loop-index-init g c = record {
  stops = λ tells. stops_none _ _ (framed_none _ _);
  put = λ tells i lt. absurd (none_before i lt);
  reads = λ tells. outside_none _ _;
  marks = c.requires.marks;
  marked = λ i lt. absurd (none_before i lt);
  idle = λ none. (refl, refl);
  sizes = refl;
  faults = refl;
}

pub returns-in-Err-clause-stops : goal.returns-in-Err-clause-stops
returns-in-Err-clause-stops g c tells =
    let lt : c.loop-index.index < length c.args.entries.now.numbers = omega (arith, c.loop-index-test.true, c.count-index-end.ensures.value) in
    more_stops c.args.table.now c.args.entries.now c.count-index-end.ensures.found c.loop-index.index lt c.place.result c.place.ensures _ _ _ (c.loop-index.invariant.stops tells) (c.restore_page.ensures.stops tells)

pub loop-index-preserved : goal.loop-index-preserved
loop-index-preserved g c =
    let i = c.loop-index.invariant in
    let found = c.count-index-end.ensures.found in
    let lt : c.loop-index.index < length c.args.entries.now.numbers = omega (arith, c.loop-index-test.true, c.count-index-end.ensures.value) in
    record {
      stops = λ tells. more_stops c.args.table.now c.args.entries.now found c.loop-index.index lt c.place.result c.place.ensures _ _ _ (i.stops tells) (c.restore_page.ensures.stops tells);
      put = λ tells. more_put c.args.table.now c.args.entries.now found c.loop-index.index lt c.place.result c.place.ensures c.spaces-spaces.ensures.config _ _ c.image.result.now c.image.ensures (c.in-Ok.ensures.put tells) (c.in-Ok.ensures.reads tells) (i.put tells);
      reads = λ tells. more_reads c.args.table.now c.args.entries.now found c.loop-index.index lt c.place.result c.place.ensures _ _ _ (i.reads tells) (c.in-Ok.ensures.reads tells);
      marks = c.restore_page.ensures.marks i.marks;
      marked = more_marked c.args.table.now c.args.entries.now found c.loop-index.index lt c.place.result c.place.ensures _ _ c.restore_page.ensures.marked c.restore_page.ensures.kept i.marked;
      idle = λ none. absurd (none_left c.args.entries.now.numbers c.loop-index.index none lt);
      sizes = c.restore_page.ensures.sizes ∙ i.sizes;
      faults = c.in-Ok.ensures.cause.kept ∙ i.faults;
    }
