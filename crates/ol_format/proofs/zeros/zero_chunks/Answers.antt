use Rattle.std.proofs.Common.{arith, rules, subst, sym, ℕ, ◌∙◌}
use Rattle.ol_ports.specs.Frames.{FramedIn, in_pages}
use Rattle.ol_ports.specs.Stops.{Stops}
use Rattle.ol_ports.proofs.StopLaws.{stops_framed}
use Rattle.ol_format.proofs.Clearing.{pages_none, stops_blank, stops_chunk, zeroed_next, zeroed_none}
use Rattle.ol_format.proofs.Formatting.{failed_from}
use Rattle.ol_format.proofs.Spaces.{spaces_of_pages}
use Rattle.ol_format.proofs.zeros.zero_chunks.Goals as goal

pub loop-chunk-init : goal.loop-chunk-init
loop-chunk-init g c = record {
  zeroed = λ tells blank. zeroed_none _ c.args.table.now blank;
  stops = λ tells blank. stops_blank _ blank;
  frame = λ tells. pages_none _ _;
  sizes = search rules;
  faults = search rules;
}

pub returns-in-Err-clause-cause : goal.returns-in-Err-clause-cause
returns-in-Err-clause-cause g c =
    rw (sym c.loop-chunk.invariant.faults) (failed_from _ _ c.loop-chunk.chunk c.in-Err.field-0 c.in-Err.ensures.cause)

pub returns-in-Err-clause-stops : goal.returns-in-Err-clause-stops
returns-in-Err-clause-stops g c tells blank =
    stops_chunk _ _ _ c.loop-chunk.chunk _ _ c.first_of.ensures (c.loop-chunk.invariant.zeroed tells blank).blank (c.loop-chunk.invariant.stops tells blank) (c.in-Err.ensures.stops tells)

pub returns-in-Err-clause-frame : goal.returns-in-Err-clause-frame
returns-in-Err-clause-frame g c tells =
    stops_framed _ _ _ _ (c.loop-chunk.invariant.frame tells)
    (spaces_of_pages _ _ c.args.table.now c.loop-chunk.chunk _ _ (omega (arith, c.loop-chunk-test.true, c.chunks-chunk-end.ensures.value)) c.chunk_pages.ensures.value (c.in-Err.ensures.stops tells))

pub loop-chunk-preserved : goal.loop-chunk-preserved
loop-chunk-preserved g c = record {
  zeroed = λ tells blank. zeroed_next _ _ c.args.table.now c.loop-chunk.chunk _ _ c.first_of.ensures c.chunk_pages.ensures.value (c.in-Ok.ensures.ok tells) (c.in-Ok.ensures.settled tells) (c.in-Ok.ensures.stops tells).behind (c.loop-chunk.invariant.zeroed tells blank);
  stops = λ tells blank. stops_chunk _ _ _ c.loop-chunk.chunk _ _ c.first_of.ensures (c.loop-chunk.invariant.zeroed tells blank).blank (c.loop-chunk.invariant.stops tells blank) (c.in-Ok.ensures.stops tells);
  frame = λ tells. stops_framed _ _ _ _ (c.loop-chunk.invariant.frame tells)
      (spaces_of_pages _ _ c.args.table.now c.loop-chunk.chunk _ _ (omega (arith, c.loop-chunk-test.true, c.chunks-chunk-end.ensures.value)) c.chunk_pages.ensures.value (c.in-Ok.ensures.stops tells));
  sizes = c.in-Ok.ensures.sizes ∙ c.loop-chunk.invariant.sizes;
  faults = c.in-Ok.ensures.cause.kept ∙ c.loop-chunk.invariant.faults;
}
