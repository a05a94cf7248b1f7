use Rattle.std.proofs.Common.{◌<◌, ℕ, ap, arith, refl, length, subst, sym, ◌∙◌}
use Rattle.ol_chunks.specs.declared.table.Area.{Area}
use Rattle.ol_ports.proofs.FrameLaws.{framed_none, outside_both, outside_none}
use Rattle.ol_ports.proofs.StopLaws.{stops_both, stops_framed, stops_none}
use Rattle.ol_log_places.specs.Writes.{IsClosing}
use Rattle.ol_log_places.proofs.WriteLaws.{closing_none, closing_shows, file_in, placed_may}
use Rattle.ol_log_places.proofs.pages.close_gates.Goals as goal

pub loop-place-init : goal.loop-place-init
loop-place-init g c = record {
  from = omega (arith, c.first_place_of_file-start.ensures.value);
  stops = λ tells r placed gates. stops_none _ _ (placed_may c.args.table.now r c.args.file _ placed);
  closing = λ tells r placed gates. subst (λ (k : ℕ). IsClosing (g.D.Disk.past c.args.disk.now) c.args.table.now r c.args.file k) (sym c.first_place_of_file-start.ensures.value) (closing_none c.args.table.now r c.args.file _ placed);
  frame = λ tells. stops_none _ _ (λ d rest. framed_none _ _ d rest);
  reads = λ tells. outside_none _ _;
  sizes = refl;
  faults = refl;
}

pub returns-in-Err-clause-stops : goal.returns-in-Err-clause-stops
returns-in-Err-clause-stops g c tells r placed gates =
    let pages = ap (λ (a : Area). a.pages) c.logs.ensures.value in
    let in_it = file_in c.args.table.now c.args.file c.loop-place.place c.loop-place.invariant.from (omega (arith, c.first_place_of_file-start.ensures.value, c.loop-place-test.true, pages)) in
    stops_both _ _ _ _ (c.loop-place.invariant.stops tells r placed gates)
    (c.in-Err.ensures.stops tells r c.args.file (c.loop-place.invariant.closing tells r placed gates) in_it (gates c.loop-place.place (omega (arith, c.requires.gates, c.first_place_of_file-start.ensures.inside, c.loop-place-test.true, pages))))

pub returns-in-Err-clause-frame : goal.returns-in-Err-clause-frame
returns-in-Err-clause-frame g c tells = stops_framed _ _ _ _ (c.loop-place.invariant.frame tells) (c.in-Err.ensures.frame tells)

pub loop-place-preserved : goal.loop-place-preserved
loop-place-preserved g c =
    let pages = ap (λ (a : Area). a.pages) c.logs.ensures.value in
    let in_it = file_in c.args.table.now c.args.file c.loop-place.place c.loop-place.invariant.from (omega (arith, c.first_place_of_file-start.ensures.value, c.loop-place-test.true, pages)) in
    let below : c.loop-place.place < length c.args.gates.now = omega (arith, c.requires.gates, c.first_place_of_file-start.ensures.inside, c.loop-place-test.true, pages) in
    record {
      from = omega (arith, c.loop-place.invariant.from);
      stops = λ tells r placed gates.
          stops_both _ _ _ _ (c.loop-place.invariant.stops tells r placed gates) (c.in-Ok.ensures.stops tells r c.args.file (c.loop-place.invariant.closing tells r placed gates) in_it (gates c.loop-place.place below));
      closing = λ tells r placed gates. c.in-Ok.ensures.ok tells r c.args.file (c.loop-place.invariant.closing tells r placed gates) in_it (gates c.loop-place.place below);
      frame = λ tells. stops_framed _ _ _ _ (c.loop-place.invariant.frame tells) (c.in-Ok.ensures.frame tells);
      reads = λ tells. outside_both _ _ _ _ (c.loop-place.invariant.reads tells) (c.in-Ok.ensures.reads tells);
      sizes = c.in-Ok.ensures.sizes ∙ c.loop-place.invariant.sizes;
      faults = c.in-Ok.ensures.cause.kept ∙ c.loop-place.invariant.faults;
    }

pub returns-clause-ok : goal.returns-clause-ok
returns-clause-ok g c tells r placed gates =
    let pages = ap (λ (a : Area). a.pages) c.logs.ensures.value in
    closing_shows c.args.table.now r c.args.file _ c.loop-place.place (omega (arith, c.first_place_of_file-start.ensures.value, c.loop-place-test.false, pages)) (c.loop-place.invariant.closing tells r placed gates)
