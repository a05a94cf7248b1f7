use Rattle.std.proofs.Common.{◌+◌, ◌*◌, length, refl, arith, sym, ap, ◌∙◌}
use Rattle.ol_ports.specs.Disk.{Past, page_list, seen}
use Rattle.ol_chunks.specs.declared.table.Area.{Area}
use Rattle.ol_log_places.proofs.Listed.{bad_more, err_again, first_bad, gate_more, gates_more, heads_more, heads_of, no_gates, no_heads, none_in_log, none_low, page_in_place, scan_failed}
use Rattle.ol_log_places.proofs.reading.read_places.Goals as goal

pub loop-place-init : goal.loop-place-init
loop-place-init g c = record {
  heads = λ tells. no_heads c.args.table.now _ _ c.new-heads.ensures.items;
  good = λ tells k lt bad. omega (arith, lt);
  gates = λ tells. no_gates _ _ c.requires.none;
  count = ap length c.requires.none;
  low = none_low _ c.new-heads.ensures.items;
  inside = none_in_log c.args.table.now _ c.new-heads.ensures.items;
  few = omega (arith, ap length c.new-heads.ensures.items);
  past = λ tells. refl;
  sizes = refl;
  faults = refl;
}

pub returns-in-Err-clause-cause : goal.returns-in-Err-clause-cause
returns-in-Err-clause-cause g c = rw (sym c.loop-place.invariant.faults) (scan_failed c.args.table.now c.logs-logs.result c.logs-logs.ensures.value _ _ c.in-Err.field-0 c.in-Err.ensures.cause)

pub returns-in-Err-take_in-clause-bad : goal.returns-in-Err-take_in-clause-bad
returns-in-Err-take_in-clause-bad g c tells chunk page is =
    let b = c.take_in.ensures.bad chunk page (c.in-Err-take_in.is ∙ err_again _ _ is) in
    let same = page_in_place c.args.table.now (seen (g.D.Disk.past c.args.disk.now)) c.logs-logs.result c.logs-logs.ensures.value c.loop-place.place c.read.new.buf (c.in-Ok.ensures.bytes tells ∙ ap (λ (past : Past). page_list (seen past) c.logs-logs.result.chunk (c.logs-logs.result.first + c.loop-place.place)) (c.loop-place.invariant.past tells)) in
    (c.loop-place.place, b.0, first_bad c.args.table.now _ c.loop-place.place (let count = ap (λ (a : Area). a.count * a.pages) c.logs-logs.ensures.value in omega (arith, c.loop-place-test.true, count)) (c.loop-place.invariant.good tells) (sym same ∙ b.1))

pub loop-place-preserved : goal.loop-place-preserved
loop-place-preserved g c = record {
  heads = λ tells.
      let same = page_in_place c.args.table.now (seen (g.D.Disk.past c.args.disk.now)) c.logs-logs.result c.logs-logs.ensures.value c.loop-place.place c.read.new.buf (c.in-Ok.ensures.bytes tells ∙ ap (λ (past : Past). page_list (seen past) c.logs-logs.result.chunk (c.logs-logs.result.first + c.loop-place.place)) (c.loop-place.invariant.past tells)) in
      heads_more c.args.table.now _ c.loop-place.place _ _ same (c.in-Ok-take_in.ensures.heads _ (c.loop-place.invariant.heads tells));
  good = λ tells.
      let same = page_in_place c.args.table.now (seen (g.D.Disk.past c.args.disk.now)) c.logs-logs.result c.logs-logs.ensures.value c.loop-place.place c.read.new.buf (c.in-Ok.ensures.bytes tells ∙ ap (λ (past : Past). page_list (seen past) c.logs-logs.result.chunk (c.logs-logs.result.first + c.loop-place.place)) (c.loop-place.invariant.past tells)) in
      bad_more _ c.loop-place.place (c.loop-place.invariant.good tells) (λ bad. c.in-Ok-take_in.ensures.good (same ∙ bad));
  gates = λ tells.
      let same = page_in_place c.args.table.now (seen (g.D.Disk.past c.args.disk.now)) c.logs-logs.result c.logs-logs.ensures.value c.loop-place.place c.read.new.buf (c.in-Ok.ensures.bytes tells ∙ ap (λ (past : Past). page_list (seen past) c.logs-logs.result.chunk (c.logs-logs.result.first + c.loop-place.place)) (c.loop-place.invariant.past tells)) in
      gates_more c.args.table.now _ c.loop-place.place c.read.new.buf _ _ same c.loop-place.invariant.count (c.loop-place.invariant.gates tells) c.in-Ok-push.ensures.items;
  count = gate_more _ _ _ c.loop-place.place c.loop-place.invariant.count c.in-Ok-push.ensures.items;
  low = c.in-Ok-take_in.ensures.low c.loop-place.invariant.low;
  inside = c.in-Ok-take_in.ensures.inside c.loop-place.invariant.inside;
  few = omega (arith, c.in-Ok-take_in.ensures.few, c.loop-place.invariant.few);
  past = λ tells. c.in-Ok.ensures.past tells ∙ c.loop-place.invariant.past tells;
  sizes = c.in-Ok.ensures.sizes ∙ c.loop-place.invariant.sizes;
  faults = c.in-Ok.ensures.cause.kept ∙ c.loop-place.invariant.faults;
}

pub returns-clause-heads : goal.returns-clause-heads
returns-clause-heads g c tells =
    let count = ap (λ (a : Area). a.count * a.pages) c.logs-logs.ensures.value in
    heads_of c.args.table.now _ c.loop-place.heads.items c.loop-place.place (omega (arith, c.loop-place.auto.place-end, c.loop-place-test.false, count)) (c.loop-place.invariant.heads tells) (c.loop-place.invariant.good tells)

pub returns-clause-few : goal.returns-clause-few
returns-clause-few g c =
    let count = ap (λ (a : Area). a.count * a.pages) c.logs-logs.ensures.value in
    omega (arith, c.loop-place.auto.place-end, c.loop-place-test.false, count, c.loop-place.invariant.few)
