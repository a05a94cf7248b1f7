use Rattle.std.proofs.Common.{ap, arith, length, refl, subst, sym, ℕ, ◌+◌, ◌≡◌, ◌∙◌}
use Rattle.ol_chunks.specs.Places.{physical_area}
use Rattle.ol_chunks.specs.declared.table.Area.{Area}
use Rattle.ol_ports.specs.Disk.{Past, seen}
use Rattle.ol_physlog.specs.Places.{HasArea}
use Rattle.ol_physlog.specs.Reading.{Found, IsFound, IsRefused, Tells, entries_below, entries_in}
use Rattle.ol_physlog.proofs.FoundLaws.{found_none}
use Rattle.ol_physlog.proofs.ReadLaws.{cause_again, err_again, good_more, head_inside, kept_cause, tells_none}
use Rattle.ol_physlog.proofs.reading.read_entries.Goals as goal

pub loop-entry-init : goal.loop-entry-init
loop-entry-init g c = record {
  found = subst (λ (f : Found). IsFound f) (sym c.new-found.ensures) found_none;
  reached = ap (λ (f : Found). length f.gates) c.new-found.ensures;
  tells = λ tells. subst (λ (f : Found). Tells c.args.table.now (physical_area c.args.table.now) c.args.generation (seen (g.D.Disk.past c.args.disk.now)) f) (sym c.new-found.ensures) (tells_none c.args.table.now (physical_area c.args.table.now) c.args.generation _);
  good = λ tells k lt refused. omega (arith, lt);
  past = λ tells. refl;
  sizes = refl;
  faults = refl;
}

pub read_entry-requires-clause-area : goal.read_entry-requires-clause-area
read_entry-requires-clause-area g c = subst (λ (sizes : ℕ → ℕ). HasArea (physical_area c.args.table.now) sizes) (sym c.loop-entry.invariant.sizes) c.requires

pub read_entry-requires-clause-within : goal.read_entry-requires-clause-within
read_entry-requires-clause-within g c = omega (arith, c.loop-entry.invariant.reached, c.loop-entry-test.true, ap (λ (a : Area). a.count) c.area_of-area.ensures.value)

pub returns-in-Err-clause-bad : goal.returns-in-Err-clause-bad
returns-in-Err-clause-bad g c tells chunk page is =
    let told = subst (λ (p : Past). Tells c.args.table.now (physical_area c.args.table.now) c.args.generation (seen p) c.loop-entry.found) (sym (c.loop-entry.invariant.past tells)) (c.loop-entry.invariant.tells tells) in
    let refused = c.in-Err.ensures.bad tells c.loop-entry.invariant.found told chunk page (err_again _ _ is) in (
      length c.loop-entry.found.gates,
      c.in-Err.ensures.place chunk page (err_again _ _ is),
      record {
        within = omega (arith, c.loop-entry.invariant.reached, c.loop-entry-test.true, ap (λ (a : Area). a.count) c.area_of-area.ensures.value);
        refused = subst (λ (p : Past). IsRefused c.args.table.now (physical_area c.args.table.now) c.args.generation (seen p) (length c.loop-entry.found.gates)) (c.loop-entry.invariant.past tells) refused;
        before = λ j lt. c.loop-entry.invariant.good tells j (omega (arith, lt, c.loop-entry.invariant.reached));
      },
    )

pub returns-in-Err-clause-place : goal.returns-in-Err-clause-place
returns-in-Err-clause-place g c chunk page is =
    head_inside c.args.table.now (length c.loop-entry.found.gates) chunk page (sym (ap (λ (a : Area). a.pages) c.area_of-area.ensures.value) ∙ c.area_of-area.ensures.pages) (omega (arith, c.loop-entry.invariant.reached, c.loop-entry-test.true, ap (λ (a : Area). a.count) c.area_of-area.ensures.value)) (c.in-Err.ensures.place chunk page (err_again _ _ is))

pub returns-in-Err-clause-past : goal.returns-in-Err-clause-past
returns-in-Err-clause-past g c tells = c.in-Err.ensures.past tells ∙ c.loop-entry.invariant.past tells

pub returns-in-Err-clause-sizes : goal.returns-in-Err-clause-sizes
returns-in-Err-clause-sizes g c = c.in-Err.ensures.sizes ∙ c.loop-entry.invariant.sizes

pub returns-in-Err-clause-cause : goal.returns-in-Err-clause-cause
returns-in-Err-clause-cause g c = cause_again c.args.table.now _ _ _ _ c.loop-entry.invariant.faults c.in-Err.ensures.cause

pub loop-entry-preserved : goal.loop-entry-preserved
loop-entry-preserved g c =
    record {
      found = c.in-Ok.ensures.found c.loop-entry.invariant.found;
      reached = c.in-Ok.ensures.next ∙ ap (λ (n : ℕ). n + 1) c.loop-entry.invariant.reached;
      tells = λ tells.
          let told = subst (λ (p : Past). Tells c.args.table.now (physical_area c.args.table.now) c.args.generation (seen p) c.loop-entry.found) (sym (c.loop-entry.invariant.past tells)) (c.loop-entry.invariant.tells tells) in
          subst (λ (p : Past). Tells c.args.table.now (physical_area c.args.table.now) c.args.generation (seen p) c.read_entry.new.found) (c.loop-entry.invariant.past tells) (c.in-Ok.ensures.tells tells c.loop-entry.invariant.found told);
      good = λ tells.
          let told = subst (λ (p : Past). Tells c.args.table.now (physical_area c.args.table.now) c.args.generation (seen p) c.loop-entry.found) (sym (c.loop-entry.invariant.past tells)) (c.loop-entry.invariant.tells tells) in
          good_more c.args.table.now c.args.generation (seen (g.D.Disk.past c.args.disk.now)) _ (c.loop-entry.invariant.good tells)
          (λ refused. c.in-Ok.ensures.good tells c.loop-entry.invariant.found told
          (subst (λ (n : ℕ). IsRefused c.args.table.now (physical_area c.args.table.now) c.args.generation (seen (g.D.Disk.past c.loop-entry.disk)) n) (sym c.loop-entry.invariant.reached)
          (subst (λ (p : Past). IsRefused c.args.table.now (physical_area c.args.table.now) c.args.generation (seen p) c.loop-entry._entry) (sym (c.loop-entry.invariant.past tells)) refused)));
      past = λ tells. c.in-Ok.ensures.past tells ∙ c.loop-entry.invariant.past tells;
      sizes = c.in-Ok.ensures.sizes ∙ c.loop-entry.invariant.sizes;
      faults = c.in-Ok.ensures.cause.kept (λ chunk is. absurd (cc)) ∙ c.loop-entry.invariant.faults;
    }

pub invariant_of-result : goal.invariant_of-result
invariant_of-result g c = (c.loop-entry.invariant.found, omega (arith, c.loop-entry.invariant.reached, c.loop-entry.auto._entry-end, c.area_of-area.ensures.count))

pub returns-clause-value : goal.returns-clause-value
returns-clause-value g c tells =
    let all : length c.loop-entry.found.gates ≡ (physical_area c.args.table.now).count = omega (arith, c.loop-entry.invariant.reached, c.loop-entry-test.false, c.loop-entry.auto._entry-end, ap (λ (a : Area). a.count) c.area_of-area.ensures.value) in
    subst (λ (n : ℕ). entries_in c.loop-entry.found ≡ entries_below c.args.table.now (physical_area c.args.table.now) c.args.generation (seen (g.D.Disk.past c.args.disk.now)) n) all (c.loop-entry.invariant.tells tells).entries

pub returns-clause-tells : goal.returns-clause-tells
returns-clause-tells g c tells = c.loop-entry.invariant.tells tells

pub returns-clause-good : goal.returns-clause-good
returns-clause-good g c tells k lt = c.loop-entry.invariant.good tells k (omega (arith, lt, c.loop-entry-test.false, ap (λ (a : Area). a.count) c.area_of-area.ensures.value))

pub returns-clause-found : goal.returns-clause-found
returns-clause-found g c = c.loop-entry.invariant.found

pub returns-clause-gates : goal.returns-clause-gates
returns-clause-gates g c = omega (arith, c.loop-entry.invariant.reached, c.loop-entry-test.false, c.loop-entry.auto._entry-end, ap (λ (a : Area). a.count) c.area_of-area.ensures.value)

pub returns-clause-past : goal.returns-clause-past
returns-clause-past g c tells = c.loop-entry.invariant.past tells

pub returns-clause-sizes : goal.returns-clause-sizes
returns-clause-sizes g c = c.loop-entry.invariant.sizes

pub returns-clause-cause : goal.returns-clause-cause
returns-clause-cause g c = kept_cause c.args.table.now _ _ _ c.loop-entry.invariant.faults
