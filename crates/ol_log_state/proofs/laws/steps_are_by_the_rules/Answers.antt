use Rattle.std.proofs.Common.{List, ℕ, [], refl, ap, arith, length, sym, ◌++◌, ◌-◌, ◌<◌, ◌==◌, ◌∙◌, ◌∷◌, ◌≡◌}
use Rattle.std.specs.Prelude.{if◌then◌else◌, is_none, slice_get}
use Rattle.ol_rules.specs.Ring.{Ring, written}
use Rattle.ol_values.specs.declared.record.Record.{Record}
use Rattle.ol_log_state.specs.RingState.{config_of, ring_of}
use Rattle.ol_log_state.proofs.laws.steps_are_by_the_rules.Goals as goal

abbrev more : Record → Ring → Ring
more rec r = record r { buffer = r.buffer ++ rec ∷ [] }

pub returns-clause-fits : goal.returns-clause-fits
returns-clause-fits c = λ s rec fits.
    sym (ap (λ b. more rec (if b then ring_of s else written (config_of s) (ring_of s) (s.next - 1))) fits)

pub returns-clause-turns : goal.returns-clause-turns
returns-clause-turns c = λ s rec full is.
    ap (more rec) is ∙ sym (ap (λ b. more rec (if b then ring_of s else written (config_of s) (ring_of s) (s.next - 1))) full)

some_held : (l : List Record) → 0 < length l → (let n : ℕ = (if is_none (slice_get l 0) then 0 else 1) in n) ≡ 1
some_held [] some = absurd (omega arith)
some_held (x ∷ l) some = refl

pub returns-clause-flushes : goal.returns-clause-flushes
returns-clause-flushes c = λ s some is.
    is ∙ sym (ap (λ n. (let r : Ring = (if n == 0 then ring_of s else written (config_of s) (ring_of s) (s.next - 1)) in r)) (some_held s.buffer some))

pub returns-clause-nothing : goal.returns-clause-nothing
returns-clause-nothing c = λ s none.
    sym (ap (λ (l : List Record). (let r : Ring = (if (if is_none (slice_get l 0) then 0 else 1) == 0 then ring_of s else written (config_of s) (ring_of s) (s.next - 1)) in r)) none)
