-- The journal with a record more, and what log pages hold of it.
use Rattle.std.specs.Prelude.{Bool, List, if◌then◌else◌, [], false, length, nat_lt, slice_index_or, suc, true, zero, ℕ, ◌++◌, ◌+◌, ◌-◌, ◌<◌, ◌∷◌, ◌≡◌, ◌≤◌}
use Rattle.std.proofs.Common.{ap, append_assoc, arith, length-append, refl, sym, ◌∙◌}
use Rattle.std.proofs.lemmas.Bool.Decides.{nat_tests}
use Rattle.std.proofs.lemmas.List.{get_or-append-add, get_or_append_left}
use Rattle.ol_values.specs.Config.{Config}
use Rattle.ol_values.specs.declared.record.Record.{Record}
use Rattle.ol_values.specs.declared.record.Record.TheVariants.{Commit}
use Rattle.ol_ports.specs.Disk.{Past}
use Rattle.ol_log_places.specs.Places.{Place}
use Rattle.ol_log_places.specs.Runs.{IsLogged, journal_at}
use Rattle.ol_loglog.specs.Ready.{IsReady}
use Rattle.ol_loglog.specs.RingValue.{RingValue, first_unwritten}
use Rattle.ol_storage.specs.Behind.{Behind, IsBehind, last_of, record_at, with_record}

-- ---- one record more

kept_by : (g : Behind) (r : Record) (position : ℕ) (b : Bool) → (let bound : ℕ = position - g.start.first in bound < length (g.start.kept ++ g.records))
    → (if b then g.before position else slice_index_or (g.start.kept ++ (g.records ++ r ∷ [])) (position - g.start.first) (Commit 0)) ≡ (if b then g.before position else slice_index_or (g.start.kept ++ g.records) (position - g.start.first) (Commit 0))
kept_by g r position true below = refl
kept_by g r position false below =
    ap (λ (l : List Record). slice_index_or l (position - g.start.first) (Commit 0)) (sym (append_assoc g.start.kept g.records (r ∷ [])))
    ∙ get_or_append_left (g.start.kept ++ g.records) (r ∷ []) (Commit 0) (position - g.start.first) below

-- records at positions up to the last stay
pub record_kept : (g : Behind) (r : Record) (position : ℕ) → IsBehind g → position ≤ last_of g → record_at (with_record r g) position ≡ record_at g position
record_kept g r position is below = by_case (nat_lt position g.start.first) refl
  where
    by_case : (b : Bool) → nat_lt position g.start.first ≡ b → record_at (with_record r g) position ≡ record_at g position
    by_case true e = rw e refl
    by_case false e = kept_by g r position (nat_lt position g.start.first) (let from : g.start.first ≤ position = grind (arith, nat_tests, e) in omega (arith, from, below, is.kept, length-append g.start.kept g.records))

-- the one more stands behind them
pub record_new : (g : Behind) (r : Record) → IsBehind g → record_at (with_record r g) (last_of g + 1) ≡ r
record_new g r is =
    let behind : nat_lt (last_of g + 1) g.start.first ≡ false = grind (arith, nat_tests, is.kept) in
    let place : last_of g + 1 - g.start.first ≡ length (g.start.kept ++ g.records) + 0 = omega (arith, is.kept, length-append g.start.kept g.records) in
    rw behind (rw place (ap (λ (l : List Record). slice_index_or l (length (g.start.kept ++ g.records) + 0) (Commit 0)) (sym (append_assoc g.start.kept g.records (r ∷ []))) ∙ get_or-append-add (g.start.kept ++ g.records) (r ∷ []) 0 (Commit 0)))

-- ---- journals that agree

pub journal_same : (i j : ℕ → Record) (a n : ℕ) → ((position : ℕ) → a ≤ position → position < a + n → j position ≡ i position) → journal_at j a n ≡ journal_at i a n
journal_same i j a zero same = refl
journal_same i j a (suc n) same =
    ap (λ (r : Record). r ∷ journal_at j (a + 1) n) (same a (omega arith) (omega arith))
    ∙ ap (λ (l : List Record). i a ∷ l) (journal_same i j (a + 1) n (λ position from to. same position (omega (arith, from)) (omega (arith, to))))

pub logged_same : (c : Config) (r : ℕ → Place) (i j : ℕ → Record) (need upto : ℕ) → ((position : ℕ) → position < upto → j position ≡ i position) → IsLogged c r i need upto → IsLogged c r j need upto
logged_same c r i j need upto same l = record {
  orderly = l.orderly;
  covers = l.covers;
  one_use = l.one_use;
  order = l.order;
  agrees = λ p stands. l.agrees p stands ∙ sym (journal_same i j p.first (length p.records) (λ position from to. same position (omega (arith, to, l.covers.last p stands))));
}

-- the ring's disk holds each journal that has the same records below the next position
pub ready_same : (past : Past) (v : RingValue) (r : ℕ → Place) (floor : ℕ) (i j : ℕ → Record) → length v.state.buffer < v.state.next → ((position : ℕ) → position < v.state.next → j position ≡ i position) → IsReady past v r floor i → IsReady past v r floor j
ready_same past v r floor i j long same is = record {
  placed = is.placed;
  gates = is.gates;
  alone = is.alone;
  current = is.current;
  told = is.told;
  newest = is.newest;
  near = is.near;
  last = is.last;
  kept = is.kept;
  logged = logged_same v.config r i j floor (first_unwritten v.state) (λ position to. same position (omega (arith, to, long))) is.logged;
  buffer = is.buffer ∙ sym (journal_same i j (first_unwritten v.state) (length v.state.buffer) (λ position from to. same position (omega (arith, to, long))));
}
