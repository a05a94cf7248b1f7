-- Where a standing run ends, and what a ring that is opened begins with.
use Rattle.std.specs.Prelude.{Bool, List, [], false, length, map, nat_le, nat_lt, slice_index_or, suc, true, ℕ, ◌&&◌, ◌+◌, ◌-◌, ◌<◌, ◌^◌, ◌||◌, ◌∷◌, ◌≡◌, ◌≤◌}
use Rattle.std.proofs.Common.{ap, arith, inl, inr, refl, sym, ◌∙◌}
use Rattle.std.proofs.lemmas.Bool.Decides.{nat_tests}
use Rattle.ol_values.specs.Config.{Config, log_pages}
use Rattle.ol_values.specs.LogPages.{LogPage}
use Rattle.ol_values.specs.declared.record.Record.{Record}
use Rattle.ol_rules.specs.DiskValue.{OpenLog}
use Rattle.ol_log_places.specs.Heads.{end_in, no_stood}
use Rattle.ol_log_places.specs.declared.heads.Stood.{Stood}
use Rattle.ol_log_places.specs.Places.{Place}
use Rattle.ol_log_places.specs.Runs.{AllStand, Chain, IsLogged, IsRun, Stands, end_of, open_logs, run_in}
use Rattle.ol_log_places.specs.Scanning.{stood_of}
use Rattle.ol_log_places.proofs.Logs.{compare}
use Rattle.ol_log_places.proofs.Runs.{run_or_none}
use Rattle.ol_log_opening.specs.Opened.{end_behind, lacks, lacks_in, next_behind}

or_parts : (x y : Bool) → (x || y) ≡ false → (x ≡ false) × (y ≡ false)
or_parts true y e = absurd (let clash : true ≡ false = e in cc)
or_parts false y e = (refl, e)

-- ---- the end of a list of pages

-- the last page is at the last index
last_from : (s : Stood) (run : List Stood) → end_behind (end_in s) run ≡ end_in (slice_index_or (s ∷ run) (length run) no_stood)
last_from s [] = refl
last_from s (t ∷ rest) = last_from t rest ∙ ap (λ (n : ℕ). end_in (slice_index_or (s ∷ t ∷ rest) n no_stood)) (let e : suc (length rest) ≡ length (t ∷ rest) = omega arith in e)

pub end_of_last : (run : List Stood) → 0 < length run → end_in (slice_index_or run (length run - 1) no_stood) ≡ end_behind 0 run
end_of_last [] some = absurd (omega (arith, some))
end_of_last (s ∷ run) some = ap (λ (n : ℕ). end_in (slice_index_or (s ∷ run) n no_stood)) (let e : length (s ∷ run) - 1 ≡ length run = omega arith in e) ∙ sym (last_from s run)

-- ---- the end of a run

chain_end : (c : Config) (e : ℕ) (l : List OpenLog) (a b : ℕ) → Chain l a b → e ≡ a → end_behind e (map (stood_of c) l) ≡ b
unfolding Chain
chain_end c e [] a b chain same = same ∙ chain
chain_end c e (l ∷ rest) a b chain same = chain_end c (end_of l.page) rest (end_of l.page) b chain.1 refl

pub chain_rest : (c : Config) (m : OpenLog) (l : List OpenLog) (a b : ℕ) → Chain (m ∷ l) a b → end_behind (end_of m.page) (map (stood_of c) l) ≡ b
unfolding Chain
chain_rest c m l a b chain = chain_end c (end_of m.page) l (end_of m.page) b chain.1 refl

ends_at : (c : Config) (r : ℕ → Place) (n : ℕ) (l : OpenLog) (rest : List OpenLog) (a b : ℕ) → Chain (l ∷ rest) a b → AllStand c r n (l ∷ rest) → (p : LogPage) × Stands r n p × (end_of p ≡ b)
unfolding Chain AllStand
ends_at c r n l [] a b chain stand = (l.page, stand.0.0, chain.1)
ends_at c r n l (m ∷ rest) a b chain stand = ends_at c r n m rest (end_of l.page) b chain.1 stand.1

-- pages that follow one another from one position to a later are some
pub some_pages : (l : List OpenLog) (a b : ℕ) → a < b → Chain l a b → l ≡ [] → ⊥
unfolding Chain
some_pages [] a b lt chain none = omega (arith, lt, chain)
some_pages (m ∷ l) a b lt chain none = (let clash : m ∷ l ≡ [] = none in cc)

module _ (c : Config) (r : ℕ → Place) (j : ℕ → Record) (need position last : ℕ) (log : IsLogged c r j need (last + 1)) (low : need ≤ position + 1) (at : position ≤ last) where
  -- where no page stands, the checkpoint is at the last position
  none_next : run_in (open_logs c r) ≡ [] → ((p : LogPage) → Stands r (log_pages c) p → ⊥) → lacks_in position need (map (stood_of c) (run_in (open_logs c r))) ≡ false → next_behind position (map (stood_of c) (run_in (open_logs c r))) ≡ last + 1
  none_next empty none whole =
      let above : position < need = (let test : nat_le need position ≡ false = sym (ap (λ (l : List OpenLog). lacks_in position need (map (stood_of c) l)) empty) ∙ whole in grind (arith, nat_tests, test)) in
      let here : position ≡ last = elim (compare position last) [
        | inl lt ↦ absurd (let p = log.covers.each last (omega (arith, low, lt)) (omega arith) in none p.0 p.1)
        | inr le ↦ omega (arith, le, at)
      ] in
      ap (λ (l : List OpenLog). next_behind position (map (stood_of c) l)) empty ∙ ap (λ (n : ℕ). n + 1) here

  run_next : (l : List OpenLog) (a b : ℕ) → IsRun c r (log_pages c) l a b → lacks_in position need (map (stood_of c) l) ≡ false → next_behind position (map (stood_of c) l) ≡ last + 1
  run_next [] a b run whole = absurd (some_pages [] a b run.some run.chain refl)
  run_next (m ∷ l) a b run whole =
      let ends = chain_rest c m l a b run.chain in
      let page = ends_at c r (log_pages c) m l a b run.chain run.stand in
      let most : b ≤ last + 1 = (let below = log.covers.last page.0 page.1 in omega (arith, below, page.2)) in
      let beyond = (or_parts (nat_lt (position + 1) m.page.first) (nat_le (end_behind (end_of m.page) (map (stood_of c) l)) position) (or_parts (nat_le need position && nat_lt need m.page.first) (nat_lt (position + 1) m.page.first || nat_le (end_behind (end_of m.page) (map (stood_of c) l)) position) whole).1).1 in
      let above : position < b = (let test : nat_le b position ≡ false = sym (ap (λ (n : ℕ). nat_le n position) ends) ∙ beyond in grind (arith, nat_tests, test)) in
      ends ∙ (elim (compare last need) [
        | inl lt ↦ (let e : b ≡ last + 1 = omega (arith, most, above, lt, low) in e)
        | inr le ↦ (let p = log.covers.each last le (omega arith) in let below = run.last p.0 p.1 in let has = p.2 in let e : b ≡ last + 1 = omega (arith, most, below, has.1) in e)
      ])

  pub next_is : lacks position need (map (stood_of c) (run_in (open_logs c r))) ≡ false → next_behind position (map (stood_of c) (run_in (open_logs c r))) ≡ last + 1
  next_is whole =
      let inner = (or_parts (nat_le (2 ^ 62) position) (lacks_in position need (map (stood_of c) (run_in (open_logs c r)))) whole).1 in
      elim (run_or_none c r (log_pages c) log.orderly) [
        | inl none ↦ none_next none.0 none.1 inner
        | inr found ↦ run_next (run_in (open_logs c r)) found.0 found.1 found.2 inner
      ]

-- a run that lacks nothing ends behind the checkpoint
pub next_above : (position need : ℕ) (run : List Stood) → lacks position need run ≡ false → position < next_behind position run
next_above position need [] whole = omega arith
next_above position need (s ∷ run) whole =
    let inner = (or_parts (nat_le (2 ^ 62) position) (lacks_in position need (s ∷ run)) whole).1 in
    let beyond = (or_parts (nat_lt (position + 1) s.head.first) (nat_le (end_behind (end_in s) run) position) (or_parts (nat_le need position && nat_lt need s.head.first) (nat_lt (position + 1) s.head.first || nat_le (end_behind (end_in s) run) position) inner).1).1 in
    grind (arith, nat_tests, beyond)
