-- A log that holds a journal lacks nothing, and a scan refuses none of its pages.
use Rattle.std.specs.Prelude.{Bool, List, [], false, map, nat_le, nat_lt, true, ℕ, ◌&&◌, ◌⊎◌, ◌+◌, ◌<◌, ◌^◌, ◌||◌, ◌∷◌, ◌≡◌, ◌≤◌}
use Rattle.std.proofs.Common.{ap, arith, inl, inr, refl, sym, ⊎_elim, ◌∙◌}
use Rattle.std.proofs.lemmas.Bool.Decides.{nat_tests}
use Rattle.ol_values.specs.Config.{Config, log_pages}
use Rattle.ol_values.specs.declared.record.Record.{Record}
use Rattle.ol_rules.specs.DiskValue.{OpenLog}
use Rattle.ol_log_places.specs.declared.heads.Stood.{Stood}
use Rattle.ol_log_places.specs.Places.{Place}
use Rattle.ol_log_places.specs.Runs.{AllStand, Chain, IsLogged, IsRun, Stands, end_of, open_logs, run_in}
use Rattle.ol_log_places.specs.Scanning.{IsRefused, stood_of}
use Rattle.ol_log_places.proofs.Journals.{logged_run}
use Rattle.ol_log_places.proofs.Logs.{compare}
use Rattle.ol_log_places.proofs.Runs.{run_or_none}
use Rattle.ol_log_opening.specs.Opened.{EndsAt, end_behind, lacks, lacks_in}
use Rattle.ol_log_opening.proofs.Ends.{chain_rest, some_pages}

-- ---- a scan

-- no page is bad, and no two share a position
pub none_refused : (c : Config) (r : ℕ → Place) (j : ℕ → Record) (need upto chunk page : ℕ) → IsLogged c r j need upto → IsRefused c r chunk page → ⊥
none_refused c r j need upto chunk page log refused =
    ⊎_elim (λ bad. log.orderly.good refused.0 bad.within bad.bad)
    (λ shared. (let (lower, position, p, q, below, here, there, has, has_too) = shared.shares in
    let same = log.orderly.apart lower refused.0 position p q (omega (arith, below, shared.within)) shared.within here there has has_too in
    omega (arith, same, below)))
    refused.2

-- ---- what a run lacks

both_off : (a b : Bool) → (a ≡ true → b ≡ true → ⊥) → (a && b) ≡ false
both_off true true e = absurd (e refl refl)
both_off true false e = refl
both_off false b e = refl

all_off : (a b c : Bool) → a ≡ false → b ≡ false → c ≡ false → (a || (b || c)) ≡ false
all_off false false c ea eb ec = ec
all_off true b c ea eb ec = absurd (let clash : true ≡ false = ea in cc)
all_off false true c ea eb ec = absurd (let clash : true ≡ false = eb in cc)

below_off : (a b : ℕ) → b ≤ a → nat_lt a b ≡ false
below_off a b le = grind (arith, nat_tests, le)

most_off : (a b : ℕ) → b < a → nat_le a b ≡ false
most_off a b lt = grind (arith, nat_tests, lt)

most_is : (a b : ℕ) → nat_le a b ≡ true → a ≤ b
most_is a b is = grind (arith, nat_tests, is)

below_is : (a b : ℕ) → nat_lt a b ≡ true → a < b
below_is a b is = grind (arith, nat_tests, is)

first_is : (m : OpenLog) (l : List OpenLog) (a b : ℕ) → Chain (m ∷ l) a b → m.page.first ≡ a
unfolding Chain
first_is m l a b chain = chain.0

stands_first : (c : Config) (r : ℕ → Place) (n : ℕ) (m : OpenLog) (l : List OpenLog) → AllStand c r n (m ∷ l) → Stands r n m.page
unfolding AllStand
stands_first c r n m l all = all.0.0

module _ (c : Config) (r : ℕ → Place) (j : ℕ → Record) (need position last : ℕ) (log : IsLogged c r j need (last + 1)) (low : need ≤ position + 1) (at : position ≤ last) where
  -- a run that ends with the last position, and begins at or below the need or the position behind the checkpoint
  run_whole : (l : List OpenLog) (a : ℕ) → (a ≤ need) ⊎ (position < need) → a ≤ position + 1 → IsRun c r (log_pages c) l a (last + 1) → lacks_in position need (map (stood_of c) l) ≡ false
  run_whole [] a from begin run = absurd (some_pages [] a (last + 1) run.some run.chain refl)
  run_whole (m ∷ l) a from begin run =
      let first = first_is m l a (last + 1) run.chain in
      let ends = chain_rest c m l a (last + 1) run.chain in
      all_off (nat_le need position && nat_lt need m.page.first) (nat_lt (position + 1) m.page.first) (nat_le (end_behind (end_of m.page) (map (stood_of c) l)) position)
      (both_off (nat_le need position) (nat_lt need m.page.first) (λ up below. (let one = most_is need position up in let two = below_is need m.page.first below in ⊎_elim (λ le. omega (arith, le, first, two)) (λ lt. omega (arith, lt, one)) from)))
      (below_off (position + 1) m.page.first (omega (arith, first, begin))) (ap (λ n. nat_le n position) ends ∙ most_off (last + 1) position (omega (arith, at)))

  -- nothing is needed
  none_whole : need ≡ last + 1 → EndsAt c r (last + 1) → (l : List OpenLog) (a b : ℕ) → IsRun c r (log_pages c) l a b → lacks_in position need (map (stood_of c) l) ≡ false
  none_whole behind ends [] a b run = absurd (some_pages [] a b run.some run.chain refl)
  none_whole behind ends (m ∷ l) a b run =
      let q = ends m.page (stands_first c r (log_pages c) m l run.stand) in
      let most = run.last q.0 q.1 in
      let first = first_is m l a b run.chain in
      let below = log.covers.last m.page (stands_first c r (log_pages c) m l run.stand) in
      let end_is = chain_rest c m l a b run.chain in
      let some = log.orderly.some (stands_first c r (log_pages c) m l run.stand).place m.page (stands_first c r (log_pages c) m l run.stand).within (stands_first c r (log_pages c) m l run.stand).is in
      all_off (nat_le need position && nat_lt need m.page.first) (nat_lt (position + 1) m.page.first) (nat_le (end_behind (end_of m.page) (map (stood_of c) l)) position)
      (both_off (nat_le need position) (nat_lt need m.page.first) (λ up _. (let one = most_is need position up in omega (arith, one, behind, at))))
      (below_off (position + 1) m.page.first (omega (arith, below, some, behind, low))) (ap (λ n. nat_le n position) end_is ∙ most_off b position (omega (arith, most, q.2, at)))

  lacks_no : (need ≡ last + 1 → EndsAt c r (last + 1)) → lacks_in position need (map (stood_of c) (run_in (open_logs c r))) ≡ false
  lacks_no ends = elim (compare need (last + 1)) [
    | inl lt ↦ (let run = logged_run c r j need (last + 1) lt log in run_whole (run_in (open_logs c r)) run.0 (inl run.1) (omega (arith, run.1, low)) run.2)
    | inr le ↦ (let behind : need ≡ last + 1 = omega (arith, le, low, at) in elim (run_or_none c r (log_pages c) log.orderly) [
      | inl none ↦ ap (λ (l : List OpenLog). lacks_in position need (map (stood_of c) l)) none.0 ∙ most_off need position (omega (arith, behind, at))
      | inr found ↦ none_whole behind (ends behind) (run_in (open_logs c r)) found.0 found.1 found.2
    ])
  ]

  pub lacks_nothing : position < 2 ^ 62 → (need ≡ last + 1 → EndsAt c r (last + 1)) → lacks position need (map (stood_of c) (run_in (open_logs c r))) ≡ false
  lacks_nothing small ends = let whole = lacks_no ends in let test = most_off (2 ^ 62) position small in ap (λ b. b || lacks_in position need (map (stood_of c) (run_in (open_logs c r)))) test ∙ whole

-- a ring is refused for a page only where its run lacks something
pub lacks_clash : (c : Config) (r : ℕ → Place) (j : ℕ → Record) (need position last : ℕ) (run : List Stood) → IsLogged c r j need (last + 1) → need ≤ position + 1 → position ≤ last → position < 2 ^ 62 → (need ≡ last + 1 → EndsAt c r (last + 1)) → run ≡ map (stood_of c) (run_in (open_logs c r))
    → lacks position need run ≡ true → ⊥
lacks_clash c r j need position last run log low at small ends is lack =
    let clash : true ≡ false = sym lack ∙ ap (lacks position need) is ∙ lacks_nothing c r j need position last log low at small ends in cc
