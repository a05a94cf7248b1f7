-- What the core keeps true, after a record more.
use Rattle.std.specs.List.{flat_map, range_with_len}
use Rattle.std.specs.Prelude.{Bool, IfSome, List, None, Option, Some, [], drop, false, filter, if◌then◌else◌, is_some, length, map, option_to_list, replicate, suc, true, zero, ℕ, ◌*◌, ◌++◌, ◌+◌, ◌-◌, ◌==◌, ◌∷◌, ◌≡◌, ◌≤◌, refl}
use Rattle.std.specs.Option.{option_map}
use Rattle.std.proofs.Common.{ap, arith, eq-eqb, length-append, subst, sym, ◌∙◌}
use Rattle.std.proofs.lemmas.List.{length-replicate}
use Rattle.std.proofs.lemmas.List.Sums.{fold-append}
use Rattle.ol_values.specs.declared.history.Entry.{Entry}
use Rattle.ol_values.specs.declared.record.Record.{Record}
use Rattle.ol_values.specs.declared.record.Record.TheVariants.{Begin as BeginRecord, Commit as CommitRecord}
use Rattle.ol_values.specs.declared.record.Rid.{Rid}
use Rattle.ol_values.specs.declared.row.Row.{Row}
use Rattle.ol_values.specs.Config.{Config, data_pages}
use Rattle.ol_rules.specs.Journal.{row_after, touches}
use Rattle.ol_rules.specs.Transactions.{Txn, at_txn, begun, open_at, txns_after, with_change, without_txn}
use Rattle.ol_chunks.specs.Limits.{IsConfig}
use Rattle.ol_core.specs.declared.running.Running.{Running}
use Rattle.ol_core.specs.Core.{IsKept, archive_in}
use Rattle.ol_core.specs.Filled.{AreFew, AreFilled, Filled, filled_at, first_place, is_marked, no_rows, used_from, used_in}
use Rattle.ol_core.proofs.Changed.{row_in}
use Rattle.ol_core.proofs.Held.{filled_none, filled_still}
use Rattle.ol_core.proofs.Steps.{most_pages}
use Rattle.ol_core.proofs.Walks.{length-used, more_left}

-- ---- open transactions

abbrev pub numbers : List Txn → List ℕ
numbers txns = map (λ (t : Txn). t.number) txns

open_at-push : (j : List Record) (r : Record) → open_at (j ++ r ∷ []) ≡ txns_after (open_at j) r
open_at-push j r = fold-append txns_after [] j (r ∷ [])

numbers-begun : (txns : List Txn) (n : ℕ) → numbers txns ≡ [] → numbers (txns ++ begun n ∷ []) ≡ n ∷ []
numbers-begun [] n h = refl
numbers-begun (t ∷ txns) n h = absurd (let e : t.number ∷ numbers txns ≡ [] = h in cc)

numbers-without : (txns : List Txn) (n : ℕ) → numbers txns ≡ n ∷ [] → numbers (without_txn n txns) ≡ []
numbers-without [] n h = absurd (let e : ◌≡◌ {A = List ℕ} [] (n ∷ []) = h in cc)
numbers-without (t ∷ []) n h = let e : t.number ≡ n = cc in rw (eq-eqb t.number n e) refl
numbers-without (t ∷ u ∷ txns) n h = absurd (let e : t.number ∷ u.number ∷ numbers txns ≡ n ∷ [] = h in cc)

numbers-changed : (txns : List Txn) (n : ℕ) (rid : Rid) (before : Option Row) → numbers (at_txn n (with_change rid before) txns) ≡ numbers txns
numbers-changed [] n rid before = refl
numbers-changed (t ∷ txns) n rid before =
    ap (λ (k : ℕ). k ∷ numbers (at_txn n (with_change rid before) txns)) (elim (t.number == n) as (λ b. (if b then with_change rid before t else t).number ≡ t.number) [ true ↦ refl | false ↦ refl ])
    ∙ ap (λ (l : List ℕ). t.number ∷ l) (numbers-changed txns n rid before)

-- ---- the empty journal

pub kept_new : (c : Config) (n : ℕ) (pages : List Filled) → IsConfig c → n ≡ length c.spaces → pages ≡ replicate n no_rows → IsKept c [] None pages 1 None []
kept_new c n pages limits count is = record {
  limits = limits;
  open_txn = refl;
  whole = ap length is ∙ length-replicate n no_rows ∙ count;
  filled = subst (AreFilled c []) (sym is) (filled_none c n);
  number = omega arith;
  still = tt;
}

-- ---- a record that changes no page

abbrev IsPlain : Record → Type 0
IsPlain r = ((space page : ℕ) → touches space page r ≡ false) × ((place : Rid) (held : Option Row) → row_after place held r ≡ held)

kept_plain : (c : Config) (j : List Record) (r : Record) (old new : Option ℕ) (pages : List Filled) (next : ℕ) (h : List Entry) (e : Entry)
    → IsPlain r → numbers (txns_after (open_at j) r) ≡ option_to_list new → IsKept c j old pages next None h → IsKept c (j ++ r ∷ []) new pages next None (h ++ e ∷ [])
kept_plain c j r old new pages next h e plain txns k = record {
  limits = k.limits;
  open_txn = ap numbers (open_at-push j r) ∙ txns;
  whole = k.whole;
  filled = λ s. filled_still (data_pages c s) j r s (filled_at pages s) (plain.0 s) (λ i held. plain.1 _ held) (k.filled s);
  number = omega (arith, k.number, length-append h (e ∷ []));
  still = tt;
}

no_txn : (txn : Option ℕ) → is_some txn ≡ false → txn ≡ None
no_txn None h = refl
no_txn (Some n) h = absurd (let e : true ≡ false = h in cc)

no_archive : (a : Option Running) → option_map archive_in a ∷ replicate 3 None ≡ replicate 4 None → a ≡ None
no_archive None h = refl
no_archive (Some a) h = absurd (let e : Some (archive_in a) ≡ None = cc in cc)

-- what is kept of the same values
pub moved : {c : Config} {j j' : List Record} {txn txn' : Option ℕ} {pages : List Filled} {next : ℕ} {a a' : Option Running} {h h' : List Entry}
    → j ≡ j' → txn ≡ txn' → a ≡ a' → h ≡ h' → IsKept c j txn pages next a h → IsKept c j' txn' pages next a' h'
moved {c} {j} {j'} {txn} {txn'} {pages} {next} {a} {a'} {h} {h'} p q r s k =
    subst (λ (x : List Record). IsKept c x txn' pages next a' h') p
    (subst (λ (x : Option ℕ). IsKept c j x pages next a' h') q
    (subst (λ (x : Option Running). IsKept c j txn pages next x h') r
    (subst (λ (x : List Entry). IsKept c j txn pages next a x) s k)))

pub kept_begin : {c : Config} {j j' : List Record} {txn : Option ℕ} {pages : List Filled} {next : ℕ} {a : Option Running} {h h' : List Entry} (n : ℕ) (e : Entry)
    → is_some txn ≡ false → option_map archive_in a ∷ replicate 3 None ≡ replicate 4 None → j' ≡ j ++ BeginRecord n ∷ [] → h' ≡ h ++ e ∷ []
    → IsKept c j txn pages next a h → IsKept c j' (Some n) pages next a h'
kept_begin {c} {j} {j'} {txn} {pages} {next} {a} {h} {h'} n e none idle jis his k =
    let stopped = no_archive a idle in
    let before : IsKept c j None pages next None h = moved refl (no_txn txn none) stopped refl k in
    moved (sym jis) refl (sym stopped) (sym his)
    (kept_plain c j (BeginRecord n) None (Some n) pages next h e ((λ s p. refl), (λ place held. refl)) (numbers-begun (open_at j) n before.open_txn) before)

pub kept_commit : {c : Config} {j j' : List Record} {txn : Option ℕ} {pages : List Filled} {next : ℕ} {a : Option Running} {h h' : List Entry} (n : ℕ) (e : Entry)
    → txn ≡ Some n → option_map archive_in a ∷ replicate 3 None ≡ replicate 4 None → j' ≡ j ++ CommitRecord n ∷ [] → h' ≡ h ++ e ∷ []
    → IsKept c j txn pages next a h → IsKept c j' None pages next a h'
kept_commit {c} {j} {j'} {txn} {pages} {next} {a} {h} {h'} n e some idle jis his k =
    let stopped = no_archive a idle in
    let before : IsKept c j (Some n) pages next None h = moved refl some stopped refl k in
    moved (sym jis) refl (sym stopped) (sym his)
    (kept_plain c j (CommitRecord n) (Some n) None pages next h e ((λ s p. refl), (λ place held. refl)) (numbers-without (open_at j) n before.open_txn) before)

-- ---- a row more

-- the pages are held with room for it
pub kept_room : {c : Config} {j : List Record} {txn : Option ℕ} {pages pages' : List Filled} {next : ℕ} {a : Option Running} {h : List Entry}
    → option_map archive_in a ∷ replicate 3 None ≡ replicate 4 None → length pages' ≡ length pages → (AreFilled c j pages → AreFilled c j pages') → IsKept c j txn pages next a h → IsKept c j txn pages' next a h
kept_room {c} {j} {txn} {pages} {pages'} {next} {a} {h} idle whole grown k =
    moved {a = None} refl refl (sym (no_archive a idle)) refl (record {
      limits = k.limits;
      open_txn = k.open_txn;
      whole = whole ∙ k.whole;
      filled = grown k.filled;
      number = k.number;
      still = tt;
    })

pub kept_insert : {c : Config} {j j' : List Record} {txn : Option ℕ} {pages pages' : List Filled} {next : ℕ} {a : Option Running} {h h' : List Entry} (n space rows : ℕ) (row : Row) (e : Entry)
    → txn ≡ Some n → option_map archive_in a ∷ replicate 3 None ≡ replicate 4 None → j' ≡ j ++ row_in n space rows row ∷ [] → h' ≡ h ++ e ∷ [] → length pages' ≡ length pages → AreFilled c (j ++ row_in n space rows row ∷ []) pages'
    → IsKept c j txn pages next a h → IsKept c j' txn pages' next a h'
kept_insert {c} {j} {j'} {txn} {pages} {pages'} {next} {a} {h} {h'} n space rows row e some idle jis his whole filled k =
    moved {a = None} (sym jis) refl (sym (no_archive a idle)) (sym his) (record {
      limits = k.limits;
      open_txn = ap numbers (open_at-push j (row_in n space rows row)) ∙ numbers-changed (open_at j) n _ None ∙ k.open_txn;
      whole = whole ∙ k.whole;
      filled = filled;
      number = omega (arith, k.number, length-append h (e ∷ []));
      still = tt;
    })

-- ---- limits

pub few_rows : {c : Config} {j : List Record} {txn : Option ℕ} {pages : List Filled} {next : ℕ} {a : Option Running} {h : List Entry} → IsKept c j txn pages next a h → AreFew pages
few_rows {c = c} k s =
    let room = (k.filled s).room in
    let most = most_pages c k.limits s in
    omega (arith, room, most)

pub few_spaces : {c : Config} {j : List Record} {txn : Option ℕ} {pages : List Filled} {next : ℕ} {a : Option Running} {h : List Entry} → IsKept c j txn pages next a h → length pages ≤ 16
few_spaces k = omega (arith, k.whole, k.limits.few)

-- a running archive has at most the pages of 16 spaces
few_used : (pages : List Filled) (marks : List Bool) (a n : ℕ) → AreFew pages → length (flat_map (used_in pages) (filter (is_marked marks) (range_with_len a n))) ≤ 65535 * n
few_used pages marks a zero few = omega arith
few_used pages marks a (suc n) few = cases (few_used pages marks (a + 1) n few) (is_marked marks a) refl
  where
    cases : length (flat_map (used_in pages) (filter (is_marked marks) (range_with_len (a + 1) n))) ≤ 65535 * n → (b : Bool) → is_marked marks a ≡ b
        → length (flat_map (used_in pages) (filter (is_marked marks) (a ∷ range_with_len (a + 1) n))) ≤ 65535 * suc n
    cases rest true e = rw e (omega (arith, rest, few a, length-used pages a, length-append (used_in pages a) (flat_map (used_in pages) (filter (is_marked marks) (range_with_len (a + 1) n)))))
    cases rest false e = rw e (omega (arith, rest))

pub few_passed : {c : Config} {j : List Record} {txn : Option ℕ} {pages : List Filled} {next : ℕ} {h : List Entry} (arch : Option Running) → IsKept c j txn pages next arch h → IfSome arch (λ a. a.passed ≤ 1048560)
few_passed None k = tt
few_passed {pages = pages} (Some a) k =
    let most : length (used_from pages a.spaces 0) ≤ 65535 * (16 - 0) = few_used pages a.spaces 0 16 (few_rows k) in
    omega (arith, k.still.1, most)

-- ---- a page more has passed

pub kept_passed : {c : Config} {j : List Record} {txn : Option ℕ} {pages : List Filled} {next : ℕ} {arch : Option Running} {h h' : List Entry} (a : Running) (p : ℕ × ℕ) (e : Entry) → arch ≡ Some a → first_place (drop a.passed (used_from pages a.spaces 0)) ≡ Some p → h' ≡ h ++ e ∷ []
    → IsKept c j txn pages next arch h → IsKept c j txn pages next (Some (record a { passed = a.passed + 1 })) h'
kept_passed {c} {j} {txn} {pages} {next} {arch} {h} {h'} a p e some first his k =
    let before : IsKept c j txn pages next (Some a) h = moved refl refl some refl k in
    moved {h = h ++ e ∷ []} refl refl refl (sym his) (record {
      limits = k.limits;
      open_txn = k.open_txn;
      whole = k.whole;
      filled = k.filled;
      number = omega (arith, k.number, length-append h (e ∷ []));
      still = (before.still.0, more_left (used_from pages a.spaces 0) a.passed p first);
    })
