-- The start of an archive.
use Rattle.std.specs.Prelude.{List, None, Option, Some, [], false, is_some, length, option_to_list, true, unwrap_or, ℕ, ◌+◌, ◌∷◌, ◌≡◌, refl}
use Rattle.std.proofs.Common.{ap, arith, sym, ◌∙◌}
use Rattle.std.proofs.lemmas.List.{take_all}
use Rattle.ol_values.specs.declared.event.Reply.{Reply}
use Rattle.ol_values.specs.declared.event.Reply.TheVariants.{Started}
use Rattle.ol_values.specs.declared.history.Entry.{Entry}
use Rattle.ol_values.specs.declared.record.Record.{Record}
use Rattle.ol_values.specs.declared.record.Rid.{Rid}
use Rattle.ol_core.specs.Archivers.{saved_of, spaces_named, start_turn, start_with}
use Rattle.ol_values.specs.Config.{Config}
use Rattle.ol_core.specs.Machine.{Archive, Machine, pages_of, with_archive}
use Rattle.ol_values.specs.Blocks.{Saved}
use Rattle.ol_rules.specs.Saveset.{places}
use Rattle.ol_rules.specs.Transactions.{Txn, low_at, low_of, open_at}
use Rattle.ol_core.specs.declared.running.Running.{Running}
use Rattle.ol_core.specs.Core.{IsKept, archive_in, machine_in}
use Rattle.ol_core.specs.Filled.{Filled, marked, no_marks, saved_in, used_from}
use Rattle.ol_core.proofs.Kept.{numbers}
use Rattle.ol_core.proofs.Marks.{saved_are}
use Rattle.ol_core.proofs.Places.{places_are}

pub no_running : (a : Option Running) → is_some a ≡ false → a ≡ None
no_running None h = refl
no_running (Some a) h = absurd (let e : true ≡ false = h in cc)

-- the low of an archive is the session's transaction, or the position after the last
low_is : (txns : List Txn) (txn : Option ℕ) (last : ℕ) → numbers txns ≡ option_to_list txn → low_of txns last ≡ unwrap_or txn (last + 1)
low_is [] None last h = refl
low_is [] (Some n) last h = absurd (let e : ◌≡◌ {A = List ℕ} [] (n ∷ []) = h in cc)
low_is (t ∷ txns) None last h = absurd (let e : t.number ∷ numbers txns ≡ [] = h in cc)
low_is (t ∷ txns) (Some n) last h = cc

abbrev start_of : Machine → ℕ → Archive → Reply × Machine
start_of m pages a = (Started a.number a.cut pages, with_archive 1 (Some a) (record m { next_archive = a.number + 1 }))

abbrev begun : ℕ → ℕ → ℕ → List Saved → Archive
begun number cut low spaces = record { number = number; level = 0; cut = cut; low = low; spaces = spaces; passed = 0 }

-- an archive that begins, as the engine keeps it
pub record Begins (j : List Record) (txn : Option ℕ) (next : ℕ) (spaces : List ℕ) (b : Running) : Type 0 where
  pub number : b.number ≡ next
  pub cut : b.cut ≡ length j
  pub low : b.low ≡ unwrap_or txn (length j + 1)
  pub marks : b.spaces ≡ marked no_marks spaces
  pub passed : b.passed ≡ 0

same_archive : {c : Config} {j : List Record} {txn : Option ℕ} {pages : List Filled} {next : ℕ} {h : List Entry} (names : List (List ℕ)) (spaces : List ℕ) (b : Running) → IsKept c j txn pages next None h → spaces_named c names ≡ Some spaces → Begins j txn next spaces b
    → archive_in b ≡ begun next (length j) (low_at j) (saved_of c spaces)
same_archive {c = c} {j = j} {txn = txn} {next = next} names spaces b k named is =
    ap (λ (x : ℕ). let r : Archive = record { number = x; level = 0; cut = b.cut; low = b.low; spaces = saved_in b.spaces; passed = b.passed } in r) is.number
    ∙ ap (λ (x : ℕ). let r : Archive = record { number = next; level = 0; cut = x; low = b.low; spaces = saved_in b.spaces; passed = b.passed } in r) is.cut
    ∙ ap (λ (x : ℕ). let r : Archive = record { number = next; level = 0; cut = length j; low = x; spaces = saved_in b.spaces; passed = b.passed } in r) (is.low ∙ sym (low_is (open_at j) txn (length j) k.open_txn))
    ∙ ap (λ (x : ℕ). let r : Archive = record { number = next; level = 0; cut = length j; low = low_at j; spaces = saved_in b.spaces; passed = x } in r) is.passed
    ∙ ap (begun next (length j) (low_at j)) (ap saved_in is.marks ∙ saved_are c names spaces k.limits named)

pub starts : {c : Config} {j : List Record} {txn : Option ℕ} {pages : List Filled} {next : ℕ} {h : List Entry} (regs : List (Option Rid)) (names : List (List ℕ)) (spaces : List ℕ) (b : Running) → IsKept c j txn pages next None h
    → spaces_named c names ≡ Some spaces → Begins j txn next spaces b
    → start_turn (machine_in c j txn regs next None) 1 0 names ≡ (Started b.number b.cut (length (used_from pages b.spaces 0)), machine_in c j txn regs (next + 1) (Some b))
starts {c = c} {j = j} {txn = txn} {pages = pages} {next = next} regs names spaces b k named begins =
    let m = machine_in c j txn regs next None in
    let is = same_archive names spaces b k named begins in
    let count : length (pages_of m (archive_in b)) ≡ length (used_from pages b.spaces 0) =
    ap (λ (l : List Record). length (places c l (saved_in b.spaces))) (take_all b.cut j (omega (arith, begins.cut))) ∙ ap length (places_are c j pages b.spaces k.filled) in
    ap (start_with m 1 0) named
    ∙ ap (λ (a : Archive). start_of m (length (pages_of m a)) a) (sym is)
    ∙ ap (λ (n : ℕ). start_of m n (archive_in b)) count
    ∙ ap (λ (n : ℕ). let r : Reply × Machine = (Started b.number b.cut (length (used_from pages b.spaces 0)), machine_in c j txn regs (n + 1) (Some b)) in r) begins.number
