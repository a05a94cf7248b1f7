-- What is read as a record is spelled so, and what is spelled so is read, whatever follows it.
use Rattle.std.proofs.Common.{◌≡◌, ℕ, ◌^◌, ◌<◌, cond, eqb, List, [], ◌∷◌, ◌++◌, Option, Some, None, refl, sym, ap, subst, ◌∙◌, append_assoc, inl, inr}
use Rattle.std.proofs.lemmas.Bool.{eqb-true}
use Rattle.std.proofs.lemmas.List.{append-nil}
use Rattle.std.specs.Prelude.{◌||◌, is_some}
use Rattle.std.specs.Int.{w64, to_be_bytes}
use Rattle.ol_values.specs.declared.record.Record.{Record}
use Rattle.ol_values.specs.declared.record.Record.TheVariants.{Begin, Change, Commit, Rolled, Undo}
use Rattle.ol_values.specs.declared.record.Rid.{Rid}
use Rattle.ol_values.specs.declared.row.Row.{Row}
use Rattle.ol_values.specs.Spelling.{IsRecord, place_bytes, record_bytes, value_bytes}
use Rattle.ol_bytes.specs.Reading.{◌>>=◌}
use Rattle.ol_record.specs.Reading.{change_at, kind_at, number_at, place_at, record_at, undo_at, value_at}
use Rattle.ol_record.proofs.Fields.{IsBytes, IsBytes-rest, Takes, Takes-then, bind_some, chosen, guard_true, number_again, number_takes, place_again, place_takes, some_is, value_again, value_takes, wide64}

-- what a reader of a record took: the spelling of a record of the grammar
abbrev pub TakesRecord : List ℕ → Record × List ℕ → Type 0
TakesRecord bytes x = Takes bytes (record_bytes x.0) x.1 × IsRecord x.0

grouped : (p a b c : List ℕ) → p ++ a ++ b ++ c ≡ p ++ (a ++ b ++ c)
grouped p a b c = simp append_assoc

all_grouped : (p a b c d : List ℕ) → p ++ a ++ b ++ c ++ d ≡ p ++ (a ++ (b ++ (c ++ d)))
all_grouped p a b c d = simp append_assoc

-- the rest of a record was taken, behind its kind and transaction
abbrev TakesRest : ℕ → ℕ → List ℕ → Record × List ℕ → Type 0
TakesRest kind txn bytes x = (fields : List ℕ) × Takes bytes fields x.1 × (record_bytes x.0 ≡ kind ∷ to_be_bytes w64 txn ++ fields) × IsRecord x.0

-- what was read is the answer
answered : (kind txn : ℕ) (bytes : List ℕ) (r : Record) (rest : List ℕ) (x : Record × List ℕ) → TakesRest kind txn bytes (r, rest) → Some (r, rest) ≡ Some x → TakesRest kind txn bytes x
answered kind txn bytes r rest x taken e = subst (λ (y : Record × List ℕ). TakesRest kind txn bytes y) (some_is (r, rest) x e) taken

-- ---- what was read

change_takes : (txn : ℕ) (bytes : List ℕ) (x : Record × List ℕ) → IsBytes bytes → txn < 2 ^ 64 → change_at txn bytes ≡ Some x → TakesRest 2 txn bytes x
unfolding change_at record_bytes
change_takes txn bytes x fits lt e =
    let a = bind_some (place_at bytes) (λ rid. value_at rid.1 >>= λ before. value_at before.1 >>= λ after. cond (is_some before.0 || is_some after.0) (Some (Change txn rid.0 before.0 after.0, after.1)) None) x e in
    let b = bind_some (value_at a.0.1) (λ before. value_at before.1 >>= λ after. cond (is_some before.0 || is_some after.0) (Some (Change txn a.0.0 before.0 after.0, after.1)) None) x a.2 in
    let c = bind_some (value_at b.0.1) (λ after. cond (is_some b.0.0 || is_some after.0) (Some (Change txn a.0.0 b.0.0 after.0, after.1)) None) x b.2 in
    let g = guard_true (is_some b.0.0 || is_some c.0.0) (Some (Change txn a.0.0 b.0.0 c.0.0, c.0.1)) x c.2 in
    let t0 = place_takes bytes a.0 fits a.1 in
    let t1 = value_takes a.0.1 b.0 t0.0.rest_fits b.1 in
    let t2 = value_takes b.0.1 c.0 t1.0.rest_fits c.1 in
    let t01 = Takes-then bytes (place_bytes a.0.0) a.0.1 (value_bytes b.0.0) b.0.1 t0.0 t1.0 in
    let t02 = Takes-then bytes (place_bytes a.0.0 ++ value_bytes b.0.0) b.0.1 (value_bytes c.0.0) c.0.1 t01 t2.0 in
    let taken : TakesRest 2 txn bytes (Change txn a.0.0 b.0.0 c.0.0, c.0.1) = (place_bytes a.0.0 ++ value_bytes b.0.0 ++ value_bytes c.0.0, t02, grouped (2 ∷ to_be_bytes w64 txn) (place_bytes a.0.0) (value_bytes b.0.0) (value_bytes c.0.0), (lt, t0.1, t1.1, t2.1, g.0)) in
    answered 2 txn bytes (Change txn a.0.0 b.0.0 c.0.0) c.0.1 x taken g.1

undo_takes : (txn : ℕ) (bytes : List ℕ) (x : Record × List ℕ) → IsBytes bytes → txn < 2 ^ 64 → undo_at txn bytes ≡ Some x → TakesRest 3 txn bytes x
unfolding undo_at record_bytes
undo_takes txn bytes x fits lt e =
    let a = bind_some (place_at bytes) (λ rid. value_at rid.1 >>= λ value. Some (Undo txn rid.0 value.0, value.1)) x e in
    let b = bind_some (value_at a.0.1) (λ value. Some (Undo txn a.0.0 value.0, value.1)) x a.2 in
    let t0 = place_takes bytes a.0 fits a.1 in
    let t1 = value_takes a.0.1 b.0 t0.0.rest_fits b.1 in
    let t01 = Takes-then bytes (place_bytes a.0.0) a.0.1 (value_bytes b.0.0) b.0.1 t0.0 t1.0 in
    let taken : TakesRest 3 txn bytes (Undo txn a.0.0 b.0.0, b.0.1) = (place_bytes a.0.0 ++ value_bytes b.0.0, t01, append_assoc (3 ∷ to_be_bytes w64 txn) (place_bytes a.0.0) (value_bytes b.0.0), (lt, t0.1, t1.1)) in
    answered 3 txn bytes (Undo txn a.0.0 b.0.0) b.0.1 x taken b.2

-- a record that is its kind and its transaction alone
bare_takes : (kind txn : ℕ) (bytes : List ℕ) (r : Record) (x : Record × List ℕ) → IsBytes bytes → record_bytes r ≡ kind ∷ to_be_bytes w64 txn → IsRecord r → Some (r, bytes) ≡ Some x → TakesRest kind txn bytes x
bare_takes kind txn bytes r x fits spelled is e =
    let taken : TakesRest kind txn bytes (r, bytes) = ([], record { parts = refl; rest_fits = fits }, spelled ∙ sym (append-nil (kind ∷ to_be_bytes w64 txn)), is) in
    answered kind txn bytes r bytes x taken e

rolled_takes : (kind txn : ℕ) (bytes : List ℕ) (x : Record × List ℕ) → IsBytes bytes → txn < 2 ^ 64 → cond (eqb kind 5) (Some (Rolled txn, bytes)) None ≡ Some x → TakesRest kind txn bytes x
unfolding record_bytes
rolled_takes kind txn bytes x fits lt e =
    let g = guard_true (eqb kind 5) (Some (Rolled txn, bytes)) x e in
    rw (eqb-true kind 5 g.0) (bare_takes 5 txn bytes (Rolled txn) x fits refl lt g.1)

commit_takes : (kind txn : ℕ) (bytes : List ℕ) (x : Record × List ℕ) → IsBytes bytes → txn < 2 ^ 64 → cond (eqb kind 4) (Some (Commit txn, bytes)) (cond (eqb kind 5) (Some (Rolled txn, bytes)) None) ≡ Some x → TakesRest kind txn bytes x
unfolding record_bytes
commit_takes kind txn bytes x fits lt e =
    let commit : Option (Record × List ℕ) = Some (Commit txn, bytes) in
    let rolled : Option (Record × List ℕ) = cond (eqb kind 5) (Some (Rolled txn, bytes)) None in
    elim (chosen (eqb kind 4) commit rolled (Some x) e) [
      | inl g ↦ rw (eqb-true kind 4 g.0) (bare_takes 4 txn bytes (Commit txn) x fits refl lt g.1)
      | inr g ↦ rolled_takes kind txn bytes x fits lt g.1
    ]

kind_takes : (kind txn : ℕ) (bytes : List ℕ) (x : Record × List ℕ) → IsBytes bytes → txn < 2 ^ 64 → kind_at kind txn bytes ≡ Some x → TakesRest kind txn bytes x
unfolding kind_at record_bytes
kind_takes kind txn bytes x fits lt e =
    let late : Option (Record × List ℕ) = cond (eqb kind 4) (Some (Commit txn, bytes)) (cond (eqb kind 5) (Some (Rolled txn, bytes)) None) in
    let undo : Option (Record × List ℕ) = cond (eqb kind 3) (undo_at txn bytes) late in
    let change : Option (Record × List ℕ) = cond (eqb kind 2) (change_at txn bytes) undo in
    let begin : Option (Record × List ℕ) = Some (Begin txn, bytes) in
    elim (chosen (eqb kind 1) begin change (Some x) e) [
      | inl g ↦ rw (eqb-true kind 1 g.0) (bare_takes 1 txn bytes (Begin txn) x fits refl lt g.1)
      | inr n ↦ elim (chosen (eqb kind 2) (change_at txn bytes) undo (Some x) n.1) [
        | inl g ↦ rw (eqb-true kind 2 g.0) (change_takes txn bytes x fits lt g.1)
        | inr m ↦ elim (chosen (eqb kind 3) (undo_at txn bytes) late (Some x) m.1) [
          | inl g ↦ rw (eqb-true kind 3 g.0) (undo_takes txn bytes x fits lt g.1)
          | inr l ↦ commit_takes kind txn bytes x fits lt l.1
        ]
      ]
    ]

pub record_takes : (bytes : List ℕ) (x : Record × List ℕ) → IsBytes bytes → record_at bytes ≡ Some x → TakesRecord bytes x
unfolding record_at
record_takes [] x fits e = absurd cc
record_takes (kind ∷ rest) x fits e =
    let a = bind_some (number_at w64 rest) (λ txn. kind_at kind txn.0 txn.1) x e in
    let t0 = number_takes w64 (2 ^ 64) wide64 rest a.0 (IsBytes-rest kind rest fits) a.1 in
    let t1 = kind_takes kind a.0.0 a.0.1 x t0.0.rest_fits t0.1 a.2 in
    let both = Takes-then rest (to_be_bytes w64 a.0.0) a.0.1 t1.0 x.1 t0.0 t1.1 in
    let parts : kind ∷ rest ≡ record_bytes x.0 ++ x.1 = ap (λ (l : List ℕ). kind ∷ l) both.parts ∙ ap (λ (l : List ℕ). l ++ x.1) (sym t1.2) in
    (record { parts = parts; rest_fits = both.rest_fits }, t1.3)

-- ---- what was written

head_again : (kind txn : ℕ) (rest : List ℕ) → txn < 2 ^ 64 → record_at (kind ∷ (to_be_bytes w64 txn ++ rest)) ≡ kind_at kind txn rest
unfolding record_at
head_again kind txn rest lt = rw (number_again w64 (2 ^ 64) wide64 txn rest lt) refl

change_again : (txn : ℕ) (rid : Rid) (before after : Option Row) (rest : List ℕ) → IsRecord (Change txn rid before after) → change_at txn (place_bytes rid ++ (value_bytes before ++ (value_bytes after ++ rest))) ≡ Some (Change txn rid before after, rest)
unfolding change_at
change_again txn rid before after rest is =
    rw (place_again rid (value_bytes before ++ (value_bytes after ++ rest)) is.1, value_again before (value_bytes after ++ rest) is.2, value_again after rest is.3, is.4) refl

undo_again : (txn : ℕ) (rid : Rid) (value : Option Row) (rest : List ℕ) → IsRecord (Undo txn rid value) → undo_at txn (place_bytes rid ++ (value_bytes value ++ rest)) ≡ Some (Undo txn rid value, rest)
unfolding undo_at
undo_again txn rid value rest is = rw (place_again rid (value_bytes value ++ rest) is.1, value_again value rest is.2) refl

pub record_again : (r : Record) (rest : List ℕ) → IsRecord r → record_at (record_bytes r ++ rest) ≡ Some (r, rest)
unfolding record_bytes kind_at
record_again (Begin txn) rest is = head_again 1 txn rest is
record_again (Change txn rid before after) rest is =
    ap record_at (all_grouped (2 ∷ to_be_bytes w64 txn) (place_bytes rid) (value_bytes before) (value_bytes after) rest)
    ∙ head_again 2 txn (place_bytes rid ++ (value_bytes before ++ (value_bytes after ++ rest))) is.0
    ∙ change_again txn rid before after rest is
record_again (Undo txn rid value) rest is =
    ap record_at (grouped (3 ∷ to_be_bytes w64 txn) (place_bytes rid) (value_bytes value) rest ∙ ap (λ (l : List ℕ). (3 ∷ to_be_bytes w64 txn) ++ l) (append_assoc (place_bytes rid) (value_bytes value) rest))
    ∙ head_again 3 txn (place_bytes rid ++ (value_bytes value ++ rest)) is.0
    ∙ undo_again txn rid value rest is
record_again (Commit txn) rest is = head_again 4 txn rest is
record_again (Rolled txn) rest is = head_again 5 txn rest is

-- no spelling begins another
pub same_front : (r s : Record) (x y : List ℕ) → IsRecord r → IsRecord s → record_bytes r ++ x ≡ record_bytes s ++ y → (r ≡ s) × (x ≡ y)
same_front r s x y is also e =
    let one : (r, x) ≡ (s, y) = some_is (r, x) (s, y) (sym (record_again r x is) ∙ ap record_at e ∙ record_again s y also) in
    (ap (λ (p : Record × List ℕ). p.0) one, ap (λ (p : Record × List ℕ). p.1) one)
