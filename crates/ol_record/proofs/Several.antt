-- Records one after the other.
use Rattle.std.proofs.Common.{◌≡◌, ℕ, zero, suc, ◌+◌, ◌-◌, ◌*◌, ◌<◌, ◌≤◌, Bool, true, false, eqb, List, [], ◌∷◌, ◌++◌, length, Option, Some, None, refl, sym, ap, ◌∙◌, append_assoc, arith}
use Rattle.std.specs.Int.{w64, to_be_bytes}
use Rattle.std.specs.List.{AllByRecursion}
use Rattle.std.proofs.lemmas.Bool.{eqb-true}
use Rattle.std.proofs.lemmas.List.{length-append, nil_from_length}
use Rattle.std.proofs.lemmas.List.Concat.{flat_map-cons}
use Rattle.ol_values.specs.declared.record.Record.{Record}
use Rattle.ol_values.specs.declared.record.Record.TheVariants.{Begin, Change, Commit, Rolled, Undo}
use Rattle.ol_values.specs.Spelling.{IsRecord, place_bytes, record_bytes, records_bytes, value_bytes}
use Rattle.ol_record.specs.Reading.{record_at, records_behind, records_in, whole_behind, whole_in}
use Rattle.ol_record.proofs.Fields.{IsBytes}
use Rattle.ol_record.proofs.Spellings.{record_again, record_takes}

-- ---- a loop over them

pub goes_on : (count i : ℕ) (bytes : List ℕ) (x : Record × List ℕ) (total : Bool) → i < count → record_at bytes ≡ Some x → whole_in (count - i) bytes ≡ total → whole_in (count - (i + 1)) x.1 ≡ total
unfolding whole_in
goes_on count i bytes x total lt h so_far =
    let k : count - i ≡ suc (count - (i + 1)) = omega arith in
    let one : whole_in (count - i) bytes ≡ whole_in (count - (i + 1)) x.1 = rw (k, h) refl in
    sym one ∙ so_far

pub stops : (count i : ℕ) (bytes : List ℕ) (total : Bool) → i < count → record_at bytes ≡ None → whole_in (count - i) bytes ≡ total → false ≡ total
unfolding whole_in
stops count i bytes total lt h so_far =
    let k : count - i ≡ suc (count - (i + 1)) = omega arith in
    let one : whole_in (count - i) bytes ≡ false = rw (k, h) refl in
    sym one ∙ so_far

pub ends : (count i : ℕ) (bytes : List ℕ) (total : Bool) → count ≤ i → whole_in (count - i) bytes ≡ total → eqb (length bytes) 0 ≡ total
unfolding whole_in
ends count i bytes total le so_far =
    let k : count - i ≡ 0 = omega arith in
    let one : whole_in (count - i) bytes ≡ eqb (length bytes) 0 = rw k refl in
    sym one ∙ so_far

-- ---- what was read

pub record AreRecords (n : ℕ) (bytes : List ℕ) (rs : List Record) : Type 0 where
  pub count : length rs ≡ n
  pub spelt : bytes ≡ records_bytes rs
  pub each : AllByRecursion IsRecord rs

behind : (n : ℕ) (bytes : List ℕ) (o : Option (Record × List ℕ)) → record_at bytes ≡ o → IsBytes bytes → whole_behind (whole_in n) o ≡ true
    → ((b : List ℕ) → IsBytes b → whole_in n b ≡ true → AreRecords n b (records_in n b)) → AreRecords (suc n) bytes (records_behind (records_in n) o)
behind n bytes None h fits e rest = absurd cc
behind n bytes (Some x) h fits e rest =
    let t = record_takes bytes x fits h in
    let r = rest x.1 t.0.rest_fits e in
    record {
      count = ap suc r.count;
      spelt = t.0.parts ∙ ap (λ (l : List ℕ). record_bytes x.0 ++ l) r.spelt ∙ sym (flat_map-cons record_bytes x.0 (records_in n x.1));
      each = (t.1, r.each);
    }

pub whole_takes : (n : ℕ) (bytes : List ℕ) → IsBytes bytes → whole_in n bytes ≡ true → AreRecords n bytes (records_in n bytes)
unfolding whole_in records_in
whole_takes zero bytes fits e = record { count = refl; spelt = nil_from_length bytes (eqb-true _ _ e); each = tt }
whole_takes (suc n) bytes fits e = behind n bytes (record_at bytes) refl fits e (whole_takes n)

-- ---- what was written

pub whole_again : (rs : List Record) → AllByRecursion IsRecord rs → whole_in (length rs) (records_bytes rs) ≡ true
unfolding whole_in
whole_again [] each = refl
whole_again (r ∷ rs) each =
    ap (whole_in (suc (length rs))) (flat_map-cons record_bytes r rs) ∙ rw (record_again r (records_bytes rs) each.0) (whole_again rs each.1)

pub records_again : (rs : List Record) (rest : List ℕ) → AllByRecursion IsRecord rs → records_in (length rs) (records_bytes rs ++ rest) ≡ rs
unfolding records_in
records_again [] rest each = refl
records_again (r ∷ rs) rest each =
    let regrouped : records_bytes (r ∷ rs) ++ rest ≡ record_bytes r ++ (records_bytes rs ++ rest) = ap (λ (l : List ℕ). l ++ rest) (flat_map-cons record_bytes r rs) ∙ append_assoc (record_bytes r) (records_bytes rs) rest in
    ap (records_in (suc (length rs))) regrouped ∙ rw (record_again r (records_bytes rs ++ rest) each.0, records_again rs rest each.1) refl

-- ---- how long they are

pub nine_at_least : (r : Record) → 9 ≤ length (record_bytes r)
unfolding record_bytes
nine_at_least (Begin txn) = omega arith
nine_at_least (Change txn rid before after) =
    omega (arith, length-append ((2 ∷ to_be_bytes w64 txn) ++ place_bytes rid ++ value_bytes before) (value_bytes after), length-append ((2 ∷ to_be_bytes w64 txn) ++ place_bytes rid) (value_bytes before))
nine_at_least (Undo txn rid value) = omega (arith, length-append ((3 ∷ to_be_bytes w64 txn) ++ place_bytes rid) (value_bytes value))
nine_at_least (Commit txn) = omega arith
nine_at_least (Rolled txn) = omega arith

pub few_in : (rs : List Record) → 9 * length rs ≤ length (records_bytes rs)
few_in [] = omega arith
few_in (r ∷ rs) = omega (arith, few_in rs, nine_at_least r, ap length (flat_map-cons record_bytes r rs), length-append (record_bytes r) (records_bytes rs))
