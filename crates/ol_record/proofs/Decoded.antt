-- What a decoder answers that reads a record, and counts the bytes that are left.
use Rattle.std.proofs.Common.{◌≡◌, ℕ, ◌+◌, ◌-◌, ◌≤◌, List, ◌++◌, length, take, Option, Some, None, refl, sym, ap, ◌∙◌, arith}
use Rattle.std.proofs.lemmas.List.{take_at, length-append}
use Rattle.ol_values.specs.declared.record.Record.{Record}
use Rattle.ol_values.specs.Spelling.{IsRecord, record_bytes}
use Rattle.ol_record.specs.Reading.{record_at}
use Rattle.ol_record.proofs.Fields.{IsBytes, some_is}
use Rattle.ol_record.proofs.Spellings.{record_takes, record_again}

pub nothing_there : {P : Type 0} (bytes : List ℕ) (r : Record) (rest : List ℕ) → IsRecord r → bytes ≡ record_bytes r ++ rest → record_at bytes ≡ None → P
nothing_there bytes r rest is e none =
    let there : record_at bytes ≡ Some (r, rest) = ap record_at e ∙ record_again r rest is in
    absurd cc

pub is_shorter : (bytes : List ℕ) (x : Record × List ℕ) → IsBytes bytes → record_at bytes ≡ Some x → length x.1 ≤ length bytes
is_shorter bytes x fits e =
    let t = record_takes bytes x fits e in
    omega (arith, ap length t.0.parts, length-append (record_bytes x.0) x.1)

pub is_found : (bytes : List ℕ) (x : Record × List ℕ) → IsBytes bytes → record_at bytes ≡ Some x
    → IsRecord x.0 × (take (length bytes - length x.1) bytes ≡ record_bytes x.0) × (length bytes - length x.1 ≤ length bytes)
is_found bytes x fits e =
    let t = record_takes bytes x fits e in
    let len : length bytes ≡ length (record_bytes x.0) + length x.1 = ap length t.0.parts ∙ length-append (record_bytes x.0) x.1 in
    let n : length bytes - length x.1 ≡ length (record_bytes x.0) = omega arith in
    (t.1, rw n (ap (take (length (record_bytes x.0))) t.0.parts ∙ take_at (record_bytes x.0) x.1 _ refl), omega arith)

pub is_only : (bytes : List ℕ) (x : Record × List ℕ) → record_at bytes ≡ Some x → (r : Record) (rest : List ℕ) → IsRecord r → bytes ≡ record_bytes r ++ rest
    → ◌≡◌ {A = Option (Record × ℕ)} (Some (x.0, length bytes - length x.1)) (Some (r, length (record_bytes r)))
is_only bytes x e r rest is same =
    let one : x ≡ (r, rest) = some_is x (r, rest) (sym e ∙ ap record_at same ∙ record_again r rest is) in
    let len : length bytes ≡ length (record_bytes r) + length rest = ap length same ∙ length-append (record_bytes r) rest in
    let n : length bytes - length x.1 ≡ length (record_bytes r) = rw one (omega arith) in
    let first : x.0 ≡ r = ap (λ (p : Record × List ℕ). p.0) one in
    rw (n, first) refl
