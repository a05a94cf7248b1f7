-- The bytes of a block are read as its value, and what is read is a block.
use Rattle.std.proofs.Common.{◌≡◌, ℕ, ◌∙◌, Bool, List, None, Option, Some, ap, cond, drop, false, length, refl, take, true}
use Rattle.std.specs.Prelude.{bytes_eq, ◌&&◌}
use Rattle.std.proofs.lemmas.Bool.{and_from, and_parts}
use Rattle.sha2.specs.Sha256.{sha256}
use Rattle.ol_values.specs.Blocks.{Block}
use Rattle.ol_object.specs.Bytes.{block_bytes}
use Rattle.ol_object.specs.declared.block.Block.{Block as Head}
use Rattle.ol_record.proofs.Fields.{IsBytes}
use Rattle.ol_block_reading.specs.Grammar.{IsBlock}
use Rattle.ol_block_reading.specs.Testing.{has_marks, head_in, keeps_rules}
use Rattle.ol_block_reading.proofs.Blocks.{IsCut, Passes, block_holds, block_passes, block_takes, fields_back, is_cut}
use Rattle.ol_block_values.specs.Items.{digested, head_at, is_block, item_in, payload_at, value_of}

parts_cut : (bytes : List ℕ) → IsCut bytes (digested bytes) (drop 2112 bytes) (take 64 (digested bytes)) (payload_at bytes)
parts_cut bytes = is_cut bytes (digested bytes) (drop 2112 bytes) (take 64 (digested bytes)) (payload_at bytes) refl refl refl refl

passes_from : (bytes : List ℕ) → is_block bytes ≡ true → Passes (digested bytes) (drop 2112 bytes) (take 64 (digested bytes)) (payload_at bytes)
unfolding is_block
passes_from bytes e =
    let marks = and_parts (has_marks (take 64 (digested bytes))) (keeps_rules (head_at bytes) (payload_at bytes) && bytes_eq (sha256 (digested bytes)) (drop 2112 bytes)) e in
    let rest = and_parts (keeps_rules (head_at bytes) (payload_at bytes)) (bytes_eq (sha256 (digested bytes)) (drop 2112 bytes)) marks.1 in
    record { marks = marks.0; rules = rest.0; sealed = rest.1 }

block_from : (bytes : List ℕ) → Passes (digested bytes) (drop 2112 bytes) (take 64 (digested bytes)) (payload_at bytes) → is_block bytes ≡ true
unfolding is_block
block_from bytes passes =
    and_from (has_marks (take 64 (digested bytes))) (keeps_rules (head_at bytes) (payload_at bytes) && bytes_eq (sha256 (digested bytes)) (drop 2112 bytes)) passes.marks
    (and_from (keeps_rules (head_at bytes) (payload_at bytes)) (bytes_eq (sha256 (digested bytes)) (drop 2112 bytes)) passes.rules passes.sealed)

item_when : (bytes : List ℕ) → item_in bytes ≡ cond (is_block bytes) (Some (value_of (head_at bytes) (payload_at bytes))) None
unfolding item_in
item_when bytes = refl

pub item_there : (bytes : List ℕ) → is_block bytes ≡ true → item_in bytes ≡ Some (value_of (head_at bytes) (payload_at bytes))
item_there bytes e = item_when bytes ∙ ap (λ (t : Bool). cond t (Some (value_of (head_at bytes) (payload_at bytes))) None) e

pub no_item : (bytes : List ℕ) → is_block bytes ≡ false → item_in bytes ≡ None
no_item bytes e = item_when bytes ∙ ap (λ (t : Bool). cond t (Some (value_of (head_at bytes) (payload_at bytes))) None) e

-- the bytes of a block, read
pub record IsReadAs (bytes : List ℕ) (h : Head) (p : List ℕ) : Type 0 where
  pub block : is_block bytes ≡ true
  pub head : head_at bytes ≡ h
  pub payload : payload_at bytes ≡ p
  pub item : item_in bytes ≡ Some (value_of h p)

pub reads : (bytes : List ℕ) (h : Head) (p : List ℕ) → IsBlock h p → bytes ≡ block_bytes h p → IsReadAs bytes h p
reads bytes h p is e =
    let cut = parts_cut bytes in
    let of = block_holds bytes (digested bytes) (drop 2112 bytes) (take 64 (digested bytes)) (payload_at bytes) cut h p is e in
    let block = block_from bytes (block_passes bytes (digested bytes) (drop 2112 bytes) (take 64 (digested bytes)) (payload_at bytes) cut h p is e) in
    let head : head_at bytes ≡ h = ap head_in of.fields_are ∙ fields_back h is.fields in
    record {
      block = block;
      head = head;
      payload = of.payload_is;
      item = item_there bytes block ∙ (λ i. let o : Option Block = Some (value_of (head i) (of.payload_is i)) in o);
    }

pub takes : (bytes : List ℕ) → length bytes ≡ 2144 → IsBytes bytes → is_block bytes ≡ true → IsBlock (head_at bytes) (payload_at bytes) × (bytes ≡ block_bytes (head_at bytes) (payload_at bytes))
takes bytes long fits e = block_takes bytes (digested bytes) (drop 2112 bytes) (take 64 (digested bytes)) (payload_at bytes) (parts_cut bytes) long fits (passes_from bytes e)

no_block_by : (bytes : List ℕ) → length bytes ≡ 2144 → IsBytes bytes → ((h : Head) (p : List ℕ) → IsBlock h p → bytes ≡ block_bytes h p → ⊥) → (t : Bool) → is_block bytes ≡ t → is_block bytes ≡ false
no_block_by bytes long fits none false e = e
no_block_by bytes long fits none true e =
    let is = takes bytes long fits e in
    absurd (none (head_at bytes) (payload_at bytes) is.0 is.1)

pub no_block : (bytes : List ℕ) → length bytes ≡ 2144 → IsBytes bytes → ((h : Head) (p : List ℕ) → IsBlock h p → bytes ≡ block_bytes h p → ⊥) → is_block bytes ≡ false
no_block bytes long fits none = no_block_by bytes long fits none (is_block bytes) refl
