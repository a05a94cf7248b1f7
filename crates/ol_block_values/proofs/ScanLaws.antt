-- What is read from bytes is what a scan of objects asks of a block.
use Rattle.std.proofs.Common.{◌≡◌, ℕ, ◌∙◌, Bool, Err, List, Ok, Result, cond, eqb-true, false, refl, subst, sym, take, true}
use Rattle.std.specs.Prelude.{◌==◌}
use Rattle.std.proofs.lemmas.Bool.{and_parts}
use Rattle.ol_values.specs.Blocks.{ArchiveHead, Empty, HeadHeld, LogHeld, PageHeld, Payload, archive_object, header_kind, log_object, page_kind, records_kind}
use Rattle.ol_values.specs.Config.{Config}
use Rattle.ol_values.specs.Image.{page_in}
use Rattle.ol_chunks.specs.Reading.{config_in_text}
use Rattle.ol_object.specs.declared.block.Block.{Block as Head}
use Rattle.ol_record.specs.LogPages.{page_in as log_page_in}
use Rattle.ol_object_spans.specs.Scans.{IsItemIn}
use Rattle.ol_object_spans.specs.Told.{IsEndHeld, IsItem}
use Rattle.ol_block_reading.specs.Testing.{archive_head_in}
use Rattle.ol_block_values.specs.Items.{head_at, is_block, item_in, payload_at, payload_in, value_of, wants_head, wants_log_page, wants_page, with_config}
use Rattle.ol_block_values.proofs.Blocks.{item_there, no_item}
use Rattle.ol_block_values.proofs.Payloads.{as_head, as_log_page, as_nothing, as_page}

-- a payload that the scan takes, of a block of this kind
record Fits (kind : ℕ) (x : Payload) : Type 0 where
  config : (head : ArchiveHead) (config : Config) → x ≡ HeadHeld head config → config_in_text head.text ≡ Ok config
  header : kind ≡ header_kind → IsEndHeld x

head_fits : (kind : ℕ) (head : ArchiveHead) (r : Result Config ℕ) → config_in_text head.text ≡ r → Fits kind (with_config head r)
head_fits kind head (Ok c) e = record {
  config = λ h d same. let known : config_in_text head.text ≡ Ok c = e in cc;
  header = λ k. tt;
}
head_fits kind head (Err n) e = record { config = λ h d same. absurd cc; header = λ k. tt }

nothing_fits : (kind : ℕ) → Fits kind Empty
nothing_fits kind = record { config = λ h d same. absurd cc; header = λ k. tt }

page_fits : (kind : ℕ) (p : List ℕ) → kind ≡ page_kind → (t : Bool) → Fits kind (cond t (PageHeld (page_in p)) Empty)
page_fits kind p is true = record { config = λ h d same. absurd cc; header = λ k. let no : page_kind ≡ header_kind = sym is ∙ k in absurd cc }
page_fits kind p is false = nothing_fits kind

log_page_fits : (kind : ℕ) (p : List ℕ) → kind ≡ records_kind → (t : Bool) → Fits kind (cond t (LogHeld (log_page_in p)) Empty)
log_page_fits kind p is true = record { config = λ h d same. absurd cc; header = λ k. let no : records_kind ≡ header_kind = sym is ∙ k in absurd cc }
log_page_fits kind p is false = nothing_fits kind

payload_fits : (h : Head) (p : List ℕ) → (one two three : Bool) → wants_head h ≡ one → wants_page h ≡ two → wants_log_page h ≡ three → Fits h.kind (payload_in h p)
payload_fits h p true two three e f g =
    let head = archive_head_in (take h.used p) in
    subst (Fits h.kind) (sym (as_head h p e)) (head_fits h.kind head (config_in_text head.text) refl)
payload_fits h p false true three e f g =
    let kind = eqb-true h.kind page_kind (and_parts (h.object == archive_object) (h.kind == page_kind) f).1 in
    subst (Fits h.kind) (sym (as_page h p e f)) (page_fits h.kind p kind _)
payload_fits h p false false true e f g =
    let kind = eqb-true h.kind records_kind (and_parts (h.object == log_object) (h.kind == records_kind) g).1 in
    subst (Fits h.kind) (sym (as_log_page h p e f g)) (log_page_fits h.kind p kind _)
payload_fits h p false false false e f g = subst (Fits h.kind) (sym (as_nothing h p e f g)) (nothing_fits h.kind)

value_is_item : (h : Head) (p : List ℕ) → IsItem (value_of h p)
value_is_item h p =
    let fits = payload_fits h p (wants_head h) (wants_page h) (wants_log_page h) refl refl refl in
    record { config = fits.config; header = fits.header }

scanned_by : (bytes : List ℕ) (t : Bool) → is_block bytes ≡ t → IsItemIn (item_in bytes)
scanned_by bytes true e = subst IsItemIn (sym (item_there bytes e)) (value_is_item (head_at bytes) (payload_at bytes))
scanned_by bytes false e = subst IsItemIn (sym (no_item bytes e)) tt

pub scanned : (bytes : List ℕ) → IsItemIn (item_in bytes)
scanned bytes = scanned_by bytes (is_block bytes) refl
