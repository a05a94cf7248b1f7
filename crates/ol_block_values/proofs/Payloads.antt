-- What the payload of a block holds, by its kind.
use Rattle.std.proofs.Common.{◌≡◌, ℕ, OnErr, ◌-◌, ◌∙◌, ◌++◌, Bool, Err, List, None, Ok, Option, Result, Some, ap, arith, cond, drop, eq-eqb, eqb, eqb-true, false, inl, inr, length, length-take, refl, replicate, sym, take, true}
use Rattle.std.specs.Prelude.{is_some, slice_index, ◌&&◌, ◌==◌, ◌||◌}
use Rattle.std.proofs.lemmas.Bool.{and_from, and_parts}
use Rattle.std.proofs.lemmas.List.{take-append-drop, take_at}
use Rattle.ol_values.specs.Blocks.{ArchiveHead, Empty, HeadHeld, LogHeld, PageHeld, Payload, archive_object, header_kind, trailer_kind}
use Rattle.ol_values.specs.Config.{Config}
use Rattle.ol_values.specs.Image.{IsDataPage, page_bytes, page_in}
use Rattle.ol_values.specs.LogPages.{LogPage}
use Rattle.ol_values.specs.Pages.{Page}
use Rattle.ol_chunks.specs.Reading.{config_in_text}
use Rattle.ol_chunks.specs.declared.parse.ConfigFault.{ConfigFault}
use Rattle.ol_chunks.specs.declared.parse.ConfigFault.TheVariants.{BadConfig}
use Rattle.ol_object.specs.Bytes.{archive_head_bytes, padded_to}
use Rattle.ol_object.specs.declared.block.Block.{Block as Head}
use Rattle.ol_page.specs.Testing.{is_data_page}
use Rattle.ol_page.proofs.Reading.{page_again, page_takes}
use Rattle.ol_record.specs.declared.head.LogHead.{LogHead}
use Rattle.ol_record.specs.LogPages.{IsImage, IsLogPage, head_of, log_page_bytes}
use Rattle.ol_record.specs.LogPages.{page_in as log_page_in}
use Rattle.ol_record.specs.PageReading.{page_at}
use Rattle.ol_record.proofs.Fields.{IsBytes}
use Rattle.ol_record.proofs.Whole.{page_again as log_page_again, page_takes as log_page_takes}
use Rattle.ol_block_reading.specs.Grammar.{HasKind, IsArchiveEnd, IsArchiveHead, IsBlock}
use Rattle.ol_block_reading.specs.Testing.{archive_head_in, is_end}
use Rattle.ol_block_reading.proofs.Heads.{head_back}
use Rattle.ol_block_values.specs.Items.{archive_head_held, log_held, page_held, payload_in, wants_head, wants_log_page, wants_page, with_config}

-- ---- by kind

-- where an archive head, a page and a log page are wanted, in this order
abbrev chosen : Bool → Bool → Bool → Payload → Payload → Payload → Payload
chosen one two three x y z = cond one x (cond two y (cond three z Empty))

by_kind : (h : Head) (p : List ℕ) → payload_in h p ≡ chosen (wants_head h) (wants_page h) (wants_log_page h) (archive_head_held (archive_head_in (take h.used p))) (page_held p) (log_held p)
unfolding payload_in
by_kind h p = refl

pub as_head : (h : Head) (p : List ℕ) → wants_head h ≡ true → payload_in h p ≡ archive_head_held (archive_head_in (take h.used p))
as_head h p e = by_kind h p ∙ ap (λ (t : Bool). chosen t (wants_page h) (wants_log_page h) (archive_head_held (archive_head_in (take h.used p))) (page_held p) (log_held p)) e

pub as_page : (h : Head) (p : List ℕ) → wants_head h ≡ false → wants_page h ≡ true → payload_in h p ≡ page_held p
as_page h p e f = by_kind h p ∙ (λ i. chosen (e i) (f i) (wants_log_page h) (archive_head_held (archive_head_in (take h.used p))) (page_held p) (log_held p))

pub as_log_page : (h : Head) (p : List ℕ) → wants_head h ≡ false → wants_page h ≡ false → wants_log_page h ≡ true → payload_in h p ≡ log_held p
as_log_page h p e f g = by_kind h p ∙ (λ i. chosen (e i) (f i) (g i) (archive_head_held (archive_head_in (take h.used p))) (page_held p) (log_held p))

pub as_nothing : (h : Head) (p : List ℕ) → wants_head h ≡ false → wants_page h ≡ false → wants_log_page h ≡ false → payload_in h p ≡ Empty
as_nothing h p e f g = by_kind h p ∙ (λ i. chosen (e i) (f i) (g i) (archive_head_held (archive_head_in (take h.used p))) (page_held p) (log_held p))

-- ---- pages

pub page_is : (p : List ℕ) → is_data_page p ≡ true → page_held p ≡ PageHeld (page_in p)
page_is p e = ap (λ (t : Bool). cond t (PageHeld (page_in p)) Empty) e

pub no_page : (p : List ℕ) → is_data_page p ≡ false → page_held p ≡ Empty
no_page p e = ap (λ (t : Bool). cond t (PageHeld (page_in p)) Empty) e

pub log_page_is : (p : List ℕ) (h : LogHead) → slice_index p 0 ≡ 1 → page_at p ≡ Some h → log_held p ≡ LogHeld (log_page_in p)
log_page_is p h gate e = ap (λ (t : Bool). cond t (LogHeld (log_page_in p)) Empty) (and_from (eqb (slice_index p 0) 1) (is_some (page_at p)) (eq-eqb (slice_index p 0) 1 gate) (ap is_some e))

-- bytes behind another gate
pub closed : (p : List ℕ) → (slice_index p 0 == 1) ≡ false → log_held p ≡ Empty
closed p e = ap (λ (t : Bool). cond (t && is_some (page_at p)) (LogHeld (log_page_in p)) Empty) e

pub no_pair : (t : Bool) → (t && false) ≡ false
no_pair true = refl
no_pair false = refl

pub no_log_page : (p : List ℕ) → page_at p ≡ None → log_held p ≡ Empty
no_log_page p e = ap (λ (t : Bool). cond t (LogHeld (log_page_in p)) Empty) (ap (λ (o : Option LogHead). (slice_index p 0 == 1) && is_some o) e ∙ no_pair (slice_index p 0 == 1))

-- what is refused holds no page
refused_by : (p : List ℕ) → length p ≡ 2048 → IsBytes p → ((page : Page) → IsDataPage page → p ≡ page_bytes page → ⊥) → (t : Bool) → is_data_page p ≡ t → page_held p ≡ Empty
refused_by p long fits none false e = no_page p e
refused_by p long fits none true e =
    let is = page_takes p long fits e in
    absurd (none (page_in p) is.0 is.1)

pub refused : (p : List ℕ) → length p ≡ 2048 → IsBytes p → ((page : Page) → IsDataPage page → p ≡ page_bytes page → ⊥) → page_held p ≡ Empty
refused p long fits none = refused_by p long fits none (is_data_page p) refl

pub taken : (p : List ℕ) → IsDataPage (page_in p) → p ≡ page_bytes (page_in p) → page_held p ≡ PageHeld (page_in p)
taken p is e = page_is p (page_again (page_in p) p is e)

log_refused_by : (p : List ℕ) → IsBytes p → length p ≡ 2048 → ((gate : ℕ) (page : LogPage) → IsLogPage page → p ≡ log_page_bytes gate page → ⊥) → (o : Option LogHead) → page_at p ≡ o → log_held p ≡ Empty
log_refused_by p fits long none None e = no_log_page p e
log_refused_by p fits long none (Some h) e =
    let is = log_page_takes p h fits long e in
    absurd (none (slice_index p 0) (log_page_in p) is.page is.image)

pub log_refused : (p : List ℕ) → IsBytes p → length p ≡ 2048 → ((gate : ℕ) (page : LogPage) → IsLogPage page → p ≡ log_page_bytes gate page → ⊥) → log_held p ≡ Empty
log_refused p fits long none = log_refused_by p fits long none (page_at p) refl

pub log_taken : (p : List ℕ) → slice_index p 0 ≡ 1 → IsLogPage (log_page_in p) → IsImage p → log_held p ≡ LogHeld (log_page_in p)
log_taken p gate is e = log_page_is p (head_of (log_page_in p)) gate (ap page_at e ∙ log_page_again (slice_index p 0) (log_page_in p) is)

-- ---- archive heads

pub end_is : (h : Head) (used : List ℕ) → wants_head h ≡ true → HasKind h used → IsArchiveEnd h used
end_is h used e (inl is) = is
end_is h used e (inr (inl is)) =
    let both = and_parts (eqb h.object archive_object) (is_end h) e in
    let never : true ≡ false = sym both.1 ∙ ap (λ (k : ℕ). (k == header_kind) || (k == trailer_kind)) is.kind in
    absurd cc
end_is h used e (inr (inr (inl is))) =
    let object = eqb-true h.object archive_object (and_parts (eqb h.object archive_object) (is_end h) e).0 in
    absurd (omega (arith, object, is.object))
end_is h used e (inr (inr (inr (inl is)))) =
    let object = eqb-true h.object archive_object (and_parts (eqb h.object archive_object) (is_end h) e).0 in
    absurd (omega (arith, object, is.object))
end_is h used e (inr (inr (inr (inr is)))) =
    let object = eqb-true h.object archive_object (and_parts (eqb h.object archive_object) (is_end h) e).0 in
    absurd (omega (arith, object, is.object))

pub head_is : (h : Head) (p : List ℕ) → wants_head h ≡ true → (head : ArchiveHead) → IsArchiveHead head → take h.used p ≡ archive_head_bytes head → payload_in h p ≡ archive_head_held head
head_is h p e head is spelt = as_head h p e ∙ ap (λ (a : ArchiveHead). archive_head_held a) (ap archive_head_in spelt ∙ head_back head is)

pub config_is : (head : ArchiveHead) (c : Config) → config_in_text head.text ≡ Ok c → archive_head_held head ≡ HeadHeld head c
config_is head c e = ap (with_config head) e

pub no_config_is : (head : ArchiveHead) (n : ℕ) → config_in_text head.text ≡ Err n → archive_head_held head ≡ Empty
no_config_is head n e = ap (with_config head) e

pub bad_is : (head : ArchiveHead) (fault : ConfigFault) → ((n : ℕ) → fault ≡ BadConfig n → config_in_text head.text ≡ Err n) → archive_head_held head ≡ Empty
bad_is head (BadConfig n) bad = no_config_is head n (bad n refl)

-- a block that wants an archive head has one, which is its payload with zeros behind it
pub record HasHead (h : Head) (p : List ℕ) (head : ArchiveHead) (c : Config) : Type 0 where
  pub is : IsArchiveHead head
  pub padded : p ≡ padded_to 2048 (archive_head_bytes head)
  pub used : h.used ≡ length (archive_head_bytes head)
  pub text : config_in_text head.text ≡ Ok c
  pub held : payload_in h p ≡ HeadHeld head c

pub has_head : (h : Head) (p : List ℕ) → IsBlock h p → wants_head h ≡ true → (head : ArchiveHead) × (c : Config) × HasHead h p head c
unfolding padded_to
has_head h p is e =
    let end_ = end_is h (take h.used p) e is.kind in
    let head = end_.head.0 in
    let head_fits = end_.head.1 in
    let spelt : take h.used p ≡ archive_head_bytes head = end_.head.2 in
    let used : h.used ≡ length (archive_head_bytes head) = omega (arith, length-take h.used p, ap length spelt, is.whole, is.used) in
    let c = head_fits.spaces.0 in
    let padded : p ≡ padded_to 2048 (archive_head_bytes head) =
    sym (take-append-drop h.used p)
    ∙ ap (λ (l : List ℕ). l ++ drop h.used p) spelt
    ∙ ap (λ (l : List ℕ). archive_head_bytes head ++ l) (is.rest ∙ ap (λ (n : ℕ). replicate (2048 - n) 0) used) in
    (head, c, record { is = head_fits; padded = padded; used = used; text = head_fits.spaces.1; held = head_is h p e head head_fits spelt ∙ config_is head c head_fits.spaces.1 })

-- what was found in a payload
abbrev pub IsFound : Head → List ℕ → ArchiveHead → Type 0
IsFound h p head = IsArchiveHead head × (p ≡ padded_to 2048 (archive_head_bytes head)) × (h.used ≡ length (archive_head_bytes head))

pub read_head : (h : Head) (p : List ℕ) → wants_head h ≡ true → (head : ArchiveHead) → IsFound h p head → payload_in h p ≡ archive_head_held head
unfolding padded_to
read_head h p e head (is, padded, used) =
    head_is h p e head is (ap (take h.used) padded ∙ take_at (archive_head_bytes head) (replicate (2048 - length (archive_head_bytes head)) 0) h.used (sym used))

pub on_err : {T E P : Type 0} (r : Result T E) → P → OnErr r P
on_err (Ok x) p = tt
on_err (Err x) p = p
