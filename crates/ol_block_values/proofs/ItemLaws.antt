-- What is read from the bytes of a block is a block that a tape may hold.
use Rattle.std.proofs.Common.{◌≡◌, ℕ, ◌-◌, ◌∙◌, Bool, List, None, Option, Some, ap, drop, eq-eqb, eqb, eqb-true, false, inl, inr, length, refl, replicate, subst, sym, take, true}
use Rattle.std.specs.Prelude.{slice_index, ◌==◌}
use Rattle.std.proofs.lemmas.Bool.{or_left, or_right}
use Rattle.std.proofs.lemmas.Option.{same_Some}
use Rattle.ol_values.specs.Blocks.{Block, Empty, HeadHeld, LogHeld, PageHeld, Payload, page_kind, records_kind}
use Rattle.ol_values.specs.Image.{page_bytes, page_in}
use Rattle.ol_object.specs.Bytes.{block_bytes, bytes_of, head_of, padded_to, payload_bytes}
use Rattle.ol_object.specs.declared.block.Block.{Block as Head}
use Rattle.ol_object.proofs.Padding.{padded_to_whole}
use Rattle.ol_page.specs.Testing.{is_data_page}
use Rattle.ol_page.proofs.Reading.{page_takes}
use Rattle.ol_record.specs.declared.head.LogHead.{LogHead}
use Rattle.ol_record.specs.LogPages.{log_page_bytes}
use Rattle.ol_record.specs.LogPages.{page_in as log_page_in}
use Rattle.ol_record.specs.PageReading.{page_at}
use Rattle.ol_record.proofs.Fields.{IsBytes, IsBytes-drop, IsBytes-take}
use Rattle.ol_record.proofs.Whole.{page_takes as log_page_takes}
use Rattle.ol_block_reading.specs.Grammar.{HasKind, IsArchivePage, IsBlock, IsLogRecords}
use Rattle.ol_block_values.specs.Items.{HasNumbers, HoldsRead, HoldsWritten, IsRead, IsWritten, digested, head_at, is_block, item_in, lacks_page, lacks_page_in, payload_at, payload_in, value_of}
use Rattle.ol_block_values.proofs.Blocks.{item_there, no_item, takes}
use Rattle.ol_block_values.proofs.Payloads.{as_log_page, as_nothing, as_page, closed, has_head, log_page_is, no_log_page, no_page, page_is}
use Rattle.ol_block_values.proofs.WrittenLaws.{log_end_wants, log_page_wanted, mark_wants, page_wanted, wants_head_is}

-- ---- what a block holds

-- a head and a payload are those that the bytes of this payload are written with
abbrev IsSpelt : Head → List ℕ → Payload → Type 0
IsSpelt h p x = (h.used ≡ length (payload_bytes x)) × (p ≡ padded_to 2048 (payload_bytes x))

-- a block's payload as a value
record Reads (h : Head) (p : List ℕ) (x : Payload) : Type 0 where
  same : payload_in h p ≡ x
  holds : HoldsRead (value_of h p) x
  spelt : lacks_page_in (value_of h p) x ≡ false → IsSpelt h p x

-- nothing is used, so that all is zero
empty_payload : (h : Head) (p : List ℕ) → IsBlock h p → h.used ≡ 0 → IsSpelt h p Empty
unfolding padded_to
empty_payload h p is used = (used, subst (λ (n : ℕ). drop n p ≡ replicate (2048 - n) 0) used is.rest)

read_page : (h : Head) (p : List ℕ) → IsBlock h p → IsBytes p → IsArchivePage h → (t : Bool) → is_data_page p ≡ t → (x : Payload) × Reads h p x
read_page h p is fits page true e =
    let t = page_takes p is.whole fits e in
    let wants = page_wanted h page.object page.kind in
    let long : length (page_bytes (page_in p)) ≡ 2048 = sym (ap length t.1) ∙ is.whole in (
      PageHeld (page_in p),
      record {
        same = as_page h p wants.0 wants.1 ∙ page_is p e;
        holds = inl ((page.object, page.kind), t.0);
        spelt = λ whole. (page.used ∙ sym long, t.1 ∙ sym (padded_to_whole 2048 (page_bytes (page_in p)) long));
      },
    )
read_page h p is fits page false e =
    let wants = page_wanted h page.object page.kind in
    let lacks : lacks_page_in (value_of h p) Empty ≡ true = or_left (eqb h.kind page_kind) (eqb h.kind records_kind) (eq-eqb h.kind page_kind page.kind) in
    (Empty, record { same = as_page h p wants.0 wants.1 ∙ no_page p e; holds = inr (lacks, inl (page.object, page.kind)); spelt = λ whole. let no : true ≡ false = sym lacks ∙ whole in absurd cc })

-- a records block without a log page
read_no_log_page : (h : Head) (p : List ℕ) → IsLogRecords h → payload_in h p ≡ Empty → (x : Payload) × Reads h p x
read_no_log_page h p log none =
    let lacks : lacks_page_in (value_of h p) Empty ≡ true = or_right (eqb h.kind page_kind) (eqb h.kind records_kind) (eq-eqb h.kind records_kind log.kind) in (
      Empty,
      record {
        same = none;
        holds = inr (lacks, inr (log.object, log.kind, log.no_more));
        spelt = λ whole.
            let never : true ≡ false = sym lacks ∙ whole in
            absurd cc;
      },
    )

read_log_page : (h : Head) (p : List ℕ) → IsBlock h p → IsBytes p → IsLogRecords h → (g : Bool) → (slice_index p 0 == 1) ≡ g → (o : Option LogHead) → page_at p ≡ o → (x : Payload) × Reads h p x
read_log_page h p is fits log false gate o e =
    let wants = log_page_wanted h log.object log.kind in
    read_no_log_page h p log (as_log_page h p wants.head wants.page wants.log_page ∙ closed p gate)
read_log_page h p is fits log true gate None e =
    let wants = log_page_wanted h log.object log.kind in
    read_no_log_page h p log (as_log_page h p wants.head wants.page wants.log_page ∙ no_log_page p e)
read_log_page h p is fits log true gate (Some front) e =
    let wants = log_page_wanted h log.object log.kind in
    let found = log_page_takes p front fits is.whole e in
    let open_ : slice_index p 0 ≡ 1 = eqb-true (slice_index p 0) 1 gate in
    let image : p ≡ log_page_bytes 1 (log_page_in p) = found.image ∙ ap (λ (g : ℕ). log_page_bytes g (log_page_in p)) open_ in
    let long : length (log_page_bytes 1 (log_page_in p)) ≡ 2048 = sym (ap length image) ∙ is.whole in (
      LogHeld (log_page_in p),
      record {
        same = as_log_page h p wants.head wants.page wants.log_page ∙ log_page_is p front open_ e;
        holds = inl ((log.object, log.kind, log.no_more), found.page);
        spelt = λ whole. (log.used ∙ sym long, image ∙ sym (padded_to_whole 2048 (log_page_bytes 1 (log_page_in p)) long));
      },
    )

by_kind : (h : Head) (p : List ℕ) → IsBlock h p → IsBytes p → HasKind h (take h.used p) → (x : Payload) × Reads h p x
by_kind h p is fits (inl end_) =
    let has = has_head h p is (wants_head_is h end_.object end_.kind) in (
      HeadHeld has.0 has.1,
      record {
        same = has.2.held;
        holds = inl (record { object = end_.object; kind = end_.kind; cut = end_.cut; level = end_.level; archive = has.2.is; text = has.2.text });
        spelt = λ whole. (has.2.used, has.2.padded);
      },
    )
by_kind h p is fits (inr (inl page)) = read_page h p is fits page (is_data_page p) refl
by_kind h p is fits (inr (inr (inl end_))) =
    let wants = log_end_wants h end_.object end_.kind in
    let nothing = as_nothing h p wants.head wants.page wants.log_page in (
      Empty,
      record {
        same = nothing;
        holds = inl (inl (record {
          object = end_.object;
          kind = end_.kind;
          first = end_.first;
          last = end_.last;
          no_more = end_.no_more;
          used = ap (λ (x : Payload). length (payload_bytes x)) nothing;
        }));
        spelt = λ whole. empty_payload h p is end_.used;
      },
    )
by_kind h p is fits (inr (inr (inr (inl log)))) = read_log_page h p is fits log (slice_index p 0 == 1) refl (page_at p) refl
by_kind h p is fits (inr (inr (inr (inr mark)))) =
    let wants = mark_wants h mark.object in
    let nothing = as_nothing h p wants.head wants.page wants.log_page in (
      Empty,
      record {
        same = nothing;
        holds = inl (inr (record {
          object = mark.object;
          kind = mark.kind;
          end_ = mark.end_;
          no_second = mark.no_second;
          no_third = mark.no_third;
          used = ap (λ (x : Payload). length (payload_bytes x)) nothing;
        }));
        spelt = λ whole. empty_payload h p is mark.used;
      },
    )

-- ---- the value

numbers_of : (h : Head) (p : List ℕ) → IsBlock h p → HasNumbers (value_of h p)
numbers_of h p is = record {
  incarnation = is.incarnation;
  number = is.number;
  index = is.fields.index;
  first = is.fields.a;
  second = is.fields.b;
  third = is.fields.c;
}

value_is_item : (h : Head) (p : List ℕ) → IsBlock h p → IsBytes p → IsRead (value_of h p)
value_is_item h p is fits =
    let r = by_kind h p is fits is.kind in
    record { numbers = numbers_of h p is; holds = subst (HoldsRead (value_of h p)) (sym r.1.same) r.1.holds }

-- what may be read may be written, unless a page is lacking
may_be_written : (b : Block) (x : Payload) → HoldsRead b x → lacks_page_in b x ≡ false → HoldsWritten b x
may_be_written b x (inl is) whole = is
may_be_written b x (inr lacks) whole =
    let never : true ≡ false = sym lacks.0 ∙ whole in
    absurd cc

value_is_written : (h : Head) (p : List ℕ) → IsBlock h p → IsBytes p → lacks_page (value_of h p) ≡ false → IsWritten (value_of h p) × (block_bytes h p ≡ bytes_of (value_of h p)) × (p ≡ padded_to 2048 (payload_bytes (payload_in h p)))
value_is_written h p is fits whole =
    let v = value_of h p in
    let r = by_kind h p is fits is.kind in
    let spelt = r.1.spelt (subst (λ (x : Payload). lacks_page_in v x ≡ false) r.1.same whole) in
    let there : IsSpelt h p (payload_in h p) = subst (IsSpelt h p) (sym r.1.same) spelt in
    let head : h ≡ head_of v = λ i. record {
      kind = h.kind;
      object = h.object;
      incarnation = h.incarnation;
      number = h.number;
      index = h.index;
      used = there.0 i;
      a = h.a;
      b = h.b;
      c = h.c;
    } in
    let written : IsWritten v = record { numbers = numbers_of h p is; holds = may_be_written v (payload_in h p) (value_is_item h p is fits).holds whole } in
    (written, (λ i. block_bytes (head i) (there.1 i)), there.1)

-- ---- bytes

is_block_by : (bytes : List ℕ) (b : Block) → item_in bytes ≡ Some b → (t : Bool) → is_block bytes ≡ t → is_block bytes ≡ true
is_block_by bytes b there true e = e
is_block_by bytes b there false e =
    let never : None ≡ Some b = sym (no_item bytes e) ∙ there in
    absurd cc

-- the bytes of an item, as a block
pub record IsBlockOf (bytes : List ℕ) (b : Block) : Type 0 where
  pub block : IsBlock (head_at bytes) (payload_at bytes)
  pub bytes_are : bytes ≡ block_bytes (head_at bytes) (payload_at bytes)
  pub value : b ≡ value_of (head_at bytes) (payload_at bytes)
  pub fit : IsBytes (payload_at bytes)

pub item_is_block : (bytes : List ℕ) → length bytes ≡ 2144 → IsBytes bytes → (b : Block) → item_in bytes ≡ Some b → IsBlockOf bytes b
item_is_block bytes long fits b there =
    let block = is_block_by bytes b there (is_block bytes) refl in
    let is = takes bytes long fits block in
    record {
      block = is.0;
      bytes_are = is.1;
      value = same_Some b (value_of (head_at bytes) (payload_at bytes)) (sym there ∙ item_there bytes block);
      fit = IsBytes-drop 64 (digested bytes) (IsBytes-take 2112 bytes fits);
    }

pub item_is : (bytes : List ℕ) → length bytes ≡ 2144 → IsBytes bytes → (b : Block) → item_in bytes ≡ Some b → IsRead b
item_is bytes long fits b there =
    let of = item_is_block bytes long fits b there in
    subst IsRead (sym of.value) (value_is_item (head_at bytes) (payload_at bytes) of.block of.fit)

pub item_is_written : (bytes : List ℕ) → length bytes ≡ 2144 → IsBytes bytes → (b : Block) → item_in bytes ≡ Some b → lacks_page b ≡ false → IsWritten b × (bytes ≡ bytes_of b) × (payload_at bytes ≡ padded_to 2048 (payload_bytes b.payload))
item_is_written bytes long fits b there whole =
    let of = item_is_block bytes long fits b there in
    let is = value_is_written (head_at bytes) (payload_at bytes) of.block of.fit (ap lacks_page (sym of.value) ∙ whole) in
    (subst IsWritten (sym of.value) is.0, of.bytes_are ∙ is.1 ∙ ap bytes_of (sym of.value), is.2 ∙ ap (λ (v : Block). padded_to 2048 (payload_bytes v.payload)) (sym of.value))
