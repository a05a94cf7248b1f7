-- A page that is filled record by record.
use Rattle.std.proofs.Common.{◌≡◌, ℕ, ◌+◌, ◌-◌, ◌^◌, ◌<◌, ◌≤◌, List, [], ◌∷◌, ◌++◌, length, take, drop, get_or, replicate, refl, sym, ap, subst, ◌∙◌, append_assoc, arith}
use Rattle.std.specs.Prelude.{slice_index}
use Rattle.std.specs.Int.{w16, from_be_bytes, to_be_bytes}
use Rattle.std.specs.List.{AllByRecursion}
use Rattle.std.proofs.lemmas.List.{append-nil, drop_at, length-append, length-replicate, length_push, replicate-append-replicate, take_at}
use Rattle.std.proofs.lemmas.List.Concat.{flat_map-append, flat_map-cons}
use Rattle.ol_values.specs.declared.record.Record.{Record}
use Rattle.ol_values.specs.LogPages.{LogPage}
use Rattle.ol_record.specs.LogPages.{IsBuffer, IsFilling, IsImage, blank_page, fixed_bytes, log_page_bytes, padding, page_in, tally_bytes, with_record}
use Rattle.ol_bytes.specs.Overwriting.{overwritten}
use Rattle.ol_values.specs.Spelling.{IsRecord, record_bytes, records_bytes}
use Rattle.ol_record.proofs.Fields.{wide16}
use Rattle.ol_record.proofs.Pages.{gate_back, page_in_back}
use Rattle.ol_record.proofs.Several.{few_in}

-- ---- what a page tells of its records

-- the number in two bytes
abbrev pub pair_at : List ℕ → ℕ → ℕ
pair_at bytes i = from_be_bytes w16 (get_or bytes i 0 ∷ get_or bytes (i + 1) 0 ∷ [])

count_read : (gate : ℕ) (p : LogPage) → IsFilling p → pair_at (log_page_bytes gate p) 32 ≡ length p.records
unfolding log_page_bytes fixed_bytes tally_bytes
count_read gate p is = wide16.again (length p.records) (omega (arith, few_in p.records, is.room))

used_read : (gate : ℕ) (p : LogPage) → IsFilling p → pair_at (log_page_bytes gate p) 34 ≡ length (records_bytes p.records)
unfolding log_page_bytes fixed_bytes tally_bytes
used_read gate p is = wide16.again (length (records_bytes p.records)) (omega (arith, is.room))

pub count_in : (bytes : List ℕ) → IsBuffer bytes → pair_at bytes 32 ≡ length (page_in bytes).records
count_in bytes is = ap (λ (l : List ℕ). pair_at l 32) is.image ∙ count_read (slice_index bytes 0) (page_in bytes) is.filling

pub used_in : (bytes : List ℕ) → IsBuffer bytes → pair_at bytes 34 ≡ length (records_bytes (page_in bytes).records)
used_in bytes is = ap (λ (l : List ℕ). pair_at l 34) is.image ∙ used_read (slice_index bytes 0) (page_in bytes) is.filling

-- ---- a page from its bytes

pub length_page : (gate : ℕ) (p : LogPage) → IsFilling p → length (log_page_bytes gate p) ≡ 2048
unfolding log_page_bytes fixed_bytes tally_bytes padding
length_page gate p is =
    let body = records_bytes p.records in
    let zeros : List ℕ = replicate (2012 - length body) 0 in
    let long : length zeros ≡ 2012 - length body = length-replicate {A = ℕ} (2012 - length body) 0 in
    omega (arith, is.room, length-append body zeros, long)

pub record BufferOf (bytes : List ℕ) (gate : ℕ) (p : LogPage) : Type 0 where
  pub buffer : IsBuffer bytes
  pub value : page_in bytes ≡ p

pub buffer_from : (bytes : List ℕ) (gate : ℕ) (p : LogPage) → IsFilling p → bytes ≡ log_page_bytes gate p → BufferOf bytes gate p
buffer_from bytes gate p is e =
    let back : page_in bytes ≡ p = ap page_in e ∙ page_in_back gate p is in
    let gate-is : slice_index bytes 0 ≡ gate = ap (λ (l : List ℕ). slice_index l 0) e ∙ gate_back gate p in
    let image : IsImage bytes = e ∙ ap (λ (g : ℕ). log_page_bytes g p) (sym gate-is) ∙ ap (log_page_bytes (slice_index bytes 0)) (sym back) in
    record { buffer = record { image = image; filling = subst IsFilling (sym back) is }; value = back }

-- ---- no record yet

pub is_blank : (index uniq incarnation first : ℕ) (a b : List ℕ) → b ≡ take 36 a ++ replicate (length a - 36) 0 → take 36 a ≡ fixed_bytes 0 (blank_page index uniq incarnation first) ++ tally_bytes []
    → length a ≡ 2048 → b ≡ log_page_bytes 0 (blank_page index uniq incarnation first)
unfolding log_page_bytes padding
is_blank index uniq incarnation first a b e front long =
    let p = blank_page index uniq incarnation first in
    let room : length a - 36 ≡ 2012 = omega arith in
    let zeros : replicate (length a - 36) 0 ≡ replicate 2012 0 = ap (λ (n : ℕ). replicate n 0) room in
    e ∙ ap (λ (l : List ℕ). l ++ replicate (length a - 36) 0) front ∙ ap (λ (l : List ℕ). fixed_bytes 0 p ++ tally_bytes [] ++ l) zeros
    ∙ ap (λ (l : List ℕ). l ++ replicate 2012 0) (sym (append-nil (fixed_bytes 0 p ++ tally_bytes [])))

pub blank_fills : (index uniq incarnation first : ℕ) → index < 2 ^ 32 → uniq < 2 ^ 64 → incarnation < 2 ^ 64 → first < 2 ^ 64 → IsFilling (blank_page index uniq incarnation first)
blank_fills index uniq incarnation first a b c d = record { records = tt; room = omega arith; index = a; uniq = b; incarnation = c; first = d }

-- ---- one record more

over : (a b m c : List ℕ) (n : ℕ) → length a ≡ n → length m ≡ length b → overwritten n b (a ++ (m ++ c)) ≡ a ++ (b ++ c)
over a b m c n len same =
    let front : take n (a ++ (m ++ c)) ≡ a = take_at a (m ++ c) n len in
    let behind : drop (n + length b) (a ++ (m ++ c)) ≡ c = ap (drop (n + length b)) (sym (append_assoc a m c)) ∙ drop_at (a ++ m) c (n + length b) (omega (arith, length-append a m)) in
    ap (λ (l : List ℕ). l ++ (b ++ drop (n + length b) (a ++ (m ++ c)))) front ∙ ap (λ (l : List ℕ). a ++ (b ++ l)) behind

-- a page by its parts: the fixed front, two numbers, the records and the rest
abbrev flat : List ℕ → List ℕ → List ℕ → List ℕ → List ℕ → List ℕ
flat f a b body tail = f ++ (a ++ (b ++ (body ++ tail)))

over_tail : (f a b body new m tail : List ℕ) (n : ℕ) → length f + length a + length b + length body ≡ n → length m ≡ length new → overwritten n new (flat f a b body (m ++ tail)) ≡ flat f a b (body ++ new) tail
over_tail f a b body new m tail n len same =
    let before : flat f a b body (m ++ tail) ≡ (f ++ a ++ b ++ body) ++ (m ++ tail) = simp append_assoc in
    let after : (f ++ a ++ b ++ body) ++ (new ++ tail) ≡ flat f a b (body ++ new) tail = simp append_assoc in
    ap (overwritten n new) before
    ∙ over (f ++ a ++ b ++ body) new m tail n (omega (arith, length-append (f ++ a ++ b) body, length-append (f ++ a) b, length-append f a)) same
    ∙ after

over_second : (f a b new rest : List ℕ) (n : ℕ) → length f + length a ≡ n → length b ≡ length new → overwritten n new (f ++ (a ++ (b ++ rest))) ≡ f ++ (a ++ (new ++ rest))
over_second f a b new rest n len same =
    ap (overwritten n new) (sym (append_assoc f a (b ++ rest))) ∙ over (f ++ a) new b rest n (omega (arith, length-append f a)) same ∙ append_assoc f a (new ++ rest)

over_all : (f a b body tail a' b' new m : List ℕ) (n : ℕ) → length f ≡ 32 → length a ≡ 2 → length b ≡ 2 → length a' ≡ 2 → length b' ≡ 2 → 36 + length body ≡ n → length m ≡ length new
    → overwritten 34 b' (overwritten 32 a' (overwritten n new (flat f a b body (m ++ tail)))) ≡ flat f a' b' (body ++ new) tail
over_all f a b body tail a' b' new m n lf la lb la' lb' ln same =
    let one = over_tail f a b body new m tail n (omega arith) same in
    let two : overwritten 32 a' (flat f a b (body ++ new) tail) ≡ flat f a' b (body ++ new) tail = over f a' a (b ++ ((body ++ new) ++ tail)) 32 lf (la ∙ sym la') in
    let three : overwritten 34 b' (flat f a' b (body ++ new) tail) ≡ flat f a' b' (body ++ new) tail = over_second f a' b b' ((body ++ new) ++ tail) 34 (omega arith) (lb ∙ sym lb') in
    ap (λ (l : List ℕ). overwritten 34 b' (overwritten 32 a' l)) one ∙ ap (overwritten 34 b') two ∙ three

page_flat : (gate : ℕ) (p : LogPage) → log_page_bytes gate p ≡ flat (fixed_bytes gate p) (to_be_bytes w16 (length p.records)) (to_be_bytes w16 (length (records_bytes p.records))) (records_bytes p.records) (padding (length (records_bytes p.records)))
unfolding log_page_bytes tally_bytes
page_flat gate p = simp append_assoc

length_fixed : (gate : ℕ) (p : LogPage) → length (fixed_bytes gate p) ≡ 32
unfolding fixed_bytes
length_fixed gate p = refl

same_fixed : (gate : ℕ) (p : LogPage) (r : Record) → fixed_bytes gate (with_record p r) ≡ fixed_bytes gate p
unfolding fixed_bytes
same_fixed gate p r = refl

padding_split : (used len : ℕ) → used + len ≤ 2012 → padding used ≡ replicate len 0 ++ padding (used + len)
unfolding padding
padding_split used len room =
    let n : 2012 - used ≡ len + (2012 - (used + len)) = omega arith in
    ap (λ (k : ℕ). replicate k 0) n ∙ sym (replicate-append-replicate len (2012 - (used + len)) 0)

pub records_push : (rs : List Record) (r : Record) → records_bytes (rs ++ r ∷ []) ≡ records_bytes rs ++ record_bytes r
records_push rs r = flat_map-append record_bytes rs (r ∷ []) ∙ ap (λ (l : List ℕ). records_bytes rs ++ l) (flat_map-cons record_bytes r [] ∙ append-nil (record_bytes r))

pub pushed_bytes : (gate : ℕ) (p : LogPage) (r : Record) (count used : ℕ) → count ≡ length p.records → used ≡ length (records_bytes p.records) → used + length (record_bytes r) ≤ 2012
    → overwritten 34 (to_be_bytes w16 (used + length (record_bytes r))) (overwritten 32 (to_be_bytes w16 (count + 1)) (overwritten (36 + used) (record_bytes r) (log_page_bytes gate p))) ≡ log_page_bytes gate (with_record p r)
pushed_bytes gate p r count used count-is used-is room =
    let body = records_bytes p.records in
    let new = record_bytes r in
    let q = with_record p r in
    let more : length q.records ≡ count + 1 = length_push p.records r ∙ ap (λ (k : ℕ). k + 1) (sym count-is) in
    let longer : length (records_bytes q.records) ≡ used + length new = ap length (records_push p.records r) ∙ length-append body new ∙ ap (λ (k : ℕ). k + length new) (sym used-is) in
    let split : padding (length body) ≡ replicate (length new) 0 ++ padding (used + length new) = ap padding (sym used-is) ∙ padding_split used (length new) room in
    let before : log_page_bytes gate p ≡ flat (fixed_bytes gate p) (to_be_bytes w16 (length p.records)) (to_be_bytes w16 (length body)) body (replicate (length new) 0 ++ padding (used + length new)) =
    page_flat gate p ∙ ap (λ (l : List ℕ). flat (fixed_bytes gate p) (to_be_bytes w16 (length p.records)) (to_be_bytes w16 (length body)) body l) split in
    let after : flat (fixed_bytes gate p) (to_be_bytes w16 (count + 1)) (to_be_bytes w16 (used + length new)) (body ++ new) (padding (used + length new)) ≡ log_page_bytes gate q =
    ap (λ (l : List ℕ). flat l (to_be_bytes w16 (count + 1)) (to_be_bytes w16 (used + length new)) (body ++ new) (padding (used + length new))) (sym (same_fixed gate p r))
    ∙ ap (λ (k : ℕ). flat (fixed_bytes gate q) (to_be_bytes w16 k) (to_be_bytes w16 (used + length new)) (body ++ new) (padding (used + length new))) (sym more)
    ∙ ap (λ (k : ℕ). flat (fixed_bytes gate q) (to_be_bytes w16 (length q.records)) (to_be_bytes w16 k) (body ++ new) (padding k)) (sym longer)
    ∙ ap (λ (l : List ℕ). flat (fixed_bytes gate q) (to_be_bytes w16 (length q.records)) (to_be_bytes w16 (length (records_bytes q.records))) l (padding (length (records_bytes q.records)))) (sym (records_push p.records r))
    ∙ sym (page_flat gate q) in
    ap (λ (l : List ℕ). overwritten 34 (to_be_bytes w16 (used + length new)) (overwritten 32 (to_be_bytes w16 (count + 1)) (overwritten (36 + used) new l))) before
    ∙ over_all (fixed_bytes gate p) (to_be_bytes w16 (length p.records)) (to_be_bytes w16 (length body)) body (padding (used + length new)) (to_be_bytes w16 (count + 1)) (to_be_bytes w16 (used + length new)) new (replicate (length new) 0) (36 + used)
    (length_fixed gate p) refl refl refl refl (omega arith) (length-replicate (length new) 0)
    ∙ after

all_push : (rs : List Record) (r : Record) → AllByRecursion IsRecord rs → IsRecord r → AllByRecursion IsRecord (rs ++ r ∷ [])
all_push [] r each is = (is, tt)
all_push (x ∷ rs) r each is = (each.0, all_push rs r each.1 is)

pub pushed_fills : (p : LogPage) (r : Record) → IsFilling p → IsRecord r → length (records_bytes p.records) + length (record_bytes r) ≤ 2012 → IsFilling (with_record p r)
pushed_fills p r is rec room = record {
  records = all_push p.records r is.records rec;
  room = omega (arith, ap length (records_push p.records r), length-append (records_bytes p.records) (record_bytes r));
  index = is.index;
  uniq = is.uniq;
  incarnation = is.incarnation;
  first = is.first;
}

-- what the appending of a record leaves
pub pushed : (bytes after spelling : List ℕ) (r : Record) (count used : ℕ) → IsBuffer bytes → IsRecord r → count ≡ length (page_in bytes).records → used ≡ length (records_bytes (page_in bytes).records)
    → spelling ≡ record_bytes r → used + length spelling ≤ 2012
    → after ≡ overwritten 34 (to_be_bytes w16 (used + length spelling)) (overwritten 32 (to_be_bytes w16 (count + 1)) (overwritten (36 + used) spelling bytes))
    → BufferOf after (slice_index bytes 0) (with_record (page_in bytes) r)
pushed bytes after spelling r count used is rec count-is used-is spelt room e =
    let gate = slice_index bytes 0 in
    let p = page_in bytes in
    let fits : used + length (record_bytes r) ≤ 2012 = subst (λ (l : List ℕ). used + length l ≤ 2012) spelt room in
    let image : after ≡ log_page_bytes gate (with_record p r) =
    e ∙ ap (λ (l : List ℕ). overwritten 34 (to_be_bytes w16 (used + length l)) (overwritten 32 (to_be_bytes w16 (count + 1)) (overwritten (36 + used) l bytes))) spelt
    ∙ ap (λ (l : List ℕ). overwritten 34 (to_be_bytes w16 (used + length (record_bytes r))) (overwritten 32 (to_be_bytes w16 (count + 1)) (overwritten (36 + used) (record_bytes r) l))) is.image
    ∙ pushed_bytes gate p r count used count-is used-is fits in
    buffer_from after gate (with_record p r) (pushed_fills p r is.filling rec (omega arith)) image

-- the gate is the first byte, and no other depends on it
pub gate_first : (gate : ℕ) (p : LogPage) → log_page_bytes gate p ≡ gate ∷ drop 1 (log_page_bytes 0 p)
unfolding log_page_bytes fixed_bytes
gate_first gate p = refl
