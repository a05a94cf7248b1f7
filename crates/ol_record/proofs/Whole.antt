-- A whole log page is read as it was written, and nothing else is.
use Rattle.std.proofs.Common.{◌≡◌, ℕ, ◌-◌, ◌^◌, ◌≤◌, true, false, cond, eqb, leb, ltb, List, ◌++◌, length, take, drop, replicate, Option, Some, None, refl, sym, ap, subst, ◌∙◌, append_assoc, arith}
use Rattle.std.specs.Prelude.{◌&&◌, slice_index}
use Rattle.std.specs.List.{list_all}
use Rattle.std.proofs.lemmas.Bool.{and_from, and_parts, leb-true, le-leb, le-ltb, ltb-false}
use Rattle.std.proofs.lemmas.List.{drop_at, length-append, length-drop, length-take, take-append-drop, take_at}
use Rattle.ol_values.specs.declared.record.Record.{Record}
use Rattle.ol_values.proofs.Zeros.{zeros_again, zeros_from}
use Rattle.ol_record.specs.declared.head.LogHead.{LogHead}
use Rattle.ol_values.specs.LogPages.{LogPage}
use Rattle.ol_record.specs.LogPages.{IsImage, IsLogPage, fixed_bytes, head_of, log_page_bytes, padding, page_in, tally_bytes}
use Rattle.ol_record.specs.PageReading.{body_at, head_at, in_limits, in_range, page_at}
use Rattle.ol_record.specs.Reading.{records_in, whole_in}
use Rattle.ol_values.specs.Spelling.{records_bytes}
use Rattle.ol_record.proofs.Fields.{IsBytes, IsBytes-take, bind_some, guard_false, guard_true, some_is}
use Rattle.ol_record.proofs.Heads.{Fits, front, head_again, head_takes}
use Rattle.ol_record.proofs.Pages.{filling_from, gate_back, page_in_back}
use Rattle.ol_record.proofs.Several.{AreRecords, few_in, whole_again, whole_takes}

-- ---- limits

pub record InLimits (h : LogHead) : Type 0 where
  pub uniq : (1 ≤ h.uniq) × (h.uniq ≤ 2 ^ 62)
  pub incarnation : (1 ≤ h.incarnation) × (h.incarnation ≤ 2 ^ 62)
  pub first : (1 ≤ h.first) × (h.first ≤ 2 ^ 62 - h.count)
  pub count : 1 ≤ h.count

range_from : (n most : ℕ) → (leb 1 n && leb n most) ≡ true → (1 ≤ n) × (n ≤ most)
range_from n most e =
    let both = and_parts (leb 1 n) (leb n most) e in
    (leb-true 1 n both.0, leb-true n most both.1)

range_again : (n most : ℕ) → 1 ≤ n → n ≤ most → (leb 1 n && leb n most) ≡ true
range_again n most low high = and_from (leb 1 n) (leb n most) (le-leb 1 n low) (le-leb n most high)

limits_from : (h : LogHead) → in_limits h ≡ true → InLimits h
unfolding in_limits
limits_from h e =
    let a = and_parts (in_range h.uniq) (in_range h.incarnation && ((leb 1 h.first && leb h.first (2 ^ 62 - h.count)) && leb 1 h.count)) e in
    let b = and_parts (in_range h.incarnation) ((leb 1 h.first && leb h.first (2 ^ 62 - h.count)) && leb 1 h.count) a.1 in
    let c = and_parts (leb 1 h.first && leb h.first (2 ^ 62 - h.count)) (leb 1 h.count) b.1 in
    record {
      uniq = range_from h.uniq (2 ^ 62) a.0;
      incarnation = range_from h.incarnation (2 ^ 62) b.0;
      first = range_from h.first (2 ^ 62 - h.count) c.0;
      count = leb-true 1 h.count c.1;
    }

limits_again : (h : LogHead) → InLimits h → in_limits h ≡ true
unfolding in_limits
limits_again h is =
    and_from (in_range h.uniq) (in_range h.incarnation && ((leb 1 h.first && leb h.first (2 ^ 62 - h.count)) && leb 1 h.count))
    (range_again h.uniq (2 ^ 62) is.uniq.0 is.uniq.1)
    (and_from (in_range h.incarnation) ((leb 1 h.first && leb h.first (2 ^ 62 - h.count)) && leb 1 h.count)
    (range_again h.incarnation (2 ^ 62) is.incarnation.0 is.incarnation.1)
    (and_from (leb 1 h.first && leb h.first (2 ^ 62 - h.count)) (leb 1 h.count)
    (range_again h.first (2 ^ 62 - h.count) is.first.0 is.first.1)
    (le-leb 1 h.count is.count)))

-- ---- the body

record HasBody (h found : LogHead) (rest : List ℕ) (rs : List Record) : Type 0 where
  same : h ≡ found
  records : AreRecords h.count (take h.used rest) rs
  used : length (records_bytes rs) ≡ h.used
  parts : rest ≡ records_bytes rs ++ replicate (length rest - h.used) 0
  room : h.used ≤ length rest

body_takes : (h found : LogHead) (rest : List ℕ) → IsBytes rest → body_at h rest ≡ Some found → HasBody h found rest (records_in h.count (take h.used rest))
unfolding body_at
body_takes h found rest fits e =
    let whole = whole_in h.count (take h.used rest) in
    let zeros = list_all (λ b. eqb b 0) (drop h.used rest) in
    let inner : Option LogHead = cond (whole && zeros) (Some h) None in
    let g = guard_false (ltb (length rest) h.used) inner found e in
    let room : h.used ≤ length rest = ltb-false _ _ g.0 in
    let t = guard_true (whole && zeros) (Some h) found g.1 in
    let both = and_parts whole zeros t.0 in
    let rs = records_in h.count (take h.used rest) in
    let records = whole_takes h.count (take h.used rest) (IsBytes-take h.used rest fits) both.0 in
    let used : length (records_bytes rs) ≡ h.used = sym (ap length records.spelt) ∙ (omega (arith, length-take h.used rest)) in
    let tail : drop h.used rest ≡ replicate (length rest - h.used) 0 = zeros_from (drop h.used rest) both.1 ∙ ap (λ (n : ℕ). replicate n 0) (length-drop h.used rest) in
    record {
      same = some_is h found t.1;
      records = records;
      used = used;
      parts = sym (take-append-drop h.used rest) ∙ ap (λ (l : List ℕ). l ++ drop h.used rest) records.spelt ∙ ap (λ (l : List ℕ). records_bytes rs ++ l) tail;
      room = room;
    }

body_again : (p : LogPage) → IsLogPage p → body_at (head_of p) (records_bytes p.records ++ padding (length (records_bytes p.records))) ≡ Some (head_of p)
unfolding body_at padding
body_again p is =
    let body = records_bytes p.records in
    let zeros = replicate (2012 - length body) 0 in
    let long : ltb (length (body ++ zeros)) (length body) ≡ false = le-ltb _ _ (omega (arith, length-append body zeros)) in
    rw (long, take_at body zeros (length body) refl, drop_at body zeros (length body) refl, whole_again p.records is.records, zeros_again (2012 - length body)) refl

padded : (n used : ℕ) → n ≡ 2012 - used → replicate n 0 ≡ padding used
unfolding padding
padded n used e = ap (λ (k : ℕ). replicate k 0) e

-- ---- the page

all_grouped : (p : LogPage) (gate : ℕ) → log_page_bytes gate p ≡ front gate (head_of p) ++ (records_bytes p.records ++ padding (length (records_bytes p.records)))
unfolding log_page_bytes fixed_bytes tally_bytes
all_grouped p gate = simp append_assoc

abbrev read_from : LogHead → List Record → LogPage
read_from h rs = record { index = h.index; uniq = h.uniq; incarnation = h.incarnation; first = h.first; records = rs }

abbrev limited : LogHead × List ℕ → Option LogHead
limited h = cond (in_limits h.0) (body_at h.0 h.1) None

pub page_again : (gate : ℕ) (p : LogPage) → IsLogPage p → page_at (log_page_bytes gate p) ≡ Some (head_of p)
unfolding page_at
page_again gate p is =
    let rest = records_bytes p.records ++ padding (length (records_bytes p.records)) in
    let few = few_in p.records in
    let filling = filling_from p is in
    let fits : Fits (head_of p) = record { index = is.index; uniq = filling.uniq; incarnation = filling.incarnation; first = filling.first; count = omega (arith, few, is.room); used = omega (arith, is.room) } in
    let limits : InLimits (head_of p) = record { uniq = is.uniq; incarnation = is.incarnation; first = (is.first, omega (arith, is.last)); count = is.some } in
    ap page_at (all_grouped p gate) ∙ rw (head_again gate (head_of p) rest fits, limits_again (head_of p) limits) (body_again p is)

length_front : (gate : ℕ) (h : LogHead) → length (front gate h) ≡ 36
length_front gate h = refl

-- what was found, in terms of the value that the bytes stand for
pub record IsFound (bytes : List ℕ) (h : LogHead) : Type 0 where
  pub page : IsLogPage (page_in bytes)
  pub image : IsImage bytes
  pub head : h ≡ head_of (page_in bytes)

from_parts : (bytes : List ℕ) (gate : ℕ) (p : LogPage) (h : LogHead) → IsLogPage p → bytes ≡ log_page_bytes gate p → h ≡ head_of p → IsFound bytes h
from_parts bytes gate p h is e head =
    let back : page_in bytes ≡ p = ap page_in e ∙ page_in_back gate p (filling_from p is) in
    let gate-is : slice_index bytes 0 ≡ gate = ap (λ (l : List ℕ). slice_index l 0) e ∙ gate_back gate p in
    record {
      page = subst IsLogPage (sym back) is;
      image = e ∙ ap (λ (g : ℕ). log_page_bytes g p) (sym gate-is) ∙ ap (log_page_bytes (slice_index bytes 0)) (sym back);
      head = head ∙ ap head_of (sym back);
    }

built : (bytes : List ℕ) (gate : ℕ) (h found : LogHead) (rest : List ℕ) (rs : List Record) → bytes ≡ front gate h ++ rest → Fits h → InLimits h → HasBody h found rest rs → length rest ≡ 2012 → IsFound bytes found
built bytes gate h found rest rs e fits limits body long =
    let p = read_from h rs in
    let head : h ≡ head_of p = ap (λ (n : ℕ). let r : LogHead = record { index = h.index; uniq = h.uniq; incarnation = h.incarnation; first = h.first; count = n; used = h.used } in r) (sym body.records.count)
    ∙ ap (λ (n : ℕ). let r : LogHead = record { index = h.index; uniq = h.uniq; incarnation = h.incarnation; first = h.first; count = length rs; used = n } in r) (sym body.used) in
    let rest-is : rest ≡ records_bytes rs ++ padding (length (records_bytes rs)) = body.parts ∙ ap (λ (l : List ℕ). records_bytes rs ++ l) (padded (length rest - h.used) (length (records_bytes rs)) (omega (arith, body.used, long))) in
    let image : bytes ≡ log_page_bytes gate p = e ∙ ap (λ (k : LogHead). front gate k ++ rest) head ∙ ap (λ (l : List ℕ). front gate (head_of p) ++ l) rest-is ∙ sym (all_grouped p gate) in
    let is : IsLogPage p = record {
      records = body.records.each;
      some = omega (arith, limits.count, body.records.count);
      room = omega (arith, body.used, body.room, long);
      index = fits.index;
      uniq = limits.uniq;
      incarnation = limits.incarnation;
      first = limits.first.0;
      last = omega (arith, limits.first.0, limits.first.1, body.records.count);
    } in
    from_parts bytes gate p found is image (sym body.same ∙ head)

pub page_takes : (bytes : List ℕ) (h : LogHead) → IsBytes bytes → length bytes ≡ 2048 → page_at bytes ≡ Some h → IsFound bytes h
unfolding page_at
page_takes bytes h fits long e =
    let a = bind_some (head_at bytes) limited h e in
    let t = head_takes bytes a.0 fits a.1 in
    let g = guard_true (in_limits a.0.0) (body_at a.0.0 a.0.1) h a.2 in
    let limits = limits_from a.0.0 g.0 in
    let body = body_takes a.0.0 h a.0.1 t.1.rest_fits g.1 in
    let rest_long : length a.0.1 ≡ 2012 = omega (arith, ap length t.1.parts, length-append (front t.0 a.0.0) a.0.1, length_front t.0 a.0.0) in
    built bytes t.0 a.0.0 h a.0.1 (records_in a.0.0.count (take a.0.0.used a.0.1)) t.1.parts t.2 limits body rest_long
