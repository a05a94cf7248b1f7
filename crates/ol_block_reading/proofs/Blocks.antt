-- A block is read as it was written, and nothing else is read as one.
use Rattle.std.proofs.Common.{◌≡◌, ℕ, ◌+◌, ◌-◌, ◌≤◌, ◌^◌, ◌++◌, ◌∙◌, Bool, true, eqb, leb, ltb, List, [], ◌∷◌, ap, arith, drop, get_or, inl, inr, length, length-append, length-drop, length-take, refl, replicate, subst, sym, take}
use Rattle.std.specs.Prelude.{bytes_eq, codes, ◌&&◌, ◌||◌}
use Rattle.std.specs.Int.{Width, byte_len, from_be_bytes, to_be_bytes, w32, w64}
use Rattle.std.proofs.Math.Seq.{take-add}
use Rattle.std.proofs.lemmas.Bool.{and_parts, eq-eqb, eqb-true, le-leb, leb-true, lt-ltb, ltb-true, or_cases, or_left, or_right}
use Rattle.std.proofs.lemmas.List.{drop-drop, drop_at, get_or-drop, take-append-drop, take_at}
use Rattle.std.proofs.lemmas.Nat.{from_be_bytes-to_be_bytes_4, from_be_bytes-to_be_bytes_8}
use Rattle.std.proofs.lemmas.Slice.Eq.{bytes_eq-Decides}
use Rattle.sha2.specs.Sha256.{sha256}
use Rattle.ol_values.specs.Blocks.{archive_object, header_kind, log_object, mark_kind, mark_object, page_kind, records_kind, trailer_kind}
use Rattle.ol_values.proofs.Zeros.{zeros_again, zeros_from}
use Rattle.ol_object.specs.Bytes.{block_bytes, head_bytes}
use Rattle.ol_object.specs.declared.block.Block.{Block}
use Rattle.ol_record.proofs.Fields.{IsBytes, IsBytes-drop, IsBytes-take, IsWide, wide32, wide64}
use Rattle.ol_block_reading.specs.Grammar.{FieldsFit, HasKind, IsArchiveEnd, IsArchivePage, IsBlock, IsEnd, IsLogEnd, IsLogRecords, IsMark}
use Rattle.ol_block_reading.specs.Testing.{are_zeros, archive_head_in, has_kind, has_marks, head_in, is_archive_end, is_archive_head, is_archive_page, is_end, is_log_end, is_log_records, is_mark, keeps_rules}
use Rattle.ol_block_reading.proofs.Heads.{head_again, head_takes}

-- ---- the head

pub fields_back : (h : Block) → FieldsFit h → head_in (head_bytes h) ≡ h
fields_back h fits = λ i. record {
  kind = h.kind;
  object = h.object;
  incarnation = from_be_bytes-to_be_bytes_8 h.incarnation fits.incarnation i;
  number = from_be_bytes-to_be_bytes_8 h.number fits.number i;
  index = from_be_bytes-to_be_bytes_4 h.index fits.index i;
  used = from_be_bytes-to_be_bytes_4 h.used fits.used i;
  a = from_be_bytes-to_be_bytes_8 h.a fits.a i;
  b = from_be_bytes-to_be_bytes_8 h.b fits.b i;
  c = from_be_bytes-to_be_bytes_8 h.c fits.c i;
}

-- what stands in front, with the next bytes
more : (at n : ℕ) (l text piece : List ℕ) → take at l ≡ text → take n (drop at l) ≡ piece → take (at + n) l ≡ text ++ piece
more at n l text piece front next = take-add at n l ∙ ap (λ (t : List ℕ). t ++ take n (drop at l)) front ∙ ap (λ (t : List ℕ). text ++ t) next

-- what stands in front, with the next field
field : (w : Width) (limit : ℕ) (wide : IsWide w limit) (at : ℕ) (l text : List ℕ) → at + byte_len w ≤ length l → IsBytes l → take at l ≡ text → take (at + byte_len w) l ≡ text ++ to_be_bytes w (from_be_bytes w (take (byte_len w) (drop at l)))
field w limit wide at l text room fits front =
    let long : length (take (byte_len w) (drop at l)) ≡ byte_len w = omega (arith, length-take (byte_len w) (drop at l), length-drop at l) in
    more at (byte_len w) l text _ front (sym (wide.back (take (byte_len w) (drop at l)) long (IsBytes-take (byte_len w) (drop at l) (IsBytes-drop at l fits))))

-- the bytes of kind and object, and the two behind them
four : (l : List ℕ) → 4 ≤ length l → are_zeros (take 2 (drop 2 l)) ≡ true → take 4 l ≡ get_or l 0 0 ∷ get_or l 1 0 ∷ 0 ∷ 0 ∷ []
four [] long e = absurd (omega arith)
four (a ∷ []) long e = absurd (omega arith)
four (a ∷ b ∷ []) long e = absurd (omega arith)
four (a ∷ b ∷ c ∷ []) long e = absurd (omega arith)
four (a ∷ b ∷ c ∷ d ∷ l) long e = ap (λ (t : List ℕ). a ∷ b ∷ t) (zeros_from (c ∷ d ∷ []) e)

pub fields_take : (l : List ℕ) → length l ≡ 64 → IsBytes l → has_marks l ≡ true → FieldsFit (head_in l) × (l ≡ head_bytes (head_in l))
unfolding has_marks
fields_take l long fits e =
    let format = and_parts (bytes_eq (take 4 l) (codes "OLB1")) (are_zeros (take 2 (drop 6 l)) && are_zeros (drop 56 l)) e in
    let zeros = and_parts (are_zeros (take 2 (drop 6 l))) (are_zeros (drop 56 l)) format.1 in
    let behind : drop 56 l ≡ replicate 8 0 = zeros_from (drop 56 l) zeros.1 ∙ ap (λ (n : ℕ). replicate n 0) (let n : length (drop 56 l) ≡ 8 = omega (arith, length-drop 56 l) in n) in
    let kinds : take 4 (drop 4 l) ≡ get_or l 4 0 ∷ get_or l 5 0 ∷ 0 ∷ 0 ∷ [] =
    four (drop 4 l) (omega (arith, length-drop 4 l)) (ap (λ (t : List ℕ). are_zeros (take 2 t)) (drop-drop 2 4 l) ∙ zeros.0)
    ∙ (λ i. get_or-drop 4 l 0 0 i ∷ get_or-drop 4 l 1 0 i ∷ 0 ∷ 0 ∷ []) in
    let t4 = (bytes_eq-Decides (take 4 l) (codes "OLB1")).0 format.0 in
    let t8 = more 4 4 l _ _ t4 kinds in
    let t16 = field w64 (2 ^ 64) wide64 8 l _ (omega arith) fits t8 in
    let t24 = field w64 (2 ^ 64) wide64 16 l _ (omega arith) fits t16 in
    let t28 = field w32 (2 ^ 32) wide32 24 l _ (omega arith) fits t24 in
    let t32 = field w32 (2 ^ 32) wide32 28 l _ (omega arith) fits t28 in
    let t40 = field w64 (2 ^ 64) wide64 32 l _ (omega arith) fits t32 in
    let t48 = field w64 (2 ^ 64) wide64 40 l _ (omega arith) fits t40 in
    let t56 = field w64 (2 ^ 64) wide64 48 l _ (omega arith) fits t48 in
    let below = λ (at : ℕ). wide64.below (take 8 (drop at l)) (IsBytes-take 8 (drop at l) (IsBytes-drop at l fits)) in
    let below4 = λ (at : ℕ). wide32.below (take 4 (drop at l)) (IsBytes-take 4 (drop at l) (IsBytes-drop at l fits)) in
    let is : FieldsFit (head_in l) = record {
      kind = fits 4;
      object = fits 5;
      incarnation = below 8;
      number = below 16;
      index = below4 24;
      used = below4 28;
      a = below 32;
      b = below 40;
      c = below 48;
    } in
    (is, sym (take-append-drop 56 l) ∙ ap (λ (t : List ℕ). take 56 l ++ t) behind ∙ ap (λ (t : List ℕ). t ++ replicate 8 0) t56)

pub marks_again : (h : Block) → has_marks (head_bytes h) ≡ true
unfolding has_marks
marks_again h = refl

-- ---- the kinds

end_takes : (h : Block) → is_end h ≡ true → IsEnd h
end_takes h e =
    elim (or_cases (eqb h.kind header_kind) (eqb h.kind trailer_kind) e) [
      | inl f ↦ inl (eqb-true h.kind header_kind f)
      | inr f ↦ inr (eqb-true h.kind trailer_kind f)
    ]

end_again : (h : Block) → IsEnd h → is_end h ≡ true
end_again h (inl e) = or_left (eqb h.kind header_kind) (eqb h.kind trailer_kind) (eq-eqb h.kind header_kind e)
end_again h (inr e) = or_right (eqb h.kind header_kind) (eqb h.kind trailer_kind) (eq-eqb h.kind trailer_kind e)

archive_end_takes : (h : Block) (used : List ℕ) → IsBytes used → is_archive_end h used ≡ true → IsArchiveEnd h used
archive_end_takes h used fits e =
    let object = and_parts (eqb h.object archive_object) (is_end h && (ltb h.a (2 ^ 62) && (leb h.c 2 && is_archive_head used))) e in
    let kind = and_parts (is_end h) (ltb h.a (2 ^ 62) && (leb h.c 2 && is_archive_head used)) object.1 in
    let cut = and_parts (ltb h.a (2 ^ 62)) (leb h.c 2 && is_archive_head used) kind.1 in
    let level = and_parts (leb h.c 2) (is_archive_head used) cut.1 in
    let head = head_takes used fits level.1 in
    record {
      object = eqb-true h.object archive_object object.0;
      kind = end_takes h kind.0;
      cut = ltb-true h.a (2 ^ 62) cut.0;
      level = leb-true h.c 2 level.0;
      head = (archive_head_in used, head.0, head.1);
    }

archive_end_again : (h : Block) (used : List ℕ) → IsArchiveEnd h used → is_archive_end h used ≡ true
archive_end_again h used is =
    let head : is_archive_head used ≡ true = ap is_archive_head is.head.2 ∙ head_again is.head.0 is.head.1 in
    rw (eq-eqb h.object archive_object is.object, end_again h is.kind, lt-ltb h.a (2 ^ 62) is.cut, le-leb h.c 2 is.level, head) refl

archive_page_takes : (h : Block) → is_archive_page h ≡ true → IsArchivePage h
archive_page_takes h e =
    let object = and_parts (eqb h.object archive_object) (eqb h.kind page_kind && eqb h.used 2048) e in
    let kind = and_parts (eqb h.kind page_kind) (eqb h.used 2048) object.1 in
    record { object = eqb-true h.object archive_object object.0; kind = eqb-true h.kind page_kind kind.0; used = eqb-true h.used 2048 kind.1 }

archive_page_again : (h : Block) → IsArchivePage h → is_archive_page h ≡ true
archive_page_again h is = rw (is.object, is.kind, is.used) refl

log_end_takes : (h : Block) → is_log_end h ≡ true → IsLogEnd h
log_end_takes h e =
    let object = and_parts (eqb h.object log_object) (is_end h && (ltb h.a (2 ^ 62) && (ltb h.b (2 ^ 62) && (eqb h.c 0 && eqb h.used 0)))) e in
    let kind = and_parts (is_end h) (ltb h.a (2 ^ 62) && (ltb h.b (2 ^ 62) && (eqb h.c 0 && eqb h.used 0))) object.1 in
    let first = and_parts (ltb h.a (2 ^ 62)) (ltb h.b (2 ^ 62) && (eqb h.c 0 && eqb h.used 0)) kind.1 in
    let last = and_parts (ltb h.b (2 ^ 62)) (eqb h.c 0 && eqb h.used 0) first.1 in
    let rest = and_parts (eqb h.c 0) (eqb h.used 0) last.1 in
    record {
      object = eqb-true h.object log_object object.0;
      kind = end_takes h kind.0;
      first = ltb-true h.a (2 ^ 62) first.0;
      last = ltb-true h.b (2 ^ 62) last.0;
      no_more = eqb-true h.c 0 rest.0;
      used = eqb-true h.used 0 rest.1;
    }

log_end_again : (h : Block) → IsLogEnd h → is_log_end h ≡ true
log_end_again h is = rw (eq-eqb h.object log_object is.object, end_again h is.kind, lt-ltb h.a (2 ^ 62) is.first, lt-ltb h.b (2 ^ 62) is.last, is.no_more, is.used) refl

log_records_take : (h : Block) → is_log_records h ≡ true → IsLogRecords h
log_records_take h e =
    let object = and_parts (eqb h.object log_object) (eqb h.kind records_kind && (eqb h.c 0 && eqb h.used 2048)) e in
    let kind = and_parts (eqb h.kind records_kind) (eqb h.c 0 && eqb h.used 2048) object.1 in
    let rest = and_parts (eqb h.c 0) (eqb h.used 2048) kind.1 in
    record { object = eqb-true h.object log_object object.0; kind = eqb-true h.kind records_kind kind.0; no_more = eqb-true h.c 0 rest.0; used = eqb-true h.used 2048 rest.1 }

log_records_again : (h : Block) → IsLogRecords h → is_log_records h ≡ true
log_records_again h is = rw (is.object, is.kind, is.no_more, is.used) refl

mark_takes : (h : Block) → is_mark h ≡ true → IsMark h
mark_takes h e =
    let object = and_parts (eqb h.object mark_object) (eqb h.kind mark_kind && (ltb h.a (2 ^ 62) && (eqb h.b 0 && (eqb h.c 0 && eqb h.used 0)))) e in
    let kind = and_parts (eqb h.kind mark_kind) (ltb h.a (2 ^ 62) && (eqb h.b 0 && (eqb h.c 0 && eqb h.used 0))) object.1 in
    let end_ = and_parts (ltb h.a (2 ^ 62)) (eqb h.b 0 && (eqb h.c 0 && eqb h.used 0)) kind.1 in
    let second = and_parts (eqb h.b 0) (eqb h.c 0 && eqb h.used 0) end_.1 in
    let third = and_parts (eqb h.c 0) (eqb h.used 0) second.1 in
    record {
      object = eqb-true h.object mark_object object.0;
      kind = eqb-true h.kind mark_kind kind.0;
      end_ = ltb-true h.a (2 ^ 62) end_.0;
      no_second = eqb-true h.b 0 second.0;
      no_third = eqb-true h.c 0 third.0;
      used = eqb-true h.used 0 third.1;
    }

mark_again : (h : Block) → IsMark h → is_mark h ≡ true
mark_again h is = rw (is.object, is.kind, lt-ltb h.a (2 ^ 62) is.end_, is.no_second, is.no_third, is.used) refl

kind_takes : (h : Block) (used : List ℕ) → IsBytes used → has_kind h used ≡ true → HasKind h used
unfolding has_kind
kind_takes h used fits e =
    elim (or_cases (is_archive_end h used) (is_archive_page h || (is_log_end h || (is_log_records h || is_mark h))) e) [
      | inl f ↦ inl (archive_end_takes h used fits f)
      | inr e1 ↦ inr (elim (or_cases (is_archive_page h) (is_log_end h || (is_log_records h || is_mark h)) e1) [
        | inl f ↦ inl (archive_page_takes h f)
        | inr e2 ↦ inr (elim (or_cases (is_log_end h) (is_log_records h || is_mark h) e2) [
          | inl f ↦ inl (log_end_takes h f)
          | inr e3 ↦ inr (elim (or_cases (is_log_records h) (is_mark h) e3) [
            | inl f ↦ inl (log_records_take h f)
            | inr f ↦ inr (mark_takes h f)
          ])
        ])
      ])
    ]

-- the last four kinds, the last three and the last two
abbrev not_archive_end : Block → Bool
not_archive_end h = is_archive_page h || (is_log_end h || (is_log_records h || is_mark h))

abbrev not_archive : Block → Bool
not_archive h = is_log_end h || (is_log_records h || is_mark h)

abbrev not_end : Block → Bool
not_end h = is_log_records h || is_mark h

kind_again : (h : Block) (used : List ℕ) → HasKind h used → has_kind h used ≡ true
unfolding has_kind
kind_again h used (inl is) = or_left (is_archive_end h used) (not_archive_end h) (archive_end_again h used is)
kind_again h used (inr (inl is)) = or_right (is_archive_end h used) (not_archive_end h) (or_left (is_archive_page h) (not_archive h) (archive_page_again h is))
kind_again h used (inr (inr (inl is))) =
    or_right (is_archive_end h used) (not_archive_end h) (or_right (is_archive_page h) (not_archive h) (or_left (is_log_end h) (not_end h) (log_end_again h is)))
kind_again h used (inr (inr (inr (inl is)))) =
    or_right (is_archive_end h used) (not_archive_end h) (or_right (is_archive_page h) (not_archive h) (or_right (is_log_end h) (not_end h) (or_left (is_log_records h) (is_mark h) (log_records_again h is))))
kind_again h used (inr (inr (inr (inr is)))) =
    or_right (is_archive_end h used) (not_archive_end h) (or_right (is_archive_page h) (not_archive h) (or_right (is_log_end h) (not_end h) (or_right (is_log_records h) (is_mark h) (mark_again h is))))

-- ---- the rules

rules_take : (h : Block) (p : List ℕ) → FieldsFit h → length p ≡ 2048 → IsBytes p → keeps_rules h p ≡ true → IsBlock h p
unfolding keeps_rules
rules_take h p fields whole fits e =
    let limits = and_parts (leb h.used 2048 && (leb h.incarnation (2 ^ 62) && leb h.number (2 ^ 62))) (are_zeros (drop h.used p) && has_kind h (take h.used p)) e in
    let used = and_parts (leb h.used 2048) (leb h.incarnation (2 ^ 62) && leb h.number (2 ^ 62)) limits.0 in
    let numbers = and_parts (leb h.incarnation (2 ^ 62)) (leb h.number (2 ^ 62)) used.1 in
    let rest = and_parts (are_zeros (drop h.used p)) (has_kind h (take h.used p)) limits.1 in
    record {
      fields = fields;
      incarnation = leb-true h.incarnation (2 ^ 62) numbers.0;
      number = leb-true h.number (2 ^ 62) numbers.1;
      whole = whole;
      used = leb-true h.used 2048 used.0;
      rest = zeros_from (drop h.used p) rest.0 ∙ ap (λ (n : ℕ). replicate n 0) (let n : length (drop h.used p) ≡ 2048 - h.used = omega (arith, length-drop h.used p) in n);
      kind = kind_takes h (take h.used p) (IsBytes-take h.used p fits) rest.1;
    }

rules_again : (h : Block) (p : List ℕ) → IsBlock h p → keeps_rules h p ≡ true
unfolding keeps_rules
rules_again h p is =
    let zeros : are_zeros (drop h.used p) ≡ true = ap are_zeros is.rest ∙ zeros_again (2048 - h.used) in
    rw (le-leb h.used 2048 is.used, le-leb h.incarnation (2 ^ 62) is.incarnation, le-leb h.number (2 ^ 62) is.number, zeros, kind_again h (take h.used p) is.kind) refl

-- ---- the block

-- bytes, cut before the digest, and behind the head
pub record IsCut (bytes front digest fields payload : List ℕ) : Type 0 where
  pub front_is : front ≡ take 2112 bytes
  pub digest_is : digest ≡ drop 2112 bytes
  pub fields_are : fields ≡ take 64 front
  pub payload_is : payload ≡ drop 64 front

pub is_cut : (bytes front digest fields payload : List ℕ) → front ≡ take 2112 bytes → digest ≡ drop 2112 bytes → fields ≡ take 64 front → payload ≡ drop 64 front → IsCut bytes front digest fields payload
is_cut bytes front digest fields payload a b c d = record { front_is = a; digest_is = b; fields_are = c; payload_is = d }

-- these parts pass each test
pub record Passes (front digest fields payload : List ℕ) : Type 0 where
  pub marks : has_marks fields ≡ true
  pub rules : keeps_rules (head_in fields) payload ≡ true
  pub sealed : bytes_eq (sha256 front) digest ≡ true

pub block_takes : (bytes front digest fields payload : List ℕ) → IsCut bytes front digest fields payload → length bytes ≡ 2144 → IsBytes bytes → Passes front digest fields payload
    → IsBlock (head_in fields) payload × (bytes ≡ block_bytes (head_in fields) payload)
block_takes bytes front digest fields payload cut long fits passes =
    let front_long : length front ≡ 2112 = omega (arith, ap length cut.front_is, length-take 2112 bytes) in
    let front_fits : IsBytes front = subst IsBytes (sym cut.front_is) (IsBytes-take 2112 bytes fits) in
    let fields_fit : IsBytes fields = subst IsBytes (sym cut.fields_are) (IsBytes-take 64 front front_fits) in
    let payload_fits : IsBytes payload = subst IsBytes (sym cut.payload_is) (IsBytes-drop 64 front front_fits) in
    let head = fields_take fields (omega (arith, ap length cut.fields_are, length-take 64 front)) fields_fit passes.marks in
    let is = rules_take (head_in fields) payload head.0 (omega (arith, ap length cut.payload_is, length-drop 64 front)) payload_fits passes.rules in
    let front_is : front ≡ head_bytes (head_in fields) ++ payload =
    sym (take-append-drop 64 front) ∙ ap (λ (l : List ℕ). l ++ drop 64 front) (sym cut.fields_are ∙ head.1) ∙ ap (λ (l : List ℕ). head_bytes (head_in fields) ++ l) (sym cut.payload_is) in
    let digest_is : digest ≡ sha256 front = sym ((bytes_eq-Decides (sha256 front) digest).0 passes.sealed) in
    (is, sym (take-append-drop 2112 bytes) ∙ ap (λ (l : List ℕ). l ++ drop 2112 bytes) (sym cut.front_is) ∙ ap (λ (l : List ℕ). front ++ l) (sym cut.digest_is ∙ digest_is) ∙ ap (λ (l : List ℕ). l ++ sha256 l) front_is)

-- these parts are those of a block
pub record IsOf (h : Block) (p front digest fields payload : List ℕ) : Type 0 where
  pub front_is : front ≡ head_bytes h ++ p
  pub digest_is : digest ≡ sha256 (head_bytes h ++ p)
  pub fields_are : fields ≡ head_bytes h
  pub payload_is : payload ≡ p

pub block_holds : (bytes front digest fields payload : List ℕ) → IsCut bytes front digest fields payload → (h : Block) (p : List ℕ) → IsBlock h p → bytes ≡ block_bytes h p → IsOf h p front digest fields payload
block_holds bytes front digest fields payload cut h p is e =
    let long : length (head_bytes h ++ p) ≡ 2112 = omega (arith, length-append (head_bytes h) p, is.whole) in
    let front_is : front ≡ head_bytes h ++ p = cut.front_is ∙ ap (take 2112) e ∙ take_at (head_bytes h ++ p) (sha256 (head_bytes h ++ p)) 2112 long in
    record {
      front_is = front_is;
      digest_is = cut.digest_is ∙ ap (drop 2112) e ∙ drop_at (head_bytes h ++ p) (sha256 (head_bytes h ++ p)) 2112 long;
      fields_are = cut.fields_are ∙ ap (take 64) front_is ∙ take_at (head_bytes h) p 64 refl;
      payload_is = cut.payload_is ∙ ap (drop 64) front_is ∙ drop_at (head_bytes h) p 64 refl;
    }

pub block_passes : (bytes front digest fields payload : List ℕ) → IsCut bytes front digest fields payload → (h : Block) (p : List ℕ) → IsBlock h p → bytes ≡ block_bytes h p → Passes front digest fields payload
block_passes bytes front digest fields payload cut h p is e =
    let of = block_holds bytes front digest fields payload cut h p is e in
    let head : head_in fields ≡ h = ap head_in of.fields_are ∙ fields_back h is.fields in
    record {
      marks = ap has_marks of.fields_are ∙ marks_again h;
      rules = ap (λ (k : Block). keeps_rules k payload) head ∙ ap (keeps_rules h) of.payload_is ∙ rules_again h p is;
      sealed = (bytes_eq-Decides (sha256 front) digest).1 (ap sha256 of.front_is ∙ sym of.digest_is);
    }

-- the bytes of a block stand for it alone
pub same_block : (h : Block) (p : List ℕ) (k : Block) (q : List ℕ) → IsBlock h p → IsBlock k q → block_bytes h p ≡ block_bytes k q → (h ≡ k) × (p ≡ q)
same_block h p k q is also e =
    let bytes = block_bytes h p in
    let front = take 2112 bytes in
    let cut = is_cut bytes front (drop 2112 bytes) (take 64 front) (drop 64 front) refl refl refl refl in
    let one = block_holds bytes front (drop 2112 bytes) (take 64 front) (drop 64 front) cut h p is refl in
    let other = block_holds bytes front (drop 2112 bytes) (take 64 front) (drop 64 front) cut k q also e in
    (sym (fields_back h is.fields) ∙ ap head_in (sym one.fields_are ∙ other.fields_are) ∙ fields_back k also.fields, sym one.payload_is ∙ other.payload_is)
