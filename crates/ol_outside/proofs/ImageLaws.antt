-- Chunks in memory hold what the calls that were done to them say.
use Rattle.std.proofs.Common.{◌≡◌, ◌≢◌, ◌⊎◌, inl, inr, ⊎_elim, ℕ, zero, suc, ◌+◌, ◌-◌, ◌*◌, ◌<◌, ◌≤◌, ◌==◌, Bool, true, false, if◌then◌else◌, nat_lt, List, [], ◌∷◌, ◌++◌, length, get_or, take, drop, replicate, refl, sym, ◌∙◌, ap, subst, arith, length-append}
use Rattle.std.proofs.lemmas.Bool.{cases_eq}
use Rattle.std.proofs.lemmas.Bool.Decides.{nat_tests}
use Rattle.std.proofs.lemmas.List.{get_or-take, get_or-drop, get_or_append_left, get_or-append_right, length-take-le, get_or-set_same, get_or-set_other, length-drop, length-replicate, get_or-replicate}
use Rattle.ol_ports.specs.Disk.{Call, Wrote, Synced, Passed, first_bytes, is_within, bytes_after, is_open}
use Rattle.ol_outside.specs.Chunks.{chunk_bytes, lengths, spliced, with_piece, with_chunk, HasPage, ChunksHold}
use Rattle.ol_outside.specs.Images.{last_synced, filled_image, chosen, redone, image_after}
use Rattle.ol_outside.specs.KeptCalls.{FitsIn, passes}
use Rattle.ol_outside.specs.declared.memory_disk.Choice.{Choice}
use Rattle.ol_outside.specs.declared.memory_disk.Choice.TheVariants.{Old, New, Fill}
use Rattle.ol_outside.proofs.ChunkLaws.{chunk-there, lengths-count, lengths-chunk, lengths-set}
use Rattle.ol_ports.proofs.DiskLaws.{within-elsewhere, within-front, within-behind, within-inside}

-- a piece within a list: what stands before it, in it and behind it
module _ (bytes piece : List ℕ) (at : ℕ) (fits : at + length piece ≤ length bytes) where
  front_length : length (take at bytes) ≡ at
  front_length = length-take-le at bytes (omega arith)

  spliced-before : (j : ℕ) → j < at → get_or (spliced bytes at piece) j 0 ≡ get_or bytes j 0
  spliced-before j lt =
      get_or_append_left (take at bytes ++ piece) (drop (at + length piece) bytes) 0 j (omega (arith, front_length, length-append (take at bytes) piece))
      ∙ get_or_append_left (take at bytes) piece 0 j (omega (arith, front_length)) ∙ get_or-take at bytes j 0 lt

  spliced-inside : (j : ℕ) → at ≤ j → j < at + length piece → get_or (spliced bytes at piece) j 0 ≡ get_or piece (j - at) 0
  spliced-inside j le lt =
      get_or_append_left (take at bytes ++ piece) (drop (at + length piece) bytes) 0 j (omega (arith, front_length, length-append (take at bytes) piece))
      ∙ get_or-append_right (take at bytes) piece at j 0 front_length le

  spliced-behind : (j : ℕ) → at + length piece ≤ j → get_or (spliced bytes at piece) j 0 ≡ get_or bytes j 0
  spliced-behind j le =
      get_or-append_right (take at bytes ++ piece) (drop (at + length piece) bytes) (at + length piece) j 0 (omega (arith, front_length, length-append (take at bytes) piece)) le
      ∙ get_or-drop (at + length piece) bytes (j - (at + length piece)) 0 ∙ ap (λ k. get_or bytes k 0) (let k : at + length piece + (j - (at + length piece)) ≡ j = omega arith in k)

  length-spliced : length (spliced bytes at piece) ≡ length bytes
  length-spliced = omega (arith, length-append (take at bytes ++ piece) (drop (at + length piece) bytes), length-append (take at bytes) piece, front_length, length-drop (at + length piece) bytes)

-- a piece that is put into a page
module _ (chunks : List (List ℕ)) (chunk page offset : ℕ) (piece : List ℕ) (room : HasPage chunks chunk page) (range : offset + length piece ≤ 2048) where
  there : chunk < length chunks
  there = chunk-there chunks chunk page room

  room_at : 2048 * page + offset + length piece ≤ length (chunk_bytes chunks chunk)
  room_at = omega arith

  same_chunk : chunk_bytes (with_piece chunks chunk (2048 * page + offset) piece) chunk ≡ spliced (chunk_bytes chunks chunk) (2048 * page + offset) piece
  same_chunk = get_or-set_same chunks chunk (spliced (chunk_bytes chunks chunk) (2048 * page + offset) piece) [] there

  pub lengths-piece : lengths (with_piece chunks chunk (2048 * page + offset) piece) ≡ lengths chunks
  lengths-piece = lengths-set chunks chunk (spliced (chunk_bytes chunks chunk) (2048 * page + offset) piece) (length-spliced (chunk_bytes chunks chunk) piece (2048 * page + offset) room_at)

  place : (p i : ℕ) → ((p ≡ page) × ((i < offset) ⊎ ((offset ≤ i) × (i < offset + length piece) ⊎ (offset + length piece ≤ i)))) ⊎ (p ≢ page)
  place p i = elim (cases_eq p page) [ inl same ↦ inl (same, grind arith) | inr other ↦ inr other ]

  apart : (p i : ℕ) → i < 2048 → p ≢ page → (2048 * p + i < 2048 * page + offset) ⊎ (2048 * page + offset + length piece ≤ 2048 * p + i)
  apart p i lt other = grind arith

  abbrev wanted : ℕ → ℕ → ℕ → ℕ
  wanted c p i = if is_within chunk page offset (length piece) c p i then get_or piece (i - offset) 0 else first_bytes chunks c p i

  at_page : (i : ℕ) → i < 2048 → (i < offset) ⊎ ((offset ≤ i) × (i < offset + length piece) ⊎ (offset + length piece ≤ i)) → get_or (spliced (chunk_bytes chunks chunk) (2048 * page + offset) piece) (2048 * page + i) 0 ≡ wanted chunk page i
  unfolding first_bytes
  at_page i lt (inl b) =
      let low : nat_lt i 2048 ≡ true = grind (arith, nat_tests) in
      rw (within-front chunk page offset (length piece) i b, low) (spliced-before (chunk_bytes chunks chunk) piece (2048 * page + offset) room_at (2048 * page + i) (omega arith))
  at_page i lt (inr (inl w)) =
      rw (within-inside chunk page offset (length piece) i w.0 w.1) (spliced-inside (chunk_bytes chunks chunk) piece (2048 * page + offset) room_at (2048 * page + i) (omega arith) (omega arith) ∙ ap (λ k. get_or piece k 0) (let k : 2048 * page + i - (2048 * page + offset) ≡ i - offset = omega arith in k))
  at_page i lt (inr (inr b)) =
      let low : nat_lt i 2048 ≡ true = grind (arith, nat_tests) in
      rw (within-behind chunk page offset (length piece) i b, low) (spliced-behind (chunk_bytes chunks chunk) piece (2048 * page + offset) room_at (2048 * page + i) (omega arith))

  inner : (p i : ℕ) → i < 2048 → get_or (spliced (chunk_bytes chunks chunk) (2048 * page + offset) piece) (2048 * p + i) 0 ≡ wanted chunk p i
  unfolding first_bytes
  inner p i lt = elim (place p i) [
    | inr other ↦
        let low : nat_lt i 2048 ≡ true = grind (arith, nat_tests) in
        rw (within-elsewhere chunk page offset (length piece) chunk p i (λ _ same. other same), low)
        (⊎_elim (λ b. spliced-before (chunk_bytes chunks chunk) piece (2048 * page + offset) room_at (2048 * p + i) b) (λ b. spliced-behind (chunk_bytes chunks chunk) piece (2048 * page + offset) room_at (2048 * p + i) b) (apart p i lt other))
    | inl here ↦ subst (λ q. get_or (spliced (chunk_bytes chunks chunk) (2048 * page + offset) piece) (2048 * q + i) 0 ≡ wanted chunk q i) (sym here.0) (at_page i lt here.1)
  ]

  below : (c p i : ℕ) → i < 2048 → get_or (chunk_bytes (with_piece chunks chunk (2048 * page + offset) piece) c) (2048 * p + i) 0 ≡ wanted c p i
  unfolding first_bytes
  below c p i lt = elim (cases_eq c chunk) [
    | inr other ↦
        let low : nat_lt i 2048 ≡ true = grind (arith, nat_tests) in
        rw (within-elsewhere chunk page offset (length piece) c p i (λ same _. other same), low) (ap (λ l. get_or l (2048 * p + i) 0) (get_or-set_other chunks chunk c (spliced (chunk_bytes chunks chunk) (2048 * page + offset) piece) [] other))
    | inl same ↦ subst (λ k. get_or (chunk_bytes (with_piece chunks chunk (2048 * page + offset) piece) k) (2048 * p + i) 0 ≡ wanted k p i) (sym same) (ap (λ l. get_or l (2048 * p + i) 0) same_chunk ∙ inner p i lt)
  ]

  high : (c p i : ℕ) → 2048 ≤ i → 0 ≡ wanted c p i
  unfolding first_bytes is_within
  high c p i le = grind (arith, nat_tests)

  -- the piece stands in its range, and the rest stays
  pub began-piece : (c p i : ℕ) → first_bytes (with_piece chunks chunk (2048 * page + offset) piece) c p i ≡ (if is_within chunk page offset (length piece) c p i then get_or piece (i - offset) 0 else first_bytes chunks c p i)
  unfolding first_bytes
  began-piece c p i = elim (split i) [
    | inl lt ↦
        let low : nat_lt i 2048 ≡ true = grind (arith, nat_tests) in
        let at : first_bytes (with_piece chunks chunk (2048 * page + offset) piece) c p i ≡ get_or (chunk_bytes (with_piece chunks chunk (2048 * page + offset) piece) c) (2048 * p + i) 0 = rw low refl in
        at ∙ below c p i lt
    | inr le ↦
        let up : nat_lt i 2048 ≡ false = grind (arith, nat_tests) in
        let none : first_bytes (with_piece chunks chunk (2048 * page + offset) piece) c p i ≡ 0 = rw up refl in
        none ∙ high c p i le
  ]
    where
      split : (i : ℕ) → (i < 2048) ⊎ (2048 ≤ i)
      split i = grind arith

-- a chunk that is taken from others is theirs, and the rest stays
pub began-chunk : (chunks others : List (List ℕ)) (chunk c p i : ℕ) → chunk < length chunks → first_bytes (with_chunk chunks chunk (chunk_bytes others chunk)) c p i ≡ (if c == chunk then first_bytes others c p i else first_bytes chunks c p i)
unfolding first_bytes
began-chunk chunks others chunk c p i lt = elim (cases_eq c chunk) [
  | inl same ↦
      let is : chunk_bytes (with_chunk chunks chunk (chunk_bytes others chunk)) c ≡ chunk_bytes others c = ap (chunk_bytes (with_chunk chunks chunk (chunk_bytes others chunk))) same ∙ get_or-set_same chunks chunk (chunk_bytes others chunk) [] lt ∙ ap (chunk_bytes others) (sym same) in
      let test : (c == chunk) ≡ true = grind (arith, nat_tests) in
      rw test (ap (λ l. if nat_lt i 2048 then get_or l (2048 * p + i) 0 else 0) is)
  | inr other ↦
      let is : chunk_bytes (with_chunk chunks chunk (chunk_bytes others chunk)) c ≡ chunk_bytes chunks c = get_or-set_other chunks chunk c (chunk_bytes others chunk) [] other in
      let test : (c == chunk) ≡ false = grind (arith, nat_tests) in
      rw test (ap (λ l. if nat_lt i 2048 then get_or l (2048 * p + i) 0 else 0) is)
]

-- whether a call fits goes by the lengths alone
pub fits-lengths : (xs ys : List (List ℕ)) (call : Call) → lengths xs ≡ lengths ys → FitsIn xs call → FitsIn ys call
fits-lengths xs ys (Wrote chunk page offset bytes) same fits = (omega (arith, fits.0, lengths-chunk xs ys chunk same), fits.1)
fits-lengths xs ys (Synced chunk) same fits = omega (arith, fits, lengths-count xs ys same)
fits-lengths xs ys Passed same fits = tt

pub lengths-redone : (call : Call) (chunks : List (List ℕ)) → FitsIn chunks call → lengths (redone call chunks) ≡ lengths chunks
lengths-redone (Wrote chunk page offset bytes) chunks fits = lengths-piece chunks chunk page offset bytes fits.0 fits.1
lengths-redone (Synced chunk) chunks fits = refl
lengths-redone Passed chunks fits = refl

pub lengths-image_after : (choice : Choice) (call : Call) (written image : List (List ℕ)) → FitsIn image call → lengths image ≡ lengths written → lengths (image_after choice call written image) ≡ lengths image
lengths-image_after Old (Wrote chunk page offset bytes) written image fits same = refl
lengths-image_after New (Wrote chunk page offset bytes) written image fits same = lengths-piece image chunk page offset bytes fits.0 fits.1
lengths-image_after (Fill byte) (Wrote chunk page offset bytes) written image fits same =
    lengths-piece image chunk page offset (replicate (length bytes) byte) fits.0 (omega (arith, fits.1, length-replicate (length bytes) byte))
lengths-image_after choice (Synced chunk) written image fits same = lengths-set image chunk (chunk_bytes written chunk) (sym (lengths-chunk image written chunk same))
lengths-image_after choice Passed written image fits same = refl

-- chunks hold what they begin with
pub holds-none : (chunks : List (List ℕ)) → ChunksHold chunks (bytes_after chunks [])
unfolding bytes_after
holds-none chunks = record { each = λ c p i. refl }

pub holds-none-chosen : (choice : Choice) (chunks : List (List ℕ)) → ChunksHold chunks (chosen choice chunks [])
unfolding bytes_after chosen last_synced filled_image is_open
holds-none-chosen Old chunks = record { each = λ c p i. refl }
holds-none-chosen New chunks = record { each = λ c p i. refl }
holds-none-chosen (Fill byte) chunks = record { each = λ c p i. refl }

-- a call more that is done to them
pub holds-redone : (base chunks : List (List ℕ)) (calls : List Call) (call : Call) → FitsIn chunks call → ChunksHold chunks (bytes_after base calls) → ChunksHold (redone call chunks) (bytes_after base (call ∷ calls))
unfolding bytes_after
holds-redone base chunks calls (Wrote chunk page offset bytes) fits holds = record {
  each = λ c p i. began-piece chunks chunk page offset bytes fits.0 fits.1 c p i ∙ ap (λ b. if is_within chunk page offset (length bytes) c p i then get_or bytes (i - offset) 0 else b) (holds.each c p i);
}
holds-redone base chunks calls (Synced chunk) fits holds = record { each = λ c p i. holds.each c p i }
holds-redone base chunks calls Passed fits holds = record { each = λ c p i. holds.each c p i }

bool_is : (b : Bool) → (b ≡ true) ⊎ (b ≡ false)
bool_is true = inl refl
bool_is false = inr refl

within-bounds : (chunk page offset size c p i : ℕ) → is_within chunk page offset size c p i ≡ true → (offset ≤ i) × (i < offset + size)
unfolding is_within
within-bounds chunk page offset size c p i is = (grind (arith, nat_tests), grind (arith, nat_tests))

-- a byte of the image that is filled, after a write
filled-wrote : (base : List (List ℕ)) (calls : List Call) (byte chunk page offset : ℕ) (bytes : List ℕ) (c p i x : ℕ) → x ≡ filled_image base calls byte c p i
    → (if is_within chunk page offset (length (replicate (length bytes) byte)) c p i then get_or (replicate (length bytes) byte) (i - offset) 0 else x) ≡ filled_image base (Wrote chunk page offset bytes ∷ calls) byte c p i
unfolding filled_image bytes_after is_open
filled-wrote base calls byte chunk page offset bytes c p i x is = rw (length-replicate (length bytes) byte) (elim (bool_is (is_within chunk page offset (length bytes) c p i)) [
  | inl is_in ↦ let bounds = within-bounds chunk page offset (length bytes) c p i is_in in rw is_in (get_or-replicate (length bytes) (i - offset) byte 0 (omega arith))
  | inr is_out ↦ rw is_out is
])

-- a byte of the image of a choice, after a sync
chosen-synced : (choice : Choice) (base : List (List ℕ)) (calls : List Call) (chunk c p i x y : ℕ) → x ≡ bytes_after base calls c p i → y ≡ chosen choice base calls c p i → (if c == chunk then x else y) ≡ chosen choice base (Synced chunk ∷ calls) c p i
unfolding bytes_after chosen last_synced filled_image is_open
chosen-synced Old base calls chunk c p i x y written kept = elim (bool_is (c == chunk)) [ inl same ↦ rw same written | inr other ↦ rw other kept ]
chosen-synced New base calls chunk c p i x y written kept = elim (bool_is (c == chunk)) [ inl same ↦ rw same written | inr other ↦ rw other kept ]
chosen-synced (Fill byte) base calls chunk c p i x y written kept = elim (bool_is (c == chunk)) [ inl same ↦ rw same written | inr other ↦ rw other kept ]

chosen-passed : (choice : Choice) (base : List (List ℕ)) (calls : List Call) (c p i : ℕ) → chosen choice base calls c p i ≡ chosen choice base (Passed ∷ calls) c p i
unfolding bytes_after chosen last_synced filled_image is_open
chosen-passed Old base calls c p i = refl
chosen-passed New base calls c p i = refl
chosen-passed (Fill byte) base calls c p i = refl

-- and one that is done to the image of a choice
pub holds-image_after : (base written image : List (List ℕ)) (calls : List Call) (choice : Choice) (call : Call) → FitsIn image call → ChunksHold written (bytes_after base calls) → ChunksHold image (chosen choice base calls) → ChunksHold (image_after choice call written image) (chosen choice base (call ∷ calls))
unfolding bytes_after chosen last_synced
holds-image_after base written image calls Old (Wrote chunk page offset bytes) fits before holds = record { each = λ c p i. holds.each c p i }
holds-image_after base written image calls New (Wrote chunk page offset bytes) fits before holds = record {
  each = λ c p i. began-piece image chunk page offset bytes fits.0 fits.1 c p i ∙ ap (λ b. if is_within chunk page offset (length bytes) c p i then get_or bytes (i - offset) 0 else b) (holds.each c p i);
}
holds-image_after base written image calls (Fill byte) (Wrote chunk page offset bytes) fits before holds = record {
  each = λ c p i.
      began-piece image chunk page offset (replicate (length bytes) byte) fits.0 (omega (arith, fits.1, length-replicate (length bytes) byte)) c p i
      ∙ filled-wrote base calls byte chunk page offset bytes c p i (first_bytes image c p i) (holds.each c p i);
}
holds-image_after base written image calls choice (Synced chunk) fits before holds = record {
  each = λ c p i. began-chunk image written chunk c p i fits ∙ chosen-synced choice base calls chunk c p i (first_bytes written c p i) (first_bytes image c p i) (before.each c p i) (holds.each c p i);
}
holds-image_after base written image calls choice Passed fits before holds = record { each = λ c p i. holds.each c p i ∙ chosen-passed choice base calls c p i }

-- calls that left nothing change neither
pub holds-passes : (base chunks : List (List ℕ)) (n : ℕ) (calls : List Call) → ChunksHold chunks (bytes_after base calls) → ChunksHold chunks (bytes_after base (passes n calls))
unfolding bytes_after
holds-passes base chunks zero calls holds = holds
holds-passes base chunks (suc n) calls holds =
    let rest = holds-passes base chunks n calls holds in
    record { each = λ c p i. rest.each c p i }

pub chosen-passes : (choice : Choice) (base : List (List ℕ)) (n : ℕ) (calls : List Call) (c p i : ℕ) → chosen choice base (passes n calls) c p i ≡ chosen choice base calls c p i
chosen-passes choice base zero calls c p i = refl
chosen-passes choice base (suc n) calls c p i = sym (chosen-passed choice base (passes n calls) c p i) ∙ chosen-passes choice base n calls c p i

pub holds-passes-chosen : (choice : Choice) (base chunks : List (List ℕ)) (n : ℕ) (calls : List Call) → ChunksHold chunks (chosen choice base calls) → ChunksHold chunks (chosen choice base (passes n calls))
holds-passes-chosen choice base chunks n calls holds = record { each = λ c p i. holds.each c p i ∙ sym (chosen-passes choice base n calls c p i) }
