-- The blocks of an archive as their parts are put together.
use Rattle.std.specs.List.{range_with_len}
use Rattle.std.specs.Prelude.{Bool, List, [], filter, false, length, map, suc, take, true, ℕ, ◌++◌, ◌+◌, ◌-◌, ◌<◌, ◌∷◌, ◌≡◌, ◌≤◌, refl}
use Rattle.std.proofs.Common.{ap, arith, sym, ◌∙◌}
use Rattle.std.proofs.lemmas.List.{take-append-le, take_all}
use Rattle.ol_values.specs.Blocks.{ArchiveHead, archive_page}
use Rattle.ol_values.specs.Config.{Config, config_text}
use Rattle.ol_values.specs.Image.{page_bytes}
use Rattle.ol_values.specs.Pages.{Page}
use Rattle.ol_core.specs.Machine.{formatted}
use Rattle.ol_values.specs.Blocks.{Saved}
use Rattle.ol_core.specs.Tape.{head_at}
use Rattle.ol_object.specs.declared.block.Block.{Block}
use Rattle.ol_object.specs.Bytes.{block_bytes, bytes_of}
use Rattle.ol_object.specs.Spaces.{archive_head_of, saved_of}
use Rattle.ol_object.proofs.Padding.{padded_to_whole}
use Rattle.ol_core.specs.declared.running.Running.{Running}
use Rattle.ol_core.specs.Core.{archive_in}
use Rattle.ol_core.specs.Filled.{is_marked, marked_from, saved_in}

-- ---- the block of a page

abbrev head_of_page : ℕ → ℕ → ℕ → ℕ → ℕ → ℕ → Block
head_of_page number index used space page stamp = record { kind = 2; object = 1; incarnation = 1; number = number; index = index; used = used; a = space; b = page; c = stamp }

pub page_block_is : (p : Page) (image : List ℕ) (number index space page stamp : ℕ) → image ≡ page_bytes p → length image ≡ 2048 → stamp ≡ p.stamp
    → block_bytes (head_of_page number index 2048 space page stamp) image ≡ bytes_of (archive_page 1 number index (record { space = space; page = page; image = p }))
page_block_is p image number index space page stamp is long same =
    ap (λ (n : ℕ). block_bytes (head_of_page number index n space page stamp) image) (sym long ∙ ap length is)
    ∙ ap (λ (s : ℕ). block_bytes (head_of_page number index (length (page_bytes p)) space page s) image) same
    ∙ ap (λ (l : List ℕ). block_bytes (head_of_page number index (length (page_bytes p)) space page p.stamp) l) (is ∙ sym (padded_to_whole 2048 (page_bytes p) (sym (ap length is) ∙ long)))

-- ---- the spaces of an archive head

-- the marked spaces from a number on, as an archive of level 0 has them
abbrev pub saved_from : List Bool → ℕ → List Saved
saved_from marks space = map (λ s. let r : Saved = record { space = s; parent = 0; base = 0 } in r) (marked_from marks space)

abbrev pub saved_if : Bool → ℕ → List Saved
saved_if true space = (let r : Saved = record { space = space; parent = 0; base = 0 } in r) ∷ []
saved_if false space = []

pub saved_step : (marks : List Bool) (space : ℕ) → space < 16 → saved_from marks space ≡ saved_if (is_marked marks space) space ++ saved_from marks (space + 1)
saved_step marks space lt =
    ap (λ (n : ℕ). map (λ s. let r : Saved = record { space = s; parent = 0; base = 0 } in r) (filter (is_marked marks) (range_with_len space n))) (let e : 16 - space ≡ suc (16 - (space + 1)) = omega arith in e)
    ∙ cases (is_marked marks space) refl
  where
    cases : (b : Bool) → is_marked marks space ≡ b → map (λ s. let r : Saved = record { space = s; parent = 0; base = 0 } in r) (filter (is_marked marks) (space ∷ range_with_len (space + 1) (16 - (space + 1)))) ≡ saved_if (is_marked marks space) space ++ saved_from marks (space + 1)
    cases true e = rw e refl
    cases false e = rw e refl

-- behind the last number there are none
pub saved_past : (marks : List Bool) (space : ℕ) → 16 ≤ space → saved_from marks space ≡ []
saved_past marks space le = ap (λ (n : ℕ). map (λ s. let r : Saved = record { space = s; parent = 0; base = 0 } in r) (filter (is_marked marks) (range_with_len space n))) (let e : 16 - space ≡ 0 = omega arith in e)

-- one space more is written
pub saved_more : (spaces : List (ℕ × ℕ × ℕ)) (s : ℕ × ℕ × ℕ) (rest : List Saved) → map saved_of (spaces ++ s ∷ []) ++ rest ≡ map saved_of spaces ++ (saved_of s ∷ rest)
saved_more [] s rest = refl
saved_more (x ∷ spaces) s rest = ap (λ (l : List Saved). saved_of x ∷ l) (saved_more spaces s rest)

-- a space that is marked is next, and one that is not is passed over
pub saved_next : (marks : List Bool) (space : ℕ) (b : Bool) → space < 16 → is_marked marks space ≡ b → saved_from marks space ≡ saved_if b space ++ saved_from marks (space + 1)
saved_next marks space b lt is = saved_step marks space lt ∙ ap (λ (x : Bool). saved_if x space ++ saved_from marks (space + 1)) is

-- ---- the archive head

-- a text at the front of a buffer
pub text_front : (n : ℕ) (buf text rest : List ℕ) → buf ≡ text ++ rest → n ≡ length text → take n buf ≡ text
text_front n buf text rest is long = ap (take n) is ∙ take-append-le n text rest (omega (arith, long)) ∙ take_all n text (omega (arith, long))

pub head_made : (c : Config) (a : Running) (spaces : List (ℕ × ℕ × ℕ)) (text : List ℕ) → map saved_of spaces ≡ saved_in a.spaces → text ≡ config_text c → archive_head_of spaces text ≡ head_at (formatted c).fixed (archive_in a)
head_made c a spaces text p q =
    ap (λ (l : List Saved). let r : ArchiveHead = record { spaces = l; text = text } in r) p ∙ ap (λ (l : List ℕ). let r : ArchiveHead = record { spaces = saved_in a.spaces; text = l } in r) q
