-- Captured images as a value: what is found, and what dropping leaves.
use Rattle.std.specs.Prelude.{Bool, List, None, Option, Some, [], cond, false, filter, find, if◌then◌else◌, is_some, length, not, option_map, slice_get, suc, true, zero, ℕ, ◌+◌, ◌-◌, ◌<◌, ◌∷◌, ◌≡◌, ◌≤◌, refl}
use Rattle.std.proofs.Common.{ap, arith, sym, ◌∙◌}
use Rattle.ol_before.specs.Images.{Captures, Image, image_at, image_of, is_of, without}
use Rattle.ol_before.proofs.OrderLaws.{keeps_all}

pub kept_length : (test : Image → Bool) (held : List Image) → length (filter test held) ≤ length held
kept_length test [] = omega arith
kept_length test (i ∷ held) =
    let more = kept_length test held in
    elim (test i) as (λ b. length (cond b (i ∷ filter test held) (filter test held)) ≤ length (i ∷ held)) [ true ↦ omega (arith, more) | false ↦ omega (arith, more) ]

-- no image, and so nothing found
pub not_found : (o : Option Image) → option_map (λ (i : Image). i.bytes) o ≡ None → o ≡ None
not_found None none = refl
not_found (Some i) none = absurd (cc)

-- what was dropped is spare, where images and spare memory stay as many
pub dropped : (test : Image → Bool) (v w : Captures) → w.limit ≡ v.limit → w.held ≡ filter (λ i. not (test i)) v.held → length w.held + w.spare ≡ length v.held + v.spare → w ≡ without test v
dropped test v w limit held count =
    let kept = filter (λ i. not (test i)) v.held in
    let spare : w.spare ≡ v.spare + (length v.held - length kept) = omega (arith, count, ap (λ (l : List Image). length l) held, kept_length (λ i. not (test i)) v.held) in
    λ i. record { limit = limit i; held = held i; spare = spare i }

-- where nothing is found, nothing is dropped
pub nothing_dropped : (test : Image → Bool) (v : Captures) → find test v.held ≡ None → v ≡ without test v
nothing_dropped test v none = dropped test v v refl (sym (keeps_all test v.held none)) refl

within_some : (held : List Image) (at : ℕ) → at < length held → is_some (slice_get held at) ≡ true
within_some [] at within = absurd (omega (arith, within))
within_some (i ∷ held) zero within = refl
within_some (i ∷ held) (suc at) within = within_some held at (omega (arith, within))

bytes_some : (o : Option Image) → is_some (option_map (λ (i : Image). i.bytes) o) ≡ is_some o
bytes_some None = refl
bytes_some (Some i) = refl

-- an image at an index that is there is one
pub found_some : (space page : ℕ) (held : List Image) (at : ℕ) → find (is_of space page) held ≡ image_at held (Some at) → at < length held → is_some (image_of held space page) ≡ true
found_some space page held at found within =
    bytes_some (find (is_of space page) held) ∙ ap (λ (o : Option Image). is_some o) found ∙ within_some held at within

pub one_if : (b : Bool) → b ≡ true → (let n : ℕ = (if b then 1 else 0) in n) ≡ 1
one_if b is = ap (λ (b : Bool). let n : ℕ = (if b then 1 else 0) in n) is
