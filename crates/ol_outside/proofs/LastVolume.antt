-- A block more on the last volume, and how many blocks a volume has.
use Rattle.std.proofs.Common.{◌≡◌, ℕ, zero, suc, ◌+◌, ◌^◌, ◌<◌, List, [], ◌∷◌, ◌++◌, length, get_or, refl, ap, sym, ◌∙◌, arith, length-append, append_assoc}
use Rattle.std.proofs.Math.ListN.{set}
use Rattle.std.proofs.lemmas.List.{append-nil}
use Rattle.ol_ports.specs.Drive.{append_last, blocks_in_order}
use Rattle.ol_outside.specs.Volumes.{BlocksFit, last_length}

-- the last volume is replaced by itself with the block
pub set-append_last : (volumes : List (List (List ℕ))) (last : ℕ) (volume : List (List ℕ)) (block : List ℕ) → last + 1 ≡ length volumes → volume ≡ get_or volumes last [] ++ block ∷ [] → set volumes last volume ≡ append_last volumes block
set-append_last [] last volume block at is = absurd (omega arith)
set-append_last (v ∷ []) zero volume block at is = ap (λ (x : List (List ℕ)). x ∷ []) is
set-append_last (v ∷ []) (suc last) volume block at is = absurd (omega arith)
set-append_last (v ∷ w ∷ volumes) zero volume block at is = absurd (omega arith)
set-append_last (v ∷ w ∷ volumes) (suc last) volume block at is =
    ap (λ (l : List (List (List ℕ))). v ∷ l) (set-append_last (w ∷ volumes) last volume block (omega arith) is)

-- the drive's stream grows by the block
pub stream-append_last : (volumes : List (List (List ℕ))) (block : List ℕ) → blocks_in_order (append_last volumes block) ≡ blocks_in_order volumes ++ block ∷ []
stream-append_last [] block = refl
stream-append_last (v ∷ []) block =
    append-nil (v ++ block ∷ []) ∙ ap (λ (l : List (List ℕ)). l ++ block ∷ []) (sym (append-nil v))
stream-append_last (v ∷ w ∷ volumes) block =
    ap (λ (l : List (List ℕ)). v ++ l) (stream-append_last (w ∷ volumes) block)
    ∙ sym (append_assoc v (blocks_in_order (w ∷ volumes)) (block ∷ []))

-- so its length grows by one
pub length-stream-append_last : (volumes : List (List (List ℕ))) (block : List ℕ) → length (blocks_in_order (append_last volumes block)) ≡ length (blocks_in_order volumes) + 1
length-stream-append_last volumes block =
    ap length (stream-append_last volumes block) ∙ length-append (blocks_in_order volumes) (block ∷ [])

-- and so does its last volume
pub last_length-append_last : (volumes : List (List (List ℕ))) (block : List ℕ) → last_length (append_last volumes block) ≡ last_length volumes + 1
last_length-append_last [] block = omega arith
last_length-append_last (v ∷ []) block = length-append v (block ∷ [])
last_length-append_last (v ∷ w ∷ []) block = last_length-append_last (w ∷ []) block
last_length-append_last (v ∷ w ∷ x ∷ volumes) block = last_length-append_last (w ∷ x ∷ volumes) block

-- a volume that is added is empty
pub last_length-added : (volumes : List (List (List ℕ))) → last_length (volumes ++ [] ∷ []) ≡ 0
last_length-added [] = refl
last_length-added (v ∷ []) = refl
last_length-added (v ∷ w ∷ volumes) = last_length-added (w ∷ volumes)

-- the numbers of blocks stay within a u32
pub blocks-fit-append_last : (volumes : List (List (List ℕ))) (block : List ℕ) → BlocksFit volumes → last_length volumes + 1 < 2 ^ 32 → BlocksFit (append_last volumes block)
blocks-fit-append_last [] block fit lt = (omega arith, tt)
blocks-fit-append_last (v ∷ []) block fit lt = (omega (arith, lt, length-append v (block ∷ [])), tt)
blocks-fit-append_last (v ∷ w ∷ volumes) block fit lt = (fit.0, blocks-fit-append_last (w ∷ volumes) block fit.1 lt)

pub blocks-fit-added : (volumes : List (List (List ℕ))) → BlocksFit volumes → BlocksFit (volumes ++ [] ∷ [])
blocks-fit-added [] fit = (omega arith, tt)
blocks-fit-added (v ∷ volumes) fit = (fit.0, blocks-fit-added volumes fit.1)

pub blocks-fit-at : (volumes : List (List (List ℕ))) (i : ℕ) → BlocksFit volumes → length (get_or volumes i []) < 2 ^ 32
blocks-fit-at [] i fit = omega arith
blocks-fit-at (v ∷ volumes) zero fit = fit.0
blocks-fit-at (v ∷ volumes) (suc i) fit = blocks-fit-at volumes i fit.1

pub blocks-fit-append : (volumes more : List (List (List ℕ))) → BlocksFit volumes → BlocksFit more → BlocksFit (volumes ++ more)
blocks-fit-append [] more fit fit_more = fit_more
blocks-fit-append (v ∷ volumes) more fit fit_more = (fit.0, blocks-fit-append volumes more fit.1 fit_more)
