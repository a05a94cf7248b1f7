-- The count of faults, a call further.
use Rattle.std.proofs.Common.{◌≡◌, ℕ, suc, ◌+◌, ◌-◌, ◌^◌, Bool, true, false, min, List, ap, sym, ◌∙◌, add-one, arith, if◌then◌else◌}
use Rattle.ol_outside.specs.Faults.{is_listed, listed_among, count_of_faults}

-- a call more is listed or not
listed_among-next : (failing : List ℕ) (calls call : ℕ) (listed : Bool) → call ≡ calls + 1 → is_listed failing call ≡ listed → listed_among failing call ≡ listed_among failing calls + (if listed then 1 else 0)
listed_among-next failing calls call listed next is =
    let at : call ≡ suc calls = next ∙ add-one calls in
    ap (listed_among failing) at
    ∙ ap (λ (b : Bool). listed_among failing calls + (if b then 1 else 0)) (ap (is_listed failing) (sym at) ∙ is)

-- a call that is listed is a fault more
pub count_of_faults-listed : (failing : List ℕ) (count calls call starved : ℕ) → call ≡ calls + 1 → is_listed failing call ≡ true → count ≡ count_of_faults failing calls starved → min (count + 1) (2 ^ 64 - 1) ≡ count_of_faults failing call starved
count_of_faults-listed failing count calls call starved next is was =
    omega (arith, listed_among-next failing calls call true next is)

-- any other call is none
pub count_of_faults-unlisted : (failing : List ℕ) (count calls call starved : ℕ) → call ≡ calls + 1 → is_listed failing call ≡ false → count ≡ count_of_faults failing calls starved → count ≡ count_of_faults failing call starved
count_of_faults-unlisted failing count calls call starved next is was =
    omega (arith, listed_among-next failing calls call false next is)
