-- What holds of a result that is Ok, or of an option that holds a value.
use Rattle.std.proofs.Common.{Err, List, None, Ok, OnOk, Option, Result, Some, ap, length, refl, subst, sym, ◌∙◌, ◌≡◌, ◌≤◌, ℕ}
use Rattle.std.specs.Option.{SomeIff}
use Rattle.ol_reserve.specs.declared.anchor.Anchor.{Anchor}
use Rattle.ol_reserve.specs.declared.anchor.AnchorFault.{AnchorFault}
use Rattle.ol_reserve.specs.declared.anchor.AnchorFault.TheVariants.{BadAnchor}

pub on_ok : {T E : Type 0} {A B : Type 0} (r : Result T E) → (A → B) → OnOk r A → OnOk r B
on_ok (Ok x) f a = f a
on_ok (Err e) f a = tt

-- a text that is short enough was taken
pub some_when : (r : Option (List ℕ)) (bytes text : List ℕ) → bytes ≡ text → length text ≤ 1024 → SomeIff r (length bytes ≤ 1024) bytes → r ≡ Some text
some_when None bytes text same short told = absurd (told (subst (λ (l : List ℕ). length l ≤ 1024) (sym same) short))
some_when (Some x) bytes text same short told = ap (λ (l : List ℕ). let o : Option (List ℕ) = Some l in o) (told.1 ∙ same)

abbrev pub found : List ℕ → Option (List ℕ)
found x = Some x

pub some_is : (x y : List ℕ) → found x ≡ found y → x ≡ y
some_is x y e = cc

abbrev pub found_anchor : Anchor → Option Anchor
found_anchor x = Some x

pub anchor_is : (x y : Anchor) → found_anchor x ≡ found_anchor y → x ≡ y
anchor_is x y e = cc

-- bytes that give no anchor are no anchor
pub only_bad : (f : AnchorFault) → f ≡ BadAnchor
only_bad BadAnchor = refl
