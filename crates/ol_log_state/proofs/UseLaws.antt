-- One use and its heads.
use Rattle.std.specs.List.{last_or}
use Rattle.std.specs.Option.{option_map, unwrap_or}
use Rattle.std.specs.Prelude.{List, None, Option, Some, [], length, map, slice_get, ◌++◌, ◌-◌, ◌∷◌, ◌≡◌}
use Rattle.std.proofs.Common.{ap, arith, refl, ◌∙◌}
use Rattle.ol_record.specs.declared.head.LogHead.{LogHead}
use Rattle.ol_rules.specs.Ring.{LogRange, last_range, no_range}
use Rattle.ol_log_state.specs.Uses.{HeldUse, range_of_head, use_of, with_head}

-- ---- the last page

last_at : {X : Type 0} (o : Option X) (x : X) (xs : List X) → last_or o (x ∷ xs) ≡ slice_get (x ∷ xs) (length xs)
last_at o x [] = refl
last_at o x (y ∷ xs) = last_at (Some x) y xs

last_map : {X Y : Type 0} (f : X → Y) (o : Option X) (xs : List X) → last_or (option_map f o) (map f xs) ≡ option_map f (last_or o xs)
last_map f o [] = refl
last_map f o (x ∷ xs) = last_map f (Some x) xs

pages_told : (heads : List LogHead) (h : LogHead) → slice_get heads (length heads - 1) ≡ Some h → unwrap_or (last_or None (map range_of_head heads)) no_range ≡ range_of_head h
pages_told [] h e = absurd (let g : None ≡ Some h = e in cc)
pages_told (x ∷ heads) h e =
    ap (λ o. unwrap_or o no_range) (last_map range_of_head None (x ∷ heads)) ∙ ap (λ o. unwrap_or (option_map range_of_head o) no_range) (last_at None x heads ∙ ap (λ n. slice_get (x ∷ heads) n) (let n : length heads ≡ length (x ∷ heads) - 1 = omega arith in n) ∙ e)

pushed_last : (o : Option LogRange) (heads : List LogHead) (h : LogHead) → unwrap_or (last_or o (map range_of_head (heads ++ h ∷ []))) no_range ≡ range_of_head h
pushed_last o [] h = refl
pushed_last o (x ∷ heads) h = pushed_last (Some (range_of_head x)) heads h

-- the last head tells the last page
pub last_told : (u : HeldUse) (h : LogHead) → slice_get u.heads (length u.heads - 1) ≡ Some h → last_range (use_of u) ≡ range_of_head h
last_told u h e = pages_told u.heads h e

-- the page of a head that is appended is the last one
pub last_pushed : (u : HeldUse) (h : LogHead) → last_range (use_of (with_head h u)) ≡ range_of_head h
last_pushed u h = pushed_last None u.heads h
