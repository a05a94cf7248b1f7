-- Two anchors that are spelled alike are one.
use Rattle.std.proofs.Common.{◌≡◌, ℕ, ◌+◌, ◌*◌, ◌<◌, ◌++◌, List, length, get_or, take, drop, refl, sym, ◌∙◌, ap, arith, length-append, true}
use Rattle.std.specs.List.{list_all}
use Rattle.std.proofs.lemmas.List.{ext_get_or, take_at}
use Rattle.ol_bytes.specs.Numbers.{numbers_bytes}
use Rattle.ol_reserve.specs.Anchor.{IsAnchor, anchor_bytes, is_number, known_of, anchor_numbers}
use Rattle.ol_reserve.specs.declared.anchor.Anchor.{Anchor}
use Rattle.ol_reserve.proofs.Fields.{FieldsIn, behind_down, behind_numbers, fields_in, fits, known_fit, length-known_of, number_back, numbers_back, one_at, same_anchor, text_in, zero_at}

-- numbers that are written alike
same_numbers : (xs ys left right bytes : List ℕ) → bytes ≡ numbers_bytes xs ++ left → bytes ≡ numbers_bytes ys ++ right → list_all is_number xs ≡ true → list_all is_number ys ≡ true → length xs ≡ length ys → xs ≡ ys
same_numbers xs ys left right bytes p q fit_x fit_y same =
    numbers_back ys right bytes xs q fit_y same (λ k lt. sym (number_back xs left bytes k p lt (fits xs k fit_x)))

pub one_anchor : (a b : Anchor) → IsAnchor a → IsAnchor b → anchor_bytes 1 a ≡ anchor_bytes 1 b → a ≡ b
one_anchor a b p q e =
    let bytes = anchor_bytes 1 b in
    let f = fields_in 1 a bytes p (sym e) in
    let g = fields_in 1 b bytes q refl in
    let none : ℕ × ℕ = (0, 0) in
    let numbers = same_numbers (anchor_numbers a) (anchor_numbers b) (behind_numbers a) (behind_numbers b) (drop 8 bytes) f.numbers g.numbers p.numbers q.numbers refl in
    let known : known_of a.zero a.one ≡ known_of b.zero b.one =
    same_numbers (known_of a.zero a.one) (known_of b.zero b.one) _ _ (drop 272 bytes) f.known g.known (known_fit a.zero a.one p.zeros p.ones) (known_fit b.zero b.one q.zeros q.ones)
    (omega (arith, length-known_of a.zero a.one (p.each.3 ∙ sym p.each.2), length-known_of b.zero b.one (q.each.3 ∙ sym q.each.2), p.each.2, q.each.2)) in
    let s = text_in 1 a bytes (take 2 (drop 784 bytes)) (drop 2 (drop 784 bytes)) p (sym e) refl refl in
    let t = text_in 1 b bytes (take 2 (drop 784 bytes)) (drop 2 (drop 784 bytes)) q refl refl refl in
    let long : length a.text ≡ length b.text = sym s.0 ∙ t.0 in
    same_anchor a b (anchor_numbers a) numbers (sym f.state ∙ g.state) refl refl refl refl refl refl refl refl
    (sym (take_at a.states _ 16 p.each.0) ∙ ap (take 16) (sym f.states ∙ g.states) ∙ take_at b.states _ 16 q.each.0)
    (same_numbers a.down_at b.down_at (behind_down a) (behind_down b) (drop 144 bytes) f.downs g.downs p.downs q.downs (p.each.1 ∙ sym q.each.1))
    (ext_get_or none a.zero b.zero (p.each.2 ∙ sym q.each.2) (λ k lt. let here : k < 16 = omega (arith, p.each.2) in sym (zero_at a p k here) ∙ ap (λ (l : List ℕ). let r : ℕ × ℕ = (get_or l (4 * k + 0) 0, get_or l (4 * k + 0 + 1) 0) in r) known ∙ zero_at b q k here))
    (ext_get_or none a.one b.one (p.each.3 ∙ sym q.each.3) (λ k lt. let here : k < 16 = omega (arith, p.each.3) in sym (one_at a p k here) ∙ ap (λ (l : List ℕ). let r : ℕ × ℕ = (get_or l (4 * k + 2) 0, get_or l (4 * k + 2 + 1) 0) in r) known ∙ one_at b q k here))
    (sym (take_at a.text _ (length a.text) refl) ∙ ap (take (length a.text)) (sym s.1 ∙ t.1) ∙ take_at b.text _ (length a.text) (sym long))
