use Rattle.std.proofs.Common.{◌≡◌, ◌+◌, ◌++◌, ◌∙◌, List, [], ◌∷◌, ap, append_assoc, arith, get_or, sym, take, ℕ}
use Rattle.std.specs.Int.{to_be_bytes, w64}
use Rattle.std.proofs.lemmas.List.{append-nil, take_more}
use Rattle.ol_bytes.specs.Numbers.{numbers_bytes}
use Rattle.ol_bytes.proofs.Numbers.{numbers_bytes-append, numbers_bytes-one}
use Rattle.ol_bytes.proofs.put_numbers.Goals as goal

pub loop-number-init : goal.loop-number-init
unfolding numbers_bytes
loop-number-init c = record { next = omega arith; front = sym (append-nil (take c.args.at c.args.out.now)) }

pub loop-number-preserved : goal.loop-number-preserved
loop-number-preserved c =
    let i = c.loop-number.number-index in
    let numbers = c.args.numbers.now in
    let more : take (i + 1) numbers ≡ take i numbers ++ (get_or numbers i 0 ∷ []) = take_more numbers i 0 c.loop-number-test.true in
    let bytes : numbers_bytes (take (i + 1) numbers) ≡ numbers_bytes (take i numbers) ++ to_be_bytes w64 (get_or numbers i 0) =
    ap numbers_bytes more ∙ numbers_bytes-append (take i numbers) (get_or numbers i 0 ∷ []) ∙ ap (λ (l : List ℕ). numbers_bytes (take i numbers) ++ l) (numbers_bytes-one (get_or numbers i 0)) in
    record {
      next = omega (arith, c.put-end.ensures.next, c.loop-number.invariant.next);
      front = c.put-end.ensures.front
          ∙ ap (λ (l : List ℕ). l ++ c.to_be_bytes.result) c.loop-number.invariant.front
          ∙ append_assoc (take c.args.at c.args.out.now) (numbers_bytes (take i numbers)) c.to_be_bytes.result
          ∙ ap (λ (l : List ℕ). take c.args.at c.args.out.now ++ (numbers_bytes (take i numbers) ++ l)) c.to_be_bytes.ensures
          ∙ ap (λ (l : List ℕ). take c.args.at c.args.out.now ++ l) (sym bytes);
    }
