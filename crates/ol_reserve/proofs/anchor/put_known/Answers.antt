use Rattle.std.proofs.Common.{◌≡◌, ◌+◌, ◌++◌, ◌∙◌, List, ap, append_assoc, arith, get_or, sym, suc, take, ℕ}
use Rattle.std.proofs.lemmas.List.{append-nil}
use Rattle.ol_bytes.specs.Numbers.{numbers_bytes}
use Rattle.ol_bytes.proofs.Numbers.{numbers_bytes-append}
use Rattle.ol_reserve.specs.Anchor.{known_of}
use Rattle.ol_reserve.proofs.Known.{four, known_of-take}
use Rattle.ol_reserve.proofs.anchor.put_known.Goals as goal

pub loop-space-init : goal.loop-space-init
unfolding numbers_bytes
loop-space-init c = record { next = omega arith; front = sym (append-nil (take c.args.at c.args.page.now)) }

pub loop-space-preserved : goal.loop-space-preserved
loop-space-preserved c =
    let k = c.loop-space.space in
    let zeros = c.args.zero.now in
    let ones = c.args.one.now in
    let none : ℕ × ℕ = (0, 0) in
    let before = known_of (take k zeros) (take k ones) in
    let more : known_of (take (k + 1) zeros) (take (k + 1) ones) ≡ before ++ four (get_or zeros k none) (get_or ones k none) =
    ap (λ (n : ℕ). known_of (take n zeros) (take n ones)) (let n : k + 1 ≡ suc k = omega arith in n) ∙ known_of-take zeros ones k none c.loop-space-test.true c.requires.same in
    record {
      next = omega (arith, c.put_numbers-end.ensures.next, c.loop-space.invariant.next);
      front = c.put_numbers-end.ensures.front
          ∙ ap (λ (l : List ℕ). l ++ numbers_bytes (four (get_or zeros k none) (get_or ones k none))) c.loop-space.invariant.front
          ∙ append_assoc (take c.args.at c.args.page.now) (numbers_bytes before) (numbers_bytes (four (get_or zeros k none) (get_or ones k none)))
          ∙ ap (λ (l : List ℕ). take c.args.at c.args.page.now ++ l) (sym (numbers_bytes-append before (four (get_or zeros k none) (get_or ones k none))))
          ∙ ap (λ (l : List ℕ). take c.args.at c.args.page.now ++ numbers_bytes l) (sym more);
    }
