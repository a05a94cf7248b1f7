use Rattle.std.proofs.Common.{◌≡◌, ℕ, ◌-◌, min, List, length, take, drop, sym, ap, ◌∙◌, arith, length-append, length-drop}
use Rattle.std.proofs.lemmas.List.{length-take}
use Rattle.ol_outside.proofs.Pieces.{rest-whole, left-split, left-empty}
use Rattle.ol_outside.proofs.memory_stream.MemorySourceSource.read.Goals as goal

pub returns-clause-bytes : goal.returns-clause-bytes
returns-clause-bytes c =
    let s = c.self.inside in
    let p = s.position in
    let n = c.min-count.result in
    let buf = c.args.buf.now in
    let whole = ap (λ (l : List ℕ). take (length l - p) (drop p l)) c.deref.ensures.value ∙ rest-whole s.bytes.items p in
    let count : n ≡ min (length buf) (min s.piece (length (drop p s.bytes.items))) =
    c.min-count.ensures
    ∙ ap (min (length buf)) (c.min.ensures ∙ ap (λ (l : List ℕ). min s.piece (length l)) whole)
    in
    let given = c.copy_from_slice.ensures.after ∙ ap (take n) whole in
    let seen = ap (λ v. v.left) c.self.view_is in (
      sym seen ∙ left-split s.bytes.items c.copy_from_slice.new.self (drop n buf) p n (omega arith) given,
      λ none roomy. left-empty s.bytes.items p n (length buf) s.piece count (omega arith) (omega (arith, length-append c.copy_from_slice.new.self (drop n buf), length-drop n buf, ap length given, length-take n (drop p s.bytes.items))) none,
    )
