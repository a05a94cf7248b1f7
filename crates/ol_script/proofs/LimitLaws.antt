-- What stands behind the most bytes that a script's lines can have does not matter.
use Rattle.std.specs.Prelude.{Bool, Err, List, None, Option, Result, Some, [], false, if◌then◌else◌, length, nat_lt, not, refl, suc, take, true, zero, ℕ, ◌*◌, ◌++◌, ◌+◌, ◌-◌, ◌<◌, ◌==◌, ◌∷◌, ◌≡◌, ◌≤◌, ◌⊎◌}
use Rattle.std.proofs.Common.{ap, arith, inl, inr, subst, sym, ◌∙◌}
use Rattle.std.proofs.Math.Seq.{take-append-add}
use Rattle.std.proofs.lemmas.Bool.{and_from, and_parts, cases_lt, eqb-true, lt-ltb, ltb-false}
use Rattle.std.proofs.lemmas.List.{take-append-le}
use Rattle.ol_values.specs.declared.line.Line.{Line}
use Rattle.ol_script.proofs.PieceLaws.{lacks, pieces_front, pieces_whole}
use Rattle.ol_script.proofs.ScriptLaws.{line_from}
use Rattle.ol_script.proofs.Steps.{guard_false}
use Rattle.ol_script.specs.Pieces.{pieces_of}
use Rattle.ol_script.specs.Script.{ends_at, line_at, line_before, line_by, line_in_text, script_from, script_limit, script_of}

-- a text is one piece, or a first piece and a text behind the byte that parts them
record Parted (mark : ℕ) (text : List ℕ) : Type 0 where
  line : List ℕ
  behind : List ℕ
  clean : lacks mark line ≡ true
  whole : text ≡ line ++ mark ∷ behind

parted_more : (mark b : ℕ) (text : List ℕ) (u : Bool) → (b == mark) ≡ u → (lacks mark text ≡ true) ⊎ Parted mark text → (lacks mark (b ∷ text) ≡ true) ⊎ Parted mark (b ∷ text)
parted_more mark b text true at rest = inr (record { line = []; behind = text; clean = refl; whole = ap (λ (c : ℕ). c ∷ text) (eqb-true b mark at) })
parted_more mark b text false at (inl e) = inl (and_from (not (b == mark)) (lacks mark text) (ap not at) e)
parted_more mark b text false at (inr p) =
    inr (record { line = b ∷ p.line; behind = p.behind; clean = and_from (not (b == mark)) (lacks mark p.line) (ap not at) p.clean; whole = ap (λ (l : List ℕ). b ∷ l) p.whole })

parted : (mark : ℕ) (text : List ℕ) → (lacks mark text ≡ true) ⊎ Parted mark text
parted mark [] = inl refl
parted mark (b ∷ text) = parted_more mark b text (b == mark) refl (parted mark text)

lacks_front : (mark limit : ℕ) (text : List ℕ) → lacks mark text ≡ true → lacks mark (take limit text) ≡ true
lacks_front mark zero text e = refl
lacks_front mark (suc limit) [] e = refl
lacks_front mark (suc limit) (b ∷ text) e =
    let a = and_parts (not (b == mark)) (lacks mark text) e in
    and_from (not (b == mark)) (lacks mark (take limit text)) a.0 (lacks_front mark limit text a.1)

ends_front : (k limit : ℕ) (text : List ℕ) → 1 ≤ limit → ends_at k (take limit text) ≡ ends_at k text
ends_front k zero text some = absurd (omega arith)
ends_front k (suc limit) [] some = refl
ends_front k (suc limit) (b ∷ text) some = refl

last_from : (k : ℕ) (text : List ℕ) → lacks 10 text ≡ true → script_from k (pieces_of 10 text) ≡ ends_at k text
last_from k text e = ap (script_from k) (pieces_whole 10 text e)

cut_from : (k : ℕ) (line behind : List ℕ) → lacks 10 line ≡ true → script_from k (pieces_of 10 (line ++ 10 ∷ behind)) ≡ line_before k (line_at k line) (script_from (k + 1) (pieces_of 10 behind))
cut_from k line behind e = ap (script_from k) (pieces_front 10 line behind e) ∙ line_from k line behind

-- a text that is cut within its first line
short_at : (k limit : ℕ) (line : List ℕ) → 1 ≤ limit → 1 ≤ length line → ends_at k (take limit line) ≡ Err k
short_at k limit [] some full = absurd (omega arith)
short_at k limit (b ∷ line) some full = ends_front k limit (b ∷ line) some

long_line : (k : ℕ) (line : List ℕ) → (65535 < k) ⊎ (255 < length line) → line_at k line ≡ None
long_line k line (inl many) = ap (λ b. if b then None else line_in_text k line) (lt-ltb 65535 k many)
long_line k line (inr long) = go (nat_lt 65535 k)
  where
    go : (u : Bool) → (if u then None else line_in_text k line) ≡ None
    go true = refl
    go false = ap (λ b. if b then None else line_by k (pieces_of 32 line)) (lt-ltb 255 (length line) long)

-- the line and the text behind it, as far as the limit goes
front_is : (limit : ℕ) (line behind : List ℕ) → length line < limit → take limit (line ++ 10 ∷ behind) ≡ line ++ 10 ∷ take (limit - length line - 1) behind
front_is limit line behind long =
    let is : limit ≡ length line + suc (limit - length line - 1) = omega arith in
    ap (λ (n : ℕ). take n (line ++ 10 ∷ behind)) is ∙ take-append-add line (10 ∷ behind) (suc (limit - length line - 1))

-- a cut within a first line that is off the grammar
within : (k limit : ℕ) (line behind : List ℕ) → lacks 10 line ≡ true → 1 ≤ limit → limit ≤ length line → (65535 < k) ⊎ (255 < length line)
    → script_from k (pieces_of 10 (take limit (line ++ 10 ∷ behind))) ≡ script_from k (pieces_of 10 (line ++ 10 ∷ behind))
within k limit line behind clean some short off =
    ap (λ (l : List ℕ). script_from k (pieces_of 10 l)) (take-append-le limit line (10 ∷ behind) short)
    ∙ last_from k (take limit line) (lacks_front 10 limit line clean)
    ∙ short_at k limit line some (omega arith)
    ∙ sym (cut_from k line behind clean ∙ ap (λ (o : Option Line). line_before k o (script_from (k + 1) (pieces_of 10 behind))) (long_line k line off))

-- a cut behind the first line
behind_it : (k limit : ℕ) (line behind : List ℕ) → lacks 10 line ≡ true → length line < limit
    → ((l : Line) → line_at k line ≡ Some l → script_from (k + 1) (pieces_of 10 (take (limit - length line - 1) behind)) ≡ script_from (k + 1) (pieces_of 10 behind))
    → script_from k (pieces_of 10 (take limit (line ++ 10 ∷ behind))) ≡ script_from k (pieces_of 10 (line ++ 10 ∷ behind))
behind_it k limit line behind clean long rest =
    ap (λ (l : List ℕ). script_from k (pieces_of 10 l)) (front_is limit line behind long)
    ∙ cut_from k line (take (limit - length line - 1) behind) clean
    ∙ go (line_at k line) rest
    ∙ sym (cut_from k line behind clean)
  where
    go : (o : Option Line) → ((l : Line) → o ≡ Some l → script_from (k + 1) (pieces_of 10 (take (limit - length line - 1) behind)) ≡ script_from (k + 1) (pieces_of 10 behind))
        → line_before k o (script_from (k + 1) (pieces_of 10 (take (limit - length line - 1) behind))) ≡ line_before k o (script_from (k + 1) (pieces_of 10 behind))
    go None r = refl
    go (Some l) r = ap (λ (s : Result (List Line) ℕ). line_before k (Some l) s) (r l refl)

-- a line that is there has a number and a length within the limits
fits : (k : ℕ) (line : List ℕ) (l : Line) → line_at k line ≡ Some l → (k ≤ 65535) × (length line ≤ 255)
fits k line l e =
    let g = guard_false (nat_lt 65535 k) (line_in_text k line) l e in
    let h = guard_false (nat_lt 255 (length line)) (line_by k (pieces_of 32 line)) l g.1 in
    (ltb-false 65535 k g.0, ltb-false 255 (length line) h.0)

-- by the number of lines that may still follow
limit_from : (m k limit : ℕ) (text : List ℕ) → k + m ≡ 65536 → 256 * m + 1 ≤ limit → script_from k (pieces_of 10 (take limit text)) ≡ script_from k (pieces_of 10 text)
limit_from zero k limit text last room = elim (parted 10 text) [
  | inl e ↦ last_from k (take limit text) (lacks_front 10 limit text e) ∙ ends_front k limit text (omega arith) ∙ sym (last_from k text e)
  | inr p ↦
      subst (λ (t : List ℕ). script_from k (pieces_of 10 (take limit t)) ≡ script_from k (pieces_of 10 t)) (sym p.whole)
      (elim (cases_lt (length p.line) limit) [
        | inl long ↦ behind_it k limit p.line p.behind p.clean long (λ l e. absurd (omega (arith, (fits k p.line l e).0)))
        | inr short ↦ within k limit p.line p.behind p.clean (omega arith) short (inl (omega arith))
      ])
]
limit_from (suc m) k limit text last room = elim (parted 10 text) [
  | inl e ↦ last_from k (take limit text) (lacks_front 10 limit text e) ∙ ends_front k limit text (omega arith) ∙ sym (last_from k text e)
  | inr p ↦
      subst (λ (t : List ℕ). script_from k (pieces_of 10 (take limit t)) ≡ script_from k (pieces_of 10 t)) (sym p.whole)
      (elim (cases_lt (length p.line) limit) [
        | inl long ↦ behind_it k limit p.line p.behind p.clean long (λ l e. limit_from m (k + 1) (limit - length p.line - 1) p.behind (omega arith) (omega (arith, (fits k p.line l e).1)))
        | inr short ↦ within k limit p.line p.behind p.clean (omega arith) short (inr (omega arith))
      ])
]

pub limit_loses_nothing : (text : List ℕ) → script_of (take script_limit text) ≡ script_of text
limit_loses_nothing text = limit_from 65535 1 script_limit text (omega arith) (omega arith)
