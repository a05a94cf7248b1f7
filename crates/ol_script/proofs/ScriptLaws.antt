-- How the lines of a script's text follow one another.
use Rattle.std.specs.Prelude.{Err, List, Ok, Option, Result, Some, length, nat_lt, ℕ, ◌++◌, ◌+◌, ◌∷◌, ◌≡◌}
use Rattle.std.proofs.Common.{ap, sym, ◌∙◌}
use Rattle.std.proofs.lemmas.Option.{same_Some}
use Rattle.ol_values.specs.declared.line.Line.{Line}
use Rattle.ol_script.proofs.PieceLaws.{has_piece}
use Rattle.ol_script.proofs.Steps.{bind_some, guard_false}
use Rattle.ol_script.specs.Forms.{form_of}
use Rattle.ol_script.specs.Pieces.{first_piece, pieces_of}
use Rattle.ol_script.specs.Script.{line_at, line_before, line_by, line_in_text, line_with, script_from}
use Rattle.ol_script.specs.Words.{actor_of}

pub line_from : (k : ℕ) (line text : List ℕ) → script_from k (line ∷ pieces_of 10 text) ≡ line_before k (line_at k line) (script_from (k + 1) (pieces_of 10 text))
line_from k line text =
    let h = has_piece 10 text in
    ap (λ (l : List (List ℕ)). script_from k (line ∷ l)) h.are ∙ ap (λ (l : List (List ℕ)). line_before k (line_at k line) (script_from (k + 1) l)) (sym h.are)

-- ---- what a reader reads

-- the first line, and then those behind it
pub next_line : (k : ℕ) (text bytes behind : List ℕ) (o : Option Line) → pieces_of 10 text ≡ bytes ∷ pieces_of 10 behind → line_at k bytes ≡ o
    → script_from k (pieces_of 10 text) ≡ line_before k o (script_from (k + 1) (pieces_of 10 behind))
next_line k text bytes behind o cut is =
    ap (script_from k) cut ∙ line_from k bytes behind ∙ ap (λ (o : Option Line). line_before k o (script_from (k + 1) (pieces_of 10 behind))) is

-- ---- passes over a script

-- lines that were read, and then those that follow
abbrev pub with_lines : List Line → Result (List Line) ℕ → Result (List Line) ℕ
with_lines lines (Ok more) = Ok (lines ++ more)
with_lines lines (Err k) = Err k

-- ---- numbers

number_by : (k : ℕ) (words : List (List ℕ)) (line : Line) → line_by k words ≡ Some line → line.number ≡ k
unfolding line_by
number_by k words line e =
    let w = bind_some (first_piece words) _ line e in
    let a = bind_some (actor_of w.0.0) _ line w.2 in
    let v = bind_some (first_piece w.0.1) _ line a.2 in
    let f = bind_some (form_of a.0 v.0.0 v.0.1) _ line v.2 in
    let is : line_with k a.0 f.0 ≡ line = same_Some (line_with k a.0 f.0) line f.2 in
    ap (λ (l : Line). l.number) (sym is)

-- a line has the number that it stands at
pub number_of : (k : ℕ) (bytes : List ℕ) (line : Line) → line_in_text k bytes ≡ Some line → line.number ≡ k
number_of k bytes line e =
    let g = guard_false (nat_lt 255 (length bytes)) (line_by k (pieces_of 32 bytes)) line e in
    number_by k (pieces_of 32 bytes) line g.1
