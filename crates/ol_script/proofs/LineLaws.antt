-- A line that is read is spelled so, and a line that is spelled so is read.
use Rattle.std.specs.Prelude.{All, Err, List, None, Ok, Option, Result, Some, [], decimal, false, if◌then◌else◌, length, nat_lt, not, refl, true, ℕ, ◌++◌, ◌+◌, ◌==◌, ◌∷◌, ◌≡◌, ◌≤◌}
use Rattle.std.specs.List.{AllByRecursion, join_with_byte, list_all}
use Rattle.std.proofs.Common.{ap, append_assoc, arith, subst, sym, ◌∙◌}
use Rattle.std.proofs.lemmas.Bool.{and_from, and_parts, le-ltb, ltb-false}
use Rattle.std.proofs.lemmas.List.Folds.{list_all-append}
use Rattle.std.proofs.lemmas.List.Elements.{All-from_recursion}
use Rattle.std.proofs.lemmas.List.Splits.{join_with_byte-slice_split}
use Rattle.std.proofs.lemmas.Option.{same_Some}
use Rattle.ol_values.specs.declared.history.Actor.{Actor}
use Rattle.ol_values.specs.declared.history.Actor.TheVariants.{Archiver, Backer, Checkpointer, Flusher, Session, Warmer}
use Rattle.ol_values.specs.declared.line.Form.{Form}
use Rattle.ol_values.specs.declared.line.Form.TheVariants.{Archive, Backup, Begin, Cancel, Checkpoint, Clean, Commit, Delete, End, Insert, List as ListForm, Read, Restore, Rollback, Start, Switch, Turn, Update}
use Rattle.ol_values.specs.declared.line.Line.{Line}
use Rattle.ol_values.specs.Text.{actor_text}
use Rattle.ol_rules.specs.Scripts.{Ascends}
use Rattle.ol_script.proofs.FormLaws.{form_again, form_takes}
use Rattle.ol_script.proofs.NameLaws.{first_is}
use Rattle.ol_script.proofs.PieceLaws.{lacks, pieces-joined, pieces_front}
use Rattle.ol_script.proofs.ScriptLaws.{line_from, number_of}
use Rattle.ol_script.proofs.Steps.{bind_some, guard_false}
use Rattle.ol_script.proofs.WordLaws.{actor_again, actor_high, actor_takes, high_lacks, is_high, name_high, names_high, number_high, row_high, target_high}
use Rattle.ol_script.specs.Forms.{form_of}
use Rattle.ol_script.specs.Pieces.{first_piece, pieces_of}
use Rattle.ol_script.specs.Script.{ends_at, line_at, line_before, line_by, line_in_text, line_with, script_from, script_of}
use Rattle.ol_script.specs.Spelling.{AreLinesFrom, IsArchive, IsArchiverForm, IsBackerForm, IsCheckpointerForm, IsFlusherForm, IsFormOf, IsLine, IsLineForm, IsSessionForm, IsWarmerForm, line_text, register_text, script_text, target_text, verb_text, words_text}
use Rattle.ol_script.specs.Words.{actor_of}

-- ---- no blank is in a word

verb_high : (form : Form) → is_high (verb_text form) ≡ true
verb_high Begin = refl
verb_high _ = refl

one_high : (word : List ℕ) → is_high word ≡ true → list_all is_high (word ∷ []) ≡ true
one_high word e = and_from (is_high word) true e refl

both_high : (a b : List ℕ) → is_high a ≡ true → is_high b ≡ true → list_all is_high (a ∷ b ∷ []) ≡ true
both_high a b p q = and_from (is_high a) (list_all is_high (b ∷ [])) p (one_high b q)

session_high : (form : Form) → IsSessionForm form → list_all is_high (words_text form) ≡ true
session_high Begin is = refl
session_high (Insert reg space row) is =
    and_from (is_high (register_text reg)) (list_all is_high (space ∷ (61 ∷ row) ∷ [])) (number_high reg (omega arith))
    (both_high space (61 ∷ row) (name_high space is.1) (row_high row is.2))
session_high (Update target row) is = both_high (target_text target) (61 ∷ row) (target_high target is.0) (row_high row is.1)
session_high (Delete target) is = one_high (target_text target) (target_high target is)
session_high (Read target) is = one_high (target_text target) (target_high target is)
session_high (ListForm space page) is = both_high space (decimal page) (name_high space is.0) (number_high page is.1)
session_high Commit is = refl
session_high Rollback is = refl
session_high _ is = absurd is

count_high : (n : ℕ) → n ≤ 65535 → list_all is_high (decimal n ∷ []) ≡ true
count_high n few = one_high (decimal n) (number_high n (omega arith))

archive_high : (level : ℕ) (spaces : List (List ℕ)) → IsArchive level spaces → list_all is_high (decimal level ∷ spaces) ≡ true
archive_high level spaces is =
    and_from (is_high (decimal level)) (list_all is_high spaces) (number_high level (omega (arith, is.0))) (names_high spaces (is.1).each)

archiver_high : (form : Form) → IsArchiverForm form → list_all is_high (words_text form) ≡ true
archiver_high (Start level spaces) is = archive_high level spaces is
archiver_high (Turn count) is = count_high count is.1
archiver_high End is = refl
archiver_high Cancel is = refl
archiver_high (Archive level spaces) is = archive_high level spaces is
archiver_high _ is = absurd is

backer_high : (form : Form) → IsBackerForm form → list_all is_high (words_text form) ≡ true
backer_high (Backup count) is = count_high count is.1
backer_high Switch is = refl
backer_high _ is = absurd is

flusher_high : (form : Form) → IsFlusherForm form → list_all is_high (words_text form) ≡ true
flusher_high (Clean count) is = count_high count is.1
flusher_high _ is = absurd is

checkpointer_high : (form : Form) → IsCheckpointerForm form → list_all is_high (words_text form) ≡ true
checkpointer_high Checkpoint is = refl
checkpointer_high _ is = absurd is

warmer_high : (form : Form) → IsWarmerForm form → list_all is_high (words_text form) ≡ true
warmer_high (Restore space) is = one_high space (name_high space is)
warmer_high _ is = absurd is

words_high : (a : Actor) (form : Form) → IsFormOf a form → list_all is_high (words_text form) ≡ true
words_high (Session k) form is = session_high form is
words_high (Archiver k) form is = archiver_high form is
words_high Backer form is = backer_high form is
words_high Flusher form is = flusher_high form is
words_high Checkpointer form is = checkpointer_high form is
words_high Warmer form is = warmer_high form is

-- words without a byte that is low
lack_all : (mark : ℕ) → mark ≤ 32 → (words : List (List ℕ)) → list_all is_high words ≡ true → list_all (lacks mark) words ≡ true
lack_all mark low [] e = refl
lack_all mark low (word ∷ words) e =
    let a = and_parts (is_high word) (list_all is_high words) e in
    and_from (lacks mark word) (list_all (lacks mark) words) (high_lacks mark low word a.0) (lack_all mark low words a.1)

all_high : (a : Actor) (form : Form) → IsLineForm a form → list_all is_high (verb_text form ∷ words_text form) ≡ true
all_high a form is = and_from (is_high (verb_text form)) (list_all is_high (words_text form)) (verb_high form) (words_high a form is.1)

joined_lacks : (mark other : ℕ) (piece : List ℕ) (pieces : List (List ℕ)) → (mark == other) ≡ false → lacks other piece ≡ true → list_all (lacks other) pieces ≡ true
    → lacks other (join_with_byte mark (piece ∷ pieces)) ≡ true
joined_lacks mark other piece [] apart e all = e
joined_lacks mark other piece (next ∷ pieces) apart e all =
    let a = and_parts (lacks other next) (list_all (lacks other) pieces) all in
    list_all-append (λ b. not (b == other)) piece (mark ∷ join_with_byte mark (next ∷ pieces))
    ∙ and_from (lacks other piece) (lacks other (mark ∷ join_with_byte mark (next ∷ pieces))) e
    (and_from (not (mark == other)) (lacks other (join_with_byte mark (next ∷ pieces))) (ap not apart) (joined_lacks mark other next pieces apart a.0 a.1))

-- no line feed is in a line
line_lacks : (a : Actor) (form : Form) → IsLineForm a form → lacks 10 (line_text a form) ≡ true
line_lacks a form is =
    joined_lacks 32 10 (actor_text a) (verb_text form ∷ words_text form) refl (high_lacks 10 (omega arith) (actor_text a) (actor_high a is.0)) (lack_all 10 (omega arith) (verb_text form ∷ words_text form) (all_high a form is))

-- ---- lines

line_by_takes : (k : ℕ) (words : List (List ℕ)) (line : Line) → line_by k words ≡ Some line → IsLineForm line.actor line.form × (join_with_byte 32 words ≡ line_text line.actor line.form)
unfolding line_by
line_by_takes k words line e =
    let w = bind_some (first_piece words) _ line e in
    let a = bind_some (actor_of w.0.0) _ line w.2 in
    let v = bind_some (first_piece w.0.1) _ line a.2 in
    let f = bind_some (form_of a.0 v.0.0 v.0.1) _ line v.2 in
    let actor = actor_takes w.0.0 a.0 a.1 in
    let form = form_takes a.0 v.0.0 v.0.1 f.0 f.1 in
    let all : words ≡ actor_text a.0 ∷ verb_text f.0 ∷ words_text f.0 =
    first_is words w.0.0 w.0.1 w.1 ∙ ap (λ (x : List ℕ). x ∷ w.0.1) actor.0 ∙ ap (λ (x : List (List ℕ)). actor_text a.0 ∷ x) (first_is w.0.1 v.0.0 v.0.1 v.1)
    ∙ ap (λ (x : List ℕ). actor_text a.0 ∷ x ∷ v.0.1) form.leads ∙ ap (λ (x : List (List ℕ)). actor_text a.0 ∷ verb_text f.0 ∷ x) form.follow in
    let made : IsLineForm a.0 f.0 × (join_with_byte 32 words ≡ line_text a.0 f.0) = ((actor.1, form.is), ap (join_with_byte 32) all) in
    subst (λ (l : Line). IsLineForm l.actor l.form × (join_with_byte 32 words ≡ line_text l.actor l.form)) (same_Some (line_with k a.0 f.0) line f.2) made

pub line_takes : (k : ℕ) (bytes : List ℕ) (line : Line) → line_in_text k bytes ≡ Some line
    → IsLineForm line.actor line.form × (bytes ≡ line_text line.actor line.form) × (length bytes ≤ 255) × (line.number ≡ k)
line_takes k bytes line e =
    let g = guard_false (nat_lt 255 (length bytes)) (line_by k (pieces_of 32 bytes)) line e in
    let t = line_by_takes k (pieces_of 32 bytes) line g.1 in
    (t.0, sym (join_with_byte-slice_split 32 bytes) ∙ t.1, ltb-false 255 (length bytes) g.0, number_of k bytes line e)

line_by_again : (k : ℕ) (a : Actor) (form : Form) → IsLineForm a form → line_by k (actor_text a ∷ verb_text form ∷ words_text form) ≡ Some (line_with k a form)
unfolding line_by
line_by_again k a form is = rw (actor_again a is.0, form_again a form is.1) refl

pub line_again : (k : ℕ) (a : Actor) (form : Form) → IsLineForm a form → length (line_text a form) ≤ 255 → line_in_text k (line_text a form) ≡ Some (line_with k a form)
line_again k a form is short =
    let long : nat_lt 255 (length (line_text a form)) ≡ false = le-ltb 255 (length (line_text a form)) short in
    ap (λ b. if b then None else line_by k (pieces_of 32 (line_text a form))) long
    ∙ ap (line_by k) (pieces-joined 32 (actor_text a) (verb_text form ∷ words_text form) (high_lacks 32 (omega arith) (actor_text a) (actor_high a is.0))
    (lack_all 32 (omega arith) (verb_text form ∷ words_text form) (all_high a form is)))
    ∙ line_by_again k a form is

-- ---- the spelling of a script

line_at_again : (k : ℕ) (line : Line) → IsLine line → length (line_text line.actor line.form) ≤ 255 → line.number ≡ k → k ≤ 65535 → line_at k (line_text line.actor line.form) ≡ Some line
line_at_again k line is short at few =
    let n : nat_lt 65535 k ≡ false = le-ltb 65535 k few in
    ap (λ b. if b then None else line_in_text k (line_text line.actor line.form)) n
    ∙ line_again k line.actor line.form is short
    ∙ ap (λ (m : ℕ). Some (line_with m line.actor line.form)) (sym at)

script_again : (k : ℕ) (lines : List Line) → AreLinesFrom k lines → script_from k (pieces_of 10 (script_text lines)) ≡ Ok lines
script_again k [] are = refl
script_again k (line ∷ lines) are =
    let text = line_text line.actor line.form in
    ap (λ (t : List ℕ). script_from k (pieces_of 10 t)) (append_assoc text (10 ∷ []) (script_text lines))
    ∙ ap (script_from k) (pieces_front 10 text (script_text lines) (line_lacks line.actor line.form are.0))
    ∙ line_from k text (script_text lines)
    ∙ ap (λ (o : Option Line). line_before k o (script_from (k + 1) (pieces_of 10 (script_text lines)))) (line_at_again k line are.0 are.1 are.2 are.3)
    ∙ ap (λ (r : Result (List Line) ℕ). line_before k (Some line) r) (script_again (k + 1) lines are.4)

pub spelled_script : (lines : List Line) → AreLinesFrom 1 lines → script_of (script_text lines) ≡ Ok lines
spelled_script lines are = script_again 1 lines are

-- a script that is read: its lines, and its pieces joined
abbrev Spelled : ℕ → List (List ℕ) → Result (List Line) ℕ → Type 0
Spelled k pieces (Ok lines) = AreLinesFrom k lines × (join_with_byte 10 pieces ≡ script_text lines)
Spelled k pieces (Err n) = Unit {0}

spelled_then : (k : ℕ) (piece next : List ℕ) (pieces : List (List ℕ)) (o : Option Line) (r : Result (List Line) ℕ) → line_at k piece ≡ o → Spelled (k + 1) (next ∷ pieces) r
    → Spelled k (piece ∷ next ∷ pieces) (line_before k o r)
spelled_then k piece next pieces None r is s = tt
spelled_then k piece next pieces (Some line) (Err n) is s = tt
spelled_then k piece next pieces (Some line) (Ok lines) is s =
    let g = guard_false (nat_lt 65535 k) (line_in_text k piece) line is in
    let t = line_takes k piece line g.1 in
    let short : length (line_text line.actor line.form) ≤ 255 = omega (arith, t.2, ap (λ (l : List ℕ). length l) t.1) in (
      (t.0, short, t.3, ltb-false 65535 k g.0, s.0),
      ap (λ (p : List ℕ). p ++ 10 ∷ join_with_byte 10 (next ∷ pieces)) t.1
          ∙ ap (λ (x : List ℕ). line_text line.actor line.form ++ 10 ∷ x) s.1
          ∙ sym (append_assoc (line_text line.actor line.form) (10 ∷ []) (script_text lines)),
    )

spelled_end : (k : ℕ) (piece : List ℕ) → Spelled k (piece ∷ []) (ends_at k piece)
spelled_end k [] = (tt, refl)
spelled_end k (b ∷ piece) = tt

spelled_from : (k : ℕ) (pieces : List (List ℕ)) → Spelled k pieces (script_from k pieces)
spelled_from k [] = tt
spelled_from k (piece ∷ []) = spelled_end k piece
spelled_from k (piece ∷ next ∷ pieces) = spelled_then k piece next pieces (line_at k piece) (script_from (k + 1) (next ∷ pieces)) refl (spelled_from (k + 1) (next ∷ pieces))

pub read_script : (text : List ℕ) (lines : List Line) → script_of text ≡ Ok lines → AreLinesFrom 1 lines × (text ≡ script_text lines)
read_script text lines e =
    let s : Spelled 1 (pieces_of 10 text) (Ok lines) = subst (Spelled 1 (pieces_of 10 text)) e (spelled_from 1 (pieces_of 10 text)) in
    (s.0, sym (join_with_byte-slice_split 10 text) ∙ s.1)

-- ---- what the lines of a script are

pub rising_from : (k : ℕ) (lines : List Line) → AreLinesFrom k lines → Ascends lines
rising_from k [] are = tt
rising_from k (line ∷ []) are = tt
rising_from k (line ∷ next ∷ lines) are = (omega (arith, are.2, (are.4).2), rising_from (k + 1) (next ∷ lines) are.4)

lines_from : (k : ℕ) (lines : List Line) → AreLinesFrom k lines → AllByRecursion IsLine lines
lines_from k [] are = tt
lines_from k (line ∷ lines) are = (are.0, lines_from (k + 1) lines are.4)

pub forms_from : (k : ℕ) (lines : List Line) → AreLinesFrom k lines → All IsLine lines
forms_from k lines are = All-from_recursion IsLine lines (lines_from k lines are)
