-- What the lines of a script that is built are.
use Rattle.std.specs.List.{list_all, slice_get}
use Rattle.std.specs.Option.{option_copied}
use denote.Ref.{Bor}
use Rattle.std.specs.Prelude.{All, Bool, Err, IfSome, List, None, Ok, Option, Result, Some, [], drop, false, is_some, length, nat_lt, not, option_to_list, take, true, unwrap_or, suc, zero, ℕ, ◌&&◌, ◌++◌, ◌+◌, ◌<◌, ◌==◌, ◌∷◌, ◌≡◌, refl}
use Rattle.std.proofs.Common.{ap, arith, cond, get_or, subst, sym, ◌∙◌}
use Rattle.std.proofs.lemmas.Bool.{eqb-true}
use Rattle.std.proofs.lemmas.List.{take-append-drop}
use Rattle.std.specs.List.{position_or_len}
use Rattle.ol_core.specs.Archivers.{cons_space, spaces_named}
use Rattle.ol_values.specs.Config.{Config, is_name, space_named}
use Rattle.ol_values.specs.declared.history.Actor.{Actor}
use Rattle.ol_values.specs.declared.history.Actor.TheVariants.{Archiver, Backer, Checkpointer, Flusher, Session, Warmer}
use Rattle.ol_values.specs.declared.line.Form.{Form}
use Rattle.ol_values.specs.declared.line.Form.TheVariants.{Archive, Begin, Commit, Insert}
use Rattle.ol_values.specs.declared.line.Line.{Line}
use Rattle.ol_script.specs.Spelling.{IsLine, IsLineForm}
use Rattle.ol_online.specs.Command.{archive_line_in, first_of}
use Rattle.ol_online.specs.Planning.{is_archive_form, is_archive_line, is_archiver_1, is_session_1, is_session_form, is_session_line, is_space, is_there, lines_planned, planned_behind, session_count}
use Rattle.ol_online.specs.Playing.{IsArchiveLine, IsNamed, IsPlayedForm, IsSessionLine, line_in, names_in}

-- ---- a line

both : (a b : Bool) → (a && b) ≡ true → (a ≡ true) × (b ≡ true)
both true true e = (refl, refl)
both true false e = cc
both false b e = cc

is_one : (k : ℕ) → (k == 1) ≡ true → k ≡ 1
is_one k e = eqb-true k 1 e

session_actor : (actor : Actor) → is_session_1 actor ≡ true → actor ≡ Session 1
session_actor (Session k) e = ap Session (is_one k e)
session_actor (Archiver k) e = cc
session_actor Backer e = cc
session_actor Flusher e = cc
session_actor Checkpointer e = cc
session_actor Warmer e = cc

archiver_actor : (actor : Actor) → is_archiver_1 actor ≡ true → actor ≡ Archiver 1
archiver_actor (Archiver k) e = ap Archiver (is_one k e)
archiver_actor (Session k) e = cc
archiver_actor Backer e = cc
archiver_actor Flusher e = cc
archiver_actor Checkpointer e = cc
archiver_actor Warmer e = cc

session_form : (form : Form) → is_session_form form ≡ true → IsLineForm (Session 1) form → IsPlayedForm form
session_form Begin e l = tt
session_form Commit e l = tt
session_form (Insert reg space row) e l = omega (arith, l.1.0)
session_form form e l = cc

session_line : (line : Line) → IsLine line → is_session_line line ≡ true → IsSessionLine line
session_line line l e =
    let parts = both (is_session_1 line.actor) (is_session_form line.form) e in
    let actor = session_actor line.actor parts.0 in
    (actor, session_form line.form parts.1 (subst (λ (a : Actor). IsLineForm a line.form) actor l))

space_there : (c : Config) (name : List ℕ) (rest : Option (List ℕ)) (space : Option ℕ) → is_there space ≡ true → is_some rest ≡ true → is_some (cons_space space rest) ≡ true
space_there c name None space there e = cc
space_there c name (Some spaces) None there e = cc
space_there c name (Some spaces) (Some s) there e = refl

spaces_there : (c : Config) (names : List (List ℕ)) → list_all (is_space c) names ≡ true → is_some (spaces_named c names) ≡ true
spaces_there c [] e = refl
spaces_there c (name ∷ names) e =
    let parts = both (is_space c name) (list_all (is_space c) names) e in
    space_there c name (spaces_named c names) (space_named c name) (both (is_name name) (is_there (space_named c name)) parts.0).1 (spaces_there c names parts.1)

archive_form : (c : Config) (form : Form) → is_archive_form c form ≡ true → (form ≡ Archive 0 (names_in form)) × (is_some (spaces_named c (names_in form)) ≡ true)
archive_form c (Archive level names) e =
    let parts = both (level == 0) (list_all (is_space c) names) e in
    (ap (λ (n : ℕ). Archive n names) (eqb-true level 0 parts.0), spaces_there c names parts.1)
archive_form c form e = cc

archive_line : (c : Config) (line : Line) → is_archive_line c line ≡ true → IsArchiveLine line × IsNamed c line
archive_line c line e =
    let parts = both (is_archiver_1 line.actor) (is_archive_form c line.form) e in
    let form = archive_form c line.form parts.1 in
    ((archiver_actor line.actor parts.0, form.0), form.1)

-- ---- the lines

-- the lines behind those of the session: none, or the archive line alone
abbrev IsBehind : Config → List Line → Type 0
IsBehind c [] = Unit {0}
IsBehind c (line ∷ []) = is_archive_line c line ≡ true
IsBehind c (line ∷ next ∷ lines) = ⊥

behind_by : (c : Config) (n k : ℕ) (line : Line) (b : Bool) → is_archive_line c line ≡ b → (let r : Result ℕ ℕ = cond b (Ok k) (Err line.number) in r) ≡ Ok n → (n ≡ k) × (is_archive_line c line ≡ true)
behind_by c n k line true is e = (cc, is)
behind_by c n k line false is e = cc

no_more : (n number other : ℕ) (b : Bool) → (let r : Result ℕ ℕ = cond b (Err number) (Err other) in r) ≡ Ok n → ⊥
no_more n number other true e = cc
no_more n number other false e = cc

behind_is : (c : Config) (n k : ℕ) (behind : List Line) → planned_behind c k behind ≡ Ok n → (n ≡ k) × IsBehind c behind
behind_is c n k [] e = (cc, tt)
behind_is c n k (line ∷ []) e = behind_by c n k line (is_archive_line c line) refl e
behind_is c n k (line ∷ next ∷ lines) e = absurd (no_more n next.number line.number (is_archive_line c line) e)

count_is : (c : Config) (lines : List Line) (n : ℕ) → lines_planned c lines ≡ Ok n → (n ≡ session_count lines) × IsBehind c (drop n lines)
count_is c lines n e =
    let parts = behind_is c n (session_count lines) (drop (session_count lines) lines) e in
    (parts.0, subst (λ (k : ℕ). IsBehind c (drop k lines)) (sym parts.0) parts.1)

-- where the first line stands that is not one of the session
abbrev first_other : List Line → ℕ
first_other lines = position_or_len (λ line. not (is_session_line line)) lines

-- each line in front of it is one of the session
below_by : (line : Line) (lines : List Line) → ((k : ℕ) (d : Line) → k < first_other lines → is_session_line (get_or lines k d) ≡ true)
    → (k : ℕ) (d : Line) (b : Bool) → is_session_line line ≡ b → k < cond (not (not b)) (1 + first_other lines) 0 → is_session_line (get_or (line ∷ lines) k d) ≡ true
below_by line lines rest zero d true is l = is
below_by line lines rest (suc k) d true is l = rest k d (omega (arith, l))
below_by line lines rest k d false is l = absurd (omega (arith, l))

below : (lines : List Line) (k : ℕ) (d : Line) → k < first_other lines → is_session_line (get_or lines k d) ≡ true
below [] k d l = absurd (omega (arith, l))
below (line ∷ lines) k d l = below_by line lines (below lines) k d (is_session_line line) refl l

in_front : (k at n : ℕ) (b : Bool) → nat_lt at n ≡ b → k < unwrap_or (let o : Option ℕ = cond b (Some at) None in o) n → (k < at) × (k < n)
in_front k at n true is l = (l, grind (arith, is, l))
in_front k at n false is l = (grind (arith, is, l), l)

pub sessions_are : (c : Config) (lines : List Line) (n : ℕ) → lines_planned c lines ≡ Ok n → All IsLine lines
    → (k : ℕ) (d : Line) → k < n → IsSessionLine (get_or lines k d)
sessions_are c lines n e forms k d l =
    let count : k < session_count lines = subst (λ (m : ℕ). k < m) (count_is c lines n e).0 l in
    let within = in_front k (first_other lines) (length lines) (nat_lt (first_other lines) (length lines)) refl count in
    session_line (get_or lines k d) (forms k d within.1) (below lines k d within.0)

behind_archive : (c : Config) (behind : List Line) → IsBehind c behind → IfSome (first_of behind) IsArchiveLine × IfSome (first_of behind) (IsNamed c)
behind_archive c [] is = (tt, tt)
behind_archive c (line ∷ []) is = archive_line c line is
behind_archive c (line ∷ next ∷ lines) is = absurd is

pub archive_is : (c : Config) (lines : List Line) (n : ℕ) → lines_planned c lines ≡ Ok n → IfSome (archive_line_in n lines) IsArchiveLine × IfSome (archive_line_in n lines) (IsNamed c)
archive_is c lines n e = behind_archive c (drop n lines) (count_is c lines n e).1

behind_whole : (c : Config) (behind : List Line) → IsBehind c behind → option_to_list (first_of behind) ≡ behind
behind_whole c [] is = refl
behind_whole c (line ∷ []) is = refl
behind_whole c (line ∷ next ∷ lines) is = absurd is

-- the lines of the session and the archive line are all lines
pub all_planned : (c : Config) (lines : List Line) (n : ℕ) → lines_planned c lines ≡ Ok n → take n lines ++ option_to_list (archive_line_in n lines) ≡ lines
all_planned c lines n e = ap (λ (l : List Line). take n lines ++ l) (behind_whole c (drop n lines) (count_is c lines n e).1) ∙ take-append-drop n lines

pub first_told : (o : Option (Bor Line)) (behind : List Line) → option_copied o ≡ slice_get behind 0 → line_in o ≡ first_of behind
first_told None [] is = refl
first_told None (line ∷ lines) is = cc
first_told (Some b) [] is = cc
first_told (Some b) (line ∷ lines) is = is
