-- A form that is read is spelled so, and a form that is spelled so is read.
use Rattle.std.specs.Prelude.{List, Option, Some, [], bytes_eq, codes, decimal, option_map, refl, true, ℕ, ◌∷◌, ◌≡◌}
use Rattle.std.proofs.Common.{ap, arith, inl, inr, subst, sym, ◌∙◌}
use Rattle.std.proofs.lemmas.Option.{same_Some}
use Rattle.std.proofs.lemmas.Slice.Eq.{bytes_eq-Decides}
use Rattle.ol_values.specs.declared.history.Actor.{Actor}
use Rattle.ol_values.specs.declared.history.Actor.TheVariants.{Archiver, Backer, Checkpointer, Flusher, Session, Warmer}
use Rattle.ol_values.specs.declared.line.Form.{Form}
use Rattle.ol_values.specs.declared.line.Form.TheVariants.{Archive, Backup, Begin, Cancel, Checkpoint, Clean, Commit, Delete, End, Insert, List as ListForm, Read, Restore, Rollback, Start, Switch, Turn, Update}
use Rattle.ol_script.proofs.NameLaws.{first_is}
use Rattle.ol_script.proofs.NumberLaws.{number_again, number_takes}
use Rattle.ol_script.proofs.Steps.{bind_some, chosen, map_some}
use Rattle.ol_script.proofs.WordLaws.{name_again, name_takes, names_again, names_takes, register_again, register_takes, row_again, row_takes, target_again, target_takes, two_is}
use Rattle.ol_script.specs.Forms.{archiver_form, backer_form, bare, checkpointer_form, count_of, delete_of, flusher_form, form_of, insert_of, level_and_spaces, list_of, read_of, restore_of, session_form, update_of, warmer_form}
use Rattle.ol_script.specs.Pieces.{first_piece, one_of, three_of, two_of}
use Rattle.ol_script.specs.Spelling.{IsArchive, IsArchiverForm, IsBackerForm, IsCheckpointerForm, IsCount, IsFlusherForm, IsFormOf, IsSessionForm, IsWarmerForm, register_text, target_text, verb_text, words_text}
use Rattle.ol_script.specs.Words.{name_of, names_in_words, number_between, place_number, register_of, row_of, target_in_text}

one_is : (pieces : List (List ℕ)) (w : List ℕ) → one_of pieces ≡ Some w → pieces ≡ w ∷ []
one_is [] w e = absurd cc
one_is (a ∷ []) w e = ap (λ (x : List ℕ). x ∷ []) (same_Some a w e)
one_is (a ∷ b ∷ pieces) w e = absurd cc

three_is : (pieces : List (List ℕ)) (w : List ℕ × List ℕ × List ℕ) → three_of pieces ≡ Some w → pieces ≡ w.0 ∷ w.1 ∷ w.2 ∷ []
three_is [] w e = absurd cc
three_is (a ∷ []) w e = absurd cc
three_is (a ∷ b ∷ []) w e = absurd cc
three_is (a ∷ b ∷ c ∷ []) w e = let is : (a, b, c) ≡ w = same_Some (a, b, c) w e in ap (λ (p : List ℕ × List ℕ × List ℕ). p.0 ∷ p.1 ∷ p.2 ∷ []) is
three_is (a ∷ b ∷ c ∷ d ∷ pieces) w e = absurd cc

-- a form that a verb and these words spell
record Spells (Is : Form → Type 0) (verb : List ℕ) (words : List (List ℕ)) (form : Form) : Type 0 where
  leads : verb ≡ verb_text form
  follow : words ≡ words_text form
  is : Is form

-- a form that words spell behind its verb
record Follows (Is : Form → Type 0) (word : List ℕ) (words : List (List ℕ)) (form : Form) : Type 0 where
  leads : verb_text form ≡ word
  follow : words ≡ words_text form
  is : Is form

spells : (Is : Form → Type 0) (verb word : List ℕ) (words : List (List ℕ)) (form : Form) → bytes_eq verb word ≡ true → Follows Is word words form → Spells Is verb words form
spells Is verb word words form e f = record { leads = (bytes_eq-Decides verb word).0 e ∙ sym f.leads; follow = f.follow; is = f.is }

bare_takes : (Is : Form → Type 0) (word : List ℕ) (words : List (List ℕ)) (asked form : Form) → verb_text asked ≡ word → words_text asked ≡ [] → Is asked → bare asked words ≡ Some form → Follows Is word words form
bare_takes Is word [] asked form leads none is e =
    let made : Follows Is word [] asked = record { leads = leads; follow = sym none; is = is } in
    subst (λ (f : Form). Follows Is word [] f) (same_Some asked form e) made
bare_takes Is word (w ∷ words) asked form leads none is e = absurd cc

-- ---- sessions

insert_takes : (words : List (List ℕ)) (form : Form) → insert_of words ≡ Some form → Follows IsSessionForm (codes "insert") words form
unfolding insert_of
insert_takes words form e =
    let w = bind_some (three_of words) _ form e in
    let g = bind_some (register_of w.0.0) _ form w.2 in
    let s = bind_some (name_of w.0.1) _ form g.2 in
    let o = bind_some (row_of w.0.2) _ form s.2 in
    let reg = register_takes w.0.0 g.0 g.1 in
    let space = name_takes w.0.1 s.0 s.1 in
    let row = row_takes w.0.2 o.0 o.1 in
    let made : Follows IsSessionForm (codes "insert") words (Insert g.0 s.0 o.0) = record {
      leads = refl;
      follow =
          three_is words w.0 w.1 ∙ ap (λ (x : List ℕ). x ∷ w.0.1 ∷ w.0.2 ∷ []) reg.0
          ∙ ap (λ (x : List ℕ). register_text g.0 ∷ x ∷ w.0.2 ∷ []) space.0 ∙ ap (λ (x : List ℕ). register_text g.0 ∷ s.0 ∷ x ∷ []) row.0;
      is = (reg.1, space.1, row.1);
    } in
    subst (λ (f : Form). Follows IsSessionForm (codes "insert") words f) (same_Some (Insert g.0 s.0 o.0) form o.2) made

update_takes : (words : List (List ℕ)) (form : Form) → update_of words ≡ Some form → Follows IsSessionForm (codes "update") words form
unfolding update_of
update_takes words form e =
    let w = bind_some (two_of words) _ form e in
    let t = bind_some (target_in_text w.0.0) _ form w.2 in
    let o = bind_some (row_of w.0.1) _ form t.2 in
    let target = target_takes w.0.0 t.0 t.1 in
    let row = row_takes w.0.1 o.0 o.1 in
    let made : Follows IsSessionForm (codes "update") words (Update t.0 o.0) = record {
      leads = refl;
      follow = two_is words w.0 w.1 ∙ ap (λ (x : List ℕ). x ∷ w.0.1 ∷ []) target.0 ∙ ap (λ (x : List ℕ). target_text t.0 ∷ x ∷ []) row.0;
      is = (target.1, row.1);
    } in
    subst (λ (f : Form). Follows IsSessionForm (codes "update") words f) (same_Some (Update t.0 o.0) form o.2) made

delete_takes : (words : List (List ℕ)) (form : Form) → delete_of words ≡ Some form → Follows IsSessionForm (codes "delete") words form
unfolding delete_of
delete_takes words form e =
    let w = bind_some (one_of words) _ form e in
    let t = bind_some (target_in_text w.0) _ form w.2 in
    let target = target_takes w.0 t.0 t.1 in
    let made : Follows IsSessionForm (codes "delete") words (Delete t.0) =
    record { leads = refl; follow = one_is words w.0 w.1 ∙ ap (λ (x : List ℕ). x ∷ []) target.0; is = target.1 } in
    subst (λ (f : Form). Follows IsSessionForm (codes "delete") words f) (same_Some (Delete t.0) form t.2) made

read_takes : (words : List (List ℕ)) (form : Form) → read_of words ≡ Some form → Follows IsSessionForm (codes "read") words form
unfolding read_of
read_takes words form e =
    let w = bind_some (one_of words) _ form e in
    let t = bind_some (target_in_text w.0) _ form w.2 in
    let target = target_takes w.0 t.0 t.1 in
    let made : Follows IsSessionForm (codes "read") words (Read t.0) =
    record { leads = refl; follow = one_is words w.0 w.1 ∙ ap (λ (x : List ℕ). x ∷ []) target.0; is = target.1 } in
    subst (λ (f : Form). Follows IsSessionForm (codes "read") words f) (same_Some (Read t.0) form t.2) made

list_takes : (words : List (List ℕ)) (form : Form) → list_of words ≡ Some form → Follows IsSessionForm (codes "list") words form
unfolding list_of
list_takes words form e =
    let w = bind_some (two_of words) _ form e in
    let s = bind_some (name_of w.0.0) _ form w.2 in
    let p = bind_some (place_number w.0.1) _ form s.2 in
    let space = name_takes w.0.0 s.0 s.1 in
    let page = number_takes 0 99999 w.0.1 p.0 (omega arith) p.1 in
    let made : Follows IsSessionForm (codes "list") words (ListForm s.0 p.0) = record {
      leads = refl;
      follow = two_is words w.0 w.1 ∙ ap (λ (x : List ℕ). x ∷ w.0.1 ∷ []) space.0 ∙ ap (λ (x : List ℕ). s.0 ∷ x ∷ []) page.0;
      is = (space.1, page.2);
    } in
    subst (λ (f : Form). Follows IsSessionForm (codes "list") words f) (same_Some (ListForm s.0 p.0) form p.2) made

session_takes : (verb : List ℕ) (words : List (List ℕ)) (form : Form) → session_form verb words ≡ Some form → Spells IsSessionForm verb words form
unfolding session_form
session_takes verb words form e =
    elim (chosen (bytes_eq verb (codes "begin")) _ _ (Some form) e) [
      | inl g ↦ spells _ verb (codes "begin") words form g.0 (bare_takes _ (codes "begin") words Begin form refl refl tt g.1)
      | inr g ↦ elim (chosen (bytes_eq verb (codes "insert")) _ _ (Some form) g.1) [
        | inl h ↦ spells _ verb (codes "insert") words form h.0 (insert_takes words form h.1)
        | inr h ↦ elim (chosen (bytes_eq verb (codes "update")) _ _ (Some form) h.1) [
          | inl i ↦ spells _ verb (codes "update") words form i.0 (update_takes words form i.1)
          | inr i ↦ elim (chosen (bytes_eq verb (codes "delete")) _ _ (Some form) i.1) [
            | inl j ↦ spells _ verb (codes "delete") words form j.0 (delete_takes words form j.1)
            | inr j ↦ elim (chosen (bytes_eq verb (codes "read")) _ _ (Some form) j.1) [
              | inl k ↦ spells _ verb (codes "read") words form k.0 (read_takes words form k.1)
              | inr k ↦ elim (chosen (bytes_eq verb (codes "list")) _ _ (Some form) k.1) [
                | inl l ↦ spells _ verb (codes "list") words form l.0 (list_takes words form l.1)
                | inr l ↦ elim (chosen (bytes_eq verb (codes "commit")) _ _ (Some form) l.1) [
                  | inl m ↦ spells _ verb (codes "commit") words form m.0 (bare_takes _ (codes "commit") words Commit form refl refl tt m.1)
                  | inr m ↦ elim (chosen (bytes_eq verb (codes "rollback")) _ _ (Some form) m.1) [
                    | inl n ↦ spells _ verb (codes "rollback") words form n.0 (bare_takes _ (codes "rollback") words Rollback form refl refl tt n.1)
                    | inr n ↦ absurd (let x = n.1 in cc)
                  ]
                ]
              ]
            ]
          ]
        ]
      ]
    ]

session_again : (form : Form) → IsSessionForm form → session_form (verb_text form) (words_text form) ≡ Some form
unfolding session_form insert_of update_of delete_of read_of list_of
session_again Begin is = refl
session_again (Insert reg space row) is = rw (register_again reg is.0, name_again space is.1, row_again row is.2) refl
session_again (Update target row) is = rw (target_again target is.0, row_again row is.1) refl
session_again (Delete target) is = rw (target_again target is) refl
session_again (Read target) is = rw (target_again target is) refl
session_again (ListForm space page) is = rw (name_again space is.0, number_again 0 99999 page (omega arith) (omega arith) is.1) refl
session_again Commit is = refl
session_again Rollback is = refl
session_again _ is = absurd is

-- ---- archives and counts

archive_takes : (words : List (List ℕ)) (p : ℕ × List (List ℕ)) → level_and_spaces words ≡ Some p → (words ≡ decimal p.0 ∷ p.1) × IsArchive p.0 p.1
unfolding level_and_spaces
archive_takes words p e =
    let w = bind_some (first_piece words) _ p e in
    let l = bind_some (number_between 0 2 w.0.0) _ p w.2 in
    let s = bind_some (names_in_words w.0.1) _ p l.2 in
    let level = number_takes 0 2 w.0.0 l.0 (omega arith) l.1 in
    let spaces = names_takes w.0.1 s.0 s.1 in
    let made : (words ≡ decimal l.0 ∷ s.0) × IsArchive l.0 s.0 =
    (first_is words w.0.0 w.0.1 w.1 ∙ ap (λ (x : List ℕ). x ∷ w.0.1) level.0 ∙ ap (λ (x : List (List ℕ)). decimal l.0 ∷ x) spaces.0, (level.2, spaces.1)) in
    subst (λ (x : ℕ × List (List ℕ)). (words ≡ decimal x.0 ∷ x.1) × IsArchive x.0 x.1) (same_Some (l.0, s.0) p s.2) made

archive_again : (level : ℕ) (spaces : List (List ℕ)) → IsArchive level spaces → level_and_spaces (decimal level ∷ spaces) ≡ Some (level, spaces)
unfolding level_and_spaces
archive_again level spaces is = rw (number_again 0 2 level (omega arith) (omega arith) is.0, names_again spaces is.1) refl

count_takes : (words : List (List ℕ)) (n : ℕ) → count_of words ≡ Some n → (words ≡ decimal n ∷ []) × IsCount n
unfolding count_of
count_takes words n e =
    let w = bind_some (one_of words) _ n e in
    let c = number_takes 1 65535 w.0 n (omega arith) w.2 in
    (one_is words w.0 w.1 ∙ ap (λ (x : List ℕ). x ∷ []) c.0, (c.1, c.2))

count_again : (n : ℕ) → IsCount n → count_of (decimal n ∷ []) ≡ Some n
unfolding count_of
count_again n is = number_again 1 65535 n (omega arith) is.0 is.1

archived : (Is : Form → Type 0) (make : ℕ × List (List ℕ) → Form) (word : List ℕ) (words : List (List ℕ)) (form : Form)
    → ((p : ℕ × List (List ℕ)) → IsArchive p.0 p.1 → Follows Is word (decimal p.0 ∷ p.1) (make p)) → option_map make (level_and_spaces words) ≡ Some form → Follows Is word words form
archived Is make word words form made e =
    let m = map_some (level_and_spaces words) make form e in
    let a = archive_takes words m.0 m.1 in
    subst (λ (f : Form). Follows Is word words f) m.2 (subst (λ (w : List (List ℕ)). Follows Is word w (make m.0)) (sym a.0) (made m.0 a.1))

counted : (Is : Form → Type 0) (make : ℕ → Form) (word : List ℕ) (words : List (List ℕ)) (form : Form)
    → ((n : ℕ) → IsCount n → Follows Is word (decimal n ∷ []) (make n)) → option_map make (count_of words) ≡ Some form → Follows Is word words form
counted Is make word words form made e =
    let m = map_some (count_of words) make form e in
    let a = count_takes words m.0 m.1 in
    subst (λ (f : Form). Follows Is word words f) m.2 (subst (λ (w : List (List ℕ)). Follows Is word w (make m.0)) (sym a.0) (made m.0 a.1))

archiver_takes : (verb : List ℕ) (words : List (List ℕ)) (form : Form) → archiver_form verb words ≡ Some form → Spells IsArchiverForm verb words form
unfolding archiver_form
archiver_takes verb words form e =
    elim (chosen (bytes_eq verb (codes "start")) _ _ (Some form) e) [
      | inl g ↦ spells _ verb (codes "start") words form g.0 (archived _ (λ p. Start p.0 p.1) (codes "start") words form (λ p is. record { leads = refl; follow = refl; is = is }) g.1)
      | inr g ↦ elim (chosen (bytes_eq verb (codes "turn")) _ _ (Some form) g.1) [
        | inl h ↦ spells _ verb (codes "turn") words form h.0 (counted _ (λ n. Turn n) (codes "turn") words form (λ n is. record { leads = refl; follow = refl; is = is }) h.1)
        | inr h ↦ elim (chosen (bytes_eq verb (codes "end")) _ _ (Some form) h.1) [
          | inl i ↦ spells _ verb (codes "end") words form i.0 (bare_takes _ (codes "end") words End form refl refl tt i.1)
          | inr i ↦ elim (chosen (bytes_eq verb (codes "cancel")) _ _ (Some form) i.1) [
            | inl j ↦ spells _ verb (codes "cancel") words form j.0 (bare_takes _ (codes "cancel") words Cancel form refl refl tt j.1)
            | inr j ↦ elim (chosen (bytes_eq verb (codes "archive")) _ _ (Some form) j.1) [
              | inl k ↦ spells _ verb (codes "archive") words form k.0 (archived _ (λ p. Archive p.0 p.1) (codes "archive") words form (λ p is. record { leads = refl; follow = refl; is = is }) k.1)
              | inr k ↦ absurd (let x = k.1 in cc)
            ]
          ]
        ]
      ]
    ]

archiver_again : (form : Form) → IsArchiverForm form → archiver_form (verb_text form) (words_text form) ≡ Some form
unfolding archiver_form
archiver_again (Start level spaces) is = ap (λ (o : Option (ℕ × List (List ℕ))). option_map (λ (p : ℕ × List (List ℕ)). Start p.0 p.1) o) (archive_again level spaces is)
archiver_again (Turn count) is = ap (λ (o : Option ℕ). option_map (λ n. Turn n) o) (count_again count is)
archiver_again End is = refl
archiver_again Cancel is = refl
archiver_again (Archive level spaces) is = ap (λ (o : Option (ℕ × List (List ℕ))). option_map (λ (p : ℕ × List (List ℕ)). Archive p.0 p.1) o) (archive_again level spaces is)
archiver_again _ is = absurd is

-- ---- the actors that there is one of

backer_takes : (verb : List ℕ) (words : List (List ℕ)) (form : Form) → backer_form verb words ≡ Some form → Spells IsBackerForm verb words form
unfolding backer_form
backer_takes verb words form e =
    elim (chosen (bytes_eq verb (codes "backup")) _ _ (Some form) e) [
      | inl g ↦ spells _ verb (codes "backup") words form g.0 (counted _ (λ n. Backup n) (codes "backup") words form (λ n is. record { leads = refl; follow = refl; is = is }) g.1)
      | inr g ↦ elim (chosen (bytes_eq verb (codes "switch")) _ _ (Some form) g.1) [
        | inl h ↦ spells _ verb (codes "switch") words form h.0 (bare_takes _ (codes "switch") words Switch form refl refl tt h.1)
        | inr h ↦ absurd (let x = h.1 in cc)
      ]
    ]

flusher_takes : (verb : List ℕ) (words : List (List ℕ)) (form : Form) → flusher_form verb words ≡ Some form → Spells IsFlusherForm verb words form
unfolding flusher_form
flusher_takes verb words form e =
    elim (chosen (bytes_eq verb (codes "clean")) _ _ (Some form) e) [
      | inl g ↦ spells _ verb (codes "clean") words form g.0 (counted _ (λ n. Clean n) (codes "clean") words form (λ n is. record { leads = refl; follow = refl; is = is }) g.1)
      | inr g ↦ absurd (let x = g.1 in cc)
    ]

checkpointer_takes : (verb : List ℕ) (words : List (List ℕ)) (form : Form) → checkpointer_form verb words ≡ Some form → Spells IsCheckpointerForm verb words form
unfolding checkpointer_form
checkpointer_takes verb words form e =
    elim (chosen (bytes_eq verb (codes "checkpoint")) _ _ (Some form) e) [
      | inl g ↦ spells _ verb (codes "checkpoint") words form g.0 (bare_takes _ (codes "checkpoint") words Checkpoint form refl refl tt g.1)
      | inr g ↦ absurd (let x = g.1 in cc)
    ]

restore_takes : (words : List (List ℕ)) (form : Form) → restore_of words ≡ Some form → Follows IsWarmerForm (codes "restore") words form
unfolding restore_of
restore_takes words form e =
    let w = bind_some (one_of words) _ form e in
    let s = bind_some (name_of w.0) _ form w.2 in
    let space = name_takes w.0 s.0 s.1 in
    let made : Follows IsWarmerForm (codes "restore") words (Restore s.0) =
    record { leads = refl; follow = one_is words w.0 w.1 ∙ ap (λ (x : List ℕ). x ∷ []) space.0; is = space.1 } in
    subst (λ (f : Form). Follows IsWarmerForm (codes "restore") words f) (same_Some (Restore s.0) form s.2) made

warmer_takes : (verb : List ℕ) (words : List (List ℕ)) (form : Form) → warmer_form verb words ≡ Some form → Spells IsWarmerForm verb words form
unfolding warmer_form
warmer_takes verb words form e =
    elim (chosen (bytes_eq verb (codes "restore")) _ _ (Some form) e) [
      | inl g ↦ spells _ verb (codes "restore") words form g.0 (restore_takes words form g.1)
      | inr g ↦ absurd (let x = g.1 in cc)
    ]

backer_again : (form : Form) → IsBackerForm form → backer_form (verb_text form) (words_text form) ≡ Some form
unfolding backer_form
backer_again (Backup count) is = ap (λ (o : Option ℕ). option_map (λ n. Backup n) o) (count_again count is)
backer_again Switch is = refl
backer_again _ is = absurd is

flusher_again : (form : Form) → IsFlusherForm form → flusher_form (verb_text form) (words_text form) ≡ Some form
unfolding flusher_form
flusher_again (Clean count) is = ap (λ (o : Option ℕ). option_map (λ n. Clean n) o) (count_again count is)
flusher_again _ is = absurd is

checkpointer_again : (form : Form) → IsCheckpointerForm form → checkpointer_form (verb_text form) (words_text form) ≡ Some form
unfolding checkpointer_form
checkpointer_again Checkpoint is = refl
checkpointer_again _ is = absurd is

warmer_again : (form : Form) → IsWarmerForm form → warmer_form (verb_text form) (words_text form) ≡ Some form
unfolding warmer_form restore_of
warmer_again (Restore space) is = rw (name_again space is) refl
warmer_again _ is = absurd is

-- ---- all actors

-- a form that an actor's verb and words spell
pub record IsSpelled (a : Actor) (verb : List ℕ) (words : List (List ℕ)) (form : Form) : Type 0 where
  pub leads : verb ≡ verb_text form
  pub follow : words ≡ words_text form
  pub is : IsFormOf a form

pub form_takes : (a : Actor) (verb : List ℕ) (words : List (List ℕ)) (form : Form) → form_of a verb words ≡ Some form → IsSpelled a verb words form
unfolding form_of
form_takes (Session k) verb words form e = let s = session_takes verb words form e in record { leads = s.leads; follow = s.follow; is = s.is }
form_takes (Archiver k) verb words form e = let s = archiver_takes verb words form e in record { leads = s.leads; follow = s.follow; is = s.is }
form_takes Backer verb words form e = let s = backer_takes verb words form e in record { leads = s.leads; follow = s.follow; is = s.is }
form_takes Flusher verb words form e = let s = flusher_takes verb words form e in record { leads = s.leads; follow = s.follow; is = s.is }
form_takes Checkpointer verb words form e = let s = checkpointer_takes verb words form e in record { leads = s.leads; follow = s.follow; is = s.is }
form_takes Warmer verb words form e = let s = warmer_takes verb words form e in record { leads = s.leads; follow = s.follow; is = s.is }

pub form_again : (a : Actor) (form : Form) → IsFormOf a form → form_of a (verb_text form) (words_text form) ≡ Some form
unfolding form_of
form_again (Session k) form is = session_again form is
form_again (Archiver k) form is = archiver_again form is
form_again Backer form is = backer_again form is
form_again Flusher form is = flusher_again form is
form_again Checkpointer form is = checkpointer_again form is
form_again Warmer form is = warmer_again form is
