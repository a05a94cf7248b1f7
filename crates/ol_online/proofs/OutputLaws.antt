-- A text that is written line by line.
use Rattle.std.proofs.Common.{Bool, Err, Ok, OnErr, Result, List, Option, Some, [], ap, append_assoc, cond, drop, false, get_or, length, not, refl, slice_get, subst, sym, take, true, ℕ, ◌++◌, ◌+◌, ◌-◌, ◌<◌, ◌==◌, ◌∙◌, ◌∷◌, ◌≡◌}
use Rattle.std.proofs.lemmas.List.{drop_more, take-append-drop, take_rest}
use Rattle.std.proofs.Math.Seq.{take-append_seam}
use Rattle.std.specs.Io.KnownBytes.{Appends}
use Rattle.ol_values.specs.Config.{Config}
use Rattle.ol_values.specs.declared.history.Entry.{Entry}
use Rattle.ol_values.specs.Text.{IsInLineOrder, entry_text, is_followed, text}
use Rattle.ol_core.proofs.TextLaws.{is_followed-next}
use Rattle.ol_ports.proofs.Moves.{appends_both}

-- of this whole all but `left` was written
pub record IsWritten (old new : Option (List ℕ)) (left whole : List ℕ) : Type 0 where
  pub done : List ℕ
  pub appended : Appends old new done
  pub split : whole ≡ done ++ left

-- an entry that another of its line follows has no line in the text
pub written_skip : (c : Config) (old new : Option (List ℕ)) (e : Entry) (h : List Entry) (whole : List ℕ)
    → is_followed e h ≡ true → IsWritten old new (text c (e ∷ h)) whole → IsWritten old new (text c h) whole
written_skip c old new e h whole f w = record {
  done = w.done;
  appended = w.appended;
  split = w.split ∙ ap (λ b. w.done ++ cond b (text c h) (entry_text c e ++ text c h)) f;
}

split_line : (c : Config) (e : Entry) (h : List Entry) (done whole : List ℕ) → is_followed e h ≡ false
    → whole ≡ done ++ text c (e ∷ h) → whole ≡ done ++ (entry_text c e ++ text c h)
split_line c e h done whole f s = s ∙ ap (λ b. done ++ cond b (text c h) (entry_text c e ++ text c h)) f

pub written_more : (c : Config) (old middle new : Option (List ℕ)) (e : Entry) (h : List Entry) (whole : List ℕ)
    → is_followed e h ≡ false → IsWritten old middle (text c (e ∷ h)) whole → Appends middle new (entry_text c e) → IsWritten old new (text c h) whole
written_more c old middle new e h whole f w a = record {
  done = w.done ++ entry_text c e;
  appended = appends_both old middle new w.done (entry_text c e) (w.done ++ entry_text c e) refl w.appended a;
  split = split_line c e h w.done whole f w.split ∙ sym (append_assoc w.done (entry_text c e) (text c h));
}

-- a first part of an entry's line makes a first part of the whole
pub written_part : (c : Config) (old middle new : Option (List ℕ)) (e : Entry) (h : List Entry) (whole : List ℕ) (n : ℕ)
    → is_followed e h ≡ false → IsWritten old middle (text c (e ∷ h)) whole → Appends middle new (take n (entry_text c e))
    → (k : ℕ) × Appends old new (take k whole)
written_part c old middle new e h whole n f w a =
    let front : List ℕ = w.done ++ take n (entry_text c e) in
    let back : List ℕ = drop n (entry_text c e) ++ text c h in
    let line : entry_text c e ≡ take n (entry_text c e) ++ drop n (entry_text c e) = sym (take-append-drop n (entry_text c e)) in
    let cut : whole ≡ front ++ back =
    split_line c e h w.done whole f w.split
    ∙ ap (λ l. w.done ++ (l ++ text c h)) line
    ∙ simp append_assoc in
    let part : take (length front) whole ≡ front = ap (λ l. take (length front) l) cut ∙ take-append_seam front back in
    (length front, appends_both old middle new w.done (take n (entry_text c e)) (take (length front) whole) part w.appended a)

-- the entries behind the first are in line order too
later : (e : Entry) (h : List Entry) → IsInLineOrder (e ∷ h) → IsInLineOrder h
later e [] o = tt
later e (d ∷ h) o = o.1

pub in_line_order_at : (h : List Entry) (i : ℕ) (e : Entry) → i < length h → e ≡ get_or h i e → IsInLineOrder (drop i h) → IsInLineOrder (e ∷ drop (i + 1) h)
in_line_order_at h i e lt at o =
    let cut : drop i h ≡ e ∷ drop (i + 1) h = drop_more h i e lt ∙ ap (λ (d : Entry). d ∷ drop (i + 1) h) (sym at) in
    rw (← cut) o

pub in_line_order_after : (h : List Entry) (i : ℕ) (e : Entry) → IsInLineOrder (e ∷ drop (i + 1) h) → IsInLineOrder (drop (i + 1) h)
in_line_order_after h i e o = later e (drop (i + 1) h) o

-- ---- the test whether an entry is the last of its line

pub last_of_line : (e next : Entry) (behind : List Entry) → IsInLineOrder (e ∷ behind) → Some next ≡ slice_get behind 0
    → not (next.line == e.line) ≡ not (is_followed e behind)
last_of_line e next [] o at = cc
last_of_line e next (d ∷ h) o at =
    let same : next ≡ d = cc in
    ap (λ (n : Entry). not (n.line == e.line)) same ∙ ap not (sym (is_followed-next e d h o))

not_true : (b : Bool) → true ≡ not b → b ≡ false
not_true true e = cc
not_true false e = refl

not_false : (b : Bool) → false ≡ not b → b ≡ true
not_false true e = refl
not_false false e = cc

-- what the test's two answers say, where it reads the entries behind the one at i
pub ends_line_true : (h : List Entry) (i : ℕ) (e : Entry) (t : Bool) → t ≡ true → t ≡ not (is_followed e (take (length h - (i + 1)) (drop (i + 1) h)))
    → is_followed e (drop (i + 1) h) ≡ false
ends_line_true h i e t at is =
    not_true (is_followed e (drop (i + 1) h)) (sym at ∙ is ∙ ap (λ (l : List Entry). not (is_followed e l)) (take_rest h (i + 1)))

pub ends_line_false : (h : List Entry) (i : ℕ) (e : Entry) (t : Bool) → t ≡ false → t ≡ not (is_followed e (take (length h - (i + 1)) (drop (i + 1) h)))
    → is_followed e (drop (i + 1) h) ≡ true
ends_line_false h i e t at is =
    not_false (is_followed e (drop (i + 1) h)) (sym at ∙ is ∙ ap (λ (l : List Entry). not (is_followed e l)) (take_rest h (i + 1)))

-- what is left of the text as the loop comes to the entry at i
pub at_entry : (c : Config) (old new : Option (List ℕ)) (h : List Entry) (i : ℕ) (e : Entry) (whole : List ℕ) → i < length h → e ≡ get_or h i e
    → IsWritten old new (text c (drop i h)) whole → IsWritten old new (text c (e ∷ drop (i + 1) h)) whole
at_entry c old new h i e whole lt at w =
    let cut : drop i h ≡ e ∷ drop (i + 1) h = drop_more h i e lt ∙ ap (λ (d : Entry). d ∷ drop (i + 1) h) (sym at) in
    let P : List Entry → Type 0 = λ l. IsWritten old new (text c l) whole in
    subst P cut w

pub on_err : {T E P : Type 0} (r : Result T E) → P → OnErr r P
on_err (Ok x) p = tt
on_err (Err x) p = p
