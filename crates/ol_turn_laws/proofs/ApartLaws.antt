-- An archive starts with spaces that no running archive has.
use Rattle.std.specs.List.{find, list_any, range_with_len}
use Rattle.std.specs.Prelude.{All, Bool, List, None, Option, Some, [], false, filter, is_some, length, map, nat_lt, not, refl, true, unwrap_or, ℕ, ◌&&◌, ◌-◌, ◌<◌, ◌==◌, ◌∷◌, ◌≡◌}
use Rattle.std.proofs.Common.{inl, inr, subst, sym}
use Rattle.std.proofs.lemmas.Bool.{cases_Bool}
use Rattle.std.proofs.lemmas.Bool.Decides.{eqb_tells}
use Rattle.std.proofs.lemmas.List.{get_or-set_same}
use Rattle.std.proofs.lemmas.List.Elements.{All-cons, All-head, All-nil, All-tail}
use Rattle.ol_values.specs.declared.event.Reply.{Reply}
use Rattle.ol_values.specs.declared.event.Reply.TheVariants.{Archiving, NoParent, SpaceDown}
use Rattle.ol_values.specs.Blocks.{Saved}
use Rattle.ol_rules.specs.Lasting.{is_up}
use Rattle.ol_model.specs.ArchiveTurns.{first_space, kept_at, saved_of, spaces_named, start_at, start_with, started}
use Rattle.ol_model.specs.Machine.{Archive, Machine, archive_of, archiver_of, config_of}
use Rattle.ol_turn_laws.proofs.StepLaws.{unless_all}

pub none_found : (test : ℕ → Bool) (l : List ℕ) → is_some (find test l) ≡ false → All (λ s. test s ≡ false) l
none_found test [] h = All-nil (λ s. test s ≡ false)
none_found test (s ∷ l) h =
    elim (cases_Bool (test s)) [
      | inl e ↦ absurd (let never : true ≡ false = (rw (e) at h) in cc)
      | inr e ↦ All-cons (λ t. test t ≡ false) s l e (none_found test l (rw (e) at h))
    ]

is_none_of : (o : Option ℕ) → is_some o ≡ false → o ≡ None
is_none_of None h = refl
is_none_of (Some n) h = absurd (let never : true ≡ false = h in cc)

-- a space among these, none of which a running archive has
one_free : (m : Machine) (spaces : List ℕ) (s : ℕ) → All (λ t. is_some (archiver_of m t) ≡ false) spaces → list_any (λ t. t == s) spaces ≡ true → archiver_of m s ≡ None
one_free m [] s all h = absurd (let never : false ≡ true = h in cc)
one_free m (t ∷ spaces) s all h =
    elim (eqb_tells t s) [
      | inl e ↦ subst (λ (x : ℕ). archiver_of m x ≡ None) e.1 (is_none_of (archiver_of m t) (All-head (λ u. is_some (archiver_of m u) ≡ false) t spaces all))
      | inr e ↦ one_free m spaces s (All-tail (λ u. is_some (archiver_of m u) ≡ false) t spaces all) (rw (e.0) at h)
    ]

abbrev pub IsFree : Machine → Saved → Type 0
IsFree m v = archiver_of m v.space ≡ None

pub all_free : (m : Machine) (level : ℕ) (spaces l : List ℕ) → All (λ t. is_some (archiver_of m t) ≡ false) spaces
    → All (IsFree m) (map (λ s. let r : Saved = record { space = s; parent = (kept_at m level s).number; base = (kept_at m level s).cut } in r) (filter (λ s. list_any (λ t. t == s) spaces) l))
all_free m level spaces [] all = All-nil (IsFree m)
all_free m level spaces (s ∷ l) all =
    elim (cases_Bool (list_any (λ t. t == s) spaces)) [
      | inl e ↦ rw (e) (All-cons (IsFree m) _ _ (one_free m spaces s all e) (all_free m level spaces l all))
      | inr e ↦ rw (e) (all_free m level spaces l all)
    ]

-- the spaces of an archive, where there is one
abbrev spaces_of : Option Archive → List Saved
spaces_of None = []
spaces_of (Some a) = a.spaces

abbrev pub HasFree : Machine → ℕ → Machine → Type 0
HasFree m k n = All (IsFree m) (spaces_of (archive_of n k))

start_with_free : (m : Machine) (k level : ℕ) (spaces : Option (List ℕ)) → k - 1 < length m.archives → archive_of m k ≡ None → HasFree m k (start_with m k level spaces).1
start_with_free m k level None within none = subst (λ (o : Option Archive). All (IsFree m) (spaces_of o)) (sym none) (All-nil (IsFree m))
start_with_free m k level (Some spaces) within none =
    let up : Bool × Reply = first_space (λ s. not (is_up m.lasting s)) SpaceDown spaces in
    let held : Bool × Reply = first_space (λ s. is_some (archiver_of m s)) (λ s. Archiving (unwrap_or (archiver_of m s) 0)) spaces in
    let parent : Bool × Reply = first_space (λ s. nat_lt 0 level && ((kept_at m level s).number == 0)) (λ s. NoParent s (level - 1)) spaces in
    unless_all (HasFree m k) m (up ∷ held ∷ parent ∷ []) (started m k level (saved_of m level spaces))
    (subst (λ (o : Option Archive). All (IsFree m) (spaces_of o)) (sym none) (All-nil (IsFree m)))
    (λ all. subst (λ (o : Option Archive). All (IsFree m) (spaces_of o)) (sym (get_or-set_same m.archives (k - 1) _ None within))
    (all_free m level spaces (range_with_len 0 (length (config_of m).spaces))
    (none_found (λ s. is_some (archiver_of m s)) spaces (All-head (λ (r : Bool × Reply). r.0 ≡ false) held (parent ∷ []) (All-tail (λ (r : Bool × Reply). r.0 ≡ false) up (held ∷ parent ∷ []) all)))))

spaces_free : (m : Machine) (o : Option Archive) (b : Archive) → o ≡ Some b → All (IsFree m) (spaces_of o) → All (IsFree m) b.spaces
spaces_free m o b e all = subst (λ (x : Option Archive). All (IsFree m) (spaces_of x)) e all

pub start_free : (m : Machine) (k level : ℕ) (names : List (List ℕ)) (b : Archive) → k - 1 < length m.archives → archive_of m k ≡ None → archive_of (start_at m k level names None).1 k ≡ Some b
    → All (λ (v : Saved). archiver_of m v.space ≡ None) b.spaces
start_free m k level names b within none is =
    spaces_free m (archive_of (start_at m k level names None).1 k) b is (start_with_free m k level (spaces_named (config_of m) names) within none)
