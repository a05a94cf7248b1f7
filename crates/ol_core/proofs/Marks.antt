-- The marks of the spaces that a line names.
use Rattle.std.specs.List.{AllByRecursion, list_any, range_with_len}
use Rattle.std.specs.Option.{option_map}
use Rattle.std.specs.Prelude.{Bool, List, None, Option, Some, [], bytes_eq, false, filter, length, map, replicate, slice_set, suc, true, zero, ℕ, ◌+◌, ◌<◌, ◌==◌, ◌∷◌, ◌≡◌, ◌≤◌, ◌||◌, refl}
use Rattle.std.proofs.Common.{ap, arith, subst, sym, ◌∙◌}
use Rattle.std.proofs.Math.ListN.{length-set}
use Rattle.std.proofs.lemmas.Bool.{eqb-true}
use Rattle.std.proofs.lemmas.List.{get_or-set_other, get_or-set_same}
use Rattle.std.proofs.lemmas.List.Quantifiers.{position-Some}
use Rattle.std.proofs.lemmas.Slice.Eq.{bytes_eq-Decides}
use Rattle.ol_core.specs.Archivers.{cons_space, saved_of, spaces_named}
use Rattle.ol_values.specs.Config.{Config, SpaceConfig, is_name, space_at, space_named, unnamed}
use Rattle.ol_values.specs.Blocks.{Saved}
use Rattle.ol_chunks.specs.Limits.{IsConfig}
use Rattle.ol_chunks.proofs.Chunks.{space_is}
use Rattle.ol_core.specs.Filled.{is_marked, marked, no_marks, saved_in}
use Rattle.ol_core.proofs.Steps.{differs, unequal}

-- ---- names

-- what is no name is no space's
pub no_name : (c : Config) (label : List ℕ) → IsConfig c → ¬ (is_name label ≡ true) → space_named c label ≡ None
no_name c label limits bad = cases (space_named c label) refl
  where
    cases : (found : Option ℕ) → space_named c label ≡ found → found ≡ None
    cases None e = refl
    cases (Some s) e =
        let at = position-Some (λ (t : SpaceConfig). bytes_eq t.name label) c.spaces s unnamed e in
        let name = (space_at c s).name in
        let same : name ≡ label = (bytes_eq-Decides name label).0 at.1 in
        absurd (bad (ap is_name (sym same) ∙ (space_is 0 c.spaces s limits.spaces at.0).name))

pub named_there : (c : Config) (name : List ℕ) (s : ℕ) → space_named c name ≡ Some s → s < length c.spaces
named_there c name s is = (position-Some (λ (s : SpaceConfig). bytes_eq s.name name) c.spaces s unnamed is).0

-- ---- marks

-- one name more is a mark more
pub mark_more : (marks : List Bool) (s : ℕ) (found : Option ℕ) (rest : Option (List ℕ)) → found ≡ Some s → option_map (marked marks) (cons_space found rest) ≡ option_map (marked (slice_set marks s true)) rest
mark_more marks s found None is = rw is refl
mark_more marks s found (Some spaces) is = rw is refl

or_false : (b : Bool) → (b || false) ≡ b
or_false true = refl
or_false false = refl

-- a space is marked where it is one of those named, or was marked before
marked_is : (marks : List Bool) (spaces : List ℕ) (s : ℕ) → AllByRecursion (λ t. t < length marks) spaces → is_marked (marked marks spaces) s ≡ (list_any (λ t. t == s) spaces || is_marked marks s)
marked_is marks [] s there = refl
marked_is marks (t ∷ spaces) s there =
    marked_is (slice_set marks t true) spaces s (fits spaces there.1) ∙ cases (t == s) refl (list_any (λ t. t == s) spaces)
  where
    fits : (xs : List ℕ) → AllByRecursion (λ u. u < length marks) xs → AllByRecursion (λ u. u < length (slice_set marks t true)) xs
    fits [] h = tt
    fits (x ∷ xs) h = (omega (arith, h.0, length-set marks t true), fits xs h.1)

    cases : (b : Bool) → (t == s) ≡ b → (any : Bool) → (any || is_marked (slice_set marks t true) s) ≡ (((t == s) || any) || is_marked marks s)
    cases true e true = rw e refl
    cases true e false =
        rw e (ap (λ (x : ℕ). is_marked (slice_set marks t true) x) (sym (eqb-true t s e)) ∙ get_or-set_same marks t true false there.0)
    cases false e true = rw e refl
    cases false e false = rw e (get_or-set_other marks t s true false (λ is. unequal t s e (sym is)))

unmarked : (n s : ℕ) → is_marked (replicate n false) s ≡ false
unmarked zero s = refl
unmarked (suc n) zero = refl
unmarked (suc n) (suc s) = unmarked n s

-- ---- the spaces of an archive

-- numbers that pass lie among the first ones
filter_cut : (f g : ℕ → Bool) (a n m : ℕ) → ((s : ℕ) → f s ≡ g s) → ((s : ℕ) → a + n ≤ s → g s ≡ false) → n ≤ m → filter f (range_with_len a m) ≡ filter g (range_with_len a n)
filter_cut f g a zero zero same past le = refl
filter_cut f g a zero (suc m) same past le =
    let none : f a ≡ false = same a ∙ past a (omega arith) in
    rw none (filter_cut f g (a + 1) zero m same (λ s le. past s (omega arith)) (omega arith))
filter_cut f g a (suc n) zero same past le = absurd (omega arith)
filter_cut f g a (suc n) (suc m) same past le =
    rw (same a, filter_cut f g (a + 1) n m same (λ s le. past s (omega arith)) (omega arith)) refl

named_all : (c : Config) (names : List (List ℕ)) (spaces : List ℕ) → spaces_named c names ≡ Some spaces → AllByRecursion (λ t. t < length c.spaces) spaces
named_all c [] spaces is = let e : [] ≡ spaces = cc in subst (AllByRecursion (λ t. t < length c.spaces)) e tt
named_all c (name ∷ names) spaces is = cases (named_all c names) (space_named c name) (spaces_named c names) refl refl is
  where
    cases : ((others : List ℕ) → spaces_named c names ≡ Some others → AllByRecursion (λ t. t < length c.spaces) others) → (found : Option ℕ) (rest : Option (List ℕ)) → space_named c name ≡ found → spaces_named c names ≡ rest → cons_space found rest ≡ Some spaces → AllByRecursion (λ t. t < length c.spaces) spaces
    cases each None rest p q e = absurd (let f : ◌≡◌ {A = Option (List ℕ)} None (Some spaces) = e in cc)
    cases each (Some s) None p q e = absurd (let f : ◌≡◌ {A = Option (List ℕ)} None (Some spaces) = e in cc)
    cases each (Some s) (Some others) p q e =
        let f : s ∷ others ≡ spaces = cc in
        subst (AllByRecursion (λ t. t < length c.spaces)) f (named_there c name s p, each others q)

none_past : (spaces : List ℕ) (n s : ℕ) → AllByRecursion (λ t. t < n) spaces → n ≤ s → list_any (λ t. t == s) spaces ≡ false
none_past [] n s below le = refl
none_past (t ∷ spaces) n s below le = rw (differs t s (λ e. let f : t < n = below.0 in absurd (omega arith)), none_past spaces n s below.1 le) refl

widened : (spaces : List ℕ) (n m : ℕ) → n ≤ m → AllByRecursion (λ t. t < n) spaces → AllByRecursion (λ t. t < m) spaces
widened [] n m le below = tt
widened (t ∷ spaces) n m le below = (omega (arith, below.0), widened spaces n m le below.1)

-- the marked spaces are those named, as an archive has them
pub saved_are : (c : Config) (names : List (List ℕ)) (spaces : List ℕ) → IsConfig c → spaces_named c names ≡ Some spaces → saved_in (marked no_marks spaces) ≡ saved_of c spaces
saved_are c names spaces limits is =
    let named = named_all c names spaces is in
    let few : length c.spaces ≤ 16 = limits.few in
    let same : (s : ℕ) → is_marked (marked no_marks spaces) s ≡ list_any (λ t. t == s) spaces =
    λ s. marked_is no_marks spaces s (widened spaces (length c.spaces) 16 few named) ∙ ap (λ (b : Bool). list_any (λ t. t == s) spaces || b) (unmarked 16 s) ∙ or_false (list_any (λ t. t == s) spaces) in
    ap (map (λ s. let r : Saved = record { space = s; parent = 0; base = 0 } in r))
    (filter_cut (is_marked (marked no_marks spaces)) (λ s. list_any (λ t. t == s) spaces) 0 (length c.spaces) 16 same (λ s le. none_past spaces (length c.spaces) s named (omega arith)) few)
