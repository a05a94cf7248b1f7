-- Archives that count and hold a space, as the code finds them.
use Rattle.std.proofs.Common.{◌≡◌, ℕ, ◌+◌, ◌<◌, ◌≤◌, ◌++◌, ◌∙◌, Some, None, Option, List, [], ◌∷◌, ap, arith, get_or, length, map, refl, sym, take}
use Rattle.std.specs.List.{cons_option, enumerate_from}
use Rattle.std.specs.Prelude.{filter_map, find, option_map, ◌==◌}
use Rattle.std.proofs.lemmas.List.{append-nil, take_all, take_more}
use Rattle.std.proofs.lemmas.List.Elements.{filter_map-append}
use Rattle.std.proofs.lemmas.List.FromFn.{get_or-enumerate_from, length-enumerate_from}
use Rattle.ol_values.specs.Blocks.{ArchiveHead, Saved}
use Rattle.ol_values.specs.Config.{Config}
use Rattle.ol_rules.specs.Shelf.{saved_in}
use Rattle.ol_object.specs.Spaces.{saved_of}
use Rattle.ol_object_spans.specs.declared.object.Object.{Object}
use Rattle.ol_plan.specs.Archives.{saved_told}
use Rattle.ol_plan.proofs.Lists.{find_of_map}

parts_of : (o : Option (ℕ × ℕ × ℕ)) → option_map {T = ℕ × ℕ × ℕ} {U = ℕ × ℕ} (λ s. (s.1, s.2)) o ≡ option_map {T = Saved} {U = ℕ × ℕ} (λ s. (s.parent, s.base)) (option_map saved_of o)
parts_of None = refl
parts_of (Some s) = refl

pub saved_found : (space : ℕ) (spaces : List (ℕ × ℕ × ℕ)) (a : Option (ArchiveHead × Config)) (head : ArchiveHead) (config : Config) → a ≡ Some (head, config) → map saved_of spaces ≡ head.spaces
    → option_map {T = ℕ × ℕ × ℕ} {U = ℕ × ℕ} (λ s. (s.1, s.2)) (find (λ (s : ℕ × ℕ × ℕ). s.0 == space) spaces)
    ≡ option_map {T = Saved} {U = ℕ × ℕ} (λ s. (s.parent, s.base)) (saved_told space a)
saved_found space spaces a head config is same =
    parts_of (find (λ (s : ℕ × ℕ × ℕ). s.0 == space) spaces)
    ∙ ap (option_map {T = Saved} {U = ℕ × ℕ} (λ s. (s.parent, s.base))) (
    sym (find_of_map (λ (s : Saved). s.space == space) saved_of spaces)
    ∙ ap (saved_in space) same
    ∙ sym (ap (saved_told space) is)
    )

pub one_more : {Y : Type 0} (h : ℕ × Object → Option Y) (l : List Object) (i : ℕ) (o : Object) (ys : List Y) → i < length l → o ≡ get_or l i o
    → ys ≡ filter_map h (take i (enumerate_from 0 l)) → ys ++ cons_option (h (i, o)) [] ≡ filter_map h (take (i + 1) (enumerate_from 0 l))
one_more {Y} h l i o ys below at is =
    let d : ℕ × Object = (i, o) in
    let inside : i < length (enumerate_from 0 l) = omega (arith, length-enumerate_from 0 l) in
    let zero_ : 0 + i ≡ i = omega arith in
    let there : get_or (enumerate_from 0 l) i d ≡ d = get_or-enumerate_from 0 l i d below ∙ (λ k. (zero_ k, sym at k)) in
    ap (λ t. t ++ cons_option (h d) []) is
    ∙ ap (λ (e : ℕ × Object). filter_map h (take i (enumerate_from 0 l)) ++ cons_option (h e) []) (sym there)
    ∙ sym (filter_map-append h (take i (enumerate_from 0 l)) (get_or (enumerate_from 0 l) i d ∷ []))
    ∙ ap (filter_map h) (sym (take_more (enumerate_from 0 l) i d inside))

pub no_more : {Y : Type 0} (h : ℕ × Object → Option Y) (l : List Object) (i : ℕ) (o : Object) (ys : List Y) (none : Option Y) → none ≡ h (i, o) → none ≡ None → i < length l → o ≡ get_or l i o
    → ys ≡ filter_map h (take i (enumerate_from 0 l)) → ys ≡ filter_map h (take (i + 1) (enumerate_from 0 l))
no_more h l i o ys none was is below at so = sym (append-nil ys) ∙ ap (λ t. ys ++ cons_option t []) (sym is ∙ was) ∙ one_more h l i o ys below at so

pub one_added : {Y : Type 0} (h : ℕ × Object → Option Y) (l : List Object) (i : ℕ) (o : Object) (ys : List Y) (y : Y) → Some y ≡ h (i, o) → i < length l → o ≡ get_or l i o
    → ys ≡ filter_map h (take i (enumerate_from 0 l)) → ys ++ y ∷ [] ≡ filter_map h (take (i + 1) (enumerate_from 0 l))
one_added h l i o ys y is below at so = ap (λ t. ys ++ cons_option t []) is ∙ one_more h l i o ys below at so

pub all_of : {Y : Type 0} (h : ℕ × Object → Option Y) (l : List Object) (i : ℕ) (ys : List Y) → length l ≤ i → ys ≡ filter_map h (take i (enumerate_from 0 l)) → ys ≡ filter_map h (enumerate_from 0 l)
all_of h l i ys past is = is ∙ ap (filter_map h) (take_all i (enumerate_from 0 l) (omega (arith, length-enumerate_from 0 l)))
