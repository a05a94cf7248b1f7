-- What the least free slot of a space is.
use Rattle.std.specs.List.{list_any, range_with_len}
use Rattle.std.specs.Prelude.{Bool, List, None, Option, Some, [], cond, false, find, is_none, length, map, not, suc, true, zero, ℕ, ◌%◌, ◌&&◌, ◌*◌, ◌+◌, ◌/◌, ◌<◌, ◌==◌, ◌||◌, ◌∷◌, ◌≡◌, ◌≤◌}
use Rattle.std.proofs.Common.{ap, arith, inl, inr, refl, subst, sym, ◌∙◌}
use Rattle.std.proofs.lemmas.Bool.{and_parts, cases_Bool, or_parts}
use Rattle.ol_values.specs.declared.record.Rid.{Rid}
use Rattle.ol_values.specs.declared.row.Row.{Row}
use Rattle.ol_values.specs.Config.{data_pages, has_place}
use Rattle.ol_values.specs.Pages.{rid_of}
use Rattle.ol_model.specs.Machine.{Machine, all_sessions, config_of, first_free, holder, is_locked, owns, row_in, shares, slots_of}
use Rattle.ol_free_slots.proofs.Finding.{page_there, place_there}

-- what is found passes the test
found_passes : {X : Type 0} (test : X → Bool) (l : List X) (x : X) → find test l ≡ Some x → test x ≡ true
found_passes test [] x e = absurd (let c : None ≡ Some x = e in cc)
found_passes test (y ∷ l) x e =
    elim (cases_Bool (test y)) [
      | inl holds ↦ (let c : Some y ≡ Some x = sym (ap (λ b. cond b (Some y) (find test l)) holds) ∙ e in subst (λ z. test z ≡ true) (let same : y ≡ x = cc in same) holds)
      | inr fails ↦ found_passes test l x (sym (ap (λ b. cond b (Some y) (find test l)) fails) ∙ e)
    ]

-- what is found among places of a range is one of them
found_within : (test : Rid → Bool) (f : ℕ → Rid) (a n : ℕ) (x : Rid) (P : Rid → Type 0) → ((i : ℕ) → a ≤ i → i < a + n → P (f i)) → find test (map f (range_with_len a n)) ≡ Some x → P x
found_within test f a zero x P all e = absurd (let c : None ≡ Some x = e in cc)
found_within test f a (suc n) x P all e =
    let rest = find test (map f (range_with_len (a + 1) n)) in
    elim (cases_Bool (test (f a))) [
      | inl holds ↦ (let c : Some (f a) ≡ Some x = sym (ap (λ b. cond b (Some (f a)) rest) holds) ∙ e in subst P (let same : f a ≡ x = cc in same) (all a (omega arith) (omega arith)))
      | inr fails ↦ found_within test f (a + 1) n x P (λ i from to. all i (omega (arith, from)) (omega (arith, to))) (sym (ap (λ b. cond b (Some (f a)) rest) fails) ∙ e)
    ]

none_is : (o : Option Row) → is_none o ≡ true → o ≡ None
none_is None e = refl
none_is (Some row) e = absurd (let c : false ≡ true = e in cc)

not_set : (b : Bool) → not b ≡ true → b ≡ false
not_set false e = refl
not_set true e = absurd (let c : false ≡ true = e in cc)

found_free : (m : Machine) (space : ℕ) (rid : Rid) → first_free m space ≡ Some rid → (is_none (row_in m rid) ≡ true) × (not (is_locked m rid) ≡ true)
unfolding first_free
found_free m space rid e = and_parts (is_none (row_in m rid)) (not (is_locked m rid)) (found_passes (λ r. is_none (row_in m r) && not (is_locked m r)) (slots_of (config_of m) space) rid e)

pub first_place : (m : Machine) (space : ℕ) (rid : Rid) → space < length (config_of m).spaces → first_free m space ≡ Some rid → (has_place (config_of m) rid ≡ true) × (rid.space ≡ space)
unfolding first_free
first_place m space rid there e =
    found_within (λ r. is_none (row_in m r) && not (is_locked m r)) (λ i. rid_of space (i / 31) (i % 31)) 0 (data_pages (config_of m) space * 31) rid (λ (r : Rid). (has_place (config_of m) r ≡ true) × (r.space ≡ space))
    (λ i from to. (place_there (config_of m) space (i / 31) (i % 31) (page_there (config_of m) space (i / 31) there (omega (arith, to))) (omega arith), refl)) e

pub first_empty : (m : Machine) (space : ℕ) (rid : Rid) → first_free m space ≡ Some rid → row_in m rid ≡ None
first_empty m space rid e = none_is (row_in m rid) (found_free m space rid e).0

pub first_unlocked : (m : Machine) (space : ℕ) (rid : Rid) → first_free m space ≡ Some rid → is_locked m rid ≡ false
first_unlocked m space rid e = not_set (is_locked m rid) (found_free m space rid e).1

-- where none passes a test, none passes a sharper one
none_passes : (test sharper : ℕ → Bool) (l : List ℕ) → ((j : ℕ) → test j ≡ false → sharper j ≡ false) → list_any test l ≡ false → find sharper l ≡ None
none_passes test sharper [] less e = refl
none_passes test sharper (x ∷ l) less e =
    let parts = or_parts (test x) (list_any test l) e in
    ap (λ b. cond b (Some x) (find sharper l)) (less x parts.0) ∙ none_passes test sharper l less parts.1

no_way : (a own : Bool) → (a && (own && false)) ≡ false
no_way true true = refl
no_way true false = refl
no_way false own = refl

out_of_way : (a o s own : Bool) → (o || s) ≡ false → (a && (o || (own && s))) ≡ false
out_of_way a o s own e =
    let parts = or_parts o s e in
    ap (λ x. a && (x || (own && s))) parts.0 ∙ ap (λ x. a && (own && x)) parts.1 ∙ no_way a own

pub first_alone : (m : Machine) (space k : ℕ) (own : Bool) (rid : Rid) → first_free m space ≡ Some rid → holder m k own rid ≡ None
first_alone m space k own rid e =
    none_passes (λ j. owns m j rid || shares m j rid) (λ j. not (j == k) && (owns m j rid || (own && shares m j rid))) all_sessions
    (λ j free. out_of_way (not (j == k)) (owns m j rid) (shares m j rid) own free) (first_unlocked m space rid e)
