-- Laws of lists: filters, folds and finds of a mapped list, and a list with its indexes.
use Rattle.std.proofs.Common.{◌≡◌, ℕ, ◌+◌, ◌∙◌, Bool, Some, None, Option, List, [], ◌∷◌, ap, cond, filter, fold, length, map, refl, suc, sym, true, false, zero}
use Rattle.std.specs.List.{cons_option, enumerate_from}
use Rattle.std.specs.Prelude.{filter_map, find, if◌then◌else◌, option_map, slice_get, ◌&&◌}

pub filter_of_map : {X Y : Type 0} (p : Y → Bool) (f : X → Y) (xs : List X) → filter p (map f xs) ≡ map f (filter (λ x. p (f x)) xs)
filter_of_map p f [] = refl
filter_of_map p f (x ∷ xs) =
    elim (p (f x)) as (λ b. cond b (f x ∷ filter p (map f xs)) (filter p (map f xs)) ≡ map f (cond b (x ∷ filter (λ y. p (f y)) xs) (filter (λ y. p (f y)) xs))) [
      | true ↦ ap (λ t. f x ∷ t) (filter_of_map p f xs)
      | false ↦ filter_of_map p f xs
    ]

pub filter_twice : {X : Type 0} (p q : X → Bool) (xs : List X) → filter p (filter q xs) ≡ filter (λ x. q x && p x) xs
filter_twice p q [] = refl
filter_twice p q (x ∷ xs) =
    elim (q x) as (λ b. filter p (cond b (x ∷ filter q xs) (filter q xs)) ≡ cond (b && p x) (x ∷ filter (λ y. q y && p y) xs) (filter (λ y. q y && p y) xs)) [
      | true ↦ ap (λ t. cond (p x) (x ∷ t) t) (filter_twice p q xs)
      | false ↦ filter_twice p q xs
    ]

pub map_twice : {X Y Z : Type 0} (g : Y → Z) (f : X → Y) (xs : List X) → map g (map f xs) ≡ map (λ x. g (f x)) xs
map_twice g f [] = refl
map_twice g f (x ∷ xs) = ap (λ t. g (f x) ∷ t) (map_twice g f xs)

pub find_of_map : {X Y : Type 0} (p : Y → Bool) (f : X → Y) (xs : List X) → find p (map f xs) ≡ option_map f (find (λ x. p (f x)) xs)
find_of_map p f [] = refl
find_of_map p f (x ∷ xs) =
    elim (p (f x)) as (λ b. cond b (Some (f x)) (find p (map f xs)) ≡ option_map f (cond b (Some x) (find (λ y. p (f y)) xs))) [
      | true ↦ refl
      | false ↦ find_of_map p f xs
    ]

pub find_of_filter : {X : Type 0} (p q : X → Bool) (xs : List X) → find p (filter q xs) ≡ find (λ x. q x && p x) xs
find_of_filter p q [] = refl
find_of_filter p q (x ∷ xs) =
    elim (q x) as (λ b. find p (cond b (x ∷ filter q xs) (filter q xs)) ≡ cond (b && p x) (Some x) (find (λ y. q y && p y) xs)) [
      | true ↦ ap (λ t. cond (p x) (Some x) t) (find_of_filter p q xs)
      | false ↦ find_of_filter p q xs
    ]

-- what a fold's steps keep up with
pub fold_hom : {A B X : Type 0} (g : A → B) (f : A → X → A) (h : B → X → B) → ((a : A) (x : X) → g (f a x) ≡ h (g a) x) → (a : A) (xs : List X)
    → g (fold f a xs) ≡ fold h (g a) xs
fold_hom g f h same a [] = refl
fold_hom g f h same a (x ∷ xs) = fold_hom g f h same (f a x) xs ∙ ap (λ b. fold h b xs) (same a x)

-- a fold over what passes a test
pub fold_of_filter : {A X : Type 0} (f : A → X → A) (p : X → Bool) (a : A) (xs : List X) → fold f a (filter p xs) ≡ fold (λ a x. if p x then f a x else a) a xs
fold_of_filter f p a [] = refl
fold_of_filter f p a (x ∷ xs) =
    elim (p x) as (λ b. fold f a (cond b (x ∷ filter p xs) (filter p xs)) ≡ fold (λ a x. if p x then f a x else a) (if b then f a x else a) xs) [
      | true ↦ fold_of_filter f p (f a x) xs
      | false ↦ fold_of_filter f p a xs
    ]

-- folds of which the steps agree
pub fold_same : {A X : Type 0} (f g : A → X → A) → ((a : A) (x : X) → f a x ≡ g a x) → (a : A) (xs : List X) → fold f a xs ≡ fold g a xs
fold_same f g same a [] = refl
fold_same f g same a (x ∷ xs) = ap (λ b. fold f b xs) (same a x) ∙ fold_same f g same (g a x) xs

-- ---- with indexes

pub enumerate_of_map : {X Y : Type 0} (f : X → Y) (n : ℕ) (xs : List X) → enumerate_from n (map f xs) ≡ map (λ (p : ℕ × X). let q : ℕ × Y = (p.0, f p.1) in q) (enumerate_from n xs)
enumerate_of_map f n [] = refl
enumerate_of_map {X} {Y} f n (x ∷ xs) = ap (λ t. (let q : ℕ × Y = (n, f x) in q) ∷ t) (enumerate_of_map f (n + 1) xs)

pub values_of_enumerate : {X : Type 0} (n : ℕ) (xs : List X) → map (λ (p : ℕ × X). p.1) (enumerate_from n xs) ≡ xs
values_of_enumerate n [] = refl
values_of_enumerate n (x ∷ xs) = ap (λ t. x ∷ t) (values_of_enumerate (n + 1) xs)

-- a filter of the values is a filter of the pairs
pub filter_values : {X : Type 0} (p : X → Bool) (xs : List X) → filter p xs ≡ map (λ (q : ℕ × X). q.1) (filter (λ (q : ℕ × X). p q.1) (enumerate_from 0 xs))
filter_values {X} p xs = ap (filter p) (sym (values_of_enumerate 0 xs)) ∙ filter_of_map p (λ (q : ℕ × X). q.1) (enumerate_from 0 xs)

pub selected : {X Y : Type 0} (t : X → Bool) (f : X → Y) (xs : List X) → filter_map (λ x. if t x then Some (f x) else None) xs ≡ map f (filter t xs)
selected t f [] = refl
selected t f (x ∷ xs) =
    elim (t x) as (λ b. filter_map (λ y. if t y then Some (f y) else None) xs ≡ map f (filter t xs)
    → cons_option (if b then Some (f x) else None) (filter_map (λ y. if t y then Some (f y) else None) xs) ≡ map f (cond b (x ∷ filter t xs) (filter t xs))) [
      | true ↦ λ same. ap (λ r. f x ∷ r) same
      | false ↦ λ same. same
    ] (selected t f xs)

pub filter_map_of_map : {X Y Z : Type 0} (h : Y → Option Z) (g : X → Y) (xs : List X) → filter_map h (map g xs) ≡ filter_map (λ x. h (g x)) xs
filter_map_of_map h g [] = refl
filter_map_of_map h g (x ∷ xs) = ap (cons_option (h (g x))) (filter_map_of_map h g xs)

-- ---- items and lengths of a mapped list

pub get_of_map : {X Y : Type 0} (f : X → Y) (xs : List X) (i : ℕ) → slice_get (map f xs) i ≡ option_map f (slice_get xs i)
get_of_map f [] i = refl
get_of_map f (x ∷ xs) zero = refl
get_of_map f (x ∷ xs) (suc i) = get_of_map f xs i

pub length_of_map : {X Y : Type 0} (f : X → Y) (xs : List X) → length (map f xs) ≡ length xs
length_of_map f [] = refl
length_of_map f (x ∷ xs) = ap suc (length_of_map f xs)
