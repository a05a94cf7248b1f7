-- The chain of a space on a shelf, and over its objects as they are told.
use Rattle.std.proofs.Common.{◌≡◌, ℕ, ◌+◌, ◌-◌, ◌∙◌, Bool, Err, Ok, Some, None, Option, Result, List, [], ◌∷◌, ap, arith, cond, eqb, filter, fold, leb, map, min, refl, subst, sym, true, false}
use Rattle.std.specs.Prelude.{filter_map, find, if◌then◌else◌, is_some, option_map, unwrap_or, ◌&&◌, ◌==◌}
use Rattle.std.proofs.lemmas.List.Elements.{filter_agree}
use Rattle.std.proofs.lemmas.List.Folds.{fold-map}
use Rattle.ol_values.specs.declared.event.Reply.{Reply}
use Rattle.ol_values.specs.Blocks.{Empty, HeadHeld, LogHeld, PageHeld, Payload, Saved, archive_object}
use Rattle.ol_rules.specs.Shelf as rules
use Rattle.ol_rules.specs.Shelf.{Object, Shelf, head_of, objects, saved_in}
use Rattle.ol_rules.specs.Plan as plans
use Rattle.ol_rules.specs.Plan.{nothing_saved}
use Rattle.ol_object_spans.specs.declared.object.Object as told
use Rattle.ol_object_spans.specs.Objects.{archive_in, object_told}
use Rattle.ol_object_spans.specs.Told.{held_told}
use Rattle.ol_plan.specs.declared.archives.Link.{Link}
use Rattle.ol_plan.specs.declared.fault.PlanFault.{PlanFault}
use Rattle.ol_plan.specs.declared.fault.PlanFault.TheVariants as fault
use Rattle.ol_plan.specs.Archives.{as_link, is_link, link_of, links, saved_by, saved_told}
use Rattle.ol_plan.specs.Chains.{and_up, chain, first_link, is_parent, last_link, one_up, with_later, with_parent}
use Rattle.ol_plan.specs.Planned.{IsReply}
use Rattle.ol_plan.proofs.CountingLaws.{counts_told, told_of}
use Rattle.ol_plan.proofs.Lists.{enumerate_of_map, filter_map_of_map, filter_twice, filter_values, find_of_filter, find_of_map, fold_hom, fold_of_filter, selected, values_of_enumerate}
use Rattle.ol_plan.proofs.PairLaws.{AllAt, IfAt, IsAt, Pair, filter_at, find_at, fold_at, pairs_at, pairs_of, value}

-- ---- what an archive saves

saved_same : (space : ℕ) (x : Payload) → saved_told space (archive_in (held_told x)) ≡ saved_in space (head_of x).spaces
saved_same space Empty = refl
saved_same space (HeadHeld head config) = refl
saved_same space (PageHeld page) = refl
saved_same space (LogHeld page) = refl

saved_is : (space : ℕ) (o : Object) → saved_by space (object_told o) ≡ plans.saved_by space o
saved_is space o = saved_same space o.head.payload

abbrev told_pair : Pair → ℕ × told.Object
told_pair p = (p.0, object_told p.1)

-- the link of an archive
abbrev pub as_pair : ℕ → Pair → Link
as_pair space p = as_link space (told_pair p)

abbrev holds : Shelf → ℕ → Object → Bool
holds shelf space o = rules.is_kind archive_object o && (rules.archive_counts shelf o && is_some (plans.saved_by space o))

-- the archives that count and hold a space
abbrev pub holding : Shelf → ℕ → List Pair
holding shelf space = filter (λ (p : Pair). holds shelf space p.1) (pairs_of shelf)

holds_told : (shelf : Shelf) (space : ℕ) (p : Pair) → is_link (told_of shelf) space (object_told p.1) ≡ holds shelf space p.1
holds_told shelf space p =
    ap (λ t. rules.is_kind archive_object p.1 && (t && is_some (saved_by space (object_told p.1)))) (counts_told shelf p.1)
    ∙ ap (λ s. rules.is_kind archive_object p.1 && (rules.archive_counts shelf p.1 && is_some s)) (saved_is space p.1)

pub links_are : (shelf : Shelf) (space : ℕ) → links (told_of shelf) space ≡ map (as_pair space) (holding shelf space)
links_are shelf space =
    ap (filter_map (link_of (told_of shelf) space)) (enumerate_of_map object_told 0 (objects shelf))
    ∙ filter_map_of_map (link_of (told_of shelf) space) told_pair (pairs_of shelf)
    ∙ selected (λ (p : Pair). is_link (told_of shelf) space (object_told p.1)) (as_pair space) (pairs_of shelf)
    ∙ ap (map (as_pair space)) (filter_agree (λ (p : Pair). is_link (told_of shelf) space (object_told p.1)) (λ (p : Pair). holds shelf space p.1) (holds_told shelf space) (pairs_of shelf))

-- ---- the last archive

abbrev later_pair : Option Pair → Pair → Option Pair
later_pair None p = Some p
later_pair (Some b) p = if plans.is_later p.1 b.1 then Some p else Some b

abbrev with_pair : ℕ → Option Pair → Pair → Option Pair
with_pair end_ b p = if leb p.1.head.a end_ then later_pair b p else b

abbrev pub last_pair : Shelf → ℕ → ℕ → Option Pair
last_pair shelf space end_ = fold (with_pair end_) None (holding shelf space)

later_link : (space end_ : ℕ) (b : Option Pair) (p : Pair) → option_map (as_pair space) (with_pair end_ b p) ≡ with_later end_ (option_map (as_pair space) b) (as_pair space p)
later_link space end_ None p = elim (leb p.1.head.a end_) as (λ t. option_map (as_pair space) (if t then Some p else None) ≡ (if t then Some (as_pair space p) else None)) [ true ↦ refl | false ↦ refl ]
later_link space end_ (Some b) p =
    elim (leb p.1.head.a end_) as (λ t. option_map (as_pair space) (if t then later_pair (Some b) p else Some b)
    ≡ (if t then (if plans.is_later p.1 b.1 then Some (as_pair space p) else Some (as_pair space b)) else Some (as_pair space b))) [
      | true ↦ elim (plans.is_later p.1 b.1) as (λ t. option_map (as_pair space) (if t then Some p else Some b) ≡ (if t then Some (as_pair space p) else Some (as_pair space b))) [ true ↦ refl | false ↦ refl ]
      | false ↦ refl
    ]

later_object : (end_ : ℕ) (b : Option Pair) (p : Pair) → option_map value (with_pair end_ b p) ≡ (if leb p.1.head.a end_ then plans.later_of (option_map value b) p.1 else option_map value b)
later_object end_ None p = elim (leb p.1.head.a end_) as (λ t. option_map value (if t then Some p else None) ≡ (if t then Some p.1 else None)) [ true ↦ refl | false ↦ refl ]
later_object end_ (Some b) p =
    elim (leb p.1.head.a end_) as (λ t. option_map value (if t then later_pair (Some b) p else Some b) ≡ (if t then plans.later_of (Some b.1) p.1 else Some b.1)) [
      | true ↦ elim (plans.is_later p.1 b.1) as (λ t. option_map value (if t then Some p else Some b) ≡ (if t then Some p.1 else Some b.1)) [ true ↦ refl | false ↦ refl ]
      | false ↦ refl
    ]

four : (c b s e : Bool) → ((c && b) && (s && e)) ≡ ((c && (b && s)) && e)
four true true s e = refl
four true false s e = refl
four false b s e = refl

-- the archives that may be the last
candidates : (shelf : Shelf) (space end_ : ℕ)
    → filter (λ (o : Object). is_some (plans.saved_by space o) && leb o.head.a end_) (rules.counting_archives shelf)
    ≡ map value (filter (λ (p : Pair). leb p.1.head.a end_) (holding shelf space))
candidates shelf space end_ =
    let last : Object → Bool = λ o. is_some (plans.saved_by space o) && leb o.head.a end_ in
    let both : Object → Bool = λ o. rules.is_kind archive_object o && rules.archive_counts shelf o in
    let all : Object → Bool = λ o. holds shelf space o && leb o.head.a end_ in
    ap (filter last) (filter_twice (rules.archive_counts shelf) (rules.is_kind archive_object) (objects shelf))
    ∙ filter_twice last both (objects shelf)
    ∙ filter_agree (λ o. both o && last o) all (λ o. four (rules.is_kind archive_object o) (rules.archive_counts shelf o) (is_some (plans.saved_by space o)) (leb o.head.a end_)) (objects shelf)
    ∙ filter_values all (objects shelf)
    ∙ ap (map value) (sym (filter_twice (λ (p : Pair). leb p.1.head.a end_) (λ (p : Pair). holds shelf space p.1) (pairs_of shelf)))

pub last_is_link : (shelf : Shelf) (space end_ : ℕ) → last_link (map (as_pair space) (holding shelf space)) end_ ≡ option_map (as_pair space) (last_pair shelf space end_)
last_is_link shelf space end_ =
    fold-map (with_later end_) (as_pair space) None (holding shelf space)
    ∙ sym (fold_hom (option_map (as_pair space)) (with_pair end_) (λ b p. with_later end_ b (as_pair space p)) (later_link space end_) None (holding shelf space))

pub last_is_archive : (shelf : Shelf) (space end_ : ℕ) → plans.last_archive shelf space end_ ≡ option_map value (last_pair shelf space end_)
last_is_archive shelf space end_ =
    ap (fold plans.later_of None) (candidates shelf space end_)
    ∙ fold-map plans.later_of value None (filter (λ (p : Pair). leb p.1.head.a end_) (holding shelf space))
    ∙ fold_of_filter (λ b (p : Pair). plans.later_of b p.1) (λ (p : Pair). leb p.1.head.a end_) None (holding shelf space)
    ∙ sym (fold_hom (option_map value) (with_pair end_) (λ b p. if leb p.1.head.a end_ then plans.later_of b p.1 else b) (later_object end_) None (holding shelf space))

holding_at : (shelf : Shelf) (space : ℕ) → AllAt (objects shelf) (holding shelf space)
holding_at shelf space = filter_at (objects shelf) (λ (p : Pair). holds shelf space p.1) (pairs_of shelf) (pairs_at shelf)

later_at : (all : List Object) (end_ : ℕ) (b : Option Pair) (p : Pair) → IfAt all b → IsAt all p → IfAt all (with_pair end_ b p)
later_at all end_ None p has at = elim (leb p.1.head.a end_) as (λ t. IfAt all (if t then Some p else None)) [ true ↦ at | false ↦ tt ]
later_at all end_ (Some b) p has at =
    elim (leb p.1.head.a end_) as (λ t. IfAt all (if t then later_pair (Some b) p else Some b)) [
      | true ↦ elim (plans.is_later p.1 b.1) as (λ t. IfAt all (if t then Some p else Some b)) [ true ↦ at | false ↦ has ]
      | false ↦ has
    ]

pub last_at : (shelf : Shelf) (space end_ : ℕ) → IfAt (objects shelf) (last_pair shelf space end_)
last_at shelf space end_ = fold_at (objects shelf) (with_pair end_) (later_at (objects shelf) end_) None (holding shelf space) tt (holding_at shelf space)

-- ---- the parent

abbrev saved_or : ℕ → Object → Saved
saved_or space o = unwrap_or (plans.saved_by space o) nothing_saved

abbrev is_pair_parent : ℕ → Object → Pair → Bool
is_pair_parent space child p = (p.1.head.number == (saved_or space child).parent) && ((p.1.head.c + 1 == child.head.c) && (p.1.head.a == (saved_or space child).base))

abbrev pub parent_pair : Shelf → ℕ → Object → Option Pair
parent_pair shelf space child = find (is_pair_parent space child) (holding shelf space)

pub parent_is_link : (shelf : Shelf) (space : ℕ) (c : Pair) → find (is_parent (as_pair space c)) (map (as_pair space) (holding shelf space)) ≡ option_map (as_pair space) (parent_pair shelf space c.1)
parent_is_link shelf space c =
    find_of_map (is_parent (as_pair space c)) (as_pair space) (holding shelf space)
    ∙ ap (λ (s : Option Saved). option_map (as_pair space) (find (λ (p : Pair). (p.1.head.number == (unwrap_or s nothing_saved).parent) && ((p.1.head.c + 1 == c.1.head.c) && (p.1.head.a == (unwrap_or s nothing_saved).base))) (holding shelf space)))
    (saved_is space c.1)

six : (c b s n v : Bool) → ((c && (b && s)) && (n && v)) ≡ (c && (b && (n && (s && v))))
six true true true n v = refl
six true true false true v = refl
six true true false false v = refl
six true false s n v = refl
six false b s n v = refl

find_same : {X : Type 0} (p q : X → Bool) → ((x : X) → p x ≡ q x) → (xs : List X) → find p xs ≡ find q xs
find_same p q same [] = refl
find_same p q same (x ∷ xs) = ap (λ t. cond t (Some x) (find p xs)) (same x) ∙ ap (cond (q x) (Some x)) (find_same p q same xs)

pub parent_is_archive : (shelf : Shelf) (space : ℕ) (child : Object) → plans.parent_of shelf space child ≡ option_map value (parent_pair shelf space child)
parent_is_archive shelf space child =
    let test : Object → Bool = plans.is_parent space child (saved_or space child) in
    let all : Object → Bool = λ o. rules.is_kind archive_object o && (rules.archive_counts shelf o && test o) in
    find_of_filter test (rules.archive_counts shelf) (filter (rules.is_kind archive_object) (objects shelf))
    ∙ find_of_filter (λ o. rules.archive_counts shelf o && test o) (rules.is_kind archive_object) (objects shelf)
    ∙ ap (find all) (sym (values_of_enumerate 0 (objects shelf)))
    ∙ find_of_map all value (pairs_of shelf)
    ∙ ap (option_map value) (
    find_same (λ (p : Pair). all p.1) (λ (p : Pair). holds shelf space p.1 && is_pair_parent space child p) (λ p.
    sym (
    six (rules.is_kind archive_object p.1) (rules.archive_counts shelf p.1) (is_some (plans.saved_by space p.1)) (p.1.head.number == (saved_or space child).parent)
    ((p.1.head.c + 1 == child.head.c) && (p.1.head.a == (saved_or space child).base))
    )) (pairs_of shelf)
    ∙ sym (find_of_filter (is_pair_parent space child) (λ (p : Pair). holds shelf space p.1) (pairs_of shelf))
    )

pub parent_at : (shelf : Shelf) (space : ℕ) (child : Object) → IfAt (objects shelf) (parent_pair shelf space child)
parent_at shelf space child = find_at (objects shelf) (is_pair_parent space child) (holding shelf space) (holding_at shelf space)

-- ---- the chain

-- one chain by links and by objects
pub record IsChain (all : List Object) (space : ℕ) (links : List Link) (archives : List Object) : Type 0 where
  pub pairs : List Pair
  pub are_links : links ≡ map (as_pair space) pairs
  pub are_objects : archives ≡ map value pairs
  pub at : AllAt all pairs

abbrev pub SameChain : List Object → ℕ → Result (List Link) PlanFault → Result (List Object) Reply → Type 0
SameChain all space (Ok links) (Ok archives) = IsChain all space links archives
SameChain all space (Ok links) (Err reply) = ⊥
SameChain all space (Err f) (Ok archives) = ⊥
SameChain all space (Err f) (Err reply) = IsReply reply f

first_same : (all : List Object) (space : ℕ) (o : Option Pair) → IfAt all o → SameChain all space (first_link space (option_map (as_pair space) o)) (plans.first_link space (option_map value o))
first_same all space None at = ap (λ n. fault.MissingLevel space n 0) (let z : 0 ≡ min 0 255 = omega arith in z)
first_same all space (Some p) at = record { pairs = p ∷ []; are_links = refl; are_objects = refl; at = (at, tt) }

parent_same : (all : List Object) (space : ℕ) (c : Pair) (rest : List Pair) (o : Option Pair) → AllAt all (c ∷ rest) → IfAt all o
    → SameChain all space (with_parent space (map (as_pair space) (c ∷ rest)) (as_pair space c) (option_map (as_pair space) o)) (plans.with_parent space (map value (c ∷ rest)) c.1 (option_map value o))
parent_same all space c rest None at has = ap (λ (s : Option Saved). fault.MissingLevel space (min (c.1.head.c - 1) 255) (unwrap_or s nothing_saved).parent) (saved_is space c.1)
parent_same all space c rest (Some p) at has = record { pairs = p ∷ c ∷ rest; are_links = refl; are_objects = refl; at = (has, at) }

up_pairs : (shelf : Shelf) (space : ℕ) (ps : List Pair) → AllAt (objects shelf) ps
    → SameChain (objects shelf) space (one_up (map (as_pair space) (holding shelf space)) space (map (as_pair space) ps)) (plans.one_up shelf space (map value ps))
up_pairs shelf space [] at = record { pairs = []; are_links = refl; are_objects = refl; at = tt }
up_pairs shelf space (c ∷ rest) at =
    elim (eqb c.1.head.c 0) as (λ t. SameChain (objects shelf) space
    (if t then Ok (map (as_pair space) (c ∷ rest))
    else with_parent space (map (as_pair space) (c ∷ rest)) (as_pair space c) (find (is_parent (as_pair space c)) (map (as_pair space) (holding shelf space))))
    (if t then Ok (map value (c ∷ rest)) else plans.with_parent space (map value (c ∷ rest)) c.1 (plans.parent_of shelf space c.1))) [
      | true ↦ record { pairs = c ∷ rest; are_links = refl; are_objects = refl; at = at }
      | false ↦
          subst (λ o. SameChain (objects shelf) space (with_parent space (map (as_pair space) (c ∷ rest)) (as_pair space c) o) (plans.with_parent space (map value (c ∷ rest)) c.1 (plans.parent_of shelf space c.1)))
          (sym (parent_is_link shelf space c)) (
          subst (λ o. SameChain (objects shelf) space (with_parent space (map (as_pair space) (c ∷ rest)) (as_pair space c) (option_map (as_pair space) (parent_pair shelf space c.1))) (plans.with_parent space (map value (c ∷ rest)) c.1 o))
          (sym (parent_is_archive shelf space c.1)) (parent_same (objects shelf) space c rest (parent_pair shelf space c.1) at (parent_at shelf space c.1))
          )
    ]

up_same : (shelf : Shelf) (space : ℕ) (one : Result (List Link) PlanFault) (other : Result (List Object) Reply) → SameChain (objects shelf) space one other
    → SameChain (objects shelf) space (and_up (map (as_pair space) (holding shelf space)) space one) (plans.and_up shelf space other)
up_same shelf space (Ok links) (Ok archives) same =
    subst (λ l. SameChain (objects shelf) space (one_up (map (as_pair space) (holding shelf space)) space l) (plans.one_up shelf space archives)) (sym same.are_links) (
    subst (λ l. SameChain (objects shelf) space (one_up (map (as_pair space) (holding shelf space)) space (map (as_pair space) same.pairs)) (plans.one_up shelf space l)) (sym same.are_objects) (
    up_pairs shelf space same.pairs same.at
    )
    )
up_same shelf space (Ok links) (Err reply) same = absurd same
up_same shelf space (Err f) (Ok archives) same = absurd same
up_same shelf space (Err f) (Err reply) same = same

pub chain_same : (shelf : Shelf) (end_ space : ℕ) → SameChain (objects shelf) space (chain (told_of shelf) end_ space) (plans.chain_of shelf end_ space)
chain_same shelf end_ space =
    let ks : List Link = map (as_pair space) (holding shelf space) in
    let first : SameChain (objects shelf) space (first_link space (last_link ks end_)) (plans.first_link space (plans.last_archive shelf space end_)) =
    subst (λ o. SameChain (objects shelf) space (first_link space o) (plans.first_link space (plans.last_archive shelf space end_))) (sym (last_is_link shelf space end_)) (
    subst (λ o. SameChain (objects shelf) space (first_link space (option_map (as_pair space) (last_pair shelf space end_))) (plans.first_link space o)) (sym (last_is_archive shelf space end_)) (
    first_same (objects shelf) space (last_pair shelf space end_) (last_at shelf space end_)
    )
    ) in
    subst (λ l. SameChain (objects shelf) space (and_up l space (and_up l space (first_link space (last_link l end_)))) (plans.chain_of shelf end_ space)) (sym (links_are shelf space)) (
    up_same shelf space _ _ (up_same shelf space _ _ first)
    )
