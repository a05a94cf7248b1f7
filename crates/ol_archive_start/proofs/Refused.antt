-- When an archive is refused by the parts, the machine refuses it so; else it starts it.
use Rattle.std.specs.List.{position_or_len}
use Rattle.std.specs.Prelude.{All, Bool, List, None, Option, Some, [], cond, false, find, is_some, length, nat_lt, not, option_map, position, slice_index_or, suc, unwrap_or, zero, ℕ, ◌&&◌, ◌+◌, ◌-◌, ◌<◌, ◌==◌, ◌∷◌, ◌≡◌}
use Rattle.std.proofs.Common.{ap, arith, refl, subst, sym, ◌∙◌}
use Rattle.std.proofs.lemmas.List.Elements.{All-head, All-tail}
use Rattle.std.proofs.lemmas.List.FromFn.{get_or-map-range_with_len}
use Rattle.ol_values.specs.declared.event.Reply.{Reply}
use Rattle.ol_values.specs.declared.event.Reply.TheVariants.{Archiving, NoParent, SpaceDown}
use Rattle.ol_values.specs.Config.{Config}
use Rattle.ol_rules.specs.Lasting.{Kept, Lasting, SpaceState, space_state, space_up}
use Rattle.ol_rules.specs.Lasting.{is_up as is_up_in}
use Rattle.ol_model.specs.Answering.{unless}
use Rattle.ol_model.specs.ArchiveTurns.{kept_at, saved_of, started}
use Rattle.ol_model.specs.Machine.{Archive, Machine, archive_of, archiver_of, archives_space, config_of}
use Rattle.ol_turn_laws.proofs.ApartLaws.{none_found}
use Rattle.ol_before.specs.Images.{Captures}
use Rattle.ol_reserve.specs.declared.anchor.Anchor.{Anchor}
use Rattle.ol_running.specs.declared.running.Running.{Running}
use Rattle.ol_running.specs.Running.{IsRunning, ShowsArchives, running_of}
use Rattle.ol_storage.specs.Installation.{Installation}
use Rattle.ol_engine.specs.Parts.{ShowsStorage, kept_in, lasting_in, space_in}
use Rattle.ol_archive_turns.specs.Turns.{runs_in}
use Rattle.ol_archive_start.specs.Refusing.{AreSpaces, archiver_in, first_told, is_down, is_orphan, or_else, parent_of, refusal_of}
use Rattle.ol_archive_start.specs.Starting.{start_turn}

-- ---- lists

-- tests that agree find the same
find_same : (f g : ℕ → Bool) (l : List ℕ) → All (λ s. f s ≡ g s) l → find f l ≡ find g l
find_same f g [] all = refl
find_same f g (s ∷ l) all = ap (λ b. cond b (Some s) (find f l)) (All-head (λ t. f t ≡ g t) s l all) ∙ ap (λ o. cond (g s) (Some s) o) (find_same f g l (All-tail (λ t. f t ≡ g t) s l all))

-- so do two lists of one length, where the tests agree at each place
place_same : {A B : Type 0} (f : Option A → Bool) (g : Option B → Bool) (xs : List (Option A)) (ys : List (Option B)) → length xs ≡ length ys → ((i : ℕ) → f (slice_index_or xs i None) ≡ g (slice_index_or ys i None)) → position_or_len f xs ≡ position_or_len g ys
place_same f g [] [] long same = refl
place_same f g [] (y ∷ ys) long same = absurd (omega (arith, long))
place_same f g (x ∷ xs) [] long same = absurd (omega (arith, long))
place_same f g (x ∷ xs) (y ∷ ys) long same =
    ap (λ b. cond (not b) (1 + position_or_len f xs) 0) (same 0) ∙ ap (λ n. cond (not (g y)) (1 + n) 0) (place_same f g xs ys (omega (arith, long)) (λ i. same (suc i)))

position_same : {A B : Type 0} (f : Option A → Bool) (g : Option B → Bool) (xs : List (Option A)) (ys : List (Option B)) → length xs ≡ length ys → ((i : ℕ) → f (slice_index_or xs i None) ≡ g (slice_index_or ys i None)) → position f xs ≡ position g ys
position_same f g xs ys long same = λ j. let place : ℕ = place_same f g xs ys long same j in cond (nat_lt place (long j)) (Some place) None

-- what is told of the first of which something is told
told_found : (f : ℕ → Option ℕ) (l : List ℕ) → option_map (λ s. Archiving (unwrap_or (f s) 0)) (find (λ s. is_some (f s)) l) ≡ option_map (λ k. Archiving k) (first_told f l)
told_found f [] = refl
told_found f (s ∷ l) = by_told (f s) refl (told_found f l)
  where
    by_told : (o : Option ℕ) → f s ≡ o → option_map (λ s. Archiving (unwrap_or (f s) 0)) (find (λ s. is_some (f s)) l) ≡ option_map (λ k. Archiving k) (first_told f l)
        → option_map (λ s. Archiving (unwrap_or (f s) 0)) (find (λ s. is_some (f s)) (s ∷ l)) ≡ option_map (λ k. Archiving k) (first_told f (s ∷ l))
    by_told None e more = rw (e) more
    by_told (Some k) e more = rw (e) (ap (λ (o : Option ℕ). Some (Archiving (unwrap_or o 0))) e)

-- nothing is told, where nothing is found
none_told : (f : ℕ → Option ℕ) (l : List ℕ) → first_told f l ≡ None → is_some (find (λ s. is_some (f s)) l) ≡ false
none_told f [] none = refl
none_told f (s ∷ l) none = by_told (f s) refl none (λ rest. none_told f l rest)
  where
    by_told : (o : Option ℕ) → f s ≡ o → first_told f (s ∷ l) ≡ None → (first_told f l ≡ None → is_some (find (λ s. is_some (f s)) l) ≡ false) → is_some (find (λ s. is_some (f s)) (s ∷ l)) ≡ false
    by_told None e none more = rw (e) (more (rw (e) at none))
    by_told (Some k) e none more = absurd (let never : Some k ≡ None = (rw (e) at none) in cc)

-- ---- three refusals

-- the refusal, or else the answer
abbrev pub answered : Machine → Reply × Machine → Option Reply → Reply × Machine
answered m answer None = answer
answered m answer (Some r) = (r, m)

behind_three : (m : Machine) (a b c : ℕ → Reply) (o p q : Option ℕ) (answer : Reply × Machine)
    → unless m ((is_some o, a (unwrap_or o 0)) ∷ (is_some p, b (unwrap_or p 0)) ∷ (is_some q, c (unwrap_or q 0)) ∷ []) answer ≡ answered m answer (or_else (option_map a o) (or_else (option_map b p) (option_map c q)))
behind_three m a b c (Some s) p q answer = refl
behind_three m a b c None (Some s) q answer = refl
behind_three m a b c None None (Some s) answer = refl
behind_three m a b c None None None answer = refl

first_none : (a : ℕ → Reply) (o : Option ℕ) (p : Option Reply) → or_else (option_map a o) p ≡ None → (o ≡ None) × (p ≡ None)
first_none a None p none = (refl, none)
first_none a (Some s) p none = absurd (let never : Some (a s) ≡ None = none in cc)

-- ---- what is told of a space

state_is : (c : Config) (a : Anchor) (l : Lasting) (s : ℕ) → lasting_in c a ≡ l → s < length c.spaces → space_state l s ≡ space_in a s
state_is c a l s is within = ap (λ (x : Lasting). space_state x s) (sym is) ∙ get_or-map-range_with_len (space_in a) 0 (length c.spaces) s s space_up within (omega arith)

-- the archive from which one of this level goes on
pub parent_is : (v : Installation) (m : Machine) (level s : ℕ) → ShowsStorage v m → s < length (config_of m).spaces → kept_at m level s ≡ kept_in (parent_of v.anchor level s)
parent_is v m zero s is within = refl
parent_is v m (suc zero) s is within = ap (λ (x : SpaceState). x.zero) (state_is (config_of m) v.anchor m.lasting s is.lasting within)
parent_is v m (suc (suc level)) s is within = ap (λ (x : SpaceState). x.one) (state_is (config_of m) v.anchor m.lasting s is.lasting within)

down_is : (v : Installation) (m : Machine) (s : ℕ) → ShowsStorage v m → s < length (config_of m).spaces → not (is_up_in m.lasting s) ≡ is_down v.anchor s
down_is v m s is within = ap (λ (x : SpaceState). not x.up) (state_is (config_of m) v.anchor m.lasting s is.lasting within)

orphan_is : (v : Installation) (m : Machine) (level s : ℕ) → ShowsStorage v m → s < length (config_of m).spaces → (nat_lt 0 level && ((kept_at m level s).number == 0)) ≡ is_orphan v.anchor level s
orphan_is v m level s is within = ap (λ (k : Kept). nat_lt 0 level && (k.number == 0)) (parent_is v m level s is within)

runs_is : (r : Option Running) (m : Machine) (o : Option Archive) (s : ℕ) → IsRunning r m o → runs_in s r ≡ archives_space s o
runs_is None m None s is = refl
runs_is (Some r) m (Some a) s is = is.follows.of_it.spaces s
runs_is None m (Some a) s is = absurd is
runs_is (Some r) m None s is = absurd is

-- the archiver whose archive has it
archiver_is : (l : List (Option Running)) (b : Captures) (m : Machine) (s : ℕ) → ShowsArchives l b m → archiver_in l s ≡ archiver_of m s
archiver_is l b m s is =
    ap (λ (o : Option ℕ). option_map (λ i. i + 1) o) (position_same (runs_in s) (archives_space s) l m.archives (is.four ∙ sym is.archivers) (λ i. at i))
  where
    at : (i : ℕ) → runs_in s (slice_index_or l i None) ≡ archives_space s (slice_index_or m.archives i None)
    at i =
        let n : (i + 1) - 1 ≡ i = omega arith in
        subst (λ (j : ℕ). runs_in s (slice_index_or l j None) ≡ archives_space s (slice_index_or m.archives j None)) n (runs_is (running_of l (i + 1)) m (archive_of m (i + 1)) s (is.running (i + 1) (omega arith)))

-- ---- the turn

pub start_is : (v : Installation) (l : List (Option Running)) (b : Captures) (m : Machine) (k level : ℕ) (spaces : List ℕ) → ShowsStorage v m → ShowsArchives l b m → AreSpaces v.ring.config spaces
    → start_turn m k level spaces ≡ answered m (started m k level (saved_of m level spaces)) (refusal_of v.anchor l level spaces)
start_is v l b m k level spaces is shows there =
    behind_three m (λ s. SpaceDown s) (λ s. Archiving (unwrap_or (archiver_of m s) 0)) (λ s. NoParent s (level - 1)) (find (λ s. not (is_up_in m.lasting s)) spaces) (find (λ s. is_some (archiver_of m s)) spaces)
    (find (λ s. nat_lt 0 level && ((kept_at m level s).number == 0)) spaces) answer
    ∙ (λ j. answered m answer (or_else (option_map (λ s. SpaceDown s) (downs j)) (or_else (helds j) (option_map (λ s. NoParent s (level - 1)) (orphans j)))))
  where
    answer : Reply × Machine
    answer = started m k level (saved_of m level spaces)

    within : All (λ s. s < length (config_of m).spaces) spaces
    within = subst (λ (c : Config). All (λ s. s < length c.spaces) spaces) is.config there

    downs : find (λ s. not (is_up_in m.lasting s)) spaces ≡ find (is_down v.anchor) spaces
    downs = find_same (λ s. not (is_up_in m.lasting s)) (is_down v.anchor) spaces (λ i d low. down_is v m (slice_index_or spaces i d) is (within i d low))

    orphans : find (λ s. nat_lt 0 level && ((kept_at m level s).number == 0)) spaces ≡ find (is_orphan v.anchor level) spaces
    orphans = find_same (λ s. nat_lt 0 level && ((kept_at m level s).number == 0)) (is_orphan v.anchor level) spaces (λ i d low. orphan_is v m level (slice_index_or spaces i d) is (within i d low))

    helds : option_map (λ s. Archiving (unwrap_or (archiver_of m s) 0)) (find (λ s. is_some (archiver_of m s)) spaces) ≡ option_map (λ k. Archiving k) (first_told (archiver_in l) spaces)
    helds = told_found (archiver_of m) spaces ∙ (λ j. option_map (λ k. Archiving k) (first_told (λ s. sym (archiver_is l b m s shows) j) spaces))

-- ---- where none refuses

-- all spaces are up
pub all_up : (a : Anchor) (l : List (Option Running)) (level : ℕ) (spaces : List ℕ) → refusal_of a l level spaces ≡ None → All (λ s. is_down a s ≡ false) spaces
all_up a l level spaces free = none_found (is_down a) spaces (ap (λ (o : Option ℕ). is_some o) (first_none (λ s. SpaceDown s) (find (is_down a) spaces) _ free).0)

-- and no running archive has one
pub all_idle : (a : Anchor) (l : List (Option Running)) (b : Captures) (m : Machine) (level : ℕ) (spaces : List ℕ) → ShowsArchives l b m → refusal_of a l level spaces ≡ None → All (λ s. is_some (archiver_of m s) ≡ false) spaces
all_idle a l b m level spaces shows free =
    let others = (first_none (λ s. SpaceDown s) (find (is_down a) spaces) _ free).1 in
    let none : first_told (archiver_in l) spaces ≡ None = (first_none (λ k. Archiving k) (first_told (archiver_in l) spaces) _ others).0 in
    let all = none_found (λ s. is_some (archiver_in l s)) spaces (none_told (archiver_in l) spaces none) in
    λ i d low. ap (λ (o : Option ℕ). is_some o) (sym (archiver_is l b m (slice_index_or spaces i d) shows)) ∙ all i d low
