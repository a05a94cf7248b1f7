-- An archive ends, is given up or breaks: the images of its spaces are dropped.
use Rattle.std.specs.Prelude.{Bool, List, None, Option, Some, [], cond, false, filter, find, if◌then◌else◌, length, nat_lt, not, option_map, refl, true, ℕ, ◌&&◌, ◌+◌, ◌==◌, ◌∷◌, ◌≡◌, ◌≤◌, ◌||◌}
use Rattle.std.proofs.Common.{ap, arith, sym, ◌∙◌}
use Rattle.std.proofs.lemmas.Bool.{ltb-false}
use Rattle.std.proofs.lemmas.Bool.Decides.{nat_tests}
use Rattle.std.proofs.lemmas.List.{get_or_past}
use Rattle.ol_model.specs.Machine.{Archive, Machine, archive_of, archives_space, with_archive}
use Rattle.ol_before.specs.Images.{Captures, Image, image_of, is_in_space, is_of, without}
use Rattle.ol_before.proofs.MapLaws.{memory_without}
use Rattle.ol_before.proofs.OrderLaws.{ascend_kept}
use Rattle.ol_before.proofs.ValueLaws.{dropped}
use Rattle.ol_cursor.specs.declared.cursor.Cursor.{Cursor}
use Rattle.ol_cursor.specs.Order.{archives}
use Rattle.ol_running.specs.declared.running.Running.{Running}
use Rattle.ol_running.specs.Running.{IsArchive, ShowsArchives, dropped_upto, is_of_archive, running_of, waits, with_running}
use Rattle.ol_running.proofs.OwnLaws.{Own, own_apart, own_put, turned}
use Rattle.ol_running.proofs.ShowLaws.{waits_in}
use Rattle.ol_running.proofs.StepLaws.{Same}

-- ---- images of some spaces are dropped

in_space : (space page : ℕ) (i : Image) → is_of space page i ≡ true → i.space ≡ space
in_space space page i here = grind (arith, nat_tests)

-- what is found of the others
pub image_kept : (test : ℕ → Bool) (held : List Image) (space page : ℕ) → image_of (filter (λ (i : Image). not (test i.space)) held) space page ≡ (if test space then None else image_of held space page)
image_kept test [] space page = elim (test space) as (λ b. None ≡ (let o : Option (List ℕ) = (if b then None else None) in o)) [ true ↦ refl | false ↦ refl ]
image_kept test (i ∷ held) space page = go (is_of space page i) refl (test i.space) refl (image_kept test held space page)
  where
    kept : List Image
    kept = filter (λ (j : Image). not (test j.space)) held

    go : (o : Bool) → is_of space page i ≡ o → (d : Bool) → test i.space ≡ d → image_of kept space page ≡ (if test space then None else image_of held space page)
        → image_of (filter (λ (j : Image). not (test j.space)) (i ∷ held)) space page ≡ (if test space then None else image_of (i ∷ held) space page)
    go true here true drop more =
        let gone : test space ≡ true = ap test (sym (in_space space page i here)) ∙ drop in
        ap (λ (d : Bool). image_of (cond (not d) (i ∷ kept) kept) space page) drop
        ∙ more
        ∙ ap (λ (b : Bool). if b then None else image_of held space page) gone
        ∙ sym (ap (λ (b : Bool). if b then None else image_of (i ∷ held) space page) gone)
    go true here false keep more =
        let stays : test space ≡ false = ap test (sym (in_space space page i here)) ∙ keep in
        ap (λ (d : Bool). image_of (cond (not d) (i ∷ kept) kept) space page) keep
        ∙ ap (λ (b : Bool). option_map (λ (j : Image). j.bytes) (if b then Some i else find (is_of space page) kept)) here
        ∙ sym (ap (λ (b : Bool). option_map (λ (j : Image). j.bytes) (if b then Some i else find (is_of space page) held)) here)
        ∙ sym (ap (λ (b : Bool). if b then None else image_of (i ∷ held) space page) stays)
    go false other true drop more =
        ap (λ (d : Bool). image_of (cond (not d) (i ∷ kept) kept) space page) drop
        ∙ more
        ∙ sym (ap (λ (b : Bool). if test space then None else option_map (λ (j : Image). j.bytes) (if b then Some i else find (is_of space page) held)) other)
    go false other false keep more =
        ap (λ (d : Bool). image_of (cond (not d) (i ∷ kept) kept) space page) keep
        ∙ ap (λ (b : Bool). option_map (λ (j : Image). j.bytes) (if b then Some i else find (is_of space page) kept)) other
        ∙ more
        ∙ sym (ap (λ (b : Bool). if test space then None else option_map (λ (j : Image). j.bytes) (if b then Some i else find (is_of space page) held)) other)

-- ---- space by space

both_kept : (i : Image) (second : Image → Bool) (f b : Bool) (once all : List Image) → b ≡ (f || second i) → filter (λ (j : Image). not (second j)) once ≡ all
    → filter (λ (j : Image). not (second j)) (cond (not f) (i ∷ once) once) ≡ cond (not b) (i ∷ all) all
both_kept i second true b once all is more = more ∙ ap (λ (c : Bool). cond (not c) (i ∷ all) all) (sym is)
both_kept i second false b once all is more =
    ap (λ (l : List Image). cond (not (second i)) (i ∷ l) l) more ∙ ap (λ (c : Bool). cond (not c) (i ∷ all) all) (sym is)

kept_twice : (first second both : Image → Bool) → ((i : Image) → both i ≡ (first i || second i)) → (held : List Image)
    → filter (λ (i : Image). not (second i)) (filter (λ (i : Image). not (first i)) held) ≡ filter (λ (i : Image). not (both i)) held
kept_twice first second both same [] = refl
kept_twice first second both same (i ∷ held) =
    both_kept i second (first i) (both i) (filter (λ (j : Image). not (first j)) held) (filter (λ (j : Image). not (both j)) held) (same i) (kept_twice first second both same held)

-- images dropped by one test and then by another are dropped by both
twice : (first second both : Image → Bool) → ((i : Image) → both i ≡ (first i || second i)) → (b : Captures) → without second (without first b) ≡ without both b
twice first second both same b =
    dropped both b (without second (without first b)) refl (kept_twice first second both same b.held)
    (memory_without second (without first b) ∙ memory_without first b)

next_space : (c : Cursor) (n : ℕ) (i : Image) → archives c n ≡ true → (archives c i.space && nat_lt i.space (n + 1)) ≡ ((archives c i.space && nat_lt i.space n) || (i.space == n))
next_space c n i is = go (i.space == n) refl
  where
    go : (b : Bool) → (i.space == n) ≡ b → (archives c i.space && nat_lt i.space (n + 1)) ≡ ((archives c i.space && nat_lt i.space n) || (i.space == n))
    go true here =
        let same : i.space ≡ n = grind (arith, nat_tests) in
        let has : archives c i.space ≡ true = ap (λ (x : ℕ). archives c x) same ∙ is in
        grind (arith, nat_tests, has, here)
    go false other = grind (arith, nat_tests, other)

other_space : (c : Cursor) (n : ℕ) (i : Image) → archives c n ≡ false → (archives c i.space && nat_lt i.space (n + 1)) ≡ (archives c i.space && nat_lt i.space n)
other_space c n i is = go (i.space == n) refl
  where
    go : (b : Bool) → (i.space == n) ≡ b → (archives c i.space && nat_lt i.space (n + 1)) ≡ (archives c i.space && nat_lt i.space n)
    go true here =
        let same : i.space ≡ n = grind (arith, nat_tests) in
        let has : archives c i.space ≡ false = ap (λ (x : ℕ). archives c x) same ∙ is in
        ap (λ (b : Bool). b && nat_lt i.space (n + 1)) has ∙ sym (ap (λ (b : Bool). b && nat_lt i.space n) has)
    go false other = grind (arith, nat_tests, other)

pub drop_next : (c : Cursor) (b : Captures) (n : ℕ) → archives c n ≡ true → without (is_in_space n) (dropped_upto c b n) ≡ dropped_upto c b (n + 1)
drop_next c b n is =
    twice (λ (i : Image). archives c i.space && nat_lt i.space n) (is_in_space n) (λ (i : Image). archives c i.space && nat_lt i.space (n + 1)) (λ i. next_space c n i is) b

-- a test that is the same drops the same
same_without : (first second : Image → Bool) → ((i : Image) → first i ≡ second i) → (b : Captures) → without first b ≡ without second b
same_without first second same b = ap (λ (test : Image → Bool). without test b) (λ k i. same i k)

pub drop_other : (c : Cursor) (b : Captures) (n : ℕ) → archives c n ≡ false → dropped_upto c b n ≡ dropped_upto c b (n + 1)
drop_other c b n is = same_without (λ (i : Image). archives c i.space && nat_lt i.space n) (λ (i : Image). archives c i.space && nat_lt i.space (n + 1)) (λ i. sym (other_space c n i is)) b

none_before : (b : Bool) (n : ℕ) → (b && nat_lt n 0) ≡ false
none_before true n = grind (arith, nat_tests)
none_before false n = refl

all_kept : (held : List Image) → filter (λ (i : Image). not false) held ≡ held
all_kept [] = refl
all_kept (i ∷ held) = ap (λ (l : List Image). i ∷ l) (all_kept held)

pub drop_none : (c : Cursor) (b : Captures) → dropped_upto c b 0 ≡ b
drop_none c b =
    same_without (λ (i : Image). archives c i.space && nat_lt i.space 0) (λ (i : Image). false) (λ i. none_before (archives c i.space) i.space) b
    ∙ sym (dropped (λ (i : Image). false) b b refl (sym (all_kept b.held)) refl)

pub drop_all : (c : Cursor) (b : Captures) → length c.spaces ≡ 16 → dropped_upto c b 16 ≡ without (is_of_archive c) b
drop_all c b sixteen =
    same_without (λ (i : Image). archives c i.space && nat_lt i.space 16) (is_of_archive c) (λ i. go i (nat_lt i.space 16) refl) b
  where
    go : (i : Image) (t : Bool) → nat_lt i.space 16 ≡ t → (archives c i.space && nat_lt i.space 16) ≡ archives c i.space
    go i true within = ap (λ (t : Bool). archives c i.space && t) within ∙ elim (archives c i.space) as (λ b. (b && true) ≡ b) [ true ↦ refl | false ↦ refl ]
    go i false out =
        let high : 16 ≤ i.space = ltb-false i.space 16 out in
        let none : archives c i.space ≡ false = get_or_past c.spaces i.space false (omega (arith, high, sixteen)) in
        ap (λ (b : Bool). b && nat_lt i.space 16) none ∙ sym none

-- ---- an archive is put away

pub own_none : (l : List (Option Running)) (b : Captures) (m n : Machine) (k : ℕ) (r : Running) (a : Archive) → 1 ≤ k → k ≤ 4 → ShowsArchives l b m → archive_of m k ≡ Some a → IsArchive r m a
    → Same m n → n.archives ≡ m.archives → ShowsArchives (with_running k None l) (without (is_of_archive r.cursor) b) (with_archive k None n)
own_none l b m n k r a from to s at is same listed =
    turned l b (without (is_of_archive r.cursor) b) m (with_archive k None n) k None None drops s from to own
    (record {
      running = tt;
      limit = refl;
      ascend = ascend_kept (λ (i : Image). not (is_of_archive r.cursor i)) b.held s.ascend;
      apart = own_apart k m (with_archive k None n) None own (λ space there. absurd (let never : false ≡ true = there in cc)) s.apart;
      found = λ space page. image_kept (λ x. archives r.cursor x) b.held space page;
      now = λ space page. now space page (waits m k space page) refl;
      inside = λ space page drop. of_it space ∙ drop;
      cuts = λ x space page same there. absurd (let never : false ≡ true = there in cc);
    })
  where
    drops : ℕ → ℕ → Bool
    drops space page = archives r.cursor space

    own : Own k m (with_archive k None n) None
    own = own_put k m n None from to same listed s.archivers

    of_it : (space : ℕ) → archives_space space (archive_of m k) ≡ archives r.cursor space
    of_it space = ap (λ (o : Option Archive). archives_space space o) at ∙ sym (is.follows.of_it.spaces space)

    now : (space page : ℕ) (w : Bool) → waits m k space page ≡ w → false ≡ (not (drops space page) && waits m k space page)
    now space page false none = elim (not (drops space page)) as (λ b. false ≡ (b && false)) [ true ↦ refl | false ↦ refl ] ∙ ap (λ (w : Bool). not (drops space page) && w) (sym none)
    now space page true there =
        let drop : drops space page ≡ true = sym (of_it space) ∙ waits_in (running_of l k) m (archive_of m k) space page (s.running k from) there in
        ap (λ (d : Bool). not d && waits m k space page) (sym drop)
