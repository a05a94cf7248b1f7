-- Records taken one by one, and how far they go.
use Rattle.std.specs.Prelude.{List, None, Some, [], drop, false, length, refl, suc, take, true, ℕ, ◌++◌, ◌+◌, ◌-◌, ◌∷◌, ◌≡◌, ◌≤◌}
use Rattle.std.proofs.Common.{ap, append-nil, append_assoc, arith, inl, inr, subst, sym, ◌∙◌}
use Rattle.std.proofs.lemmas.Bool.{cases_Bool}
use Rattle.std.proofs.lemmas.List.{drop-drop, drop_all, length-drop}
use Rattle.std.proofs.lemmas.List.Sums.{fold-append}
use Rattle.ol_values.specs.declared.record.Record.{Record}
use Rattle.ol_values.specs.Config.{Config}
use Rattle.ol_values.specs.Pages.{Page}
use Rattle.ol_pool.specs.Frames.{Frames}
use Rattle.ol_rollfwd.specs.Feeding.{Fed, HasTaken, HasTakenSome, Shows, fed, fed_from, fed_one, first_out, is_next, pages_after}
use Rattle.ol_rollfwd.specs.Rolls.{Roll, after}

-- ---- how far records go

pub first_more : (b : Fed) (xs ys : List Record) → first_out b xs ≡ None → first_out b (xs ++ ys) ≡ first_out (fed b xs) ys
first_more b [] ys e = refl
first_more b (r ∷ xs) ys e =
    elim (cases_Bool (is_next b r)) [
      | inl h ↦ rw (h) (first_more (fed_one b r) xs ys (rw (h) at e))
      | inr h ↦ absurd (let f : Some b.roll.next ≡ None = (rw (h) at e) in cc)
    ]

pub fed_more : (b : Fed) (xs : List Record) (r : Record) → fed b (xs ++ r ∷ []) ≡ fed_one (fed b xs) r
fed_more b xs r = fold-append fed_one b xs (r ∷ [])

first_one : (b : Fed) (r : Record) → is_next b r ≡ true → first_out b (r ∷ []) ≡ None
first_one b r h = rw (h) refl

first_stops : (b : Fed) (r : Record) (records : List Record) → is_next b r ≡ false → first_out b (r ∷ records) ≡ Some b.roll.next
first_stops b r records h = rw (h) refl

-- ---- how far a loop has come

-- of all records some are taken, and these are left
pub record IsTaking (s : Roll) (p : Frames) (all left : List Record) (now : Roll) (q : Frames) : Type 0 where
  pub done : List Record
  pub parts : all ≡ done ++ left
  pub so : (v : ℕ → ℕ → Page) → Shows s.config p v → HasTaken s.config (fed_from s v) done now q

pub taking_begun : (s : Roll) (p : Frames) (all : List Record) → IsTaking s p all all s p
taking_begun s p all = record { done = []; parts = refl; so = λ v shows. record { in_place = refl; roll = refl; shows = shows } }

module _ (s : Roll) (p : Frames) (all : List Record) (now : Roll) (q : Frames) where
  pub taking_done : (left : List Record) → left ≡ [] → IsTaking s p all left now q → (v : ℕ → ℕ → Page) → Shows s.config p v → HasTaken s.config (fed_from s v) all now q
  taking_done left none t v shows =
      let whole : t.done ≡ all = sym (append-nil t.done) ∙ ap (λ (l : List Record). t.done ++ l) (sym none) ∙ sym t.parts in
      subst (λ (l : List Record). HasTaken s.config (fed_from s v) l now q) whole (t.so v shows)

  module _ (r : Record) (left : List Record) (t : IsTaking s p all (r ∷ left) now q) (config : now.config ≡ s.config) where
    module _ (v : ℕ → ℕ → Page) (shows : Shows s.config p v) where
      abbrev b : Fed
      b = fed (fed_from s v) t.done

      so_far : HasTaken s.config (fed_from s v) t.done now q
      so_far = t.so v shows

      same : fed_from now b.pages ≡ b
      same = ap (λ (x : Roll). fed_from x b.pages) so_far.roll

      here : Shows now.config q b.pages
      here = subst (λ (c : Config). Shows c q b.pages) (sym config) so_far.shows

    -- the next one is in place, and taken
    pub taking_on : (new : Roll) (f : Frames) → new ≡ after now r
        → ((v : ℕ → ℕ → Page) → Shows now.config q v → is_next (fed_from now v) r ≡ true)
        → ((v : ℕ → ℕ → Page) → Shows now.config q v → Shows now.config f (pages_after (fed_from now v) r))
        → IsTaking s p all left new f
    taking_on new f step place pages = record {
      done = t.done ++ r ∷ [];
      parts = t.parts ∙ sym (append_assoc t.done (r ∷ []) left);
      so = λ v shows.
          let x = b v shows in
          let is : is_next x r ≡ true = subst (λ (y : Fed). is_next y r ≡ true) (same v shows) (place x.pages (here v shows)) in
          let more : fed (fed_from s v) (t.done ++ r ∷ []) ≡ fed_one x r = fed_more (fed_from s v) t.done r in
          let next : fed_one (fed_from now x.pages) r ≡ fed_one x r = ap (λ (y : Fed). fed_one y r) (same v shows) in
          let shown : Shows s.config f (pages_after (fed_from now x.pages) r) = subst (λ (c : Config). Shows c f (pages_after (fed_from now x.pages) r)) config (pages x.pages (here v shows)) in
          record {
            in_place = first_more (fed_from s v) t.done (r ∷ []) (so_far v shows).in_place ∙ first_one x r is;
            roll = step ∙ ap (λ (y : Fed). y.roll) (next ∙ sym more);
            shows = subst (λ (y : Fed). Shows s.config f y.pages) (next ∙ sym more) shown;
          };
    }

    -- the next one is not taken
    pub taking_stopped : (new : Roll) (f : Frames) → new ≡ now → ((v : ℕ → ℕ → Page) → Shows now.config q v → Shows now.config f v)
        → (v : ℕ → ℕ → Page) → Shows s.config p v → HasTakenSome s.config (fed_from s v) all new f
    taking_stopped new f unchanged pages v shows =
        let x = b v shows in
        record {
          taken = t.done;
          left = r ∷ left;
          parts = t.parts;
          so = record {
            in_place = (so_far v shows).in_place;
            roll = unchanged ∙ (so_far v shows).roll;
            shows = subst (λ (c : Config). Shows c f x.pages) config (pages x.pages (here v shows));
          };
        }

    -- since it is out of place
    pub taking_out : ((v : ℕ → ℕ → Page) → Shows now.config q v → is_next (fed_from now v) r ≡ false)
        → (v : ℕ → ℕ → Page) → Shows s.config p v → first_out (fed_from s v) all ≡ Some now.next
    taking_out out v shows =
        let x = b v shows in
        let is : is_next x r ≡ false = subst (λ (y : Fed). is_next y r ≡ false) (same v shows) (out x.pages (here v shows)) in
        ap (λ (l : List Record). first_out (fed_from s v) l) t.parts
        ∙ first_more (fed_from s v) t.done (r ∷ left) (so_far v shows).in_place
        ∙ first_stops x r left is
        ∙ ap (λ (y : Roll). Some y.next) (sym (so_far v shows).roll)

-- ---- the records up to a position

pub due_step : (next upto : ℕ) (r : Record) (records : List Record) → next ≤ upto → take (upto + 1 - next) (r ∷ records) ≡ r ∷ take (upto + 1 - (next + 1)) records
due_step next upto r records le =
    let e : upto + 1 - next ≡ suc (upto + 1 - (next + 1)) = omega arith in
    ap (λ (n : ℕ). take n (r ∷ records)) e

-- the next record, and those behind it up to a position
pub taking_next : (s : Roll) (p : Frames) (all : List Record) (now : Roll) (q : Frames) (upto : ℕ) (records : List Record) (r : Record) (rest : List Record) → records ≡ r ∷ rest → now.next ≤ upto
    → IsTaking s p all (take (upto + 1 - now.next) records) now q → IsTaking s p all (r ∷ take (upto + 1 - (now.next + 1)) rest) now q
taking_next s p all now q upto records r rest is le t =
    subst (λ (l : List Record). IsTaking s p all l now q) (ap (λ (l : List Record). take (upto + 1 - now.next) l) is ∙ due_step now.next upto r rest le) t

pub due_none : (next upto : ℕ) (records : List Record) → upto + 1 ≤ next → take (upto + 1 - next) records ≡ []
due_none next upto records le =
    let e : upto + 1 - next ≡ 0 = omega arith in
    ap (λ (n : ℕ). take n records) e

-- ---- records passed over

pub passed_all : (i n : ℕ) (records left : List Record) → left ≡ drop i records → left ≡ [] → i ≤ n → [] ≡ drop n records
passed_all i n records left is none le =
    let short : length records - i ≡ 0 = sym (length-drop i records) ∙ ap (λ (l : List Record). length l) (sym is ∙ none) in
    sym (drop_all n records (omega (arith, short, le)))

pub passed_one : (i : ℕ) (records left : List Record) (r : Record) → r ∷ left ≡ drop i records → left ≡ drop (i + 1) records
passed_one i records left r is = ap (λ (l : List Record). drop 1 l) is ∙ drop-drop 1 i records
