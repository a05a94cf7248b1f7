-- The records of a sound journal roll forward: none is out of place, and what is open and the pages are the journal's.
use Rattle.std.specs.Prelude.{All, Bool, List, None, Option, Some, [], bytes_eq, drop, false, fold, if◌then◌else◌, is_some, length, max, min, nat_le, nat_lt, not, option_map, refl, slice_get, slice_index_or, suc, take, true, unwrap_or, zero, ℕ, ◌&&◌, ◌++◌, ◌+◌, ◌<◌, ◌==◌, ◌^◌, ◌||◌, ◌∷◌, ◌≡◌, ◌≤◌, ◌⊎◌}
use Rattle.std.proofs.Common.{ap, append-nil, append_assoc, arith, inl, inr, length-append, subst, sym, ◌∙◌}
use Rattle.std.proofs.lemmas.Bool.{and_from, and_parts, cases_Bool, eq-eqb, eqb-true, le-leb, le-ltb, leb-false, leb-true, lt-ltb, ltb-false, ltb-true, not-true}
use Rattle.std.proofs.lemmas.List.{length-take, take-append-drop, take_all, take_at}
use Rattle.std.proofs.lemmas.List.Elements.{All-cons, All-nil, All-weaker}
use Rattle.std.proofs.lemmas.List.Sums.{fold-append}
use Rattle.ol_values.specs.declared.record.Record.{Record}
use Rattle.ol_values.specs.declared.record.Record.TheVariants.{Begin as BeginRecord, Change, Commit as CommitRecord, Rolled, Undo}
use Rattle.ol_values.specs.declared.record.Rid.{Rid}
use Rattle.ol_values.specs.declared.row.Row.{Row}
use Rattle.ol_values.specs.Config.{Config, has_page, has_place, log_pages}
use Rattle.ol_values.specs.Pages.{Page, blank}
use Rattle.ol_rules.specs.Journal.{page_at, page_from, row_after, row_at, touches}
use Rattle.ol_rules.specs.Sound.{Before, IsNewChange, IsNewUndo, IsOne, Meets, Sound, SoundFrom, after, afterwards, start}
use Rattle.ol_rules.specs.Transactions.{Ascending, BeginsFrom, Txn, numbered_from, open_at, owed, txn_numbered, txns_after, txns_from}
use Rattle.ol_laws.proofs.Found.{some_is}
use Rattle.ol_laws.proofs.JournalLaws.{page_at-untouched, row_at-push, same_self}
use Rattle.ol_laws.proofs.NeedLaws.{from_records}
use Rattle.ol_laws.proofs.PageLaws.{page_from-append}
use Rattle.ol_laws.proofs.SoundLaws.{fine, last_after, rows_of, sound_split, txns_of}
use Rattle.ol_laws.proofs.TxnLaws.{Gives, InOrder, all_after, distinct, in_order_after}
use Rattle.ol_stand_laws.proofs.PageMoves.{other_stays}
use Rattle.ol_stand_laws.proofs.PageSlots.{slot_of_journal}
use Rattle.ol_stand_laws.proofs.SoundPages.{slots_whole}
use Rattle.ol_rollfwd.specs.Feeding.{Fed, fed, fed_from, fed_one, first_out, held_at, is_next, pages_after}
use Rattle.ol_rollfwd.specs.Journals.{ArePagesAt, IsReadOf, losers_of, reading}
use Rattle.ol_rollfwd.specs.Losers.{Loser, begins_with, is_forward, is_newest, is_one, is_taken_back, loser_numbered, losers_after, owed_of, same_value}
use Rattle.ol_rollfwd.specs.Rolls.{Roll, applied, due_place, has_room, is_begin, is_below, is_due, is_in_place, is_passed, keeps_rules, least_cut, lesser, place_due, place_moved, row_left, txn_of}
use Rattle.ol_rollfwd.specs.Rolls.{after as after_roll, with_losers}
use Rattle.ol_rollfwd.proofs.FrameLaws.{IsAt, moved_at}
use Rattle.ol_rollfwd.proofs.TxnSteps.{IsFrom, ascending_from, fewer, find_kept, found_from, from_all, from_low, losers_step, new_from, none_from, nothing_new, one_kept, owed_kept}

-- ---- tests

or_right : (a b : Bool) → b ≡ true → (a || b) ≡ true
or_right true b h = refl
or_right false b h = h

or_left : (a b : Bool) → a ≡ true → (a || b) ≡ true
or_left true b h = refl
or_left false b h = absurd (let clash : false ≡ true = h in cc)

same_bytes : (row : List ℕ) → bytes_eq row row ≡ true
same_bytes [] = refl
same_bytes (b ∷ row) = and_from _ _ (same_self b) (same_bytes row)

same_as_self : (o : Option Row) → same_value o o ≡ true
same_as_self None = refl
same_as_self (Some row) = same_bytes row

-- ---- the least cut

-- no cut is less than this
abbrev AtMost : Option ℕ → ℕ → Type 0
AtMost None cut = Unit {0}
AtMost (Some least) cut = least ≤ cut

some_stays : (cuts : List (Option ℕ)) (acc : Option ℕ) (cut : ℕ) → (n : ℕ) → acc ≡ Some n → n ≤ cut → unwrap_or (fold lesser acc cuts) 0 ≤ cut
some_stays [] acc cut n e le = let f : unwrap_or acc 0 ≡ n = ap (λ (o : Option ℕ). unwrap_or o 0) e in omega (arith, f, le)
some_stays (None ∷ cuts) acc cut n e le = some_stays cuts (lesser acc None) cut n (ap (λ (o : Option ℕ). lesser o None) e) le
some_stays (Some m ∷ cuts) acc cut n e le = some_stays cuts (lesser acc (Some m)) cut (min n m) (ap (λ (o : Option ℕ). lesser o (Some m)) e) (omega (arith, le))

least_from : (cuts : List (Option ℕ)) (acc : Option ℕ) (space cut : ℕ) → slice_index_or cuts space None ≡ Some cut → unwrap_or (fold lesser acc cuts) 0 ≤ cut
least_from [] acc space cut e = absurd (let f : None ≡ Some cut = e in cc)
least_from (o ∷ cuts) acc zero cut e = here o acc e
  where
    here : (o acc : Option ℕ) → o ≡ Some cut → unwrap_or (fold lesser (lesser acc o) cuts) 0 ≤ cut
    here None acc f = absurd (let g : None ≡ Some cut = f in cc)
    here (Some m) None f = some_stays cuts (lesser None (Some m)) cut m refl (let g : m ≡ cut = cc in omega (arith, g))
    here (Some m) (Some n) f = some_stays cuts (lesser (Some n) (Some m)) cut (min n m) refl (let g : m ≡ cut = cc in omega (arith, g))
least_from (o ∷ cuts) acc (suc space) cut e = least_from cuts (lesser acc o) space cut e

pub least_le : (cuts : List (Option ℕ)) (space cut : ℕ) → slice_index_or cuts space None ≡ Some cut → least_cut cuts ≤ cut
least_le cuts space cut e = least_from cuts None space cut e

-- ---- what is due

due_cut : (o : Option ℕ) (n : ℕ) → is_below o n ≡ true → (cut : ℕ) × (o ≡ Some cut) × (cut < n)
due_cut None n e = absurd (let clash : false ≡ true = e in cc)
due_cut (Some cut) n e = (cut, refl, ltb-true cut n e)

-- a record that is not passed over, and due at a place that is there, moves it
moved_is : (s : Roll) (r : Record) (rid : Rid) → IsAt r rid → is_passed s r ≡ false → is_due s rid.space ≡ true → has_place s.config rid ≡ true → place_moved s r ≡ Some rid
moved_is s r rid is here due has = rw (here) (by r is)
  where
    there : due_place s rid ≡ Some rid
    there = rw (due, has) refl

    by : (r : Record) → IsAt r rid → place_due s r ≡ Some rid
    by (BeginRecord n) is = absurd is
    by (Change n at before after) is = subst (λ (a : Rid). due_place s a ≡ Some rid) (sym is) there
    by (Undo n at value) is = subst (λ (a : Rid). due_place s a ≡ Some rid) (sym is) there
    by (CommitRecord n) is = absurd is
    by (Rolled n) is = absurd is

-- a record that is not due at its place moves none
not_moved : (s : Roll) (r : Record) (rid : Rid) → IsAt r rid → is_due s rid.space ≡ false → place_moved s r ≡ None
not_moved s r rid is due = by (is_passed s r)
  where
    there : due_place s rid ≡ None
    there = rw (due) refl

    of : (r : Record) → IsAt r rid → place_due s r ≡ None
    of (BeginRecord n) is = refl
    of (Change n at before after) is = subst (λ (a : Rid). due_place s a ≡ None) (sym is) there
    of (Undo n at value) is = subst (λ (a : Rid). due_place s a ≡ None) (sym is) there
    of (CommitRecord n) is = refl
    of (Rolled n) is = refl

    by : (b : Bool) → (if b then None else place_due s r) ≡ None
    by true = refl
    by false = of r is

-- the place of a record that touches a page
touched_at : (r : Record) (space page : ℕ) → touches space page r ≡ true → (rid : Rid) × IsAt r rid × (rid.space ≡ space) × (rid.page ≡ page)
touched_at (BeginRecord n) space page e = absurd (let clash : false ≡ true = e in cc)
touched_at (Change n rid before after) space page e = let p = and_parts (rid.space == space) (rid.page == page) e in (rid, refl, eqb-true rid.space space p.0, eqb-true rid.page page p.1)
touched_at (Undo n rid value) space page e = let p = and_parts (rid.space == space) (rid.page == page) e in (rid, refl, eqb-true rid.space space p.0, eqb-true rid.page page p.1)
touched_at (CommitRecord n) space page e = absurd (let clash : false ≡ true = e in cc)
touched_at (Rolled n) space page e = absurd (let clash : false ≡ true = e in cc)

-- the place of a sound record is there
there_is : (c : Config) (b : Before) (r : Record) (rid : Rid) → Meets c b r → IsAt r rid → has_place c rid ≡ true
there_is c b (BeginRecord n) rid m is = absurd is
there_is c b (Change n at before after) rid m is = subst (λ (a : Rid). has_place c a ≡ true) is (some_is (txn_numbered n b.txns) m (λ t k. k.there))
there_is c b (Undo n at value) rid m is = subst (λ (a : Rid). has_place c a ≡ true) is (some_is (txn_numbered n b.txns) m (λ t k. k.there))
there_is c b (CommitRecord n) rid m is = absurd is
there_is c b (Rolled n) rid m is = absurd is

any_one : (P : Txn → Type 0) (o : Option Txn) → IsOne o P → IsOne o (λ (t : Txn). Unit {0})
any_one P None h = h
any_one P (Some t) h = tt

-- a sound record but a Begin is of an open transaction
open_is : (c : Config) (b : Before) (r : Record) → is_begin r ≡ false → Meets c b r → IsOne (txn_numbered (txn_of r) b.txns) (λ (t : Txn). Unit {0})
open_is c b (BeginRecord n) e m = absurd (let clash : true ≡ false = e in cc)
open_is c b (Change n rid before after) e m = any_one (IsNewChange c b n rid before after) (txn_numbered n b.txns) m
open_is c b (Undo n rid value) e m = any_one (IsNewUndo c rid value) (txn_numbered n b.txns) m
open_is c b (CommitRecord n) e m = any_one (λ (t : Txn). t.undone ≡ false) (txn_numbered n b.txns) m
open_is c b (Rolled n) e m = any_one (λ (t : Txn). t.pending ≡ []) (txn_numbered n b.txns) m

-- a place that is moved is there, and due
due_parts : (s : Roll) (at rid : Rid) → due_place s at ≡ Some rid → at ≡ rid → (has_place s.config rid ≡ true) × (is_due s rid.space ≡ true)
due_parts s at rid e same = by (is_due s at.space && has_place s.config at) refl e
  where
    by : (b : Bool) → (is_due s at.space && has_place s.config at) ≡ b → (if b then Some at else None) ≡ Some rid → (has_place s.config rid ≡ true) × (is_due s rid.space ≡ true)
    by true h f =
        let p = and_parts (is_due s at.space) (has_place s.config at) h in
        (subst (λ (a : Rid). has_place s.config a ≡ true) same p.1, subst (λ (a : Rid). is_due s a.space ≡ true) same p.0)
    by false h f = absurd (let g : None ≡ Some rid = f in cc)

place_parts : (s : Roll) (r : Record) (rid : Rid) → place_due s r ≡ Some rid → IsAt r rid → (has_place s.config rid ≡ true) × (is_due s rid.space ≡ true)
place_parts s (BeginRecord n) rid e is = absurd is
place_parts s (Change n at before row) rid e is = due_parts s at rid e is
place_parts s (Undo n at value) rid e is = due_parts s at rid e is
place_parts s (CommitRecord n) rid e is = absurd is
place_parts s (Rolled n) rid e is = absurd is

pub moved_parts : (s : Roll) (r : Record) (rid : Rid) → place_moved s r ≡ Some rid → (has_place s.config rid ≡ true) × (is_due s rid.space ≡ true)
moved_parts s r rid e = by (is_passed s r) e
  where
    by : (b : Bool) → (if b then None else place_due s r) ≡ Some rid → (has_place s.config rid ≡ true) × (is_due s rid.space ≡ true)
    by true f = absurd (let g : None ≡ Some rid = f in cc)
    by false f = place_parts s r rid f (moved_at s r rid e)

-- the place of a record that keeps the rules is there
kept_there : (s : Roll) (held : Option Row) (r : Record) (rid : Rid) → keeps_rules s held r ≡ true → IsAt r rid → has_place s.config rid ≡ true
kept_there s held (BeginRecord n) rid k is = absurd is
kept_there s held (Change n at before row) rid k is =
    let p = and_parts (is_one (loser_numbered n s.losers) is_forward) _ k in
    subst (λ (a : Rid). has_place s.config a ≡ true) is (and_parts (has_place s.config at) _ p.1).0
kept_there s held (Undo n at value) rid k is = subst (λ (a : Rid). has_place s.config a ≡ true) is (and_parts (is_one (loser_numbered n s.losers) (is_newest at value)) (has_place s.config at) k).1
kept_there s held (CommitRecord n) rid k is = absurd is
kept_there s held (Rolled n) rid k is = absurd is

or_parts_of : (a b : Bool) → a ≡ false → (a || b) ≡ true → b ≡ true
or_parts_of a b e h = rw (e) at h

none_applied : (o : Option Rid) (row : Option Row) → (let p : Rid → Rid × Option Row = λ rid. (rid, row) in option_map p o ≡ None) → o ≡ None
none_applied None row e = refl
none_applied (Some rid) row e = absurd (let p : Rid × Option Row = (rid, row) in let f : Some p ≡ None = e in cc)

-- a record that is in place and not applied touches no page that lacks it
pub rest_untouched : (s : Roll) (held : Option Row) (r : Record) (space page : ℕ) → is_in_place s held r ≡ true → applied s r ≡ None → s.least < s.next → is_due s space ≡ true → touches space page r ≡ false
rest_untouched s held r space page in_place none behind due =
    elim (cases_Bool (touches space page r)) [
      | inr e ↦ e
      | inl touched ↦
          absurd (let at = touched_at r space page touched in
          let np : is_passed s r ≡ false =
          elim (cases_Bool (is_passed s r)) [
            | inl e ↦
                absurd (let one = and_parts (not (is_begin r)) (nat_lt (txn_of r) s.low && nat_le s.next s.least) e in
                let two = and_parts (nat_lt (txn_of r) s.low) (nat_le s.next s.least) one.1 in
                omega (arith, leb-true s.next s.least two.1, behind))
            | inr e ↦ e
          ] in
          let kept = and_parts (keeps_rules s held r) _ (or_parts_of (is_passed s r) _ np in_place) in
          let here : is_due s at.0.space ≡ true = ap (λ n. is_due s n) at.2 ∙ due in
          let moved : place_moved s r ≡ Some at.0 = moved_is s r at.0 at.1 np here (kept_there s held r at.0 kept.0 at.1) in
          let clash : None ≡ Some at.0 = sym (none_applied (place_moved s r) (row_left r) none) ∙ moved in
          cc)
    ]

-- ---- the records that are read

mid_false : (a b d : Bool) → b ≡ false → (a && (b && d)) ≡ false
mid_false true b d h = rw (h) refl
mid_false false b d h = refl

newest_is : (rid : Rid) (value : Option Row) (l : List (Rid × Option Row)) → slice_get l 0 ≡ Some (rid, value) → begins_with rid value l ≡ true
newest_is rid value [] e = absurd (let p : Rid × Option Row = (rid, value) in let f : None ≡ Some p = e in cc)
newest_is rid value (q ∷ l) e =
    let same : q ≡ (let p : Rid × Option Row = (rid, value) in p) = cc in
    subst (λ (o : Rid × Option Row). begins_with rid value (o ∷ l) ≡ true) (sym same)
    (and_from _ _ (and_from _ _ (same_self rid.space) (and_from _ _ (same_self rid.page) (same_self rid.slot))) (same_as_self value))

-- how far the roll forward has come, with the open transactions of the journal
abbrev pub roll_at : Config → ℕ → List (Option ℕ) → ℕ → List Txn → Roll
roll_at c low cuts last txns = record { config = c; low = low; cuts = cuts; least = least_cut cuts; next = last + 1; losers = losers_of (numbered_from low txns) }

-- behind a first part of the journal, with what is left of it
record Along (c : Config) (past journal : List Record) (cuts : List (Option ℕ)) (p rest : List Record) (x : Before) (pages : ℕ → ℕ → Page) : Type 0 where
  parts : p ++ rest ≡ journal
  from : length past ≤ length p
  last : x.last ≡ length p
  order : InOrder x.txns x.last
  rows : (place : Rid) → x.row place ≡ row_at p place
  txns : x.txns ≡ open_at p
  sound : SoundFrom c x rest
  above : least_cut cuts ≤ x.last → All (IsFrom (length past + 1)) x.txns
  pages_are : ArePagesAt c journal cuts (length p) pages

part_at : (p rest journal : List Record) → p ++ rest ≡ journal → take (length p) journal ≡ p
part_at p rest journal e = ap (λ (l : List Record). take (length p) l) (sym e) ∙ take_at p rest (length p) refl

module _ (c : Config) (past journal : List Record) (cuts : List (Option ℕ)) (at_cut : All (IsFrom (length past + 1)) (open_at (take (least_cut cuts) journal))) where
  abbrev low : ℕ
  low = length past + 1

  module _ (p rest : List Record) (x : Before) (pages : ℕ → ℕ → Page) where
    abbrev s : Roll
    s = roll_at c low cuts x.last x.txns

    module _ (last : x.last ≡ length p) (part : take (length p) journal ≡ p) (rows : (place : Rid) → x.row place ≡ row_at p place) (pages_at : ArePagesAt c journal cuts (length p) pages) where
      -- a slot of a page that is due holds what the journal has there
      slot_is : (rid : Rid) → has_place c rid ≡ true → is_due s rid.space ≡ true → slice_index_or (pages rid.space rid.page).slots rid.slot None ≡ x.row rid
      slot_is rid has due =
          let parts = and_parts (has_page c rid.space rid.page) (nat_lt rid.slot 31) has in
          let d = due_cut (slice_index_or cuts rid.space None) (x.last + 1) due in
          let n : max d.0 (length p) ≡ length p = omega (arith, d.2, last) in
          let here : pages rid.space rid.page ≡ page_at p rid.space rid.page =
          pages_at rid.space rid.page d.0 parts.0 d.1 ∙ ap (λ k. page_at (take k journal) rid.space rid.page) n ∙ ap (λ (l : List Record). page_at l rid.space rid.page) part in
          ap (λ (q : Page). slice_index_or q.slots rid.slot None) here ∙ slot_of_journal p rid.space rid.page rid.slot (ltb-true rid.slot 31 parts.1) ∙ sym (rows rid)

      keeps : (r : Record) → Meets c x r → is_passed s r ≡ false → low ≤ txn_of r → keeps_rules s (held_at pages (place_moved s r)) r ≡ true
      keeps (BeginRecord n) m np le =
          and_from _ _ (eq-eqb n (x.last + 1) m.0) (lt-ltb (length (losers_of (numbered_from low x.txns))) 16 (omega (arith, m.1, fewer low x.txns)))
      keeps (Change n rid before row) m np le =
          let r = Change n rid before row in
          let forward : is_one (loser_numbered n s.losers) is_forward ≡ true =
          ap (λ (o : Option Loser). is_one o is_forward) (find_kept low n x.txns le) ∙ one_kept (IsNewChange c x n rid before row) is_forward (txn_numbered n x.txns) (λ t k. ap not k.forward) m in
          let has : has_place c rid ≡ true = there_is c x r rid m refl in
          let was : before ≡ x.row rid = some_is (txn_numbered n x.txns) m (λ t k. k.held) in
          let held : (not (is_due s rid.space) || same_value before (held_at pages (place_moved s r))) ≡ true =
          elim (cases_Bool (is_due s rid.space)) [
            | inl due ↦
                or_right (not (is_due s rid.space)) _
                (ap (λ (o : Option Row). same_value before o) (ap (held_at pages) (moved_is s r rid refl np due has) ∙ slot_is rid has due ∙ sym was) ∙ same_as_self before)
            | inr due ↦ or_left _ _ (ap not due)
          ] in
          and_from _ _ forward (and_from _ _ has held)
      keeps (Undo n rid value) m np le =
          let newest : is_one (loser_numbered n s.losers) (is_newest rid value) ≡ true =
          ap (λ (o : Option Loser). is_one o (is_newest rid value)) (find_kept low n x.txns le) ∙ one_kept (IsNewUndo c rid value) (is_newest rid value) (txn_numbered n x.txns) (λ t k. newest_is rid value t.pending k.newest) m in
          and_from _ _ newest (there_is c x (Undo n rid value) rid m refl)
      keeps (CommitRecord n) m np le =
          ap (λ (o : Option Loser). is_one o is_forward) (find_kept low n x.txns le) ∙ one_kept (λ (t : Txn). t.undone ≡ false) is_forward (txn_numbered n x.txns) (λ t k. ap not k) m
      keeps (Rolled n) m np le =
          ap (λ (o : Option Loser). is_one o is_taken_back) (find_kept low n x.txns le)
          ∙ one_kept (λ (t : Txn). t.pending ≡ []) is_taken_back (txn_numbered n x.txns) (λ t k. ap (λ (l : List (Rid × Option Row)). length l == 0) k) m

    module _ (r : Record) (a : Along c past journal cuts p (r ∷ rest) x pages) where
      abbrev f : Fed
      f = fed_from s pages

      begins : (r : Record) → Meets c x r → BeginsFrom low r
      begins (BeginRecord n) m = omega (arith, m.0, a.from, a.last)
      begins (Change n rid before after) m = tt
      begins (Undo n rid value) m = tt
      begins (CommitRecord n) m = tt
      begins (Rolled n) m = tt

      kept : numbered_from low (txns_after x.txns r) ≡ txns_after (numbered_from low x.txns) r
      kept = from_records low x.txns (r ∷ []) (All-cons (BeginsFrom low) r [] (begins r a.sound.0) (All-nil (BeginsFrom low)))

      stepped : losers_after s.losers r ≡ losers_of (numbered_from low (txns_after x.txns r))
      stepped = sym (losers_step (numbered_from low x.txns) r (distinct (numbered_from low x.txns) (ascending_from low x.txns a.order.ascending))) ∙ ap losers_of (sym kept)

      room : has_room s (owed_of (losers_after s.losers r)) ≡ true
      room =
          let due = owed_of (losers_after s.losers r) in
          let most : due ≤ owed (txns_after x.txns r) = (let e : due ≡ owed_of (losers_of (numbered_from low (txns_after x.txns r))) = ap owed_of stepped in omega (arith, e, owed_kept low (txns_after x.txns r))) in
          and_from _ _ (le-leb due (log_pages c) (omega (arith, most, a.sound.1.0))) (lt-ltb (x.last + 1 + due) (2 ^ 62) (omega (arith, most, a.sound.1.1)))

      -- a record of a transaction below the first position is passed over
      passed : is_begin r ≡ false → txn_of r < low → is_passed s r ≡ true
      passed e lt =
          let near : nat_le (x.last + 1) (least_cut cuts) ≡ true =
          elim (cases_Bool (nat_le (x.last + 1) (least_cut cuts))) [
            | inl h ↦ h
            | inr h ↦ absurd (let le = found_from low (txn_of r) (λ (t : Txn). Unit {0}) x.txns (a.above (omega (arith, leb-false (x.last + 1) (least_cut cuts) h))) (open_is c x r e a.sound.0) in omega (arith, le, lt))
          ] in
          and_from _ _ (ap not e) (and_from _ _ (lt-ltb (txn_of r) low lt) near)

      not_passed : low ≤ txn_of r → is_passed s r ≡ false
      not_passed le = mid_false (not (is_begin r)) (nat_lt (txn_of r) low) (nat_le (x.last + 1) (least_cut cuts)) (le-ltb (txn_of r) low le)

      begin_le : (r : Record) → Meets c x r → is_begin r ≡ true → low ≤ txn_of r
      begin_le (BeginRecord n) m e = begins (BeginRecord n) m
      begin_le (Change n rid before after) m e = absurd (let clash : false ≡ true = e in cc)
      begin_le (Undo n rid value) m e = absurd (let clash : false ≡ true = e in cc)
      begin_le (CommitRecord n) m e = absurd (let clash : false ≡ true = e in cc)
      begin_le (Rolled n) m e = absurd (let clash : false ≡ true = e in cc)

      -- it is passed over, or its transaction is at least the first position
      which : (is_passed s r ≡ true) ⊎ (low ≤ txn_of r)
      which =
          elim (cases_Bool (is_begin r)) [
            | inl e ↦ inr (begin_le r a.sound.0 e)
            | inr e ↦ elim (cases_Bool (nat_lt (txn_of r) low)) [ inl h ↦ inl (passed e (ltb-true (txn_of r) low h)) | inr h ↦ inr (ltb-false (txn_of r) low h) ]
          ]

      in_place : is_next f r ≡ true
      in_place =
          elim which [
            | inl e ↦ or_left _ _ e
            | inr le ↦ or_right _ _ (and_from _ _ (keeps a.last (part_at p (r ∷ rest) journal a.parts) a.rows a.pages_are r a.sound.0 (not_passed le) le) room)
          ]

      next_losers : (if is_passed s r then s.losers else losers_after s.losers r) ≡ losers_of (numbered_from low (txns_after x.txns r))
      next_losers = by (is_passed s r) refl
        where
          by : (b : Bool) → is_passed s r ≡ b → (if b then s.losers else losers_after s.losers r) ≡ losers_of (numbered_from low (txns_after x.txns r))
          by false e = stepped
          by true e =
              let one = and_parts (not (is_begin r)) (nat_lt (txn_of r) low && nat_le (x.last + 1) (least_cut cuts)) e in
              let two = and_parts (nat_lt (txn_of r) low) (nat_le (x.last + 1) (least_cut cuts)) one.1 in
              ap losers_of (sym (kept ∙ nothing_new (numbered_from low x.txns) r (not-true (is_begin r) one.0) (new_from low (txn_of r) x.txns (ltb-true (txn_of r) low two.0))))

      roll_next : after_roll s r ≡ roll_at c low cuts (x.last + 1) (txns_after x.txns r)
      roll_next = ap (λ (l : List Loser). with_losers s l) next_losers

      -- ---- pages

      part : take (length p) journal ≡ p
      part = part_at p (r ∷ rest) journal a.parts

      more : (p ++ r ∷ []) ++ rest ≡ journal
      more = append_assoc p (r ∷ []) rest ∙ a.parts

      length_more : length (p ++ r ∷ []) ≡ length p + 1
      length_more = length-append p (r ∷ [])

      part_more : take (length p + 1) journal ≡ p ++ r ∷ []
      part_more = ap (λ n. take n journal) (sym length_more) ∙ part_at (p ++ r ∷ []) rest journal more

      module _ (space page cut : ℕ) (has : has_page c space page ≡ true) (cut_is : slice_index_or cuts space None ≡ Some cut) where
        abbrev v : Page
        v = pages space page

        old : v ≡ page_at (take (max cut (length p)) journal) space page
        old = a.pages_are space page cut has cut_is

        whole : length v.slots ≡ 31
        whole = ap (λ (q : Page). length q.slots) old ∙ slots_whole blank 1 (take (max cut (length p)) journal) space page

        -- where the cut is not passed yet, the page is the same
        before_cut : length p + 1 ≤ cut → page_at (take (max cut (length p)) journal) space page ≡ page_at (take (max cut (length p + 1)) journal) space page
        before_cut le = ap (λ n. page_at (take n journal) space page) (let e : max cut (length p) ≡ max cut (length p + 1) = omega (arith, le) in e)

        behind_cut : cut ≤ length p → v ≡ page_at p space page
        behind_cut le = old ∙ ap (λ n. page_at (take n journal) space page) (let e : max cut (length p) ≡ length p = omega (arith, le) in e) ∙ ap (λ (l : List Record). page_at l space page) part

        new_page : cut ≤ length p → page_at (p ++ r ∷ []) space page ≡ page_at (take (max cut (length p + 1)) journal) space page
        new_page le = ap (λ (l : List Record). page_at l space page) (sym part_more) ∙ ap (λ n. page_at (take n journal) space page) (let e : length p + 1 ≡ max cut (length p + 1) = omega (arith, le) in e)

        same_page : touches space page r ≡ false → pages_after f r space page ≡ v
        same_page un = by (is_some (place_moved s r))
          where
            by : (b : Bool) → (if b then page_from v (x.last + 1) (r ∷ []) space page else v) ≡ v
            by true = other_stays v (x.last + 1) r space page whole un
            by false = refl

        page_next : pages_after f r space page ≡ page_at (take (max cut (length p + 1)) journal) space page
        page_next =
            elim (cases_Bool (touches space page r)) [
              | inr un ↦
                  elim (cases_Bool (nat_le cut (length p))) [
                    | inl h ↦ (let le = leb-true cut (length p) h in same_page un ∙ behind_cut le ∙ sym (page_at-untouched p r space page un) ∙ new_page le)
                    | inr h ↦ same_page un ∙ old ∙ before_cut (omega (arith, leb-false cut (length p) h))
                  ]
              | inl touched ↦
                  (let at = touched_at r space page touched in
                  let below : is_below (slice_index_or cuts at.0.space None) (x.last + 1) ≡ nat_lt cut (x.last + 1) =
                  ap (λ n. is_below (slice_index_or cuts n None) (x.last + 1)) at.2 ∙ ap (λ (o : Option ℕ). is_below o (x.last + 1)) cut_is in
                  elim (cases_Bool (nat_le cut (length p))) [
                    | inl h ↦
                        (let le = leb-true cut (length p) h in
                        let least = least_le cuts space cut cut_is in
                        let np : is_passed s r ≡ false =
                        elim (cases_Bool (is_passed s r)) [
                          | inl e ↦
                              absurd (let one = and_parts (not (is_begin r)) (nat_lt (txn_of r) low && nat_le (x.last + 1) (least_cut cuts)) e in
                              let two = and_parts (nat_lt (txn_of r) low) (nat_le (x.last + 1) (least_cut cuts)) one.1 in
                              omega (arith, leb-true (x.last + 1) (least_cut cuts) two.1, least, le, a.last))
                          | inr e ↦ e
                        ] in
                        let due : is_due s at.0.space ≡ true = below ∙ lt-ltb cut (x.last + 1) (omega (arith, le, a.last)) in
                        let moved = moved_is s r at.0 at.1 np due (there_is c x r at.0 a.sound.0 at.1) in
                        ap (λ (o : Option Rid). if is_some o then page_from v (x.last + 1) (r ∷ []) space page else v) moved
                        ∙ ap (λ (q : Page). page_from q (x.last + 1) (r ∷ []) space page) (behind_cut le)
                        ∙ ap (λ n. page_from (page_at p space page) n (r ∷ []) space page) (let e : x.last + 1 ≡ 1 + length p = omega (arith, a.last) in e)
                        ∙ sym (page_from-append blank 1 p (r ∷ []) space page)
                        ∙ new_page le)
                    | inr h ↦
                        (let lt = leb-false cut (length p) h in
                        let none = not_moved s r at.0 at.1 (below ∙ le-ltb cut (x.last + 1) (omega (arith, lt, a.last))) in
                        ap (λ (o : Option Rid). if is_some o then page_from v (x.last + 1) (r ∷ []) space page else v) none ∙ old ∙ before_cut (omega (arith, lt)))
                  ])
            ]

      -- behind it
      along_next : Along c past journal cuts (p ++ r ∷ []) rest (after x r) (pages_after f r)
      along_next = record {
        parts = more;
        from = omega (arith, a.from, length_more);
        last = omega (arith, a.last, length_more);
        order = in_order_after c x r a.order a.sound.0;
        rows = λ place. ap (λ (o : Option Row). row_after place o r) (a.rows place) ∙ sym (row_at-push p r place);
        txns = txns_now;
        sound = a.sound.2;
        above = λ le.
            elim (cases_Bool (nat_le (least_cut cuts) x.last)) [
              | inl h ↦ all_after (IsFrom low) x.txns r (gives r (begins r a.sound.0)) (a.above (leb-true (least_cut cuts) x.last h))
              | inr h ↦
                  (let e : least_cut cuts ≡ length (p ++ r ∷ []) = omega (arith, leb-false (least_cut cuts) x.last h, le, a.last, length_more) in
                  let here : take (least_cut cuts) journal ≡ p ++ r ∷ [] = ap (λ n. take n journal) e ∙ part_at (p ++ r ∷ []) rest journal more in
                  subst (λ (l : List Txn). All (IsFrom low) l) (ap (λ (l : List Record). open_at l) here ∙ sym txns_now) at_cut)
            ];
        pages_are = λ space page cut has cut_is. page_next space page cut has cut_is ∙ ap (λ n. page_at (take (max cut n) journal) space page) (sym length_more);
      }
        where
          txns_now : txns_after x.txns r ≡ open_at (p ++ r ∷ [])
          txns_now = ap (λ (l : List Txn). txns_after l r) a.txns ∙ sym (fold-append txns_after [] p (r ∷ []))

          gives : (r : Record) → BeginsFrom low r → Gives (IsFrom low) r
          gives (BeginRecord n) h = h
          gives (Change n rid before after) h = λ t le. le
          gives (Undo n rid value) h = λ t le. le
          gives (CommitRecord n) h = tt
          gives (Rolled n) h = tt

  -- all of them
  runs : (p rest : List Record) (x : Before) (pages : ℕ → ℕ → Page) → All (IsFrom low) (open_at journal) → Along c past journal cuts p rest x pages
      → (let f = fed_from (roll_at c low cuts x.last x.txns) pages in
      (first_out f rest ≡ None) × ((fed f rest).roll.losers ≡ losers_of (open_at journal)) × ArePagesAt c journal cuts (length journal) (fed f rest).pages)
  runs p [] x pages all a =
      let end_ : p ≡ journal = sym (append-nil p) ∙ a.parts in (
        refl,
        ap (λ (l : List Txn). losers_of (numbered_from low l)) (a.txns ∙ ap (λ (l : List Record). open_at l) end_) ∙ ap losers_of (from_all low (open_at journal) all),
        subst (λ (l : List Record). ArePagesAt c journal cuts (length l) pages) end_ a.pages_are,
      )
  runs p (r ∷ rest) x pages all a =
      let f = fed_from (roll_at c low cuts x.last x.txns) pages in
      let t = runs (p ++ r ∷ []) rest (after x r) (pages_after f r) all (along_next p rest x pages r a) in
      let same : fed_one f r ≡ fed_from (roll_at c low cuts (x.last + 1) (txns_after x.txns r)) (pages_after f r) = ap (λ (q : Roll). fed_from q (pages_after f r)) (roll_next p rest x pages r a) in (
        ap (λ (b : Bool). if b then first_out (fed_one f r) rest else Some (x.last + 1)) (in_place p rest x pages r a) ∙ ap (λ (g : Fed). first_out g rest) same ∙ t.0,
        ap (λ (g : Fed). (fed g rest).roll.losers) same ∙ t.1,
        subst (λ (g : Fed). ArePagesAt c journal cuts (length journal) (fed g rest).pages) (sym same) t.2,
      )

-- ---- from the first record that is read

module _ (c : Config) (past read : List Record) (cuts : List (Option ℕ)) (pages : ℕ → ℕ → Page) (is : IsReadOf c past read cuts pages) where
  abbrev all : List Record
  all = past ++ read

  sound_part : (n : ℕ) → Sound c (take n all)
  sound_part n = (sound_split c start (take n all) (drop n all) (subst (λ (l : List Record). Sound c l) (sym (take-append-drop n all)) is.sound)).0

  at_cut : All (IsFrom (length past + 1)) (open_at (take (least_cut cuts) all))
  at_cut =
      let q = take (least_cut cuts) all in
      let order = (fine c q (sound_part (least_cut cuts))).order in
      from_low (open_at q) (length q) (length past + 1) (subst Ascending (txns_of start q) order.ascending) (omega (arith, is.low))

  abbrev x : Before
  x = afterwards start past

  parts : SoundFrom c start past × SoundFrom c x read
  parts = sound_split c start past read is.sound

  x_last : x.last ≡ length past
  x_last = (let e : x.last ≡ 0 + length past = last_after start past in omega (arith, e))

  along : Along c past all cuts past read x pages
  along = record {
    parts = refl;
    from = omega arith;
    last = x_last;
    order = (fine c past parts.0).order;
    rows = λ place. rows_of start past place;
    txns = txns_of start past;
    sound = parts.1;
    above = λ le.
        let e : least_cut cuts ≡ length past = omega (arith, le, x_last, is.within) in
        let here : take (least_cut cuts) all ≡ past = ap (λ n. take n all) e ∙ part_at past read all refl in
        subst (λ (l : List Txn). All (IsFrom (length past + 1)) l) (ap (λ (l : List Record). open_at l) here ∙ sym (txns_of start past)) at_cut;
    pages_are = λ space page cut has cut_is.
        let le = least_le cuts space cut cut_is in
        is.pages_are space page cut has cut_is ∙ ap (λ n. page_at (take n all) space page) (let e : max cut 0 ≡ max cut (length past) = omega (arith, le, is.within) in e);
  }

  -- all transactions that are open in the end begin in what is read
  all_from : All (IsFrom (length past + 1)) (open_at all)
  all_from =
      let q = take (least_cut cuts) all in
      let rest = drop (least_cut cuts) all in
      let whole : q ++ rest ≡ all = take-append-drop (least_cut cuts) all in
      let more = sound_split c start q rest (subst (λ (l : List Record). Sound c l) (sym whole) is.sound) in
      let long : length past ≤ length q = omega (arith, length-take (least_cut cuts) all, length-append past read, is.within) in
      let last : (afterwards start q).last ≡ 0 + length q = last_after start q in
      subst (λ (l : List Txn). All (IsFrom (length past + 1)) l) (sym (fold-append txns_after [] q rest) ∙ ap (λ (l : List Record). open_at l) whole)
      (stay (afterwards start q) rest (omega (arith, long, last)) more.1 (open_at q) at_cut)
    where
      gives : (b : Before) (r : Record) → length past ≤ b.last → Meets c b r → Gives (IsFrom (length past + 1)) r
      gives b (BeginRecord n) le m = omega (arith, m.0, le)
      gives b (Change n rid before after) le m = λ t h. h
      gives b (Undo n rid value) le m = λ t h. h
      gives b (CommitRecord n) le m = tt
      gives b (Rolled n) le m = tt

      stay : (b : Before) (records : List Record) → length past ≤ b.last → SoundFrom c b records → (txns : List Txn) → All (IsFrom (length past + 1)) txns → All (IsFrom (length past + 1)) (txns_from txns records)
      stay b [] le s txns h = h
      stay b (r ∷ records) le s txns h = stay (after b r) records (omega (arith, le)) s.2 (txns_after txns r) (all_after (IsFrom (length past + 1)) txns r (gives b r le s.0) h)

  begins_so : reading c past cuts pages ≡ fed_from (roll_at c (length past + 1) cuts x.last x.txns) pages
  begins_so =
      let none : numbered_from (length past + 1) x.txns ≡ [] =
      none_from (length past + 1) x.txns (All-weaker (λ (t : Txn). t.number ≤ x.last) (λ (t : Txn). t.number < length past + 1) (λ t le. omega (arith, le, x_last)) x.txns (fine c past parts.0).order.within) in
      let at : ℕ → List Loser → Fed = λ n losers. fed_from (record { config = c; low = length past + 1; cuts = cuts; least = least_cut cuts; next = n; losers = losers }) pages in
      ap (λ n. at n []) (let e : length past + 1 ≡ x.last + 1 = omega (arith, x_last) in e) ∙ ap (λ (l : List Txn). at (x.last + 1) (losers_of l)) (sym none)

  run : (let f = reading c past cuts pages in (first_out f read ≡ None) × ((fed f read).roll.losers ≡ losers_of (open_at all)) × ArePagesAt c all cuts (length all) (fed f read).pages)
  run =
      subst (λ (f : Fed). (first_out f read ≡ None) × ((fed f read).roll.losers ≡ losers_of (open_at all)) × ArePagesAt c all cuts (length all) (fed f read).pages) (sym begins_so)
      (runs c past all cuts at_cut past read x pages all_from along)

  pub all_in_place : first_out (reading c past cuts pages) read ≡ None
  all_in_place = run.0

  pub losers_are : (fed (reading c past cuts pages) read).roll.losers ≡ losers_of (open_at all)
  losers_are = run.1

  pub pages_are : (space page cut : ℕ) → has_page c space page ≡ true → slice_index_or cuts space None ≡ Some cut → (fed (reading c past cuts pages) read).pages space page ≡ page_at all space page
  pages_are space page cut has cut_is =
      run.2 space page cut has cut_is ∙ ap (λ (l : List Record). page_at l space page) (take_all (max cut (length all)) all (omega arith))
