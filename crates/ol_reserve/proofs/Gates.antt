-- What each write to a page of the pair leaves of the newest anchor.
use Rattle.std.proofs.Common.{◌≡◌, inl, inr, ℕ, zero, suc, ◌+◌, ◌-◌, ◌<◌, List, [], ◌∷◌, length, get_or, drop, Bool, true, false, ◌==◌, None, Option, Some, refl, sym, ◌∙◌, subst, arith}
use Rattle.std.specs.Prelude.{MatchBool}
use Rattle.std.proofs.lemmas.Bool.{cases_eq}
use Rattle.std.proofs.lemmas.Bool.Decides.{nat_tests}
use Rattle.std.proofs.lemmas.List.{get_or-drop}
use Rattle.ol_ports.specs.Disk.{Bytes, Past, Rest, is_within, seen}
use Rattle.ol_ports.specs.Frames.{FramedIn, IsDurable, IsSettledIn, ReadsOutside, SameBut, TornFrom}
use Rattle.ol_ports.proofs.DiskLaws.{rest-seen, within-behind, within-elsewhere, within-front}
use Rattle.ol_ports.proofs.FrameLaws.{framed_wider, outside_durable}
use Rattle.ol_reserve.specs.Anchor.{IsAnchor, anchor_bytes}
use Rattle.ol_reserve.specs.Pair.{HasTarget, Holds, HoldsOlder, IsAbove, IsNewestAt, IsOneOf, IsReadyAt, IsShut, IsStaged, IsTarget, Newest, OtherHolds, is_pair, shut_target, target}
use Rattle.ol_reserve.specs.declared.anchor.Anchor.{Anchor}
use Rattle.ol_reserve.specs.declared.pair.Target.{Target}
use Rattle.ol_reserve.proofs.Fields.{gate_back}
use Rattle.ol_reserve.proofs.PairLaws.{holds_at, holds_by, holds_kept, in_pair, shut_kept}

back : (page : ℕ) → page < 2 → 1 - (1 - page) ≡ page
back page pair = omega arith

-- ---- the newest anchor, by what both pages hold

newest_by : (d : Bytes) (page : ℕ) → page < 2 → (now : Option Anchor) (b : Bool) → OtherHolds d (1 - page) now → MatchBool b (HoldsOlder d page now) (IsShut d page) → Newest d now
newest_by d page pair None true other older = absurd (let e = older.is in cc)
newest_by d zero pair None false other shut = (shut, other)
newest_by d (suc zero) pair None false other shut = (other, shut)
newest_by d (suc (suc n)) pair None false other shut = absurd (omega arith)
newest_by d page pair (Some a) true other older =
    let same : older.newest ≡ a = let e = older.is in cc in (
      1 - page,
      record {
        pair = omega arith;
        holds = other;
        other = inr (older.older, subst (λ (q : ℕ). Holds d q older.older) (sym (back page pair)) older.holds, subst (λ (n : Anchor). older.older.serial < n.serial) same older.below);
      },
    )
newest_by d page pair (Some a) false other shut =
    (1 - page, record { pair = omega arith; holds = other; other = inl (subst (λ (q : ℕ). IsShut d q) (sym (back page pair)) shut) })

pub newest_of : (d : Bytes) (now : Option Anchor) (t : Target) → IsTarget d now t → Newest d now
newest_of d now t is = newest_by d t.page is.pair now t.is_open is.other is.mine

-- ---- what a torn write leaves of the other page

other_moved : (d e : Bytes) (page : ℕ) (now : Option Anchor) → ((i : ℕ) → d 0 page i ≡ e 0 page i) → OtherHolds e page now → OtherHolds d page now
other_moved d e page None same shut = shut_kept d e page same shut
other_moved d e page (Some a) same holds = holds_kept d e page a same holds

other_kept : (page at n : ℕ) → page < 2 → (e d : Bytes) → SameBut (is_within 0 page at n) e d → (now : Option Anchor) → OtherHolds e (1 - page) now → OtherHolds d (1 - page) now
other_kept page at n pair e d same now other =
    let differs : 1 - page ≡ page → ⊥ = λ is. omega arith in
    other_moved d e (1 - page) now (λ i. same 0 (1 - page) i (within-elsewhere 0 page at n 0 (1 - page) i (λ _ is. differs is))) other

-- ---- the gate is closed, where it was open

pub closing : (old : Past) (now : Option Anchor) (page : ℕ) (d : Bytes) → HasTarget old now (target page true) → TornFrom old 0 page 0 1 d → Newest d now
closing old now page d ready from =
    let before = ready.each from.origin from.rest in
    let other = other_kept page 0 1 before.pair from.origin d from.same now before.other in
    let older = before.mine in
    elim (cases_eq (d 0 page 0) 1) [
      | inl opened ↦ newest_by d page before.pair now true other (record { newest = older.newest; is = older.is; older = older.older; below = older.below; holds = holds_by d page older.older older.holds.anchor (whole opened older) })
      | inr shut ↦ newest_by d page before.pair now false other shut
    ]
  where
    whole : d 0 page 0 ≡ 1 → (older : HoldsOlder from.origin page now) → (i : ℕ) → i < 2048 → d 0 page i ≡ get_or (anchor_bytes 1 older.older) i 0
    whole opened older zero lt = opened ∙ sym (gate_back 1 older.older)
    whole opened older (suc i) lt = from.same 0 page (suc i) (within-behind 0 page 0 1 (suc i) (omega arith)) ∙ holds_at from.origin page older.older older.holds (suc i) lt

pub closed : (old new : Past) (now : Option Anchor) (page : ℕ) → HasTarget old now (target page true) → ((d : Bytes) → Rest new d → TornFrom old 0 page 0 1 d) → IsDurable old new 0 page 0 (0 ∷ []) → HasTarget new now (shut_target page)
closed old new now page ready from durable = record {
  each = λ d rest.
      let f = from d rest in
      let before = ready.each f.origin f.rest in
      record {
        pair = before.pair;
        other = other_kept page 0 1 before.pair f.origin d f.same now before.other;
        mine = λ opened. let zero_gate : d 0 page 0 ≡ 0 = durable.settled d rest 0 page 0 refl ∙ durable.written 0 (omega arith) in omega arith;
      };
}

-- ---- the body is written behind the closed gate

pub staging : (old : Past) (now : Option Anchor) (page size : ℕ) (d : Bytes) → HasTarget old now (shut_target page) → TornFrom old 0 page 1 size d → IsTarget d now (shut_target page)
staging old now page size d ready from =
    let before = ready.each from.origin from.rest in
    record {
      pair = before.pair;
      other = other_kept page 1 size before.pair from.origin d from.same now before.other;
      mine = λ opened. before.mine (sym (from.same 0 page 0 (within-front 0 page 1 size 0 (omega arith))) ∙ opened);
    }

pub staged : (old new : Past) (now : Option Anchor) (page : ℕ) (body : List ℕ) → length body ≡ 2047 → HasTarget old now (shut_target page) → ((d : Bytes) → Rest new d → TornFrom old 0 page 1 (length body) d) → IsDurable old new 0 page 1 body → IsStaged new now page body
staged old new now page body size ready from durable = record {
  each = λ d rest. staging old now page (length body) d ready (from d rest);
  body = λ d rest i lt. durable.settled d rest 0 page (1 + i) refl ∙ durable.written i (omega arith);
}

-- ---- the gate is opened

whole_page : (d : Bytes) (page : ℕ) (a : Anchor) → IsAnchor a → d 0 page 0 ≡ 1 → ((i : ℕ) → i < 2047 → d 0 page (1 + i) ≡ get_or (drop 1 (anchor_bytes 1 a)) i 0) → Holds d page a
whole_page d page a is opened body = holds_by d page a is each
  where
    each : (i : ℕ) → i < 2048 → d 0 page i ≡ get_or (anchor_bytes 1 a) i 0
    each zero lt = opened ∙ sym (gate_back 1 a)
    each (suc i) lt =
        let at : 1 + i ≡ suc i = omega arith in
        subst (λ (k : ℕ). d 0 page k ≡ get_or (anchor_bytes 1 a) k 0) at (body i (omega arith) ∙ get_or-drop 1 (anchor_bytes 1 a) i 0)

-- behind the gate of a page that is torn at its gate alone stands the body that was staged
body_kept : (old : Past) (now : Option Anchor) (page : ℕ) (a : Anchor) (d : Bytes) → IsStaged old now page (drop 1 (anchor_bytes 1 a)) → TornFrom old 0 page 0 1 d → (i : ℕ) → i < 2047 → d 0 page (1 + i) ≡ get_or (drop 1 (anchor_bytes 1 a)) i 0
body_kept old now page a d stage from i lt = from.same 0 page (1 + i) (within-behind 0 page 0 1 (1 + i) (omega arith)) ∙ stage.body from.origin from.rest i lt

-- the page with the new anchor open is the newest
newest_new : (d : Bytes) (now : Option Anchor) (page : ℕ) (a : Anchor) → page < 2 → IsAbove now a.serial → OtherHolds d (1 - page) now → Holds d page a → IsNewestAt d page a
newest_new d None page a pair above other holds = record { pair = pair; holds = holds; other = inl other }
newest_new d (Some b) page a pair above other holds = record { pair = pair; holds = holds; other = inr (b, other, above) }

pub opening : (old : Past) (now : Option Anchor) (page : ℕ) (a : Anchor) (d : Bytes) → IsAnchor a → IsAbove now a.serial → IsStaged old now page (drop 1 (anchor_bytes 1 a)) → TornFrom old 0 page 0 1 d → IsOneOf now (Some a) d
opening old now page a d is above stage from =
    let before = stage.each from.origin from.rest in
    let other = other_kept page 0 1 before.pair from.origin d from.same now before.other in
    elim (cases_eq (d 0 page 0) 1) [
      | inl opened ↦ inr (page, newest_new d now page a before.pair above other (whole_page d page a is opened (body_kept old now page a d stage from)))
      | inr shut ↦ inl (newest_by d page before.pair now false other shut)
    ]

-- after a sync of the chunk of the pair both pages are settled
pub pair_settled : (past : Past) → IsSettledIn past (λ c p. c == 0) → IsSettledIn past is_pair
pair_settled past settled d rest c p i is = settled d rest c p i (grind (arith, nat_tests))

pub opened : (old new : Past) (now : Option Anchor) (page : ℕ) (a : Anchor) → IsAnchor a → IsAbove now a.serial → IsStaged old now page (drop 1 (anchor_bytes 1 a)) → ((d : Bytes) → Rest new d → TornFrom old 0 page 0 1 d) → IsDurable old new 0 page 0 (1 ∷ []) → IsReadyAt new page a
opened old new now page a is above stage from durable =
    let d = seen new in
    let f = from d (rest-seen new) in
    let before = stage.each f.origin f.rest in
    record {
      settled = pair_settled new durable.settled;
      newest = newest_new d now page a before.pair above (other_kept page 0 1 before.pair f.origin d f.same now before.other) (whole_page d page a is (durable.written 0 (omega arith)) (body_kept old now page a d stage f));
    }

-- ---- where it begins

-- every stop leaves both pages as they read
pub prepared : (past : Past) (now : Option Anchor) (t : Target) → IsSettledIn past is_pair → IsTarget (seen past) now t → HasTarget past now t
prepared past now t settled is = record {
  each = λ d rest. record {
    pair = is.pair;
    other = other_moved d (seen past) (1 - t.page) now (λ i. settled d rest 0 (1 - t.page) i (in_pair (1 - t.page) (omega (arith, is.pair)))) is.other;
    mine = moved_mine d t.is_open (λ i. settled d rest 0 t.page i (in_pair t.page is.pair)) is.mine;
  };
}
  where
    moved_mine : (d : Bytes) (b : Bool) → ((i : ℕ) → d 0 t.page i ≡ seen past 0 t.page i) → MatchBool b (HoldsOlder (seen past) t.page now) (IsShut (seen past) t.page) → MatchBool b (HoldsOlder d t.page now) (IsShut d t.page)
    moved_mine d true same older = record { newest = older.newest; is = older.is; older = older.older; below = older.below; holds = holds_kept d (seen past) t.page older.older same older.holds }
    moved_mine d false same shut = shut_kept d (seen past) t.page same shut

-- a write to a page of the pair leaves all else
pub framed_torn : (past : Past) (page offset size : ℕ) (d : Bytes) → page < 2 → TornFrom past 0 page offset size d → FramedIn past is_pair d
framed_torn past page offset size d pair t =
    framed_wider past (is_within 0 page offset size) (λ c p i. is_pair c p) d (λ c p i out. within-elsewhere 0 page offset size c p i (λ at same. absurd (grind (arith, nat_tests)))) t

-- and all else reads as before
pub outside_pair : (old new : Past) (page offset : ℕ) (bytes : List ℕ) → page < 2 → IsDurable old new 0 page offset bytes → ReadsOutside old new is_pair
outside_pair old new page offset bytes pair durable =
    outside_durable old new is_pair 0 page offset bytes durable (λ c p i out. within-elsewhere 0 page offset (length bytes) c p i (λ at same. absurd (grind (arith, nat_tests))))
