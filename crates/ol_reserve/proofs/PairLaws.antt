-- What the pair holds depends on its two pages alone.
use Rattle.std.proofs.Common.{◌≡◌, ⊎_elim, inl, inr, ◌⊎◌, ℕ, zero, suc, ◌-◌, ◌<◌, List, get_or, length, Bool, None, Option, Some, false, true, refl, sym, ◌∙◌, ap, subst, arith}
use Rattle.std.proofs.lemmas.Bool.Decides.{nat_tests}
use Rattle.ol_ports.specs.Disk.{Bytes, Past, Rest, page_list, seen}
use Rattle.ol_ports.specs.Frames.{FramedIn, IsSettledIn}
use Rattle.ol_ports.proofs.DiskLaws.{length-page_list, page_list-at, page_list-is}
use Rattle.ol_ports.proofs.FrameLaws.{settled_kept}
use Rattle.ol_reserve.specs.Anchor.{IsAnchor, anchor_bytes}
use Rattle.ol_reserve.specs.Pair.{Holds, IsNewestAt, IsReady, IsShut, Newest, is_pair}
use Rattle.ol_reserve.specs.declared.anchor.Anchor.{Anchor}
use Rattle.ol_reserve.proofs.Fields.{gate_back, length-anchor_bytes}
use Rattle.ol_reserve.proofs.OneAnchor.{one_anchor}

pub in_pair : (page : ℕ) → page < 2 → is_pair 0 page ≡ true
in_pair page lt = grind (arith, nat_tests)

-- ---- a page that holds an anchor, byte by byte

pub holds_at : (d : Bytes) (page : ℕ) (a : Anchor) → Holds d page a → (i : ℕ) → i < 2048 → d 0 page i ≡ get_or (anchor_bytes 1 a) i 0
holds_at d page a holds i lt = sym (page_list-at d 0 page i lt) ∙ ap (λ (l : List ℕ). get_or l i 0) holds.bytes

pub holds_by : (d : Bytes) (page : ℕ) (a : Anchor) → IsAnchor a → ((i : ℕ) → i < 2048 → d 0 page i ≡ get_or (anchor_bytes 1 a) i 0) → Holds d page a
holds_by d page a is each = record { anchor = is; bytes = sym (page_list-is d 0 page (anchor_bytes 1 a) (length-anchor_bytes 1 a is) (λ i lt. sym (each i lt))) }

-- a page that holds an anchor is not shut
pub holds_open : (d : Bytes) (page : ℕ) (a : Anchor) → Holds d page a → IsShut d page → ⊥
holds_open d page a holds shut = shut (holds_at d page a holds 0 (omega arith) ∙ gate_back 1 a)

-- ---- pages that read alike

pub holds_kept : (d e : Bytes) (page : ℕ) (a : Anchor) → ((i : ℕ) → d 0 page i ≡ e 0 page i) → Holds e page a → Holds d page a
holds_kept d e page a same holds = holds_by d page a holds.anchor (λ i lt. same i ∙ holds_at e page a holds i lt)

pub shut_kept : (d e : Bytes) (page : ℕ) → ((i : ℕ) → d 0 page i ≡ e 0 page i) → IsShut e page → IsShut d page
shut_kept d e page same shut opened = shut (sym (same 0) ∙ opened)

pub newest_kept : (d e : Bytes) (now : Option Anchor) → ((page i : ℕ) → page < 2 → d 0 page i ≡ e 0 page i) → Newest e now → Newest d now
newest_kept d e None same shut = (shut_kept d e 0 (λ i. same 0 i (omega arith)) shut.0, shut_kept d e 1 (λ i. same 1 i (omega arith)) shut.1)
newest_kept d e (Some a) same newest =
    let at = newest.1 in
    let here : (i : ℕ) → d 0 newest.0 i ≡ e 0 newest.0 i = λ i. same newest.0 i at.pair in
    let there : (i : ℕ) → d 0 (1 - newest.0) i ≡ e 0 (1 - newest.0) i = λ i. same (1 - newest.0) i (omega arith) in (
      newest.0,
      record {
        pair = at.pair;
        holds = holds_kept d e newest.0 a here at.holds;
        other = ⊎_elim (λ shut. inl (shut_kept d e (1 - newest.0) there shut)) (λ older. inr (older.0, holds_kept d e (1 - newest.0) older.0 there older.1, older.2)) at.other;
      },
    )

-- what a stop leaves of a pair that is ready has the same newest anchor
pub newest_seen : (past : Past) (now : Option Anchor) (d : Bytes) → IsReady past now → Rest past d → Newest d now
newest_seen past now d ready rest = newest_kept d (seen past) now (λ page i lt. ready.settled d rest 0 page i (in_pair page lt)) ready.newest

-- calls on other pages leave the pair ready
pub ready_kept : (old new : Past) (is_in : ℕ → ℕ → Bool) (now : Option Anchor) → ((page : ℕ) → page < 2 → is_in 0 page ≡ false) → ((d : Bytes) → Rest new d → FramedIn old is_in d) → IsReady old now → IsReady new now
ready_kept old new is_in now apart frame ready = record {
  settled = kept.0;
  newest = newest_kept (seen new) (seen old) now (λ page i lt. kept.1 0 page i (in_pair page lt)) ready.newest;
}
  where
    away : (c p i : ℕ) → is_pair c p ≡ true → is_in c p ≡ false
    away c p i pair =
        let chunk : c ≡ 0 = grind (arith, nat_tests) in
        let lt : p < 2 = grind (arith, nat_tests) in
        rw chunk (apart p lt)

    kept : IsSettledIn new is_pair × ((c p i : ℕ) → is_pair c p ≡ true → seen new c p i ≡ seen old c p i)
    kept = settled_kept old new is_pair (λ c p i. is_in c p) away ready.settled frame

-- ---- one anchor alone

pub one_held : (d : Bytes) (page : ℕ) (a b : Anchor) → Holds d page a → Holds d page b → a ≡ b
one_held d page a b p q = one_anchor a b p.anchor q.anchor (sym p.bytes ∙ q.bytes)

-- the page beside the newest anchor is shut or holds one with a lower serial
pub lower : (d : Bytes) (page : ℕ) (a b : Anchor) → IsNewestAt d page a → Holds d (1 - page) b → b.serial < a.serial
lower d page a b is holds =
    ⊎_elim (λ shut. absurd (holds_open d (1 - page) b holds shut))
    (λ older. omega (arith, ap (λ (x : Anchor). x.serial) (one_held d (1 - page) b older.0 holds older.1), older.2)) is.other

pub same_page : (d : Bytes) (p q : ℕ) (a b : Anchor) → IsNewestAt d p a → IsNewestAt d q b → p ≡ q
same_page d zero zero a b x y = refl
same_page d (suc zero) (suc zero) a b x y = refl
same_page d zero (suc zero) a b x y = absurd (omega (arith, lower d 0 a b x y.holds, lower d 1 b a y x.holds))
same_page d (suc zero) zero a b x y = absurd (omega (arith, lower d 1 a b x y.holds, lower d 0 b a y x.holds))
same_page d (suc (suc n)) q a b x y = absurd (let p = x.pair in omega arith)
same_page d p (suc (suc n)) a b x y = absurd (let q = y.pair in omega arith)

pub shut_holds : (d : Bytes) (a : Anchor) (page : ℕ) → IsNewestAt d page a → Newest d None → ⊥
shut_holds d a zero is none = holds_open d 0 a is.holds none.0
shut_holds d a (suc zero) is none = holds_open d 1 a is.holds none.1
shut_holds d a (suc (suc n)) is none = let p = is.pair in omega arith

-- the newest anchor of a pair is one
pub newest_one : (d : Bytes) (x y : Option Anchor) → Newest d x → Newest d y → x ≡ y
newest_one d None None p q = refl
newest_one d None (Some b) p q = absurd (shut_holds d b q.0 q.1 p)
newest_one d (Some a) None p q = absurd (shut_holds d a p.0 p.1 q)
newest_one d (Some a) (Some b) p q =
    let same = same_page d p.0 q.0 a b p.1 q.1 in
    ap (λ (x : Anchor). let o : Option Anchor = Some x in o) (one_held d q.0 a b (subst (λ (n : ℕ). Holds d n a) same p.1.holds) q.1.holds)
