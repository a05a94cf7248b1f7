-- The front of a log page is read as it was written.
use Rattle.std.proofs.Common.{◌≡◌, ℕ, suc, ◌^◌, ◌<◌, eqb, List, [], ◌∷◌, ◌++◌, Option, Some, refl, ap, subst, ◌∙◌, append_assoc}
use Rattle.std.specs.Prelude.{codes, ◌&&◌}
use Rattle.std.specs.Int.{Width, w16, w32, w64, to_be_bytes}
use Rattle.std.proofs.lemmas.Bool.{and_parts, eqb-true}
use Rattle.ol_record.specs.declared.head.LogHead.{LogHead}
use Rattle.ol_record.specs.PageReading.{head_at, mark_at}
use Rattle.ol_bytes.specs.Reading.{◌>>=◌}
use Rattle.ol_record.specs.Reading.{number_at}
use Rattle.ol_record.proofs.Fields.{IsBytes, IsWide, Takes, Takes-then, bind_some, guard_true, number_again, number_takes, some_is, wide16, wide32, wide64}

abbrev pub mark : ℕ → List ℕ
mark gate = gate ∷ codes "LOG"

-- the 36 bytes at the front
abbrev pub front : ℕ → LogHead → List ℕ
front gate h =
    mark gate
    ++ to_be_bytes w32 h.index
    ++ to_be_bytes w64 h.uniq
    ++ to_be_bytes w64 h.incarnation
    ++ to_be_bytes w64 h.first
    ++ to_be_bytes w16 h.count
    ++ to_be_bytes w16 h.used

-- the fields hold their numbers
pub record Fits (h : LogHead) : Type 0 where
  pub index : h.index < 2 ^ 32
  pub uniq : h.uniq < 2 ^ 64
  pub incarnation : h.incarnation < 2 ^ 64
  pub first : h.first < 2 ^ 64
  pub count : h.count < 2 ^ 16
  pub used : h.used < 2 ^ 16

mark_takes : (bytes rest : List ℕ) → IsBytes bytes → mark_at bytes ≡ Some rest → (gate : ℕ) × Takes bytes (mark gate) rest
unfolding mark_at
mark_takes [] rest fits e = absurd cc
mark_takes (gate ∷ []) rest fits e = absurd cc
mark_takes (gate ∷ a ∷ []) rest fits e = absurd cc
mark_takes (gate ∷ a ∷ b ∷ []) rest fits e = absurd cc
mark_takes (gate ∷ a ∷ b ∷ c ∷ more) rest fits e =
    let g = guard_true (eqb a 76 && (eqb b 79 && eqb c 71)) (Some more) rest e in
    let one = and_parts (eqb a 76) (eqb b 79 && eqb c 71) g.0 in
    let two = and_parts (eqb b 79) (eqb c 71) one.1 in
    let is : more ≡ rest = some_is more rest g.1 in
    let parts : gate ∷ a ∷ b ∷ c ∷ more ≡ mark gate ++ rest = rw (eqb-true a 76 one.0, eqb-true b 79 two.0, eqb-true c 71 two.1, is) refl in
    let rest_fits : IsBytes rest = subst IsBytes is (λ i. fits (suc (suc (suc (suc i))))) in
    (gate, record { parts = parts; rest_fits = rest_fits })

-- one number more
then_number : (w : Width) (limit : ℕ) (wide : IsWide w limit) (bytes text rest : List ℕ) (x : ℕ × List ℕ) → Takes bytes text rest → number_at w rest ≡ Some x → Takes bytes (text ++ to_be_bytes w x.0) x.1 × (x.0 < limit)
then_number w limit wide bytes text rest x t e =
    let n = number_takes w limit wide rest x t.rest_fits e in
    (Takes-then bytes text rest (to_be_bytes w x.0) x.1 t n.0, n.1)

abbrev with_used : ℕ → ℕ → ℕ → ℕ → ℕ → ℕ × List ℕ → Option (LogHead × List ℕ)
with_used index uniq incarnation first count x = Some (record { index = index; uniq = uniq; incarnation = incarnation; first = first; count = count; used = x.0 }, x.1)

abbrev with_count : ℕ → ℕ → ℕ → ℕ → ℕ × List ℕ → Option (LogHead × List ℕ)
with_count index uniq incarnation first x = number_at w16 x.1 >>= with_used index uniq incarnation first x.0

abbrev with_first : ℕ → ℕ → ℕ → ℕ × List ℕ → Option (LogHead × List ℕ)
with_first index uniq incarnation x = number_at w16 x.1 >>= with_count index uniq incarnation x.0

abbrev with_incarnation : ℕ → ℕ → ℕ × List ℕ → Option (LogHead × List ℕ)
with_incarnation index uniq x = number_at w64 x.1 >>= with_first index uniq x.0

abbrev with_uniq : ℕ → ℕ × List ℕ → Option (LogHead × List ℕ)
with_uniq index x = number_at w64 x.1 >>= with_incarnation index x.0

abbrev with_index : ℕ × List ℕ → Option (LogHead × List ℕ)
with_index x = number_at w64 x.1 >>= with_uniq x.0

abbrev with_mark : List ℕ → Option (LogHead × List ℕ)
with_mark rest = number_at w32 rest >>= with_index

pub head_takes : (bytes : List ℕ) (x : LogHead × List ℕ) → IsBytes bytes → head_at bytes ≡ Some x → (gate : ℕ) × Takes bytes (front gate x.0) x.1 × Fits x.0
unfolding head_at
head_takes bytes x fits e =
    let m = bind_some (mark_at bytes) with_mark x e in
    let i = bind_some (number_at w32 m.0) with_index x m.2 in
    let u = bind_some (number_at w64 i.0.1) (with_uniq i.0.0) x i.2 in
    let n = bind_some (number_at w64 u.0.1) (with_incarnation i.0.0 u.0.0) x u.2 in
    let f = bind_some (number_at w64 n.0.1) (with_first i.0.0 u.0.0 n.0.0) x n.2 in
    let c = bind_some (number_at w16 f.0.1) (with_count i.0.0 u.0.0 n.0.0 f.0.0) x f.2 in
    let s = bind_some (number_at w16 c.0.1) (with_used i.0.0 u.0.0 n.0.0 f.0.0 c.0.0) x c.2 in
    let tm = mark_takes bytes m.0 fits m.1 in
    let gate = tm.0 in
    let ti = then_number w32 (2 ^ 32) wide32 bytes (mark gate) m.0 i.0 tm.1 i.1 in
    let tu = then_number w64 (2 ^ 64) wide64 bytes (mark gate ++ to_be_bytes w32 i.0.0) i.0.1 u.0 ti.0 u.1 in
    let tn = then_number w64 (2 ^ 64) wide64 bytes (mark gate ++ to_be_bytes w32 i.0.0 ++ to_be_bytes w64 u.0.0) u.0.1 n.0 tu.0 n.1 in
    let tf = then_number w64 (2 ^ 64) wide64 bytes (mark gate ++ to_be_bytes w32 i.0.0 ++ to_be_bytes w64 u.0.0 ++ to_be_bytes w64 n.0.0) n.0.1 f.0 tn.0 f.1 in
    let tc = then_number w16 (2 ^ 16) wide16 bytes (mark gate ++ to_be_bytes w32 i.0.0 ++ to_be_bytes w64 u.0.0 ++ to_be_bytes w64 n.0.0 ++ to_be_bytes w64 f.0.0) f.0.1 c.0 tf.0 c.1 in
    let ts = then_number w16 (2 ^ 16) wide16 bytes (mark gate ++ to_be_bytes w32 i.0.0 ++ to_be_bytes w64 u.0.0 ++ to_be_bytes w64 n.0.0 ++ to_be_bytes w64 f.0.0 ++ to_be_bytes w16 c.0.0) c.0.1 s.0 tc.0 s.1 in
    let h : LogHead = record { index = i.0.0; uniq = u.0.0; incarnation = n.0.0; first = f.0.0; count = c.0.0; used = s.0.0 } in
    let fields : Fits h = record { index = ti.1; uniq = tu.1; incarnation = tn.1; first = tf.1; count = tc.1; used = ts.1 } in
    subst (λ (y : LogHead × List ℕ). (g : ℕ) × Takes bytes (front g y.0) y.1 × Fits y.0) (some_is (h, s.0.1) x s.2) (gate, ts.0, fields)

grouped : (a b c d e f g rest : List ℕ) → a ++ b ++ c ++ d ++ e ++ f ++ g ++ rest ≡ a ++ (b ++ (c ++ (d ++ (e ++ (f ++ (g ++ rest))))))
grouped a b c d e f g rest = simp append_assoc

pub head_again : (gate : ℕ) (h : LogHead) (rest : List ℕ) → Fits h → head_at (front gate h ++ rest) ≡ Some (h, rest)
unfolding head_at mark_at
head_again gate h rest fits =
    let used = to_be_bytes w16 h.used ++ rest in
    let count = to_be_bytes w16 h.count ++ used in
    let first = to_be_bytes w64 h.first ++ count in
    let incarnation = to_be_bytes w64 h.incarnation ++ first in
    let uniq = to_be_bytes w64 h.uniq ++ incarnation in
    ap head_at (grouped (mark gate) (to_be_bytes w32 h.index) (to_be_bytes w64 h.uniq) (to_be_bytes w64 h.incarnation) (to_be_bytes w64 h.first) (to_be_bytes w16 h.count) (to_be_bytes w16 h.used) rest)
    ∙ rw (
      number_again w32 (2 ^ 32) wide32 h.index uniq fits.index,
      number_again w64 (2 ^ 64) wide64 h.uniq incarnation fits.uniq,
      number_again w64 (2 ^ 64) wide64 h.incarnation first fits.incarnation,
      number_again w64 (2 ^ 64) wide64 h.first count fits.first,
      number_again w16 (2 ^ 16) wide16 h.count used fits.count,
      number_again w16 (2 ^ 16) wide16 h.used rest fits.used,
    ) refl
