-- Which page of the pair the next anchor goes to, as it is read off both pages.
use Rattle.std.proofs.Common.{ltb-true, ◌≡◌, ⊎_elim, ℕ, zero, suc, ◌<◌, List, Bool, true, false, None, Option, Some, refl, sym, ◌∙◌, ap, arith}
use Rattle.std.specs.Prelude.{◌==◌, nat_lt}
use Rattle.std.proofs.lemmas.Bool.{eqb-false, eqb-true, ltb-false}
use Rattle.ol_ports.specs.Disk.{Bytes, page_list}
use Rattle.ol_ports.proofs.DiskLaws.{page_list-at}
use Rattle.ol_reserve.specs.Anchor.{anchor_bytes}
use Rattle.ol_reserve.specs.Pair.{Holds, IsNewestAt, IsShut, IsTarget, Newest, gate_in, serial_in, target_by}
use Rattle.ol_reserve.specs.declared.anchor.Anchor.{Anchor}
use Rattle.ol_reserve.proofs.Fields.{serial_back}
use Rattle.ol_reserve.proofs.PairLaws.{holds_open}

-- a page that is read and holds an anchor has its bytes
pub bytes_of_holder : (d : Bytes) (page : ℕ) (buf : List ℕ) (a : Anchor) → buf ≡ page_list d 0 page → Holds d page a → buf ≡ anchor_bytes 1 a
bytes_of_holder d page buf a shows holds = shows ∙ holds.bytes

serial_of_holder : (d : Bytes) (page : ℕ) (buf : List ℕ) (a : Anchor) → buf ≡ page_list d 0 page → Holds d page a → serial_in buf ≡ a.serial
serial_of_holder d page buf a shows holds = ap serial_in (bytes_of_holder d page buf a shows holds) ∙ serial_back 1 a holds.anchor

-- the test of a gate, and what it tells
pub gate_is : (d : Bytes) (page : ℕ) (buf : List ℕ) → buf ≡ page_list d 0 page → gate_in buf ≡ d 0 page 0
gate_is d page buf shows = ap gate_in shows ∙ page_list-at d 0 page 0 (omega arith)

pub shut_by : (d : Bytes) (page : ℕ) (buf : List ℕ) → buf ≡ page_list d 0 page → (gate_in buf == 1) ≡ false → IsShut d page
shut_by d page buf shows e opened = eqb-false (gate_in buf) 1 e (gate_is d page buf shows ∙ opened)

open_by : (d : Bytes) (page : ℕ) (buf : List ℕ) → buf ≡ page_list d 0 page → (gate_in buf == 1) ≡ true → d 0 page 0 ≡ 1
open_by d page buf shows e = sym (gate_is d page buf shows) ∙ eqb-true (gate_in buf) 1 e

module _ (d : Bytes) (first second : List ℕ) (shows0 : first ≡ page_list d 0 0) (shows1 : second ≡ page_list d 0 1) where
  none : IsShut d 0 → IsShut d 1 → (b c l : Bool) → (gate_in first == 1) ≡ b → IsTarget d None (target_by b c l)
  none shut0 shut1 true c l e = absurd (shut0 (open_by d 0 first shows0 e))
  none shut0 shut1 false c l e = record { pair = omega arith; other = shut1; mine = shut0 }

  at_first : (a : Anchor) → IsNewestAt d 0 a → (b c l : Bool) → (gate_in first == 1) ≡ b → (gate_in second == 1) ≡ c → nat_lt (serial_in first) (serial_in second) ≡ l → IsTarget d (Some a) (target_by b c l)
  at_first a is false c l e f g = absurd (holds_open d 0 a is.holds (shut_by d 0 first shows0 e))
  at_first a is true false l e f g = record { pair = omega arith; other = is.holds; mine = shut_by d 1 second shows1 f }
  at_first a is true true l e f g =
      ⊎_elim (λ shut. absurd (shut (open_by d 1 second shows1 f)))
      (λ older. elim l as (λ l. nat_lt (serial_in first) (serial_in second) ≡ l → IsTarget d (Some a) (target_by true true l)) [
        | true ↦ λ g. absurd (let lt = ltb-true (serial_in first) (serial_in second) g in omega (arith, lt, serial_of_holder d 0 first a shows0 is.holds, serial_of_holder d 1 second older.0 shows1 older.1, older.2))
        | false ↦ λ g. record { pair = omega arith; other = is.holds; mine = record { newest = a; is = refl; older = older.0; holds = older.1; below = older.2 } }
      ] g) is.other

  at_second : (a : Anchor) → IsNewestAt d 1 a → (b c l : Bool) → (gate_in first == 1) ≡ b → (gate_in second == 1) ≡ c → nat_lt (serial_in first) (serial_in second) ≡ l → IsTarget d (Some a) (target_by b c l)
  at_second a is false c l e f g = record { pair = omega arith; other = is.holds; mine = shut_by d 0 first shows0 e }
  at_second a is true false l e f g = absurd (holds_open d 1 a is.holds (shut_by d 1 second shows1 f))
  at_second a is true true l e f g =
      ⊎_elim (λ shut. absurd (shut (open_by d 0 first shows0 e)))
      (λ older. elim l as (λ l. nat_lt (serial_in first) (serial_in second) ≡ l → IsTarget d (Some a) (target_by true true l)) [
        | true ↦ λ g. record { pair = omega arith; other = is.holds; mine = record { newest = a; is = refl; older = older.0; holds = older.1; below = older.2 } }
        | false ↦ λ g. absurd (let le = ltb-false (serial_in first) (serial_in second) g in omega (arith, le, serial_of_holder d 1 second a shows1 is.holds, serial_of_holder d 0 first older.0 shows0 older.1, older.2))
      ] g) is.other

  at_page : (a : Anchor) (page : ℕ) → IsNewestAt d page a → (b c l : Bool) → (gate_in first == 1) ≡ b → (gate_in second == 1) ≡ c → nat_lt (serial_in first) (serial_in second) ≡ l → IsTarget d (Some a) (target_by b c l)
  at_page a zero is b c l e f g = at_first a is b c l e f g
  at_page a (suc zero) is b c l e f g = at_second a is b c l e f g
  at_page a (suc (suc n)) is b c l e f g = absurd (let p = is.pair in omega arith)

  pub target_found : (now : Option Anchor) → Newest d now → IsTarget d now (target_by (gate_in first == 1) (gate_in second == 1) (nat_lt (serial_in first) (serial_in second)))
  target_found None newest = none newest.0 newest.1 (gate_in first == 1) (gate_in second == 1) (nat_lt (serial_in first) (serial_in second)) refl
  target_found (Some a) newest = at_page a newest.0 newest.1 (gate_in first == 1) (gate_in second == 1) (nat_lt (serial_in first) (serial_in second)) refl refl refl

  -- of a blank pair it is page 0
  pub blank_target : Newest d None → (target_by (gate_in first == 1) (gate_in second == 1) (nat_lt (serial_in first) (serial_in second))).page ≡ 0
  blank_target newest = by (gate_in first == 1) refl
    where
      by : (b : Bool) → (gate_in first == 1) ≡ b → (target_by b (gate_in second == 1) (nat_lt (serial_in first) (serial_in second))).page ≡ 0
      by false e = refl
      by true e = absurd (newest.0 (open_by d 0 first shows0 e))
