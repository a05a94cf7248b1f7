-- A formatting writes pages of the spaces' chunks alone.
use Rattle.std.specs.Prelude.{Bool, false, true, ℕ, ◌<◌, ◌≡◌}
use Rattle.std.proofs.Common.{arith, subst, sym}
use Rattle.std.proofs.lemmas.Bool.Decides.{nat_tests}
use Rattle.ol_chunks.specs.Limits.{IsConfig, chunk_count}
use Rattle.ol_chunks.specs.Places.{chunk_pages, in_spaces}
use Rattle.ol_values.specs.Config.{Config}
use Rattle.ol_ports.specs.Disk.{Past}
use Rattle.ol_ports.specs.Frames.{FramedAt, FramedIn, in_pages}
use Rattle.ol_ports.specs.Stops.{Stops}
use Rattle.ol_ports.proofs.FrameLaws.{outside}
use Rattle.ol_ports.proofs.StopLaws.{stops_wider}
use Rattle.ol_reserve.specs.Pair.{is_pair}
use Rattle.ol_format.specs.Formatted.{is_gate}
use Rattle.ol_format.proofs.Formatting.{root_pages, some_chunk}

pub spaces_of_pages : (old new : Past) (c : Config) (at from end : ℕ) → at < chunk_count c.spaces → end ≡ chunk_pages c at → Stops old new (FramedIn old (in_pages at from end)) → Stops old new (FramedIn old (in_spaces c))
spaces_of_pages old new c at from end there ends stops =
    stops_wider old new (λ k p i. in_pages at from end k p) (λ k p i. in_spaces c k p) (λ k p i out. outside (in_pages at from end k p) (in_spaces c k p) (λ is. inner k p is) out) stops
  where
    inner : (k p : ℕ) → in_pages at from end k p ≡ true → in_spaces c k p ≡ true
    inner k p is =
        let same : k ≡ at = grind (arith, nat_tests) in
        let below : p < end = grind (arith, nat_tests) in
        let among : k < chunk_count c.spaces = omega (arith, same, there) in
        let inside : p < chunk_pages c k = subst (λ (n : ℕ). p < chunk_pages c n) (sym same) (omega (arith, below, ends)) in
        grind (arith, nat_tests)

-- the pages of the anchor pair are pages of the first space
pub pair_in_spaces : (c : Config) → IsConfig c → (k p : ℕ) → is_pair k p ≡ true → in_spaces c k p ≡ true
pair_in_spaces c is k p pair =
    let first : k ≡ 0 = grind (arith, nat_tests) in
    let low : p < 2 = grind (arith, nat_tests) in
    let among : k < chunk_count c.spaces = omega (arith, first, some_chunk c is) in
    let inside : p < chunk_pages c k = subst (λ (n : ℕ). p < chunk_pages c n) (sym first) (omega (arith, low, root_pages c is)) in
    grind (arith, nat_tests)

pub spaces_of_gates : (old new : Past) (c : Config) → IsConfig c → Stops old new (FramedAt old is_gate) → Stops old new (FramedIn old (in_spaces c))
spaces_of_gates old new c is stops =
    stops_wider old new is_gate (λ k p i. in_spaces c k p) (λ k p i out. outside (is_gate k p i) (in_spaces c k p) (λ gate. inner k p i gate) out) stops
  where
    inner : (k p i : ℕ) → is_gate k p i ≡ true → in_spaces c k p ≡ true
    inner k p i gate =
        let pair : is_pair k p ≡ true = grind (arith, nat_tests) in pair_in_spaces c is k p pair

pub spaces_of_pair : (old new : Past) (c : Config) → IsConfig c → Stops old new (FramedIn old is_pair) → Stops old new (FramedIn old (in_spaces c))
spaces_of_pair old new c is stops =
    stops_wider old new (λ k p i. is_pair k p) (λ k p i. in_spaces c k p) (λ k p i out. outside (is_pair k p) (in_spaces c k p) (λ pair. pair_in_spaces c is k p pair) out) stops
