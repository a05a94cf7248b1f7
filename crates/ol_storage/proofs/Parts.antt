-- The parts of the disk are apart, so that calls on one leave the others.
use Rattle.std.specs.Prelude.{Bool, Some, false, nat_lt, true, ℕ, ◌<◌, ◌==◌, ◌||◌, ◌≡◌}
use Rattle.std.proofs.Common.{arith, refl, sym, ◌∙◌}
use Rattle.std.proofs.lemmas.Bool.{and_parts}
use Rattle.std.proofs.lemmas.Bool.Decides.{nat_tests}
use Rattle.ol_values.specs.Config.{Config}
use Rattle.ol_chunks.proofs.PartLaws.{parts_apart}
use Rattle.ol_chunks.specs.Limits.{IsConfig}
use Rattle.ol_chunks.specs.Places.{Part, is_in, is_reserved}
use Rattle.ol_chunks.specs.Places.Part.{Data, Logs, Physical, Reserved}
use Rattle.ol_ports.specs.Disk.{Bytes, Past}
use Rattle.ol_ports.specs.Frames.{FramedIn}
use Rattle.ol_reserve.proofs.PairLaws.{newest_kept, newest_seen}
use Rattle.ol_reserve.specs.Pair.{IsReady, Newest, is_pair}
use Rattle.ol_reserve.specs.declared.anchor.Anchor.{Anchor}
use Rattle.ol_log_places.specs.Places.{in_log}
use Rattle.ol_store.specs.Holding.{in_store}

neither : (a b : Bool) → a ≡ false → b ≡ false → (a || b) ≡ false
neither false b first second = second
neither true b first second = absurd (let clash : true ≡ false = first in cc)

either : {A : Type 0} (a b : Bool) → (a || b) ≡ true → (a ≡ true → A) → (b ≡ true → A) → A
either true b is first second = first refl
either false b is first second = second is

not_true : (b : Bool) → (b ≡ true → b ≡ false) → b ≡ false
not_true false f = refl
not_true true f = f refl

pair_reserved : (chunk page : ℕ) → is_pair chunk page ≡ true → is_reserved chunk page ≡ true
pair_reserved chunk page is = grind (arith, nat_tests, and_parts (chunk == 0) (nat_lt page 2) is)

module _ (c : Config) (is : IsConfig c) where
  pair_is_no : (part : Part) → (part ≡ Reserved → ⊥) → (chunk page : ℕ) → is_pair chunk page ≡ true → is_in c part chunk page ≡ false
  pair_is_no part other chunk page pair = parts_apart c is Reserved part (λ e. other (sym e)) chunk page (pair_reserved chunk page pair)

  pub pair_not_log : (chunk page : ℕ) → is_pair chunk page ≡ true → in_log c chunk page ≡ false
  pair_not_log chunk page pair = pair_is_no Logs (λ e. cc) chunk page pair

  pub pair_not_store : (chunk page : ℕ) → is_pair chunk page ≡ true → in_store c chunk page ≡ false
  pair_not_store chunk page pair = neither (is_in c Physical chunk page) (is_in c Data chunk page) (pair_is_no Physical (λ e. cc) chunk page pair) (pair_is_no Data (λ e. cc) chunk page pair)

  pub store_not_log : (chunk page : ℕ) → in_store c chunk page ≡ true → in_log c chunk page ≡ false
  store_not_log chunk page store =
      either (is_in c Physical chunk page) (is_in c Data chunk page) store
      (λ in_it. parts_apart c is Physical Logs (λ e. cc) chunk page in_it)
      (λ in_it. parts_apart c is Data Logs (λ e. cc) chunk page in_it)

  pub log_not_store : (chunk page : ℕ) → in_log c chunk page ≡ true → in_store c chunk page ≡ false
  log_not_store chunk page log =
      neither (is_in c Physical chunk page) (is_in c Data chunk page)
      (parts_apart c is Logs Physical (λ e. cc) chunk page log)
      (parts_apart c is Logs Data (λ e. cc) chunk page log)

  pub log_not_pair : (chunk page : ℕ) → in_log c chunk page ≡ true → is_pair chunk page ≡ false
  log_not_pair chunk page log = not_true (is_pair chunk page) (λ pair. absurd (let clash : true ≡ false = sym log ∙ pair_not_log chunk page pair in cc))

  pub store_not_pair : (chunk page : ℕ) → in_store c chunk page ≡ true → is_pair chunk page ≡ false
  store_not_pair chunk page store = not_true (is_pair chunk page) (λ pair. absurd (let clash : true ≡ false = sym store ∙ pair_not_store chunk page pair in cc))

-- ---- the anchor under calls elsewhere

-- the pages of the pair
pub is_pair_at : (page : ℕ) → page < 2 → is_pair 0 page ≡ true
is_pair_at page below = grind (arith, nat_tests, below)

-- calls on a part that has no page of the pair leave its newest anchor
pub anchor_framed : (past : Past) (a : Anchor) (is_part : ℕ → ℕ → Bool) → ((chunk page : ℕ) → is_pair chunk page ≡ true → is_part chunk page ≡ false) → IsReady past (Some a) → (d : Bytes) → FramedIn past is_part d → Newest d (Some a)
anchor_framed past a is_part apart ready d f =
    newest_kept d f.origin (Some a) (λ page i below. f.same 0 page i (apart 0 page (is_pair_at page below))) (newest_seen past (Some a) f.origin ready f.rest)
