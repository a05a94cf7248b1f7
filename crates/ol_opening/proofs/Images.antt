-- What a stop within the opening of a disk leaves: pages are put to their places, and all else stays.
use Rattle.std.specs.Prelude.{Some, false, nat_lt, true, ℕ, ◌==◌, ◌+◌, ◌-◌, ◌≡◌}
use Rattle.std.proofs.Common.{arith, refl, subst, sym}
use Rattle.std.proofs.lemmas.Bool.{and_parts}
use Rattle.std.proofs.lemmas.Bool.Decides.{nat_tests}
use Rattle.ol_values.specs.Config.{Config}
use Rattle.ol_chunks.proofs.PartLaws.{parts_apart}
use Rattle.ol_chunks.specs.Limits.{IsConfig}
use Rattle.ol_chunks.specs.Places.{is_in, is_reserved}
use Rattle.ol_chunks.specs.Places.Part.{Data, Logs, Reserved}
use Rattle.ol_log_places.proofs.Files.{holds_none}
use Rattle.ol_log_places.proofs.WriteLaws.{others_shown, settled_placed}
use Rattle.ol_log_places.specs.Places.{IsPlaced, in_log, places}
use Rattle.ol_ports.specs.Disk.{Bytes, Past, Rest, seen}
use Rattle.ol_ports.specs.Frames.{FramedIn, IsQuiet}
use Rattle.ol_ports.specs.Stops.{Stops}
use Rattle.ol_ports.proofs.FrameLaws.{settled_quiet}
use Rattle.ol_ports.proofs.StopLaws.{stops_none, stops_weaker, stops_with}
use Rattle.ol_reserve.specs.Pair.{IsReady, is_pair}
use Rattle.ol_reserve.specs.declared.anchor.Anchor.{Anchor}
use Rattle.ol_store.specs.Holding.{HoldsPages}
use Rattle.ol_storage.proofs.Images.{stands_up_to, stands_wider}
use Rattle.ol_storage.proofs.Parts.{anchor_framed}
use Rattle.ol_storage.specs.Behind.{Behind, pages_of, record_at}
use Rattle.ol_storage.specs.Standing.{Stands, StandsFrom, first_number}

pair_reserved : (chunk page : ℕ) → is_pair chunk page ≡ true → is_reserved chunk page ≡ true
pair_reserved chunk page is = grind (arith, nat_tests, and_parts (chunk == 0) (nat_lt page 2) is)

-- no page of the pair and none of the log is a data page
pub pair_not_data : (c : Config) → IsConfig c → (chunk page : ℕ) → is_pair chunk page ≡ true → is_in c Data chunk page ≡ false
pair_not_data c is chunk page pair = parts_apart c is Reserved Data (λ e. cc) chunk page (pair_reserved chunk page pair)

pub log_not_data : (c : Config) → IsConfig c → (chunk page : ℕ) → in_log c chunk page ≡ true → is_in c Data chunk page ≡ false
log_not_data c is chunk page log = parts_apart c is Logs Data (λ e. cc) chunk page log

-- it stands for the records up to one position
stands_one : (c : Config) (g : Behind) (a : Anchor) (last : ℕ) (d : Bytes) → StandsFrom c g a last last d → Stands c g a last d
stands_one c g a last d s = let same : s.last ≡ last = omega (arith, s.from, s.to) in subst (λ (n : ℕ). Stands c g a n d) same s.stands

-- a stop of a disk with nothing unsynced leaves what it reads
pub quiet_stands : (past : Past) (c : Config) (g : Behind) (a : Anchor) (last : ℕ) → IsQuiet past → Stands c g a last (seen past) → (d : Bytes) → Rest past d → Stands c g a last d
quiet_stands past c g a last quiet stands d rest = let same : d ≡ seen past = (λ t k p i. quiet d rest k p i refl t) in subst (λ (e : Bytes). Stands c g a last e) (sym same) stands

module _ (old : Past) (quiet : IsQuiet old) (c : Config) (is : IsConfig c) (g : Behind) (a : Anchor) (last : ℕ) (stands : Stands c g a last (seen old)) where
  pub pair_ready : IsReady old (Some a)
  pair_ready = record { settled = settled_quiet old is_pair quiet; newest = stands.newest }

  log_placed : IsPlaced old c (places c (seen old))
  log_placed = settled_placed old c (settled_quiet old (in_log c) quiet)

  -- data pages are put back, and the rest stays
  stands_on : (d : Bytes) → FramedIn old (is_in c Data) d → HoldsPages c a.generation (pages_of a g) d → Stands c g a last d
  stands_on d f holds =
      stands_one c g a last d
      (stands_wider c g a (last + 1 - 1) (last + 1 - 1) last last d (omega arith) (omega arith)
      (stands_up_to c g a a.need (last + 1) (last + 1) (first_number a) d stands.checkpoint (omega (arith, stands.position)) (omega arith) (omega arith)
      (anchor_framed old a (is_in c Data) (λ chunk page pair. pair_not_data c is chunk page pair) pair_ready d f)
      holds
      (holds_none c (places c (seen old)) (record_at g) a.need (last + 1) (first_number a) d stands.log stands.near
      (others_shown old c (places c (seen old)) (λ chunk page i. is_in c Data chunk page) d (λ chunk page i log. log_not_data c is chunk page log) log_placed f))))

  pub stands_stops : (new : Past) → Stops old new (FramedIn old (is_in c Data)) → Stops old new (HoldsPages c a.generation (pages_of a g)) → Stops old new (Stands c g a last)
  stands_stops new frame holds =
      stops_weaker old new _ _ (λ d both. stands_on d both.0 both.1) (stops_with old new (FramedIn old (is_in c Data)) (HoldsPages c a.generation (pages_of a g)) frame holds)

  -- nothing was written
  pub stands_unwritten : (new : Past) → new ≡ old → Stops old new (Stands c g a last)
  stands_unwritten new same = subst (λ (p : Past). Stops old p (Stands c g a last)) (sym same) (stops_none old (Stands c g a last) (λ d rest. quiet_stands old c g a last quiet stands d rest))
