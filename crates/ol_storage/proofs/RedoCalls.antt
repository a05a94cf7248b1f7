-- A redo of a page, a record passed over, and a page cleaned: what stands behind them.
use Rattle.std.specs.Prelude.{Bool, Err, IfSome, List, None, Option, Some, [], slice_get, ℕ, ◌∷◌, ◌+◌, ◌<◌, ◌≡◌}
use Rattle.std.proofs.Common.{ap, arith, refl, subst, sym}
use Rattle.std.proofs.lemmas.Bool.Decides.{nat_tests}
use Rattle.ol_values.specs.Config.{Config}
use Rattle.ol_ports.specs.Disk.{Bytes, Past}
use Rattle.ol_store.specs.Holding.{CleanAreFlushed, IsOnDisk}
use Rattle.ol_store.specs.Pages.{Pages}
use Rattle.ol_store.specs.Stores.{AreFlushed, IsFlushedAt, Store, checkpointed_of, cleaned_of}
use Rattle.ol_storage.specs.Behind.{Behind, pages_of, with_redone}
use Rattle.ol_storage.specs.Behind.{last_of as last_behind}
use Rattle.ol_storage.specs.Causes.{HasStorageCause}
use Rattle.ol_storage.specs.Installation.{Installation, IsGoing, config_of, flushed, flushed_of, last_of, with_reached}
use Rattle.ol_storage.specs.Standing.{StandsFrom}
use Rattle.ol_storage.specs.declared.storage.StorageFault.TheVariants.{Failed}
use Rattle.ol_data_pages.specs.Places.{HasSpaceCause}
use Rattle.ol_storage.specs.Storing.{IsStored}
use Rattle.ol_storage.proofs.Agreeing.{Agree, flushed_agree, stored_agree}
use Rattle.ol_storage.proofs.ChangeCalls.{IsAlike}
use Rattle.ol_storage.proofs.Images.{Known, stands_wider}
use Rattle.ol_storage.proofs.LogSteps.{Rest, flushed_first}

-- the pages have one record more of those that are there
pub reached_stored : (past : Past) (v : Installation) (g : Behind) (w : Pages) → Known v → Rest past v g → g.reached < last_behind g → IsOnDisk past v.store w → CleanAreFlushed v.store w → Agree (config_of v) w (pages_of v.anchor (with_redone g))
    → IsStored past (with_reached v (v.reached + 1)) (with_redone g)
reached_stored past v g w known is below on_disk flushed agree =
    let here = subst (λ (c : Config). Agree c w (pages_of v.anchor (with_redone g))) (sym known.going.config) agree in
    record {
      going = is.going;
      behind = record { kept = is.behind.kept; from = omega (arith, is.behind.from); to = omega (arith, below) };
      reached = ap (λ n. n + 1) is.reached;
      next = is.next;
      checkpoint = record { online = is.checkpoint.online; text = is.checkpoint.text; from = is.checkpoint.from; to = omega (arith, is.checkpoint.to); need = is.checkpoint.need };
      written = is.written;
      anchor = is.anchor;
      log = record { places = is.log.places; floor = is.log.floor; low = is.log.low; is_floor = is.log.is_floor; ready = is.log.ready; order = is.log.order };
      pages = record {
        on_disk = stored_agree past v.store.config v.store.pool v.store.log v.store.written w (pages_of v.anchor (with_redone g)) here on_disk;
        flushed = flushed_agree v.store w (pages_of v.anchor (with_redone g)) here flushed;
      };
    }

pub reached_going : (v : Installation) (n : ℕ) → n < v.ring.state.next → IsGoing v → IsGoing (with_reached v n)
reached_going v n below is = record {
  config = is.config;
  generation = is.generation;
  reuse = is.reuse;
  anchor = is.anchor;
  text = is.text;
  flushed = is.flushed;
  reached = below;
  uniq = is.uniq;
  unbacked = is.unbacked;
}

-- the same pages stand behind a call of the store that keeps them
pub store_stored : (past : Past) (v : Installation) (g : Behind) → Rest past v g → IsOnDisk past v.store (pages_of v.anchor g) → CleanAreFlushed v.store (pages_of v.anchor g) → IsStored past v g
store_stored past v g is on_disk flushed = record {
  going = is.going;
  behind = is.behind;
  reached = is.reached;
  next = is.next;
  checkpoint = is.checkpoint;
  written = is.written;
  anchor = is.anchor;
  log = is.log;
  pages = record { on_disk = on_disk; flushed = flushed };
}

-- ---- cleaning

pub cleaned_alike : (s : Store) (place : Option (ℕ × ℕ)) → IsAlike s (cleaned_of s place)
cleaned_alike s None = record { config = refl; area = refl; generation = refl; flushed = refl }
cleaned_alike s (Some place) = record { config = refl; area = refl; generation = refl; flushed = refl }

pub checkpointed_alike : (s : Store) → IsAlike s (checkpointed_of s)
checkpointed_alike s = record { config = refl; area = refl; generation = refl; flushed = refl }

-- where no page is ahead of the log, neither is the one that is longest dirty
pub first_flushed : (s : Store) → AreFlushed s → (l : List (ℕ × ℕ)) → s.pool.dirty ≡ l → IfSome (slice_get l 0) (λ place. IsFlushedAt s place.0 place.1)
first_flushed s ahead [] is = tt
first_flushed s ahead (x ∷ l) is = ahead x.0 x.1 (rw is (grind (arith, nat_tests)))

-- what a stop leaves behind a flush, said of the state before it
pub flushed_wider : (v u : Installation) (gates : List Bool) (g : Behind) (d : Bytes) → u ≡ flushed v gates → StandsFrom (config_of u) g u.anchor (flushed_of u) (last_of u) d → StandsFrom (config_of v) g v.anchor (flushed_of v) (last_of v) d
flushed_wider v u gates g d is s =
    let same = subst (λ (x : Installation). StandsFrom (config_of x) g x.anchor (flushed_of x) (last_of x) d) is s in
    stands_wider (config_of v) g v.anchor (flushed_of (flushed v gates)) (last_of (flushed v gates)) (flushed_of v) (last_of v) d (omega (arith, (flushed_first v.ring.state).0)) (omega (arith, (flushed_first v.ring.state).1)) same

pub space_failed : {T U E : Type 0} (c d : Config) → c ≡ d → (before mid now : ℕ → ℕ) → mid ≡ before → (e : E) → HasSpaceCause {T = T} c mid now (Err e) → HasStorageCause {T = U} d before now (Err Failed)
space_failed {T = T} {U = U} c d config before mid now same e cause =
    subst (λ (x : Config). HasStorageCause {T = U} x before now (Err Failed)) config
    (subst (λ (f : ℕ → ℕ). HasStorageCause {T = U} c f now (Err Failed)) same
    (record { later = cause.later; failed = λ failed. cause.failed; kept = λ none. absurd (none refl) }))
