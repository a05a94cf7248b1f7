-- Pages that agree stand on a disk together, and records that pages have not yet leave them.
use Rattle.std.specs.Prelude.{Bool, List, [], length, ℕ, ◌++◌, ◌+◌, ◌-◌, ◌∷◌, ◌≡◌, ◌≤◌}
use Rattle.std.proofs.Common.{ap, arith, length-append, subst, sym, take_all, ◌∙◌}
use Rattle.std.proofs.lemmas.List.{take-append-le}
use Rattle.ol_values.specs.Config.{Config}
use Rattle.ol_values.specs.Image.{IsDataPage, page_bytes}
use Rattle.ol_values.specs.Pages.{Page}
use Rattle.ol_values.specs.declared.record.Record.{Record}
use Rattle.ol_rules.specs.Start.{Start, low_behind, page_behind, start_page, upto}
use Rattle.ol_stand_laws.proofs.PageMoves.{other_more}
use Rattle.ol_ports.specs.Disk.{Bytes, Past}
use Rattle.ol_physlog.specs.States.{IsLaid, Log}
use Rattle.ol_pool.specs.Frames.{Frames}
use Rattle.ol_reserve.specs.declared.anchor.Anchor.{Anchor}
use Rattle.ol_data_pages.specs.Overlays.{images_of}
use Rattle.ol_store.specs.Holding.{AreOnDisk, CleanAreFlushed, HoldsPages}
use Rattle.ol_store.specs.Pages.{IsUp, Pages}
use Rattle.ol_store.specs.Stores.{Store}
use Rattle.ol_storage.specs.Behind.{Behind, IsBehind, TouchesNone, last_of, pages_of, with_record}
use Rattle.ol_storage.specs.Standing.{IsAnchorOf}

-- the same spaces, or fewer, are up; each of their pages is the same now, and all were at the checkpoint
pub record Agree (c : Config) (v w : Pages) : Type 0 where
  pub up : (space page : ℕ) → IsUp c w space page → IsUp c v space page
  pub now : (space page : ℕ) → IsUp c w space page → w.now space page ≡ v.now space page
  pub saved : w.saved ≡ v.saved

-- what a stop leaves of pages speaks of the checkpoint alone
pub held_agree : (c : Config) (generation : ℕ) (v w : Pages) (d : Bytes) → ((space page : ℕ) → IsUp c w space page → IsUp c v space page) → w.saved ≡ v.saved → HoldsPages c generation v d → HoldsPages c generation w d
held_agree c generation v w d ups saved h = record {
  pages = λ space page up. h.pages space page (ups space page up) ∙ ap (λ (f : ℕ → ℕ → Page). page_bytes (f space page)) (sym saved);
  good = h.good;
  images = λ k place image below counts. h.images k place image below counts ∙ ap (λ (f : ℕ → ℕ → Page). page_bytes (f place.space place.page)) (sym saved);
  older = h.older;
}

pub stored_agree : (past : Past) (c : Config) (pool : Frames) (log : Log) (written : List Bool) (v w : Pages) → Agree c v w → AreOnDisk past c pool log written v → AreOnDisk past c pool log written w
stored_agree past c pool log written v w a h = record {
  laid = subst (λ (f : ℕ → ℕ → Page). IsLaid c past log (images_of f log.places)) (sym a.saved) h.laid;
  unsettled = λ d rest space page up un. h.unsettled d rest space page (a.up space page up) un ∙ ap (λ (f : ℕ → ℕ → Page). page_bytes (f space page)) (sym a.saved);
  dirty = h.dirty;
  clean = λ space page up clean. h.clean space page (a.up space page up) clean ∙ ap page_bytes (sym (a.now space page up));
  synced = λ d rest space page up clean unmarked. h.synced d rest space page (a.up space page up) clean unmarked ∙ ap page_bytes (sym (a.now space page up));
  in_memory = λ space page bytes up is. h.in_memory space page bytes (a.up space page up) is ∙ ap page_bytes (sym (a.now space page up));
  untouched = λ space page up un. a.now space page up ∙ h.untouched space page (a.up space page up) un ∙ ap (λ (f : ℕ → ℕ → Page). f space page) (sym a.saved);
  pages = λ space page up. subst IsDataPage (sym (a.now space page up)) (h.pages space page (a.up space page up));
}

pub flushed_agree : (s : Store) (v w : Pages) → Agree s.config v w → CleanAreFlushed s v → CleanAreFlushed s w
flushed_agree s v w a f space page up clean = rw (a.now space page up) (f space page (a.up space page up) clean)

-- ---- one record more

upto_kept : (s : Start) (records : List Record) (r : Record) (position : ℕ) → position ≤ s.last + length records → upto s (records ++ r ∷ []) position ≡ upto s records position
upto_kept s records r position below = take-append-le (position - s.last) records (r ∷ []) (omega (arith, below))

-- all records up to the last
pub upto_all : (s : Start) (records : List Record) (position : ℕ) → s.last + length records ≤ position → upto s records position ≡ records
upto_all s records position behind = take_all (position - s.last) records (omega (arith, behind))

-- the need at a position stays
pub anchor_kept : (c : Config) (g : Behind) (r : Record) (a : Anchor) → IsBehind g → IsAnchorOf c g a → IsAnchorOf c (with_record r g) a
anchor_kept c g r a is anchor = record {
  online = anchor.online;
  text = anchor.text;
  from = anchor.from;
  to = omega (arith, anchor.to);
  need = anchor.need ∙ ap (low_behind g.start) (sym (upto_kept g.start g.records r a.position (omega (arith, anchor.to, is.to))));
}

-- the pages as at the checkpoint stay
pub saved_kept : (g : Behind) (r : Record) (a : Anchor) → IsBehind g → a.position ≤ g.reached → (pages_of a (with_record r g)).saved ≡ (pages_of a g).saved
saved_kept g r a is position =
    ap (λ (l : List Record). λ (space page : ℕ). page_behind g.start l space page) (upto_kept g.start g.records r a.position (omega (arith, position, is.to)))

-- pages that have all records stay where one more changes none of them
pub pages_kept : (c : Config) (g : Behind) (r : Record) (a : Anchor) → IsBehind g → a.position ≤ g.reached → g.reached ≡ last_of g → TouchesNone c a r → Agree c (pages_of a g) (pages_of a (with_record r g))
pages_kept c g r a is position all none = record {
  up = λ space page up. up;
  now = λ space page up.
      ap (λ (l : List Record). page_behind g.start l space page) (upto_all g.start (g.records ++ r ∷ []) (g.reached + 1) (omega (arith, all, length-append g.records (r ∷ []))))
      ∙ other_more (start_page g.start space page) (g.start.last + 1) g.records r space page (none space page up.0 up.1)
      ∙ ap (λ (l : List Record). page_behind g.start l space page) (sym (upto_all g.start g.records g.reached (omega (arith, all))));
  saved = saved_kept g r a is position;
}
