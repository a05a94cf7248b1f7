-- All open gates are closed, for a new generation.
use Rattle.std.proofs.Common.{◌≡◌, ◌≢◌, inl, inr, ℕ, zero, suc, ◌+◌, ◌<◌, ◌≤◌, ◌^◌, Bool, true, false, List, [], ◌∷◌, get_or, refl, sym, ◌∙◌, subst, arith, Result, is_ok}
use Rattle.std.specs.List.{list_any}
use Rattle.std.proofs.lemmas.Bool.{cases_eq}
use Rattle.std.proofs.lemmas.List.{get_or-replicate, length-replicate}
use Rattle.std.proofs.lemmas.List.FromFn.{get_or-range_with_len, length-range_with_len}
use Rattle.ol_values.specs.Config.{Config}
use Rattle.ol_ports.specs.Disk.{Bytes, Past, Syncs, Writes, is_within, seen}
use Rattle.ol_ports.specs.Frames.{SameBut, TornFrom}
use Rattle.ol_ports.specs.Stops.{Stops}
use Rattle.ol_ports.proofs.DiskLaws.{rest-seen}
use Rattle.ol_ports.proofs.DiskSteps.{sync_shut, write_rest, write_seen}
use Rattle.ol_ports.proofs.StopLaws.{stops_none, stops_weaker, stops_write}
use Rattle.ol_physlog.specs.Places.{gate_at, generation_at, head_page}
use Rattle.ol_physlog.specs.States.{AreShut, HoldsEntries, IsClosing, IsClosingOn, IsLaid, IsLog, Log, emptied, gate_of}
use Rattle.ol_physlog.proofs.PlaceLaws.{SameEntry, entry_other, entry_shut, gate_same, gate_shut, generation_same, generation_torn, open_gate, open_same, other_entry, shut_gate}

pub log_emptied : (s : Log) (generation : ℕ) → IsLog s → generation < 2 ^ 64 → IsLog (emptied s generation)
log_emptied s generation is small = record {
  some = is.some;
  pages = is.pages;
  fits = is.fits;
  generation = small;
  order = length-range_with_len 0 s.area.count;
  below = λ j lt. omega (arith, lt, get_or-range_with_len 0 s.area.count j 0 lt);
  apart = λ i j lt below same. omega (arith, same, get_or-range_with_len 0 s.area.count i 0 lt, get_or-range_with_len 0 s.area.count j 0 below);
  gates = length-replicate s.area.count false;
  places = omega arith;
  settled = omega arith;
  once = λ i j lt under. absurd (omega (arith, under));
}

-- no entry counts for a generation that is above that of each open gate
pub emptied_holds : (c : Config) (s : Log) (generation : ℕ) (d : Bytes) → s.generation < generation → ((k : ℕ) → k < s.area.count → gate_at s.area d k ≡ 1 → generation_at s.area d k ≤ s.generation) → HoldsEntries c (emptied s generation) [] d
emptied_holds c s generation d newer older = record {
  settled = λ j lt. absurd (omega (arith, lt));
  added = λ j le lt. absurd (omega (arith, lt));
  others = λ k lt free. elim (cases_eq (gate_at s.area d k) 1) [
    | inl opened ↦ entry_other c s.area generation d k (λ same. omega (arith, same, older k lt opened, newer))
    | inr shut ↦ entry_shut c s.area generation d k shut
  ];
  older = λ k lt opened. omega (arith, older k lt opened, newer);
}

module _ (s : Log) (k : ℕ) (is : IsLog s) (below : k < s.area.count) (is_open : gate_of s k ≡ true) where
  module _ (e d : Bytes) (same : SameBut (is_within s.area.chunk (head_page s.area k) 0 1) e d) where
    pub elsewhere : (j : ℕ) → j ≢ k → SameEntry s.area d e j
    elsewhere j other = other_entry s.area k j (head_page s.area k) 0 1 e d (inl refl) same other

    pub closing_torn : IsClosingOn s k e → IsClosingOn s (k + 1) d
    closing_torn on = record {
      gates = λ j le lt. let differs : j ≢ k = λ at. omega (arith, at, le) in open_same s.area d e j (elsewhere j differs) ∙ on.gates j (omega (arith, le)) lt;
      older = λ j lt gate. elim (cases_eq j k) [
        | inl at ↦ subst (λ (n : ℕ). generation_at s.area d n ≤ s.generation) (sym at) (subst (λ (n : ℕ). n ≤ s.generation) (sym (generation_torn s.area k e d same)) (on.older k below (open_gate s.area e k (on.gates k (omega arith) below ∙ is_open))))
        | inr differs ↦ subst (λ (n : ℕ). n ≤ s.generation) (sym (generation_same s.area d e j (elsewhere j differs))) (on.older j lt (sym (gate_same s.area d e j (elsewhere j differs)) ∙ gate))
      ];
    }

  module _ {E : Type 0} (old new : Past) (result : Result Unit E) (w : Writes old new s.area.chunk (head_page s.area k) 0 (0 ∷ []) result) (o : IsClosing old s k) where
    pub closing_write : (c : Config) (generation : ℕ) → s.generation < generation → Stops old new (HoldsEntries c (emptied s generation) [])
    closing_write c generation newer =
        stops_weaker old new (TornFrom old s.area.chunk (head_page s.area k) 0 1) (HoldsEntries c (emptied s generation) [])
        (λ d f. emptied_holds c s generation d newer (closing_torn f.origin d f.same (o.each f.origin f.rest)).older)
        (stops_write old new s.area.chunk (head_page s.area k) 0 (0 ∷ []) result w)

    pub closing_next : is_ok result ≡ true → IsClosing new s (k + 1)
    closing_next good = record {
      is = is;
      closed = λ j lt. elim (cases_eq j k) [
        | inl at ↦ λ opened. let now : gate_at s.area (seen new) k ≡ 0 = wrote.1 0 (omega arith) in omega (arith, now, subst (λ (n : ℕ). gate_at s.area (seen new) n ≡ 1) at opened)
        | inr differs ↦ λ opened. o.closed j (omega (arith, lt, differs)) (sym (gate_same s.area (seen new) (seen old) j (elsewhere (seen old) (seen new) wrote.0 j differs)) ∙ opened)
      ];
      each = λ d rest. let f = write_rest old new s.area.chunk (head_page s.area k) 0 (0 ∷ []) result w d rest in closing_torn f.origin d f.same (o.each f.origin f.rest);
    }
      where
        wrote : SameBut (is_within s.area.chunk (head_page s.area k) 0 1) (seen old) (seen new) × ((i : ℕ) → i < 1 → seen new s.area.chunk (head_page s.area k) (0 + i) ≡ get_or (0 ∷ []) i 0)
        wrote = write_seen old new s.area.chunk (head_page s.area k) 0 (0 ∷ []) result w good

pub closing_skip : (past : Past) (s : Log) (k : ℕ) → k < s.area.count → gate_of s k ≡ false → IsClosing past s k → IsClosing past s (k + 1)
closing_skip past s k below shut o = record {
  is = o.is;
  closed = λ j lt. elim (cases_eq j k) [
    | inl at ↦ subst (λ (n : ℕ). gate_at s.area (seen past) n ≢ 1) (sym at) (shut_gate s.area (seen past) k ((o.each (seen past) (rest-seen past)).gates k (omega arith) below ∙ shut))
    | inr differs ↦ o.closed j (omega (arith, lt, differs))
  ];
  each = λ d rest. let on = o.each d rest in record { gates = λ j le lt. on.gates j (omega (arith, le)) lt; older = on.older };
}

pub closing_begin : (c : Config) (past : Past) (s : Log) (images : List (List ℕ)) → IsLaid c past s images → IsClosing past s 0
closing_begin c past s images laid = record {
  is = laid.is;
  closed = λ k lt. absurd (omega (arith, lt));
  each = λ d rest. let on = laid.each d rest in record { gates = λ k le lt. on.gates k lt; older = on.older };
}

pub closing_none : (c : Config) (past : Past) (s : Log) (k generation : ℕ) → IsClosing past s k → s.generation < generation → Stops past past (HoldsEntries c (emptied s generation) [])
closing_none c past s k generation o newer = stops_none past (HoldsEntries c (emptied s generation) []) (λ d rest. emptied_holds c s generation d newer (o.each d rest).older)

pub closing_done : {E : Type 0} (old new : Past) (s : Log) (result : Result Unit E) → Syncs old new s.area.chunk result → is_ok result ≡ true → IsClosing old s s.area.count → AreShut new s.area
closing_done old new s result sync good o d rest k lt opened = o.closed k lt (sym (sync_shut old new s.area.chunk result sync good d rest (head_page s.area k) 0) ∙ opened)

-- where no gate is open
none_open : (gates : List Bool) → list_any (λ b. b) gates ≡ false → (k : ℕ) → get_or gates k false ≡ false
none_open [] none k = refl
none_open (true ∷ gates) none k = absurd (cc)
none_open (false ∷ gates) none zero = refl
none_open (false ∷ gates) none (suc k) = none_open gates none k

pub shut_already : (c : Config) (past : Past) (s : Log) (images : List (List ℕ)) → IsLaid c past s images → list_any (λ b. b) s.gates ≡ false → AreShut past s.area
shut_already c past s images laid none d rest k lt = shut_gate s.area d k ((laid.each d rest).gates k lt ∙ none_open s.gates none k)

pub emptied_laid : (c : Config) (past : Past) (s : Log) (generation : ℕ) → IsLog s → generation < 2 ^ 64 → AreShut past s.area → IsLaid c past (emptied s generation) []
emptied_laid c past s generation is small shut = record {
  is = log_emptied s generation is small;
  paired = refl;
  pages = λ j le lt. absurd (omega (arith, lt));
  each = λ d rest. record {
    gates = λ k lt. gate_shut s.area d k (shut d rest k lt) ∙ sym (get_or-replicate s.area.count k false false lt);
    settled = λ j lt. absurd (omega (arith, lt));
    others = λ k lt free. entry_shut c s.area generation d k (shut d rest k lt);
    older = λ k lt opened. absurd (shut d rest k lt opened);
  };
  body = λ j le lt. absurd (omega (arith, lt));
  shut = λ j le lt. absurd (omega (arith, lt));
}
