-- The gates of added entries are opened, once their bodies are durable.
use Rattle.std.proofs.Common.{◌≡◌, ◌≢◌, ◌⊎◌, inl, inr, ⊎_elim, ℕ, zero, suc, ◌+◌, ◌-◌, ◌<◌, ◌≤◌, Bool, true, false, List, [], ◌∷◌, drop, get_or, length, refl, sym, ◌∙◌, ap, subst, take, arith, set, Result, is_ok}
use Rattle.std.proofs.lemmas.Bool.{cases_eq}
use Rattle.std.proofs.Math.Seq.{drop-cons}
use Rattle.std.proofs.lemmas.List.{drop_all, get_or-drop, get_or-set_other, get_or-set_same, get_or-take, length-drop, length-set, length-take}
use Rattle.ol_values.specs.Config.{Config}
use Rattle.ol_ports.specs.Disk.{Bytes, Past, Rest, Syncs, Writes, is_within, seen}
use Rattle.ol_ports.specs.Frames.{SameBut, TornFrom}
use Rattle.ol_ports.specs.Stops.{Stops}
use Rattle.ol_ports.proofs.DiskSteps.{sync_rest, sync_shut, write_rest, write_seen}
use Rattle.ol_ports.proofs.StopLaws.{stops_weaker, stops_write}
use Rattle.ol_physlog.specs.Heads.{IsPage}
use Rattle.ol_physlog.specs.Places.{HasBody, gate_at, generation_at, head_page}
use Rattle.ol_physlog.specs.States.{HoldsEntries, IsLaid, IsLog, IsOpening, IsOpeningOn, Log, entry_number, image_at, place_at, unsettled, with_open, with_settled}
use Rattle.ol_physlog.proofs.PlaceLaws.{SameEntry, body_same, body_torn, counts_whole, entry_same, entry_shut, gate_open, gate_same, generation_same, generation_whole, open_same, other_entry}
use Rattle.ol_physlog.proofs.StateLaws.{turns_differ}

-- ---- gates that are marked

pub length-with_open : (entries : List ℕ) (gates : List Bool) → length (with_open gates entries) ≡ length gates
unfolding with_open
length-with_open [] gates = refl
length-with_open (k ∷ entries) gates = length-with_open entries (set gates k true) ∙ length-set gates k true

-- a gate is among those that are marked, and open, or not, and as before
abbrev pub IsMarked : List ℕ → List Bool → ℕ → Type 0
IsMarked entries gates k = (j : ℕ) × (j < length entries) × (get_or entries j 0 ≡ k) × (get_or (with_open gates entries) k false ≡ true)

abbrev pub IsUnmarked : List ℕ → List Bool → ℕ → Type 0
IsUnmarked entries gates k = ((j : ℕ) → j < length entries → get_or entries j 0 ≢ k) × (get_or (with_open gates entries) k false ≡ get_or gates k false)

pub marked : (entries : List ℕ) (gates : List Bool) (k : ℕ) → k < length gates → IsMarked entries gates k ⊎ IsUnmarked entries gates k
unfolding with_open
marked [] gates k lt = inr (λ j below is. omega (arith, below), refl)
marked (x ∷ entries) gates k lt = ⊎_elim (λ m. inl (suc m.0, omega (arith, m.1), m.2, m.3)) not_later (marked entries (set gates x true) k (omega (arith, lt, length-set gates x true)))
  where
    not_later : IsUnmarked entries (set gates x true) k → IsMarked (x ∷ entries) gates k ⊎ IsUnmarked (x ∷ entries) gates k
    not_later u = elim (cases_eq k x) [
      | inl same ↦ inl (0, omega arith, sym same, u.1 ∙ ap (λ (n : ℕ). get_or (set gates x true) n false) same ∙ get_or-set_same gates x true false (omega (arith, lt, same)))
      | inr differs ↦ inr (never differs, u.1 ∙ get_or-set_other gates x k true false differs)
    ]
      where
        never : (k ≡ x → ⊥) → (j : ℕ) → j < length (x ∷ entries) → get_or (x ∷ entries) j 0 ≢ k
        never differs zero below is = differs (sym is)
        never differs (suc j) below is = u.0 j (omega (arith, below)) is

pub unsettled_at : (s : Log) (j : ℕ) → s.settled + j < length s.places → get_or (unsettled s) j 0 ≡ entry_number s (s.settled + j)
unsettled_at s j lt = get_or-drop s.settled (take (length s.places) s.order) j 0 ∙ get_or-take (length s.places) s.order (s.settled + j) 0 lt

pub length-unsettled : (s : Log) → IsLog s → s.settled + length (unsettled s) ≡ length s.places
length-unsettled s is = omega (arith, length-drop s.settled (take (length s.places) s.order), length-take (length s.places) s.order, is.order, is.places, is.settled)

pub log_settled : (s : Log) → IsLog s → IsLog (with_settled s)
log_settled s is = record {
  some = is.some;
  pages = is.pages;
  fits = is.fits;
  generation = is.generation;
  order = is.order;
  below = is.below;
  apart = is.apart;
  gates = length-with_open (unsettled s) s.gates ∙ is.gates;
  places = is.places;
  settled = omega arith;
  once = is.once;
}

-- where all are settled nothing is marked
pub settled_same : (s : Log) → IsLog s → s.settled ≡ length s.places → with_settled s ≡ s
unfolding with_open
settled_same s is all i = record {
  area = s.area;
  generation = s.generation;
  order = s.order;
  places = s.places;
  settled = sym all i;
  gates = ap (λ (l : List ℕ). with_open s.gates l) none i;
}
  where
    empty_list : (l : List ℕ) → length l ≡ 0 → l ≡ []
    empty_list [] e = refl
    empty_list (x ∷ l) e = absurd (omega (arith, e))

    none : unsettled s ≡ []
    none = empty_list (unsettled s) (omega (arith, length-unsettled s is, all))

-- ---- a disk on which a gate is torn

pub split : (j n : ℕ) → (j < n) ⊎ (n ≤ j)
split j n = grind arith

module _ (c : Config) (s : Log) (images : List (List ℕ)) (is : IsLog s) (pages : (j : ℕ) → s.settled ≤ j → j < length s.places → IsPage c (place_at s j)) where
  pub opening_holds : (d : Bytes) → IsOpeningOn c s images d → HoldsEntries c s images d
  opening_holds d on = record {
    settled = on.settled;
    added = λ j le lt. elim (cases_eq (gate_at s.area d (entry_number s j)) 1) [
      | inl opened ↦ inr (counts_whole s.area s.generation d (entry_number s j) (place_at s j) (image_at images j) (on.body j le lt) c (pages j le lt) is.generation opened)
      | inr shut ↦ inl (entry_shut c s.area s.generation d (entry_number s j) shut)
    ];
    others = on.others;
    older = on.older;
  }

  module _ (upto : ℕ) (from : s.settled ≤ upto) (below : upto < length s.places) (e d : Bytes) (same : SameBut (is_within s.area.chunk (head_page s.area (entry_number s upto)) 0 1) e d) where
    pub elsewhere : (k : ℕ) → k ≢ entry_number s upto → SameEntry s.area d e k
    elsewhere k other = other_entry s.area (entry_number s upto) k (head_page s.area (entry_number s upto)) 0 1 e d (inl refl) same other

    pub other_turn : (j : ℕ) → j < length s.places → j ≢ upto → SameEntry s.area d e (entry_number s j)
    other_turn j lt differs = elsewhere (entry_number s j) (turns_differ s is j upto lt below differs)

    pub opening_torn : IsOpeningOn c s images e → IsOpeningOn c s images d
    opening_torn on = record {
      settled = λ j lt. entry_same s.area d e (entry_number s j) (other_turn j (omega (arith, lt, is.settled)) (λ at. omega (arith, at, lt, from))) c s.generation ∙ on.settled j lt;
      body = torn_body;
      gates = λ k lt other. open_same s.area d e k (elsewhere k (λ at. other upto from below (sym at))) ∙ on.gates k lt other;
      others = λ k lt free. entry_same s.area d e k (elsewhere k (λ at. free upto below (sym at))) c s.generation ∙ on.others k lt free;
      older = λ k lt gate. elim (cases_eq k (entry_number s upto)) [
        | inl at ↦ let now : generation_at s.area d k ≡ s.generation = ap (λ (n : ℕ). generation_at s.area d n) at ∙ generation_whole s.area s.generation d (entry_number s upto) (place_at s upto) (image_at images upto) (torn_body upto from below) is.generation in omega (arith, now)
        | inr differs ↦ subst (λ (n : ℕ). n ≤ s.generation) (sym (generation_same s.area d e k (elsewhere k differs))) (on.older k lt (sym (gate_same s.area d e k (elsewhere k differs)) ∙ gate))
      ];
    }
      where
        torn_body : (j : ℕ) → s.settled ≤ j → j < length s.places → HasBody s.area s.generation d (entry_number s j) (place_at s j) (image_at images j)
        torn_body j le lt = elim (cases_eq j upto) [
          | inl at ↦ subst (λ (n : ℕ). HasBody s.area s.generation d (entry_number s n) (place_at s n) (image_at images n)) (sym at) (body_torn s.area s.generation (entry_number s upto) e d (place_at s upto) (image_at images upto) same (on.body upto from below))
          | inr differs ↦ body_same s.area d e (entry_number s j) (other_turn j lt differs) s.generation (place_at s j) (image_at images j) (on.body j le lt)
        ]

-- ---- the calls

module _ (c : Config) (s : Log) (images : List (List ℕ)) where
  pub opening_start : {E : Type 0} (old new : Past) (result : Result Unit E) → Syncs old new s.area.chunk result → is_ok result ≡ true → IsLaid c old s images → IsOpening c new s images s.settled
  opening_start old new result sync good laid = record {
    is = laid.is;
    paired = laid.paired;
    pages = laid.pages;
    each = λ d rest.
        let on = laid.each d (sync_rest old new s.area.chunk result sync d rest) in
        record {
          settled = on.settled;
          body = λ j le lt. body_same s.area d (seen old) (entry_number s j) (record { of_head = λ i. sync_shut old new s.area.chunk result sync good d rest (head_page s.area (entry_number s j)) i; of_image = λ i. sync_shut old new s.area.chunk result sync good d rest (head_page s.area (entry_number s j) + 1) i }) s.generation (place_at s j) (image_at images j) (laid.body j le lt);
          gates = λ k lt other. on.gates k lt;
          others = on.others;
          older = on.older;
        };
    opened = λ j le lt. absurd (omega (arith, le, lt));
  }

  module _ {E : Type 0} (upto : ℕ) (from : s.settled ≤ upto) (below : upto < length s.places) (old new : Past) (result : Result Unit E) (w : Writes old new s.area.chunk (head_page s.area (entry_number s upto)) 0 (1 ∷ []) result) (o : IsOpening c old s images upto) where
    pub opening_stop : Stops old new (HoldsEntries c s images)
    opening_stop =
        stops_weaker old new (TornFrom old s.area.chunk (head_page s.area (entry_number s upto)) 0 1) (HoldsEntries c s images)
        (λ d f. opening_holds c s images o.is o.pages d (opening_torn c s images o.is o.pages upto from below f.origin d f.same (o.each f.origin f.rest)))
        (stops_write old new s.area.chunk (head_page s.area (entry_number s upto)) 0 (1 ∷ []) result w)

    pub opening_next : is_ok result ≡ true → IsOpening c new s images (upto + 1)
    opening_next good = record {
      is = o.is;
      paired = o.paired;
      pages = o.pages;
      each = λ d rest. let f = write_rest old new s.area.chunk (head_page s.area (entry_number s upto)) 0 (1 ∷ []) result w d rest in opening_torn c s images o.is o.pages upto from below f.origin d f.same (o.each f.origin f.rest);
      opened = λ j le lt. elim (cases_eq j upto) [
        | inl at ↦ subst (λ (n : ℕ). gate_at s.area (seen new) (entry_number s n) ≡ 1) (sym at) (wrote.1 0 (omega arith))
        | inr differs ↦ gate_same s.area (seen new) (seen old) (entry_number s j) (other_turn c s images o.is o.pages upto from below (seen old) (seen new) wrote.0 j (omega (arith, lt, below)) differs) ∙ o.opened j le (omega (arith, lt, differs))
      ];
    }
      where
        wrote : SameBut (is_within s.area.chunk (head_page s.area (entry_number s upto)) 0 1) (seen old) (seen new) × ((i : ℕ) → i < 1 → seen new s.area.chunk (head_page s.area (entry_number s upto)) (0 + i) ≡ get_or (1 ∷ []) i 0)
        wrote = write_seen old new s.area.chunk (head_page s.area (entry_number s upto)) 0 (1 ∷ []) result w good

  pub opening_done : {E : Type 0} (old new : Past) (result : Result Unit E) → Syncs old new s.area.chunk result → is_ok result ≡ true → IsOpening c old s images (length s.places) → IsLaid c new (with_settled s) images
  opening_done old new result sync good o = record {
    is = log_settled s o.is;
    paired = o.paired;
    pages = λ j le lt. absurd (omega (arith, le, lt));
    each = λ d rest.
        let on = o.each d (sync_rest old new s.area.chunk result sync d rest) in
        record {
          gates = λ k lt. ⊎_elim (λ m. gate_open s.area d k (is_marked d rest k m) ∙ sym m.3) (λ u. on.gates k lt (λ j le below at. u.0 (j - s.settled) (omega (arith, le, below, length-unsettled s o.is)) (reached j le below ∙ at)) ∙ sym u.1) (marked (unsettled s) s.gates k (omega (arith, lt, o.is.gates)));
          settled = λ j lt. ⊎_elim (λ before. on.settled j before) (λ le. counts_whole s.area s.generation d (entry_number s j) (place_at s j) (image_at images j) (on.body j le lt) c (o.pages j le lt) o.is.generation (now_open d rest j le lt)) (split j s.settled);
          others = on.others;
          older = on.older;
        };
    body = λ j le lt. absurd (omega (arith, le, lt));
    shut = λ j le lt. absurd (omega (arith, le, lt));
  }
    where
      now_open : (d : Bytes) → Rest new d → (j : ℕ) → s.settled ≤ j → j < length s.places → gate_at s.area d (entry_number s j) ≡ 1
      now_open d rest j le lt = sync_shut old new s.area.chunk result sync good d rest (head_page s.area (entry_number s j)) 0 ∙ o.opened j le lt

      reached : (j : ℕ) → s.settled ≤ j → j < length s.places → get_or (unsettled s) (j - s.settled) 0 ≡ entry_number s j
      reached j le lt = let at : s.settled + (j - s.settled) ≡ j = omega (arith, le) in unsettled_at s (j - s.settled) (omega (arith, at, lt)) ∙ ap (λ (n : ℕ). entry_number s n) at

      is_marked : (d : Bytes) → Rest new d → (k : ℕ) → IsMarked (unsettled s) s.gates k → gate_at s.area d k ≡ 1
      is_marked d rest k m =
          let lt : s.settled + m.0 < length s.places = omega (arith, m.1, length-unsettled s o.is) in
          subst (λ (n : ℕ). gate_at s.area d n ≡ 1) (sym (unsettled_at s m.0 lt) ∙ m.2) (now_open d rest (s.settled + m.0) (omega arith) lt)

  pub opening_held : (past : Past) (upto : ℕ) → IsOpening c past s images upto → (d : Bytes) → Rest past d → HoldsEntries c s images d
  opening_held past upto o d rest = opening_holds c s images o.is o.pages d (o.each d rest)

-- ---- the marking, entry by entry

pub open_step : (gates : List Bool) (entries : List ℕ) (j : ℕ) → j < length entries → with_open (set gates (get_or entries j 0) true) (drop (j + 1) entries) ≡ with_open gates (drop j entries)
unfolding with_open
open_step gates entries j lt =
    let at : j + 1 ≡ suc j = omega arith in
    ap (λ (n : ℕ). with_open (set gates (get_or entries j 0) true) (drop n entries)) at ∙ ap (λ (l : List ℕ). with_open gates l) (sym (drop-cons entries j 0 lt))

pub open_end : (gates : List Bool) (entries : List ℕ) (j : ℕ) → length entries ≤ j → with_open gates (drop j entries) ≡ gates
unfolding with_open
open_end gates entries j le = ap (λ (l : List ℕ). with_open gates l) (drop_all j entries le)
