-- An entry is added behind its closed gate.
use Rattle.std.proofs.Common.{◌≡◌, ◌≢◌, inl, inr, ⊎_elim, ℕ, ◌+◌, ◌*◌, ◌<◌, ◌≤◌, true, false, List, [], ◌∷◌, ◌++◌, get_or, length, refl, sym, ◌∙◌, ap, subst, arith, Result, Ok, Err, OnOk, is_ok, zero-add}
use Rattle.std.proofs.lemmas.Bool.{cases_eq}
use Rattle.std.proofs.lemmas.Bool.Decides.{nat_tests}
use Rattle.std.proofs.lemmas.List.{length-append}
use Rattle.ol_values.specs.Config.{Config}
use Rattle.ol_chunks.specs.Places.{lies_in}
use Rattle.ol_chunks.specs.declared.table.Area.{Area}
use Rattle.ol_ports.specs.Disk.{Bytes, Past, Rest, Syncs, Writes, is_within, seen}
use Rattle.ol_ports.specs.Frames.{FramedIn, IsDurable, ReadsOutside, SameBut, TornFrom}
use Rattle.ol_ports.specs.Stops.{Stops}
use Rattle.ol_ports.proofs.DiskLaws.{rest-seen, within-elsewhere}
use Rattle.ol_ports.proofs.DiskSteps.{sync_seen, write_rest, write_seen}
use Rattle.ol_ports.proofs.FrameLaws.{framed_wider, outside_durable, outside_write}
use Rattle.ol_ports.proofs.StopLaws.{stops_weaker, stops_write}
use Rattle.ol_physlog.specs.Heads.{IsPage, body_bytes}
use Rattle.ol_physlog.specs.Places.{Counts, HasBody, Idle, entry_at, gate_at, generation_at, head_page, is_open_at}
use Rattle.ol_physlog.specs.States.{HoldsEntries, IsFree, IsLaid, IsLaidOn, IsLog, Log, entry_number, gate_of, has_entry, image_at, next_entry, place_at, with_place, with_shut}
use Rattle.ol_physlog.specs.declared.place.Place.{Place}
use Rattle.ol_physlog.proofs.Lists.{last_item}
use Rattle.ol_physlog.proofs.PlaceLaws.{IsBehind, IsOf, SameEntry, body_same, entry_other, entry_same, entry_shut, gate_behind, gate_same, gate_shut, generation_same, generation_torn, idle_entry, of_behind, open_gate, open_same, other_entry, shut_gate}
use Rattle.ol_physlog.proofs.StateLaws.{entry_below, gate_elsewhere, gate_now_shut, laid_holds_on, log_placed, log_shut, next_below, next_free, old_image, old_place, shut_same}

-- ---- the frame

-- the pages of an entry are in the area
pub outside_entry : (s : Log) (k page at n : ℕ) → IsLog s → k < s.area.count → IsOf s.area k page → (c p i : ℕ) → lies_in s.area c p ≡ false → is_within s.area.chunk page at n c p i ≡ false
outside_entry s k page at n is lt here c p i out = within-elsewhere s.area.chunk page at n c p i (λ chunk same. inside c p chunk (in_area p same) out)
  where
    in_area : (p : ℕ) → p ≡ page → (s.area.first ≤ p) × (p < s.area.first + s.area.count * s.area.pages)
    in_area p same =
        let size : s.area.count * s.area.pages ≡ 2 * s.area.count = ap (λ (n : ℕ). s.area.count * n) is.pages ∙ omega arith in
        ⊎_elim (λ h. (omega (arith, h, same), omega (arith, h, same, size, lt))) (λ h. (omega (arith, h, same), omega (arith, h, same, size, lt))) here

    inside : (c p : ℕ) → c ≡ s.area.chunk → (s.area.first ≤ p) × (p < s.area.first + s.area.count * s.area.pages) → lies_in s.area c p ≡ false → ⊥
    inside c p chunk bounds out =
        let low = bounds.0 in
        let high = bounds.1 in
        let is_in : lies_in s.area c p ≡ true = grind (arith, nat_tests) in
        absurd (cc)

-- a write to the pages of an entry leaves all outside the area
pub framed_entry : (past : Past) (s : Log) (k page at n : ℕ) (d : Bytes) → IsLog s → k < s.area.count → IsOf s.area k page → TornFrom past s.area.chunk page at n d → FramedIn past (lies_in s.area) d
framed_entry past s k page at n d is lt here torn = framed_wider past (is_within s.area.chunk page at n) (λ c p i. lies_in s.area c p) d (outside_entry s k page at n is lt here) torn

pub reads_write : {E : Type 0} (old new : Past) (s : Log) (k page at : ℕ) (bytes : List ℕ) (result : Result Unit E) → IsLog s → k < s.area.count → IsOf s.area k page → Writes old new s.area.chunk page at bytes result → is_ok result ≡ true → ReadsOutside old new (lies_in s.area)
reads_write old new s k page at bytes result is lt here w good = outside_write old new (lies_in s.area) s.area.chunk page at bytes result w good (outside_entry s k page at (length bytes) is lt here)

pub reads_durable : (old new : Past) (s : Log) (k page at : ℕ) (bytes : List ℕ) → IsLog s → k < s.area.count → IsOf s.area k page → IsDurable old new s.area.chunk page at bytes → ReadsOutside old new (lies_in s.area)
reads_durable old new s k page at bytes is lt here durable = outside_durable old new (lies_in s.area) s.area.chunk page at bytes durable (outside_entry s k page at (length bytes) is lt here)

-- ---- an open gate of another generation is closed

module _ (c : Config) (s : Log) (images : List (List ℕ)) (k : ℕ) (below : k < s.area.count) (free : IsFree s k) (is_open : gate_of s k ≡ true) (e d : Bytes) (is : IsLog s) (shut : (j : ℕ) → s.settled ≤ j → j < length s.places → gate_of s (entry_number s j) ≡ false)
    (on : IsLaidOn c s images e) (same : SameBut (is_within s.area.chunk (head_page s.area k) 0 1) e d) where
  elsewhere : (j : ℕ) → j ≢ k → SameEntry s.area d e j
  elsewhere j other = other_entry s.area k j (head_page s.area k) 0 1 e d (inl refl) same other

  opened : gate_at s.area e k ≡ 1
  opened = open_gate s.area e k (on.gates k below ∙ is_open)

  pub closing : HoldsEntries c s images d
  closing = record {
    settled = λ j lt. entry_same s.area d e (entry_number s j) (elsewhere (entry_number s j) (free j (omega (arith, lt, is.settled)))) c s.generation ∙ on.settled j lt;
    added = λ j le lt. inl (entry_same s.area d e (entry_number s j) (elsewhere (entry_number s j) (free j lt)) c s.generation ∙ entry_shut c s.area s.generation e (entry_number s j) (shut_gate s.area e (entry_number s j) (on.gates (entry_number s j) (entry_below s is j lt) ∙ shut j le lt)));
    others = λ j lt other. elim (cases_eq j k) [
      | inl at ↦ subst (λ (n : ℕ). entry_at c s.area s.generation d n ≡ Idle) (sym at) (entry_other c s.area s.generation d k (λ now. idle_entry c s.area s.generation e k (on.others k below free) opened (sym (generation_torn s.area k e d same) ∙ now)))
      | inr differs ↦ entry_same s.area d e j (elsewhere j differs) c s.generation ∙ on.others j lt other
    ];
    older = λ j lt gate. elim (cases_eq j k) [
      | inl at ↦ subst (λ (n : ℕ). generation_at s.area d n ≤ s.generation) (sym at) (subst (λ (n : ℕ). n ≤ s.generation) (sym (generation_torn s.area k e d same)) (on.older k below opened))
      | inr differs ↦ subst (λ (n : ℕ). n ≤ s.generation) (sym (generation_same s.area d e j (elsewhere j differs))) (on.older j lt (sym (gate_same s.area d e j (elsewhere j differs)) ∙ gate))
    ];
  }

  pub closed_on : gate_at s.area d k ≢ 1 → IsLaidOn c (with_shut s k) images d
  closed_on now_shut = record {
    gates = λ j lt. elim (cases_eq j k) [
      | inl at ↦ subst (λ (n : ℕ). is_open_at s.area d n ≡ gate_of (with_shut s k) n) (sym at) (gate_shut s.area d k now_shut ∙ sym (gate_now_shut s k is below))
      | inr differs ↦ open_same s.area d e j (elsewhere j differs) ∙ on.gates j lt ∙ sym (gate_elsewhere s k j differs)
    ];
    settled = closing.settled;
    others = closing.others;
    older = closing.older;
  }

pub closing_stop : (c : Config) (past : Past) (s : Log) (images : List (List ℕ)) (k : ℕ) → k < s.area.count → IsFree s k → gate_of s k ≡ true → IsLaid c past s images → (d : Bytes) → TornFrom past s.area.chunk (head_page s.area k) 0 1 d → HoldsEntries c s images d
closing_stop c past s images k below free is_open laid d torn = closing c s images k below free is_open torn.origin d laid.is laid.shut (laid.each torn.origin torn.rest) torn.same

pub closed : (c : Config) (old new : Past) (s : Log) (images : List (List ℕ)) (k : ℕ) → k < s.area.count → IsFree s k → gate_of s k ≡ true → IsLaid c old s images → ((d : Bytes) → Rest new d → TornFrom old s.area.chunk (head_page s.area k) 0 1 d) → IsDurable old new s.area.chunk (head_page s.area k) 0 (0 ∷ []) → IsLaid c new (with_shut s k) images
closed c old new s images k below free is_open laid from durable = record {
  is = log_shut s k laid.is;
  paired = laid.paired;
  pages = laid.pages;
  each = λ d rest.
      let f = from d rest in
      closed_on c s images k below free is_open f.origin d laid.is laid.shut (laid.each f.origin f.rest) f.same
      (λ gate. let now : gate_at s.area d k ≡ 0 = durable.settled d rest s.area.chunk (head_page s.area k) 0 (grind (arith, nat_tests)) ∙ durable.written 0 (omega arith) in omega (arith, now, gate));
  body = λ j le lt. body_same s.area (seen new) (seen old) (entry_number s j) (other_entry s.area k (entry_number s j) (head_page s.area k) 0 1 (seen old) (seen new) (inl refl) durable.elsewhere (free j lt)) s.generation (place_at s j) (image_at images j) (laid.body j le lt);
  shut = λ j le lt. gate_elsewhere s k (entry_number s j) (free j lt) ∙ laid.shut j le lt;
}

pub closed_already : (c : Config) (past : Past) (s : Log) (images : List (List ℕ)) (k : ℕ) → gate_of s k ≡ false → IsLaid c past s images → IsLaid c past (with_shut s k) images
closed_already c past s images k shut laid = subst (λ (t : Log). IsLaid c past t images) (sym (shut_same s k shut)) laid

-- ---- head and image are written

module _ (c : Config) (s : Log) (images : List (List ℕ)) (room : length s.places < s.area.count) (is_shut : gate_of s (next_entry s) ≡ false) (page at n : ℕ) (here : IsBehind s.area (next_entry s) page at) where
  abbrev k : ℕ
  k = next_entry s

  module _ (e d : Bytes) (is : IsLog s) (on : IsLaidOn c s images e) (same : SameBut (is_within s.area.chunk page at n) e d) where
    apart : (j : ℕ) → j ≢ k → SameEntry s.area d e j
    apart j other = other_entry s.area k j page at n e d (of_behind s.area k page at here) same other

    gate_kept : gate_at s.area d k ≢ 1
    gate_kept gate = shut_gate s.area e k (on.gates k (next_below s is room) ∙ is_shut) (sym (gate_behind s.area k page at n e d here same) ∙ gate)

    pub adding_on : IsLaidOn c s images d
    adding_on = record {
      gates = λ j lt. elim (cases_eq j k) [
        | inl same_entry ↦ subst (λ (m : ℕ). is_open_at s.area d m ≡ gate_of s m) (sym same_entry) (gate_shut s.area d k gate_kept ∙ sym is_shut)
        | inr differs ↦ open_same s.area d e j (apart j differs) ∙ on.gates j lt
      ];
      settled = λ j lt. entry_same s.area d e (entry_number s j) (apart (entry_number s j) (next_free s is room j (omega (arith, lt, is.settled)))) c s.generation ∙ on.settled j lt;
      others = λ j lt other. elim (cases_eq j k) [
        | inl same_entry ↦ subst (λ (m : ℕ). entry_at c s.area s.generation d m ≡ Idle) (sym same_entry) (entry_shut c s.area s.generation d k gate_kept)
        | inr differs ↦ entry_same s.area d e j (apart j differs) c s.generation ∙ on.others j lt other
      ];
      older = λ j lt gate. elim (cases_eq j k) [
        | inl same_entry ↦ absurd (gate_kept (subst (λ (m : ℕ). gate_at s.area d m ≡ 1) same_entry gate))
        | inr differs ↦ subst (λ (m : ℕ). m ≤ s.generation) (sym (generation_same s.area d e j (apart j differs))) (on.older j lt (sym (gate_same s.area d e j (apart j differs)) ∙ gate))
      ];
    }

  -- what was laid stays laid
  pub still_laid : {E : Type 0} (old new : Past) (bytes : List ℕ) (result : Result Unit E) → n ≡ length bytes → Writes old new s.area.chunk page at bytes result → is_ok result ≡ true → IsLaid c old s images → IsLaid c new s images
  still_laid old new bytes result size w good laid = record {
    is = laid.is;
    paired = laid.paired;
    pages = laid.pages;
    each = λ d rest. let f = write_rest old new s.area.chunk page at bytes result w d rest in adding_on f.origin d laid.is (laid.each f.origin f.rest) (subst (λ (m : ℕ). SameBut (is_within s.area.chunk page at m) f.origin d) (sym size) f.same);
    body = λ j le lt. body_same s.area (seen new) (seen old) (entry_number s j) (apart (seen old) (seen new) laid.is (laid.each (seen old) (rest-seen old)) (subst (λ (m : ℕ). SameBut (is_within s.area.chunk page at m) (seen old) (seen new)) (sym size) (write_seen old new s.area.chunk page at bytes result w good).0) (entry_number s j) (next_free s laid.is room j lt)) s.generation (place_at s j) (image_at images j) (laid.body j le lt);
    shut = laid.shut;
  }

  -- whatever the write answered
  pub stops_adding : {E : Type 0} (old new : Past) (bytes : List ℕ) (result : Result Unit E) → n ≡ length bytes → Writes old new s.area.chunk page at bytes result → IsLaid c old s images → Stops old new (HoldsEntries c s images)
  stops_adding old new bytes result size w laid =
      stops_weaker old new (TornFrom old s.area.chunk page at (length bytes)) (HoldsEntries c s images)
      (λ d f. laid_holds_on c s images d laid.is laid.shut (adding_on f.origin d laid.is (laid.each f.origin f.rest) (subst (λ (m : ℕ). SameBut (is_within s.area.chunk page at m) f.origin d) (sym size) f.same)))
      (stops_write old new s.area.chunk page at bytes result w)

-- an entry more is laid
pub laid_more : (c : Config) (past : Past) (s : Log) (images : List (List ℕ)) (place : Place) (image : List ℕ) → length s.places < s.area.count → gate_of s (next_entry s) ≡ false → IsPage c place → has_entry s place ≡ false → IsLaid c past s images
    → HasBody s.area s.generation (seen past) (next_entry s) place image → IsLaid c past (with_place s place) (images ++ image ∷ [])
laid_more c past s images place image room is_shut is_page fresh laid body = record {
  is = log_placed s place laid.is room fresh;
  paired = omega (arith, length-append images (image ∷ []), length-append s.places (place ∷ []), laid.paired);
  pages = λ j le lt. elim (cases_eq j (length s.places)) [
    | inl at ↦ subst (λ (n : ℕ). IsPage c (place_at (with_place s place) n)) (sym at) (subst (λ (q : Place). IsPage c q) (sym new_place) is_page)
    | inr differs ↦ subst (λ (q : Place). IsPage c q) (sym (old_place s place j (before j lt differs))) (laid.pages j le (before j lt differs))
  ];
  each = λ d rest. let on = laid.each d rest in record {
    gates = on.gates;
    settled = λ j lt. on.settled j lt ∙ both j (omega (arith, lt, laid.is.settled));
    others = λ j lt free. on.others j lt (λ i below. free i (omega (arith, below, size)));
    older = on.older;
  };
  body = λ j le lt. elim (cases_eq j (length s.places)) [
    | inl at ↦ subst (λ (n : ℕ). HasBody s.area s.generation (seen past) (entry_number s n) (place_at (with_place s place) n) (image_at (images ++ image ∷ []) n)) (sym at)
        (subst (λ (q : Place). HasBody s.area s.generation (seen past) (next_entry s) q (image_at (images ++ image ∷ []) (length s.places))) (sym new_place) (subst (λ (l : List ℕ). HasBody s.area s.generation (seen past) (next_entry s) place l) (sym new_image) body))
    | inr differs ↦
        let earlier = before j lt differs in
        subst (λ (q : Place). HasBody s.area s.generation (seen past) (entry_number s j) q (image_at (images ++ image ∷ []) j)) (sym (old_place s place j earlier))
        (subst (λ (l : List ℕ). HasBody s.area s.generation (seen past) (entry_number s j) (place_at s j) l) (sym (old_image images image j (omega (arith, earlier, laid.paired)))) (laid.body j le earlier))
  ];
  shut = λ j le lt. elim (cases_eq j (length s.places)) [
    | inl at ↦ subst (λ (n : ℕ). gate_of s (entry_number s n) ≡ false) (sym at) is_shut
    | inr differs ↦ laid.shut j le (before j lt differs)
  ];
}
  where
    size : length (s.places ++ place ∷ []) ≡ length s.places + 1
    size = omega (arith, length-append s.places (place ∷ []))

    before : (j : ℕ) → j < length (s.places ++ place ∷ []) → j ≢ length s.places → j < length s.places
    before j lt differs = omega (arith, lt, size, differs)

    new_place : place_at (with_place s place) (length s.places) ≡ place
    new_place = last_item s.places place _

    new_image : image_at (images ++ image ∷ []) (length s.places) ≡ image
    new_image = ap (λ (n : ℕ). image_at (images ++ image ∷ []) n) (sym laid.paired) ∙ last_item images image _

    both : (j : ℕ) → j < length s.places → Counts (place_at s j) (image_at images j) ≡ Counts (place_at (with_place s place) j) (image_at (images ++ image ∷ []) j)
    both j lt = ap (λ (q : Place). Counts q (image_at images j)) (sym (old_place s place j lt)) ∙ ap (λ (l : List ℕ). Counts (place_at (with_place s place) j) l) (sym (old_image images image j (omega (arith, lt, laid.paired))))

-- what the two writes leave of the entry
pub body_written : {E F : Type 0} (old mid new : Past) (a : Area) (g k : ℕ) (place : Place) (image body : List ℕ) (first : Result Unit E) (second : Result Unit F) → length image ≡ 2048 → body ≡ body_bytes place g → length body ≡ 15
    → Writes old mid a.chunk (head_page a k + 1) 0 image first → is_ok first ≡ true → Writes mid new a.chunk (head_page a k) 1 body second → is_ok second ≡ true → HasBody a g (seen new) k place image
body_written old mid new a g k place image body first second long is size w good v fine = record {
  behind_gate = λ i lt. (write_seen mid new a.chunk (head_page a k) 1 body second v fine).1 i (omega (arith, lt, size)) ∙ ap (λ (l : List ℕ). get_or l i 0) is;
  next_page = λ i lt.
      (write_seen mid new a.chunk (head_page a k) 1 body second v fine).0 a.chunk (head_page a k + 1) i (within-elsewhere a.chunk (head_page a k) 1 (length body) a.chunk (head_page a k + 1) i (λ _ same. omega (arith, same)))
      ∙ ap (λ (n : ℕ). seen mid a.chunk (head_page a k + 1) n) (sym (zero-add i))
      ∙ (write_seen old mid a.chunk (head_page a k + 1) 0 image first w good).1 i (omega (arith, lt, long));
  long = long;
}

pub on_ok_if : {T E : Type 0} {A : Type 0} (r : Result T E) → (is_ok r ≡ true → A) → OnOk r A
on_ok_if (Ok x) f = f refl
on_ok_if (Err e) f = tt

pub on_ok : {T E : Type 0} {A B : Type 0} (r : Result T E) → (A → B) → OnOk r A → OnOk r B
on_ok (Ok x) f a = f a
on_ok (Err e) f a = tt

-- ---- as the calls name chunk and page

pub torn_here : (past : Past) (chunk chunk' page page' at n : ℕ) (d : Bytes) → chunk ≡ chunk' → page ≡ page' → TornFrom past chunk page at n d → TornFrom past chunk' page' at n d
torn_here past chunk chunk' page page' at n d one two torn = subst (λ (p : ℕ). TornFrom past chunk' p at n d) two (subst (λ (k : ℕ). TornFrom past k page at n d) one torn)

pub durable_here : (old new : Past) (chunk chunk' page page' at : ℕ) (bytes : List ℕ) → chunk ≡ chunk' → page ≡ page' → IsDurable old new chunk page at bytes → IsDurable old new chunk' page' at bytes
durable_here old new chunk chunk' page page' at bytes one two durable = subst (λ (p : ℕ). IsDurable old new chunk' p at bytes) two (subst (λ (k : ℕ). IsDurable old new k page at bytes) one durable)

pub writes_here : {E : Type 0} (old new : Past) (chunk chunk' page page' at : ℕ) (bytes : List ℕ) (result : Result Unit E) → chunk ≡ chunk' → page ≡ page' → Writes old new chunk page at bytes result → Writes old new chunk' page' at bytes result
writes_here old new chunk chunk' page page' at bytes result one two w = subst (λ (p : ℕ). Writes old new chunk' p at bytes result) two (subst (λ (k : ℕ). Writes old new k page at bytes result) one w)

pub syncs_here : {E : Type 0} (old new : Past) (chunk chunk' : ℕ) (result : Result Unit E) → chunk ≡ chunk' → Syncs old new chunk result → Syncs old new chunk' result
syncs_here old new chunk chunk' result one s = subst (λ (k : ℕ). Syncs old new k result) one s

-- a write to an entry leaves all outside the area
pub write_framed : {E : Type 0} (old new : Past) (s : Log) (k page at : ℕ) (bytes : List ℕ) (result : Result Unit E) → IsLog s → k < s.area.count → IsOf s.area k page → Writes old new s.area.chunk page at bytes result → Stops old new (FramedIn old (lies_in s.area))
write_framed old new s k page at bytes result is lt here w =
    stops_weaker old new (TornFrom old s.area.chunk page at (length bytes)) (FramedIn old (lies_in s.area)) (λ d torn. framed_entry old s k page at (length bytes) d is lt here torn) (stops_write old new s.area.chunk page at bytes result w)
