-- Calls on other parts of a disk leave the entries.
use Rattle.std.proofs.Common.{◌≡◌, inl, inr, ⊎_elim, ℕ, ◌+◌, ◌*◌, ◌<◌, ◌≤◌, Bool, true, false, List, length, sym, ◌∙◌, ap, subst, arith}
use Rattle.std.proofs.lemmas.Bool.Decides.{nat_tests}
use Rattle.ol_values.specs.Config.{Config}
use Rattle.ol_chunks.specs.Places.{lies_in}
use Rattle.ol_ports.specs.Disk.{Bytes, Past, Rest, seen}
use Rattle.ol_ports.specs.Frames.{FramedAt, SameBut}
use Rattle.ol_physlog.specs.Places.{HasBody, head_page}
use Rattle.ol_physlog.specs.States.{HoldsEntries, IsLaid, IsLog, Log, entry_number, image_at, place_at}
use Rattle.ol_physlog.proofs.PlaceLaws.{SameEntry, body_same, entry_same, gate_same, generation_same, open_same}
use Rattle.ol_physlog.proofs.StateLaws.{entry_below}

module _ (s : Log) (is : IsLog s) (is_part : ℕ → ℕ → ℕ → Bool) (apart : (chunk page i : ℕ) → lies_in s.area chunk page ≡ true → is_part chunk page i ≡ false) where
  pub entry_kept : (e d : Bytes) → SameBut is_part e d → (k : ℕ) → k < s.area.count → SameEntry s.area d e k
  entry_kept e d same k lt = record {
    of_head = λ i. same s.area.chunk (head_page s.area k) i (apart s.area.chunk (head_page s.area k) i (inside (head_page s.area k) (omega arith) (omega (arith, size, lt))));
    of_image = λ i. same s.area.chunk (head_page s.area k + 1) i (apart s.area.chunk (head_page s.area k + 1) i (inside (head_page s.area k + 1) (omega arith) (omega (arith, size, lt))));
  }
    where
      size : s.area.count * s.area.pages ≡ 2 * s.area.count
      size = ap (λ (n : ℕ). s.area.count * n) is.pages ∙ omega arith

      inside : (p : ℕ) → s.area.first ≤ p → p < s.area.first + s.area.count * s.area.pages → lies_in s.area s.area.chunk p ≡ true
      inside p low high = grind (arith, nat_tests)

  pub held_kept : (c : Config) (images : List (List ℕ)) (e d : Bytes) → SameBut is_part e d → HoldsEntries c s images e → HoldsEntries c s images d
  held_kept c images e d same holds = record {
    settled = λ j lt. let below = entry_below s is j (omega (arith, lt, is.settled)) in entry_same s.area d e (entry_number s j) (entry_kept e d same (entry_number s j) below) c s.generation ∙ holds.settled j lt;
    added = λ j le lt.
        let here = entry_same s.area d e (entry_number s j) (entry_kept e d same (entry_number s j) (entry_below s is j lt)) c s.generation in
        ⊎_elim (λ idle. inl (here ∙ idle)) (λ counts. inr (here ∙ counts)) (holds.added j le lt);
    others = λ k lt free. entry_same s.area d e k (entry_kept e d same k lt) c s.generation ∙ holds.others k lt free;
    older = λ k lt gate. subst (λ (n : ℕ). n ≤ s.generation) (sym (generation_same s.area d e k (entry_kept e d same k lt))) (holds.older k lt (sym (gate_same s.area d e k (entry_kept e d same k lt)) ∙ gate));
  }

  module _ (c : Config) (old new : Past) (images : List (List ℕ)) (from : (d : Bytes) → Rest new d → FramedAt old is_part d) (laid : IsLaid c old s images) where
    laid_with : ((j : ℕ) → s.settled ≤ j → j < length s.places → HasBody s.area s.generation (seen new) (entry_number s j) (place_at s j) (image_at images j)) → IsLaid c new s images
    laid_with body = record {
      is = laid.is;
      paired = laid.paired;
      pages = laid.pages;
      each = λ d rest.
          let f = from d rest in
          let on = laid.each f.origin f.rest in
          record {
            gates = λ k lt. open_same s.area d f.origin k (entry_kept f.origin d f.same k lt) ∙ on.gates k lt;
            settled = λ j lt. entry_same s.area d f.origin (entry_number s j) (entry_kept f.origin d f.same (entry_number s j) (entry_below s is j (omega (arith, lt, is.settled)))) c s.generation ∙ on.settled j lt;
            others = λ k lt free. entry_same s.area d f.origin k (entry_kept f.origin d f.same k lt) c s.generation ∙ on.others k lt free;
            older = λ k lt gate. subst (λ (n : ℕ). n ≤ s.generation) (sym (generation_same s.area d f.origin k (entry_kept f.origin d f.same k lt))) (on.older k lt (sym (gate_same s.area d f.origin k (entry_kept f.origin d f.same k lt)) ∙ gate));
          };
      body = body;
      shut = laid.shut;
    }

    pub laid_kept : SameBut is_part (seen old) (seen new) → IsLaid c new s images
    laid_kept reads = laid_with (λ j le lt. body_same s.area (seen new) (seen old) (entry_number s j) (entry_kept (seen old) (seen new) reads (entry_number s j) (entry_below s is j lt)) s.generation (place_at s j) (image_at images j) (laid.body j le lt))

    pub settled_kept : s.settled ≡ length s.places → IsLaid c new s images
    settled_kept all = laid_with (λ j le lt. absurd (omega (arith, le, lt, all)))
