-- The bytes of the page that is written next.
use Rattle.std.specs.Prelude.{List, length, nat_lt, true, ℕ, ◌<◌, ◌==◌, ◌^◌, ◌≡◌}
use Rattle.std.proofs.Common.{ap, arith, refl, subst, sym, ◌∙◌}
use Rattle.std.proofs.lemmas.Bool.Decides.{nat_tests}
use Rattle.ol_values.specs.Config.{Config}
use Rattle.ol_values.specs.LogPages.{LogPage}
use Rattle.ol_record.specs.LogPages.{IsFilling, IsLogPage, log_page_bytes, page_in}
use Rattle.ol_record.proofs.Filled.{buffer_from}
use Rattle.ol_chunks.specs.Places.{log_area}
use Rattle.ol_log_places.specs.Places.{is_of_place, place_number}
use Rattle.ol_log_places.specs.Writes.{IsPageOf}
use Rattle.ol_log_state.specs.Files.{next_page}
use Rattle.ol_log_state.specs.RingState.{RingState, page_to_write}
use Rattle.ol_loglog.specs.RingValue.{IsInLimits}
use Rattle.ol_loglog.proofs.Steps.{number_between}

of_place : (c : Config) (k : ℕ) (p : LogPage) → p.index < c.log_file_pages → k ≡ place_number c p.uniq p.index → is_of_place c k p ≡ true
unfolding is_of_place
of_place c k p below at =
    let a : nat_lt p.index c.log_file_pages ≡ true = grind (arith, nat_tests) in
    let b : (k == place_number c p.uniq p.index) ≡ true = grind (arith, nat_tests) in
    rw (a, b) refl

-- the bytes are those of a page of its place
pub record IsSpelled (c : Config) (k : ℕ) (p : LogPage) (bytes : List ℕ) : Type 0 where
  pub value : page_in bytes ≡ p
  pub page : IsPageOf c k bytes

pub spelled : (c : Config) (s : RingState) (k : ℕ) (bytes : List ℕ) → s.files.area ≡ log_area c → IsInLimits s → s.files.uniq < 2 ^ 62 → 0 < length s.buffer → (next_page s.files).index < c.log_file_pages
    → k ≡ place_number c (next_page s.files).uniq (next_page s.files).index → bytes ≡ log_page_bytes 0 (page_to_write s) → IsFilling (page_to_write s) → IsSpelled c k (page_to_write s) bytes
spelled c s k bytes area limits low some below at is filling =
    let of = buffer_from bytes 0 (page_to_write s) filling is in
    let between = number_between s.files in
    let page : IsLogPage (page_to_write s) = record {
      records = filling.records;
      some = omega (arith, some);
      room = filling.room;
      index = filling.index;
      uniq = (omega (arith, between.0, limits.uniq.0), omega (arith, between.1, low));
      incarnation = limits.incarnation;
      first = omega (arith, limits.first);
      last = omega (arith, limits.first, limits.next);
    } in
    record {
      value = of.value;
      page = record {
        page = subst IsLogPage (sym of.value) page;
        image = of.buffer.image;
        here = ap (is_of_place c k) of.value ∙ of_place c k (page_to_write s) below at;
      };
    }
