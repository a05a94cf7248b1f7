-- What stands for a start and records behind it stands for each journal that the start is of.
use Rattle.std.specs.Prelude.{Bool, List, drop, false, if◌then◌else◌, length, nat_lt, slice_index_or, suc, take, true, zero, ℕ, ◌++◌, ◌+◌, ◌-◌, ◌<◌, ◌≡◌, ◌≤◌}
use Rattle.std.proofs.Common.{ap, append_assoc, arith, length-append, length-take, refl, subst, sym, ◌∙◌}
use Rattle.std.proofs.Math.Seq.{take-append-add}
use Rattle.std.proofs.lemmas.Bool.{and_parts}
use Rattle.std.proofs.lemmas.Bool.Decides.{nat_tests}
use Rattle.std.proofs.lemmas.List.{drop-append-le, get_or-drop, get_or-take, get_or_append_left, take-append-drop, take-take}
use Rattle.ol_values.specs.Config.{Config, data_pages, has_page}
use Rattle.ol_values.specs.Image.{page_bytes}
use Rattle.ol_values.specs.Pages.{Page}
use Rattle.ol_values.specs.declared.record.Record.{Record}
use Rattle.ol_values.specs.declared.record.Record.TheVariants.{Commit}
use Rattle.ol_rules.specs.Journal.{page_at}
use Rattle.ol_rules.specs.Sound.{Sound}
use Rattle.ol_rules.specs.Sound.{start as nothing}
use Rattle.ol_rules.specs.Start.{IsStartOf, Start, low_behind, upto}
use Rattle.ol_rules.specs.Transactions.{low_at}
use Rattle.ol_laws.proofs.SoundLaws.{sound_split}
use Rattle.ol_stand_laws.proofs.StartLaws.{need_is, pages_are}
use Rattle.ol_ports.specs.Disk.{Bytes}
use Rattle.ol_log_places.specs.Places.{places}
use Rattle.ol_log_places.specs.Runs.{IsLogged, IsNear}
use Rattle.ol_reserve.specs.declared.anchor.Anchor.{Anchor}
use Rattle.ol_storage.specs.Behind.{Behind, is_up, record_at}
use Rattle.ol_storage.specs.Journals.{StandsFor, behind_in, record_of}
use Rattle.ol_storage.specs.Standing.{Stands, first_number}
use Rattle.ol_storage.proofs.Records.{logged_same}

-- ---- records

-- a first part of a list has the same records
first_part : (l : List Record) (last position : ℕ) → position ≤ last → record_of (take last l) position ≡ record_of l position
first_part l last zero below = refl
first_part l last (suc n) below = get_or-take last l n (Commit 0) (omega (arith, below))

-- so has a list of the first part
longer : (journal records : List Record) (position : ℕ) → position ≤ length journal → record_of (journal ++ records) position ≡ record_of journal position
longer journal records zero below = refl
longer journal records (suc n) below = get_or_append_left journal records (Commit 0) n (omega (arith, below))

module _ (c : Config) (up : ℕ → Bool) (journal records : List Record) (start : Start) (is : IsStartOf c up journal start) where
  -- the records from the start's first on
  kept_on : (n : ℕ) → start.first ≤ suc n → slice_index_or (start.kept ++ records) (suc n - start.first) (Commit 0) ≡ slice_index_or (journal ++ records) n (Commit 0)
  kept_on n from =
      let short : start.first - 1 ≤ length journal = omega (arith, is.first.1, is.last) in
      let place : start.first - 1 + (suc n - start.first) ≡ n = omega (arith, from, is.first.0) in
      ap (λ (l : List Record). slice_index_or (l ++ records) (suc n - start.first) (Commit 0)) is.kept
      ∙ ap (λ (l : List Record). slice_index_or l (suc n - start.first) (Commit 0)) (sym (drop-append-le (start.first - 1) journal records short))
      ∙ get_or-drop (start.first - 1) (journal ++ records) (suc n - start.first) (Commit 0)
      ∙ ap (λ (k : ℕ). slice_index_or (journal ++ records) k (Commit 0)) place

  -- the record at each position is the journal's
  same_records : (reached position : ℕ) → record_at (behind_in journal start records reached) position ≡ record_of (journal ++ records) position
  same_records reached position = by_case (nat_lt position start.first) refl
    where
      behind : (n : ℕ) → nat_lt n start.first ≡ false → slice_index_or (start.kept ++ records) (n - start.first) (Commit 0) ≡ record_of (journal ++ records) n
      behind zero e = absurd (let clash : start.first ≤ 0 = grind (arith, nat_tests, e) in omega (arith, clash, is.first.0))
      behind (suc n) e = kept_on n (grind (arith, nat_tests, e))

      by_case : (b : Bool) → nat_lt position start.first ≡ b → record_at (behind_in journal start records reached) position ≡ record_of (journal ++ records) position
      by_case true e = let below : position < start.first = grind (arith, nat_tests, e) in rw e (sym (longer journal records position (omega (arith, below, is.first.1, is.last))))
      by_case false e = let found = behind position e in rw e found

  -- ---- a position from the start's last on

  -- the journal up to it
  up_to : (position last : ℕ) → start.last ≤ position → position ≤ last → last ≤ length (journal ++ records) → take position (take last (journal ++ records)) ≡ journal ++ upto start records position
  up_to position last from below within =
      ap (λ (l : List Record). take position l) (ap (λ (n : ℕ). take n (journal ++ records)) (let k : last ≡ length journal + (last - start.last) = omega (arith, is.last, from, below) in k) ∙ take-append-add journal records (last - start.last))
      ∙ ap (λ (n : ℕ). take n (journal ++ take (last - start.last) records)) (let k : position ≡ length journal + (position - start.last) = omega (arith, is.last, from) in k)
      ∙ take-append-add journal (take (last - start.last) records) (position - start.last)
      ∙ ap (λ (l : List Record). journal ++ l) (take-take (position - start.last) (last - start.last) records (omega (arith, below)))

  pub lifted : (reached last : ℕ) (a : Anchor) (d : Bytes) → Sound c (journal ++ records) → ((space : ℕ) → is_up a space ≡ true → up space ≡ true) → last ≤ length (journal ++ records) → Stands c (behind_in journal start records reached) a last d
      → StandsFor c (take last (journal ++ records)) a d
  lifted reached last a d sound ups within stands =
      let from = stands.checkpoint.from in
      let part = up_to a.position last from stands.position within in
      let size : length (take last (journal ++ records)) ≡ last = omega (arith, length-take last (journal ++ records), within) in
      let sound_there : Sound c (journal ++ upto start records a.position) = (sound_split c nothing (journal ++ upto start records a.position) (drop (a.position - start.last) records)
      (subst (λ (l : List Record). Sound c l) (ap (λ (l : List Record). journal ++ l) (sym (take-append-drop (a.position - start.last) records)) ∙ sym (appended (upto start records a.position) (drop (a.position - start.last) records))) sound)).0 in
      record {
        anchor = record {
          newest = stands.newest;
          online = stands.checkpoint.online;
          text = stands.checkpoint.text;
          position = omega (arith, size, stands.position);
          need = stands.checkpoint.need ∙ need_is c up journal (upto start records a.position) start is sound_there ∙ ap (λ (l : List Record). low_at l) (sym part);
        };
        pages = record {
          images = λ space page is_up there.
              stands.pages.pages space page (is_up, there)
              ∙ ap (λ (p : Page). page_bytes p) (pages_are c up journal (upto start records a.position) start space page is (ups space is_up) (in_space space page there) ∙ ap (λ (l : List Record). page_at l space page) (sym part));
          older = stands.pages.older;
        };
        log = record {
          logged = subst (λ (n : ℕ). IsLogged c (places c d) (record_of (take last (journal ++ records))) a.need (n + 1)) (sym size)
              (logged_same c (places c d) (record_at (behind_in journal start records reached)) (record_of (take last (journal ++ records))) a.need (last + 1)
              (λ position below. first_part (journal ++ records) last position (omega (arith, below)) ∙ sym (same_records reached position)) stands.log);
          near = subst (λ (n : ℕ). IsNear c (places c d) (first_number a) (n + 1)) (sym size) stands.near;
        };
      }
    where
      appended : (l m : List Record) → (journal ++ l) ++ m ≡ journal ++ (l ++ m)
      appended l m = append_assoc journal l m

      in_space : (space page : ℕ) → has_page c space page ≡ true → page < data_pages c space
      in_space space page there = let parts = (and_parts (nat_lt space (length c.spaces)) (nat_lt page (data_pages c space)) there).1 in grind (arith, nat_tests, parts)
