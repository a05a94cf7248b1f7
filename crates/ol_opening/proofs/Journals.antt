-- What an opening asks for beside what an image stands for, of the start of a sound journal.
use Rattle.std.specs.Prelude.{Bool, List, [], drop, false, length, nat_lt, slice_index_or, true, ℕ, ◌++◌, ◌+◌, ◌-◌, ◌<◌, ◌∷◌, ◌≡◌, ◌≤◌}
use Rattle.std.proofs.Common.{ap, append_assoc, arith, length-append, length-take, refl, subst, sym, ◌∙◌}
use Rattle.std.proofs.Math.Seq.{take-append-add}
use Rattle.std.proofs.lemmas.Bool.{and_parts}
use Rattle.std.proofs.lemmas.Bool.Decides.{nat_tests}
use Rattle.std.proofs.lemmas.List.Elements.{All-head}
use Rattle.std.proofs.lemmas.List.{get_or-take, length-drop, take-append-drop, take-take}
use Rattle.ol_values.specs.Config.{Config, data_pages, has_page}
use Rattle.ol_values.specs.Image.{IsDataPage}
use Rattle.ol_values.specs.Pages.{Page}
use Rattle.ol_values.specs.declared.record.Record.{Record}
use Rattle.ol_values.specs.declared.record.Record.TheVariants.{Commit}
use Rattle.ol_rules.specs.Journal.{page_at, page_from}
use Rattle.ol_rules.specs.Sound.{Sound, afterwards}
use Rattle.ol_rules.specs.Sound.{start as nothing}
use Rattle.ol_rules.specs.Start.{IsStartOf, Start, last_behind, low_behind, page_behind, upto}
use Rattle.ol_rules.specs.Transactions.{Txn, low_at, low_of, open_at}
use Rattle.ol_laws.proofs.SoundLaws.{fine, last_after, sound_split, txns_of}
use Rattle.ol_laws.proofs.TxnLaws.{InOrder}
use Rattle.ol_stand_laws.proofs.PageSlots.{stamp_within}
use Rattle.ol_stand_laws.proofs.SoundPages.{data_page}
use Rattle.ol_stand_laws.proofs.StartLaws.{need_is, pages_are}
use Rattle.ol_chunks.specs.Limits.{IsConfig}
use Rattle.ol_log_places.specs.Places.{places}
use Rattle.ol_ports.specs.Disk.{Bytes}
use Rattle.ol_reserve.specs.declared.anchor.Anchor.{Anchor}
use Rattle.ol_storage.proofs.Agreeing.{held_agree}
use Rattle.ol_storage.proofs.Records.{logged_same}
use Rattle.ol_storage.specs.Behind.{is_up, last_of, pages_of, record_at}
use Rattle.ol_storage.specs.Journals.{behind_in}
use Rattle.ol_storage.specs.Standing.{Stands}
use Rattle.ol_opening.specs.Opening.{IsLeft}

-- the need of a sound journal is at most the position behind it
low_in_order : (txns : List Txn) (last : ℕ) → InOrder txns last → low_of txns last ≤ last + 1
low_in_order [] last order = omega arith
low_in_order (t ∷ txns) last order = let first : t.number ≤ last = All-head (λ (u : Txn). u.number ≤ last) t txns order.within in omega (arith, first)

low_below : (c : Config) (journal : List Record) → Sound c journal → low_at journal ≤ length journal + 1
low_below c journal sound =
    let order = (fine c journal sound).order in
    let last : (afterwards nothing journal).last ≡ length journal = (let sum : (afterwards nothing journal).last ≡ 0 + length journal = last_after nothing journal in omega (arith, sum)) in
    low_in_order (open_at journal) (length journal) (subst (λ (n : ℕ). InOrder (open_at journal) n) last (subst (λ (l : List Txn). InOrder l (afterwards nothing journal).last) (txns_of nothing journal) order))

-- a page has a stamp of at most the last position
stamp_below : (journal : List Record) (space page : ℕ) → (page_at journal space page).stamp ≤ length journal
unfolding page_from
stamp_below journal space page = let most : (page_at journal space page).stamp < 1 + length journal = stamp_within 0 1 journal space page (omega arith) in omega (arith, most)

module _ (c : Config) (up : ℕ → Bool) (journal records : List Record) (start : Start) (is : IsStartOf c up journal start) (sound : Sound c (journal ++ records)) where
  -- the journal up to a position is sound
  part_sound : (position : ℕ) → Sound c (journal ++ upto start records position)
  part_sound position =
      let part = upto start records position in
      let rest = drop (position - start.last) records in
      (sound_split c nothing (journal ++ part) rest
      (subst (λ (l : List Record). Sound c l) (ap (λ (l : List Record). journal ++ l) (sym (take-append-drop (position - start.last) records)) ∙ sym (append_assoc journal part rest)) sound)).0

  part_length : (position : ℕ) → start.last ≤ position → position ≤ start.last + length records → length (journal ++ upto start records position) ≡ position
  part_length position from to = omega (arith, from, to, is.last, length-append journal (upto start records position), length-take (position - start.last) records)

  pub sound_left : (reached : ℕ) (a : Anchor) (d : Bytes) → IsConfig c → ((space : ℕ) → is_up a space ≡ true → up space ≡ true) → reached ≡ a.position → Stands c (behind_in journal start records reached) a (last_of (behind_in journal start records reached)) d
      → IsLeft c (behind_in journal start records reached) a d
  sound_left reached a d config ups same stands =
      let part = upto start records a.position in
      let there = part_length a.position stands.checkpoint.from stands.position in
      record {
        config = config;
        behind = record {
          kept = omega (arith, ap (λ (l : List Record). length l) is.kept, length-drop (start.first - 1) journal, is.last, is.first.0, is.first.1);
          from = omega (arith, same, stands.checkpoint.from);
          to = omega (arith, same, stands.position);
        };
        reached = same;
        stands = stands;
        need = omega (arith, stands.checkpoint.need ∙ need_is c up journal part start is (part_sound a.position), low_below c (journal ++ part) (part_sound a.position), there);
        pages = λ space page is_there. subst IsDataPage (sym (page_is a space page ups is_there)) (data_page c (journal ++ part) space page (part_sound a.position));
        stamps = λ space page is_there.
            let stamp : (page_behind start part space page).stamp ≡ (page_at (journal ++ part) space page).stamp = ap (λ (p : Page). p.stamp) (page_is a space page ups is_there) in
            omega (arith, stamp, stamp_below (journal ++ part) space page, there, stands.position);
      }
    where
      page_is : (b : Anchor) (space page : ℕ) → ((space : ℕ) → is_up b space ≡ true → up space ≡ true) → (is_up b space ≡ true) × (has_page c space page ≡ true) → page_behind start (upto start records b.position) space page ≡ page_at (journal ++ upto start records b.position) space page
      page_is b space page ups (on, there) =
          pages_are c up journal (upto start records b.position) start space page is (ups space on)
          (let parts = (and_parts (nat_lt space (length c.spaces)) (nat_lt page (data_pages c space)) there).1 in grind (arith, nat_tests, parts))

-- ---- the records up to where a stop came

-- an image that stands for the records up to a last position stands for these alone, with the pages at the checkpoint
module _ (c : Config) (up : ℕ → Bool) (journal records : List Record) (start : Start) (is : IsStartOf c up journal start) (reached last : ℕ) (a : Anchor) (d : Bytes) (stands : Stands c (behind_in journal start records reached) a last d) (within : last ≤ last_behind start records) where
  -- a position from the start's last up to this one has the same records behind the start
  same_part : (position : ℕ) → position ≤ last → upto start (upto start records last) position ≡ upto start records position
  same_part position below = take-take (position - start.last) (last - start.last) records (omega (arith, below))

  same_kept : (position : ℕ) → start.first ≤ position → position < last + 1 → slice_index_or (start.kept ++ upto start records last) (position - start.first) (Commit 0) ≡ slice_index_or (start.kept ++ records) (position - start.first) (Commit 0)
  same_kept position from below =
      let whole : start.first + length start.kept ≡ start.last + 1 = kept_whole in
      let at_least : start.last ≤ last = omega (arith, stands.checkpoint.from, stands.position) in
      ap (λ (l : List Record). slice_index_or l (position - start.first) (Commit 0)) (sym (take-append-add start.kept records (last - start.last)))
      ∙ get_or-take (length start.kept + (last - start.last)) (start.kept ++ records) (position - start.first) (Commit 0) (omega (arith, whole, at_least, from, below))
    where
      kept_whole : start.first + length start.kept ≡ start.last + 1
      kept_whole = omega (arith, ap (λ (l : List Record). length l) is.kept, length-drop (start.first - 1) journal, is.last, is.first.0, is.first.1)

  same_record : (position : ℕ) → position < last + 1 → record_at (behind_in journal start (upto start records last) a.position) position ≡ record_at (behind_in journal start records reached) position
  same_record position below = by_case (nat_lt position start.first) refl
    where
      by_case : (b : Bool) → nat_lt position start.first ≡ b → record_at (behind_in journal start (upto start records last) a.position) position ≡ record_at (behind_in journal start records reached) position
      by_case true e = rw e refl
      by_case false e = let kept = same_kept position (grind (arith, nat_tests, e)) below in rw e kept

  stands_cut : Stands c (behind_in journal start (upto start records last) a.position) a (last_of (behind_in journal start (upto start records last) a.position)) d
  stands_cut =
      let at_least : start.last ≤ last = omega (arith, stands.checkpoint.from, stands.position) in
      let size : start.last + length (upto start records last) ≡ last = omega (arith, at_least, within, length-take (last - start.last) records) in
      let cut : Stands c (behind_in journal start (upto start records last) a.position) a last d = record {
        newest = stands.newest;
        checkpoint = record {
          online = stands.checkpoint.online;
          text = stands.checkpoint.text;
          from = stands.checkpoint.from;
          to = omega arith;
          need = stands.checkpoint.need ∙ ap (λ (l : List Record). low_behind start l) (sym (same_part a.position stands.position));
        };
        position = stands.position;
        pages = held_agree c a.generation (pages_of a (behind_in journal start records reached)) (pages_of a (behind_in journal start (upto start records last) a.position)) d (λ space page is_there. is_there)
            (ap (λ (l : List Record). λ (space page : ℕ). page_behind start l space page) (same_part a.position stands.position)) stands.pages;
        log = logged_same c (places c d) (record_at (behind_in journal start records reached)) (record_at (behind_in journal start (upto start records last) a.position)) a.need (last + 1) same_record stands.log;
        near = stands.near;
      } in
      subst (λ (n : ℕ). Stands c (behind_in journal start (upto start records last) a.position) a n d) (sym size) cut

  pub stop_left : IsConfig c → Sound c (journal ++ records) → ((space : ℕ) → is_up a space ≡ true → up space ≡ true) → IsLeft c (behind_in journal start (upto start records last) a.position) a d
  stop_left config sound ups = sound_left c up journal (upto start records last) start is (part_sound c up journal records start is sound last) a.position a d config ups refl stands_cut
