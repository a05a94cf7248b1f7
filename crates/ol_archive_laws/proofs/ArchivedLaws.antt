-- The saveset of a sound journal makes an archive that may be written, and so does what a running archive puts on its drive.
use Rattle.std.proofs.Common.{◌≡◌, ℕ, ◌+◌, ◌*◌, ◌<◌, ◌≤◌, ◌^◌, ◌++◌, Bool, Some, List, [], ◌∷◌, ap, arith, cond, drop, false, length, length-take, ltb, map, refl, subst, sym, take, take-append-drop, true}
use Rattle.std.specs.List.{All, enumerate_from, filter, range_with_len}
use Rattle.std.proofs.lemmas.Bool.{and_from, lt-ltb, ltb-true}
use Rattle.std.proofs.lemmas.List.{length-map}
use Rattle.std.proofs.lemmas.List.Elements.{All-map}
use Rattle.std.proofs.lemmas.List.FromFn.{length-range_with_len}
use Rattle.ol_values.specs.declared.record.Record.{Record}
use Rattle.ol_values.specs.Blocks.{Block, Saved, SavedPage, archive_page, header_kind, trailer_kind}
use Rattle.ol_values.specs.Config.{Config, config_text, data_pages}
use Rattle.ol_rules.specs.Journal.{page_at, page_from, stamp_at}
use Rattle.ol_rules.specs.Saveset.{changed_pages, places, saveset}
use Rattle.ol_rules.specs.Shelf.{saved_in}
use Rattle.ol_rules.specs.Sound.{Before, Sound, afterwards, start}
use Rattle.ol_model.specs.Machine.{Archive, Machine}
use Rattle.ol_model.specs.Tape.{saved_at}
use Rattle.ol_model.specs.Waiting.{pages_of}
use Rattle.ol_laws.proofs.SoundLaws.{kept_by_all, last_after, sound_split}
use Rattle.ol_stand_laws.proofs.PageSlots.{stamp_within}
use Rattle.ol_stand_laws.proofs.SoundPages.{data_page}
use Rattle.ol_chunks.specs.Limits.{IsConfig}
use Rattle.ol_chunks.proofs.AgainLaws.{read_again}
use Rattle.ol_chunks.proofs.Chunks.{few_pages}
use Rattle.ol_tape_laws.specs.Runs.{saved_blocks, whole_blocks}
use Rattle.ol_block_reading.specs.Grammar.{AreAscending}
use Rattle.ol_catalog.specs.Written.{Archived, IsArchived, IsPageOf, blocks_of_archive}
use Rattle.ol_catalog.proofs.ArchiveLaws.{end_block, page_block}
use Rattle.ol_archive_laws.specs.Archives.{IsOfJournal, archived_by}
use Rattle.ol_archive_laws.proofs.OrderLaws.{Ascend, IsOwn, all_of_space, all_of_spaces, all_own, few_pages_in, few_spaces, saved_in_order, spaces_ascend}

-- ---- the blocks

saved_are : (x : Archived) (i : ℕ) (pages : List SavedPage) → saved_blocks x.incarnation x.number i pages ≡ map (page_block x) (enumerate_from i pages)
saved_are x i [] = refl
saved_are x i (p ∷ pages) = ap (λ (l : List Block). archive_page x.incarnation x.number i p ∷ l) (saved_are x (i + 1) pages)

pub blocks_are : (m : Machine) (a : Archive) → whole_blocks m a ≡ blocks_of_archive (archived_by m a)
blocks_are m a =
    let x : Archived = archived_by m a in
    let count : length (pages_of m a) ≡ length x.pages = sym (length-map (pages_of m a) (λ (p : ℕ × ℕ). saved_at m a p.0 p.1)) in
    (λ i. end_block x header_kind 0 ∷ (saved_are x 1 x.pages i ++ end_block x trailer_kind (count i + 1) ∷ []))

-- ---- a sound journal

-- positions of a sound journal are below 2^62
pub last_small : (c : Config) (journal : List Record) → Sound c journal → length journal < 2 ^ 62
last_small c journal sound =
    let below : (afterwards start journal).last < 2 ^ 62 = kept_by_all c (λ (b : Before). b.last < 2 ^ 62) (λ b r p m room. omega (arith, room.1)) start journal (omega arith) sound in
    omega (arith, below, last_after start journal)

-- its first part is sound
part_sound : (c : Config) (journal : List Record) (cut : ℕ) → Sound c journal → Sound c (take cut journal)
part_sound c journal cut sound = (sound_split c start (take cut journal) (drop cut journal) (subst (Sound c) (sym (take-append-drop cut journal)) sound)).0

stamp_low : (journal : List Record) (space page : ℕ) → (page_at journal space page).stamp < 1 + length journal
unfolding page_from
stamp_low journal space page = stamp_within 0 1 journal space page (omega arith)

page_stamp : (journal : List Record) (space page : ℕ) → (page_at journal space page).stamp ≡ stamp_at journal space page
unfolding page_from
page_stamp journal space page = refl

-- ---- the pages of a saveset

-- a page of a saveset: of one of its spaces, changed above the space's base, and there
record IsTaken (c : Config) (past : List Record) (spaces : List Saved) (p : ℕ × ℕ) : Type 0 where
  space : Saved
  held : saved_in p.0 spaces ≡ Some space
  known : p.0 < length c.spaces
  there : p.1 < data_pages c p.0
  above : space.base < stamp_at past p.0 p.1

space_taken : (c : Config) (past : List Record) (spaces : List Saved) (v : Saved) → IsOwn (length c.spaces) spaces v → All (IsTaken c past spaces) (changed_pages c past v)
space_taken c past spaces v own =
    all_of_space (IsTaken c past spaces) v.space (λ p. ltb v.base (stamp_at past v.space p)) 0 (data_pages c v.space) (λ p less t. record {
      space = v;
      held = own.held;
      known = own.known;
      there = omega (arith, less);
      above = ltb-true v.base (stamp_at past v.space p) t;
    })

all_taken : (c : Config) (past : List Record) (spaces : List Saved) → All (IsOwn (length c.spaces) spaces) spaces → All (IsTaken c past spaces) (places c past spaces)
unfolding places
all_taken c past spaces own = all_of_spaces (IsOwn (length c.spaces) spaces) (IsTaken c past spaces) (changed_pages c past) (space_taken c past spaces) spaces own

in_order : (c : Config) (past : List Record) (spaces : List Saved) (least : ℕ) → AreAscending (length c.spaces) least spaces → Ascend least 0 (places c past spaces)
unfolding places
in_order c past spaces least a = spaces_ascend (λ v p. ltb v.base (stamp_at past v.space p)) (λ v. data_pages c v.space) (length c.spaces) least spaces a

-- ---- how many they are

kept_few : (test : ℕ → Bool) (l : List ℕ) → length (filter test l) ≤ length l
kept_few test [] = omega arith
kept_few test (n ∷ l) = elim (test n) as (λ b. length (cond b (n ∷ filter test l) (filter test l)) ≤ length (n ∷ l)) [ true ↦ omega (arith, kept_few test l) | false ↦ omega (arith, kept_few test l) ]

space_few : (c : Config) (past : List Record) (spaces : List Saved) (v : Saved) → IsConfig c → IsOwn (length c.spaces) spaces v → length (changed_pages c past v) ≤ 65535
space_few c past spaces v config own =
    let test : ℕ → Bool = λ p. ltb v.base (stamp_at past v.space p) in
    let pages : List ℕ = range_with_len 0 (data_pages c v.space) in
    let long : length (changed_pages c past v) ≡ length (filter test pages) = length-map (filter test pages) (λ p. let r : ℕ × ℕ = (v.space, p) in r) in
    omega (arith, long, kept_few test pages, length-range_with_len 0 (data_pages c v.space), few_pages c config v.space own.known)

all_few : (c : Config) (past : List Record) (spaces : List Saved) → IsConfig c → All (IsOwn (length c.spaces) spaces) spaces → length (places c past spaces) ≤ length spaces * 65535
unfolding places
all_few c past spaces config own = few_pages_in (IsOwn (length c.spaces) spaces) (changed_pages c past) 65535 (λ v is. space_few c past spaces v config is) spaces own

-- ---- the archive

-- an archive with this configuration and the saveset of this journal at its cut
abbrev filled : Config → List Record → Archived → Archived
filled c journal x = record {
  incarnation = x.incarnation;
  number = x.number;
  cut = x.cut;
  low = x.low;
  level = x.level;
  head = record { spaces = x.head.spaces; text = config_text c };
  config = c;
  pages = saveset c journal x.head.spaces x.cut;
}

page_is : (c : Config) (journal : List Record) (x : Archived) (p : ℕ × ℕ) → Sound c journal → IsTaken c (take x.cut journal) x.head.spaces p
    → IsPageOf (filled c journal x) (record { space = p.0; page = p.1; image = page_at (take x.cut journal) p.0 p.1 })
page_is c journal x p sound taken =
    let past : List Record = take x.cut journal in
    record {
      space = taken.space;
      held = taken.held;
      there = and_from (ltb p.0 (length c.spaces)) (ltb p.1 (data_pages c p.0)) (lt-ltb p.0 (length c.spaces) taken.known) (lt-ltb p.1 (data_pages c p.0) taken.there);
      image = data_page c past p.0 p.1 (part_sound c journal x.cut sound);
      above = omega (arith, taken.above, page_stamp past p.0 p.1);
      upto = omega (arith, stamp_low past p.0 p.1, length-take x.cut journal);
    }

filled_is_archived : (c : Config) (journal : List Record) (x : Archived) → IsConfig c → Sound c journal → IsOfJournal c journal x → IsArchived (filled c journal x)
filled_is_archived c journal x config sound is =
    let spaces : List Saved = x.head.spaces in
    let past : List Record = take x.cut journal in
    let saved : ℕ × ℕ → SavedPage = λ p. record { space = p.0; page = p.1; image = page_at past p.0 p.1 } in
    let own = all_own (length c.spaces) 0 spaces is.spaces in
    let count = few_spaces (length c.spaces) 0 spaces is.spaces (omega arith) in
    let small = last_small c journal sound in
    let text = read_again c config in
    let taken = all_taken c past spaces own in
    record {
      incarnation = is.incarnation;
      number = is.number;
      cut = omega (arith, is.cut, small);
      low = omega (arith, is.low, is.cut, small);
      level = is.level;
      head = record { some = is.some; few = omega (arith, count, config.few); spaces = (c, text, is.spaces) };
      text = text;
      few = omega (arith, length-map (places c past spaces) saved, all_few c past spaces config own, count, config.few);
      order = saved_in_order saved (λ p. refl) (λ p. refl) 0 0 (places c past spaces) (in_order c past spaces 0 is.spaces);
      pages = All-map (IsPageOf (filled c journal x)) saved (places c past spaces) (λ k d h. page_is c journal x _ sound (taken k d h));
    }

-- an archive of a sound journal may be written
pub journal_is_archived : (c : Config) (journal : List Record) (x : Archived) → IsConfig c → Sound c journal → IsOfJournal c journal x → IsArchived x
journal_is_archived c journal x config sound is =
    let same : filled c journal x ≡ x = λ i. record {
      incarnation = x.incarnation;
      number = x.number;
      cut = x.cut;
      low = x.low;
      level = x.level;
      head = record { spaces = x.head.spaces; text = sym is.text i };
      config = sym is.config i;
      pages = sym is.pages i;
    } in
    subst IsArchived same (filled_is_archived c journal x config sound is)
