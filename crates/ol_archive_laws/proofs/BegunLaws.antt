-- An archive that has just begun is one of the journal, where it might begin.
use Rattle.std.proofs.Common.{◌≡◌, ℕ, ◌+◌, ◌-◌, ◌<◌, ◌≤◌, ◌++◌, ◌∙◌, ◌^◌, Bool, Some, None, Option, List, [], ◌∷◌, ap, arith, cond, leb, length, map, refl, subst, suc, sym, true, false, zero}
use Rattle.std.specs.List.{All, filter, list_all, list_any, range_with_len}
use Rattle.std.specs.Prelude.{is_some, nat_lt, not, unwrap_or, ◌&&◌, ◌==◌}
use Rattle.std.proofs.lemmas.Bool.{le-leb}
use Rattle.std.proofs.lemmas.List.{get_or-set_same}
use Rattle.std.proofs.lemmas.List.Elements.{All-head}
use Rattle.ol_values.specs.declared.event.Event.{Event}
use Rattle.ol_values.specs.declared.event.Event.TheVariants.{ArchiveStart}
use Rattle.ol_values.specs.declared.event.Reply.{Reply}
use Rattle.ol_values.specs.declared.event.Reply.TheVariants.{Archiving, NoParent, SpaceDown}
use Rattle.ol_values.specs.declared.history.Actor.{Actor}
use Rattle.ol_values.specs.declared.history.Actor.TheVariants.{Archiver}
use Rattle.ol_values.specs.declared.history.Entry.{Entry}
use Rattle.ol_values.specs.declared.record.Record.{Record}
use Rattle.ol_values.specs.Blocks.{Saved}
use Rattle.ol_values.specs.Config.{Config}
use Rattle.ol_rules.specs.Lasting.{Kept, is_up}
use Rattle.ol_rules.specs.Shelf.{Shelf}
use Rattle.ol_rules.specs.Sound.{Sound, afterwards, start}
use Rattle.ol_rules.specs.Start.{IsStartOf}
use Rattle.ol_rules.specs.Transactions.{Txn, low_at, low_of, open_at}
use Rattle.ol_model.specs.ArchiveTurns.{first_space, kept_at, saved_of, spaces_named, start_at, start_with, started}
use Rattle.ol_model.specs.History.{state_after}
use Rattle.ol_model.specs.Machine.{Archive, Machine, Work, archive_of, archiver_of, config_of, last_of, low_in}
use Rattle.ol_model.specs.Turns.{DeviceFault, faulted, given_by, turn, turn_of, turn_unless}
use Rattle.ol_laws.proofs.SoundLaws.{fine, last_after, txns_of}
use Rattle.ol_stand_laws.proofs.StartLaws.{last_is, need_is}
use Rattle.ol_turn_laws.proofs.StepLaws.{unless_all}
use Rattle.ol_chunks.specs.Limits.{IsConfig}
use Rattle.ol_block_reading.specs.Grammar.{AreAscending}
use Rattle.ol_tape_laws.specs.Runs.{Begins}
use Rattle.ol_tape_laws.proofs.SavesetLaws.{saveset_is}
use Rattle.ol_archive_laws.specs.Archives.{IsBehind, IsOfJournal, MayArchive, archived_by}
use Rattle.ol_archive_laws.proofs.ArchivedLaws.{last_small}
use Rattle.ol_archive_laws.proofs.OrderLaws.{range_ascends}

-- ---- what the turn gives and leaves

-- an archive of a level that a turn has just begun
record Fresh (m : Machine) (level : ℕ) (b : Archive) (n : Machine) : Type 0 where
  number : b.number ≡ m.lasting.next_archive
  its_level : b.level ≡ level
  cut : b.cut ≡ last_of m
  low : b.low ≡ low_in m
  named : List ℕ
  spaces : b.spaces ≡ saved_of m level named
  config : config_of n ≡ config_of m
  work : n.work ≡ m.work
  incarnation : n.lasting.incarnation ≡ m.lasting.incarnation

abbrev IsFresh : Machine → ℕ → Machine → Option Archive → Type 0
IsFresh m level n None = Unit {0}
IsFresh m level n (Some b) = Fresh m level b n

-- what archiver k has, it has just begun
abbrev HasFresh : Machine → ℕ → ℕ → Machine → Type 0
HasFresh m k level n = IsFresh m level n (archive_of n k)

none_fresh : (m : Machine) (k level : ℕ) → archive_of m k ≡ None → HasFresh m k level m
none_fresh m k level none = subst (λ (o : Option Archive). IsFresh m level m o) (sym none) tt

started_fresh : (m : Machine) (k level : ℕ) (named : List ℕ) → k - 1 < length m.archives → HasFresh m k level (started m k level (saved_of m level named)).1
started_fresh m k level named within =
    let a : Archive = record { number = m.lasting.next_archive; level = level; cut = last_of m; low = low_in m; spaces = saved_of m level named; passed = 0; broken = None } in
    let n : Machine = (started m k level (saved_of m level named)).1 in
    let own : archive_of n k ≡ Some a = get_or-set_same m.archives (k - 1) (Some a) None within in
    let fresh : Fresh m level a n = record { number = refl; its_level = refl; cut = refl; low = refl; named = named; spaces = refl; config = refl; work = refl; incarnation = refl } in
    subst (λ (o : Option Archive). IsFresh m level n o) (sym own) fresh

start_with_fresh : (m : Machine) (k level : ℕ) (spaces : Option (List ℕ)) → k - 1 < length m.archives → archive_of m k ≡ None → HasFresh m k level (start_with m k level spaces).1
start_with_fresh m k level None within none = none_fresh m k level none
start_with_fresh m k level (Some named) within none =
    unless_all (HasFresh m k level) m
    (first_space (λ s. not (is_up m.lasting s)) SpaceDown named
    ∷ first_space (λ s. is_some (archiver_of m s)) (λ s. Archiving (unwrap_or (archiver_of m s) 0)) named
    ∷ first_space (λ s. nat_lt 0 level && ((kept_at m level s).number == 0)) (λ s. NoParent s (level - 1)) named
    ∷ []) (started m k level (saved_of m level named)) (none_fresh m k level none) (λ all. started_fresh m k level named within)

begun_fresh : (shelf : Shelf) (k : ℕ) (a : Archive) (m : Machine) (e : Entry) → (b : Begins shelf k a m e) → Fresh m b.level a (state_after shelf m e)
begun_fresh shelf k a m e b =
    let g = given_by e.reply in
    let event : Event = ArchiveStart b.level b.names in
    let turns : turn shelf g m e.number e.actor e.event ≡ start_at m k b.level b.names (archive_of m k) =
    ap (λ (x : Actor). turn shelf g m e.number x e.event) b.turn.0
    ∙ ap (λ (x : Event). turn shelf g m e.number (Archiver k) x) b.turn.1
    ∙ ap (λ (s : Option ℕ). turn_unless s shelf g m e.number k event) b.going
    ∙ ap (λ (f : Option DeviceFault). faulted f m e.number (turn_of shelf g m e.number k event)) b.turn.2 in
    let after : state_after shelf m e ≡ (start_with m k b.level (spaces_named (config_of m) b.names)).1 =
    ap (λ (x : Reply × Machine). x.1) (turns ∙ ap (λ (o : Option Archive). start_at m k b.level b.names o) b.none) in
    let has : HasFresh m k b.level (state_after shelf m e) =
    subst (HasFresh m k b.level) (sym after) (start_with_fresh m k b.level (spaces_named (config_of m) b.names) b.within b.none) in
    subst (λ (o : Option Archive). IsFresh m b.level (state_after shelf m e) o) b.own has

-- ---- its spaces

-- a known archive whose number has 8 bytes at most, and whose cut is within a position
abbrev IsKeptWithin : ℕ → Kept → Type 0
IsKeptWithin last k = (k.number < 2 ^ 64) × (k.cut ≤ last)

-- the bases of spaces of a range are within a position, where those of known archives are
pub named_within : (m : Machine) (level last : ℕ) (l : List ℕ) → ((space : ℕ) → IsKeptWithin last (kept_at m level space))
    → list_all (λ (v : Saved). leb v.base last) (map (λ s. let r : Saved = record { space = s; parent = (kept_at m level s).number; base = (kept_at m level s).cut } in r) l) ≡ true
named_within m level last [] small = refl
named_within m level last (s ∷ l) small = λ i. le-leb (kept_at m level s).cut last (small s).1 i && named_within m level last l small i

-- ---- its low

low_most : (txns : List Txn) (last : ℕ) → All (λ (t : Txn). t.number ≤ last) txns → low_of txns last ≤ last + 1
low_most [] last all = omega arith
low_most (t ∷ txns) last all = omega (arith, All-head (λ (u : Txn). u.number ≤ last) t txns all)

-- the low of a sound journal is at most the position behind it
pub low_of_journal : (c : Config) (journal : List Record) → Sound c journal → low_at journal ≤ length journal + 1
low_of_journal c journal sound =
    let order = (fine c journal sound).order.within in
    let last : (afterwards start journal).last ≡ length journal = omega (arith, last_after start journal) in
    let open_ : All (λ (t : Txn). t.number ≤ length journal) (open_at journal) =
    subst (λ (n : ℕ). All (λ (t : Txn). t.number ≤ n) (open_at journal)) last (subst (λ (l : List Txn). All (λ (t : Txn). t.number ≤ (afterwards start journal).last) l) (txns_of start journal) order) in
    low_most (open_at journal) (length journal) open_

-- ---- the archive

behind_after : (on : ℕ → Bool) (journal : List Record) (m n : Machine) → config_of n ≡ config_of m → n.work ≡ m.work → IsBehind on journal m → IsBehind on journal n
behind_after on journal m n config work is = record {
  config = subst IsConfig (sym config) is.config;
  start = subst (λ (c : Config). IsStartOf c on journal n.work.start) (sym config) (subst (λ (w : Work). IsStartOf (config_of m) on journal w.start) (sym work) is.start);
  sound = subst (λ (c : Config). Sound c (journal ++ n.work.records)) (sym config) (subst (λ (w : Work). Sound (config_of m) (journal ++ w.records)) (sym work) is.sound);
}

-- its cut and its low are those of the journal, and no base is behind its cut
pub record IsCutOf (journal : List Record) (a : Archive) : Type 0 where
  pub cut : a.cut ≡ length journal
  pub low : a.low ≡ low_at journal
  pub bases : list_all (λ (v : Saved). leb v.base a.cut) a.spaces ≡ true

-- the known archives of the level that it has
known_small : (on : ℕ → Bool) (journal : List Record) (a : Archive) (m : Machine) (level : ℕ) → a.level ≡ level → MayArchive on journal m a → (space : ℕ) → IsKeptWithin (last_of m) (kept_at m level space)
known_small on journal a m level same may = subst (λ (l : ℕ). (space : ℕ) → IsKeptWithin (last_of m) (kept_at m l space)) same may.known

pub begun_cut : (on : ℕ → Bool) (journal : List Record) (shelf : Shelf) (k : ℕ) (a : Archive) (m : Machine) (e : Entry) → Begins shelf k a m e → MayArchive on journal m a
    → IsCutOf (journal ++ (state_after shelf m e).work.records) a
begun_cut on journal shelf k a m e b may =
    let fresh : Fresh m b.level a (state_after shelf m e) = begun_fresh shelf k a m e b in
    let start_ = may.behind.start in
    let last : last_of m ≡ length (journal ++ m.work.records) = last_is (config_of m) on journal m.work.records m.work.start start_ in
    let named : List ℕ = filter (λ s. list_any (λ t. t == s) fresh.named) (range_with_len 0 (length (config_of m).spaces)) in
    let own : IsCutOf (journal ++ m.work.records) a = record {
      cut = fresh.cut ∙ last;
      low = fresh.low ∙ need_is (config_of m) on journal m.work.records m.work.start start_ may.behind.sound;
      bases = (λ i. list_all (λ (v : Saved). leb v.base (fresh.cut i)) (fresh.spaces i)) ∙ named_within m b.level (last_of m) named (known_small on journal a m b.level fresh.its_level may);
    } in
    subst (λ (w : Work). IsCutOf (journal ++ w.records) a) (sym fresh.work) own

pub begun_behind : (on : ℕ → Bool) (journal : List Record) (shelf : Shelf) (k : ℕ) (a : Archive) (m : Machine) (e : Entry) → Begins shelf k a m e → MayArchive on journal m a → IsBehind on journal (state_after shelf m e)
begun_behind on journal shelf k a m e b may =
    let fresh : Fresh m b.level a (state_after shelf m e) = begun_fresh shelf k a m e b in
    behind_after on journal m (state_after shelf m e) fresh.config fresh.work may.behind

pub begun_of : (on : ℕ → Bool) (journal : List Record) (shelf : Shelf) (k : ℕ) (a : Archive) (m : Machine) (e : Entry) → Begins shelf k a m e → MayArchive on journal m a
    → IsOfJournal (config_of (state_after shelf m e)) (journal ++ (state_after shelf m e).work.records) (archived_by (state_after shelf m e) a)
begun_of on journal shelf k a m e b may =
    let n : Machine = state_after shelf m e in
    let fresh : Fresh m b.level a n = begun_fresh shelf k a m e b in
    let behind = begun_behind on journal shelf k a m e b may in
    let of = begun_cut on journal shelf k a m e b may in
    let first : n.work.start.last ≡ m.work.start.last = ap (λ (w : Work). w.start.last) fresh.work in
    let below : last_of m < 2 ^ 64 = omega (arith, last_small (config_of m) (journal ++ m.work.records) may.behind.sound, last_is (config_of m) on journal m.work.records m.work.start may.behind.start) in
    let small = known_small on journal a m b.level fresh.its_level may in
    let count : ℕ = length (config_of m).spaces in
    let ascend : AreAscending count 0 (saved_of m b.level fresh.named) =
    range_ascends (λ s. let r : Saved = record { space = s; parent = (kept_at m b.level s).number; base = (kept_at m b.level s).cut } in r) (λ s. refl) (λ s. (small s).0) (λ s. omega (arith, (small s).1, below))
    (λ s. list_any (λ t. t == s) fresh.named) count 0 count (omega arith) in
    record {
      config = refl;
      text = refl;
      pages = saveset_is (config_of n) on journal n a behind.start refl may.up (omega (arith, fresh.cut, first));
      some = may.some;
      spaces = subst (λ (c : Config). AreAscending (length c.spaces) 0 a.spaces) (sym fresh.config) (subst (AreAscending count 0) (sym fresh.spaces) ascend);
      cut = omega (arith, of.cut);
      low = omega (arith, of.low, of.cut, low_of_journal (config_of n) (journal ++ n.work.records) behind.sound);
      level = may.level;
      incarnation = omega (arith, fresh.incarnation, may.incarnation);
      number = omega (arith, fresh.number, may.next);
    }
