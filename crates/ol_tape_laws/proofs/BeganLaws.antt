-- The turn that begins an archive: what it leaves, and the header that it puts on the drive.
use Rattle.std.specs.Prelude.{Bool, List, None, Option, Some, [], false, if◌then◌else◌, is_some, length, nat_lt, not, true, unwrap_or, ℕ, ◌&&◌, ◌-◌, ◌<◌, ◌==◌, ◌∷◌, ◌≡◌}
use Rattle.std.proofs.Common.{ap, refl, subst, sym}
use Rattle.std.proofs.lemmas.List.{get_or-set_same}
use Rattle.ol_values.specs.declared.event.Reply.{Reply}
use Rattle.ol_values.specs.declared.event.Reply.TheVariants.{Archiving, NoParent, NoSpace, SpaceDown}
use Rattle.ol_values.specs.Blocks.{Saved, header_kind}
use Rattle.ol_rules.specs.Lasting.{is_up}
use Rattle.ol_model.specs.Answering.{unless}
use Rattle.ol_model.specs.ArchiveTurns.{first_space, kept_at, saved_of, spaces_named, start_at, start_with, started}
use Rattle.ol_model.specs.Machine.{Archive, Machine, archive_of, archiver_of, config_of, last_of, low_in}
use Rattle.ol_model.specs.Tape.{archive_end_at, put_by, put_if}

-- an archive that archiver k has just begun, by a turn that answered so
pub record Began (m : Machine) (k : ℕ) (b : Archive) (r : Reply × Machine) : Type 0 where
  pub passed : b.passed ≡ 0
  pub broken : b.broken ≡ None
  pub cut : b.cut ≡ last_of r.1
  pub stopped : r.1.stopped ≡ m.stopped
  pub header : put_by k m r.1 r.0 ≡ archive_end_at r.1 header_kind 0 b ∷ []

-- what archiver k has, it has just begun
abbrev BeganIn : Machine → ℕ → Reply × Machine → Option Archive → Type 0
BeganIn m k r None = Unit {0}
BeganIn m k r (Some b) = Began m k b r

unless_pair : (P : Reply × Machine → Type 0) (m : Machine) (tests : List (Bool × Reply)) (answer : Reply × Machine) → ((reply : Reply) → P (reply, m)) → P answer → P (unless m tests answer)
unless_pair P m [] answer before after = after
unless_pair P m (r ∷ tests) answer before after =
    elim r.0 as (λ b. P (let x : Reply × Machine = (if b then (r.1, m) else unless m tests answer) in x)) [ true ↦ before r.1 | false ↦ unless_pair P m tests answer before after ]

none_before : (m : Machine) (k : ℕ) (reply : Reply) → archive_of m k ≡ None → BeganIn m k (reply, m) (archive_of m k)
none_before m k reply none = subst (λ (o : Option Archive). BeganIn m k (reply, m) o) (sym none) tt

started_began : (m : Machine) (k level : ℕ) (spaces : List Saved) → k - 1 < length m.archives → BeganIn m k (started m k level spaces) (archive_of (started m k level spaces).1 k)
started_began m k level spaces within =
    let a : Archive = record { number = m.lasting.next_archive; level = level; cut = last_of m; low = low_in m; spaces = spaces; passed = 0; broken = None } in
    let r = started m k level spaces in
    let own : archive_of r.1 k ≡ Some a = get_or-set_same m.archives (k - 1) (Some a) None within in
    let began : Began m k a r = record {
      passed = refl;
      broken = refl;
      cut = refl;
      stopped = refl;
      header = ap (λ (o : Option Archive). put_if (archive_end_at r.1 header_kind 0) o) own;
    } in
    subst (λ (o : Option Archive). BeganIn m k r o) (sym own) began

start_with_began : (m : Machine) (k level : ℕ) (spaces : Option (List ℕ)) → k - 1 < length m.archives → archive_of m k ≡ None → BeganIn m k (start_with m k level spaces) (archive_of (start_with m k level spaces).1 k)
start_with_began m k level None within none = none_before m k NoSpace none
start_with_began m k level (Some spaces) within none =
    unless_pair (λ (r : Reply × Machine). BeganIn m k r (archive_of r.1 k)) m
    (first_space (λ s. not (is_up m.lasting s)) SpaceDown spaces
    ∷ first_space (λ s. is_some (archiver_of m s)) (λ s. Archiving (unwrap_or (archiver_of m s) 0)) spaces
    ∷ first_space (λ s. nat_lt 0 level && ((kept_at m level s).number == 0)) (λ s. NoParent s (level - 1)) spaces
    ∷ []) (started m k level (saved_of m level spaces)) (λ reply. none_before m k reply none) (started_began m k level (saved_of m level spaces) within)

pub start_began : (m : Machine) (k level : ℕ) (names : List (List ℕ)) (b : Archive) → k - 1 < length m.archives → archive_of m k ≡ None → archive_of (start_at m k level names (archive_of m k)).1 k ≡ Some b
    → Began m k b (start_at m k level names (archive_of m k))
start_began m k level names b within none is =
    let r = start_at m k level names (archive_of m k) in
    let same : start_at m k level names None ≡ r = ap (λ (o : Option Archive). start_at m k level names o) (sym none) in
    let began : BeganIn m k r (archive_of r.1 k) =
    subst (λ (x : Reply × Machine). BeganIn m k x (archive_of x.1 k)) same (start_with_began m k level (spaces_named (config_of m) names) within none) in
    subst (λ (o : Option Archive). BeganIn m k r o) is began
