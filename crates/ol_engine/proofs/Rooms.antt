-- Room in the log and the journal: what a turn finds, and what it leaves.
use Rattle.std.specs.Prelude.{Bool, List, None, Option, Some, [], false, is_none, is_some, nat_lt, slice_get, true, ℕ, ◌+◌, ◌-◌, ◌<◌, ◌^◌, ◌||◌, ◌≡◌, ◌≤◌}
use Rattle.std.proofs.Common.{ap, arith, refl, subst, sym, ◌∙◌}
use Rattle.ol_values.specs.declared.event.Reply.{Reply}
use Rattle.ol_values.specs.declared.event.Reply.TheVariants.{JournalFull, LogsFull}
use Rattle.ol_values.specs.Config.{Config}
use Rattle.ol_rules.specs.Ring.{Reuse, Ring, blocker, free}
use Rattle.ol_model.specs.Answering.{no_room, unless}
use Rattle.ol_model.specs.Machine.{Machine, config_of, journal_full, last_of, logs_full, owed_in, reuse_of, txns_in}
use Rattle.ol_log_state.specs.RingState.{RingState, ring_of}
use Rattle.ol_loglog.specs.RingValue.{flushed_state}
use Rattle.ol_storage.specs.Installation.{Installation, IsGoing}
use Rattle.ol_storage.specs.Installation.{config_of as config_in}
use Rattle.ol_txn.specs.Seats.{Seat, table_of}
use Rattle.ol_txn.proofs.TellingLaws.{told_owed}
use Rattle.ol_engine.specs.Parts.{Registers, Shows, free_of, last_in, owed_of}
use Rattle.ol_engine.specs.Turns.{is_journal_full, is_log_full, no_room_of}

-- whether a journal of this length as the opening ended, with this last position, has no room beside what is owed
abbrev is_full : ℕ → ℕ → ℕ → Bool
is_full opened last owed = nat_lt 1048576 (last - opened + owed + 2) || nat_lt (2 ^ 62) (last + 1 + owed + 2)

-- what the parts find free and owed is what the machine has
pub record Finds (opened : ℕ) (v : Installation) (seats : List Seat) (m : Machine) : Type 0 where
  pub owed : owed_of seats ≡ owed_in m
  pub free : free_of v ≡ free (config_of m) (reuse_of m) m.log.ring
  pub blocker : blocker (config_in v) v.ring.state.reuse (ring_of v.ring.state) ≡ blocker (config_of m) (reuse_of m) m.log.ring
  pub journal : is_journal_full opened v seats ≡ journal_full m
  pub log : is_log_full v seats ≡ logs_full m

pub finds : (opened : ℕ) (v : Installation) (seats : List Seat) (registers : Registers) (m : Machine) → Shows opened v seats registers m → IsGoing v → Finds opened v seats m
finds opened v seats registers m shows going =
    let owed : owed_of seats ≡ owed_in m = told_owed (txns_in m) (table_of seats) shows.sessions.tells in
    let backed : v.anchor.backed ≡ m.lasting.backed = ap (λ l. l.backed) shows.storage.lasting in
    let reuse : v.ring.state.reuse ≡ reuse_of m =
    going.reuse ∙ ap (λ (b : ℕ). let r : Reuse = record { backed = b; need = v.anchor.need } in r) backed ∙ ap (λ (n : ℕ). let r : Reuse = record { backed = m.lasting.backed; need = n } in r) shows.storage.need in
    let last : last_in v ≡ last_of m = omega (arith, shows.storage.next) in
    let pages : free_of v ≡ free (config_of m) (reuse_of m) m.log.ring =
    ap (λ (c : Config). free c v.ring.state.reuse (ring_of v.ring.state)) shows.storage.config ∙ ap (λ (r : Reuse). free (config_of m) r (ring_of v.ring.state)) reuse ∙ ap (λ (q : Ring). free (config_of m) (reuse_of m) q) shows.storage.ring in
    let blocked : blocker (config_in v) v.ring.state.reuse (ring_of v.ring.state) ≡ blocker (config_of m) (reuse_of m) m.log.ring =
    ap (λ (c : Config). blocker c v.ring.state.reuse (ring_of v.ring.state)) shows.storage.config ∙ ap (λ (r : Reuse). blocker (config_of m) r (ring_of v.ring.state)) reuse ∙ ap (λ (q : Ring). blocker (config_of m) (reuse_of m) q) shows.storage.ring in
    record {
      owed = owed;
      free = pages;
      blocker = blocked;
      journal = (let e : is_journal_full opened v seats ≡ is_full (m.fixed.opened) (last_of m) (owed_in m) = ap (λ (n : ℕ). is_full n (last_in v) (owed_of seats)) (sym shows.since) ∙ ap (λ (n : ℕ). is_full m.fixed.opened n (owed_of seats)) last ∙ ap (λ (n : ℕ). is_full m.fixed.opened (last_of m) n) owed in e);
      log = ap (λ (n : ℕ). nat_lt n (owed_of seats + 2)) pages ∙ ap (λ (n : ℕ). nat_lt (free (config_of m) (reuse_of m) m.log.ring) (n + 2)) owed;
    }

-- the turn goes on where there is room
pub room_found : (opened : ℕ) (v : Installation) (seats : List Seat) (m : Machine) (answer : Reply × Machine) → Finds opened v seats m → no_room_of opened v seats ≡ None → unless m (no_room m) answer ≡ answer
room_found opened v seats m answer f none = by_case (journal_full m) refl
  where
    by_log : (b : Bool) → journal_full m ≡ false → logs_full m ≡ b → unless m (no_room m) answer ≡ answer
    by_log false j e = rw (j, e) refl
    by_log true j e = absurd (let clash : no_room_of opened v seats ≡ Some (LogsFull (blocker (config_in v) v.ring.state.reuse (ring_of v.ring.state))) = rw (f.journal ∙ j, f.log ∙ e) refl in let c : None ≡ Some (LogsFull (blocker (config_in v) v.ring.state.reuse (ring_of v.ring.state))) = sym none ∙ clash in cc)

    by_case : (b : Bool) → journal_full m ≡ b → unless m (no_room m) answer ≡ answer
    by_case false e = by_log (logs_full m) e refl
    by_case true e = absurd (let clash : no_room_of opened v seats ≡ Some JournalFull = rw (f.journal ∙ e) refl in let c : None ≡ Some JournalFull = sym none ∙ clash in cc)

-- it is refused where there is none
pub room_refused : (opened : ℕ) (v : Installation) (seats : List Seat) (m : Machine) (answer : Reply × Machine) (refusal : Reply) → Finds opened v seats m → no_room_of opened v seats ≡ Some refusal → unless m (no_room m) answer ≡ (refusal, m)
room_refused opened v seats m answer refusal f some = by_case (journal_full m) refl
  where
    by_log : (b : Bool) → journal_full m ≡ false → logs_full m ≡ b → unless m (no_room m) answer ≡ (refusal, m)
    by_log true j e =
        let is : no_room_of opened v seats ≡ Some (LogsFull (blocker (config_in v) v.ring.state.reuse (ring_of v.ring.state))) = rw (f.journal ∙ j, f.log ∙ e) refl in
        let same : LogsFull (blocker (config_in v) v.ring.state.reuse (ring_of v.ring.state)) ≡ refusal = let c : Some (LogsFull (blocker (config_in v) v.ring.state.reuse (ring_of v.ring.state))) ≡ Some refusal = sym is ∙ some in cc in
        let mine : LogsFull (blocker (config_of m) (reuse_of m) m.log.ring) ≡ refusal = ap (λ n. LogsFull n) (sym f.blocker) ∙ same in
        rw (j, e) (ap (λ (r : Reply). let p : Reply × Machine = (r, m) in p) mine)
    by_log false j e = absurd (let is : no_room_of opened v seats ≡ None = rw (f.journal ∙ j, f.log ∙ e) refl in let c : None ≡ Some refusal = sym is ∙ some in cc)

    by_case : (b : Bool) → journal_full m ≡ b → unless m (no_room m) answer ≡ (refusal, m)
    by_case false e = by_log (logs_full m) e refl
    by_case true e =
        let is : no_room_of opened v seats ≡ Some JournalFull = rw (f.journal ∙ e) refl in
        let same : JournalFull ≡ refusal = let c : Some JournalFull ≡ Some refusal = sym is ∙ some in cc in
        rw e (ap (λ (r : Reply). let p : Reply × Machine = (r, m) in p) same)
