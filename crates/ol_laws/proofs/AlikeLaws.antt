-- States that are alike in the spaces that are up stay alike, and take the same records.
use Rattle.std.specs.List.{list_all, list_any}
use Rattle.std.specs.Prelude.{Bool, List, Option, [], length, not, true, ℕ, ◌+◌, ◌<◌, ◌==◌, ◌^◌, ◌||◌, ◌∷◌, ◌≡◌, ◌≤◌}
use Rattle.std.proofs.Common.{ap, subst, ◌∙◌}
use Rattle.std.proofs.lemmas.List.Elements.{All-head, All-tail}
use Rattle.ol_values.specs.declared.record.Record.{Record}
use Rattle.ol_values.specs.declared.record.Record.TheVariants.{Begin as BeginRecord, Change, Commit as CommitRecord, Rolled, Undo}
use Rattle.ol_values.specs.declared.row.Row.{Row}
use Rattle.ol_values.specs.declared.record.Rid.{Rid}
use Rattle.ol_values.specs.Config.{Config, has_place, log_pages}
use Rattle.ol_rules.specs.Journal.{row_after, same_place}
use Rattle.ol_rules.specs.Sound.{AllChangesIn, Before, ChangesIn, HasRoom, IsAlike, IsNewChange, IsNewUndo, IsOne, Meets, SoundFrom, after, afterwards}
use Rattle.ol_rules.specs.Transactions.{Txn, owed, txn_numbered, txns_after}
use Rattle.ol_laws.proofs.Found.{one_as}

alike_after : (up : ℕ → Bool) (a b : Before) (r : Record) → IsAlike up a b → IsAlike up (after a r) (after b r)
alike_after up a b r h = record {
  rows = λ place is. ap (λ (held : Option Row). row_after place held r) (h.rows place is);
  txns = ap (λ (l : List Txn). txns_after l r) h.txns;
  last = ap (λ (n : ℕ). n + 1) h.last;
}

pub alike_afterwards : (up : ℕ → Bool) (a b : Before) (records : List Record) → IsAlike up a b → IsAlike up (afterwards a records) (afterwards b records)
alike_afterwards up a b [] h = h
alike_afterwards up a b (r ∷ records) h = alike_afterwards up (after a r) (after b r) records (alike_after up a b r h)

-- alike at the places that there are in the spaces that are up, and in all else
pub record AlikeThere (c : Config) (up : ℕ → Bool) (a b : Before) : Type 0 where
  pub rows : (place : Rid) → has_place c place ≡ true → up place.space ≡ true → a.row place ≡ b.row place
  pub txns : a.txns ≡ b.txns
  pub last : a.last ≡ b.last

there_after : (c : Config) (up : ℕ → Bool) (a b : Before) (r : Record) → AlikeThere c up a b → AlikeThere c up (after a r) (after b r)
there_after c up a b r h = record {
  rows = λ place there is. ap (λ (held : Option Row). row_after place held r) (h.rows place there is);
  txns = ap (λ (l : List Txn). txns_after l r) h.txns;
  last = ap (λ (n : ℕ). n + 1) h.last;
}

-- what holds of an open transaction of the one holds of it in the other
open_alike : (c : Config) (up : ℕ → Bool) (a b : Before) (n : ℕ) (P Q : Txn → Type 0) → AlikeThere c up a b → ((t : Txn) → P t → Q t) → IsOne (txn_numbered n a.txns) P → IsOne (txn_numbered n b.txns) Q
open_alike c up a b n P Q h weaker m = one_as P Q (txn_numbered n b.txns) weaker (subst (λ (l : List Txn). IsOne (txn_numbered n l) P) h.txns m)

meets_alike : (c : Config) (up : ℕ → Bool) (a b : Before) (r : Record) → AlikeThere c up a b → ChangesIn up r → Meets c a r → Meets c b r
meets_alike c up a b (BeginRecord n) h is m =
    (m.0 ∙ ap (λ (k : ℕ). k + 1) h.last, subst (λ (l : List Txn). length l < 16) h.txns m.1)
meets_alike c up a b (Change n rid before after) h is m =
    open_alike c up a b n (IsNewChange c a n rid before after) (IsNewChange c b n rid before after) h
    (λ t s. record {
      held = s.held ∙ h.rows rid s.there is;
      something = s.something;
      value = s.value;
      forward = s.forward;
      alone = subst (λ (l : List Txn). list_all (λ (u : Txn). (u.number == n) || not (list_any (same_place rid) u.changed)) l ≡ true) h.txns s.alone;
      there = s.there;
    }) m
meets_alike c up a b (Undo n rid value) h is m = open_alike c up a b n (IsNewUndo c rid value) (IsNewUndo c rid value) h (λ t s. s) m
meets_alike c up a b (CommitRecord n) h is m = open_alike c up a b n (λ t. t.undone ≡ _) (λ t. t.undone ≡ _) h (λ t s. s) m
meets_alike c up a b (Rolled n) h is m = open_alike c up a b n (λ t. t.pending ≡ []) (λ t. t.pending ≡ []) h (λ t s. s) m

room_alike : (c : Config) (up : ℕ → Bool) (a b : Before) (r : Record) → AlikeThere c up a b → HasRoom c a r → HasRoom c b r
room_alike c up a b r h room = (
  subst (λ (l : List Txn). owed (txns_after l r) ≤ log_pages c) h.txns room.0,
  subst (λ (l : List Txn). b.last + 1 + owed (txns_after l r) < 2 ^ 62) h.txns (subst (λ (k : ℕ). k + 1 + owed (txns_after a.txns r) < 2 ^ 62) h.last room.1),
)

pub sound_there : (c : Config) (up : ℕ → Bool) (a b : Before) (records : List Record) → AlikeThere c up a b → AllChangesIn up records → SoundFrom c a records → SoundFrom c b records
sound_there c up a b [] h is s = tt
sound_there c up a b (r ∷ records) h is s = (
  meets_alike c up a b r h (All-head (ChangesIn up) r records is) s.0,
  room_alike c up a b r h s.1,
  sound_there c up (after a r) (after b r) records (there_after c up a b r h) (All-tail (ChangesIn up) r records is) s.2,
)

there_from : (c : Config) (up : ℕ → Bool) (a b : Before) → IsAlike up a b → AlikeThere c up a b
there_from c up a b h = record { rows = λ place there is. h.rows place is; txns = h.txns; last = h.last }

pub sound_alike : (up : ℕ → Bool) (c : Config) (a b : Before) (records : List Record) → IsAlike up a b → AllChangesIn up records → SoundFrom c a records → SoundFrom c b records
sound_alike up c a b records h is s = sound_there c up a b records (there_from c up a b h) is s
