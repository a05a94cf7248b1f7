-- The syncs of marked chunks, one after the other.
use Rattle.std.proofs.Common.{◌≡◌, Bool, List, Result, ap, arith, false, is_ok, refl, subst, sym, true, ⊎_elim, ℕ, ◌+◌, ◌<◌, ◌∙◌, ◌⊎◌, slice_index_or}
use Rattle.ol_ports.specs.Disk.{Bytes, Past, Rest, Syncs, seen}
use Rattle.ol_ports.proofs.DiskSteps.{sync_rest, sync_seen, sync_shut}

-- the marked ones of the first chunks were synced
pub record IsSyncedBelow (old new : Past) (marks : List Bool) (upto : ℕ) : Type 0 where
  pub reads : seen new ≡ seen old
  pub durable : (d : Bytes) → Rest new d → (chunk page i : ℕ) → chunk < upto → slice_index_or marks chunk false ≡ true → d chunk page i ≡ seen old chunk page i

pub none_synced : (past : Past) (marks : List Bool) → IsSyncedBelow past past marks 0
none_synced past marks = record { reads = refl; durable = λ d rest chunk page i lt marked. absurd (omega (arith, lt)) }

last_or_before : (chunk upto : ℕ) → chunk < upto + 1 → (chunk < upto) ⊎ (chunk ≡ upto)
last_or_before chunk upto lt = grind (arith, lt)

-- a marked one is synced
pub next_synced : {E : Type 0} (old mid new : Past) (marks : List Bool) (upto : ℕ) (result : Result Unit E) → Syncs mid new upto result → is_ok result ≡ true → IsSyncedBelow old mid marks upto → IsSyncedBelow old new marks (upto + 1)
next_synced old mid new marks upto result sync good s = record {
  reads = sync_seen mid new upto result sync good ∙ s.reads;
  durable = λ d rest chunk page i lt marked.
      ⊎_elim (λ before. s.durable d (sync_rest mid new upto result sync d rest) chunk page i before marked)
      (λ at.
      subst (λ (k : ℕ). d k page i ≡ seen old k page i) (sym at) (sync_shut mid new upto result sync good d rest page i ∙ ap (λ (b : Bytes). b upto page i) s.reads)) (last_or_before chunk upto lt);
}
