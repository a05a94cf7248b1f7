-- What each call of a disk, and a write that is synced, does to what a stop may leave.
use Rattle.std.proofs.Common.{◌≡◌, ⊎_elim, ℕ, ◌+◌, ◌<◌, List, length, get_or, Result, Ok, Err, OnOk, is_ok, true, refl, sym, ◌∙◌, ap, subst, arith}
use Rattle.std.proofs.lemmas.Bool.Decides.{nat_tests}
use Rattle.ol_ports.specs.Disk.{Bytes, Wrote, Synced, Passed, Past, is_within, seen, Rest, with_call, Within, Leaves, Writes, Syncs}
use Rattle.ol_ports.specs.Frames.{IsDurable, IsSettledIn, SameBut, TornFrom, in_chunk}
use Rattle.ol_ports.proofs.DiskLaws.{rest-wrote, rest-synced, rest-passed, seen-wrote-same, seen-wrote, seen-synced, leaves_call, leaves_none}

-- a write, whatever it answered
module _ {E : Type 0} (old new : Past) (chunk page offset : ℕ) (bytes : List ℕ) (result : Result Unit E) (w : Writes old new chunk page offset bytes result) where
  untorn : (d : Bytes) → Rest old d → TornFrom old chunk page offset (length bytes) d
  untorn d rest = record { origin = d; rest = rest; same = λ c p i is_out. refl }

  torn_by : (d : Bytes) → Rest (with_call old (Wrote chunk page offset w.left)) d → TornFrom old chunk page offset (length bytes) d
  torn_by d rest = subst (λ n. TornFrom old chunk page offset n d) w.size (rest-wrote old chunk page offset w.left d rest)

  -- after it a stop leaves what one before might have left, torn in the range
  pub write_rest : (d : Bytes) → Rest new d → TornFrom old chunk page offset (length bytes) d
  write_rest d rest =
      ⊎_elim (λ is. torn_by d (subst (λ past. Rest past d) is rest))
      (⊎_elim (λ is. untorn d (rest-passed old d (subst (λ past. Rest past d) is rest))) (λ is. untorn d (subst (λ past. Rest past d) is rest))) w.past

  -- and so does one within it
  pub write_leaves : Leaves old new (TornFrom old chunk page offset (length bytes))
  unfolding Within
  write_leaves =
      let P = TornFrom old chunk page offset (length bytes) in
      ⊎_elim (λ is. subst (λ past. Leaves old past P) (sym is) (leaves_call old (Wrote chunk page offset w.left) P torn_by))
      (⊎_elim (λ is. subst (λ past. Leaves old past P) (sym is) (leaves_call old Passed P untorn)) (λ is. subst (λ past. Leaves old past P) (sym is) (leaves_none old P))) w.past

-- what a write that succeeds makes of what is read
pub write_seen : {E : Type 0} (old new : Past) (chunk page offset : ℕ) (bytes : List ℕ) (result : Result Unit E) → Writes old new chunk page offset bytes result → is_ok result ≡ true
    → SameBut (is_within chunk page offset (length bytes)) (seen old) (seen new) × ((i : ℕ) → i < length bytes → seen new chunk page (offset + i) ≡ get_or bytes i 0)
write_seen old new chunk page offset bytes (Err e) w bad = absurd (cc)
write_seen old new chunk page offset bytes (Ok u) w good =
    let same : seen new ≡ seen (with_call old (Wrote chunk page offset bytes)) = ap seen (w.ok.1 ∙ ap (λ (l : List ℕ). with_call old (Wrote chunk page offset l)) w.ok.0) in (
      subst (λ b. SameBut (is_within chunk page offset (length bytes)) (seen old) b) (sym same) (seen-wrote-same old chunk page offset bytes),
      λ i lt. subst (λ (b : Bytes). b chunk page (offset + i) ≡ get_or bytes i 0) (sym same) (seen-wrote old chunk page offset bytes (offset + i) (omega arith) (omega arith) ∙ ap (λ k. get_or bytes k 0) (omega arith)),
    )

module _ {E : Type 0} (old new : Past) (chunk : ℕ) where
  -- after a sync, whatever it answered, a stop leaves nothing that one before might not have left
  pub sync_rest : (result : Result Unit E) → Syncs old new chunk result → (d : Bytes) → Rest new d → Rest old d
  sync_rest (Ok u) s d rest = (rest-synced old chunk d (subst (λ past. Rest past d) s.ok rest)).0
  sync_rest (Err e) s d rest = ⊎_elim (λ is. rest-passed old d (subst (λ past. Rest past d) is rest)) (λ is. subst (λ past. Rest past d) is rest) s.err

  -- nor does one within it
  pub sync_leaves : (result : Result Unit E) → Syncs old new chunk result → Leaves old new (Rest old)
  unfolding Within
  sync_leaves (Ok u) s = subst (λ past. Leaves old past (Rest old)) (sym s.ok) (leaves_call old (Synced chunk) (Rest old) (λ d rest. rest))
  sync_leaves (Err e) s =
      ⊎_elim (λ is. subst (λ past. Leaves old past (Rest old)) (sym is) (leaves_call old Passed (Rest old) (λ d rest. rest))) (λ is. subst (λ past. Leaves old past (Rest old)) (sym is) (leaves_none old (Rest old))) s.err

  -- after one that succeeds it leaves of the chunk what was read
  pub sync_shut : (result : Result Unit E) → Syncs old new chunk result → is_ok result ≡ true → (d : Bytes) → Rest new d → (p i : ℕ) → d chunk p i ≡ seen old chunk p i
  sync_shut (Err e) s bad d rest = absurd (cc)
  sync_shut (Ok u) s good d rest = (rest-synced old chunk d (subst (λ past. Rest past d) s.ok rest)).1

  -- and the disk reads as before
  pub sync_seen : (result : Result Unit E) → Syncs old new chunk result → is_ok result ≡ true → seen new ≡ seen old
  sync_seen (Err e) s bad = absurd (cc)
  sync_seen (Ok u) s good = ap seen s.ok ∙ seen-synced old chunk

  -- so the chunk is settled
  pub sync_settled : (result : Result Unit E) → Syncs old new chunk result → is_ok result ≡ true → IsSettledIn new (in_chunk chunk)
  sync_settled result s good d rest c p i is =
      let same : c ≡ chunk = grind (arith, nat_tests) in
      subst (λ (k : ℕ). d k p i ≡ seen new k p i) (sym same) (sync_shut result s good d rest p i ∙ ap (λ (b : Bytes). b chunk p i) (sym (sync_seen result s good)))

-- a write and a sync of its chunk that succeed
pub durable : {E F : Type 0} (old mid new : Past) (chunk page offset : ℕ) (bytes : List ℕ) (first : Result Unit E) (second : Result Unit F) → Writes old mid chunk page offset bytes first → Syncs mid new chunk second → is_ok first ≡ true → OnOk second (IsDurable old new chunk page offset bytes)
durable old mid new chunk page offset bytes first (Err e) w s good = tt
durable old mid new chunk page offset bytes first (Ok v) w s good =
    let same : seen new ≡ seen mid = sync_seen mid new chunk (Ok v) s refl in
    let wrote = write_seen old mid chunk page offset bytes first w good in
    record {
      elsewhere = subst (λ b. SameBut (is_within chunk page offset (length bytes)) (seen old) b) (sym same) wrote.0;
      written = λ i lt. subst (λ (b : Bytes). b chunk page (offset + i) ≡ get_or bytes i 0) (sym same) (wrote.1 i lt);
      settled = sync_settled mid new chunk (Ok v) s refl;
    }
