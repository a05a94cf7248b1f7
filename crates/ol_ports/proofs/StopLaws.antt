-- What a stop within several calls, or behind them, may leave.
use Rattle.std.proofs.Common.{◌≡◌, Bool, List, false, true, length, get_or, ℕ, ◌+◌, ◌-◌, ◌<◌, ◌≤◌, ◌⊎◌, inl, inr, Result, Ok, Err, OnOk, is_ok, refl, sym, ◌∙◌, ap, subst, arith}
use Rattle.ol_ports.specs.Disk.{Bytes, Past, Rest, Syncs, Writes, is_within, seen}
use Rattle.ol_ports.specs.Frames.{FramedAt, ReadsAs, TornFrom}
use Rattle.ol_ports.specs.Stops.{Stops}
use Rattle.ol_ports.proofs.DiskLaws.{leaves_both, leaves_none, leaves_weaker, leaves_with, within-place}
use Rattle.ol_ports.proofs.DiskSteps.{sync_leaves, sync_rest, sync_shut, write_leaves, write_rest, write_seen}
use Rattle.ol_ports.proofs.FrameLaws.{framed_both, framed_wider}

-- no call was made
pub stops_none : (past : Past) (P : Bytes → Type 0) → ((d : Bytes) → Rest past d → P d) → Stops past past P
stops_none past P holds = record { within = leaves_none past P; behind = holds }

-- what has P has Q too
pub stops_weaker : (old new : Past) (P Q : Bytes → Type 0) → ((d : Bytes) → P d → Q d) → Stops old new P → Stops old new Q
stops_weaker old new P Q weaker s = record { within = leaves_weaker old new P Q weaker s.within; behind = λ d rest. weaker d (s.behind d rest) }

-- one run of calls after another
pub stops_both : (old mid new : Past) (P : Bytes → Type 0) → Stops old mid P → Stops mid new P → Stops old new P
stops_both old mid new P first second = record { within = leaves_both old mid new P first.within second.within; behind = second.behind }

-- what is left has both P and Q
pub stops_with : (old new : Past) (P Q : Bytes → Type 0) → Stops old new P → Stops old new Q → Stops old new (λ d. P d × Q d)
stops_with old new P Q p q = record { within = leaves_with old new P Q p.within q.within; behind = λ d rest. (p.behind d rest, q.behind d rest) }

-- one call
pub stops_write : {E : Type 0} (old new : Past) (chunk page offset : ℕ) (bytes : List ℕ) (result : Result Unit E) → Writes old new chunk page offset bytes result → Stops old new (TornFrom old chunk page offset (length bytes))
stops_write old new chunk page offset bytes result w = record {
  within = write_leaves old new chunk page offset bytes result w;
  behind = write_rest old new chunk page offset bytes result w;
}

-- a sync behind a run of calls leaves nothing that the run might not have left
pub stops_sync : {E : Type 0} (old mid new : Past) (chunk : ℕ) (result : Result Unit E) (P : Bytes → Type 0) → Stops old mid P → Syncs mid new chunk result → Stops old new P
stops_sync old mid new chunk result P before s =
    stops_both old mid new P before (record {
      within = leaves_weaker mid new (Rest mid) P before.behind (sync_leaves mid new chunk result s);
      behind = λ d rest. before.behind d (sync_rest mid new chunk result s d rest);
    })

-- ---- with a frame

-- one run of calls on a part after another
pub stops_framed : (old mid new : Past) (a : ℕ → ℕ → ℕ → Bool) → Stops old mid (FramedAt old a) → Stops mid new (FramedAt mid a) → Stops old new (FramedAt old a)
stops_framed old mid new a first second =
    stops_both old mid new (FramedAt old a) first (stops_weaker mid new (FramedAt mid a) (FramedAt old a) (λ d f. framed_both old mid a d first.behind f) second)

-- a part within another was written
pub stops_wider : (old new : Past) (a b : ℕ → ℕ → ℕ → Bool) → ((c p i : ℕ) → b c p i ≡ false → a c p i ≡ false) → Stops old new (FramedAt old a) → Stops old new (FramedAt old b)
stops_wider old new a b wider s = stops_weaker old new (FramedAt old a) (FramedAt old b) (λ d f. framed_wider old a b d wider f) s

-- ---- several writes, and then one sync

-- a write more on a part: a stop leaves all else as it was
pub stops_more : {E : Type 0} (old mid new : Past) (chunk page offset : ℕ) (bytes : List ℕ) (result : Result Unit E) (a : ℕ → ℕ → ℕ → Bool) → Writes mid new chunk page offset bytes result
    → ((c p i : ℕ) → a c p i ≡ false → is_within chunk page offset (length bytes) c p i ≡ false) → Stops old mid (FramedAt old a) → Stops old new (FramedAt old a)
stops_more old mid new chunk page offset bytes result a w inside before =
    stops_framed old mid new a before (stops_wider mid new (is_within chunk page offset (length bytes)) a inside (stops_write mid new chunk page offset bytes result w))

-- and the part reads as wanted, as far as it was written
pub reads_more : {E : Type 0} (mid new : Past) (chunk page offset : ℕ) (bytes : List ℕ) (result : Result Unit E) (a b : ℕ → ℕ → ℕ → Bool) (wanted : Bytes) → Writes mid new chunk page offset bytes result → is_ok result ≡ true
    → ((i : ℕ) → i < length bytes → get_or bytes i 0 ≡ wanted chunk page (offset + i))
    → ((c p i : ℕ) → b c p i ≡ true → i < 2048 → is_within chunk page offset (length bytes) c p i ≡ false → a c p i ≡ true)
    → ReadsAs a wanted (seen mid) → ReadsAs b wanted (seen new)
reads_more mid new chunk page offset bytes result a b wanted w good puts grown before c p i is lt = each (is_within chunk page offset (length bytes) c p i) refl
  where
    each : (t : Bool) → is_within chunk page offset (length bytes) c p i ≡ t → seen new c p i ≡ wanted c p i
    each false out = (write_seen mid new chunk page offset bytes result w good).0 c p i out ∙ before c p i (grown c p i is lt out) lt
    each true here =
        let place = within-place chunk page offset (length bytes) c p i here in
        let at : offset + (i - offset) ≡ i = omega (arith, place.2) in
        let among : i - offset < length bytes = omega (arith, place.2, place.3) in
        let there = (write_seen mid new chunk page offset bytes result w good).1 (i - offset) among ∙ puts (i - offset) among in
        let moved = subst (λ (k : ℕ). seen new chunk page k ≡ wanted chunk page k) at there in
        subst (λ (k : ℕ). seen new k p i ≡ wanted k p i) (sym place.0) (subst (λ (k : ℕ). seen new chunk k i ≡ wanted chunk k i) (sym place.1) moved)

-- a sync behind them makes it durable
pub reads_synced : {E : Type 0} (mid new : Past) (chunk : ℕ) (result : Result Unit E) (a : ℕ → ℕ → ℕ → Bool) (wanted : Bytes) → Syncs mid new chunk result → ((c p i : ℕ) → a c p i ≡ true → c ≡ chunk)
    → ReadsAs a wanted (seen mid) → OnOk result ((d : Bytes) → Rest new d → ReadsAs a wanted d)
reads_synced mid new chunk (Err e) a wanted s one reads = tt
reads_synced mid new chunk (Ok u) a wanted s one reads = λ d rest c p i is lt.
    let same = one c p i is in
    subst (λ (k : ℕ). d k p i ≡ seen mid k p i) (sym same) (sync_shut mid new chunk (Ok u) s refl d rest p i) ∙ reads c p i is lt
