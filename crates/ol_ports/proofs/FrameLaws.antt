-- Calls on one part of a disk leave the others as they were.
use Rattle.std.proofs.Common.{◌≡◌, ◌⊎◌, ⊎_elim, inl, inr, Bool, List, [], false, true, ℕ, ◌<◌, ◌∙◌, sym, refl, ap, length, Result, is_ok}
use Rattle.ol_ports.specs.Disk.{Bytes, Past, Rest, Syncs, Writes, is_open, is_within, seen}
use Rattle.ol_ports.specs.Frames.{FramedAt, IsDurable, IsQuiet, IsSettledIn, ReadsOutside}
use Rattle.ol_ports.proofs.DiskLaws.{rest-seen}
use Rattle.ol_ports.proofs.DiskSteps.{sync_seen, write_seen}

-- what is not in a part is not in one within it
pub outside : (inner outer : Bool) → (inner ≡ true → outer ≡ true) → outer ≡ false → inner ≡ false
outside false outer within is_out = refl
outside true outer within is_out = absurd (let is_in = within refl in cc)

-- no call was made
pub framed_none : (past : Past) (a : ℕ → ℕ → ℕ → Bool) (d : Bytes) → Rest past d → FramedAt past a d
framed_none past a d rest = record { origin = d; rest = rest; same = λ c p i is_out. refl }

-- a part within another was written
pub framed_wider : (past : Past) (a b : ℕ → ℕ → ℕ → Bool) (d : Bytes) → ((c p i : ℕ) → b c p i ≡ false → a c p i ≡ false) → FramedAt past a d → FramedAt past b d
framed_wider past a b d wider f = record { origin = f.origin; rest = f.rest; same = λ c p i is_out. f.same c p i (wider c p i is_out) }

-- one run of calls on a part after another
pub framed_both : (old mid : Past) (a : ℕ → ℕ → ℕ → Bool) (d : Bytes) → ((e : Bytes) → Rest mid e → FramedAt old a e) → FramedAt mid a d → FramedAt old a d
framed_both old mid a d first second =
    let f = first second.origin second.rest in
    record { origin = f.origin; rest = f.rest; same = λ c p i is_out. second.same c p i is_out ∙ f.same c p i is_out }

-- pages apart from what was written stay settled, and read as before
pub settled_kept : (old new : Past) (a : ℕ → ℕ → Bool) (b : ℕ → ℕ → ℕ → Bool) → ((c p i : ℕ) → a c p ≡ true → b c p i ≡ false) → IsSettledIn old a → ((d : Bytes) → Rest new d → FramedAt old b d)
    → IsSettledIn new a × ((c p i : ℕ) → a c p ≡ true → seen new c p i ≡ seen old c p i)
settled_kept old new a b apart settled frame = (λ d rest c p i is. each d rest c p i is ∙ sym (reads c p i is), reads)
  where
    each : (d : Bytes) → Rest new d → (c p i : ℕ) → a c p ≡ true → d c p i ≡ seen old c p i
    each d rest c p i is =
        let f = frame d rest in f.same c p i (apart c p i is) ∙ settled f.origin f.rest c p i is

    reads : (c p i : ℕ) → a c p ≡ true → seen new c p i ≡ seen old c p i
    reads c p i is = each (seen new) (rest-seen new) c p i is

-- all pages are settled of a disk that was not called since it began
pub quiet_fresh : (past : Past) → past.calls ≡ [] → IsQuiet past
unfolding is_open
quiet_fresh past none d rest c p i is = rest.as_written c p i (rw none refl)

-- and of one that is quiet
pub settled_quiet : (past : Past) (a : ℕ → ℕ → Bool) → IsQuiet past → IsSettledIn past a
settled_quiet past a quiet d rest c p i is = quiet d rest c p i refl

-- calls that settle what they write leave a quiet disk quiet
pub quiet_kept : (old new : Past) (a : ℕ → ℕ → Bool) → IsQuiet old → IsSettledIn new a → ((d : Bytes) → Rest new d → FramedAt old (λ c p i. a c p) d) → IsQuiet new
quiet_kept old new a quiet settled frame d rest c p i is = each (a c p) refl
  where
    each : (b : Bool) → a c p ≡ b → d c p i ≡ seen new c p i
    each true is_in = settled d rest c p i is_in
    each false is_out =
        let f = frame d rest in
        let g = frame (seen new) (rest-seen new) in
        f.same c p i is_out ∙ quiet f.origin f.rest c p i refl ∙ sym (quiet g.origin g.rest c p i refl) ∙ sym (g.same c p i is_out)

-- ---- what is read outside of the pages that are written

pub outside_none : (past : Past) (a : ℕ → ℕ → Bool) → ReadsOutside past past a
outside_none past a c p i is_out = refl

pub outside_both : (old mid new : Past) (a : ℕ → ℕ → Bool) → ReadsOutside old mid a → ReadsOutside mid new a → ReadsOutside old new a
outside_both old mid new a first second c p i is_out = second c p i is_out ∙ first c p i is_out

pub outside_wider : (old new : Past) (a b : ℕ → ℕ → Bool) → ((c p : ℕ) → b c p ≡ false → a c p ≡ false) → ReadsOutside old new a → ReadsOutside old new b
outside_wider old new a b wider reads c p i is_out = reads c p i (wider c p is_out)

pub outside_sync : {E : Type 0} (old new : Past) (a : ℕ → ℕ → Bool) (chunk : ℕ) (result : Result Unit E) → Syncs old new chunk result → is_ok result ≡ true → ReadsOutside old new a
outside_sync old new a chunk result s good c p i is_out = ap (λ (b : Bytes). b c p i) (sync_seen old new chunk result s good)

pub outside_write : {E : Type 0} (old new : Past) (a : ℕ → ℕ → Bool) (chunk page offset : ℕ) (bytes : List ℕ) (result : Result Unit E) → Writes old new chunk page offset bytes result → is_ok result ≡ true
    → ((c p i : ℕ) → a c p ≡ false → is_within chunk page offset (length bytes) c p i ≡ false) → ReadsOutside old new a
outside_write old new a chunk page offset bytes result w good inside c p i is_out = (write_seen old new chunk page offset bytes result w good).0 c p i (inside c p i is_out)

pub outside_durable : (old new : Past) (a : ℕ → ℕ → Bool) (chunk page offset : ℕ) (bytes : List ℕ) → IsDurable old new chunk page offset bytes
    → ((c p i : ℕ) → a c p ≡ false → is_within chunk page offset (length bytes) c p i ≡ false) → ReadsOutside old new a
outside_durable old new a chunk page offset bytes durable inside c p i is_out = durable.elsewhere c p i (inside c p i is_out)
