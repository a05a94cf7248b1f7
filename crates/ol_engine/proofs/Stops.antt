-- What a stop leaves, said of the records behind a turn.
use Rattle.std.specs.Prelude.{List, [], length, true, ℕ, ◌++◌, ◌+◌, ◌-◌, ◌<◌, ◌∷◌, ◌≡◌, ◌≤◌}
use Rattle.std.proofs.Common.{ap, arith, inl, inr, length-append, refl, subst, sym, ⊎_elim, ◌∙◌}
use Rattle.ol_values.specs.declared.record.Record.{Record}
use Rattle.ol_values.specs.declared.record.Rid.{Rid}
use Rattle.ol_rules.specs.Start.{last_behind as last_behind_start}
use Rattle.ol_turn_laws.proofs.KeptLaws.{before_work}
use Rattle.ol_values.specs.Config.{Config}
use Rattle.ol_ports.specs.Disk.{Bytes}
use Rattle.ol_reserve.specs.declared.anchor.Anchor.{Anchor}
use Rattle.ol_storage.specs.Behind.{Behind, IsBehind, last_of, with_record}
use Rattle.ol_model.specs.Machine.{Machine, Work}
use Rattle.ol_model.specs.Machine.{last_of as last_record}
use Rattle.ol_model.specs.Steps.{append, change_row}
use Rattle.ol_storage.proofs.LogSteps.{logged_goes}
use Rattle.ol_storage.specs.Installation.{Installation, appended, config_of, flushed_of}
use Rattle.ol_storage.specs.Installation.{last_of as last_behind}
use Rattle.ol_storage.specs.Standing.{Stands, StandsBetween, StandsFrom}
use Rattle.ol_storage.proofs.Agreeing.{anchor_kept, held_agree, saved_kept}
use Rattle.ol_storage.proofs.Images.{stands_wider}
use Rattle.ol_storage.proofs.Records.{logged_same, record_kept}
use Rattle.ol_txn.specs.Seats.{Seat}
use Rattle.ol_engine.specs.Parts.{IsBeside, IsEither, anchor_made, behind_of}
use Rattle.ol_engine.specs.Turns.{StandsWithinEither, StandsWithinTurn}

-- an image that stands for some records stands for the first of more
pub stands_kept : (c : Config) (g : Behind) (r : Record) (a : Anchor) (last : ℕ) (d : Bytes) → IsBehind g → last ≤ last_of g → Stands c g a last d → Stands c (with_record r g) a last d
stands_kept c g r a last d is within s = record {
  newest = s.newest;
  checkpoint = anchor_kept c g r a is s.checkpoint;
  position = s.position;
  pages = held_agree c a.generation _ _ d (λ space page up. up) (saved_kept g r a is s.checkpoint.to) s.pages;
  log = logged_same c _ _ _ a.need (last + 1) (λ position low. record_kept g r position is (omega (arith, low, within))) s.log;
  near = s.near;
}

pub stands_more : (c : Config) (g : Behind) (r : Record) (a : Anchor) (flushed total more : ℕ) (d : Bytes) → IsBehind g → total ≤ last_of g → total ≤ more → StandsFrom c g a flushed total d → StandsFrom c (with_record r g) a flushed more d
stands_more c g r a flushed total more d is within wider s = record {
  last = s.last;
  from = s.from;
  to = omega (arith, s.to, wider);
  stands = stands_kept c g r a s.last d is (omega (arith, s.to, within)) s.stands;
}

-- ---- turns

-- what the disk holds behind a record
pub behind_more : (before : ℕ → Record) (m : Machine) (r : Record) → behind_of before (append r m) ≡ with_record r (behind_of before m)
behind_more before m r =
    let last : last_record (append r m) ≡ last_record m + 1 = omega (arith, length-append m.work.records (r ∷ [])) in
    ap (λ n. let g : Behind = record { before = before; start = m.work.start; records = m.work.records ++ r ∷ []; reached = n } in g) last

-- where nothing was asked of the disk
pub rest_stops : (v : Installation) (before : ℕ → Record) (m : Machine) (d : Bytes) → v.ring.state.next ≡ last_record m + 1 → StandsFrom (config_of v) (behind_of before m) v.anchor (flushed_of v) (flushed_of v) d → StandsWithinTurn v before m d
rest_stops v before m d next s = stands_wider (config_of v) (behind_of before m) v.anchor (flushed_of v) (flushed_of v) (flushed_of v) (last_record m) d (omega arith) (omega (arith, next)) s

-- within the call that appends the turn's record
pub record_stops : (v : Installation) (before : ℕ → Record) (m : Machine) (r : Record) (d : Bytes) → IsBehind (behind_of before m) → v.ring.state.next ≡ last_record m + 1 → StandsFrom (config_of v) (behind_of before m) v.anchor (flushed_of v) (last_behind v) d
    → StandsWithinTurn v before (append r m) d
record_stops v before m r d is next s =
    subst (λ (g : Behind). StandsFrom (config_of v) g v.anchor (flushed_of v) (last_record (append r m)) d) (sym (behind_more before m r))
    (stands_more (config_of v) (behind_of before m) r v.anchor (flushed_of v) (last_behind v) (last_record (append r m)) d is (omega (arith, next)) (omega (arith, next, length-append m.work.records (r ∷ []))) s)

-- within the next call
pub appended_stops : (v w : Installation) (before : ℕ → Record) (m : Machine) (r : Record) (d : Bytes) → length v.ring.state.buffer < v.ring.state.next → w ≡ appended v r w.ring.gates → v.ring.state.next ≡ last_record m + 1
    → StandsFrom (config_of w) (behind_of before (append r m)) w.anchor (flushed_of w) (last_behind w) d → StandsWithinTurn v before (append r m) d
appended_stops v w before m r d long step next s =
    let goes = logged_goes r v.ring.state long in
    stands_wider (config_of v) (behind_of before (append r m)) v.anchor _ _ (flushed_of v) (last_record (append r m)) d (omega (arith, goes.first)) (omega (arith, goes.next, next, length-append m.work.records (r ∷ [])))
    (subst (λ (x : Installation). StandsFrom (config_of x) (behind_of before (append r m)) x.anchor (flushed_of x) (last_behind x) d) step s)

-- ---- by one anchor or another

-- within what comes before the record
pub either_more : (v : Installation) (a : Anchor) (before : ℕ → Record) (m : Machine) (r : Record) (d : Bytes) → IsBehind (behind_of before m) → StandsWithinEither v a before m d → StandsWithinEither v a before (append r m) d
either_more v a before m r d is s =
    let more : last_record m ≤ last_record (append r m) = omega (arith, length-append m.work.records (r ∷ [])) in
    subst (λ (g : Behind). StandsBetween (config_of v) g v.anchor a (flushed_of v) (last_record (append r m)) d) (sym (behind_more before m r))
    (⊎_elim
    (λ old. inl (stands_more (config_of v) (behind_of before m) r v.anchor (flushed_of v) (last_record m) (last_record (append r m)) d is (omega arith) more old))
    (λ new. inr (stands_more (config_of v) (behind_of before m) r a (flushed_of v) (last_record m) (last_record (append r m)) d is (omega arith) more new)) s)

-- within the call that appends the record, by the anchor that stands then
pub either_record : (v w : Installation) (seats : List Seat) (before : ℕ → Record) (m : Machine) (r : Record) (d : Bytes) → IsBehind (behind_of before m) → IsBeside v w → IsEither v seats w.anchor → v.ring.state.next ≡ last_record m + 1
    → StandsFrom (config_of w) (behind_of before m) w.anchor (flushed_of w) (last_behind w) d → StandsWithinEither v (anchor_made v seats) before (append r m) d
either_record v w seats before m r d is beside either next s =
    let plain = record_stops w before m r d is (beside.next ∙ next) s in
    let here : StandsFrom (config_of v) (behind_of before (append r m)) w.anchor (flushed_of w) (last_record (append r m)) d = subst (λ (c : Config). StandsFrom c (behind_of before (append r m)) w.anchor (flushed_of w) (last_record (append r m)) d) beside.config plain in
    let wide = stands_wider (config_of v) (behind_of before (append r m)) w.anchor (flushed_of w) (last_record (append r m)) (flushed_of v) (last_record (append r m)) d beside.flushed (omega arith) here in
    ⊎_elim
    (λ old. inl (subst (λ (a : Anchor). StandsFrom (config_of v) (behind_of before (append r m)) a (flushed_of v) (last_record (append r m)) d) old wide))
    (λ new. inr (subst (λ (a : Anchor). StandsFrom (config_of v) (behind_of before (append r m)) a (flushed_of v) (last_record (append r m)) d) new wide)) either

-- what the disk holds behind a change is what it holds behind its record
pub behind_changed : (before : ℕ → Record) (n : ℕ) (rid : Rid) (r : Record) (m : Machine) → behind_of before (change_row n rid r m) ≡ behind_of before (append r m)
behind_changed before n rid r m =
    ap (λ (w : Work). let g : Behind = record { before = before; start = w.start; records = w.records ++ r ∷ []; reached = last_behind_start w.start (w.records ++ r ∷ []) } in g) (before_work n (rid.space, rid.page) m)

-- and its last position
pub last_changed : (n : ℕ) (rid : Rid) (r : Record) (m : Machine) → last_record (change_row n rid r m) ≡ last_record (append r m)
last_changed n rid r m = ap (λ (w : Work). last_behind_start w.start (w.records ++ r ∷ [])) (before_work n (rid.space, rid.page) m)

-- so what a stop leaves within the one it leaves within the other
pub either_changed : (v : Installation) (a : Anchor) (before : ℕ → Record) (n : ℕ) (rid : Rid) (r : Record) (m : Machine) (d : Bytes) → StandsWithinEither v a before (append r m) d → StandsWithinEither v a before (change_row n rid r m) d
either_changed v a before n rid r m d s =
    subst (λ (k : ℕ). StandsBetween (config_of v) (behind_of before (change_row n rid r m)) v.anchor a (flushed_of v) k d) (sym (last_changed n rid r m))
    (subst (λ (g : Behind). StandsBetween (config_of v) g v.anchor a (flushed_of v) (last_record (append r m)) d) (sym (behind_changed before n rid r m)) s)
