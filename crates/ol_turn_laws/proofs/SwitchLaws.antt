-- What is free in the ring after the current file is closed.
use Rattle.std.specs.Prelude.{None, Option, Some, [], false, length, not, option_map, refl, true, ℕ, ◌+◌, ◌-◌, ◌==◌, ◌≡◌, ◌≤◌}
use Rattle.std.proofs.Common.{ap, arith, inl, inr, subst, ◌∙◌}
use Rattle.std.proofs.lemmas.Bool.{cases_Bool}
use Rattle.std.proofs.lemmas.Bool.Decides.{eqb_tells}
use Rattle.ol_values.specs.Config.{Config}
use Rattle.ol_rules.specs.Ring.{Reuse, Ring, Use, at_use, flushed, following, free, free_after_switch, held, is_closed, open_use, room, room_after, switched_off, use_numbered, with_page_in, with_range}
use Rattle.ol_model.specs.LogTurns.{can_switch}
use Rattle.ol_model.specs.Machine.{Machine, config_of, reuse_of}
use Rattle.ol_turn_laws.proofs.RingLaws.{in_file_at, in_file_opened, numbered_at, numbered_opened, opened, run_kept}

-- a use that is switched
abbrev switched_use : Use → Use
switched_use u = record u { switched = true }

-- what is free behind a current use that is closed
switch_from : (c : Config) (m : Reuse) (r s : Ring) (u : Use) → use_numbered s s.uniq ≡ Some u → following c m r ≤ following c m s → held s ≡ 0 → following c m r ≤ free c m (switched_off s)
switch_from c m r s u is le none =
    let t = switched_off s in
    let there : use_numbered t s.uniq ≡ Some (switched_use u) = numbered_at s.uniq switched_use s (λ v. refl) ∙ ap (λ (o : Option Use). option_map switched_use o) is in
    let room_there : room c m t ≡ following c m t = ap (λ (o : Option Use). room_after c m t o) there in
    let kept : following c m s ≤ following c m t = run_kept c m s t refl (λ file other. in_file_at c s.uniq switched_use s file (λ v. refl) other) in
    omega (arith, room_there, kept, le, none)

-- a page is written into the current file
switch_written : (c : Config) (m : Reuse) (r : Ring) (o : Option Use) (first count : ℕ) → use_numbered r r.uniq ≡ o → ((u : Use) → o ≡ Some u → is_closed c r u ≡ false)
    → following c m r ≤ free c m (switched_off (record (with_page_in c r o first count) { buffer = [] }))
switch_written c m r None first count is opn =
    let s = record (open_use c r r.uniq first count) { buffer = [] } in
    switch_from c m r s (opened c r.uniq first count) (numbered_opened c r r.uniq first count)
    (run_kept c m r s refl (λ file other. in_file_opened c r r.uniq first count file other)) refl
switch_written c m r (Some u) first count is opn =
    let f = with_range first count in
    let s = record (at_use r.uniq f r) { buffer = [] } in
    let there : use_numbered s s.uniq ≡ Some (f u) = numbered_at r.uniq f r (λ v. refl) ∙ ap (λ (o : Option Use). option_map f o) is in
    let le : following c m r ≤ following c m s = run_kept c m r s refl (λ file other. in_file_at c r.uniq f r file (λ v. refl) other) in
    rw (opn u refl) (switch_from c m r s (f u) there le refl)

-- what may be switched from is open
can_open : (m : Machine) (o : Option Use) → can_switch m o ≡ true → (u : Use) → o ≡ Some u → is_closed (config_of m) m.log.ring u ≡ false
can_open m o can u is =
    let h : not (is_closed (config_of m) m.log.ring u) ≡ true = subst (λ (p : Option Use). can_switch m p ≡ true) is can in
    elim (cases_Bool (is_closed (config_of m) m.log.ring u)) [ inl e ↦ absurd (let f : false ≡ true = (rw (e) at h) in cc) | inr e ↦ e ]

-- where nothing is buffered, a page of the current file is written already
can_unheld : (m : Machine) (o : Option Use) → use_numbered m.log.ring m.log.ring.uniq ≡ o → can_switch m o ≡ true → held m.log.ring ≡ 0
    → following (config_of m) (reuse_of m) m.log.ring ≤ free (config_of m) (reuse_of m) (switched_off m.log.ring)
can_unheld m None is can none = absurd (let h : not (held m.log.ring == 0) ≡ true = can in let f : false ≡ true = (rw (none) at h) in cc)
can_unheld m (Some u) is can none = switch_from (config_of m) (reuse_of m) m.log.ring m.log.ring u is (omega arith) none

pub switched_free : (m : Machine) (last : ℕ) → can_switch m (use_numbered m.log.ring m.log.ring.uniq) ≡ true
    → free_after_switch (config_of m) (reuse_of m) m.log.ring ≤ free (config_of m) (reuse_of m) (switched_off (flushed (config_of m) m.log.ring last))
switched_free m last can =
    let r = m.log.ring in
    let c = config_of m in
    elim (eqb_tells (held r) 0) [
      | inl e ↦ rw (e.0) (can_unheld m (use_numbered r r.uniq) refl can e.1)
      | inr e ↦ rw (e.0) (switch_written c (reuse_of m) r (use_numbered r r.uniq) (last + 1 - length r.buffer) (length r.buffer) refl (can_open m (use_numbered r r.uniq) can))
    ]
