use Rattle.std.proofs.Common.{List, ap, arith, filter, length, not, subst, sym, true, ◌%◌, ◌++◌, ◌+◌, ◌-◌, ◌==◌, ◌∙◌, ◌∷◌, [], ◌≡◌}
use Rattle.std.specs.List.{AllByRecursion}
use Rattle.ol_log_state.specs.Files.{Files, entered, next_page, ring_in}
use Rattle.ol_log_state.specs.StoredFiles.{AreNumbered, IsRoomy, IsSpare, helds, uniqs}
use Rattle.ol_log_state.specs.Uses.{HeldUse, Stored, emptied, pushed}
use Rattle.ol_log_state.proofs.EnterLaws.{above, all_parted, count_left, entered_roomy, helds_entered, numbered_entered, numbers_left, spare_there}
use Rattle.ol_log_state.proofs.ListLaws.{all_filtered, all_pushed}
use Rattle.ol_log_state.proofs.RingLaws.{entered_ring}
use Rattle.ol_log_state.proofs.log_files.LogFiles.enter.Goals as goal

pub push-requires-clause-room : goal.push-requires-clause-room
push-requires-clause-room c =
    let f = c.self.inside in
    let spares = c.clear_file.ensures.spare f.area.pages c.self.invariant.roomy c.self.invariant.spares in
    let one = (all_parted (IsSpare f.area.pages) c.pop.new.self.items c.in-Some.held (subst (AllByRecursion (IsSpare f.area.pages)) c.in-Some.ensures.items spares)).1 in
    omega (arith, one.whole, ap (λ (s : Stored). s.room) c.empty.ensures, c.self.invariant.area.pages)

pub unreachable-requires-in-None : goal.unreachable-requires-in-None
unreachable-requires-in-None c =
    let f = c.self.inside in
    let file = (c.args.uniq - 1) % f.area.count in
    let left = filter (λ (s : Stored). not (((s.held.uniq - 1) % f.area.count) == file)) f.uses.items in
    let cleared : c.clear_file.new.uses.items ≡ left = c.clear_file.ensures.uses ∙ ap (λ k. filter (λ (s : Stored). not (((s.held.uniq - 1) % f.area.count) == k)) f.uses.items) c.file_number.ensures.value in
    let count : length left + length c.clear_file.new.spare.items ≡ length f.uses.items + length f.spare.items =
    omega (arith, ap length cleared, c.clear_file.ensures.total, f.uses.ok.0, f.spare.ok.0, c.clear_file.new.uses.ok.0, c.clear_file.new.spare.ok.0) in
    let there = spare_there f.area.count f.uniq c.args.uniq (length f.spare.items) (length c.clear_file.new.spare.items) f.uses.items (omega (arith, c.self.invariant.area.files)) c.self.invariant.numbered count in
    omega (arith, there, c.in-None.ensures.cases.0, c.clear_file.new.spare.ok.0)

pub invariant_of-self : goal.invariant_of-self
invariant_of-self c =
    let f = c.self.inside in
    let file = (c.args.uniq - 1) % f.area.count in
    let left = filter (λ (s : Stored). not (((s.held.uniq - 1) % f.area.count) == file)) f.uses.items in
    let t = c.push.new.self in
    let cleared : c.clear_file.new.uses.items ≡ left = c.clear_file.ensures.uses ∙ ap (λ k. filter (λ (s : Stored). not (((s.held.uniq - 1) % f.area.count) == k)) f.uses.items) c.file_number.ensures.value in
    let items : c.push-in-Some.new.self.items ≡ left ++ t ∷ [] = c.in-Ok.ensures.items ∙ ap (λ l. l ++ t ∷ []) cleared in
    let spares = c.clear_file.ensures.spare f.area.pages c.self.invariant.roomy c.self.invariant.spares in
    let parted = all_parted (IsSpare f.area.pages) c.pop.new.self.items c.in-Some.held (subst (AllByRecursion (IsSpare f.area.pages)) c.in-Some.ensures.items spares) in
    let new : t ≡ pushed c.args.head (emptied c.args.uniq c.in-Some.held) = c.push.ensures ∙ ap (pushed c.args.head) c.empty.ensures in
    let place = subst (λ (g : Files). next_page g ≡ record { uniq = c.args.uniq; index = 0; enters = true }) (sym c.self.view_is) c.requires.place in
    let count : length (numbers_left f.area.count file (uniqs f.uses.items)) + length c.pop.new.self.items + 1 ≡ length f.uses.items + length f.spare.items =
    omega (arith, count_left f.area.count file f.uses.items, ap length cleared, c.clear_file.ensures.total, c.in-Some.ensures.len, f.uses.ok.0, f.spare.ok.0, c.clear_file.new.uses.ok.0, c.pop.new.self.ok.0) in
    record {
      area = c.self.invariant.area;
      uniq = c.requires.uniq;
      roomy = subst (AllByRecursion (IsRoomy f.area.pages)) (sym items) (all_pushed (IsRoomy f.area.pages) left t (all_filtered (IsRoomy f.area.pages) (λ (s : Stored). not (((s.held.uniq - 1) % f.area.count) == file)) f.uses.items c.self.invariant.roomy) (subst (IsRoomy f.area.pages) (sym new) (entered_roomy f.area.pages c.args.uniq c.args.head c.in-Some.held c.self.invariant.area.pages.0 parted.1 c.requires.first)));
      spares = parted.0;
      numbered = subst (λ (l : List Stored). AreNumbered f.area.count c.args.uniq (uniqs l) (length c.pop.new.self.items)) (sym items) (numbered_entered f.area.count f.uniq c.args.uniq (length f.spare.items) (length c.pop.new.self.items) f.uses.items t (omega (arith, c.self.invariant.area.files)) c.self.invariant.numbered (above f c.args.uniq c.self.invariant place) (ap (λ (s : Stored). s.held.uniq) new) count);
      capacity = record {
        uses = omega (arith, c.in-Ok.ensures.len, c.in-Some.ensures.len, c.clear_file.ensures.total, c.clear_file.ensures.for_uses, c.push-in-Some.ensures.capacity, c.self.invariant.capacity.uses);
        spare = omega (arith, c.in-Ok.ensures.len, c.in-Some.ensures.len, c.clear_file.ensures.total, c.clear_file.ensures.for_spare, c.pop.ensures.capacity, c.self.invariant.capacity.spare);
      };
    }

pub returns-clause-value : goal.returns-clause-value
returns-clause-value c =
    let f = c.self.inside in
    let file = (c.args.uniq - 1) % f.area.count in
    let left = filter (λ (s : Stored). not (((s.held.uniq - 1) % f.area.count) == file)) f.uses.items in
    let t = c.push.new.self in
    let cleared : c.clear_file.new.uses.items ≡ left = c.clear_file.ensures.uses ∙ ap (λ k. filter (λ (s : Stored). not (((s.held.uniq - 1) % f.area.count) == k)) f.uses.items) c.file_number.ensures.value in
    let items : c.push-in-Some.new.self.items ≡ left ++ t ∷ [] = c.in-Ok.ensures.items ∙ ap (λ l. l ++ t ∷ []) cleared in
    let new : t ≡ pushed c.args.head (emptied c.args.uniq c.in-Some.held) = c.push.ensures ∙ ap (pushed c.args.head) c.empty.ensures in
    let uses = ap helds items ∙ helds_entered f.area.count file f.uses.items t ∙ ap (λ (s : Stored). filter (λ (u : HeldUse). not (((u.uniq - 1) % f.area.count) == file)) (helds f.uses.items) ++ s.held ∷ []) new in
    ap (λ (l : List HeldUse). (let r : Files = record { area = f.area; uses = l; uniq = c.args.uniq } in r)) uses
    ∙ ap (λ (g : Files). (let r : Files = record { area = g.area; uses = entered g.area c.args.uniq c.args.head g.uses; uniq = c.args.uniq } in r)) c.self.view_is

pub returns-clause-ring : goal.returns-clause-ring
returns-clause-ring c = ap ring_in (returns-clause-value c) ∙ entered_ring c.args.self.now c.args.uniq c.args.head c.requires.first
