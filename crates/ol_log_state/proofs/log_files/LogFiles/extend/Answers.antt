use Rattle.std.proofs.Common.{List, None, Some, ap, arith, false, refl, subst, sym, ◌∙◌, ◌≡◌}
use Rattle.std.specs.List.{position_from}
use Rattle.ol_log_state.specs.Files.{Files, extended, next_page, ring_in}
use Rattle.ol_log_state.specs.StoredFiles.{IsRoomy}
use Rattle.ol_log_state.specs.Uses.{HeldUse, Stored, use_of, with_head}
use Rattle.ol_rules.specs.Ring.{at_use, with_range}
use Rattle.ol_log_state.proofs.FileLaws.{is_numbered, located_use, open_left, open_there, pushed_roomy, replaced, roomy_at}
use Rattle.ol_log_state.proofs.ListLaws.{located}
use Rattle.ol_log_state.proofs.RingLaws.{extended_ring}
use Rattle.ol_log_state.proofs.log_files.LogFiles.extend.Goals as goal

pub index_mut-requires : goal.index_mut-requires
index_mut-requires c =
    let at = located (is_numbered c.self.inside.uniq) c.in-Some.i c.deref.result.now (sym c.in-Some.ensures) in
    omega (arith, at.within, c.deref.ensures.len)

pub push-requires-clause-room : goal.push-requires-clause-room
push-requires-clause-room c =
    let f = c.self.inside in
    let e : position_from (is_numbered f.uniq) 0 f.uses.items ≡ Some c.in-Some.i = ap (λ (l : List Stored). position_from (is_numbered f.uniq) 0 l) (sym c.deref.ensures.value) ∙ sym c.in-Some.ensures in
    let place = subst (λ (g : Files). next_page g ≡ record { uniq = g.uniq; index = c.args.head.index; enters = false }) (sym c.self.view_is) c.requires.place in
    (open_left f c.in-Some.i c.args.head.index c.index_mut.result.now c.self.invariant e c.index_mut.ensures.value place).2

pub invariant_of-self : goal.invariant_of-self
invariant_of-self c =
    let f = c.self.inside in
    let d = c.index_mut.result.now in
    let e : position_from (is_numbered f.uniq) 0 f.uses.items ≡ Some c.in-Some.i = ap (λ (l : List Stored). position_from (is_numbered f.uniq) 0 l) (sym c.deref.ensures.value) ∙ sym c.in-Some.ensures in
    let place = subst (λ (g : Files). next_page g ≡ record { uniq = g.uniq; index = c.args.head.index; enters = false }) (sym c.self.view_is) c.requires.place in
    let left = open_left f c.in-Some.i c.args.head.index d c.self.invariant e c.index_mut.ensures.value place in
    let roomy = subst (IsRoomy f.area.pages) (sym c.push.ensures) (pushed_roomy f.area.pages c.args.head d (roomy_at f c.in-Some.i d c.self.invariant e c.index_mut.ensures.value) left.0 left.1 left.2) in
    (replaced f (with_head c.args.head) c.in-Some.i c.push.new.self d c.self.invariant e c.index_mut.ensures.value (ap (λ (s : Stored). s.held) c.push.ensures) refl roomy).0

pub returns-in-Some-clause-value : goal.returns-in-Some-clause-value
returns-in-Some-clause-value c =
    let f = c.self.inside in
    let d = c.index_mut.result.now in
    let e : position_from (is_numbered f.uniq) 0 f.uses.items ≡ Some c.in-Some.i = ap (λ (l : List Stored). position_from (is_numbered f.uniq) 0 l) (sym c.deref.ensures.value) ∙ sym c.in-Some.ensures in
    let place = subst (λ (g : Files). next_page g ≡ record { uniq = g.uniq; index = c.args.head.index; enters = false }) (sym c.self.view_is) c.requires.place in
    let left = open_left f c.in-Some.i c.args.head.index d c.self.invariant e c.index_mut.ensures.value place in
    let roomy = subst (IsRoomy f.area.pages) (sym c.push.ensures) (pushed_roomy f.area.pages c.args.head d (roomy_at f c.in-Some.i d c.self.invariant e c.index_mut.ensures.value) left.0 left.1 left.2) in
    let uses = (replaced f (with_head c.args.head) c.in-Some.i c.push.new.self d c.self.invariant e c.index_mut.ensures.value (ap (λ (s : Stored). s.held) c.push.ensures) refl roomy).1 in
    ap (λ (l : List HeldUse). (let r : Files = record { area = f.area; uses = l; uniq = f.uniq } in r)) uses
    ∙ ap (λ (g : Files). (let r : Files = record { area = g.area; uses = extended g.uniq c.args.head g.uses; uniq = g.uniq } in r)) c.self.view_is

pub returns-in_default-clause-value : goal.returns-in_default-clause-value
returns-in_default-clause-value c =
    let f = c.self.inside in
    let e : position_from (is_numbered f.uniq) 0 f.uses.items ≡ None = ap (λ (l : List Stored). position_from (is_numbered f.uniq) 0 l) (sym c.deref.ensures.value) ∙ sym c.in_default.ensures in
    let place = subst (λ (g : Files). next_page g ≡ record { uniq = g.uniq; index = c.args.head.index; enters = false }) (sym c.self.view_is) c.requires.place in
    absurd (open_there f c.args.head.index e place)

pub returns-in-Some-clause-ring : goal.returns-in-Some-clause-ring
returns-in-Some-clause-ring c =
    let f = c.self.inside in
    let d = c.index_mut.result.now in
    let h = c.args.head in
    let e : position_from (is_numbered f.uniq) 0 f.uses.items ≡ Some c.in-Some.i = ap (λ (l : List Stored). position_from (is_numbered f.uniq) 0 l) (sym c.deref.ensures.value) ∙ sym c.in-Some.ensures in
    let place = subst (λ (g : Files). next_page g ≡ record { uniq = g.uniq; index = h.index; enters = false }) (sym c.self.view_is) c.requires.place in
    let left = open_left f c.in-Some.i h.index d c.self.invariant e c.index_mut.ensures.value place in
    let found = located_use f.uniq c.in-Some.i f.uses.items d e ∙ ap (λ (t : Stored). Some (use_of t.held)) (sym c.index_mut.ensures.value) in
    let ring = extended_ring f.area f.uniq h f.uses.items (use_of d.held) c.self.invariant.numbered.apart found left.0 in
    ap ring_in (returns-in-Some-clause-value c)
    ∙ subst (λ (g : Files). ring_in (record { area = g.area; uses = extended g.uniq h g.uses; uniq = g.uniq }) ≡ at_use g.uniq (with_range h.first h.count) (ring_in g)) c.self.view_is ring

pub returns-in_default-clause-ring : goal.returns-in_default-clause-ring
returns-in_default-clause-ring c =
    let f = c.self.inside in
    let e : position_from (is_numbered f.uniq) 0 f.uses.items ≡ None = ap (λ (l : List Stored). position_from (is_numbered f.uniq) 0 l) (sym c.deref.ensures.value) ∙ sym c.in_default.ensures in
    let place = subst (λ (g : Files). next_page g ≡ record { uniq = g.uniq; index = c.args.head.index; enters = false }) (sym c.self.view_is) c.requires.place in
    absurd (open_there f c.args.head.index e place)
