use Rattle.std.proofs.Common.{◌<◌, ◌≤◌, ap, arith, false, subst, sym, true, slice_set, ℕ, ◌∙◌}
use Rattle.std.proofs.lemmas.List.{get_or-set_other, get_or-set_same, length-set}
use Rattle.ol_values.specs.LogPages.{LogPage}
use Rattle.ol_chunks.specs.declared.table.Area.{Area}
use Rattle.ol_ports.proofs.StopLaws.{stops_weaker}
use Rattle.ol_ports.specs.Disk.{Bytes}
use Rattle.ol_log_places.specs.Places.{IsPlaced, place_number}
use Rattle.ol_log_places.specs.Writes.{MayHavePage, with_page}
use Rattle.ol_log_places.proofs.Files.{gates_page}
use Rattle.ol_log_state.specs.declared.places.NextPage.{NextPage}
use Rattle.ol_log_state.specs.Files.{next_page}
use Rattle.ol_log_state.specs.RingState.{RingState, page_to_write, ring_of}
use Rattle.ol_loglog.specs.RingValue.{ring_value}
use Rattle.ol_loglog.specs.Ready.{IsInOrder, IsReady}
use Rattle.ol_loglog.proofs.Spelled.{spelled}
use Rattle.ol_loglog.proofs.Kept.{order_turned}
use Rattle.ol_loglog.proofs.Readies.{closed_there, put_holds, ready_put}
use Rattle.ol_loglog.proofs.Steps.{room_is, written_is}
use Rattle.ol_loglog.proofs.pages.write_buffered_page.Goals as goal

pub turn_page-requires-clause-room : goal.turn_page-requires-clause-room
turn_page-requires-clause-room g c = subst (λ (n : ℕ). 1 ≤ n) (sym (room_is c.args.table.now c.args.state.now c.requires.area)) c.requires.room

pub returns-in-Ok-clause-stops : goal.returns-in-Ok-clause-stops
returns-in-Ok-clause-stops g c tells r floor j ready shut =
    let t = c.args.table.now in
    let s = c.args.state.now in
    let k = c.place_of_page-place.result in
    let at = c.place_of_page-place.ensures.value ∙ ap (λ (n : NextPage). place_number t n.uniq n.index) c.next_page.ensures.value in
    let below : (next_page s.files).index < t.log_file_pages = omega (arith, c.next_page.ensures.index, ap (λ (n : NextPage). n.index) c.next_page.ensures.value, ap (λ (a : Area). a.pages) c.requires.area) in
    let bytes = spelled t s k c.bytes.result.now c.requires.area c.requires.limits c.requires.low c.requires.some below at c.bytes.ensures.bytes c.bytes.ensures.filling in
    let within = c.place_of_page-place.ensures.limit in
    stops_weaker _ _ _ _
    (λ (d : Bytes) may. put_holds _ t s c.args.gates.now.items _ r floor j ready shut c.requires.area k at below within c.requires.some c.requires.limits d (subst (λ (p : LogPage). MayHavePage t r k p d) bytes.value may))
    (c.write_log_page.ensures.stops tells r ready.placed (closed_there _ t s c.args.gates.now.items _ r floor j ready shut c.requires.area k at below within) bytes.page)

pub returns-in-Err-clause-stops : goal.returns-in-Err-clause-stops
returns-in-Err-clause-stops g c tells r floor j ready shut =
    let t = c.args.table.now in
    let s = c.args.state.now in
    let k = c.place_of_page-place.result in
    let at = c.place_of_page-place.ensures.value ∙ ap (λ (n : NextPage). place_number t n.uniq n.index) c.next_page.ensures.value in
    let below : (next_page s.files).index < t.log_file_pages = omega (arith, c.next_page.ensures.index, ap (λ (n : NextPage). n.index) c.next_page.ensures.value, ap (λ (a : Area). a.pages) c.requires.area) in
    let bytes = spelled t s k c.bytes.result.now c.requires.area c.requires.limits c.requires.low c.requires.some below at c.bytes.ensures.bytes c.bytes.ensures.filling in
    let within = c.place_of_page-place.ensures.limit in
    stops_weaker _ _ _ _
    (λ (d : Bytes) may. put_holds _ t s c.args.gates.now.items _ r floor j ready shut c.requires.area k at below within c.requires.some c.requires.limits d (subst (λ (p : LogPage). MayHavePage t r k p d) bytes.value may))
    (c.write_log_page.ensures.stops tells r ready.placed (closed_there _ t s c.args.gates.now.items _ r floor j ready shut c.requires.area k at below within) bytes.page)

pub returns-in-Ok-clause-ok : goal.returns-in-Ok-clause-ok
returns-in-Ok-clause-ok g c tells r floor j ready shut =
    let t = c.args.table.now in
    let s = c.args.state.now in
    let gates = c.args.gates.now.items in
    let k = c.place_of_page-place.result in
    let p = page_to_write s in
    let at = c.place_of_page-place.ensures.value ∙ ap (λ (n : NextPage). place_number t n.uniq n.index) c.next_page.ensures.value in
    let below : (next_page s.files).index < t.log_file_pages = omega (arith, c.next_page.ensures.index, ap (λ (n : NextPage). n.index) c.next_page.ensures.value, ap (λ (a : Area). a.pages) c.requires.area) in
    let bytes = spelled t s k c.bytes.result.now c.requires.area c.requires.limits c.requires.low c.requires.some below at c.bytes.ensures.bytes c.bytes.ensures.filling in
    let within = c.place_of_page-place.ensures.limit in
    let closed = closed_there _ t s gates _ r floor j ready shut c.requires.area k at below within in
    let placed = subst (λ (q : LogPage). IsPlaced (g.D.Disk.past c.write_log_page.new.disk) t (with_page r k q)) bytes.value (c.in-Ok.ensures.ok tells r ready.placed closed bytes.page) in
    let are = gates_page gates (slice_set gates k true) r k p ready.gates (length-set gates k true) (get_or-set_same gates k true false (omega (arith, within, c.requires.gates))) (λ x other. get_or-set_other gates k x true false other) in
    let ring = ap ring_of (sym c.turn_page.ensures.value) ∙ c.turn_page.ensures.ring ∙ written_is t s _ c.requires.area in (
      with_page r k p,
      subst (λ (x : RingState). IsReady (g.D.Disk.past c.write_log_page.new.disk) (ring_value t x (slice_set gates k true)) (with_page r k p) floor j) (sym c.turn_page.ensures.value)
          (ready_put _ t s gates _ r floor j ready shut c.requires.area k at below within c.requires.some c.requires.limits ring (λ other e. e) (g.D.Disk.past c.write_log_page.new.disk) (slice_set gates k true) placed are),
    )

pub returns-in-Ok-clause-order : goal.returns-in-Ok-clause-order
returns-in-Ok-clause-order g c order =
    let t = c.args.table.now in
    let s = c.args.state.now in
    let ring = ap ring_of (sym c.turn_page.ensures.value) ∙ c.turn_page.ensures.ring ∙ written_is t s _ c.requires.area in
    subst (λ (x : RingState). IsInOrder t x) (sym c.turn_page.ensures.value) (order_turned t s c.requires.area c.requires.limits.first c.requires.some ring order)
