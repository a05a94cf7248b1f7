use Rattle.std.proofs.Common.{◌≡◌, ◌*◌, ◌∙◌, ap, arith, drop, get_or, IfOk, length, length-drop, map, subst, sym, take}
use Rattle.ol_values.specs.Blocks.{ArchiveHead}
use Rattle.ol_object.specs.Spaces.{archive_head_of, saved_of}
use Rattle.ol_block_reading.specs.Testing.{archive_head_at, saved_list_in}
use Rattle.ol_block_reading.proofs.Heads.{few_read, parts_of}
use Rattle.ol_block_reading.proofs.archive_head.archive_head_of.Goals as goal

pub split_at-requires-2 : goal.split_at-requires-2
split_at-requires-2 c =
    let parts = parts_of c.args.bytes.now _ _ c.split_at.ensures.front c.split_at.ensures.back (λ i. omega (arith, c.type_inv.bytes i)) c.requires in
    omega (arith, parts.room)

pub split_at-requires-3 : goal.split_at-requires-3
split_at-requires-3 c =
    let parts = parts_of c.args.bytes.now _ _ c.split_at.ensures.front c.split_at.ensures.back (λ i. omega (arith, c.type_inv.bytes i)) c.requires in
    omega (arith, parts.room, ap length c.split_at-2.ensures.back, length-drop (17 * get_or c.split_at.result.0.now 0 0) c.split_at.result.1.now)

pub new-requires-clause-few : goal.new-requires-clause-few
new-requires-clause-few c =
    let parts = parts_of c.args.bytes.now _ _ c.split_at.ensures.front c.split_at.ensures.back (λ i. omega (arith, c.type_inv.bytes i)) c.requires in
    omega (arith, few_read _ c.split_at-2.result.0.now c.in_ok-spaces.spaces.items parts.few c.in_ok-spaces.ensures, ap length c.deref.ensures.value)

pub new-requires-clause-short : goal.new-requires-clause-short
new-requires-clause-short c =
    let parts = parts_of c.args.bytes.now _ _ c.split_at.ensures.front c.split_at.ensures.back (λ i. omega (arith, c.type_inv.bytes i)) c.requires in
    omega (arith, parts.short, ap length (c.split_at-3.ensures.back ∙ ap (drop 2) c.split_at-2.ensures.back))

pub returns : goal.returns
returns c =
    let parts = parts_of c.args.bytes.now _ _ c.split_at.ensures.front c.split_at.ensures.back (λ i. omega (arith, c.type_inv.bytes i)) c.requires in
    let n = get_or c.split_at.result.0.now 0 0 in
    let spaces : map saved_of c.deref.result.now ≡ saved_list_in n (take (17 * n) c.split_at.result.1.now) = ap (map saved_of) c.deref.ensures.value ∙ c.in_ok-spaces.ensures ∙ ap (saved_list_in n) c.split_at-2.ensures.front in
    let text : c.split_at-3.result.1.now ≡ drop 2 (drop (17 * n) c.split_at.result.1.now) = c.split_at-3.ensures.back ∙ ap (drop 2) c.split_at-2.ensures.back in
    let same : archive_head_of c.deref.result.now c.split_at-3.result.1.now ≡ archive_head_at n c.split_at.result.1.now = λ i. record { spaces = spaces i; text = text i } in
    subst (λ (v : ArchiveHead). IfOk c.new.result (λ h. h ≡ v)) (same ∙ sym parts.value) c.new.ensures
