use Rattle.std.proofs.Common.{◌≡◌, ◌<◌, [], length, map, get_or, sym, ap, subst, ◌∙◌, arith}
use Rattle.std.proofs.Math.ListN.{set}
use Rattle.std.proofs.lemmas.List.{length-set, get_or_read}
use Rattle.std.specs.Vec.{with_item}
use Rattle.ol_outside.specs.Volumes.{BlocksFit}
use Rattle.ol_outside.specs.Volumes.{flipped, flipped_in}
use Rattle.ol_outside.proofs.ShelfLaws.{blocks_of, volume-element, volumes-count, volume-replaced, volume-there, blocks-fit-set}
use Rattle.ol_outside.proofs.memory_drive.Volumes.flip.Goals as goal

-- the volumes with the byte turned
turned : (c : goal.After-self-1) → map blocks_of (set c.self.inside.volumes.items c.args.volume (with_item c.index_mut-blocks.result.now c.args.block (flipped c.index_mut-bytes.result.now c.args.byte))) ≡ flipped_in c.args.self.now c.args.volume c.args.block c.args.byte
turned c =
    let items = c.self.inside.volumes.items in
    let volumes = c.args.self.now in
    let v = c.index_mut-blocks.result.now in
    let bytes = c.index_mut-bytes.result.now in
    let block = c.args.block in
    let there : c.args.volume < length items = omega (arith, volumes-count items volumes c.self.view_is, volume-there volumes c.args.volume block c.requires.block) in
    let is = volume-element items volumes c.args.volume v c.self.view_is there c.index_mut-blocks.ensures.value in
    let within : block < length v.items = omega (arith, ap length is, c.requires.block) in
    let bytes_is : bytes ≡ get_or (get_or volumes c.args.volume []) block [] = get_or_read v.items block bytes within c.index_mut-bytes.ensures.value [] ∙ ap (λ l. get_or l block []) is in
    let new = ap (λ l. set l block (flipped bytes c.args.byte)) is ∙ ap (λ b. set (get_or volumes c.args.volume []) block (flipped b c.args.byte)) bytes_is in
    volume-replaced items volumes c.args.volume (with_item v block (flipped bytes c.args.byte)) (set (get_or volumes c.args.volume []) block (flipped (get_or (get_or volumes c.args.volume []) block []) c.args.byte)) c.self.view_is new

pub returns : goal.returns
returns c = turned c

pub invariant_of-self : goal.invariant_of-self
invariant_of-self c =
    let volumes = c.args.self.now in
    let blocks = get_or volumes c.args.volume [] in
    subst BlocksFit (sym (turned c)) (blocks-fit-set volumes c.args.volume (set blocks c.args.block (flipped (get_or blocks c.args.block []) c.args.byte)) (subst BlocksFit c.self.view_is c.self.invariant) (length-set blocks c.args.block (flipped (get_or blocks c.args.block []) c.args.byte)))
