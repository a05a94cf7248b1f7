use Rattle.std.proofs.Common.{◌+◌, ◌-◌, ◌∙◌, ◌++◌, ap, arith, drop, length, length-drop, List, map, ℕ}
use Rattle.std.proofs.lemmas.List.{map-append}
use Rattle.ol_values.specs.Blocks.{Saved}
use Rattle.ol_object.specs.Spaces.{saved_of}
use Rattle.ol_block_reading.specs.Testing.{saved_in, saved_list_in}
use Rattle.ol_block_reading.proofs.Heads.{read_all, read_on}
use Rattle.ol_block_reading.proofs.archive_head.saved_list_of.Goals as goal

pub loop-preserved : goal.loop-preserved
loop-preserved c = record {
  room = omega (arith, c.loop.invariant.room, c.loop-test.true, ap length c.split_at.ensures.back, length-drop 17 c.loop.rest.now);
  whole = ap (λ (l : List ℕ). map saved_of c.push.new.self.items ++ saved_list_in (c.args.count - (c.loop.counter + 1)) l) c.split_at.ensures.back
      ∙ ap (λ (l : List Saved). l ++ saved_list_in (c.args.count - (c.loop.counter + 1)) (drop 17 c.loop.rest.now)) (ap (map saved_of) c.in_ok-push.ensures.items ∙ map-append saved_of c.loop.spaces.items _)
      ∙ read_on c.args.count c.loop.counter (map saved_of c.loop.spaces.items) (saved_of c.saved_of.result) c.loop.rest.now _ c.loop-test.true (c.saved_of.ensures ∙ ap saved_in c.split_at.ensures.front) c.loop.invariant.whole;
}

pub returns : goal.returns
returns c = read_all c.args.count c.loop.counter (map saved_of c.loop.spaces.items) c.loop.rest.now _ c.loop-test.false c.loop.invariant.whole
