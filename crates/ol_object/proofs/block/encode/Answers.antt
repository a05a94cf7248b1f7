use Rattle.std.proofs.Common.{◌≡◌, ◌++◌, arith, take}
use Rattle.ol_object.specs.Bytes.{head_bytes}
use Rattle.ol_object.proofs.block.encode.Goals as goal

pub returns : goal.returns
returns c =
    let at : c.put_head-at.result ≡ 64 = c.put_head-at.ensures.next in
    let end : c.put.result ≡ 2112 = omega (arith, c.put.ensures.next, c.told-payload) in
    let digested : take 2112 c.put.new.out ≡ head_bytes c.args.head.now ++ c.args.payload.now =
    rw (← end, c.put.ensures.front, at, c.put_head-at.ensures.front) in
    rw (c.seal.ensures, digested)
