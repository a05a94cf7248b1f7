use Rattle.std.proofs.Common.{None, Some, ap, arith, drop, inl, subst, sym, ◌∙◌, ◌≡◌, ℕ}
use Rattle.ol_ports.specs.Disk.{Past, Rest}
use Rattle.ol_ports.specs.Frames.{FramedIn, ReadsOutside}
use Rattle.ol_ports.specs.Stops.{Stops}
use Rattle.ol_ports.proofs.FrameLaws.{framed_none}
use Rattle.ol_ports.proofs.StopLaws.{stops_none}
use Rattle.ol_reserve.specs.Pair.{HasTarget, IsOneOf, IsReadyAt, is_pair}
use Rattle.ol_reserve.proofs.Gates.{prepared}
use Rattle.ol_reserve.proofs.PairLaws.{newest_seen}
use Rattle.ol_reserve.proofs.pair.Pair.write.Goals as goal

pub returns-in-Ok-put-clause-stops : goal.returns-in-Ok-put-clause-stops
returns-in-Ok-put-clause-stops g c tells now ready is above =
    let same = c.find_target.ensures.past tells in
    let before = prepared _ now c.in-Ok.target ready.settled (c.in-Ok.ensures.found tells now ready.newest) in
    let moved = subst (λ (p : Past). HasTarget p now c.in-Ok.target) (sym same) before in
    subst (λ (p : Past). Stops p (g.D.Disk.past c.put.new.disk) (IsOneOf now (Some c.args.anchor.now))) same
    (c.put.ensures.stops tells now c.args.anchor.now moved (c.split_at.ensures.back ∙ ap (λ l. drop 1 l) c.encode.ensures) is above)

pub returns-in-Err-put-clause-stops : goal.returns-in-Err-put-clause-stops
returns-in-Err-put-clause-stops g c tells now ready is above =
    let same = c.find_target.ensures.past tells in
    let before = prepared _ now c.in-Ok.target ready.settled (c.in-Ok.ensures.found tells now ready.newest) in
    let moved = subst (λ (p : Past). HasTarget p now c.in-Ok.target) (sym same) before in
    subst (λ (p : Past). Stops p (g.D.Disk.past c.put.new.disk) (IsOneOf now (Some c.args.anchor.now))) same
    (c.put.ensures.stops tells now c.args.anchor.now moved (c.split_at.ensures.back ∙ ap (λ l. drop 1 l) c.encode.ensures) is above)

pub returns-in-Ok-put-clause-ok : goal.returns-in-Ok-put-clause-ok
returns-in-Ok-put-clause-ok g c tells now ready is above =
    let same = c.find_target.ensures.past tells in
    let before = prepared _ now c.in-Ok.target ready.settled (c.in-Ok.ensures.found tells now ready.newest) in
    let moved = subst (λ (p : Past). HasTarget p now c.in-Ok.target) (sym same) before in
    let at = c.in-Ok-put.ensures.ok tells now c.args.anchor.now moved (c.split_at.ensures.back ∙ ap (λ l. drop 1 l) c.encode.ensures) is above in
    record { settled = at.settled; newest = (c.in-Ok.target.page, at.newest) }

pub returns-in-Ok-put-clause-place : goal.returns-in-Ok-put-clause-place
returns-in-Ok-put-clause-place g c tells ready is =
    let same = c.find_target.ensures.past tells in
    let before = prepared _ None c.in-Ok.target ready.settled (c.in-Ok.ensures.found tells None ready.newest) in
    let moved = subst (λ (p : Past). HasTarget p None c.in-Ok.target) (sym same) before in
    let page : c.in-Ok.target.page ≡ 0 = c.in-Ok.ensures.blank tells ready.newest in
    subst (λ (n : ℕ). IsReadyAt (g.D.Disk.past c.put.new.disk) n c.args.anchor.now) page
    (c.in-Ok-put.ensures.ok tells None c.args.anchor.now moved (c.split_at.ensures.back ∙ ap (λ l. drop 1 l) c.encode.ensures) is tt)

pub returns-in-Err-clause-stops : goal.returns-in-Err-clause-stops
returns-in-Err-clause-stops g c tells now ready is above =
    subst (λ (p : Past). Stops (g.D.Disk.past c.args.disk.now) p (IsOneOf now (Some c.args.anchor.now))) (sym (c.find_target.ensures.past tells)) (stops_none _ _ (λ d rest. inl (newest_seen _ now d ready rest)))

pub returns-in-Err-clause-frame : goal.returns-in-Err-clause-frame
returns-in-Err-clause-frame g c tells =
    subst (λ (p : Past). Stops (g.D.Disk.past c.args.disk.now) p (FramedIn (g.D.Disk.past c.args.disk.now) is_pair)) (sym (c.find_target.ensures.past tells)) (stops_none _ _ (λ d rest. framed_none _ (λ k p i. is_pair k p) d rest))

pub returns-in-Ok-put-clause-reads : goal.returns-in-Ok-put-clause-reads
returns-in-Ok-put-clause-reads g c tells =
    subst (λ (p : Past). ReadsOutside p (g.D.Disk.past c.put.new.disk) is_pair) (c.find_target.ensures.past tells) (c.in-Ok-put.ensures.reads tells)
