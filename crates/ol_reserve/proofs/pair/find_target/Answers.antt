use Rattle.std.proofs.Common.{ap, subst, sym, ◌∙◌}
use Rattle.ol_ports.specs.Disk.{Past, page_list, seen}
use Rattle.ol_reserve.specs.Pair.{IsTarget}
use Rattle.ol_reserve.specs.declared.pair.Target.{Target}
use Rattle.ol_reserve.proofs.Targets.{blank_target, target_found}
use Rattle.ol_reserve.proofs.pair.find_target.Goals as goal

pub returns-in-Ok-read-clause-found : goal.returns-in-Ok-read-clause-found
returns-in-Ok-read-clause-found g c tells now newest =
    let second = c.in-Ok-read.ensures.bytes tells ∙ ap (λ (p : Past). page_list (seen p) 0 1) (c.read.ensures.past tells) in
    let found = target_found (seen (g.D.Disk.past c.args.disk.now)) c.read.new.buf c.read-2.new.buf (c.in-Ok.ensures.bytes tells) second now newest in
    subst (λ t. IsTarget (seen (g.D.Disk.past c.args.disk.now)) now t) (sym c.choose.ensures.value) found

pub returns-in-Ok-read-clause-blank : goal.returns-in-Ok-read-clause-blank
returns-in-Ok-read-clause-blank g c tells newest =
    let second = c.in-Ok-read.ensures.bytes tells ∙ ap (λ (p : Past). page_list (seen p) 0 1) (c.read.ensures.past tells) in
    ap (λ (t : Target). t.page) c.choose.ensures.value ∙ blank_target (seen (g.D.Disk.past c.args.disk.now)) c.read.new.buf c.read-2.new.buf (c.in-Ok.ensures.bytes tells) second newest
