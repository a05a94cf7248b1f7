use Rattle.std.proofs.Common.{◌≡◌, ℕ, [], sym, ap, ◌∙◌, subst}
use Rattle.std.proofs.lemmas.Result.{IfOk-weaker}
use Rattle.ol_outside.specs.Devices.{DiskState, fresh_disk}
use Rattle.ol_ports.specs.Disk.{seen}
use Rattle.ol_outside.specs.Images.{chosen}
use Rattle.ol_outside.specs.KeptCalls.{kept_calls, AllFitIn}
use Rattle.ol_outside.proofs.ImageLaws.{chosen-passes}
use Rattle.ol_outside.proofs.KeptLaws.{fits-passes}
use Rattle.ol_outside.proofs.StopLaws.{rest-chosen, fresh-seen}
use Rattle.ol_outside.proofs.memory_disk.MemoryDisk.rest.Goals as goal

pub image-requires : goal.image-requires
image-requires c =
    let s = c.self.inside in
    subst (λ kept. AllFitIn s.base (kept_calls kept)) (sym c.deref.ensures.value) (fits-passes s.base s.passed (kept_calls s.kept.items) c.self.invariant.0.fits)

-- what the new disk reads
read_is : (c : goal.After-begin) (disk : DiskState) → disk ≡ fresh_disk c.in_ok-bytes.bytes c.deref-2.result.now [] → (k p i : ℕ) → seen disk.past k p i ≡ chosen c.args.choice c.args.self.now.past.base c.args.self.now.past.calls k p i
read_is c disk is k p i =
    let s = c.self.inside in
    let choice = c.args.choice in
    let calls = kept_calls s.kept.items in
    let reads = fresh-seen c.in_ok-bytes.bytes c.deref-2.result.now [] (chosen choice s.base (kept_calls c.deref.result.now)) disk c.in_ok-bytes.ensures.image is k p i in
    reads ∙ ap (λ kept. chosen choice s.base (kept_calls kept) k p i) c.deref.ensures.value ∙ sym (chosen-passes choice s.base s.passed calls k p i) ∙ ap (λ (d : DiskState). chosen choice d.past.base d.past.calls k p i) c.self.view_is

pub returns-clause-bytes : goal.returns-clause-bytes
returns-clause-bytes c = IfOk-weaker c.begin.result _ _ (read_is c) c.begin.ensures

pub returns-clause-rest : goal.returns-clause-rest
returns-clause-rest c =
    IfOk-weaker c.begin.result _ _ (λ disk is. rest-chosen c.args.choice c.args.self.now.past.base c.args.self.now.past.calls (seen disk.past) (read_is c disk is)) c.begin.ensures
