use Rattle.std.proofs.Common.{◌≡◌, ◌≤◌, ℕ, [], length, take, sym, ap, ◌∙◌, subst, arith}
use Rattle.std.proofs.lemmas.Result.{IfOk-weaker}
use Rattle.ol_outside.specs.Devices.{DiskState, fresh_disk, last_moment}
use Rattle.ol_ports.specs.Disk.{seen, Left}
use Rattle.ol_outside.specs.Images.{chosen, stopped_within, SameImages}
use Rattle.ol_outside.specs.KeptCalls.{calls_of, kept_calls, AllFitIn}
use Rattle.ol_outside.proofs.KeptLaws.{fits-passes, fits-take}
use Rattle.ol_outside.proofs.StopLaws.{left-chosen, fresh-seen}
use Rattle.ol_outside.proofs.memory_disk.MemoryDisk.left.Goals as goal

pub image-requires : goal.image-requires
image-requires c =
    let s = c.self.inside in
    let fits = fits-passes s.base s.passed (kept_calls s.kept.items) c.self.invariant.0.fits in
    subst (λ kept. AllFitIn s.base (kept_calls (take c.stopped_at-count.result kept))) (sym c.deref-2.ensures.value) (fits-take s.base s.kept.items c.stopped_at-count.result fits)

-- what the new disk reads
read_is : (c : goal.After-begin) (disk : DiskState) → disk ≡ fresh_disk c.in_ok-bytes.bytes c.deref-3.result.now [] → (k p i : ℕ) → seen disk.past k p i ≡ chosen c.args.choice c.args.self.now.past.base (stopped_within c.args.self.now.past.calls c.args.moment) k p i
read_is c disk is k p i =
    let s = c.self.inside in
    let m = c.args.moment in
    let choice = c.args.choice in
    let count = c.stopped_at-count.result in
    let made : m ≤ last_moment c.args.self.now = c.requires.made in
    let le : m ≤ length (calls_of s.kept.items s.passed) = omega (arith, made, ap last_moment c.self.view_is) in
    let same = subst (λ kept. SameImages (kept_calls (take count kept)) (stopped_within (calls_of kept s.passed) m)) c.deref.ensures.value (c.stopped_at-count.ensures.same s.passed (subst (λ kept. m ≤ length (calls_of kept s.passed)) (sym c.deref.ensures.value) le)) in
    let reads = fresh-seen c.in_ok-bytes.bytes c.deref-3.result.now [] (chosen choice s.base (kept_calls (take count c.deref-2.result.now))) disk c.in_ok-bytes.ensures.image is k p i in
    reads ∙ ap (λ kept. chosen choice s.base (kept_calls (take count kept)) k p i) c.deref-2.ensures.value ∙ same.each choice s.base k p i ∙ ap (λ (d : DiskState). chosen choice d.past.base (stopped_within d.past.calls m) k p i) c.self.view_is

pub returns-clause-bytes : goal.returns-clause-bytes
returns-clause-bytes c = IfOk-weaker c.begin.result _ _ (read_is c) c.begin.ensures

pub returns-clause-left : goal.returns-clause-left
unfolding Left
returns-clause-left c =
    let made : c.args.moment ≤ last_moment c.args.self.now = c.requires.made in
    IfOk-weaker c.begin.result _ _ (λ disk is. left-chosen c.args.choice c.args.self.now.past.base c.args.self.now.past.calls c.args.moment (seen disk.past) (omega (arith, made)) (read_is c disk is)) c.begin.ensures
