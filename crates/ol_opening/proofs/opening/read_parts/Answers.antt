use Rattle.std.proofs.Common.{ap, inl, inr, subst, sym, ⊎_elim, ℕ, ◌∙◌, ◌≡◌}
use Rattle.std.specs.Prelude.{Err, Result, true}
use Rattle.ol_log_opening.specs.declared.log.LogOpenFault.{LogOpenFault}
use Rattle.ol_chunks.specs.Places.{is_in}
use Rattle.ol_chunks.specs.Places.Part.{Data}
use Rattle.ol_log_places.specs.Places.{HasLog, in_log}
use Rattle.ol_loglog.specs.RingValue.{RingValue}
use Rattle.ol_page_opening.specs.Opening.{IsBad}
use Rattle.ol_page_opening.specs.declared.pages.PageOpenFault.{PageOpenFault}
use Rattle.ol_ports.specs.Disk.{Past, seen}
use Rattle.ol_reserve.specs.declared.anchor.Anchor.{Anchor}
use Rattle.ol_storage.specs.Installation.{Installation}
use Rattle.ol_store.specs.Stores.{Store}
use Rattle.ol_values.specs.Config.{Config}
use Rattle.ol_opening.proofs.Anchors.{all_there, anchor_is, config_is, newest_there, numbers_low, pair_there, some_number}
use Rattle.ol_opening.proofs.Faults.{anchor_cause, anchor_kept, failed_is, log_cause, log_kept, pages_cause, pages_kept, same_cause, whole_anchor, whole_log, whole_numbered, whole_pages, why_anchor, why_log, why_pages}
use Rattle.ol_opening.proofs.Images.{stands_unwritten}
use Rattle.ol_opening.proofs.Joined.{frame_of, frame_unwritten, stops_of, stored_of}
use Rattle.ol_opening.specs.Faults.{HasOpenCause, IsRefusedFor, IsUnnumbered, MayRefuse, fault_of_log, fault_of_pages}
use Rattle.ol_opening.specs.declared.fault.OpenFault.{OpenFault}
use Rattle.ol_opening.proofs.opening.read_parts.Goals as goal

pub returns-in-Err-clause-stops : goal.returns-in-Err-clause-stops
returns-in-Err-clause-stops g c tells quiet k b a last is stands = stands_unwritten _ quiet k is b a last stands _ (c.read_anchor.ensures.past tells)

pub returns-in-Err-clause-why : goal.returns-in-Err-clause-why
returns-in-Err-clause-why g c tells =
    subst (λ (f : OpenFault). IsRefusedFor (g.D.Disk.sizes c.args.disk.now) (seen (g.D.Disk.past c.args.disk.now)) f) (sym c.of_anchor.ensures)
    (why_anchor (g.D.Disk.sizes c.args.disk.now) (seen (g.D.Disk.past c.args.disk.now)) c.in-Err.fault c.in-Err.ensures.read.ends (c.in-Err.ensures.read.why tells))

pub returns-in-Err-clause-whole : goal.returns-in-Err-clause-whole
returns-in-Err-clause-whole g c tells quiet k b a sound =
    let pair = pair_there _ k sound.left.config sound.large in
    subst (λ (f : OpenFault). MayRefuse k f) (sym c.of_anchor.ensures)
    (whole_anchor _ k b a _ sound pair c.in-Err.fault (c.in-Err.ensures.read.only tells sound.low a (newest_there _ _ a pair sound.left.stands.newest)))

pub returns-in-Err-clause-cause : goal.returns-in-Err-clause-cause
returns-in-Err-clause-cause g c =
    subst (λ (f : OpenFault). HasOpenCause {T = Installation} (g.D.Disk.fault_counts c.args.disk.now) (g.D.Disk.fault_counts c.read_anchor.new.disk) (Err f)) (sym c.of_anchor.ensures)
    (anchor_cause _ _ c.in-Err.fault c.in-Err.ensures.cause)

pub returns-then-anchor-eq0-clause-stops : goal.returns-then-anchor-eq0-clause-stops
returns-then-anchor-eq0-clause-stops g c tells quiet k b a last is stands = stands_unwritten _ quiet k is b a last stands _ (c.read_anchor.ensures.past tells)

pub returns-then-anchor-eq0-clause-whole : goal.returns-then-anchor-eq0-clause-whole
returns-then-anchor-eq0-clause-whole g c tells quiet k b a sound =
    whole_numbered _ k b a _ sound (subst IsUnnumbered (anchor_is _ _ _ a (c.in-Ok.ensures.newest tells) sound.left.stands.newest) (⊎_elim (λ none. inl none) (λ none. inr none.1) c.then-anchor-eq0.either))

pub read_log-requires-clause-size : goal.read_log-requires-clause-size
read_log-requires-clause-size g c = subst (λ (sizes : ℕ → ℕ). HasLog c.in-Ok.read.1 sizes) (sym c.read_anchor.ensures.sizes) (all_there _ _ _ c.in-Ok.ensures.read.ends).log

pub read_log-requires-clause-low : goal.read_log-requires-clause-low
read_log-requires-clause-low g c =
    let low = numbers_low c.in-Ok.read.0 c.in-Ok.ensures.read.ends.low in
    (some_number _ c.if-anchor-eq0.false, low.0, some_number _ c.if-anchor-eq0-2.false, low.1, low.2)

pub returns-in-Err-read_log-clause-stops : goal.returns-in-Err-read_log-clause-stops
returns-in-Err-read_log-clause-stops g c tells quiet k b a last is stands = stands_unwritten _ quiet k is b a last stands _ (c.read_log.ensures.past tells ∙ c.read_anchor.ensures.past tells)

pub returns-in-Err-read_log-clause-why : goal.returns-in-Err-read_log-clause-why
returns-in-Err-read_log-clause-why g c tells =
    subst (λ (f : OpenFault). IsRefusedFor (g.D.Disk.sizes c.args.disk.now) (seen (g.D.Disk.past c.args.disk.now)) f) (sym c.of_log.ensures)
    (why_log _ _ c.in-Ok.read.0 c.in-Ok.read.1 (c.in-Ok.ensures.newest tells) c.in-Ok.ensures.read.ends c.in-Err-read_log.fault
    (λ chunk page is. c.in-Err-read_log.ensures.place chunk page (ap (λ (f : LogOpenFault). let r : Result RingValue LogOpenFault = Err f in r) is)))

pub returns-in-Err-read_log-clause-whole : goal.returns-in-Err-read_log-clause-whole
returns-in-Err-read_log-clause-whole g c tells quiet k b a sound =
    let same = anchor_is _ _ c.in-Ok.read.0 a (c.in-Ok.ensures.newest tells) sound.left.stands.newest in
    let config = config_is _ c.in-Ok.read.0 k c.in-Ok.read.1 sound.left.config c.in-Ok.ensures.read.ends (ap (λ (x : Anchor). x.text) same ∙ sound.left.stands.checkpoint.text) in
    subst (λ (f : OpenFault). MayRefuse k f) (sym c.of_log.ensures)
    (whole_log _ k b a _ sound c.in-Err-read_log.fault
    (λ chunk page is. subst (λ (t : Config). in_log t chunk page ≡ true) config (c.in-Err-read_log.ensures.place chunk page (ap (λ (f : LogOpenFault). let r : Result RingValue LogOpenFault = Err f in r) is))))

pub returns-in-Err-read_log-clause-cause : goal.returns-in-Err-read_log-clause-cause
returns-in-Err-read_log-clause-cause g c =
    let before = anchor_kept _ _ _ c.in-Ok.ensures.cause in
    subst (λ (f : OpenFault). HasOpenCause {T = Installation} (g.D.Disk.fault_counts c.args.disk.now) (g.D.Disk.fault_counts c.read_log.new.disk) (Err f)) (sym c.of_log.ensures)
    (subst (λ (n : ℕ → ℕ). HasOpenCause {T = Installation} n (g.D.Disk.fault_counts c.read_log.new.disk) (Err (fault_of_log c.in-Err-read_log.fault))) before (log_cause _ _ _ c.in-Err-read_log.fault c.in-Err-read_log.ensures.cause))

pub returns-in-Ok-read_pages-clause-stored : goal.returns-in-Ok-read_pages-clause-stored
returns-in-Ok-read_pages-clause-stored g c tells quiet k b a left =
    stored_of _ _ _ _ _ c.in-Ok.read.0 c.in-Ok.read.1 c.in-Ok.ensures.read.ends (c.in-Ok.ensures.newest tells) (c.read_anchor.ensures.past tells) (c.read_log.ensures.past tells) quiet c.in-Ok-read_log.ring c.in-Ok-read_pages.store
    c.in-Ok-read_log.ensures.opened c.in-Ok-read_pages.ensures.value (c.in-Ok-read_log.ensures.ready tells) (c.in-Ok-read_pages.ensures.stored tells) (c.read_pages.ensures.frame tells) k b a left

pub returns-in-Ok-read_pages-clause-stops : goal.returns-in-Ok-read_pages-clause-stops
returns-in-Ok-read_pages-clause-stops g c tells quiet k b a last is stands =
    stops_of _ _ _ _ _ c.in-Ok.read.0 c.in-Ok.read.1 c.in-Ok.ensures.read.ends (c.in-Ok.ensures.newest tells) (c.read_anchor.ensures.past tells) (c.read_log.ensures.past tells) quiet
    (c.read_pages.ensures.frame tells) (c.read_pages.ensures.stops tells) k b a last is stands

pub returns-in-Ok-read_pages-clause-cause : goal.returns-in-Ok-read_pages-clause-cause
returns-in-Ok-read_pages-clause-cause g c =
    same_cause _ _ _ (pages_kept _ _ _ _ c.in-Ok-read_pages.ensures.cause ∙ log_kept _ _ _ _ c.in-Ok-read_log.ensures.cause ∙ anchor_kept _ _ _ c.in-Ok.ensures.cause)

pub returns-in-Err-read_pages-clause-stops : goal.returns-in-Err-read_pages-clause-stops
returns-in-Err-read_pages-clause-stops g c tells quiet k b a last is stands =
    stops_of _ _ _ _ _ c.in-Ok.read.0 c.in-Ok.read.1 c.in-Ok.ensures.read.ends (c.in-Ok.ensures.newest tells) (c.read_anchor.ensures.past tells) (c.read_log.ensures.past tells) quiet
    (c.read_pages.ensures.frame tells) (c.read_pages.ensures.stops tells) k b a last is stands

pub returns-in-Err-read_pages-clause-why : goal.returns-in-Err-read_pages-clause-why
returns-in-Err-read_pages-clause-why g c tells =
    let same = c.read_log.ensures.past tells ∙ c.read_anchor.ensures.past tells in
    subst (λ (f : OpenFault). IsRefusedFor (g.D.Disk.sizes c.args.disk.now) (seen (g.D.Disk.past c.args.disk.now)) f) (sym c.of_pages.ensures)
    (why_pages _ _ c.in-Ok.read.0 c.in-Ok.read.1 (c.in-Ok.ensures.newest tells) c.in-Ok.ensures.read.ends c.in-Err-read_pages.fault
    (λ chunk page is. subst (λ (p : Past). IsBad c.in-Ok.read.1 c.in-Ok.read.0.generation (seen p) chunk page) same
    (c.in-Err-read_pages.ensures.bad tells chunk page (ap (λ (f : PageOpenFault). let r : Result Store PageOpenFault = Err f in r) is))))

pub returns-in-Err-read_pages-clause-whole : goal.returns-in-Err-read_pages-clause-whole
returns-in-Err-read_pages-clause-whole g c tells quiet k b a sound =
    let past = c.read_log.ensures.past tells ∙ c.read_anchor.ensures.past tells in
    let same = anchor_is _ _ c.in-Ok.read.0 a (c.in-Ok.ensures.newest tells) sound.left.stands.newest in
    let config = config_is _ c.in-Ok.read.0 k c.in-Ok.read.1 sound.left.config c.in-Ok.ensures.read.ends (ap (λ (x : Anchor). x.text) same ∙ sound.left.stands.checkpoint.text) in
    subst (λ (f : OpenFault). MayRefuse k f) (sym c.of_pages.ensures)
    (whole_pages _ k b a _ sound c.in-Err-read_pages.fault
    (λ chunk page is.
    subst (λ (x : Anchor). IsBad k x.generation (seen (g.D.Disk.past c.args.disk.now)) chunk page) same
    (subst (λ (t : Config). IsBad t c.in-Ok.read.0.generation (seen (g.D.Disk.past c.args.disk.now)) chunk page) config
    (subst (λ (p : Past). IsBad c.in-Ok.read.1 c.in-Ok.read.0.generation (seen p) chunk page) past
    (c.in-Err-read_pages.ensures.bad tells chunk page (ap (λ (f : PageOpenFault). let r : Result Store PageOpenFault = Err f in r) is))))))

pub returns-in-Err-read_pages-clause-unwritten : goal.returns-in-Err-read_pages-clause-unwritten
returns-in-Err-read_pages-clause-unwritten g c tells none =
    c.in-Err-read_pages.ensures.unwritten tells (λ is. none (failed_is c.in-Err-read_pages.fault c.of_pages.result c.of_pages.ensures is)) ∙ c.read_log.ensures.past tells ∙ c.read_anchor.ensures.past tells

pub returns-in-Err-read_pages-clause-cause : goal.returns-in-Err-read_pages-clause-cause
returns-in-Err-read_pages-clause-cause g c =
    let before = log_kept _ _ _ _ c.in-Ok-read_log.ensures.cause ∙ anchor_kept _ _ _ c.in-Ok.ensures.cause in
    subst (λ (f : OpenFault). HasOpenCause {T = Installation} (g.D.Disk.fault_counts c.args.disk.now) (g.D.Disk.fault_counts c.read_pages.new.disk) (Err f)) (sym c.of_pages.ensures)
    (subst (λ (n : ℕ → ℕ). HasOpenCause {T = Installation} n (g.D.Disk.fault_counts c.read_pages.new.disk) (Err (fault_of_pages c.in-Err-read_pages.fault))) before (pages_cause _ _ _ c.in-Err-read_pages.fault c.in-Err-read_pages.ensures.cause))

pub returns-in-Err-clause-frame : goal.returns-in-Err-clause-frame
returns-in-Err-clause-frame g c tells k a is newest text = frame_unwritten _ _ (is_in k Data) (c.read_anchor.ensures.past tells)

pub returns-then-anchor-eq0-clause-frame : goal.returns-then-anchor-eq0-clause-frame
returns-then-anchor-eq0-clause-frame g c tells k a is newest text = frame_unwritten _ _ (is_in k Data) (c.read_anchor.ensures.past tells)

pub returns-in-Err-read_log-clause-frame : goal.returns-in-Err-read_log-clause-frame
returns-in-Err-read_log-clause-frame g c tells k a is newest text = frame_unwritten _ _ (is_in k Data) (c.read_log.ensures.past tells ∙ c.read_anchor.ensures.past tells)

pub returns-in-Ok-read_pages-clause-frame : goal.returns-in-Ok-read_pages-clause-frame
returns-in-Ok-read_pages-clause-frame g c tells k a is newest text =
    frame_of _ _ _ _ c.in-Ok.read.0 c.in-Ok.read.1 c.in-Ok.ensures.read.ends (c.in-Ok.ensures.newest tells) (c.read_log.ensures.past tells ∙ c.read_anchor.ensures.past tells) (c.read_pages.ensures.frame tells) k a is newest text

pub returns-in-Err-read_pages-clause-frame : goal.returns-in-Err-read_pages-clause-frame
returns-in-Err-read_pages-clause-frame g c tells k a is newest text =
    frame_of _ _ _ _ c.in-Ok.read.0 c.in-Ok.read.1 c.in-Ok.ensures.read.ends (c.in-Ok.ensures.newest tells) (c.read_log.ensures.past tells ∙ c.read_anchor.ensures.past tells) (c.read_pages.ensures.frame tells) k a is newest text
