use Rattle.std.proofs.Common.{◌∙◌, Some, ap, inl, inr, subst, sym}
use Rattle.ol_object_spans.specs.declared.block.ReadBlock.{ReadBlock}
use Rattle.ol_object_spans.specs.declared.state.ScanState.{ScanState}
use Rattle.ol_object_spans.specs.Objects.{place_told}
use Rattle.ol_object_spans.specs.Passing.{HasPassed, begun}
use Rattle.ol_object_spans.specs.Spans.{span_of}
use Rattle.ol_object_spans.proofs.ScanLaws.{scan_begun, scan_on}
use Rattle.ol_object_spans.proofs.state.ScanState.go_on.Goals as goal

pub returns-then-block-eq0 : goal.returns-then-block-eq0
returns-then-block-eq0 c = λ l p b own item place told none is.
    let old : ScanState = c.args.self.now in
    let has = subst (λ q. HasPassed old.count q (Some c.args.block) old.headers c.pass.new.self) place (c.in_ok-pass.ensures) in
    let passed = subst (λ (x : ReadBlock). HasPassed old.count (place_told p) (Some x) old.headers c.pass.new.self) told has in
    scan_begun l p b old c.pass.new.self c.begin.new.self (record { own = own; item = item; scanned = is })
    (sym (ap (λ (x : ReadBlock). span_of x.head old.count) told) ∙ none)
    (sym (ap (λ (x : ReadBlock). x.head.kind) told) ∙ c.if-block-eq-HEADER.true)
    (sym (ap (λ (x : ReadBlock). x.head.index) told) ∙ c.if-block-eq0.true)
    passed
    c.begin.ensures.stopped
    (c.begin.ensures.live ∙ ap (begun old.count) told)

pub returns-else-block-eq-HEADER : goal.returns-else-block-eq-HEADER
returns-else-block-eq-HEADER c = λ l p b own item place told none is.
    let old : ScanState = c.args.self.now in
    let has = subst (λ q. HasPassed old.count q (Some c.args.block) old.headers c.pass.new.self) place (c.in_ok-pass.ensures) in
    let passed = subst (λ (x : ReadBlock). HasPassed old.count (place_told p) (Some x) old.headers c.pass.new.self) told has in
    scan_on l p b old c.pass.new.self (record { own = own; item = item; scanned = is })
    (sym (ap (λ (x : ReadBlock). span_of x.head old.count) told) ∙ none)
    (λ kind index. elim c.else-block-eq-HEADER.either as (λ _. ⊥) [
      | inl one ↦ one.1 (ap (λ (x : ReadBlock). x.head.index) told ∙ index)
      | inr other ↦ other (ap (λ (x : ReadBlock). x.head.kind) told ∙ kind)
    ])
    passed
