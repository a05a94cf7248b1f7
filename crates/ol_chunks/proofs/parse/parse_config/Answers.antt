use Rattle.std.proofs.Common.{◌≡◌, Err, None, Some, ap, false, if◌then◌else◌, subst, sym, take, true, ◌∙◌, ℕ, List}
use Rattle.ol_chunks.specs.Drafts.{reading_in}
use Rattle.ol_chunks.specs.Reading.{Reading, after_line, config_in_text, may_end, nothing_read}
use Rattle.ol_chunks.proofs.TextLaws.{IsLeft, front_is, left_bad, left_ends, left_first, left_more}
use Rattle.ol_chunks.proofs.parse.parse_config.Goals as goal

pub loop-line-init : goal.loop-line-init
loop-line-init c =
    let text = c.args.bytes.now in
    let P : Reading → Type 0 = λ r. IsLeft text 1 r (take c.min.result text) in
    let Q : List ℕ → Type 0 = λ l. IsLeft text 1 nothing_read l in
    subst P (sym c.new-draft.ensures) (subst Q (sym (front_is text c.min.result c.min.ensures)) (left_first text))

pub returns-then-not-read_line-clause-bad : goal.returns-then-not-read_line-clause-bad
returns-then-not-read_line-clause-bad c = λ n e.
    let l = c.loop-line in
    let bad : after_line (reading_in l.draft) c.in-Some.line.now ≡ None = c.read_line.ensures ∙ ap (λ u. if u then Some (reading_in c.read_line.new.self) else None) c.if-not-read_line.true in
    let f : config_in_text c.args.bytes.now ≡ Err l.number =
    left_bad c.args.bytes.now l.number (reading_in l.draft) l.rest.now c.in-Some.line.now c.in-Some.behind.now l.invariant c.in-Some.ensures.some bad in
    cc

pub loop-line-preserved : goal.loop-line-preserved
loop-line-preserved c =
    let l = c.loop-line in
    let good : after_line (reading_in l.draft) c.in-Some.line.now ≡ Some (reading_in c.read_line.new.self) = c.read_line.ensures ∙ ap (λ u. if u then Some (reading_in c.read_line.new.self) else None) c.if-not-read_line.false in
    left_more c.args.bytes.now l.number (reading_in l.draft) (reading_in c.read_line.new.self) l.rest.now c.in-Some.line.now c.in-Some.behind.now l.invariant c.in-Some.ensures.some
    c.in-Some.ensures.shorter good

pub new-requires-2-clause-text : goal.new-requires-2-clause-text
new-requires-2-clause-text c =
    let l = c.loop-line in
    let ends : may_end false l.draft.due l.rest.now ≡ true = sym c.may_end.ensures ∙ c.if-not-may_end.false in
    c.in-Some-new.ensures.1 ∙ (left_ends c.args.bytes.now l.number (reading_in l.draft) l.rest.now l.invariant c.in_default.ensures.none c.in-Some-new.ensures.0 ends).text_is
