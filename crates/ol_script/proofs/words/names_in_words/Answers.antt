use Rattle.std.proofs.Common.{sym, ◌∙◌}
use Rattle.ol_words.specs.Words.{pieces_behind}
use Rattle.ol_script.proofs.NameLaws.{all_read, name_read, no_name, none_read, too_many, twice}
use Rattle.ol_script.proofs.words.names_in_words.Goals as goal
use Rattle.ol_script.proofs.words.names_in_words.Goals.{then-as_slice-eq-NAMES_LIMIT-via-then-as_slice-eq-NAMES_LIMIT, then-as_slice-eq-NAMES_LIMIT-via-else-as_slice-eq-NAMES_LIMIT+then-contains}

pub returns-then-as_slice-eq-NAMES_LIMIT : goal.returns-then-as_slice-eq-NAMES_LIMIT
returns-then-as_slice-eq-NAMES_LIMIT c =
    let l = c.loop-word in
    elim c.then-as_slice-eq-NAMES_LIMIT.branch [
      | then-as_slice-eq-NAMES_LIMIT-via-then-as_slice-eq-NAMES_LIMIT w ↦
          too_many _ l.names (pieces_behind 32 l.rest) c.in-Some.word.now (pieces_behind 32 c.in-Some.behind) l.invariant.read c.in-Some.ensures.pieces (rw c.as_slice.ensures.value at w.if-as_slice-eq-NAMES_LIMIT.true)
      | then-as_slice-eq-NAMES_LIMIT-via-else-as_slice-eq-NAMES_LIMIT+then-contains w ↦
          twice _ l.names (pieces_behind 32 l.rest) c.in-Some.word.now (pieces_behind 32 c.in-Some.behind) l.invariant.read c.in-Some.ensures.pieces (rw w.as_slice-else-as_slice-eq-NAMES_LIMIT.ensures.value at (sym w.contains.ensures ∙ w.if-contains.true))
    ]

pub returns-in_err-name_of : goal.returns-in_err-name_of
returns-in_err-name_of c =
    let l = c.loop-word in
    rw c.from_residual.ensures
    (no_name _ l.names (pieces_behind 32 l.rest) c.in-Some.word.now (pieces_behind 32 c.in-Some.behind) l.invariant.read c.in-Some.ensures.pieces c.in_err-name_of.ensures)

pub loop-word-preserved : goal.loop-word-preserved
loop-word-preserved c =
    let l = c.loop-word in
    record {
      read =
          rw c.push.ensures
          (name_read _ l.names (pieces_behind 32 l.rest) c.in-Some.word.now c.in_ok-name_of.field-0 (pieces_behind 32 c.in-Some.behind) l.invariant.read c.in-Some.ensures.pieces
          (rw c.as_slice-else-as_slice-eq-NAMES_LIMIT.ensures.value at (sym c.contains.ensures ∙ c.if-contains.false)) c.in_ok-name_of.ensures);
    }

pub returns-then-is_empty : goal.returns-then-is_empty
returns-then-is_empty c =
    let l = c.loop-word in
    none_read _ l.names (pieces_behind 32 l.rest) l.invariant.read c.in_default.ensures.pieces (rw c.as_slice-2.ensures.value at (sym c.is_empty.ensures ∙ c.if-is_empty.true))

pub returns-else-is_empty : goal.returns-else-is_empty
returns-else-is_empty c =
    let l = c.loop-word in
    all_read _ l.names (pieces_behind 32 l.rest) l.invariant.read c.in_default.ensures.pieces (rw c.as_slice-2.ensures.value at (sym c.is_empty.ensures ∙ c.if-is_empty.false)) c.as_slice-2.ensures.limit
