use Rattle.std.proofs.Common.{ap, arith, sym, ◌-◌, ◌≡◌, ◌∙◌}
use Rattle.ol_rollfwd.specs.Losers.{loser_numbered, losers_after, owed_by_one, owed_of}
use Rattle.ol_rollfwd.proofs.LoserLaws.{owed_change, owed_end, owed_undo}
use Rattle.std.specs.Prelude.{min}
use Rattle.ol_rollfwd.proofs.losers.Losers.owed_after.Goals as goal

pub returns-in-Change-clause-value : goal.returns-in-Change-clause-value
returns-in-Change-clause-value c =
    let owed : c.self.inside.owed ≡ owed_of c.args.self.now = c.self.invariant ∙ ap owed_of c.self.view_is in
    let one : c.min.result ≡ min (owed_by_one (loser_numbered c.in-Change.txn c.args.self.now)) 1 = c.min.ensures ∙ ap (λ n. min n 1) c.owed_by.ensures.value in
    omega (arith, owed, one, owed_change c.in-Change.txn c.in-Change.rid c.in-Change.before c.args.self.now) ∙ ap (λ r. owed_of (losers_after c.args.self.now r)) (sym c.in-Change.is)

pub returns-in-Undo-clause-value : goal.returns-in-Undo-clause-value
returns-in-Undo-clause-value c =
    let owed : c.self.inside.owed ≡ owed_of c.args.self.now = c.self.invariant ∙ ap owed_of c.self.view_is in
    let less : c.saturating_sub.result ≡ owed_by_one (loser_numbered c.in-Undo.txn c.args.self.now) - 1 = c.saturating_sub.ensures ∙ ap (λ n. n - 1) c.owed_by-in-Undo.ensures.value in
    let one : c.min-in-Undo.result ≡ min (owed_by_one (loser_numbered c.in-Undo.txn c.args.self.now) - 1) 1 = c.min-in-Undo.ensures ∙ ap (λ n. min n 1) less in
    omega (arith, owed, one, owed_undo c.in-Undo.txn c.args.self.now) ∙ ap (λ r. owed_of (losers_after c.args.self.now r)) (sym c.in-Undo.is)

pub returns-in-Commit-clause-value : goal.returns-in-Commit-clause-value
returns-in-Commit-clause-value c =
    let owed : c.self.inside.owed ≡ owed_of c.args.self.now = c.self.invariant ∙ ap owed_of c.self.view_is in
    omega (arith, owed, c.owed_by-in-Commit.ensures.value, owed_end c.in-Commit.txn c.args.self.now) ∙ ap (λ r. owed_of (losers_after c.args.self.now r)) (sym c.in-Commit.is)

pub returns-in-Rolled-clause-value : goal.returns-in-Rolled-clause-value
returns-in-Rolled-clause-value c =
    let owed : c.self.inside.owed ≡ owed_of c.args.self.now = c.self.invariant ∙ ap owed_of c.self.view_is in
    omega (arith, owed, c.owed_by-in-Rolled.ensures.value, owed_end c.in-Rolled.txn c.args.self.now) ∙ ap (λ r. owed_of (losers_after c.args.self.now r)) (sym c.in-Rolled.is)
