use Rattle.std.proofs.Common.{ap, arith, sym, ℕ, ◌≡◌, ◌∙◌}
use Rattle.ol_rules.specs.Locks.{holding_of, in_way}
use Rattle.ol_txn.specs.Seats.{table_of}
use Rattle.ol_txn.proofs.SeatLaws.{is_met, least_first, least_found, least_from, least_none, least_passed, met_other, met_same}
use Rattle.ol_txn.proofs.locks.Locks.holder.Goals as goal
use Rattle.ol_txn.proofs.locks.Locks.holder.Goals.{else-other-session-via-else-other-session, else-other-session-via-then-other-session+else-is_in_way}

pub loop-other-init : goal.loop-other-init
loop-other-init c = least_first (λ j. in_way c.args.own c.args.rid (holding_of (table_of c.args.self.now) j)) c.args.session

pub returns-then-is_in_way : goal.returns-then-is_in_way
returns-then-is_in_way c =
    let met = met_other c.args.self.now c.args.session c.args.rid c.args.own c.loop-other.other _ _ c.if-other-session.true c.seat.ensures.value c.is_in_way.ensures ∙ c.if-is_in_way.true in
    sym (c.loop-other.invariant ∙ least_found (is_met c.args.self.now c.args.session c.args.rid c.args.own) c.loop-other.other (omega arith) met)

pub loop-other-preserved : goal.loop-other-preserved
loop-other-preserved c =
    c.loop-other.invariant ∙ elim c.else-other-session.branch [
      | else-other-session-via-then-other-session+else-is_in_way w ↦
          (let met = met_other c.args.self.now c.args.session c.args.rid c.args.own c.loop-other.other _ _ w.if-other-session.true w.seat.ensures.value w.is_in_way.ensures ∙ w.if-is_in_way.false in
          least_passed (is_met c.args.self.now c.args.session c.args.rid c.args.own) c.loop-other.other (omega arith) met)
      | else-other-session-via-else-other-session w ↦
          least_passed (is_met c.args.self.now c.args.session c.args.rid c.args.own) c.loop-other.other (omega arith) (met_same _ _ _ _ _ w.if-other-session.false)
    ]

pub returns : goal.returns
returns c =
    let test = is_met c.args.self.now c.args.session c.args.rid c.args.own in
    let last : c.loop-other.other ≡ 17 = omega arith in
    sym (c.loop-other.invariant ∙ ap (λ (j : ℕ). least_from test j) last ∙ least_none test)
