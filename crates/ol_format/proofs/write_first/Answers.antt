use Rattle.ol_format.proofs.Formatting.{failed_from, formatted_from, ready_from, settled_from, stops_first, stops_formatted}
use Rattle.ol_format.proofs.Spaces.{spaces_of_pair}
use Rattle.ol_format.proofs.write_first.Goals as goal

pub returns-in-Ok-clause-ok : goal.returns-in-Ok-clause-ok
returns-in-Ok-clause-ok g c tells config first zeroed =
    formatted_from _ _ config first.0 zeroed (ready_from _ _ config c.args.anchor.now first zeroed (c.in-Ok.ensures.place tells)) (c.in-Ok.ensures.frame tells).behind

pub returns-in-Ok-clause-ready : goal.returns-in-Ok-clause-ready
returns-in-Ok-clause-ready g c tells config first zeroed = ready_from _ _ config c.args.anchor.now first zeroed (c.in-Ok.ensures.place tells)

pub returns-in-Ok-clause-settled : goal.returns-in-Ok-clause-settled
returns-in-Ok-clause-settled g c tells config first zeroed =
    settled_from _ _ config zeroed (ready_from _ _ config c.args.anchor.now first zeroed (c.in-Ok.ensures.place tells)).settled (c.in-Ok.ensures.frame tells).behind

pub returns-in-Ok-clause-stops : goal.returns-in-Ok-clause-stops
returns-in-Ok-clause-stops g c tells config first zeroed =
    stops_formatted _ _ config first.0 zeroed (stops_first _ _ config c.args.anchor.now first zeroed (c.in-Ok.ensures.stops tells)) (c.in-Ok.ensures.frame tells)

pub returns-in-Err-clause-stops : goal.returns-in-Err-clause-stops
returns-in-Err-clause-stops g c tells config first zeroed =
    stops_formatted _ _ config first.0 zeroed (stops_first _ _ config c.args.anchor.now first zeroed (c.in-Err.ensures.stops tells)) (c.in-Err.ensures.frame tells)

pub returns-in-Ok-clause-frame : goal.returns-in-Ok-clause-frame
returns-in-Ok-clause-frame g c tells config is = spaces_of_pair _ _ config is (c.in-Ok.ensures.frame tells)

pub returns-in-Err-clause-frame : goal.returns-in-Err-clause-frame
returns-in-Err-clause-frame g c tells config is = spaces_of_pair _ _ config is (c.in-Err.ensures.frame tells)

pub returns-in-Err-clause-cause : goal.returns-in-Err-clause-cause
returns-in-Err-clause-cause g c = failed_from _ _ 0 c.in-Err.field-0 c.in-Err.ensures.cause
